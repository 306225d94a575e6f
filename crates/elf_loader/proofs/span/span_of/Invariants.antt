-- the segments so far lie in the span
use Rattle.std.proofs.Common.{ℕ, ◌<◌, ◌+◌, length, IfSome}
use Rattle.elf_loader.specs.Image.{segment_at}
use Rattle.elf_loader.specs.inner.Spans.{InRows, LiesBetween}
use Rattle.elf_loader.proofs.span.span_of.Given as goal

abbrev pub invariant-loop-i : goal.invariant-loop-i
invariant-loop-i l =
    InRows (length l.ram.bytes) l.span.from l.span.to × ((j : ℕ) → j < l.i → IfSome (segment_at l.segments j) (LiesBetween (l.ram.base + l.span.from) (l.ram.base + l.span.to)))
