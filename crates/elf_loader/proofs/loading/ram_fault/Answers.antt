use Rattle.std.proofs.Common.{sym, arith, ◌<◌}
use Rattle.std.specs.Prelude.{option_and_then}
use Rattle.elf_loader.specs.Fields.{count_of}
use Rattle.elf_loader.specs.Image.{segment_at, outside}
use Rattle.elf_loader.proofs.Searching.{first_skip, first_found}
use Rattle.elf_loader.proofs.loading.ram_fault.Goals as goal

pub returns-in-Some : goal.returns-in-Some
returns-in-Some c =
    let file = c.args.segments.now in
    let below : c.loop-i.i < count_of file = omega (arith, c.loop-i-test.true, c.count-i-end.ensures.value) in
    sym (first_found (λ i. option_and_then (outside c.args.ram.now i) (segment_at file i)) _ _ _ c.in-Some.fault below (sym c.in-Some.ensures) c.loop-i.invariant)

pub loop-i-preserved : goal.loop-i-preserved
loop-i-preserved c =
    let file = c.args.segments.now in
    let below : c.loop-i.i < count_of file = omega (arith, c.loop-i-test.true, c.count-i-end.ensures.value) in
    first_skip (λ i. option_and_then (outside c.args.ram.now i) (segment_at file i)) _ _ _ below (sym c.in_default.ensures) c.loop-i.invariant
