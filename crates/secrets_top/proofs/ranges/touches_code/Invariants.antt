-- The range touches code where one of the bytes that are left is code.
use Rattle.std.proofs.Common.{◌≡◌, ◌+◌, ◌-◌}
use Rattle.std.specs.List.{list_any}
use Rattle.rv_types.specs.Memory.{range}
use Rattle.elf_loader.specs.inner.Code.{word_at}
use Rattle.secrets_top.specs.Ranges.{in_code, touches_code}
use Rattle.secrets_top.proofs.ranges.touches_code.Given as goal

abbrev pub invariant-loop-place : goal.invariant-loop-place
invariant-loop-place l = list_any (in_code (word_at l.code)) (range (l.range.addr + l.place) (l.range.bytes - l.place)) ≡ touches_code (word_at l.code) l.range
