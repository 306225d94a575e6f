use Rattle.std.proofs.Common.{◌≡◌, map, ◌-◌}
use Rattle.std.specs.Prelude.{option_and_then}
use Rattle.std.specs.List.{range_with_len}
use Rattle.elf_loader.specs.Fields.{count_of}
use Rattle.elf_loader.specs.Faults.{first_some}
use Rattle.elf_loader.specs.Image.{segment_at, outside, ram_fault}
use Rattle.elf_loader.proofs.loading.ram_fault.Given as goal

-- the first segment outside of those that are left is that of all
abbrev pub invariant-loop-i : goal.invariant-loop-i
invariant-loop-i l =
    first_some (map (λ i. option_and_then (outside l.ram i) (segment_at l.segments i)) (range_with_len l.i (count_of l.segments - l.i))) ≡ ram_fault l.segments l.ram
