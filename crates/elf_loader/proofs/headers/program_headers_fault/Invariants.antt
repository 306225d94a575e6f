use Rattle.std.proofs.Common.{◌≡◌, map, ◌-◌}
use Rattle.std.specs.List.{range_with_len}
use Rattle.elf_loader.specs.Faults.{first_some, program_header_fault}
use Rattle.elf_loader.proofs.headers.program_headers_fault.Given as goal

-- the first fault of the program headers that are left is that of all
abbrev pub invariant-loop-i : goal.invariant-loop-i
invariant-loop-i l =
    first_some (map (program_header_fault l.file) (range_with_len l.i (l.count - l.i))) ≡ first_some (map (program_header_fault l.file) (range_with_len 0 l.count))
