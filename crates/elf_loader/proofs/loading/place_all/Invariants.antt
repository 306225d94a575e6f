use Rattle.elf_loader.proofs.Loads.{loads_from}
use Rattle.elf_loader.proofs.Placed.{Placed}
use Rattle.elf_loader.proofs.loading.place_all.Given as goal

-- the segments of the program headers from i on are placed
abbrev pub invariant-loop-i : goal.invariant-loop-i
invariant-loop-i l = Placed (loads_from l.segments l.i) l.fn.ram l.ram l.left
