use Rattle.elf_loader.proofs.Loads.{loads_from}
use Rattle.elf_loader.proofs.Marked.{Marked}
use Rattle.elf_loader.proofs.loading.place_all_words.Given as goal

-- the words of the segments of the program headers from i on are noted
abbrev pub invariant-loop-number : goal.invariant-loop-number
invariant-loop-number l = Marked (loads_from l.segments l.number) l.ram l.words.items l.left
