-- the words so far are decoded
use Rattle.std.proofs.Common.{take}
use Rattle.elf_loader.specs.inner.Code.{AreDecoded}
use Rattle.elf_loader.proofs.loading.all_decoded.Given as goal

abbrev pub invariant-loop-word : goal.invariant-loop-word
invariant-loop-word l = AreDecoded (take l.word-index l.words) l.decoded.items
