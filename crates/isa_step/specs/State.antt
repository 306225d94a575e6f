-- The state of the instruction set's machine, beside the words that it may fetch.
use Rattle.rv_types.specs.Isa.{Hart}
use Rattle.elf_loader.specs.inner.Code.{CodeText}

-- the words that may be fetched, beside the state that the instruction set's steps change
pub record IsaState : Type 0 where
  pub code : CodeText
  pub hart : Hart
