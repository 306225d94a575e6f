-- Instructions that have a word.
use Rattle.std.specs.Prelude.{◌≡◌, ◌<◌, ◌^◌}
use Rattle.rv_types.specs.Decode.{decode}
use Rattle.rv_types.specs.declared.Instr.{Instr}
use Rattle.rv_decode.specs.Forms.{word_of}

-- the word of its fields is one of 32 bits and decodes to it
pub record HasWord (i : Instr) : Type 0 where
  pub decodes : decode (word_of i) ≡ i
  pub small : word_of i < 2 ^ 32
