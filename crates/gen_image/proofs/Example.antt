-- The smallest image that is generated, computed.
use Rattle.std.proofs.Common.{◌≡◌, [], ◌∷◌, refl}
use Rattle.std.specs.Prelude.{map}
use Rattle.rv_decode.specs.Forms.{word_of}
use Rattle.gen_image.specs.Generated.{program}

-- one block of seed 1: a store and a load of what it stored, or another form, by the table
pub one_block : map word_of (program 1 1) ≡ 0xc0010413 ∷ 0x00400493 ∷ 0x1f842283 ∷ 0x00530333 ∷ 0xfff48493 ∷ 0x00048463 ∷ 0xff1ff06f ∷ 0x05d00893 ∷ 0x00000073 ∷ []
one_block = refl
