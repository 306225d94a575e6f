-- Draws, programs and files of generated images (docs/formats.md, "Generated images"). The numbers were computed by a
-- few lines of Python from that page.
use Rattle.std.proofs.Common.{◌≡◌, List, [], ◌∷◌, refl}
use Rattle.std.specs.Prelude.{ℕ, map, take, drop, length}
use Rattle.rv_decode.specs.Forms.{word_of}
use Rattle.gen_image.specs.Generated.{seed_state, next, draw_answer, ending, generated_image}
use Rattle.worked_inputs.proofs.Files.{bytes_of}

-- a seed counts modulo 2 ^ 31
seeds : map seed_state (0 ∷ 1 ∷ 2147483647 ∷ 2147483648 ∷ 2147483655 ∷ 18446744073709551615 ∷ []) ≡ 0 ∷ 1 ∷ 2147483647 ∷ 0 ∷ 7 ∷ 2147483647 ∷ []
seeds = refl

-- the states behind 0, and behind 1 and the largest; what is drawn there
states : map next (0 ∷ 12345 ∷ 1406932606 ∷ 654583775 ∷ 1 ∷ 1103527590 ∷ 2147483647 ∷ [])
    ≡ 12345 ∷ 1406932606 ∷ 654583775 ∷ 1449466924 ∷ 1103527590 ∷ 377401575 ∷ 1043980748 ∷ []
states = refl

draws : map draw_answer (1103527590 ∷ 377401575 ∷ 662824084 ∷ 65535 ∷ 65536 ∷ 2147483647 ∷ []) ≡ 16838 ∷ 5758 ∷ 10113 ∷ 0 ∷ 1 ∷ 32767 ∷ []
draws = refl

-- The file of seed 6 and eight blocks, which have all six forms. The headers come first: magic, class, data encoding
-- and versions; type and machine; the entry; the place, the size and the number of the program headers.
each_form : generated_image 6 8 ≡ bytes_of (
    0x464c457f ∷ 0x00010101 ∷ 0x00000000 ∷ 0x00000000 ∷ 0x00f30002 ∷ 0x00000001 ∷ 0x00010000 ∷ 0x00000034 ∷
    0x00000000 ∷ 0x00000000 ∷ 0x00200034 ∷ 0x00000001 ∷ 0x00000000 ∷ 0x00000001 ∷ 0x00000054 ∷ 0x00010000 ∷
    0x00010000 ∷ 0x0000005c ∷ 0x0000005c ∷ 0x00000005 ∷ 0x00000004 ∷ 0xc0010413 ∷ 0x00400493 ∷ 0x2ac42383 ∷
    0x007282b3 ∷ 0x02734333 ∷ 0x12430313 ∷ 0x20642823 ∷ 0x21042283 ∷ 0x0273c3b3 ∷ 0x05038393 ∷ 0x08042283 ∷
    0x00530333 ∷ 0x2c038313 ∷ 0x0063c3b3 ∷ 0x0052c463 ∷ 0x00128293 ∷ 0x025282b3 ∷ 0x00128293 ∷ 0xfff48493 ∷
    0x00048463 ∷ 0xfb9ff06f ∷ 0x05d00893 ∷ 0x00000073 ∷
    [])
unfolding generated_image
each_form = refl

-- of the largest seed and 64 blocks: the size of the file, its first words behind the headers, and its last ones
large : List ℕ
unfolding generated_image
large = generated_image 18446744073709551615 64

size_of_large : length large ≡ 624
unfolding large generated_image
size_of_large = refl

sizes_in_large : take 8 (drop 68 large) ≡ bytes_of (0x0000021c ∷ 0x0000021c ∷ [])
unfolding large generated_image
sizes_in_large = refl

first_of_large : take 40 (drop 84 large) ≡ bytes_of (
    0xc0010413 ∷ 0x00400493 ∷ 0x00534463 ∷ 0x00130313 ∷ 0x10742423 ∷ 0x10842383 ∷ 0x0263c3b3 ∷ 0x2f838393 ∷
    0x02630333 ∷ 0x00130313 ∷
    [])
unfolding large generated_image
first_of_large = refl

last_of_large : drop 588 large ≡ bytes_of (
    0x00734463 ∷ 0x00130313 ∷ 0x02730333 ∷ 0x00138393 ∷ 0xfff48493 ∷ 0x00048463 ∷ 0xdf9ff06f ∷ 0x05d00893 ∷
    0x00000073 ∷
    [])
unfolding large generated_image
last_of_large = refl

-- the way back over the most blocks, 32,776 bytes
end_of_the_largest : map word_of (ending 4096) ≡ 0xfff48493 ∷ 0x00048463 ∷ 0xff9f706f ∷ 0x05d00893 ∷ 0x00000073 ∷ []
end_of_the_largest = refl
