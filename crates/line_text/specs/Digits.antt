-- Numbers written in digits, decimal and hexadecimal.
use Rattle.std.specs.Prelude.{ℕ, ◌/◌, ◌%◌, ◌^◌, List, [], ◌∷◌, ◌++◌, codes, slice_index}

-- the digit of a number below 16
abbrev pub hex_digit : ℕ → ℕ
hex_digit d = slice_index (codes "0123456789abcdef") d

-- the two digits of a byte, the high one first
abbrev pub hex2 : ℕ → List ℕ
hex2 b = hex_digit (b / 16) ∷ hex_digit (b % 16) ∷ []

-- the eight digits of a word: those of its four bytes, the highest first
abbrev pub hex8 : ℕ → List ℕ
hex8 w = hex2 (w / 2 ^ 24) ++ hex2 (w / 2 ^ 16 % 2 ^ 8) ++ hex2 (w / 2 ^ 8 % 2 ^ 8) ++ hex2 (w % 2 ^ 8)
