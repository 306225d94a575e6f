-- Beside Digits.antt: what only clauses of the code and lemmas cite.
use Rattle.std.specs.Prelude.{ℕ, ◌+◌, ◌/◌, ◌%◌, List, [], ◌∷◌, ◌++◌}

-- the two decimal digits of a number below 100
abbrev pub decimal2 : ℕ → List ℕ
decimal2 n = (48 + n / 10) ∷ (48 + n % 10) ∷ []

-- the four decimal digits of a number below 10,000
abbrev pub decimal4 : ℕ → List ℕ
decimal4 n = decimal2 (n / 100) ++ decimal2 (n % 100)
