-- Beside Memory.antt: what only clauses of the code and lemmas cite.
use Rattle.std.specs.Prelude.{◌≡◌, ℕ, length}
use Rattle.std.proofs.lemmas.List.{length-replicate}
use Rattle.rv_types.specs.Memory.{zeros}

-- there are as many zeros as are asked for
pub length_zeros : (n : ℕ) → length (zeros n) ≡ n
unfolding zeros
length_zeros n = length-replicate n 0
