-- Addresses written over the first of 16 places that are 0.
use Rattle.std.proofs.Common.{◌≡◌, ℕ, ◌+◌, ◌-◌, ◌≤◌, List, ◌++◌, length, take, drop, ap, sym, ◌∙◌, arith}
use Rattle.std.specs.Prelude.{replicate}
use Rattle.std.proofs.Math.Seq.{take-append-add}
use Rattle.std.proofs.lemmas.List.{take-replicate, drop-replicate}

by_size : (addresses : List ℕ) (n : ℕ) → length addresses ≤ n → take n (addresses ++ replicate n 0) ≡ addresses ++ drop (length addresses) (replicate n 0)
by_size addresses n few =
    let left = n - length addresses in
    let sum : n ≡ length addresses + left = omega (arith, few) in
    let less : left ≤ n = omega arith in
    ap (λ m. take m (addresses ++ replicate n 0)) sum
    ∙ take-append-add addresses (replicate n 0) left
    ∙ ap (λ zeros. addresses ++ zeros) (take-replicate left n 0 less ∙ sym (drop-replicate (length addresses) n 0))

pub placed : (addresses : List ℕ) → length addresses ≤ 16 → addresses ++ drop (length addresses) (replicate 16 0) ≡ take 16 (addresses ++ replicate 16 0)
placed addresses few = sym (by_size addresses 16 few)
