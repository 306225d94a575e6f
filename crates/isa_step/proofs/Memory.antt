-- How large the number of some bytes can be.
use Rattle.std.proofs.Common.{◌≡◌, ◌<◌, ◌+◌, ◌-◌, ◌*◌, ◌^◌, ℕ, zero, suc, List, [], ◌∷◌, take, drop, Result, Ok, Err, Option, None, Some, refl, sym, subst, arith, lit<}
use Rattle.std.proofs.Math.Nat.{pow-suc}
use Rattle.std.specs.Prelude.{slice_index_or, IfOk}
use Rattle.rv_types.specs.Word.{from_le}
use Rattle.rv_types.specs.Value.{size_of, bytes_in}
use Rattle.rv_types.specs.Memory.{Ram, bytes_at}
use Rattle.rv_types.specs.declared.Op.{Op}
use Rattle.rv_types.specs.declared.Op.TheVariants.{Lh, Lw, Lhu, Sh, Sw}
use Rattle.rv_types.specs.declared.Cause.{Cause}
use Rattle.rv_types.specs.declared.Width.{Width}
use Rattle.byte_ram.specs.Access.{unless_fault, get_of}

above_zero : (n : ℕ) → 0 < 256 ^ n
above_zero zero = lit< tt
above_zero (suc n) = let h = above_zero n in let e = pow-suc 256 n in omega arith

below : (n : ℕ) (xs : List ℕ) → ((i : ℕ) → slice_index_or xs i 0 < 256) → from_le (take n xs) < 256 ^ n
below zero xs h = lit< tt
below (suc n) [] h = above_zero (suc n)
below (suc n) (x ∷ xs) h = let a = below n xs (λ i. h (suc i)) in let b : x < 256 = h 0 in let e = pow-suc 256 n in omega arith

-- the number of n bytes, from a place on
below_at : (n at : ℕ) (xs : List ℕ) → ((i : ℕ) → slice_index_or xs i 0 < 256) → from_le (take n (drop at xs)) < 256 ^ n
below_at n zero xs h = below n xs h
below_at n (suc at) [] h = below n [] h
below_at n (suc at) (x ∷ xs) h = below_at n at xs (λ i. h (suc i))

power : (op : Op) → 256 ^ size_of op ≡ 2 ^ (8 * size_of op)
power Lw = refl
power Sw = refl
power Lh = refl
power Lhu = refl
power Sh = refl
power _ = refl

answered : (f : Option Cause) (v n : ℕ) → Ok n ≡ unless_fault f v → n ≡ v
answered None v n e = cc
answered (Some cause) v n e = absurd (cc)

-- what a read answers is as small as the operation's size says
pub small : (ram : Ram) (a : ℕ) (op : Op) (w : Width) (r : Result ℕ Cause) → ((i : ℕ) → slice_index_or ram.bytes i 0 < 256)
    → bytes_in w ≡ size_of op → r ≡ get_of ram a w → IfOk r (λ n. n < 2 ^ (8 * size_of op))
small ram a op w (Err cause) h s e = tt
small ram a op w (Ok n) h s e =
    let v : n ≡ from_le (bytes_at ram a (bytes_in w)) = answered _ _ n e in
    let k : a - ram.base + bytes_in w - (a - ram.base) ≡ bytes_in w = omega arith in
    let b : from_le (take (bytes_in w) (drop (a - ram.base) ram.bytes)) < 256 ^ bytes_in w = below_at (bytes_in w) (a - ram.base) ram.bytes h in
    let p = power op in
    let P : ℕ → Type 0 = λ k. from_le (take k (drop (a - ram.base) ram.bytes)) < 256 ^ bytes_in w in
    let q : from_le (bytes_at ram a (bytes_in w)) < 256 ^ bytes_in w = subst P (sym k) b in
    let Q : ℕ → Type 0 = λ k. from_le (bytes_at ram a (bytes_in w)) < 256 ^ k in
    let t : from_le (bytes_at ram a (bytes_in w)) < 256 ^ size_of op = subst Q s q in
    omega arith
