-- Marks before the first cycle, byte by byte.
use Rattle.std.proofs.Common.{◌≡◌, ℕ, zero, suc, ◌+◌, ◌-◌, ◌<◌, Bool, List, [], ◌∷◌, ◌++◌, length, map, refl, ap, sym, ◌∙◌, arith, append_assoc}
use Rattle.std.proofs.lemmas.List.{length-map}
use Rattle.rv_types.specs.Memory.{range}

-- a range of n addresses has n
range_length : (a n : ℕ) → length (range a n) ≡ n
range_length a zero = refl
range_length a (suc n) = ap suc (range_length (a + 1) n)

pub marks_length : (f : ℕ → Bool) (a n : ℕ) → length (map f (range a n)) ≡ n
marks_length f a n = length-map (range a n) f ∙ range_length a n

-- the addresses of a range from position i on: the first, and those behind it
pub range_next : (a i n : ℕ) → i < n → range (a + i) (n - i) ≡ (a + i) ∷ range (a + (i + 1)) (n - (i + 1))
range_next a i n lt =
    let count : n - i ≡ suc (n - (i + 1)) = omega (arith, lt) in
    let next : a + i + 1 ≡ a + (i + 1) = omega arith in
    ap (range (a + i)) count ∙ ap (λ b. (a + i) ∷ range b (n - (i + 1))) next

module _ (f : ℕ → Bool) (a n : ℕ) where
  -- the marks of the bytes up to a position and those of the others are the marks of all, also one byte further
  pub marks_next : (done : List Bool) (b : Bool) (i : ℕ) → i < n → b ≡ f (a + i) → done ++ map f (range (a + i) (n - i)) ≡ map f (range a n) →
      (done ++ b ∷ []) ++ map f (range (a + (i + 1)) (n - (i + 1))) ≡ map f (range a n)
  marks_next done b i lt e h =
      append_assoc done (b ∷ []) (map f (range (a + (i + 1)) (n - (i + 1))))
      ∙ ap (λ b. done ++ b ∷ map f (range (a + (i + 1)) (n - (i + 1)))) e
      ∙ ap (λ r. done ++ map f r) (sym (range_next a i n lt))
      ∙ h
