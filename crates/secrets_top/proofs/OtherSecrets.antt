-- Two memories that agree at each address without a secret byte are equal but for secret bytes.
use Rattle.std.proofs.Common.{◌≡◌, ◌<◌, ◌≤◌, ◌⊎◌, ◌^◌, ℕ, zero, suc, ◌+◌, ◌-◌, Bool, true, false, cond, List, ◌∷◌, length, inl, inr, sym, ap, ◌∙◌, subst, arith}
use Rattle.std.specs.Prelude.{not, filter, All, slice_index}
use Rattle.std.specs.List.{AllByRecursion as Each}
use Rattle.std.proofs.lemmas.Bool.{cases_lt}
use Rattle.std.proofs.lemmas.List.{get_or_past}
use Rattle.std.proofs.lemmas.List.Elements.{recursion_from_All}
use Rattle.rv_types.specs.Memory.{Ram, Agree, range}
use Rattle.secret_marks.specs.Alike.{AgreeBut}
use Rattle.secret_marks.specs.Marks.{Secret}

-- what holds of each address that passes a test holds of one that does
first_of : (P : ℕ → Type 0) (b : Bool) (x : ℕ) (rest : List ℕ) → b ≡ true → Each P (cond b (x ∷ rest) rest) → P x
first_of P true x rest e h = h.0
first_of P false x rest e h = absurd (cc)

others_of : (P : ℕ → Type 0) (b : Bool) (x : ℕ) (rest : List ℕ) → Each P (cond b (x ∷ rest) rest) → Each P rest
others_of P true x rest h = h.1
others_of P false x rest h = h

at_address : (P : ℕ → Type 0) (f : ℕ → Bool) (a n i : ℕ) → i < n → f (a + i) ≡ true → Each P (filter f (range a n)) → P (a + i)
at_address P f a zero i lt e h = absurd (omega (arith, lt))
at_address P f a (suc n) zero lt e h =
    let same : a + 0 ≡ a = omega arith in
    subst P (sym same) (first_of P (f a) a (filter f (range (a + 1) n)) (ap f (sym same) ∙ e) h)
at_address P f a (suc n) (suc i) lt e h =
    let same : a + 1 + i ≡ a + suc i = omega arith in
    subst P same (at_address P f (a + 1) n i (omega (arith, lt)) (ap f same ∙ e) (others_of P (f a) a (filter f (range (a + 1) n)) h))

module _ (secret : Secret) (m m2 : Ram) (agree : Agree m m2 (filter (λ a. not (secret a)) (range m.base (length m.bytes)))) where
  -- the byte at an address is one in both memories
  abbrev Same : ℕ → Type 0
  Same a = slice_index m2.bytes (a - m.base) ≡ slice_index m.bytes (a - m.base)

  by_place : (i : ℕ) → secret (m.base + i) ≡ false → (i < length m.bytes) ⊎ (length m.bytes ≤ i) → slice_index m2.bytes i ≡ slice_index m.bytes i
  by_place i e (inl inside) =
      let f : ℕ → Bool = λ a. not (secret a) in
      let there : m.base + i - m.base ≡ i = omega arith in
      subst (λ k. slice_index m2.bytes k ≡ slice_index m.bytes k) there
      (at_address Same f m.base (length m.bytes) i inside (ap not e) (recursion_from_All Same (filter f (range m.base (length m.bytes))) agree.same))
  by_place i e (inr outside) =
      let outside2 : length m2.bytes ≤ i = subst (λ k. k ≤ i) (sym agree.size) outside in
      get_or_past m2.bytes i 0 outside2 ∙ sym (get_or_past m.bytes i 0 outside)

  pub agree_but : All (λ b. b < 2 ^ 8) m.bytes → AgreeBut secret m m2
  agree_but bytes = record {
    base = agree.base;
    size = agree.size;
    misaligned = agree.misaligned;
    bytes = bytes;
    bytes2 = agree.bytes;
    same = λ i e. by_place i e (cases_lt i (length m.bytes));
  }
