-- The first register that passes a test, and the others.
use Rattle.std.proofs.Common.{◌≡◌, Bool, true, false, cond, not, List, [], ◌∷◌, Some, None, refl, ap, sym, ◌∙◌}
use Rattle.std.specs.Prelude.{if◌then◌else◌}
use Rattle.std.specs.List.{find, filter}
use Rattle.window_model.specs.declared.Miss.{Miss}
use Rattle.window_model.specs.Fill.{is_due}
use Rattle.mshr_file.specs.Registers.{without_first}
use Rattle.mshr_file.specs.Laws.{ArrivesFirst, ArrivesNone, LeavesTheRest}

-- the first register that passes a test is the filter's first, and the others are the filter's rest
first_passes : (p : Miss → Bool) (ms : List Miss) (m : Miss) → find p ms ≡ Some m → filter p ms ≡ m ∷ filter p (without_first p ms)
first_passes p [] m h = absurd (cc)
first_passes p (n ∷ ms) m h = at (p n) refl (first_passes p ms m) h
  where
    at : (b : Bool) → p n ≡ b → (find p ms ≡ Some m → filter p ms ≡ m ∷ filter p (without_first p ms)) → cond b (Some n) (find p ms) ≡ Some m → cond b (n ∷ filter p ms) (filter p ms) ≡ m ∷ filter p (if b then ms else n ∷ without_first p ms)
    at true e r h = let q : n ≡ m = cc in ap (λ m. m ∷ filter p ms) q
    at false e r h = r h ∙ sym (ap (λ b. m ∷ cond b (n ∷ filter p (without_first p ms)) (filter p (without_first p ms))) e)

-- the registers that don't pass the test are the same without the first that does
others_stay : (p : Miss → Bool) (ms : List Miss) → filter (λ m. not (p m)) (without_first p ms) ≡ filter (λ m. not (p m)) ms
others_stay p [] = refl
others_stay p (n ∷ ms) = at (p n) refl (others_stay p ms)
  where
    at : (b : Bool) → p n ≡ b → filter (λ m. not (p m)) (without_first p ms) ≡ filter (λ m. not (p m)) ms → filter (λ m. not (p m)) (if b then ms else n ∷ without_first p ms) ≡ cond (not b) (n ∷ filter (λ m. not (p m)) ms) (filter (λ m. not (p m)) ms)
    at true e r = refl
    at false e r = ap (λ b. cond (not b) (n ∷ filter (λ m. not (p m)) (without_first p ms)) (filter (λ m. not (p m)) (without_first p ms))) e ∙ ap (λ ms. n ∷ ms) r

-- where no register passes the test, the filter by it leaves none, and the filter by its contrary all
none_passes : (p : Miss → Bool) (ms : List Miss) → find p ms ≡ None → (filter p ms ≡ []) × (filter (λ m. not (p m)) ms ≡ ms)
none_passes p [] h = (refl, refl)
none_passes p (n ∷ ms) h = at (p n) (none_passes p ms) h
  where
    at : (b : Bool) → (find p ms ≡ None → (filter p ms ≡ []) × (filter (λ m. not (p m)) ms ≡ ms)) → cond b (Some n) (find p ms) ≡ None → (cond b (n ∷ filter p ms) (filter p ms) ≡ []) × (cond (not b) (n ∷ filter (λ m. not (p m)) ms) (filter (λ m. not (p m)) ms) ≡ n ∷ ms)
    at true f h = absurd (cc)
    at false f h = let r = f h in (r.0, ap (λ ms. n ∷ ms) r.1)

-- ---- the laws of freeing registers

-- the register that is freed is the first whose line arrives
pub due_first : ArrivesFirst
due_first cycle misses m h = first_passes (is_due cycle) misses m h

-- the registers that stay are one list, whether the first that is due is freed or not
pub due_rest : LeavesTheRest
due_rest cycle misses = others_stay (is_due cycle) misses

-- where no register is due no line arrives, and all registers stay
pub due_none : ArrivesNone
due_none cycle misses h = none_passes (is_due cycle) misses h
