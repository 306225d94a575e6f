-- Where the first register stands that passes a test.
use Rattle.std.proofs.Common.{◌≡◌, ℕ, suc, ◌+◌, ◌<◌, Bool, true, false, cond, not, List, [], ◌∷◌, length, get_or, Some, None, refl, ap, sym, ◌∙◌, arith}
use Rattle.std.specs.Prelude.{if◌then◌else◌, nat_lt, remove, slice_get}
use Rattle.std.specs.List.{find, position, position_or_len}
use Rattle.std.proofs.lemmas.Bool.Decides.{nat_tests}
use Rattle.std.proofs.lemmas.List.Folds.{find_at}
use Rattle.std.proofs.lemmas.Option.{slice_get_past, slice_get_read}
use Rattle.window_model.specs.declared.Miss.{Miss}
use Rattle.mshr_file.specs.Registers.{without_first}

-- a list without its first that passes, one register more in front
removed_more : (b : Bool) (m : Miss) (ms rest : List Miss) (i : ℕ) → (i < length ms → remove ms i ≡ rest) → cond (not b) (1 + i) 0 < suc (length ms) →
    remove (m ∷ ms) (cond (not b) (1 + i) 0) ≡ (if b then ms else m ∷ rest)
removed_more true m ms rest i h lt = refl
removed_more false m ms rest i h lt = let e : 1 + i ≡ suc i = omega arith in ap (remove (m ∷ ms)) e ∙ ap (λ ms. m ∷ ms) (h (omega (arith, lt)))

removed : (p : Miss → Bool) (ms : List Miss) → position_or_len p ms < length ms → remove ms (position_or_len p ms) ≡ without_first p ms
removed p [] lt = absurd (omega (arith, lt))
removed p (m ∷ ms) lt = removed_more (p m) m ms (without_first p ms) (position_or_len p ms) (removed p ms) lt

-- where no register passes the test, all stay
unmoved_more : (b : Bool) (m : Miss) (ms rest : List Miss) (i : ℕ) → (nat_lt i (length ms) ≡ false → ms ≡ rest) → nat_lt (cond (not b) (1 + i) 0) (suc (length ms)) ≡ false →
    m ∷ ms ≡ (if b then ms else m ∷ rest)
unmoved_more true m ms rest i h n = absurd (grind (arith, nat_tests))
unmoved_more false m ms rest i h n = ap (λ ms. m ∷ ms) (h (grind (arith, nat_tests)))

unmoved : (p : Miss → Bool) (ms : List Miss) → nat_lt (position_or_len p ms) (length ms) ≡ false → ms ≡ without_first p ms
unmoved p [] n = refl
unmoved p (m ∷ ms) n = unmoved_more (p m) m ms (without_first p ms) (position_or_len p ms) (unmoved p ms) n

-- ---- in the terms of `position`

-- a place that is found
is_place : (b : Bool) (i j : ℕ) → Some i ≡ cond b (Some j) None → (i ≡ j) × (b ≡ true)
is_place true i j e = (cc, refl)
is_place false i j e = absurd (cc)

-- where no place is found, the test fails
no_place : (b : Bool) (j : ℕ) → None ≡ cond b (Some j) None → b ≡ false
no_place true j e = absurd (cc)
no_place false j e = refl

pub found : (p : Miss → Bool) (ms : List Miss) (i : ℕ) (m : Miss) → Some i ≡ position p ms → m ≡ get_or ms i m → find p ms ≡ Some m
found p ms i m e h =
    let f = is_place (nat_lt (position_or_len p ms) (length ms)) i (position_or_len p ms) e in
    let lt : i < length ms = (let t = f.1 in let j = f.0 in grind (arith, nat_tests)) in
    find_at p ms ∙ ap (slice_get ms) (sym f.0) ∙ slice_get_read ms (length ms) i m refl lt h

pub freed : (p : Miss → Bool) (ms : List Miss) (i : ℕ) → Some i ≡ position p ms → remove ms i ≡ without_first p ms
freed p ms i e =
    let f = is_place (nat_lt (position_or_len p ms) (length ms)) i (position_or_len p ms) e in
    let lt : position_or_len p ms < length ms = (let t = f.1 in grind (arith, nat_tests)) in
    ap (remove ms) f.0 ∙ removed p ms lt

pub not_found : (p : Miss → Bool) (ms : List Miss) → None ≡ position p ms → find p ms ≡ None
not_found p ms e =
    let n = no_place (nat_lt (position_or_len p ms) (length ms)) (position_or_len p ms) e in
    find_at p ms ∙ slice_get_past ms (position_or_len p ms) (grind (arith, nat_tests))

pub not_freed : (p : Miss → Bool) (ms : List Miss) → None ≡ position p ms → ms ≡ without_first p ms
not_freed p ms e = unmoved p ms (no_place (nat_lt (position_or_len p ms) (length ms)) (position_or_len p ms) e)
