-- The texts of numbers that are written in turn.
use Rattle.std.proofs.Common.{◌≡◌, ◌<◌, ◌≤◌, ℕ, zero, suc, ◌+◌, ◌-◌, List, [], ◌++◌, refl, ap, ◌∙◌, subst, arith}
use Rattle.tool_io.specs.Outside.{Told, Wrote, WrotePrefix}
use Rattle.tool_io.proofs.Writing.{WroteUpTo, up_to_start, up_to_more, up_to_part, up_to_end}
use Rattle.report_text.specs.Report.{each_from}

-- the texts of the numbers from i on and below n are the first one's, and then the others'
each_more : (text : ℕ → List ℕ) (n i : ℕ) → i < n → each_from text i (n - i) ≡ text i ++ each_from text (i + 1) (n - (i + 1))
unfolding each_from
each_more text n i h = let e : n - i ≡ suc (n - (i + 1)) = omega arith in rw e refl

-- past the last number there is no text
each_end : (text : ℕ → List ℕ) (n i : ℕ) → n ≤ i → each_from text i (n - i) ≡ []
unfolding each_from
each_end text n i h = let e : n - i ≡ 0 = omega arith in rw e refl

-- at first all is left to write
pub each_begun : (text : ℕ → List ℕ) (n : ℕ) (s : Told) → WroteUpTo (each_from text 0 n) (each_from text 0 (n - 0)) s s
each_begun text n s = let e : n - 0 ≡ n = omega arith in rw e (up_to_start _ _)

-- after one more text the next number's is the first that is left
pub each_wrote : (all : List ℕ) (text : ℕ → List ℕ) (n i : ℕ) (s t u : Told) → i < n → WroteUpTo all (each_from text i (n - i)) s t → Wrote (text i) t u
    → WroteUpTo all (each_from text (i + 1) (n - (i + 1))) s u
each_wrote all text n i s t u h p q = up_to_more _ _ _ _ _ _ (rw (each_more text n i h) at p) q

-- a fault at one text leaves a part of all
pub each_part : (all : List ℕ) (text : ℕ → List ℕ) (n i : ℕ) (s t u : Told) → i < n → WroteUpTo all (each_from text i (n - i)) s t → WrotePrefix (text i) t u
    → WrotePrefix all s u
each_part all text n i s t u h p q = up_to_part _ _ _ _ _ _ (rw (each_more text n i h) at p) q

-- past the last number all is written
pub each_done : (all : List ℕ) (text : ℕ → List ℕ) (n i : ℕ) (s t : Told) → n ≤ i → WroteUpTo all (each_from text i (n - i)) s t → Wrote all s t
each_done all text n i s t h p = up_to_end _ _ _ (rw (each_end text n i h) at p)

passed : (text : ℕ → List ℕ) (n i m : ℕ) → i + m ≤ n → ((k : ℕ) → i ≤ k → k < i + m → text k ≡ []) → each_from text i (n - i) ≡ each_from text (i + m) (n - (i + m))
passed text n i zero le none = let e : i + 0 ≡ i = omega arith in rw e refl
passed text n i (suc m) le none =
    let e : i + 1 + m ≡ i + suc m = omega arith in
    let on : each_from text (i + 1) (n - (i + 1)) ≡ each_from text (i + 1 + m) (n - (i + 1 + m)) = passed text n (i + 1) m (omega (arith, le)) (λ k low high. none k (omega (arith, low)) (omega (arith, high))) in
    each_more text n i (omega (arith, le)) ∙ ap (λ t. t ++ each_from text (i + 1) (n - (i + 1))) (none i (omega arith) (omega arith)) ∙ on ∙ ap (λ j. each_from text j (n - j)) e

-- numbers without a text are passed over
pub each_passed : (all : List ℕ) (text : ℕ → List ℕ) (n i m : ℕ) (s t : Told) → i + m ≤ n → ((k : ℕ) → i ≤ k → k < i + m → text k ≡ []) → WroteUpTo all (each_from text i (n - i)) s t
    → WroteUpTo all (each_from text (i + m) (n - (i + m))) s t
each_passed all text n i m s t le none p = subst (λ rest. WroteUpTo all rest s t) (passed text n i m le none) p
