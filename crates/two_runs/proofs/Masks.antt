-- Windows of which masks leave the same, and where the oldest entry with a property stands in two of them.
use Rattle.std.proofs.Common.{◌≡◌, suc, Bool, List, [], ◌∷◌, ◌++◌, Some, map, reverse, take, length, refl, ap, ap₂, sym, ◌∙◌, subst, append_assoc}
use Rattle.std.proofs.lemmas.List.{take_at}
use mathlib.Core.List.{reverse_aux}
use Rattle.machine_desc.specs.declared.SttModel.{SttModel}
use Rattle.window_model.specs.declared.Entry.{Entry}
use Rattle.window_model.specs.State.{After}
use Rattle.window_model.specs.Order.{Place, first, first_from}
use Rattle.two_runs.specs.Masks.{AnswerAlike, LeftAlike, Mask, MaskedAlike, SamePlace}
use Rattle.two_runs.specs.Seen.{SeenEntries, without_outcome}
use Rattle.window_model.proofs.Places.{Found, found}
use Rattle.two_runs.proofs.Choices.{Both, by_both, if_both}

-- ---- lists of entries beside their masks

-- a list turned round before another is its reverse joined to that
turned : {A : Type 0} (xs ys : List A) → reverse_aux xs ys ≡ reverse xs ++ ys
turned [] ys = refl
turned (x ∷ xs) ys = turned xs (x ∷ ys) ∙ sym (append_assoc (reverse xs) (x ∷ []) ys) ∙ ap (λ t. t ++ ys) (sym (turned xs (x ∷ [])))

module _ {M : Type 0} (mask : M → Mask) where
  -- windows that are alike under masks are equal but for outcomes
  pub but_outcomes : (ms : List M) (es es2 : List Entry) → MaskedAlike mask ms es es2 → map without_outcome es ≡ map without_outcome es2
  but_outcomes [] [] [] s = refl
  but_outcomes (m ∷ ms) (e ∷ es) (e2 ∷ es2) s = ap₂ (λ t ts. t ∷ ts) (ap without_outcome s.0) (but_outcomes ms es es2 s.1)
  but_outcomes _ _ _ s = absurd s

  -- windows that are alike under masks have as many entries as there are masks
  pub lengths : (ms : List M) (es es2 : List Entry) → MaskedAlike mask ms es es2 → (length ms ≡ length es) × (length es ≡ length es2)
  lengths [] [] [] s = (refl, refl)
  lengths (m ∷ ms) (e ∷ es) (e2 ∷ es2) s = let l = lengths ms es es2 s.1 in (ap suc l.0, ap suc l.1)
  lengths _ _ _ s = absurd s

  -- windows stay alike under masks as others are joined to them
  pub joined : (ms ns : List M) (es es2 ys ys2 : List Entry) → MaskedAlike mask ms es es2 → MaskedAlike mask ns ys ys2 → MaskedAlike mask (ms ++ ns) (es ++ ys) (es2 ++ ys2)
  joined [] ns [] [] ys ys2 s t = t
  joined (m ∷ ms) ns (e ∷ es) (e2 ∷ es2) ys ys2 s t = (s.0, joined ms ns es es2 ys ys2 s.1 t)
  joined _ ns _ _ ys ys2 s t = absurd s

  -- windows turned round before others stay alike under masks, turned round as well
  pub turned_alike : (ms ns : List M) (es es2 ys ys2 : List Entry) → MaskedAlike mask ms es es2 → MaskedAlike mask ns ys ys2 →
      MaskedAlike mask (reverse_aux ms ns) (reverse_aux es ys) (reverse_aux es2 ys2)
  turned_alike [] ns [] [] ys ys2 s t = t
  turned_alike (m ∷ ms) ns (e ∷ es) (e2 ∷ es2) ys ys2 s t = turned_alike ms (m ∷ ns) es es2 (e ∷ ys) (e2 ∷ ys2) s.1 (s.0, t)
  turned_alike _ ns _ _ ys ys2 s t = absurd s

  -- what is left of both windows is alike under the masks of as many entries
  pub cut_left : (ms front rest : List M) (a a2 : After) → ms ≡ front ++ rest → LeftAlike mask front a a2 → LeftAlike mask (take (length a.machine.window) ms) a a2
  cut_left ms front rest a a2 q l =
      let n = (lengths front a.machine.window a2.machine.window l.window).0 in
      subst (λ ns. LeftAlike mask ns a a2) (sym (ap (take (length a.machine.window)) q ∙ take_at front rest (length a.machine.window) n)) l

  -- ---- the oldest entry with a property

  -- the oldest entries with properties that are seen alike stand in one place
  pub first_same : (f f2 : List Entry → Entry → Bool) (S : List Entry → List Entry → Type 0) (bs ms : List M) (b b2 es es2 : List Entry) →
      MaskedAlike mask bs b b2 → MaskedAlike mask ms es es2 → AnswerAlike f f2 S b b2 es es2 →
      Both (SamePlace mask S (reverse_aux bs ms)) (first_from f b es) (first_from f2 b2 es2)
  first_same f f2 S bs [] b b2 [] [] s t r = tt
  first_same f f2 S bs (m ∷ ms) b b2 (e ∷ es) (e2 ∷ es2) s t r =
      if_both (Both (SamePlace mask S (reverse_aux bs (m ∷ ms)))) (f b e) (f2 b2 e2) _ _ _ _ r.0
      (λ h. record { before_masks = bs; mask_here = m; younger_masks = ms; all = sym (turned bs (m ∷ ms)); before = s; here = t.0; younger = t.1; known = r.1 })
      (λ h. first_same f f2 S (m ∷ bs) ms (e ∷ b) (e2 ∷ b2) es es2 (t.0, s) t.1 r.2)
  first_same f f2 S bs _ b b2 _ _ s t r = absurd t

-- what is related of two places where the first has the property is so of the oldest entries with properties
pub where_found : (f f2 : List Entry → Entry → Bool) (w w2 : List Entry) (Q R : Place → Place → Type 0) → ((p p2 : Place) → Q p p2 → Found f [] w p → R p p2) →
    Both Q (first f w) (first f2 w2) → Both R (first f w) (first f2 w2)
where_found f f2 w w2 Q R h s = by_both Q (λ o o2. ((p : Place) → o ≡ Some p → Found f [] w p) → Both R o o2) (λ k. tt) (λ p p2 q k. h p p2 q (k p refl)) _ _ s (found f [] w)

-- ---- along two windows

-- a relation of entries, youngest first, that holds of the older ones too
module _ (S : List Entry → List Entry → Type 0) (older : (e e2 : Entry) (b b2 : List Entry) → S (e ∷ b) (e2 ∷ b2) → S b b2) where
  -- what is related of all entries is so of those before a place
  pub peel : (es es2 b b2 : List Entry) → length es ≡ length es2 → S (reverse_aux es b) (reverse_aux es2 b2) → S b b2
  peel [] [] b b2 l s = s
  peel (e ∷ es) (e2 ∷ es2) b b2 l s = older e e2 b b2 (peel es es2 (e ∷ b) (e2 ∷ b2) (cc) s)
  peel _ _ b b2 l s = absurd (cc)

  -- tests that answer alike of related entries do so along two windows
  pub along : (f f2 : List Entry → Entry → Bool) → ((b b2 : List Entry) (e e2 : Entry) → S (e ∷ b) (e2 ∷ b2) → f b e ≡ f2 b2 e2) →
      (b b2 es es2 : List Entry) → length es ≡ length es2 → S (reverse_aux es b) (reverse_aux es2 b2) → AnswerAlike f f2 S b b2 es es2
  along f f2 h b b2 (e ∷ es) (e2 ∷ es2) l s =
      let r = peel es es2 (e ∷ b) (e2 ∷ b2) (cc) s in
      (h b b2 e e2 r, r, along f f2 h (e ∷ b) (e2 ∷ b2) es es2 (cc) s)
  along f f2 h b b2 [] es2 l s = tt
  along f f2 h b b2 (e ∷ es) [] l s = tt

-- tests that answer alike where two runs see alike do so along two windows
pub along_seen : (model : SttModel) (f f2 : List Entry → Entry → Bool) → ((b b2 : List Entry) → SeenEntries model b b2 → (e e2 : Entry) → without_outcome e ≡ without_outcome e2 → f b e ≡ f2 b2 e2) →
    (es es2 : List Entry) → length es ≡ length es2 → SeenEntries model (reverse es) (reverse es2) → AnswerAlike f f2 (SeenEntries model) [] [] es es2
along_seen model f f2 h = along (SeenEntries model) (λ e e2 b b2 s. s.1) f f2 (λ b b2 e e2 s. h b b2 s.1 e e2 s.0.but_outcome) [] []
