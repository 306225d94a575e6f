-- Clear looks at addresses of stores that are untainted, and at those of loads, which no mask hides.
use Rattle.std.proofs.Common.{◌≡◌, ℕ, ◌+◌, not, ◌&&◌, List, [], ◌∷◌, ◌++◌, Some, reverse, take, length, refl, ap, ap₂, sym, ◌∙◌, append_assoc}
use Rattle.std.proofs.lemmas.List.{append-nil}
use Rattle.std.specs.Prelude.{is_some}
use Rattle.rv_types.specs.Memory.{range}
use Rattle.machine_desc.specs.declared.Desc.{Desc}
use Rattle.machine_desc.specs.Questions.{loads_pass}
use Rattle.window_model.specs.declared.Entry.{Entry}
use Rattle.window_model.specs.declared.Event.{Event}
use Rattle.window_model.specs.declared.Event.TheVariants as event
use Rattle.window_model.specs.State.{After, Machine, nothing}
use Rattle.window_model.specs.Access.{covers}
use Rattle.window_model.specs.Clear.{clear, clear_at, clear_with, cleared_one, clears, is_violated, may_clear, is_passed_by, shares, violated_by, violates}
use Rattle.window_model.specs.Dependence.{bit_index, bit_set}
use Rattle.window_model.specs.Order.{Place, fault_of, is_load}
use Rattle.window_model.specs.Resolve.{after_squash}
use Rattle.window_model.specs.Retire.{addr_of, byte_count}
use Rattle.window_model.proofs.Booleans.{and_tests}
use Rattle.window_model.proofs.Clearing.{clear_keep, clear_parts, passed_load}
use Rattle.window_model.proofs.Places.{Found, found}
use Rattle.two_runs.specs.Masks.{AnswerAlike, LeavesAccess, LeftAlike, Mask, MaskedAlike, SamePlace, without_contents, under_mask}
use Rattle.two_runs.specs.Seen.{SeenEntries}
use Rattle.two_runs.proofs.Choices.{by_both, if_both}
use Rattle.two_runs.proofs.Looking.{any_same}
use Rattle.two_runs.proofs.Masks.{along_seen, cut_left, first_same, joined, lengths, turned_alike}
use Rattle.two_runs.proofs.May.{may_clear_alike}

module _ {M : Type 0} (mask : M → Mask) (keeps : LeavesAccess mask) where
  -- ---- which load is violated

  -- two stores that cover the same bytes find the same loads violated
  violated_alike : (e e2 : Entry) → (m : M) → under_mask (mask m) e ≡ under_mask (mask m) e2 → ((a : ℕ) → covers a e ≡ covers a e2) →
      (n : M) (y y2 : Entry) → under_mask (mask n) y ≡ under_mask (mask n) y2 → is_violated e y ≡ is_violated e2 y2
  violated_alike e e2 m h same n y y2 g =
      and_tests (is_passed_by e y) (is_passed_by e2 y2) (shares e y) (shares e2 y2)
      (ap (λ (t : Entry). is_passed_by t y) h ∙ ap (λ (t : Entry). is_passed_by e2 t) g)
      (λ p.
      let l = passed_load e y p in
      let k = keeps n y.item y.resolved y.outcome l in
      let k2 = keeps n y2.item y2.resolved y2.outcome (sym (ap (λ (t : Entry). is_load t.item.kind) g) ∙ l) in
      ap₂ (λ f c. not (is_some f) && c) (sym k.1 ∙ ap (λ (t : Entry). fault_of t.outcome) g ∙ k2.1)
      (any_same (λ a. covers a e) (λ a. covers a e2) _ _ (ap₂ range (sym k.0 ∙ ap (λ (t : Entry). addr_of t.outcome) g ∙ k2.0) (ap byte_count g)) same))

  abbrev Any : List Entry → List Entry → Type 0
  Any b b2 = Unit {0}

  module _ (d : Desc) (ms : List M) (x x2 : Machine) (o : without_contents x ≡ without_contents x2) where
    module _ (p p2 : Place) (s : SamePlace mask (SeenEntries d.stt_model) ms p p2) (same : (a : ℕ) → covers a p.entry ≡ covers a p2.entry) where
      -- the same younger loads are violated
      violated_along : (ns : List M) (b b2 ys ys2 : List Entry) → MaskedAlike mask ns ys ys2 →
          AnswerAlike (λ between y. is_violated p.entry y) (λ between y. is_violated p2.entry y) Any b b2 ys ys2
      violated_along [] b b2 [] [] t = tt
      violated_along (n ∷ ns) b b2 (y ∷ ys) (y2 ∷ ys2) t =
          (violated_alike p.entry p2.entry s.mask_here s.here same n y y2 t.0, tt, violated_along ns (y ∷ b) (y2 ∷ b2) ys ys2 t.1)
      violated_along _ b b2 _ _ t = absurd t

      -- ---- what Clear leaves

      -- the windows that Clear leaves are alike, whatever is left of the younger entries
      over : (ns : List M) (ys ys2 : List Entry) → MaskedAlike mask ns ys ys2 →
          MaskedAlike mask (reverse s.before_masks ++ s.mask_here ∷ ns) (reverse p.before ++ cleared_one p.entry ∷ ys) (reverse p2.before ++ cleared_one p2.entry ∷ ys2)
      over ns ys ys2 t =
          joined mask (reverse s.before_masks) (s.mask_here ∷ ns) _ _ _ _ (turned_alike mask s.before_masks [] p.before p2.before [] [] s.before tt) (ap cleared_one s.here, t)

      clears_alike : LeftAlike mask (take (length (clears p x).machine.window) ms) (clears p x) (clears p2 x2)
      clears_alike =
          cut_left mask ms (reverse s.before_masks ++ s.mask_here ∷ s.younger_masks) [] (clears p x) (clears p2 x2) (sym s.all ∙ sym (append-nil _))
          (record { events = ap (λ (t : Entry). event.Clr t.serial ∷ []) s.here; others = o; window = over s.younger_masks p.younger p2.younger s.younger })

      violates_alike : (q q2 : Place) → SamePlace mask Any s.younger_masks q q2 →
          LeftAlike mask (take (length (violates d p q x).machine.window) ms) (violates d p q x) (violates d p2 q2 x2)
      violates_alike q q2 t =
          let rest = t.mask_here ∷ t.younger_masks in
          let G : Entry → Machine → Machine = λ l y. record (after_squash l.serial [] (Some l.item.pc) l.item.checkpoint y) { dependence = bit_set d l.item.pc y.dependence } in
          let E : Entry → Entry → ℕ → ℕ → List Event = λ e l n k. event.Clr e.serial ∷ event.Vio l.serial ∷ event.Dp (bit_index d l.item.pc) 1 ∷ event.Sq (n + 1 + k) ∷ [] in
          let younger = (lengths mask t.younger_masks q.younger q2.younger t.younger).1 in
          cut_left mask ms (reverse s.before_masks ++ s.mask_here ∷ reverse t.before_masks) rest (violates d p q x) (violates d p2 q2 x2)
          (sym s.all ∙ ap (λ ns. reverse s.before_masks ++ s.mask_here ∷ ns) (sym t.all) ∙ sym (append_assoc (reverse s.before_masks) (s.mask_here ∷ reverse t.before_masks) rest))
          (record {
            events =
                ap₂ (λ e l. E e l (length q.younger) (length x.queue)) s.here t.here
                ∙ ap₂ (E p2.entry q2.entry) younger (ap (λ (y : Machine). length y.queue) o);
            others = ap₂ G t.here o;
            window = over (reverse t.before_masks) (reverse q.before) (reverse q2.before) (turned_alike mask t.before_masks [] q.before q2.before [] [] t.before tt);
          })

      place_alike : LeftAlike mask (take (length (clear_at d (Some p) x).machine.window) ms) (clear_at d (Some p) x) (clear_at d (Some p2) x2)
      place_alike =
          by_both (SamePlace mask Any s.younger_masks) (λ q q2. LeftAlike mask (take (length (clear_with d p q x).machine.window) ms) (clear_with d p q x) (clear_with d p2 q2 x2))
          clears_alike violates_alike (violated_by p) (violated_by p2)
          (first_same mask _ _ Any [] s.younger_masks [] [] p.younger p2.younger tt s.younger (violated_along s.younger_masks [] [] p.younger p2.younger s.younger))

  -- Clear leaves alike what is alike under masks that leave the addresses of loads, where two runs see alike each entry
  pub clear_alike : (d : Desc) (ms : List M) (x x2 : Machine) → without_contents x ≡ without_contents x2 → MaskedAlike mask ms x.window x2.window →
      SeenEntries d.stt_model (reverse x.window) (reverse x2.window) → LeftAlike mask (take (length (clear d x).machine.window) ms) (clear d x) (clear d x2)
  clear_alike d ms x x2 o s seen =
      let still : LeftAlike mask (take (length x.window) ms) (nothing x) (nothing x2) =
      cut_left mask ms ms [] (nothing x) (nothing x2) (sym (append-nil ms)) (record { events = refl; others = o; window = s }) in
      let P : After → After → Type 0 = λ a a2. LeftAlike mask (take (length a.machine.window) ms) a a2 in
      let places = first_same mask (may_clear d) (may_clear d) (SeenEntries d.stt_model) [] ms [] [] x.window x2.window tt s
      (along_seen d.stt_model (may_clear d) (may_clear d) (may_clear_alike d) x.window x2.window (lengths mask ms x.window x2.window s).1 seen) in
      if_both P (loads_pass d) (loads_pass d) _ _ _ _ refl
      (λ h. by_both (SamePlace mask (SeenEntries d.stt_model) ms)
      (λ q q2. ((p : Place) → q ≡ Some p → Found (may_clear d) [] x.window p) → P (clear_at d q x) (clear_at d q2 x2)) (λ f. still)
      (λ p p2 t f. place_alike d ms x x2 o p p2 t (λ a. t.known.0.covers_alike a (λ k. (clear_parts d p.before p.entry (f p refl).has).clean))) _ _ places (found (may_clear d) [] x.window))
      (λ h. still)

-- Clear leaves registers and memory as they are
pub clear_data : (d : Desc) (x : Machine) → ((clear d x).machine.regs ≡ x.regs) × ((clear d x).machine.ram ≡ x.ram)
clear_data d x = clear_keep d (λ y. (y.regs ≡ x.regs) × (y.ram ≡ x.ram)) (λ y p t h. h) (λ y p q t u h. h) x (refl, refl)
