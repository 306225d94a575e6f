-- Resolve looks at the outcome of the entry that is resolved alone.
use Rattle.std.proofs.Common.{◌≡◌, ℕ, ◌+◌, List, [], ◌∷◌, ◌++◌, Option, Some, None, reverse, take, length, refl, ap, ap₂, sym, ◌∙◌, append_assoc}
use Rattle.std.proofs.lemmas.List.{append-nil}
use Rattle.std.specs.Prelude.{if◌then◌else◌}
use Rattle.rv_types.specs.declared.Cause.{Cause}
use Rattle.rv_types.specs.declared.Kind.{Kind}
use Rattle.rv_types.specs.declared.Kind.TheVariants.{Branch}
use Rattle.machine_desc.specs.declared.Desc.{Desc}
use Rattle.window_model.specs.declared.Entry.{Entry}
use Rattle.window_model.specs.declared.Event.TheVariants as event
use Rattle.window_model.specs.declared.Target.{Target}
use Rattle.window_model.specs.State.{After, Machine}
use Rattle.window_model.specs.Order.{Place, fault_of, first, is_faulty, value_of}
use Rattle.window_model.specs.Resolve.{Learnt, after_squash, keep, learn, learn_as, may_resolve, next_of, resolve, resolve_at, squash, squashes, true_checkpoint, with_predictor}
use Rattle.window_model.proofs.Placing.{resolve_keep}
use Rattle.window_model.proofs.Resolving.{resolved_one}
use Rattle.two_runs.specs.Masks.{AnswerAlike, LeftAlike, Mask, MaskedAlike, ResolvedAlike, SamePlace, without_contents, under_mask}
use Rattle.two_runs.specs.Seen.{without_outcome}
use Rattle.two_runs.proofs.Choices.{by_both, if_both}
use Rattle.two_runs.proofs.Masks.{cut_left, first_same, joined, lengths, turned_alike}

-- ---- what of an outcome is looked at

-- an entry with what Resolve looks at of its outcome
abbrev looked_at : Entry → ℕ → ℕ → Option Cause → Entry
looked_at e v n f = record e { outcome = Some (record { value = v; next = n; addr = 0; stored = 0; fault = f }) }

abbrev acting : Entry → Entry
acting e = looked_at e (value_of e.outcome) (next_of e.outcome) (fault_of e.outcome)

acting_alike : (e e2 : Entry) → without_outcome e ≡ without_outcome e2 → ResolvedAlike e e2 → acting e ≡ acting e2
acting_alike e e2 h r =
    ap (λ t. looked_at t (value_of e.outcome) (next_of e.outcome) (fault_of e.outcome)) h
    ∙ ap (λ v. looked_at e2 v (next_of e.outcome) (fault_of e.outcome)) r.value
    ∙ ap₂ (looked_at e2 (value_of e2.outcome)) r.next r.fault

-- the predictor learns no more of an entry
learn_acting : (k : Kind) (d : Desc) (e : Entry) (c : List ℕ) (t : List (Option Target)) → learn_as k d (acting e) c t ≡ learn_as k d e c t
learn_acting Branch d e c t = refl
learn_acting k d e c t = refl

learn_alike : (d : Desc) (e e2 : Entry) (x x2 : Machine) → acting e ≡ acting e2 → without_contents x ≡ without_contents x2 →
    learn d e x.counters x.targets ≡ learn d e2 x2.counters x2.targets
learn_alike d e e2 x x2 h o =
    sym (learn_acting e.item.kind d e x.counters x.targets)
    ∙ ap₂ (λ (t : Entry) (m : Machine). learn d t m.counters m.targets) h o
    ∙ learn_acting e2.item.kind d e2 x2.counters x2.targets

-- ---- what Resolve leaves

module _ {M : Type 0} (mask : M → Mask) (S : List Entry → List Entry → Type 0) (d : Desc) (ms : List M) where
  module _ (p p2 : Place) (s : SamePlace mask S ms p p2) (acts : ResolvedAlike p.entry p2.entry) (settles : under_mask (mask s.mask_here) (resolved_one p.entry) ≡ under_mask (mask s.mask_here) (resolved_one p2.entry)) where
    same : acting p.entry ≡ acting p2.entry
    same = acting_alike p.entry p2.entry (ap without_outcome s.here) acts

    -- the windows that Resolve leaves are alike, whatever is left of the younger entries
    over : (ns : List M) (ys ys2 : List Entry) → MaskedAlike mask ns ys ys2 →
        MaskedAlike mask (reverse s.before_masks ++ s.mask_here ∷ ns) (reverse p.before ++ resolved_one p.entry ∷ ys) (reverse p2.before ++ resolved_one p2.entry ∷ ys2)
    over ns ys ys2 t =
        joined mask (reverse s.before_masks) (s.mask_here ∷ ns) _ _ _ _ (turned_alike mask s.before_masks [] p.before p2.before [] [] s.before tt) (settles, t)

    abbrev Left : After → After → Type 0
    Left a a2 = LeftAlike mask (take (length a.machine.window) ms) a a2

    squash_alike : (y y2 : Machine) → without_contents y ≡ without_contents y2 → Left (squash d p y) (squash d p2 y2)
    squash_alike y y2 o =
        cut_left mask ms (reverse s.before_masks ++ s.mask_here ∷ []) s.younger_masks (squash d p y) (squash d p2 y2)
        (sym (append_assoc (reverse s.before_masks) (s.mask_here ∷ []) s.younger_masks ∙ s.all))
        (record {
          events = ap₂ (λ a b. event.Sq (a + b) ∷ []) (lengths mask s.younger_masks p.younger p2.younger s.younger).1 (ap (λ (t : Machine). length t.queue) o);
          others = ap₂ (λ (t : Entry) (m : Machine). after_squash (t.serial + 1) [] (if is_faulty t then None else Some (next_of t.outcome)) (true_checkpoint d t) m) same o;
          window = over [] [] [] tt;
        })

    keep_alike : (y y2 : Machine) → without_contents y ≡ without_contents y2 → Left (keep p y) (keep p2 y2)
    keep_alike y y2 o =
        cut_left mask ms (reverse s.before_masks ++ s.mask_here ∷ s.younger_masks) [] (keep p y) (keep p2 y2) (sym s.all ∙ sym (append-nil _))
        (record { events = refl; others = o; window = over s.younger_masks p.younger p2.younger s.younger })

    -- what is resolved alike at one place leaves two machines alike
    pub place_alike : (x x2 : Machine) → without_contents x ≡ without_contents x2 → Left (resolve_at d (Some p) x) (resolve_at d (Some p2) x2)
    place_alike x x2 o =
        let l = learn_alike d p.entry p2.entry x x2 same o in
        let W : Learnt → Machine → Machine = λ l m. with_predictor m l.counters l.targets in
        let y = W (learn d p.entry x.counters x.targets) x in
        let y2 = W (learn d p2.entry x2.counters x2.targets) x2 in
        let k : without_contents y ≡ without_contents y2 = ap₂ W l o in
        let r = if_both Left (squashes p.entry) (squashes p2.entry) (squash d p y) (squash d p2 y2) (keep p y) (keep p2 y2) (ap squashes same) (λ h. squash_alike y y2 k) (λ h. keep_alike y y2 k) in
        record { events = ap₂ (λ a b. a ++ b) (ap (λ (l : Learnt). l.events) l) r.events; others = r.others; window = r.window }

-- Resolve leaves alike what is alike under masks, where who may be resolved is seen alike and what is resolved is equal
pub resolve_alike : {M : Type 0} (mask : M → Mask) (S : List Entry → List Entry → Type 0) (d : Desc) (ms : List M) (x x2 : Machine) → without_contents x ≡ without_contents x2 → MaskedAlike mask ms x.window x2.window →
    AnswerAlike (may_resolve d) (may_resolve d) S [] [] x.window x2.window →
    ((p p2 : Place) → first (may_resolve d) x.window ≡ Some p → (s : SamePlace mask S ms p p2) →
    ResolvedAlike p.entry p2.entry × (under_mask (mask s.mask_here) (resolved_one p.entry) ≡ under_mask (mask s.mask_here) (resolved_one p2.entry))) →
    LeftAlike mask (take (length (resolve d x).machine.window) ms) (resolve d x) (resolve d x2)
resolve_alike mask S d ms x x2 o s answers acts =
    by_both (SamePlace mask S ms)
    (λ q q2. ((p : Place) → q ≡ Some p → first (may_resolve d) x.window ≡ Some p) → LeftAlike mask (take (length (resolve_at d q x).machine.window) ms) (resolve_at d q x) (resolve_at d q2 x2))
    (λ f. cut_left mask ms ms [] (resolve_at d None x) (resolve_at d None x2) (sym (append-nil ms)) (record { events = refl; others = o; window = s }))
    (λ p p2 t f. let a = acts p p2 (f p refl) t in place_alike mask S d ms p p2 t a.0 a.1 x x2 o) _ _
    (first_same mask (may_resolve d) (may_resolve d) S [] ms [] [] x.window x2.window tt s answers) (λ p h. h)

-- Resolve leaves registers and memory as they are
pub resolve_data : (d : Desc) (x : Machine) → ((resolve d x).machine.regs ≡ x.regs) × ((resolve d x).machine.ram ≡ x.ram)
resolve_data d x = resolve_keep d (λ y. (y.regs ≡ x.regs) × (y.ram ≡ x.ram)) (λ y p f q h. h) (λ y p f q h. h) x (refl, refl)
