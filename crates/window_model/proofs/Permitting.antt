-- An entry that lets younger ones be visible still does as it becomes Done, begins, is resolved or is cleared; and
-- which entries don't let them.
use Rattle.std.proofs.Common.{◌≡◌, ℕ, Bool, true, false, not, ◌&&◌, ◌||◌, None, refl, ap, ap₂, sym, ◌∙◌}
use Rattle.std.specs.Prelude.{is_some}
use Rattle.rv_types.specs.declared.Kind.{Kind}
use Rattle.rv_types.specs.declared.Kind.TheVariants.{Load, Store, Branch, Jalr, Call, Stop}
use Rattle.machine_desc.specs.declared.SttModel.{SttModel}
use Rattle.machine_desc.specs.declared.SttModel.TheVariants.{Spectre, Futuristic, Off}
use Rattle.window_model.specs.declared.Entry.{Entry}
use Rattle.window_model.specs.declared.Outcome.{Outcome}
use Rattle.window_model.specs.declared.Progress.TheVariants.{Done}
use Rattle.window_model.specs.Rename.{is_call}
use Rattle.window_model.specs.Issue.{executing_until}
use Rattle.window_model.specs.Clear.{cleared_one}
use Rattle.window_model.specs.Order.{is_control, is_done, is_faulty, is_store, is_waiting}
use Rattle.window_model.specs.Retire.{may_leave, trap_as, trap_of}
use Rattle.window_model.specs.Taint.{permits, protects, safe_as, settled_as}
use Rattle.window_model.proofs.Booleans.{both, waiting_done}

-- ---- an entry that permits younger ones to be visible still does

done_as : (k : Kind) (e : Entry) → safe_as k e ≡ true → safe_as k (record e { state = Done }) ≡ true
done_as Load e h = (both (is_done e.state) _ h).1
done_as Store e h = let p = both (is_done e.state && not (is_faulty e)) _ h in ap₂ (λ a c. a && c) (both (is_done e.state) _ p.0).1 p.1
done_as _ e h = h

-- an entry that lets younger ones be visible still does once it is Done
pub permits_done : (m : SttModel) (e : Entry) → permits m e ≡ true → permits m (record e { state = Done }) ≡ true
permits_done Spectre e h = h
permits_done Futuristic e h = done_as e.item.kind e h
permits_done Off e h = refl

begun_as : (k : Kind) (e : Entry) (cycle due : ℕ) (o : Outcome) → is_done e.state ≡ false → e.resolved ≡ false → safe_as k (executing_until cycle e due o) ≡ safe_as k e
begun_as Load e cycle due o d u = sym (ap (λ d. d && not (is_faulty e)) d)
begun_as Store e cycle due o d u = sym (ap (λ d. d && not (is_faulty e) && e.cleared) d)
begun_as Branch e cycle due o d u = ap (λ r. r && not (is_some o.fault)) u ∙ sym (ap (λ r. r && not (is_faulty e)) u)
begun_as Jalr e cycle due o d u = ap (λ r. r && not (is_some o.fault)) u ∙ sym (ap (λ r. r && not (is_faulty e)) u)
begun_as _ e cycle due o d u = refl

-- an entry that has issued lets younger ones be visible where it did before, and only there
pub permits_begun : (m : SttModel) (e : Entry) (cycle due : ℕ) (o : Outcome) → is_waiting e.state ≡ true → e.resolved ≡ false → permits m (executing_until cycle e due o) ≡ permits m e
permits_begun Spectre e cycle due o w u = refl
permits_begun Futuristic e cycle due o w u = begun_as e.item.kind e cycle due o (waiting_done e.state w) u
permits_begun Off e cycle due o w u = refl

settled_resolved : (k : Kind) (r c : Bool) → settled_as k r c ≡ true → settled_as k true c ≡ true
settled_resolved Branch r c h = refl
settled_resolved Jalr r c h = refl
settled_resolved Store r c h = h
settled_resolved _ r c h = refl

resolved_as : (k : Kind) (e : Entry) → safe_as k e ≡ true → safe_as k (record e { resolved = true }) ≡ true
resolved_as Branch e h = (both e.resolved _ h).1
resolved_as Jalr e h = (both e.resolved _ h).1
resolved_as _ e h = h

-- an entry that lets younger ones be visible still does once it is resolved
pub permits_resolved : (m : SttModel) (e : Entry) → permits m e ≡ true → permits m (record e { resolved = true }) ≡ true
permits_resolved Spectre e h = settled_resolved e.item.kind e.resolved e.cleared h
permits_resolved Futuristic e h = resolved_as e.item.kind e h
permits_resolved Off e h = refl

settled_cleared : (k : Kind) (r c : Bool) → settled_as k r c ≡ true → settled_as k r true ≡ true
settled_cleared Branch r c h = h
settled_cleared Jalr r c h = h
settled_cleared Store r c h = refl
settled_cleared _ r c h = refl

cleared_as : (k : Kind) (e : Entry) → safe_as k e ≡ true → safe_as k (cleared_one e) ≡ true
cleared_as Load e h = h
cleared_as Store e h = ap (λ a. a && true) (both (is_done e.state && not (is_faulty e)) _ h).0
cleared_as Branch e h = h
cleared_as Jalr e h = h
cleared_as Call e h = h
cleared_as (Stop cause) e h = h
cleared_as _ e h = refl

-- an entry that lets younger ones be visible still does once it is cleared
pub permits_cleared : (m : SttModel) (e : Entry) → permits m e ≡ true → permits m (cleared_one e) ≡ true
permits_cleared Spectre e h = settled_cleared e.item.kind e.resolved e.cleared h
permits_cleared Futuristic e h = cleared_as e.item.kind e h
permits_cleared Off e h = refl

-- ---- who permits younger ones to be visible, and who doesn't

left_settled : (k : Kind) (r c : Bool) → (not (is_control k) || r) ≡ true → (is_store k ≡ true → c ≡ true) → settled_as k r c ≡ true
left_settled Branch r c h w = h
left_settled Jalr r c h w = h
left_settled Store r c h w = w refl
left_settled _ r c h w = refl

left_safe : (k : Kind) (e : Entry) → is_done e.state ≡ true → (not (is_control k) || e.resolved) ≡ true → trap_as k e ≡ None → is_call k ≡ false →
    (is_store k ≡ true → e.cleared ≡ true) → safe_as k e ≡ true
left_safe Load e d r t c w = ap₂ (λ a f. a && not (is_some f)) d t
left_safe Store e d r t c w = ap₂ (λ a b. a && b) (ap₂ (λ a f. a && not (is_some f)) d t) (w refl)
left_safe Branch e d r t c w = ap₂ (λ a f. a && not (is_some f)) r t
left_safe Jalr e d r t c w = ap₂ (λ a f. a && not (is_some f)) r t
left_safe Call e d r t c w = absurd (cc)
left_safe (Stop cause) e d r t c w = absurd (cc)
left_safe _ e d r t c w = refl

-- an entry that may leave without a trap permits younger ones to be visible, but for a call, and a store once it is
-- cleared
pub permits_leaving : (m : SttModel) (e : Entry) → may_leave e ≡ true → trap_of e ≡ None → is_call e.item.kind ≡ false →
    (is_store e.item.kind ≡ true → e.cleared ≡ true) → permits m e ≡ true
permits_leaving Spectre e l t c w = left_settled e.item.kind e.resolved e.cleared (both (is_done e.state) _ l).1 w
permits_leaving Futuristic e l t c w = let b = both (is_done e.state) _ l in left_safe e.item.kind e b.0 b.1 t c w
permits_leaving Off e l t c w = refl

-- a store that isn't cleared isn't settled
pub uncleared_as : (k : Kind) (r c : Bool) → is_store k ≡ true → c ≡ false → settled_as k r c ≡ false
uncleared_as Store r c s u = u
uncleared_as _ r c s u = absurd (cc)

hidden_as : (k : Kind) (e : Entry) → is_store k ≡ true → e.cleared ≡ false → safe_as k e ≡ false
hidden_as Store e s u = ap (λ c. is_done e.state && not (is_faulty e) && c) u ∙ and_false (is_done e.state && not (is_faulty e))
  where
    and_false : (b : Bool) → (b && false) ≡ false
    and_false true = refl
    and_false false = refl
hidden_as _ e s u = absurd (cc)

-- a store that isn't cleared lets no younger entry be visible, under each model that protects
pub uncleared_fails : (m : SttModel) (e : Entry) → protects m ≡ true → is_store e.item.kind ≡ true → e.cleared ≡ false → permits m e ≡ false
uncleared_fails Spectre e p s u = uncleared_as e.item.kind e.resolved e.cleared s u
uncleared_fails Futuristic e p s u = hidden_as e.item.kind e s u
uncleared_fails Off e p s u = absurd (cc)
