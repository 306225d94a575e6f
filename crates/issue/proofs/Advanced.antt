-- The visibility point that has moved over a window goes on to say which entries are visible as entries begin: what
-- waits doesn't permit younger ones to be visible, and neither does what executes, unless it always does.
use Rattle.std.proofs.Common.{◌≡◌, ℕ, ◌+◌, Bool, true, false, not, ◌&&◌, List, [], ◌∷◌, Option, Some, None, refl, ap, ap₂, sym, ◌∙◌, subst}
use Rattle.std.proofs.lemmas.List.Elements.{All-head, All-tail}
use Rattle.std.specs.List.{All, AllZip, AllByRecursion as Each}
use Rattle.std.specs.Prelude.{map}
use Rattle.machine_desc.specs.declared.Desc.{Desc}
use Rattle.machine_desc.specs.declared.SttModel.{SttModel}
use Rattle.machine_desc.specs.declared.SttModel.TheVariants.{Spectre, Futuristic, Off}
use Rattle.rv_types.specs.declared.Kind.{Kind}
use Rattle.rv_types.specs.declared.Kind.TheVariants.{Store}
use Rattle.window_model.specs.declared.Entry.{Entry}
use Rattle.window_model.specs.declared.Item.{Item}
use Rattle.window_model.specs.declared.Progress.{Progress}
use Rattle.window_model.specs.Around.{Around, around}
use Rattle.window_model.specs.MayIssue.{effect_of}
use Rattle.window_model.specs.Issue.{Begun, busy_until_both, issue, issue_entry, with_address, with_data}
use Rattle.window_model.specs.Order.{each_from, has_address, has_data, is_done, is_faulty, is_store, is_waiting}
use Rattle.window_model.specs.State.{Machine}
use Rattle.window_model.specs.Taint.{permits, safe_as, settled_as}
use Rattle.window_model.proofs.Booleans.{waiting_done}
use Rattle.window_model.proofs.Issuing.{Comes, Remains, Begins, begin_comes, by_issue, gone_parts}
use Rattle.window_model.proofs.Permitting.{permits_begun}
use Rattle.machine_facts.specs.Sized.{HasParts}
use Rattle.visibility.specs.Point.{HasAdvanced, Point}
use Rattle.core_parts.proofs.Advancing.{Alike, alike_advanced}

-- no entry that waits is marked as resolved
abbrev Unresolved : Entry → Type 0
Unresolved e = is_waiting e.state ≡ true → e.resolved ≡ false

comes_alike : (model : SttModel) (e r : Entry) → Comes e r → is_waiting e.state ≡ true → e.resolved ≡ false → Alike model e r
comes_alike model e r (Remains q) w u = subst (Alike model e) (sym q) (refl, refl)
comes_alike model e r (Begins cycle due o q) w u = subst (Alike model e) (sym q) (refl, permits_begun model e cycle due o w u)

-- ---- a store whose parts go isn't Done, before or after

-- a store that lacks a part waits
pub lacks_address : (a b w : Bool) → (a && b) ≡ not w → a ≡ false → w ≡ true
lacks_address false b true h q = refl
lacks_address false b false h q = absurd (cc)
lacks_address true b w h q = absurd (cc)

pub lacks_data : (a b w : Bool) → (a && b) ≡ not w → b ≡ false → w ≡ true
lacks_data a b true h q = refl
lacks_data true false false h q = absurd (cc)
lacks_data false false false h q = absurd (cc)
lacks_data a true false h q = absurd (cc)

pub still_undone : (a c : Option ℕ) (s : Progress) → is_done s ≡ false → is_done (busy_until_both a c s) ≡ false
still_undone (Some a) (Some c) s h = refl
still_undone (Some a) None s h = h
still_undone None c s h = h

undone_fails : (k : Kind) (e : Entry) → is_store k ≡ true → is_done e.state ≡ false → safe_as k e ≡ false
undone_fails Store e s d = ap (λ d. d && not (is_faulty e) && e.cleared) d
undone_fails _ e s d = absurd (cc)

undone_alike : (model : SttModel) (e r : Entry) → is_store e.item.kind ≡ true → is_done e.state ≡ false → r.item ≡ e.item → r.resolved ≡ e.resolved → r.cleared ≡ e.cleared → is_done r.state ≡ false →
    permits model r ≡ permits model e
undone_alike Spectre e r s d i u c n = ap (λ (i : Item). settled_as i.kind r.resolved r.cleared) i ∙ ap₂ (settled_as e.item.kind) u c
undone_alike Futuristic e r s d i u c n = undone_fails r.item.kind r (ap (λ (i : Item). is_store i.kind) i ∙ s) n ∙ sym (undone_fails e.item.kind e s d)
undone_alike Off e r s d i u c n = refl

parts_alike : (model : SttModel) (now : Around) (b : List Entry) (e : Entry) (a c : Bool) → is_store e.item.kind ≡ true → HasParts e → (a ≡ true → has_address e ≡ false) → (c ≡ true → has_data e ≡ false) →
    Alike model e (gone_parts now b a c e)
parts_alike model now b e false false s h p q = (refl, refl)
parts_alike model now b e true true s h p q =
    let d = waiting_done e.state (lacks_address (has_address e) (has_data e) (is_waiting e.state) (h s) (p refl)) in
    (refl, undone_alike model e _ s d refl refl refl refl)
parts_alike model now b e true false s h p q =
    let d = waiting_done e.state (lacks_address (has_address e) (has_data e) (is_waiting e.state) (h s) (p refl)) in
    (refl, undone_alike model e (with_address now (effect_of now.regs b e) e) s d refl refl refl (still_undone (Some (now.cycle + 1)) e.data_due e.state d))
parts_alike model now b e false true s h p q =
    let d = waiting_done e.state (lacks_data (has_address e) (has_data e) (is_waiting e.state) (h s) (q refl)) in
    (refl, undone_alike model e (with_data now (effect_of now.regs b e) e) s d refl refl refl (still_undone e.addr_due (Some (now.cycle + 1)) e.state d))

-- ---- each entry as it issues, and all of them

module _ (d : Desc) (now : Around) (model : SttModel) where
  issued_alike : (b : List Entry) (e : Entry) → HasParts e → Unresolved e → Alike model e (issue_entry d now b e).entry
  issued_alike b e h u =
      by_issue d now b e (Alike model e) (refl, refl) (λ s m. comes_alike model e _ (begin_comes e.item.kind d now b e) m.waits (u m.waits))
      (λ s a c p q. parts_alike model now b e a c s h (λ t. (p t).fresh) (λ t. (q t).fresh))

  all_issued : (b es : List Entry) → Each HasParts es → All Unresolved es → AllZip (Alike model) es (map (λ (t : Begun). t.entry) (each_from (issue_entry d now) b es))
  all_issued b [] h u = tt
  all_issued b (e ∷ es) h u = (issued_alike b e h.0 (All-head Unresolved e es u), all_issued (e ∷ b) es h.1 (All-tail Unresolved e es u))

pub issue_advanced : (d : Desc) (p : Point) (x : Machine) → Each HasParts x.window → All Unresolved x.window → HasAdvanced p x.window → HasAdvanced p (issue d x).machine.window
issue_advanced d p x h u a = alike_advanced p x.window (issue d x).machine.window (all_issued d (around x) p.model [] x.window h u) a
