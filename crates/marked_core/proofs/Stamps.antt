-- When entries have issued: none in a cycle before its Issue, and after a cycle none in a later one.
use Rattle.std.proofs.Common.{◌≡◌, ℕ, ◌+◌, Bool, true, false, List, [], ◌∷◌, ◌++◌, map, Option, Some, None, refl, sym, ◌∙◌, subst, arith}
use Rattle.std.proofs.lemmas.Bool.Decides.{nat_tests}
use Rattle.std.specs.Prelude.{if◌then◌else◌, reverse}
use Rattle.std.specs.List.{AllByRecursion as Each}
use Rattle.rv_types.specs.Isa.{Effect}
use Rattle.rv_types.specs.Memory.{Code}
use Rattle.rv_types.specs.declared.End.{End}
use Rattle.rv_types.specs.declared.Kind.{Kind}
use Rattle.rv_types.specs.declared.Kind.TheVariants.{Load}
use Rattle.machine_desc.specs.declared.Desc.{Desc}
use Rattle.window_model.specs.declared.Entry.{Entry}
use Rattle.window_model.specs.declared.Progress.TheVariants.{Done}
use Rattle.window_model.specs.declared.lookup.Access.{Access}
use Rattle.window_model.specs.declared.lookup.Access.TheVariants.{Faults, Forwards, Looks, Waits}
use Rattle.window_model.specs.Around.{Around, around}
use Rattle.window_model.specs.Clear.{clear, cleared_one}
use Rattle.window_model.specs.Cycle.{begins_cycle, cycle}
use Rattle.window_model.specs.Fetch.{fetch}
use Rattle.window_model.specs.Fill.{complete, after_completion, completes, fill}
use Rattle.window_model.specs.Issue.{Begun, access_of, begin_as, issue, issue_entry, load_as}
use Rattle.window_model.specs.Order.{each_from}
use Rattle.window_model.specs.Rename.{rename, entry_of_item}
use Rattle.window_model.specs.Resolve.{resolve}
use Rattle.window_model.specs.Retire.{retire, unless_ended}
use Rattle.window_model.specs.State.{Machine, nothing, then_does}
use Rattle.window_model.proofs.Clearing.{clear_keep}
use Rattle.window_model.proofs.Issuing.{by_issue, gone_parts}
use Rattle.window_model.proofs.Placing.{place_keep}
use Rattle.window_model.proofs.Quiet.{at_retire, cycle_is}
use Rattle.window_model.proofs.Resolving.{MayResolve, resolved_one}
use Rattle.window_model.proofs.Walks.{fetch_keep, rename_keep}
use Rattle.machine_facts.specs.Timely.{PartDue, PartsDue}
use Rattle.machine_facts.proofs.Adds.{complete_adds, fill_adds, resolve_adds, retire_turns}
use Rattle.machine_facts.proofs.ClearPhases.{clear_adds}
use Rattle.committed_state.specs.Consistent.{IsDueBy}
use Rattle.secret_marks.specs.Marks.{is_at}
use Rattle.entry_marks.proofs.Fitting.{retire_went}
use Rattle.marked_core.specs.InStep.{IssuedBy, NotYet}

-- ---- what holds of each entry and doesn't ask for its progress

module _ (P : Entry → Type 0) where
  each_swap : (b : List Entry) (e e2 : Entry) (ys zs : List Entry) → (P e → P e2) → (Each P ys → Each P zs) → Each P (b ++ e ∷ ys) → Each P (b ++ e2 ∷ zs)
  each_swap [] e e2 ys zs f g h = (f h.0, g h.1)
  each_swap (x ∷ b) e e2 ys zs f g h = (h.0, each_swap b e e2 ys zs f g h.1)

  each_front : (front back : List Entry) → Each P (front ++ back) → Each P front
  each_front [] back h = tt
  each_front (e ∷ front) back h = (h.0, each_front front back h.1)

  each_back : (front back : List Entry) → Each P (front ++ back) → Each P back
  each_back [] back h = h
  each_back (e ∷ front) back h = each_back front back h.1

  each_more : (es : List Entry) (e : Entry) → Each P es → P e → Each P (es ++ e ∷ [])
  each_more [] e h p = (p, tt)
  each_more (f ∷ es) e h p = (h.0, each_more es e h.1 p)

  module _ (done : (e : Entry) → P e → P (record e { state = Done })) (resolved : (d : Desc) (b : List Entry) (e : Entry) → MayResolve d b e → P e → P (resolved_one e)) (cleared : (e : Entry) → P e → P (cleared_one e)) where
    one_completed : (b : Bool) (e : Entry) → P e → P (if b then record e { state = Done } else e)
    one_completed true e h = done e h
    one_completed false e h = h

    all_completed : (cycle : ℕ) (es : List Entry) → Each P es → Each P (map (after_completion cycle) es)
    all_completed cycle [] h = tt
    all_completed cycle (e ∷ es) h = (one_completed (completes cycle e) e h.0, all_completed cycle es h.1)

    all_resolved : (d : Desc) (x : Machine) → Each P x.window → Each P (resolve d x).machine.window
    all_resolved d x h =
        place_keep d (Each P) each_front (λ b e ys may h. each_swap (reverse b) e (resolved_one e) ys ys (resolved d b e may) (λ k. k) h) x h

    all_cleared : (d : Desc) (x : Machine) → Each P x.window → Each P (clear d x).machine.window
    all_cleared d x h =
        clear_keep d (λ y. Each P y.window)
        (λ y p c h. each_swap (reverse p.before) p.entry (cleared_one p.entry) p.younger p.younger (cleared p.entry) (λ k. k) (subst (Each P) c.window h))
        (λ y p q c v h.
        each_swap (reverse p.before) p.entry (cleared_one p.entry) p.younger (reverse q.before) (cleared p.entry)
        (λ k. each_front (reverse q.before) (q.entry ∷ q.younger) (subst (Each P) v.younger k)) (subst (Each P) c.window h))
        x h

    all_retired : (d : Desc) (x : Machine) → Each P x.window → Each P (retire d x).machine.window
    all_retired d x h = let w = retire_went d x in each_back w.gone (retire d x).machine.window (subst (Each P) w.is h)

    -- what holds of each entry between cycles, and doesn't ask for its progress, holds of each that Issue finds
    pub found_by_issue : (d : Desc) (x : Machine) → Each P x.window → Each P (retire d (at_retire d x)).machine.window
    found_by_issue d x h =
        let x2 = (fill d (begins_cycle x)).machine in
        let x3 = (complete x2).machine in
        let x4 = (resolve d x3).machine in
        all_retired d (at_retire d x) (all_cleared d x4 (all_resolved d x3 (all_completed x2.cycle x.window h)))

-- the number of the cycle has risen by one as Issue finds it
pub number_found : (d : Desc) (x : Machine) → (retire d (at_retire d x)).machine.cycle ≡ x.cycle + 1
number_found d x =
    let x1 = begins_cycle x in
    let x2 = (fill d x1).machine in
    let x3 = (complete x2).machine in
    let x4 = (resolve d x3).machine in
    (retire_turns d (at_retire d x)).cycle
    ∙ (clear_adds d x4).cycle
    ∙ (resolve_adds d x3).cycle
    ∙ (complete_adds x2).cycle
    ∙ (fill_adds d x1).cycle

-- ---- no entry has issued in the cycle before Issue

later : (n : ℕ) (o : Option ℕ) → IsDueBy n o → is_at (n + 1) o ≡ false
later n None h = refl
later n (Some c) h = grind (arith, nat_tests)

part_later : (n : ℕ) (o : Option ℕ) → PartDue n o → is_at (n + 1 + 1) o ≡ false
part_later n None h = refl
part_later n (Some c) h = later (n + 1) (Some c) h

all_not_yet : (n : ℕ) (es : List Entry) → Each (IssuedBy n) es → Each (PartsDue n) es → Each (NotYet (n + 1)) es
all_not_yet n [] h p = tt
all_not_yet n (e ∷ es) h p = ((later n e.issued h.0, part_later n e.data_due p.0.1), all_not_yet n es h.1 p.1)

pub found_not_yet : (d : Desc) (x : Machine) → Each (IssuedBy x.cycle) x.window → Each (PartsDue x.cycle) x.window →
    let y = (retire d (at_retire d x)).machine in Each (NotYet y.cycle) y.window
found_not_yet d x h p =
    let y = (retire d (at_retire d x)).machine in
    subst (λ n. Each (NotYet n) y.window) (sym (number_found d x))
    (found_by_issue (NotYet (x.cycle + 1)) (λ e h. h) (λ d b e may h. h) (λ e h. h) d x (all_not_yet x.cycle x.window h p))

-- ---- after a cycle no entry has issued in a later one

later_by : (n : ℕ) (o : Option ℕ) → IsDueBy n o → IsDueBy (n + 1) o
later_by n None h = tt
later_by n (Some c) h = omega (arith, h)

all_later : (n : ℕ) (es : List Entry) → Each (IssuedBy n) es → Each (IssuedBy (n + 1)) es
all_later n [] h = tt
all_later n (e ∷ es) h = (later_by n e.issued h.0, all_later n es h.1)

load_begins : (a : Access) (d : Desc) (now : Around) (e : Entry) (f : Effect) (v : ℕ) → IssuedBy now.cycle e → IssuedBy now.cycle (load_as a d now e f v).entry
load_begins (Faults c) d now e f v h = omega arith
load_begins Forwards d now e f v h = omega arith
load_begins (Looks found ahead) d now e f v h = omega arith
load_begins Waits d now e f v h = h

begins : (k : Kind) (d : Desc) (now : Around) (b : List Entry) (e : Entry) → IssuedBy now.cycle e → IssuedBy now.cycle (begin_as k d now b e).entry
begins Load d now b e h = load_begins (access_of d now b e) d now e _ _ h
begins _ d now b e h = omega arith

goes_by : (now : Around) (b : List Entry) (e : Entry) (a c : Bool) → IssuedBy now.cycle e → IssuedBy now.cycle (gone_parts now b a c e)
goes_by now b e true true h = h
goes_by now b e true false h = h
goes_by now b e false true h = h
goes_by now b e false false h = h

all_issued : (d : Desc) (now : Around) (b es : List Entry) → Each (IssuedBy now.cycle) es → Each (IssuedBy now.cycle) (map (λ (t : Begun). t.entry) (each_from (issue_entry d now) b es))
all_issued d now b [] h = tt
all_issued d now b (e ∷ es) h =
    (by_issue d now b e (IssuedBy now.cycle) h.0 (λ s m. begins e.item.kind d now b e h.0) (λ s a c g k. goes_by now b e a c h.0), all_issued d now (e ∷ b) es h.1)

module _ (d : Desc) (code : Code) (n : ℕ) where
  all_fetched : (x : Machine) → Each (IssuedBy n) x.window → Each (IssuedBy n) (fetch d code (rename d x).machine).machine.window
  all_fetched x h =
      fetch_keep d (λ y. Each (IssuedBy n) y.window) code (λ y pc q r k. k) (rename d x).machine
      (rename_keep d (λ y. Each (IssuedBy n) y.window) (λ y i rest q f k. each_more (IssuedBy n) y.window (entry_of_item d y.next_serial i) k tt) x h)

  by_end : (o : Option End) (x : Machine) → x.cycle ≡ n → Each (IssuedBy n) x.window →
      Each (IssuedBy n) (unless_ended o (nothing x) (then_does (issue d x) (λ y. then_does (rename d y) (fetch d code)))).machine.window
  by_end (Some e) x q h = h
  by_end None x q h =
      all_fetched (issue d x).machine
      (subst (λ k. Each (IssuedBy k) (issue d x).machine.window) q (all_issued d (around x) [] x.window (subst (λ k. Each (IssuedBy k) x.window) (sym q) h)))

pub cycle_issued : (d : Desc) (code : Code) (x : Machine) → Each (IssuedBy x.cycle) x.window → Each (IssuedBy (x.cycle + 1)) (cycle d code x).machine.window
cycle_issued d code x h =
    let y = (retire d (at_retire d x)).machine in
    subst (λ (z : Machine). Each (IssuedBy (x.cycle + 1)) z.window) (sym (cycle_is d code x))
    (by_end d code (x.cycle + 1) y.end y (number_found d x)
    (found_by_issue (IssuedBy (x.cycle + 1)) (λ e h. h) (λ d b e may h. h) (λ e h. h) d x (all_later x.cycle x.window h)))
