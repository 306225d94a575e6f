-- Issue tells nothing: who issues, what it accesses and how long it takes is equal in both runs.
use Rattle.std.proofs.Common.{subst, ◌≡◌, ℕ, ◌+◌, Bool, true, false, List, [], ◌∷◌, ◌++◌, map, reverse, length, Some, None, refl, ap, ap₂, sym, ◌∙◌}
use Rattle.std.specs.List.{flat_map}
use mathlib.Core.List.{reverse_aux}
use Rattle.rv_types.specs.Memory.{Code}
use Rattle.rv_types.specs.Isa.{Effect}
use Rattle.rv_types.specs.declared.Kind.{Kind}
use Rattle.rv_types.specs.declared.Kind.TheVariants.{Mul, Div, Load}
use Rattle.machine_desc.specs.declared.Desc.{Desc}
use Rattle.window_model.specs.declared.Entry.{Entry}
use Rattle.window_model.specs.declared.Event.{Event}
use Rattle.window_model.specs.declared.Progress.TheVariants.{Busy}
use Rattle.window_model.specs.State.{Machine}
use Rattle.window_model.specs.Order.{Place, each_from, is_load, is_store}
use Rattle.window_model.specs.Around.{Around, around}
use Rattle.window_model.specs.declared.lookup.Access.{Access}
use Rattle.window_model.specs.declared.lookup.Access.TheVariants.{Faults, Forwards, Looks, Waits}
use Rattle.window_model.specs.Access.{look_events}
use Rattle.window_model.specs.MayIssue.{effect_of, may_issue_as}
use Rattle.window_model.specs.Ports.{Port, AddressPort, DataPort, DivPort, LoadPort, is_granted, may_at, port_of}
use Rattle.window_model.specs.Issue.{issue, issue_entry, issue_whole, begin_as, Begun, waits, load_as, access_of, value_loaded, is_division}
use Rattle.window_model.specs.inner.Issue.{parts_as}
use Rattle.window_model.proofs.Together.{entry_parts, issue_parts}
use Rattle.window_model.specs.Along.{Along}
use Rattle.window_model.specs.Shape.{SameShape}
use Rattle.window_model.specs.Retire.{hart_of}
use Rattle.window_model.specs.declared.Event.TheVariants as event
use Rattle.window_model.proofs.Booleans.{both}
use Rattle.window_model.proofs.LookedUp.{same_due_by}
use Rattle.window_model.proofs.Places.{Found}
use Rattle.window_model.proofs.Issuing.{asks_division, asks_load, may_own, may_parts, load_clean, division_clean}
use Rattle.committed_state.specs.Consistent.{IsItem, EntryInvariant, bank_in}
use Rattle.two_runs.specs.Masks.{SamePlace, without_contents}
use Rattle.two_runs.proofs.Choices.{if_both}
use Rattle.two_runs.proofs.Issue.{DivisionsAsk, LoadsAsk, issue_leaves, issue_left, same_taken}
use Rattle.two_runs.proofs.Masks.{along, lengths, peel}
use Rattle.noninterference.specs.Alike.{Alike, shown_after, without_outcome}
use Rattle.noninterference.specs.Outcomes.{SameOutcomes}
use Rattle.noninterference.specs.Laws.{IssueTellsNothing}
use Rattle.noninterference.proofs.Looking.{same_kind, seen_by_outcomes}
use Rattle.noninterference.proofs.May.{at_alike, granted_alike}
use Rattle.noninterference.proofs.Masks.{all_hidden, hides, tells}
use Rattle.noninterference.proofs.Access.{untainted_access, untainted_time}

-- ---- what an entry begins

-- what an entry begins, without its outcome
abbrev begun_without : Begun → Begun
begun_without b = record b { entry = without_outcome b.entry }

-- what shows of an entry that begins, whatever its outcome
abbrev beginning : Entry → ℕ → ℕ → List Event → Begun
beginning t cycle due vs = record { entry = record t { state = Busy due; outcome = None; issued = Some cycle }; events = vs }

same_begins : (e e2 : Entry) (cycle cycle2 due due2 : ℕ) (vs vs2 : List Event) → without_outcome e ≡ without_outcome e2 → cycle ≡ cycle2 → due ≡ due2 → vs ≡ vs2 → beginning (without_outcome e) cycle due vs ≡ beginning (without_outcome e2) cycle2 due2 vs2
same_begins e e2 cycle cycle2 due due2 vs vs2 h c q g =
    ap (λ t. beginning t cycle due vs) h ∙ ap (λ n. beginning (without_outcome e2) n due vs) c ∙ ap (λ n. beginning (without_outcome e2) cycle2 n vs) q ∙ ap (beginning (without_outcome e2) cycle2 due2) g

same_waits : (e e2 : Entry) → without_outcome e ≡ without_outcome e2 → begun_without (waits e) ≡ begun_without (waits e2)
same_waits e e2 h = ap (λ t. let b : Begun = record { entry = t; events = [] } in b) h

same_load_as : (a : Access) (d : Desc) (now now2 : Around) (e e2 : Entry) (f f2 : Effect) (v v2 : ℕ) → without_outcome e ≡ without_outcome e2 → now.cycle ≡ now2.cycle → begun_without (load_as a d now e f v) ≡ begun_without (load_as a d now2 e2 f2 v2)
same_load_as (Faults c) d now now2 e e2 f f2 v v2 h q = same_begins e e2 _ _ _ _ _ _ h q (ap (λ n. n + 1) q) (ap (λ (t : Entry). event.LdFault t.serial ∷ []) h)
same_load_as Forwards d now now2 e e2 f f2 v v2 h q = same_begins e e2 _ _ _ _ _ _ h q (ap (λ n. n + 1) q) (ap (λ (t : Entry). event.LdForward t.serial ∷ []) h)
same_load_as (Looks found ahead) d now now2 e e2 f f2 v v2 h q = same_begins e e2 _ _ _ _ _ _ h q (same_due_by d now now2 found q) (ap (λ (t : Entry). look_events t.serial found ahead) h)
same_load_as Waits d now now2 e e2 f f2 v v2 h q = same_waits e e2 h

-- ---- the parts of a store

-- the parts of a store that issue hide what they compute: address, fault and data
parts_hide : (a c : Bool) (d : Desc) (now now2 : Around) (f f2 : Effect) (e : Entry) → now.cycle ≡ now2.cycle → begun_without (parts_as a c d now f e) ≡ begun_without (parts_as a c d now2 f2 (without_outcome e))
parts_hide true true d now now2 f f2 e q = ap (λ n. begun_without (parts_as true true d (record now2 { cycle = n }) f2 (without_outcome e))) q
parts_hide true false d now now2 f f2 e q = ap (λ n. begun_without (parts_as true false d (record now2 { cycle = n }) f2 (without_outcome e))) q
parts_hide false true d now now2 f f2 e q = ap (λ n. begun_without (parts_as false true d (record now2 { cycle = n }) f2 (without_outcome e))) q
parts_hide false false d now now2 f f2 e q = refl

module _ (cycle : ℕ) (d : Desc) (code : Code) (x x2 : Machine) (r : Alike x x2) (place : SameShape x.ram x2.ram) where
  abbrev now : Around
  now = around x

  abbrev now2 : Around
  now2 = around x2

  cycle_same : x.cycle ≡ x2.cycle
  cycle_same = ap (λ (m : Machine). m.cycle) r

  abbrev BegunAlike : Begun → Begun → Type 0
  BegunAlike o o2 = begun_without o ≡ begun_without o2

  begin_alike : (k : Kind) (b b2 : List Entry) (e e2 : Entry) → e.item.kind ≡ k → SameOutcomes d.stt_model b b2 → without_outcome e ≡ without_outcome e2 → IsItem code e.item → may_issue_as k d now b e ≡ true → begun_without (begin_as k d now b e) ≡ begun_without (begin_as k d now2 b2 e2)
  begin_alike Load b b2 e e2 q s h item m =
      let a = untainted_access d code x x2 r place b b2 s e e2 h item (ap is_load q) (load_clean Load d now b e m refl) in
      let f = effect_of x.regs b e in
      let f2 = effect_of x2.regs b2 e2 in
      ap (λ a. begun_without (load_as a d now e f (value_loaded x.ram b e f.addr))) a
      ∙ same_load_as (access_of d now2 b2 e2) d now now2 e e2 f f2 (value_loaded x.ram b e f.addr) (value_loaded x2.ram b2 e2 f2.addr) h cycle_same
  begin_alike Div b b2 e e2 q s h item m =
      let t = untainted_time d code x x2 r place b b2 s e e2 h (division_clean Div d now b e m refl) in
      same_begins e e2 _ _ _ _ _ _ h cycle_same (let c = cycle_same in cc) (let g = ap (λ (t : Entry). t.serial) h in cc)
  begin_alike Mul b b2 e e2 q s h item m = same_begins e e2 _ _ _ _ _ _ h cycle_same (ap (λ n. n + d.units_mul_latency) cycle_same) (ap (λ (t : Entry). event.Mul t.serial ∷ []) h)
  begin_alike k b b2 e e2 q s h item m = same_begins e e2 _ _ _ _ _ _ h cycle_same (ap (λ n. n + 1) cycle_same) (ap (λ (t : Entry). event.Alu t.serial ∷ []) h)

  -- two entries that issue in one piece show the same
  whole_alike : (b b2 : List Entry) (e e2 : Entry) → is_store e.item.kind ≡ false → SameOutcomes d.stt_model b b2 → without_outcome e ≡ without_outcome e2 → IsItem code e.item → begun_without (issue_whole d now b e) ≡ begun_without (issue_whole d now2 b2 e2)
  whole_alike b b2 e e2 n s h item =
      let port = port_of e.item.kind in
      let k = same_kind e e2 h in
      let g = granted_alike d x x2 r place b b2 s e e2 h port ∙ ap (λ k. is_granted d now2 (port_of k) b2 e2) k in
      if_both BegunAlike (is_granted d now port b e) (is_granted d now2 (port_of e2.item.kind) b2 e2) _ _ _ _ g
      (λ t. begin_alike e.item.kind b b2 e e2 refl s h item (may_parts d now b e (sym (may_own d now b e n) ∙ (both (may_at d now port b e) _ t).0)).kind ∙ ap (λ k. begun_without (begin_as k d now2 b2 e2)) k) (λ t. same_waits e e2 h)

  -- two stores that issue by parts show the same
  parts_alike : (b b2 : List Entry) (e e2 : Entry) → SameOutcomes d.stt_model b b2 → without_outcome e ≡ without_outcome e2 → begun_without (issue_parts d now b e) ≡ begun_without (issue_parts d now2 b2 e2)
  parts_alike b b2 e e2 s h =
      let f = effect_of x.regs b e in
      let f2 = effect_of x2.regs b2 e2 in
      let address2 = is_granted d now2 AddressPort b2 e2 in
      let datum2 = is_granted d now2 DataPort b2 e2 in
      ap₂ (λ a c. begun_without (parts_as a c d now f e)) (granted_alike d x x2 r place b b2 s e e2 h AddressPort) (granted_alike d x x2 r place b b2 s e e2 h DataPort)
      ∙ parts_hide address2 datum2 d now now2 f f2 e cycle_same
      ∙ ap (λ t. begun_without (parts_as address2 datum2 d now2 f2 t)) h
      ∙ sym (parts_hide address2 datum2 d now2 now2 f2 f2 e2 refl)

  entry_alike : (b b2 : List Entry) (e e2 : Entry) → SameOutcomes d.stt_model b b2 → without_outcome e ≡ without_outcome e2 → IsItem code e.item → begun_without (issue_entry d now b e) ≡ begun_without (issue_entry d now2 b2 e2)
  entry_alike b b2 e e2 s h item =
      ap begun_without (entry_parts d now b e)
      ∙ if_both BegunAlike (is_store e.item.kind) (is_store e2.item.kind) _ _ _ _ (ap is_store (same_kind e e2 h)) (λ n. parts_alike b b2 e e2 s h) (λ n. whole_alike b b2 e e2 n s h item)
      ∙ sym (ap begun_without (entry_parts d now2 b2 e2))

  each_alike : (es es2 b b2 : List Entry) → length es ≡ length es2 → SameOutcomes d.stt_model (reverse_aux es b) (reverse_aux es2 b2) → Along (EntryInvariant d code (bank_in (hart_of x)) cycle) b es →
      let bs = each_from (issue_entry d now) b es in let bs2 = each_from (issue_entry d now2) b2 es2 in
      (map without_outcome (map (λ b. b.entry) bs) ≡ map without_outcome (map (λ b. b.entry) bs2)) × (flat_map (λ b. b.events) bs ≡ flat_map (λ b. b.events) bs2)
  each_alike [] [] b b2 l s i = (refl, refl)
  each_alike (e ∷ es) (e2 ∷ es2) b b2 l s i =
      let here = peel (SameOutcomes d.stt_model) (λ e e2 b b2 s. s.1) es es2 (e ∷ b) (e2 ∷ b2) (cc) s in
      let one = entry_alike b b2 e e2 here.1 here.0.but_outcome i.0.item in
      let rest = each_alike es es2 (e ∷ b) (e2 ∷ b2) (cc) s i.1 in
      (ap₂ (λ (t : Begun) ts. t.entry ∷ ts) one rest.0, ap₂ (λ (t : Begun) vs. t.events ++ vs) one rest.1)
  each_alike _ _ b b2 l s i = absurd (cc)

  -- ---- the load that is tried, and the division

  -- a place at which the same load or division asks
  abbrev Asking : Place → Place → Type 0
  Asking p p2 = SamePlace hides (SameOutcomes d.stt_model) x.window p p2

  -- an entry of a consistent window is an instruction of the program
  item_at : (b older es : List Entry) (e : Entry) → Along (EntryInvariant d code (bank_in (hart_of x)) cycle) b (older ++ e ∷ es) → IsItem code e.item
  item_at b [] es e i = i.0.item
  item_at b (o ∷ older) es e i = item_at (o ∷ b) older es e i.1

  load_asks : Along (EntryInvariant d code (bank_in (hart_of x)) cycle) [] x.window → (p p2 : Place) → Asking p p2 → Found (may_at d now LoadPort) [] x.window p → LoadsAsk d x x2 (ap without_contents r) p p2
  load_asks i p p2 s at =
      let t = asks_load d now p.before p.entry at.has in
      let l : is_load p.entry.item.kind ≡ true = ap is_load t.1 in
      let item = item_at [] at.older p.younger p.entry (subst (Along (EntryInvariant d code (bank_in (hart_of x)) cycle) []) at.all i) in
      let m = load_clean p.entry.item.kind d now p.before p.entry (may_parts d now p.before p.entry t.0).kind l in
      untainted_access d code x x2 r place p.before p2.before s.known.1 p.entry p2.entry s.known.0.but_outcome item l m

  division_asks : (p p2 : Place) → Asking p p2 → Found (may_at d now DivPort) [] x.window p → DivisionsAsk d x x2 (ap without_contents r) p p2
  division_asks p p2 s at =
      let t = asks_division d now p.before p.entry at.has in
      let m = division_clean p.entry.item.kind d now p.before p.entry (may_parts d now p.before p.entry t.0).kind (ap is_division t.1) in
      let h = s.known.0.but_outcome in
      same_taken d x x2 (ap without_contents r) p.before p2.before (seen_by_outcomes d.stt_model p.before p2.before s.known.1) p.entry p2.entry h (untainted_time d code x x2 r place p.before p2.before s.known.1 p.entry p2.entry h m)

  issue_alike : SameOutcomes d.stt_model (reverse x.window) (reverse x2.window) → Along (EntryInvariant d code (bank_in (hart_of x)) cycle) [] x.window → shown_after (issue d x) ≡ shown_after (issue d x2)
  issue_alike s i =
      let w = all_hidden x.window x2.window (ap (λ (m : Machine). m.window) r) in
      let l = (lengths hides x.window x.window x2.window w).1 in
      let q = each_alike x.window x2.window [] [] l s i in
      let S = SameOutcomes d.stt_model in
      let answers = λ (port : Port).
      along S (λ e e2 b b2 s. s.1) (may_at d now port) (may_at d now2 port) (λ b b2 e e2 s. at_alike d x x2 r place b b2 s.1 e e2 s.0.but_outcome port) [] [] x.window x2.window l s in
      tells hides (issue d x).machine.window (issue d x) (issue d x2) ((issue_leaves d x).kept.0 ∙ ap (λ (m : Machine). m.regs) r ∙ sym (issue_leaves d x2).kept.0)
      (issue_left d x x2 (ap without_contents r) hides x.window (issue d x).machine.window S w answers (load_asks i) division_asks q.1
      (all_hidden (issue d x).machine.window (issue d x2).machine.window q.0))

-- Issue tells nothing of two machines that show the same, where outcomes that may be looked at are equal
pub issue_tells_nothing : IssueTellsNothing
issue_tells_nothing now d code x x2 c r o p = issue_alike now d code x x2 r p o c.entries
