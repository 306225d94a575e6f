-- Resolve: where the branch or JALR that is resolved goes is equal in both runs, where it waits until it is visible.
use Rattle.std.proofs.Common.{◌≡◌, ℕ, ◌+◌, ◌≤◌, Bool, true, false, not, ◌||◌, List, [], ◌∷◌, ◌++◌, length, Option, Some, None, refl, ap, sym, ◌∙◌, subst, arith}
use Rattle.std.specs.Prelude.{reverse, take}
use Rattle.rv_types.specs.Memory.{Code}
use Rattle.rv_types.specs.Value.{one_if}
use Rattle.rv_types.specs.Isa.{Effect, effect, first_of, second_of}
use Rattle.rv_types.specs.Regs.{reads_of}
use Rattle.rv_types.specs.declared.Kind.{Kind}
use Rattle.rv_types.specs.declared.Kind.TheVariants.{Branch, Jalr}
use Rattle.machine_desc.specs.declared.Desc.{Desc}
use Rattle.window_model.specs.declared.Entry.{Entry}
use Rattle.window_model.specs.declared.Item.{Item}
use Rattle.window_model.specs.declared.Outcome.{Outcome}
use Rattle.window_model.specs.State.{Machine}
use Rattle.window_model.specs.Along.{Along, Behind}
use Rattle.window_model.specs.Committed.{Aligned}
use Rattle.window_model.specs.Issue.{fault_if, outcome}
use Rattle.window_model.specs.Order.{Place, fault_of, first, first_from, has_address, has_data, is_control, is_done, value_of}
use Rattle.window_model.specs.Path.{path}
use Rattle.window_model.specs.Rename.{at_once}
use Rattle.window_model.specs.Resolve.{may_resolve, next_of, resolve, resolve_at}
use Rattle.window_model.specs.Retire.{hart_of}
use Rattle.window_model.specs.Taint.{protects, visible}
use Rattle.window_model.proofs.Resolving.{MayResolve, resolve_parts}
use Rattle.committed_state.specs.Computed.{ComesTo, as_known_by}
use Rattle.committed_state.specs.Consistent.{EntryInvariant, bank_in}
use Rattle.committed_state.specs.Links.{Chain, links}
use Rattle.committed_state.specs.Replay.{Bank, bank, effect_on, replay_outcome, replayed_as}
use Rattle.committed_state.proofs.Bytes.{some_is}
use Rattle.committed_state.proofs.Known.{done_issued, replayed_behind}
use Rattle.noninterference.proofs.Faults.{hart}
use Rattle.noninterference.proofs.OneRun.{Linked, reaches}
use Rattle.noninterference.proofs.PathLink.{visible_clear}
use Rattle.two_runs.specs.Masks.{LeftAlike, ResolvedAlike, SamePlace, without_contents}
use Rattle.two_runs.specs.Seen.{SeenEntries, without_outcome}
use Rattle.two_runs.proofs.Choices.{Both, if_both}
use Rattle.two_runs.proofs.Looking.{same_visible}
use Rattle.two_runs.proofs.Masks.{along_seen, first_same, lengths}
use Rattle.two_runs.proofs.May.{may_resolve_alike}
use Rattle.two_runs.proofs.Resolve.{place_alike, resolve_data}
use Rattle.secret_marks.specs.declared.EntryMarks.{EntryMarks}
use Rattle.secret_marks.specs.Words.{any_byte}
use Rattle.secret_marks.specs.Alike.{Beside, SameEntry}
use Rattle.secret_marks.proofs.Lists.{values_length}
use Rattle.secret_marks.proofs.Looking.{seen_by_marks, windows_seen}
use Rattle.secret_marks.proofs.Masks.{stays, under, unmarked_of}
use Rattle.secret_marks.proofs.Resolve.{settled_alike}
use Rattle.constant_time.specs.Leaks.{LeakAlike, goes_so, leak_as}
use Rattle.constant_time.specs.Laws.{ResolveLeaksAlike}
use Rattle.constant_time.specs.Waits.{WaitsToResolve}
use Rattle.constant_time.proofs.Differ.{equal_unmarked, firm, firm_again}
use Rattle.constant_time.proofs.Onward.{Stands, leaks_at}

-- ---- by kind

known_whole : (k : Kind) (a c : Bool) (v : Outcome) → is_control k ≡ true → as_known_by k a c v ≡ v
known_whole Branch a c v h = refl
known_whole Jalr a c v h = refl
known_whole _ a c v h = absurd (cc)

goes_on : (k : Kind) → is_control k ≡ true → not (at_once k) ≡ true
goes_on Branch h = refl
goes_on Jalr h = refl
goes_on _ h = absurd (cc)

-- the outcome of a branch or JALR with this effect
abbrev going : Effect → Outcome
going f = outcome f f.value (fault_if f.misaligned)

control_replayed : (k : Kind) (s : Bank) (e : Entry) → is_control k ≡ true → replayed_as k s e ≡ going (effect_on s e)
control_replayed Branch s e h = refl
control_replayed Jalr s e h = refl
control_replayed _ s e h = absurd (cc)

-- the effect of an item over these registers
abbrev effect_by : Item → Bank → Effect
effect_by i s = effect i.pc i.instr (first_of (reads_of i.instr) s.regs) (second_of (reads_of i.instr) s.regs)

control_leaks : (k : Kind) (i : Item) (s s2 : Bank) → is_control k ≡ true → leak_as k (hart i.pc s) i.instr ≡ leak_as k (hart i.pc s2) i.instr → goes_so (effect_by i s) ≡ goes_so (effect_by i s2)
control_leaks Branch i s s2 h q = q
control_leaks Jalr i s s2 h q = q
control_leaks _ i s s2 h q = absurd (cc)

one_same : (a b : Bool) → one_if a ≡ one_if b → a ≡ b
one_same true true h = refl
one_same false false h = refl
one_same true false h = absurd (cc)
one_same false true h = absurd (cc)

module _ (now : ℕ) (d : Desc) (protected : protects d.stt_model ≡ true) (code : Code) (aligned : Aligned code) (x x2 : Machine) (n : length x.regs ≡ 32) (n2 : length x2.regs ≡ 32) where
  abbrev s : Bank
  s = bank_in (hart_of x)

  abbrev s2 : Bank
  s2 = bank_in (hart_of x2)

  -- a visible branch or JALR that is Done has the outcome of the replay
  outcome_is : (y : Machine) → length y.regs ≡ 32 → (before : List Entry) (e : Entry) → Stands now d code y before e → visible d.stt_model before ≡ true → is_control e.item.kind ≡ true → is_done e.state ≡ true →
      e.outcome ≡ Some (going (effect_on (bank (bank_in (hart_of y)) before) e))
  outcome_is y m before e w v c f =
      let b = bank_in (hart_of y) in
      let O = replay_outcome (bank b before) e in
      let r = (replayed_behind d code b now m (e ∷ before) (w.here, w.behind)).0 (visible_clear d.stt_model before protected v) in
      let r2 = subst (ComesTo e.outcome) (known_whole e.item.kind (has_address e) (has_data e) O c) r in
      some_is e.outcome O r2 (done_issued d code b now before e w.here (goes_on e.item.kind c) f) ∙ ap Some (control_replayed e.item.kind (bank b before) e c)

  goes_alike : (before before2 : List Entry) (ms : List EntryMarks) (m : EntryMarks) (e e2 : Entry) → Beside SameEntry ms before before2 → SameEntry m e e2 → Stands now d code x before e → Stands now d code x2 before2 e2 →
      visible d.stt_model before ≡ true → MayResolve d before e → LeakAlike (path d.stt_model) code (length before + 1) (hart_of x) (hart_of x2) → ResolvedAlike e e2
  goes_alike before before2 ms m e e2 t h w w2 v r l =
      let v2 : visible d.stt_model before2 ≡ true = sym (same_visible d.stt_model before before2 (seen_by_marks d.stt_model ms before before2 t)) ∙ v in
      let i : e.item ≡ e2.item = ap (λ (t : Entry). t.item) h in
      let c2 : is_control e2.item.kind ≡ true = ap (λ (t : Item). is_control t.kind) (sym i) ∙ r.control in
      let f2 : is_done e2.state ≡ true = ap (λ (t : Entry). is_done t.state) (sym h) ∙ r.done in
      let lk = leaks_at now d protected code aligned x x2 n n2 before before2 e e2 w w2 i (values_length SameEntry ms before before2 t) v v2 l in
      let F = effect_by e.item (bank s before) in
      let F2 = effect_by e.item (bank s2 before2) in
      let g : goes_so F ≡ goes_so F2 = control_leaks e.item.kind e.item (bank s before) (bank s2 before2) r.control lk in
      let o : e.outcome ≡ Some (going F) = outcome_is x n before e w v r.control r.done in
      let o2 : e2.outcome ≡ Some (going F2) = outcome_is x2 n2 before2 e2 w2 v2 c2 f2 ∙ ap (λ (t : Item). Some (going (effect_by t (bank s2 before2)))) (sym i) in
      let va : F.value ≡ F2.value = cc in
      let ne : F.next ≡ F2.next = cc in
      let on : one_if F.misaligned ≡ one_if F2.misaligned = cc in
      let mi = one_same F.misaligned F2.misaligned on in
      record {
        value = ap value_of o ∙ va ∙ sym (ap value_of o2);
        next = ap next_of o ∙ ne ∙ sym (ap next_of o2);
        fault = ap fault_of o ∙ ap fault_if mi ∙ sym (ap fault_of o2);
      }

  -- places at which both runs go on alike, where there are two
  abbrev PlacesGo : Option Place → Option Place → Type 0
  PlacesGo (Some p) (Some p2) = ResolvedAlike p.entry p2.entry
  PlacesGo _ _ = Unit {0}

  module _ (limit : ℕ) (leaks : (k : ℕ) → k ≤ limit → LeakAlike (path d.stt_model) code k (hart_of x) (hart_of x2)) where
    walk : (before before2 : List Entry) (ms ns : List EntryMarks) (es es2 : List Entry) → Beside SameEntry ms before before2 → Beside SameEntry ns es es2 →
        Behind (EntryInvariant d code s now) before → Behind (EntryInvariant d code s2 now) before2 → Along (EntryInvariant d code s now) before es → Along (EntryInvariant d code s2 now) before2 es2 →
        Linked x.pc before → Linked x2.pc before2 → Chain (reaches x.pc before) (links es x.queue) x.fetch_pc → Chain (reaches x2.pc before2) (links es2 x2.queue) x2.fetch_pc →
        Along (WaitsToResolve d) before es → length before + length es ≤ limit →
        PlacesGo (first_from (may_resolve d) before es) (first_from (may_resolve d) before2 es2)
    walk before before2 ms [] [] [] t u b b2 a a2 l l2 c c2 wait lt = tt
    walk before before2 ms (o ∷ ns) (e ∷ es) (e2 ∷ es2) t u b b2 a a2 l l2 c c2 wait lt =
        let w : Stands now d code x before e = record { behind = b; here = a.0; linked = l; at = c.0 } in
        let w2 : Stands now d code x2 before2 e2 = record { behind = b2; here = a2.0; linked = l2; at = c2.0 } in
        if_both PlacesGo (may_resolve d before e) (may_resolve d before2 e2) _ _ _ _ (may_resolve_alike d before before2 (seen_by_marks d.stt_model ms before before2 t) e e2 (ap without_outcome u.0))
        (λ q. goes_alike before before2 ms o e e2 t u.0 w w2 (wait.0 q) (resolve_parts d before e q) (leaks (length before + 1) (omega (arith, lt))))
        (λ q. walk (e ∷ before) (e2 ∷ before2) (o ∷ ms) ns es es2 (u.0, t) u.1 (a.0, b) (a2.0, b2) a.1 a2.1 (c.0, l) (c2.0, l2) c.1 c2.1 wait.1 (omega (arith, lt)))
    walk before before2 ms _ _ _ t u b b2 a a2 l l2 c c2 wait lt = absurd u

-- an entry that goes on alike at one place is unmarked under the marks where both differ
at_places : (d : Desc) (S : List Entry → List Entry → Type 0) (ms : List EntryMarks) (x x2 : Machine) → without_contents x ≡ without_contents x2 → Beside SameEntry ms x.window x2.window → (o o2 : Option Place) → Both (SamePlace unmarked_of S ms) o o2 →
    (GoTwo : Option Place → Option Place → Type 0) → ((p p2 : Place) → GoTwo (Some p) (Some p2) → ResolvedAlike p.entry p2.entry) → GoTwo o o2 →
    (ns : List EntryMarks) × LeftAlike unmarked_of ns (resolve_at d o x) (resolve_at d o2 x2)
at_places d S ms x x2 h w None None s G told g = (ms, record { events = refl; others = h; window = under ms x.window x2.window w })
at_places d S ms x x2 h w (Some p) (Some p2) s G told g =
    let go = told p p2 g in
    let f = firm p.entry p2.entry in
    let ns = reverse s.before_masks ++ f ∷ s.younger_masks in
    let free : (f.goes || any_byte f.result) ≡ false = equal_unmarked (value_of p.entry.outcome) (value_of p2.entry.outcome) go.value in
    let here = firm_again s.mask_here p.entry p2.entry s.here go.next go.fault in
    let s2 : SamePlace unmarked_of S ns p p2 = record { before_masks = s.before_masks; mask_here = f; younger_masks = s.younger_masks; all = refl; before = s.before; here = here; younger = s.younger; known = s.known } in
    (take (length (resolve_at d (Some p) x).machine.window) ns, place_alike unmarked_of S d ns p p2 s2 go (settled_alike f p.entry p2.entry free here) x x2 h)
at_places d S ms x x2 h w None (Some p2) s G told g = absurd s
at_places d S ms x x2 h w (Some p) None s G told g = absurd s

-- Resolve has the same events in two machines whose paths leak alike, where what is resolved is visible
pub resolve_alike : ResolveLeaksAlike
resolve_alike now d code total x x2 protected aligned c c2 le leaks wait h =
    let go = walk now d protected code aligned x x2 c.registers c2.registers (length x.window) (λ j lt. leaks j (omega (arith, lt, le)))
    [] [] [] h.0.window x.window x2.window tt h.1.window tt tt c.entries c2.entries tt tt c.chain c2.chain wait (omega arith) in
    let m = h.0 in
    let w = under m.window x.window x2.window h.1.window in
    let S = SeenEntries d.stt_model in
    let answers = along_seen d.stt_model (may_resolve d) (may_resolve d) (may_resolve_alike d) x.window x2.window (lengths unmarked_of m.window x.window x2.window w).1 (windows_seen d.stt_model m.window x.window x2.window h.1.window) in
    let r = at_places d S m.window x x2 h.1.others h.1.window (first (may_resolve d) x.window) (first (may_resolve d) x2.window)
    (first_same unmarked_of (may_resolve d) (may_resolve d) S [] m.window [] [] x.window x2.window tt w answers)
    (PlacesGo now d protected code aligned x x2 c.registers c2.registers) (λ p p2 g. g) go in
    (record m { window = r.0 }, stays m r.0 x x2 (resolve d x) (resolve d x2) h.1 (resolve_data d x) (resolve_data d x2) r.1)
