-- Issue: no operand that differs shows, where what shows waits until it is visible.
use Rattle.std.proofs.Common.{◌≡◌, ℕ, ◌+◌, ◌<◌, ◌≤◌, Bool, true, false, not, ◌&&◌, ◌||◌, List, [], ◌∷◌, length, refl, ap, ap₂, sym, ◌∙◌, subst, arith}
use Rattle.std.specs.Prelude.{if◌then◌else◌}
use Rattle.std.specs.List.{list_all}
use Rattle.rv_types.specs.Memory.{Code}
use Rattle.rv_types.specs.Isa.{Hart, first_of, reg}
use Rattle.rv_types.specs.Regs.{reads_of}
use Rattle.rv_types.specs.declared.Instr.{Instr}
use Rattle.rv_types.specs.declared.Instr.TheVariants as instr
use Rattle.rv_types.specs.declared.Kind.{Kind}
use Rattle.rv_types.specs.declared.Kind.TheVariants.{Load, Store, Div}
use Rattle.machine_desc.specs.declared.Desc.{Desc}
use Rattle.machine_desc.specs.Questions.{stores_in_one}
use Rattle.window_model.specs.declared.Entry.{Entry}
use Rattle.window_model.specs.declared.Item.{Item}
use Rattle.window_model.specs.State.{Machine}
use Rattle.window_model.specs.Along.{Along, Behind}
use Rattle.window_model.specs.Committed.{Aligned}
use Rattle.window_model.specs.Issue.{issue}
use Rattle.window_model.specs.MayIssue.{asks_by_parts, asks_in_one}
use Rattle.window_model.specs.Order.{base_of, is_waiting, operand, sources, has_address, has_data}
use Rattle.window_model.specs.Path.{path}
use Rattle.window_model.specs.Delay.{may_show}
use Rattle.window_model.specs.Ready.{all_known, is_known, ready}
use Rattle.window_model.specs.Retire.{hart_of}
use Rattle.window_model.specs.Taint.{address_tainted, any_tainted, protects, visible}
use Rattle.window_model.proofs.Booleans.{both}
use Rattle.committed_state.specs.Consistent.{EntryInvariant, bank_in, executed}
use Rattle.committed_state.specs.Links.{Chain, links}
use Rattle.committed_state.specs.Replay.{Bank, bank}
use Rattle.committed_state.proofs.Known.{has_value, replayed_behind}
use Rattle.committed_state.proofs.Operands.{all_known_executed, operand_is}
use Rattle.noninterference.proofs.Faults.{hart}
use Rattle.noninterference.proofs.OneRun.{Linked, reaches}
use Rattle.noninterference.proofs.PathLink.{visible_clear}
use Rattle.secret_marks.specs.declared.EntryMarks.{EntryMarks}
use Rattle.secret_marks.specs.Marks.{Marks, any_marked, after_issue_marks}
use Rattle.secret_marks.specs.Shows.{decides_as, operand_shows, operands_show}
use Rattle.secret_marks.specs.Alike.{Beside, SameEntry}
use Rattle.secret_marks.proofs.Issue.{issue_keeps}
use Rattle.secret_marks.proofs.Lists.{values_length}
use Rattle.secret_marks.proofs.Looking.{seen_by_marks}
use Rattle.two_runs.proofs.Looking.{same_all_known, same_visible}
use Rattle.constant_time.specs.Leaks.{LeakAlike, leak_as}
use Rattle.constant_time.specs.Laws.{IssueLeaksAlike}
use Rattle.constant_time.specs.Waits.{WaitsToIssue}
use Rattle.constant_time.proofs.Differ.{again, all_loose, loosened, operand_unmarked, regs_differ}
use Rattle.constant_time.proofs.Onward.{Stands, leaks_at}

-- ---- what decides has a base that is known

base_known : (d : Desc) (b : List Entry) (rs : List ℕ) → all_known d b rs ≡ true → all_known d b (base_of rs) ≡ true
base_known d b [] h = refl
base_known d b (r ∷ rs) h = ap (λ k. k && true) (both (is_known d b r) (list_all (is_known d b) rs) h).0

asks_known : (v : Bool) (d : Desc) (b : List Entry) (e : Entry) → (if v then asks_in_one d b e else asks_by_parts d b e).address ≡ true → all_known d b (base_of (sources e)) ≡ true
asks_known true d b e h = base_known d b (sources e) (both (ready d b e) (not (has_address e || has_data e)) (both (ready d b e && not (has_address e || has_data e)) (may_show d b) h).0).0
asks_known false d b e h = (both (may_show d b) (all_known d b (base_of (sources e))) (both (not (has_address e)) (may_show d b && all_known d b (base_of (sources e))) h).1).1

decides_known : (k : Kind) (d : Desc) (b : List Entry) (e : Entry) → decides_as k d b e ≡ true → all_known d b (base_of (sources e)) ≡ true
decides_known Load d b e h = base_known d b (sources e) (both (is_waiting e.state) (ready d b e) (both (is_waiting e.state && ready d b e) (not (address_tainted d.stt_model b e) && may_show d b) h).0).1
decides_known Div d b e h = base_known d b (sources e) (both (is_waiting e.state) (ready d b e) (both (is_waiting e.state && ready d b e) (not (any_tainted d.stt_model b e) && may_show d b) h).0).1
decides_known Store d b e h = asks_known (stores_in_one d) d b e h
decides_known _ d b e h = absurd (cc)

-- what decides leaks its base
decides_leaks : (k : Kind) (d : Desc) (b : List Entry) (e : Entry) (s s2 : Hart) (i : Instr) → decides_as k d b e ≡ true → leak_as k s i ≡ leak_as k s2 i → first_of (reads_of i) s.regs ≡ first_of (reads_of i) s2.regs
decides_leaks Load d b e s s2 i h q = cc
decides_leaks Div d b e s s2 i h q = cc
decides_leaks Store d b e s s2 i h q = cc
decides_leaks _ d b e s s2 i h q = absurd (cc)

-- every register that is a base is one of the 32
base_below : (i : Instr) (r : ℕ) (rs : List ℕ) → reads_of i ≡ r ∷ rs → r < 32
base_below (instr.Jalr rd rs1 imm) r rs q = let e : rs1.number ≡ r = cc in let lt = rs1.in_range in omega (arith, e, lt)
base_below (instr.Branch op rs1 rs2 imm) r rs q = let e : rs1.number ≡ r = cc in let lt = rs1.in_range in omega (arith, e, lt)
base_below (instr.Load op rd rs1 imm) r rs q = let e : rs1.number ≡ r = cc in let lt = rs1.in_range in omega (arith, e, lt)
base_below (instr.Store op rs1 rs2 imm) r rs q = let e : rs1.number ≡ r = cc in let lt = rs1.in_range in omega (arith, e, lt)
base_below (instr.OpImm op rd rs1 imm) r rs q = let e : rs1.number ≡ r = cc in let lt = rs1.in_range in omega (arith, e, lt)
base_below (instr.OpReg op rd rs1 rs2) r rs q = let e : rs1.number ≡ r = cc in let lt = rs1.in_range in omega (arith, e, lt)
base_below _ r rs q = absurd (cc)

module _ (now : ℕ) (d : Desc) (protected : protects d.stt_model ≡ true) (code : Code) (aligned : Aligned code) (x x2 : Machine) (n : length x.regs ≡ 32) (n2 : length x2.regs ≡ 32) where
  abbrev s : Bank
  s = bank_in (hart_of x)

  abbrev s2 : Bank
  s2 = bank_in (hart_of x2)

  -- a base that is known, of an entry that is visible, is the register of the replay
  base_is : (y : Machine) → length y.regs ≡ 32 → (before : List Entry) (e : Entry) (r : ℕ) (rs : List ℕ) → sources e ≡ r ∷ rs → Stands now d code y before e → visible d.stt_model before ≡ true →
      all_known d before (base_of (sources e)) ≡ true → operand y.regs before r ≡ reg (bank (bank_in (hart_of y)) before).regs r
  base_is y m before e r rs q w v k =
      let lt = base_below e.item.instr r rs q in
      let c = visible_clear d.stt_model before protected v in
      let f = all_known_executed d before (base_of (sources e)) k in
      let g = subst (λ l. list_all (executed before) (base_of l) ≡ true) q f in
      operand_is (bank_in (hart_of y)) before r (omega (arith, lt, m)) c (replayed_behind d code (bank_in (hart_of y)) now m before w.behind)
      (has_value d code (bank_in (hart_of y)) now before r w.behind w.here.through (both _ _ g).0)

  -- the base of an entry that decides is equal in both runs, where the entry is visible
  base_same : (before before2 : List Entry) (ms : List EntryMarks) (m : EntryMarks) (e e2 : Entry) → Beside SameEntry ms before before2 → SameEntry m e e2 → Stands now d code x before e → Stands now d code x2 before2 e2 →
      visible d.stt_model before ≡ true → decides_as e.item.kind d before e ≡ true → all_known d before2 (base_of (sources e2)) ≡ true → LeakAlike (path d.stt_model) code (length before + 1) (hart_of x) (hart_of x2) →
      (r : ℕ) (rs : List ℕ) → sources e ≡ r ∷ rs → operand x.regs before r ≡ operand x2.regs before2 r
  base_same before before2 ms m e e2 t h w w2 v k k2 l r rs q =
      let v2 : visible d.stt_model before2 ≡ true = sym (same_visible d.stt_model before before2 (seen_by_marks d.stt_model ms before before2 t)) ∙ v in
      let i : e.item ≡ e2.item = ap (λ (t : Entry). t.item) h in
      let q2 : sources e2 ≡ r ∷ rs = ap (λ (t : Item). reads_of t.instr) (sym i) ∙ q in
      let lk = leaks_at now d protected code aligned x x2 n n2 before before2 e e2 w w2 i (values_length SameEntry ms before before2 t) v v2 l in
      let f = decides_leaks e.item.kind d before e (hart e.item.pc (bank s before)) (hart e.item.pc (bank s2 before2)) e.item.instr k lk in
      let g : reg (bank s before).regs r ≡ reg (bank s2 before2).regs r = subst (λ l. first_of l (bank s before).regs ≡ first_of l (bank s2 before2).regs) q f in
      base_is x n before e r rs q w v (decides_known e.item.kind d before e k) ∙ g ∙ sym (base_is x2 n2 before2 e2 r rs q2 w2 v2 k2)

  -- no operand of an entry shows that differs
  one_quiet : (before before2 : List Entry) (ms : List EntryMarks) (m : EntryMarks) (e e2 : Entry) → Beside SameEntry ms before before2 → SameEntry m e e2 → Stands now d code x before e → Stands now d code x2 before2 e2 →
      WaitsToIssue d before e → (decides_as e.item.kind d before e ≡ true → all_known d before2 (base_of (sources e2)) ≡ true) → LeakAlike (path d.stt_model) code (length before + 1) (hart_of x) (hart_of x2) →
      (decides_as e.item.kind d before e && any_marked (regs_differ x.regs x2.regs) before (all_loose before before2) (base_of (sources e))) ≡ false
  one_quiet before before2 ms m e e2 t h w w2 wait known l = by_decides (decides_as e.item.kind d before e) refl
    where
      by_sources : decides_as e.item.kind d before e ≡ true → (rs : List ℕ) → sources e ≡ rs → any_marked (regs_differ x.regs x2.regs) before (all_loose before before2) (base_of rs) ≡ false
      by_sources k [] q = refl
      by_sources k (r ∷ rs) q = ap (λ b. b || false) (operand_unmarked x.regs x2.regs ms before before2 r t (base_same before before2 ms m e e2 t h w w2 (wait k) k (known k) l r rs q))

      by_decides : (b : Bool) → decides_as e.item.kind d before e ≡ b → (b && any_marked (regs_differ x.regs x2.regs) before (all_loose before before2) (base_of (sources e))) ≡ false
      by_decides false k = refl
      by_decides true k = by_sources k (sources e) refl

  -- two runs see alike whether the base of an entry is known
  module _ (limit : ℕ) (leaks : (k : ℕ) → k ≤ limit → LeakAlike (path d.stt_model) code k (hart_of x) (hart_of x2)) where
    quiet : (before before2 : List Entry) (ms ns : List EntryMarks) (es es2 : List Entry) → Beside SameEntry ms before before2 → Beside SameEntry ns es es2 →
        Behind (EntryInvariant d code s now) before → Behind (EntryInvariant d code s2 now) before2 → Along (EntryInvariant d code s now) before es → Along (EntryInvariant d code s2 now) before2 es2 →
        Linked x.pc before → Linked x2.pc before2 → Chain (reaches x.pc before) (links es x.queue) x.fetch_pc → Chain (reaches x2.pc before2) (links es2 x2.queue) x2.fetch_pc →
        Along (WaitsToIssue d) before es → length before + length es ≤ limit → (m : Marks) → m.regs ≡ regs_differ x.regs x2.regs →
        operands_show d m before (all_loose before before2) es (all_loose es es2) ≡ false
    quiet before before2 ms [] [] [] t u b b2 a a2 l l2 c c2 wait lt m q = refl
    quiet before before2 ms (o ∷ ns) (e ∷ es) (e2 ∷ es2) t u b b2 a a2 l l2 c c2 wait lt m q =
        let w : Stands now d code x before e = record { behind = b; here = a.0; linked = l; at = c.0 } in
        let w2 : Stands now d code x2 before2 e2 = record { behind = b2; here = a2.0; linked = l2; at = c2.0 } in
        let known = λ (k : decides_as e.item.kind d before e ≡ true). sym (same_all_known d before before2 (base_of (sources e)) (base_of (sources e2)) (seen_by_marks d.stt_model ms before before2 t) (ap (λ (t : Entry). base_of (sources t)) u.0)) ∙ decides_known e.item.kind d before e k in
        let one = one_quiet before before2 ms o e e2 t u.0 w w2 wait.0 known (leaks (length before + 1) (omega (arith, lt))) in
        let here : operand_shows d m before (all_loose before before2) e ≡ false = ap (λ g. decides_as e.item.kind d before e && any_marked g before (all_loose before before2) (base_of (sources e))) q ∙ one in
        let rest = quiet (e ∷ before) (e2 ∷ before2) (o ∷ ms) ns es es2 (u.0, t) u.1 (a.0, b) (a2.0, b2) a.1 a2.1 (c.0, l) (c2.0, l2) c.1 c2.1 wait.1 (omega (arith, lt)) m q in
        ap₂ (λ p r. p || r) here rest
    quiet before before2 ms _ _ _ t u b b2 a a2 l l2 c c2 wait lt m q = absurd u

-- Issue has the same events in two machines whose paths leak alike, where what shows is visible
pub issue_alike : IssueLeaksAlike
issue_alike d code total x x2 protected aligned c c2 le leaks wait h =
    let k = again h.0 x x2 h.1 in
    let m = loosened h.0 x x2 in
    let at : x.cycle ≡ x2.cycle = ap (λ (t : Machine). t.cycle) h.1.others in
    let quiet = quiet x.cycle d protected code aligned x x2 c.registers c2.registers (length x.window) (λ j lt. leaks j (omega (arith, lt, le)))
    [] [] [] h.0.window x.window x2.window tt h.1.window tt tt c.entries c2.entries tt tt c.chain c2.chain wait (omega arith) m refl in
    (after_issue_marks (issue d x).machine m, issue_keeps d code m x x2 c k quiet)
