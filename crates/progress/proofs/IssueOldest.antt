-- An oldest entry that isn't done comes nearer to it in Issue.
use Rattle.std.proofs.Common.{◌≡◌, ℕ, ◌+◌, ◌-◌, ◌≤◌, ◌<◌, max, Bool, true, false, not, ◌&&◌, ◌||◌, List, [], ◌∷◌, length, Option, Some, None, is_some, refl, ap, sym, ◌∙◌, subst, arith, eqb-true}
use Rattle.std.proofs.lemmas.Bool.Decides.{nat_tests}
use Rattle.std.specs.Prelude.{if◌then◌else◌, nat_lt, nat_le, ◌==◌}
use Rattle.std.specs.Cmp.Derive.{both_true}
use Rattle.std.specs.List.{filter, AllByRecursion as Each}
use Rattle.rv_types.specs.Isa.{Effect}
use Rattle.rv_types.specs.Memory.{load_fault}
use Rattle.rv_types.specs.Value.{size_of}
use Rattle.rv_types.specs.declared.Cause.{Cause}
use Rattle.rv_types.specs.declared.Op.{Op}
use Rattle.rv_types.specs.declared.Kind.{Kind}
use Rattle.rv_types.specs.declared.Kind.TheVariants.{Mul, Div, Load, Store}
use Rattle.machine_desc.specs.declared.Desc.{Desc}
use Rattle.machine_desc.specs.Ranges.{IsDesc}
use Rattle.window_model.specs.Delay.{may_show}
use Rattle.window_model.specs.declared.Entry.{Entry}
use Rattle.window_model.specs.declared.Miss.{Miss}
use Rattle.window_model.specs.declared.Progress.{Progress}
use Rattle.window_model.specs.declared.Progress.TheVariants.{Waiting, Busy, Done}
use Rattle.window_model.specs.State.{Machine}
use Rattle.window_model.specs.Order.{Place, first, first_from, is_waiting, is_done, is_store, has_address, has_data, sources, base_of, others_of}
use Rattle.window_model.specs.Taint.{any_tainted}
use Rattle.window_model.specs.Ready.{ready, all_known}
use Rattle.window_model.specs.Fill.{is_due}
use Rattle.window_model.specs.Around.{Around, around, is_free}
use Rattle.window_model.specs.declared.lookup.Lines.{Lines}
use Rattle.window_model.specs.declared.lookup.Access.{Access}
use Rattle.window_model.specs.declared.lookup.Access.TheVariants.{Faults, Forwards, Looks, Waits}
use Rattle.window_model.specs.Access.{access_at, all_covered, any_store_hidden, looked_up, misses_after, prefetch_request, requests, unless_lacking}
use Rattle.window_model.specs.Retire.{op_of, byte_count}
use Rattle.window_model.specs.MayIssue.{effect_of, may_issue_as}
use Rattle.window_model.specs.Ports.{AddressPort, DataPort, DivPort, LoadPort, is_granted, may_at, ports, port_of, same_port}
use Rattle.window_model.specs.Issue.{Begun, busy_until_both, issue, issue_entry, begin_as, load_as, access_of, waits, value_loaded, time_of, after_load, divider_after}
use Rattle.window_model.specs.inner.Issue.{parts_as}
use Rattle.window_model.proofs.Together.{address_part, data_part, entry_parts, is_whole}
use Rattle.window_model.proofs.Issuing.{as_many, may_own, requests_few}
use Rattle.window_model.proofs.Booleans.{and_no, is_below}
use Rattle.machine_facts.specs.Sized.{HasParts, Together}
use Rattle.machine_facts.specs.Timely.{Timely, IsPending, PartDue, PartsDue, longest_division}
use Rattle.machine_facts.proofs.Dues.{LooksSoon, looks_soon}
use Rattle.machine_facts.proofs.Ports.{issue_adds}
use Rattle.machine_facts.proofs.StoreParts.{issued_stays}
use Rattle.progress.specs.Laws.{Allows}
use Rattle.progress.specs.Measure.{wait, takes}
use Rattle.progress.proofs.OneLine.{registers_enough}
use Rattle.progress.proofs.Bounds.{register_nearer, miss_takes_time}
use Rattle.progress.proofs.Oldest.{shown_first, oldest_known, oldest_ready, oldest_untainted, oldest_address}

-- the cycles until the entry is done
abbrev pub needs : Entry → Desc → ℕ → List Miss → ℕ → ℕ
needs e d cycle misses free_from = takes e.state e.item.kind d cycle misses free_from

-- the state that a cycle began in, seen from before Issue
pub record Began (d : Desc) (x0 x : Machine) : Type 0 where
  pub cycle : x.cycle ≡ x0.cycle + 1
  pub misses : x.misses ≡ filter (λ m. not (is_due (x0.cycle + 1) m)) x0.misses
  pub divider : x.divider.free_from ≤ x0.divider.free_from

-- an entry in a state and of a kind, and a window that begins with an entry
abbrev pub made : Progress → Kind → Entry → Entry
made s k e = record e { state = s; item = record (e.item) { kind = k } }

abbrev pub headed : Machine → Entry → List Entry → Machine
headed x e es = record x { window = e ∷ es }

-- ---- the oldest may issue

-- an oldest entry that issues in one piece and may issue is granted its port
granted : (k : Kind) (d : Desc) (now : Around) (e : Entry) → is_store k ≡ false → may_issue_as k d now [] (made Waiting k e) ≡ true → 1 ≤ ports d (port_of k) → is_granted d now (port_of k) [] (made Waiting k e) ≡ true
granted k d now e s m p =
    both_true (may_own d now [] (made Waiting k e) s ∙ both_true (oldest_ready d (made Waiting k e)) m) (is_below 0 (ports d (port_of k)) (omega arith))

-- a part of a store is ready whose own source is there; in version 1 where both sources are and neither part has issued
part_ready : (v r w g s k : Bool) → r ≡ true → (v ≡ true → w ≡ true) → g ≡ true → s ≡ true → k ≡ true → (if v then r && w && g else s && k) ≡ true
part_ready true r w g s k p q h t u = both_true (both_true p (q refl)) h
part_ready false r w g s k p q h t u = both_true t u

neither : (a c : Bool) → a ≡ false → a ≡ c → not (a || c) ≡ true
neither false false p q = refl
neither true c p q = absurd (cc)
neither false true p q = absurd (cc)

address_granted : (d : Desc) (now : Around) (e : Entry) → Together d (made Waiting Store e) → has_address e ≡ false → is_granted d now AddressPort [] (made Waiting Store e) ≡ true
address_granted d now e t h =
    let a = made Waiting Store e in
    both_true (address_part d [] a ∙ both_true (ap not h) (part_ready (d.version == 1) (ready d [] a) (is_whole a) (may_show d []) (may_show d []) (all_known d [] (base_of (sources a))) (oldest_ready d a)
    (λ v. neither (has_address e) (has_data e) h (t (eqb-true _ _ v) refl)) (shown_first d) (shown_first d) (oldest_known d (base_of (sources a))))) refl

data_granted : (d : Desc) (now : Around) (e : Entry) → Together d (made Waiting Store e) → has_data e ≡ false → is_granted d now DataPort [] (made Waiting Store e) ≡ true
data_granted d now e t h =
    let a = made Waiting Store e in
    both_true (data_part d [] a ∙ both_true (ap not h) (part_ready (d.version == 1) (ready d [] a) (is_whole a) (may_show d []) true (all_known d [] (others_of (sources a))) (oldest_ready d a)
    (λ v. let q = t (eqb-true _ _ v) refl in neither (has_address e) (has_data e) (q ∙ h) q) (shown_first d) refl (oldest_known d (others_of (sources a))))) refl

-- an oldest load may issue
load_may : (d : Desc) (now : Around) (e : Entry) → may_issue_as Load d now [] (made Waiting Load e) ≡ true
load_may d now e = both_true (both_true (ap not (oldest_address d (made Waiting Load e))) (shown_first d)) (in_each (d.version == 1))
  where
    in_each : (b : Bool) → (if b then true else true) ≡ true
    in_each true = refl
    in_each false = refl

-- an oldest division may issue, where the divider is free
division_may : (d : Desc) (now : Around) (e : Entry) → is_free now ≡ true → may_issue_as Div d now [] (made Waiting Div e) ≡ true
division_may d now e h = both_true (both_true (ap not (oldest_untainted d (made Waiting Div e))) (shown_first d)) h

-- ---- how much an entry needs

needs_then : (b : Bool) (s t : Begun) (d : Desc) (cycle : ℕ) (ms : List Miss) (f n : ℕ) → b ≡ true → needs s.entry d cycle ms f < n → needs (if b then s else t).entry d cycle ms f < n
needs_then true s t d cycle ms f n h k = k
needs_then false s t d cycle ms f n h k = absurd (cc)

needs_else : (b : Bool) (s t : Begun) (d : Desc) (cycle : ℕ) (ms : List Miss) (f n : ℕ) → b ≡ false → needs t.entry d cycle ms f < n → needs (if b then s else t).entry d cycle ms f < n
needs_else false s t d cycle ms f n h k = k
needs_else true s t d cycle ms f n h k = absurd (cc)

soon : (c y n m : ℕ) → y ≡ c → n < m → c + n - y < m
soon c y n m e h = omega arith

one_nearer : (due y c0 : ℕ) → y ≡ c0 + 1 → y < due → due - y < due - c0
one_nearer due y c0 e h = omega arith

-- ---- the oldest is a load

-- an access waits only where some miss register is taken
abbrev WaitsForSome : Around → Access → Type 0
WaitsForSome now Waits = 1 ≤ length now.misses
WaitsForSome now _ = Unit {0}

module _ (d : Desc) (now : Around) (i : IsDesc d) (allows : Allows d now.ram) (op : Op) (a : ℕ) (fits : load_fault now.ram a (size_of op) ≡ None) where
  abbrev found : Lines
  found = looked_up d now a (size_of op)

  by_room : (c : Bool) → nat_le (length now.misses + length (requests found)) d.cache_mshrs ≡ c → WaitsForSome now (if c then Looks found (prefetch_request d now found) else Waits)
  by_room true h = tt
  by_room false h =
      let few = requests_few found in
      let many = as_many d now a (size_of op) in
      let enough = registers_enough d now.ram a op i allows fits in
      let more : d.cache_mshrs < length now.misses + length (requests found) = grind (arith, nat_tests, h) in
      omega (arith, few, many, enough, more)

  by_covered : (c : Bool) → WaitsForSome now (if c then Forwards else unless_lacking d now found)
  by_covered true = tt
  by_covered false = by_room _ refl

waits_for_some : (d : Desc) (now : Around) → IsDesc d → Allows d now.ram → (b : List Entry) (e : Entry) → WaitsForSome now (access_of d now b e)
waits_for_some d now i allows b e = by_fault (load_fault now.ram (effect_of now.regs b e).addr (byte_count e)) refl
  where
    by_fault : (o : Option Cause) → load_fault now.ram (effect_of now.regs b e).addr (byte_count e) ≡ o → WaitsForSome now (access_at d now b (effect_of now.regs b e).addr (byte_count e) o)
    by_fault (Some c) q = tt
    by_fault None q =
        let a = (effect_of now.regs b e).addr in
        by_covered d now i allows (op_of e.item.instr) a q (all_covered b a (byte_count e) && not (any_store_hidden d.stt_model b))

-- a load whose lines come soon, or waits while some register is taken
load_nearer : (a : Access) (d : Desc) (x0 x : Machine) (e : Entry) (f : Effect) (v y : ℕ) (ms : List Miss) (g : ℕ) → IsDesc d → Timely d x → Began d x0 x → LooksSoon d (around x) a → WaitsForSome (around x) a → y ≡ x.cycle →
    ms ≡ misses_after a d x.cycle x.misses → needs (load_as a d (around x) (made Waiting Load e) f v).entry d y ms g < wait Load x0.cycle x0.misses g + d.cache_miss_latency
load_nearer (Faults c) d x0 x e f v y ms g i s o l a q m = let l = miss_takes_time d i in soon x.cycle y 1 _ q (omega arith)
load_nearer Forwards d x0 x e f v y ms g i s o l a q m = let l = miss_takes_time d i in soon x.cycle y 1 _ q (omega arith)
load_nearer (Looks found ahead) d x0 x e f v y ms g i s o l a q m = let n = l.1 in omega arith
load_nearer Waits d x0 x e f v y ms g i s o l a q m =
    let t : Miss → Bool = λ m. not (is_due (x0.cycle + 1) m) in
    let n : 1 ≤ length (filter t x0.misses) = subst (λ (v : List Miss). 1 ≤ length v) o.misses a in
    let p : Each (IsPending d (x0.cycle + 1) (x0.cycle + 1)) (filter t x0.misses) =
    subst (λ (c : ℕ). Each (IsPending d c c) (filter t x0.misses)) o.cycle (subst (λ (v : List Miss). Each (IsPending d x.cycle x.cycle) v) o.misses s.misses) in
    let w = register_nearer d x0.cycle t x0.misses n p in
    let r : wait Load y ms g < wait Load x0.cycle x0.misses g = rw (m ∙ o.misses) (rw (q ∙ o.cycle) w) in
    omega arith

misses_of_tried : (b : Bool) (p : Place) (o : Option Place) (d : Desc) (x : Machine) → b ≡ true → (after_load d (if b then Some p else o) x).misses ≡ misses_after (access_of d (around x) p.before p.entry) d x.cycle x.misses
misses_of_tried true p o d x h = refl
misses_of_tried false p o d x h = absurd (cc)

-- ---- the oldest is a division: where the divider is busy, none issues

busy_divider : (k : Kind) (d : Desc) (now : Around) (before : List Entry) (e : Entry) → is_free now ≡ false → ((is_waiting e.state && ready d before e && may_issue_as k d now before e) && same_port (port_of k) DivPort) ≡ false
busy_divider Div d now before e f = by (is_waiting e.state) (ready d before e) (not (any_tainted d.stt_model before e) && may_show d before) (is_free now) f
  where
    by : (w r t n : Bool) → n ≡ false → ((w && r && (t && n)) && true) ≡ false
    by true true true n f = ap (λ b. b && true) f
    by true true false n f = refl
    by true false t n f = refl
    by false r t n f = refl
busy_divider Load d now before e f = and_no _ _ refl
busy_divider _ d now before e f = and_no _ _ refl

none_if : (b : Bool) (p : Place) (o : Option Place) → b ≡ false → o ≡ None → (if b then Some p else o) ≡ None
none_if false p o h k = k
none_if true p o h k = absurd (cc)

none_divides : (d : Desc) (now : Around) (before es : List Entry) → is_free now ≡ false → first_from (may_at d now DivPort) before es ≡ None
none_divides d now before [] f = refl
none_divides d now before (e ∷ es) f =
    none_if (may_at d now DivPort before e) (record { before = before; entry = e; younger = es }) _ (by_kind (is_store e.item.kind) _ (busy_divider e.item.kind d now before e f))
    (none_divides d now (e ∷ before) es f)
  where
    by_kind : (s m : Bool) → m ≡ false → (if s then false else m) ≡ false
    by_kind true m h = refl
    by_kind false m h = h

same_divider : (d : Desc) (x : Machine) → is_free (around x) ≡ false → (divider_after x (first (may_at d (around x) DivPort) x.window)).free_from ≡ x.divider.free_from
same_divider d x h = ap (λ (o : Option Place). (divider_after x o).free_from) (none_divides d (around x) [] x.window h)

refused : (d : Desc) (now : Around) (e : Entry) → is_free now ≡ false → is_granted d now DivPort [] (made Waiting Div e) ≡ false
refused d now e h = ap (λ b. b && nat_lt 0 1) (busy_divider Div d now [] (made Waiting Div e) h)

-- ---- the oldest by its state and kind

-- what loads are served by: memory that takes no other addresses than the description says, and as many sets of the
-- second level
pub record Served (d : Desc) (x : Machine) : Type 0 where
  pub allows : Allows d x.ram
  pub second : length x.second ≡ d.cache_second_sets

-- after Issue the oldest entry needs less than at the cycle's beginning
abbrev pub Nearer : Progress → Kind → Desc → Machine → Machine → Entry → List Entry → Type 0
Nearer s k d x0 x e es =
    HasParts (made s k e) → Together d (made s k e) → Served d x → IsDesc d → Timely d (headed x (made s k e) es) → Began d x0 (headed x (made s k e) es) →
    let y = (issue d (headed x (made s k e) es)).machine in
    needs (issue_entry d (around x) [] (made s k e)).entry d y.cycle y.misses y.divider.free_from < takes s k d x0.cycle x0.misses x0.divider.free_from

-- an oldest entry that issues and is then busy for n cycles comes nearer to being done
plain_nearer : (k : Kind) (n m : ℕ) (d : Desc) (now : Around) (e : Entry) (b : Begun) (c y g : ℕ) (ms : List Miss) →
    b.entry.state ≡ Busy (c + n) → is_granted d now (port_of k) [] (made Waiting k e) ≡ true → y ≡ c → n < m →
    needs (if is_granted d now (port_of k) [] (made Waiting k e) then b else waits (made Waiting k e)).entry d y ms g < m
plain_nearer k n m d now e b c y g ms t h q l =
    needs_then (is_granted d now (port_of k) [] (made Waiting k e)) b (waits (made Waiting k e)) d y ms g m h
    (subst (λ (s : Progress). takes s b.entry.item.kind d y ms g < m) (sym t) (soon c y n m q l))

later : (f g y c c0 n : ℕ) → g ≡ f → y ≡ c → c ≡ c0 + 1 → f ≤ n → c < f → max 1 (g - y) + longest_division < max 1 (n - c0) + longest_division
later f g y c c0 n e q r l h = omega arith

not_free : (f c : ℕ) → nat_le f c ≡ false → c < f
not_free f c h = grind (arith, nat_tests)

division_nearer : (d : Desc) (x0 x : Machine) (e : Entry) (es : List Entry) (b : Bool) → is_free (around x) ≡ b → Nearer Waiting Div d x0 x e es
division_nearer d x0 x e es true h p t r i s o =
    let x2 = headed x (made Waiting Div e) es in
    let a = made Waiting Div e in
    let now = around x in
    let y = (issue d x2).machine in
    let longest : time_of x.regs [] a ≤ longest_division = omega arith in
    needs_then (is_granted d now DivPort [] a) (begin_as Div d now [] a) (waits a) d y.cycle y.misses y.divider.free_from _ (granted Div d now e refl (division_may d now e h) (omega arith))
    (soon x.cycle y.cycle (time_of x.regs [] a) _ (issue_adds d x2).cycle (omega arith))
division_nearer d x0 x e es false h p t r i s o =
    let x2 = headed x (made Waiting Div e) es in
    let a = made Waiting Div e in
    let now = around x in
    let y = (issue d x2).machine in
    needs_else (is_granted d now DivPort [] a) (begin_as Div d now [] a) (waits a) d y.cycle y.misses y.divider.free_from _ (refused d now e h)
    (later x.divider.free_from y.divider.free_from y.cycle x.cycle x0.cycle x0.divider.free_from (same_divider d x2 h) (issue_adds d x2).cycle o.cycle o.divider (not_free x.divider.free_from x.cycle h))

-- ---- the oldest is a store: each part that hasn't issued does, and both are known in the next cycle

both_soon : (a c : Option ℕ) (s : Progress) (k : Kind) (d : Desc) (cycle y g : ℕ) (ms : List Miss) → is_some a ≡ true → is_some c ≡ true → PartDue cycle a → PartDue cycle c → y ≡ cycle →
    takes (busy_until_both a c s) k d y ms g < 2
both_soon (Some a) (Some c) s k d cycle y g ms p q l m e = omega arith
both_soon None c s k d cycle y g ms p q l m e = absurd (cc)
both_soon (Some a) None s k d cycle y g ms p q l m e = absurd (cc)

parts_soon : (ga gc : Bool) (d : Desc) (now : Around) (f : Effect) (e : Entry) (y g : ℕ) (ms : List Miss) → (ga ≡ false → has_address e ≡ true) → (gc ≡ false → has_data e ≡ true) → (ga ≡ false → gc ≡ false → ⊥) →
    PartsDue now.cycle e → y ≡ now.cycle →
    needs (parts_as ga gc d now f e).entry d y ms g < 2
parts_soon true true d now f e y g ms p q n l h = both_soon (Some (now.cycle + 1)) (Some (now.cycle + 1)) e.state e.item.kind d now.cycle y g ms refl refl (omega arith) (omega arith) h
parts_soon true false d now f e y g ms p q n l h = both_soon (Some (now.cycle + 1)) e.data_due e.state e.item.kind d now.cycle y g ms refl (q refl) (omega arith) l.1 h
parts_soon false true d now f e y g ms p q n l h = both_soon e.addr_due (Some (now.cycle + 1)) e.state e.item.kind d now.cycle y g ms (p refl) refl l.0 (omega arith) h
parts_soon false false d now f e y g ms p q n l h = absurd (n refl refl)

else_has : (h g : Bool) → (h ≡ false → g ≡ true) → g ≡ false → h ≡ true
else_has true g f q = refl
else_has false g f q = absurd (let r = f refl in cc)

not_both : (a c : Bool) → (a && c) ≡ false → a ≡ true → c ≡ true → ⊥
not_both true true h p q = absurd (cc)
not_both false c h p q = absurd (cc)
not_both true false h p q = absurd (cc)

store_nearer : (d : Desc) (x : Machine) (e : Entry) (es : List Entry) → HasParts (made Waiting Store e) → Together d (made Waiting Store e) → Timely d (headed x (made Waiting Store e) es) →
    let y = (issue d (headed x (made Waiting Store e) es)).machine in
    needs (issue_entry d (around x) [] (made Waiting Store e)).entry d y.cycle y.misses y.divider.free_from < 2
store_nearer d x e es p t s =
    let a = made Waiting Store e in
    let now = around x in
    let x2 = headed x a es in
    let y = (issue d x2).machine in
    let ha = else_has (has_address e) (is_granted d now AddressPort [] a) (address_granted d now e t) in
    let hc = else_has (has_data e) (is_granted d now DataPort [] a) (data_granted d now e t) in
    subst (λ (b : Begun). needs b.entry d y.cycle y.misses y.divider.free_from < 2) (sym (entry_parts d now [] a))
    (parts_soon (is_granted d now AddressPort [] a) (is_granted d now DataPort [] a) d now (effect_of x.regs [] a) a y.cycle y.divider.free_from y.misses ha hc
    (λ g h. not_both (has_address e) (has_data e) (p refl) (ha g) (hc h)) s.parts.0 (issue_adds d x2).cycle)

-- the oldest entry stays busy where it is
busy_stays : (d : Desc) (now : Around) (e : Entry) (due : ℕ) → e.state ≡ Busy due → HasParts e → (issue_entry d now [] e).entry.state ≡ Busy due
busy_stays d now e due q p = ap (λ (r : Entry). r.state) (issued_stays d now [] e p (ap is_waiting q)) ∙ q

-- an oldest entry that waits comes nearer to being done: it issues, or the last register or the divider gets free
-- sooner
waiting_nearer : (k : Kind) (d : Desc) (x0 x : Machine) (e : Entry) (es : List Entry) → Nearer Waiting k d x0 x e es
waiting_nearer Load d x0 x e es p t r i s o =
    let x2 = headed x (made Waiting Load e) es in
    let a = made Waiting Load e in
    let now = around x in
    let y = (issue d x2).machine in
    let may = load_may d now e in
    let f = effect_of x.regs [] a in
    let m : y.misses ≡ misses_after (access_of d now [] a) d x.cycle x.misses =
    misses_of_tried (may_at d now LoadPort [] a) (record { before = []; entry = a; younger = es }) (first_from (may_at d now LoadPort) (a ∷ []) es) d x2 (both_true (both_true (oldest_ready d a) may) refl) in
    needs_then (is_granted d now LoadPort [] a) (begin_as Load d now [] a) (waits a) d y.cycle y.misses y.divider.free_from _ (granted Load d now e refl may (omega arith))
    (load_nearer (access_of d now [] a) d x0 x2 e f (value_loaded x.ram [] a f.addr) y.cycle y.misses y.divider.free_from i s o (looks_soon d now i r.second s.misses [] a) (waits_for_some d now i r.allows [] a) (issue_adds d x2).cycle m)
waiting_nearer Div d x0 x e es p t r i s o = division_nearer d x0 x e es (is_free (around x)) refl p t r i s o
waiting_nearer Mul d x0 x e es p t r i s o =
    let x2 = headed x (made Waiting Mul e) es in
    plain_nearer Mul d.units_mul_latency _ d (around x) e _ x.cycle _ _ _ refl (granted Mul d (around x) e refl refl (omega arith)) (issue_adds d x2).cycle (omega arith)
waiting_nearer Store d x0 x e es p t r i s o = store_nearer d x e es p t s
waiting_nearer k d x0 x e es p t r i s o =
    let x2 = headed x (made Waiting k e) es in
    plain_nearer k 1 2 d (around x) e _ x.cycle _ _ _ refl (granted k d (around x) e refl refl i.alus.0) (issue_adds d x2).cycle (omega arith)

state_nearer : (s : Progress) (k : Kind) (d : Desc) (x0 x : Machine) (e : Entry) (es : List Entry) → is_done s ≡ false → Nearer s k d x0 x e es
state_nearer Waiting k d x0 x e es h p t r i s o = waiting_nearer k d x0 x e es p t r i s o
state_nearer Done k d x0 x e es h p t r i s o = absurd (cc)
state_nearer (Busy due) k d x0 x e es h p t r i s o =
    let x2 = headed x (made (Busy due) k e) es in
    let q = (issue_adds d x2).cycle in
    let y = (issue d x2).machine in
    let issued = (issue_entry d (around x) [] (made (Busy due) k e)).entry in
    let stays : issued.state ≡ Busy due = busy_stays d (around x) (made (Busy due) k e) due refl p in
    subst (λ (v : Progress). takes v issued.item.kind d y.cycle y.misses y.divider.free_from < due - x0.cycle) (sym stays)
    (one_nearer due _ x0.cycle (q ∙ o.cycle) (let b = s.dues.0.0 in omega arith))

-- an oldest entry that isn't done comes nearer to being done
pub oldest_nearer : (d : Desc) (x0 x : Machine) (e : Entry) (es : List Entry) → is_done e.state ≡ false → Nearer e.state e.item.kind d x0 x e es
oldest_nearer d x0 x e es h = state_nearer e.state e.item.kind d x0 x e es h
