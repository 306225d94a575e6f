-- One turn of Retire: a head that leaves is a step of the instruction set.
use Rattle.std.proofs.Common.{◌≡◌, ℕ, Bool, true, false, not, ◌&&◌, ◌||◌, List, [], ◌∷◌, Option, Some, None, refl, ap, sym, ◌∙◌, subst}
use Rattle.std.specs.Prelude.{if◌then◌else◌, is_some}
use Rattle.rv_types.specs.Word.{to_le}
use Rattle.rv_types.specs.Memory.{Code, Ram, with_bytes}
use Rattle.rv_types.specs.Isa.{Hart, Step, Goes, Traps, isa_step, step_at, step_of, with_reg, effect, first_of, second_of}
use Rattle.rv_types.specs.Regs.{writes_of}
use Rattle.rv_types.specs.Decode.{decode}
use Rattle.rv_types.specs.declared.Cause.{Cause}
use Rattle.rv_types.specs.Kind.{kind_of}
use Rattle.rv_types.specs.declared.Instr.{Instr}
use Rattle.rv_types.specs.declared.Kind.{Kind}
use Rattle.rv_types.specs.declared.Kind.TheVariants.{Load, Store}
use Rattle.machine_desc.specs.declared.Desc.{Desc}
use Rattle.window_model.specs.declared.Entry.{Entry}
use Rattle.window_model.specs.declared.Item.{Item}
use Rattle.window_model.specs.declared.Outcome.{Outcome}
use Rattle.window_model.specs.Order.{is_done, is_control, is_store, has_address, has_data, value_of, fault_of, sources}
use Rattle.window_model.specs.Resolve.{next_of}
use Rattle.window_model.specs.Retire.{may_leave, trap_of, trap_as, addr_of, stored_of, byte_count}
use Rattle.window_model.specs.Rename.{at_once, is_call}
use Rattle.window_model.specs.Fetch.{instr_at, kind_at}
use Rattle.committed_state.specs.Replay.{Bank, replay_outcome, replayed_as, ram_after, effect_on}
use Rattle.window_model.specs.Along.{Along}
use Rattle.committed_state.specs.Links.{Chain, links}
use Rattle.committed_state.specs.Consistent.{EntryInvariant, Holds, Predicts, bank_in, is_issued}
use Rattle.committed_state.proofs.Bytes.{some_is}
use Rattle.window_model.proofs.Registers.{length_with}
use Rattle.committed_state.proofs.Onward.{of_item}
use Rattle.committed_state.proofs.Heads.{item_of, hart_after, head_goes, head_traps, goes_on}
use Rattle.committed_state.proofs.Shift.{along_shift}
use Rattle.committed_state.proofs.Known.{both_parts, done_has, issued_of, replayed_head}
use Rattle.window_model.proofs.Booleans.{some_of}
use Rattle.window_model.proofs.Leaving.{no_trap}

-- what a head does to memory, and to the retired state
abbrev pub head_ram : Kind → Ram → Entry → Option Outcome → Ram
head_ram Store m e o = with_bytes m (addr_of o) (to_le (byte_count e) (stored_of o))
head_ram _ m e o = m

-- the retired state behind a head that leaves with this outcome
abbrev pub hart_with : Hart → Entry → Option Outcome → Hart
hart_with s e o = record { pc = next_of o; regs = with_reg s.regs (writes_of e.item.instr) (value_of o); ram = head_ram e.item.kind s.ram e o }

-- the retired state behind a head that leaves with its own outcome
abbrev pub head_hart : Hart → Entry → Hart
head_hart s e = hart_with s e e.outcome

ram_left : (k : Kind) (m : Ram) (e : Entry) (r : Outcome) → r.fault ≡ None → head_ram k m e (Some r) ≡ ram_after k m e.item.instr r
ram_left Store m e r h = rw h refl
ram_left _ m e r h = refl

hart_left : (s : Hart) (e : Entry) (c : Option Outcome) (r : Outcome) → c ≡ Some r → r.fault ≡ None → hart_with s e c ≡ hart_after s e r
hart_left s e c r h f = ap (hart_with s e) h ∙ ap (λ m. let t : Hart = record { pc = r.next; regs = with_reg s.regs (writes_of e.item.instr) r.value; ram = m } in t) (ram_left e.item.kind s.ram e r f)

-- ---- the step at a head that is no stop

made : ℕ → Instr → Kind → Item → Item
made pc i k t = record t { pc = pc; instr = i; kind = k }

-- an item with this address and instruction, and the kind of that, is the item of both
pub item_eq : (i : Item) (pc : ℕ) (j : Instr) → pc ≡ i.pc → i.instr ≡ j → i.kind ≡ kind_of j → i ≡ item_of pc j i
unfolding made
item_eq i pc j p a k = ap (λ n. made n i.instr i.kind i) (sym p) ∙ ap (λ u. made pc u i.kind i) a ∙ ap (λ u. made pc j u i) k

abbrev hart_item : Hart → Item → Outcome → Hart
hart_item s i o = hart_after s (of_item i) o

-- a step that goes on without output, or traps where there is a fault
abbrev pub steps : Option Cause → Hart → Step
steps None t = Goes t []
steps (Some cause) t = Traps cause

by_fault : (s : Hart) (p : Item) (i : _) (f : Option Cause) → at_once (item_of s.pc i p).kind ≡ false → (replay_outcome (bank_in s) (of_item (item_of s.pc i p))).fault ≡ f →
    step_of s i ≡ steps f (hart_item s (item_of s.pc i p) (replay_outcome (bank_in s) (of_item (item_of s.pc i p))))
by_fault s p i None a h = head_goes s p i a h
by_fault s p i (Some c) a h = head_traps s p i c a h

-- the instruction set's step at the oldest entry is what its replay says, with or without fault
pub step_as : (c : Option ℕ) (s : Hart) (e : Entry) → s.pc ≡ e.item.pc → e.item.instr ≡ instr_at c → e.item.kind ≡ kind_at c → at_once e.item.kind ≡ false →
    (f : Option Cause) → (replay_outcome (bank_in s) e).fault ≡ f → step_at c s ≡ steps f (hart_after s e (replay_outcome (bank_in s) e))
step_as None s e q a k n f h = absurd (cc)
step_as (Some w) s e q a k n f h =
    let i = decode w in
    let it = item_eq e.item s.pc i q a k in
    let r : replay_outcome (bank_in s) e ≡ replay_outcome (bank_in s) (of_item (item_of s.pc i e.item)) = ap (λ t. replay_outcome (bank_in s) (of_item t)) it in
    let n2 = ap (λ (t : Item). at_once t.kind) (sym it) ∙ n in
    by_fault s e.item i f n2 (sym (ap (λ (o : Outcome). o.fault) r) ∙ h)
    ∙ ap (steps f) (ap (hart_item s (item_of s.pc i e.item)) (sym r) ∙ ap (λ t. hart_item s t (replay_outcome (bank_in s) e)) (sym it))

-- ---- where the head goes on

-- the replay goes on where the instruction does
pub replayed_next : (k : Kind) (s : Bank) (e : Entry) → (replayed_as k s e).next ≡ (effect_on s e).next
replayed_next Load s e = refl
replayed_next _ s e = refl

next_as : (c : Option ℕ) (s : Bank) (e : Entry) → e.item.instr ≡ instr_at c → e.item.kind ≡ kind_at c → at_once e.item.kind ≡ false → is_control e.item.kind ≡ false → Predicts e.item.kind e.item →
    e.item.predicted ≡ Some (effect_on s e).next
next_as None s e a k n j h = absurd (cc)
next_as (Some w) s e a k n j h =
    let i = decode w in
    let it = item_eq e.item e.item.pc i refl a k in
    let h2 = subst (λ (t : Item). Predicts t.kind t) it h in
    let n2 = ap (λ (t : Item). at_once t.kind) (sym it) ∙ n in
    let j2 = ap (λ (t : Item). is_control t.kind) (sym it) ∙ j in
    let g = goes_on i e.item.pc (first_of (sources e) s.regs) (second_of (sources e) s.regs) e.item h2 j2 n2 in
    g ∙ ap (λ j. Some (effect e.item.pc j (first_of (sources e) s.regs) (second_of (sources e) s.regs)).next) (sym a)

link_next : (r : Bool) (e : Entry) (c : Option Outcome) (o : Outcome) → c ≡ Some o → o.fault ≡ None → (r ≡ false → e.item.predicted ≡ Some o.next) →
    (if r then (if is_some (fault_of c) then None else Some (next_of c)) else e.item.predicted) ≡ Some (next_of c)
link_next true e c o h f p = rw h (rw f refl)
link_next false e c o h f p = p refl ∙ ap (λ c. Some (next_of c)) (sym h)

-- ---- what is known of a head that may leave

-- a head that may leave is Done, and a store of it is cleared
pub leave_parts : (a b c : Bool) → (a && (not b || c)) ≡ true → (a ≡ true) × (c ≡ false → b ≡ false)
leave_parts true false c h = (refl, λ k. refl)
leave_parts true true true h = (refl, λ k. absurd (cc))
leave_parts true true false h = absurd (cc)
leave_parts false b c h = absurd (cc)

no_stop : (k : Kind) (e : Entry) → trap_as k e ≡ None → is_call k ≡ false → (at_once k ≡ false) × (fault_of e.outcome ≡ None)
no_stop k e h c = let n = no_trap k e h in (let s = n.0 in cc, n.1)

-- after a head that is no call
pub record Left (d : Desc) (code : Code) (s : Hart) (now : ℕ) (e : Entry) (rest : List Entry) (queue : List Item) (fetch_pc : Option ℕ) : Type 0 where
  pub holds : Holds d code (head_hart s e) now rest queue fetch_pc
  pub step : isa_step code s ≡ Goes (head_hart s e) []

-- the oldest entry, no call, without trap and cleared if it is a store, retires as one step of the instruction set
pub head_leaves_so : (d : Desc) (code : Code) (s : Hart) (now : ℕ) (e : Entry) (rest : List Entry) (queue : List Item) (fetch_pc : Option ℕ) → Holds d code s now (e ∷ rest) queue fetch_pc → may_leave e ≡ true → trap_of e ≡ None → is_call e.item.kind ≡ false →
    (is_store e.item.kind ≡ true → e.cleared ≡ true) → Left d code s now e rest queue fetch_pc
unfolding isa_step
head_leaves_so d code s now e rest queue fetch_pc h may t k c =
    let st = h.entries.0 in
    let pc = some_of _ _ h.chain.0 in
    let m = leave_parts (is_done e.state) (is_control e.item.kind) e.resolved may in
    let f = done_has e.state e st.state m.0 in
    let n = no_stop e.item.kind e t k in
    let r = replay_outcome (bank_in s) e in
    let all = f.0 ∙ ap not n.0 in
    let rep = replayed_head d code (bank_in s) now h.registers e st all in
    let i = issued_of e.item.kind (has_address e) (has_data e) (is_issued e) st.parts all in
    let o = some_is e.outcome r rep i in
    let u : r.fault ≡ None = sym (ap fault_of o) ∙ n.1 in
    let left = hart_left s e e.outcome r o u in
    let w = code s.pc in
    let ins : e.item.instr ≡ instr_at w = st.item.instr ∙ ap (λ a. instr_at (code a)) (sym pc) in
    let kin : e.item.kind ≡ kind_at w = st.item.kind ∙ ap (λ a. kind_at (code a)) (sym pc) in
    let predicts = λ (z : e.resolved ≡ false). next_as w (bank_in s) e ins kin n.0 (m.1 z) st.item.next ∙ ap Some (sym (replayed_next e.item.kind (bank_in s) e)) in
    let nx = link_next e.resolved e e.outcome r o u predicts in
    record {
      holds = record {
        entries = subst (λ b. Along (EntryInvariant d code b now) [] rest) (sym (ap bank_in left)) (along_shift (bank_in s) e rep i (λ q. let p = both_parts e.item.kind (has_address e) (has_data e) (is_issued e) q all in (p.0, p.1, c q)) h.registers d code now rest h.entries.1);
        items = h.items;
        chain = subst (λ a. Chain a (links rest queue) fetch_pc) nx h.chain.1;
        registers = length_with s.regs (writes_of e.item.instr) (value_of e.outcome) ∙ h.registers;
      };
      step = step_as w s e pc ins kin n.0 None u ∙ ap (λ u. Goes u []) (sym left);
    }
