-- Issue: what begins to execute gets what it computes, and a store's parts make known what they compute.
use Rattle.std.proofs.Common.{◌≡◌, ℕ, ◌+◌, ◌<◌, Bool, true, false, ◌||◌, List, [], ◌∷◌, Option, Some, None, refl, ap, sym, ◌∙◌, subst, arith}
use Rattle.std.proofs.lemmas.Bool.Decides.{nat_tests}
use Rattle.std.specs.List.{list_all}
use Rattle.rv_types.specs.Memory.{Code, load_fault}
use Rattle.rv_types.specs.Isa.{Effect}
use Rattle.rv_types.specs.declared.Cause.{Cause}
use Rattle.rv_types.specs.declared.Kind.{Kind}
use Rattle.rv_types.specs.declared.Kind.TheVariants.{Load, Store}
use Rattle.machine_desc.specs.declared.Desc.{Desc}
use Rattle.window_model.specs.declared.Entry.{Entry}
use Rattle.window_model.specs.declared.Outcome.{Outcome}
use Rattle.window_model.specs.declared.Progress.{Progress}
use Rattle.window_model.specs.declared.Progress.TheVariants.{Waiting, Busy, Done}
use Rattle.window_model.specs.State.{Machine}
use Rattle.window_model.specs.Order.{is_waiting, is_done, is_load, is_store, has_address, has_data, sources, first}
use Rattle.window_model.specs.Ready.{ready}
use Rattle.window_model.specs.Retire.{op_of, width_in, byte_count, hart_of}
use Rattle.window_model.specs.Access.{access_at, load_bytes}
use Rattle.window_model.specs.Clear.{is_before}
use Rattle.machine_desc.specs.Questions.{loads_pass}
use Rattle.window_model.specs.Around.{Around, around}
use Rattle.window_model.specs.MayIssue.{effect_of, may_issue_as}
use Rattle.window_model.specs.Ports.{DivPort, LoadPort, may_at}
use Rattle.window_model.specs.Issue.{issue, issue_entry, begin_as, executing_until, divider_after, load_as, outcome, Begun}
use Rattle.window_model.specs.Rename.{at_once}
use Rattle.committed_state.specs.Computed.{Bank, as_known_by, outcome_behind, loaded_or, outcome_as}
use Rattle.window_model.specs.Along.{Along, Behind}
use Rattle.committed_state.specs.Consistent.{EntryInvariant, Holds, Consistent, ConsistentIn, FitsClearing, FitsParts, FitsState, HasOperands, IsDueBy, all_issued_by, is_issued, stands_before}
use Rattle.committed_state.proofs.Computed.{address_is, outcome_same}
use Rattle.committed_state.proofs.Letting.{bytes_now, stands_behind}
use Rattle.committed_state.proofs.Parts.{bank_of, parts_so, same_link}
use Rattle.committed_state.proofs.Onward.{load_out}
use Rattle.committed_state.proofs.Sees.{Moves, moves_same}
use Rattle.window_model.proofs.Memory.{same_shape}
use Rattle.committed_state.proofs.Kept.{Kept, each_holds}
use Rattle.committed_state.proofs.Operands.{all_known_executed}
use Rattle.window_model.specs.declared.Divider.{Divider}
use Rattle.window_model.proofs.EntryByEntry.{map_each}
use Rattle.window_model.proofs.Issuing.{MayIssue, by_after_load, by_issue, by_served, load_behind, some_bytes}
use Rattle.window_model.proofs.KindTests.{store_kind}

-- an entry stays as it is, or begins in this cycle with this outcome
data Comes (cycle : ℕ) (e : Entry) (o : Outcome) (r : Entry) : Type 0 where
  Remains : r ≡ e → Comes cycle e o r
  Begins : (due : ℕ) → r ≡ executing_until cycle e due o → Comes cycle e o r

-- ---- what an entry gets is what it computes

module _ (d : Desc) (now : Around) (e : Entry) (f : Effect) (bytes : List ℕ) where
  abbrev Value : ℕ
  Value = loaded_or None e.item.instr bytes

  load_comes : (b : List Entry) (a n : ℕ) (c : Option Cause) → 0 < n → Comes now.cycle e (outcome f (loaded_or c e.item.instr bytes) c) (load_as (access_at d now b a n c) d now e f Value).entry
  load_comes b a n (Some c) some = Begins _ refl
  load_comes b a n None some =
      by_served d now (λ a. Comes now.cycle e (outcome f Value None) (load_as a d now e f Value).entry) (Begins _ refl) (λ a n some room. Begins _ refl) (λ a n some full. Remains refl) b a n some

-- what Issue gives an entry in one piece
abbrev given : Machine → List Entry → Entry → Kind → Outcome
given x b e k = let f = effect_of x.regs b e in outcome_as k x.ram e.item.instr f (load_bytes x.ram b f.addr (width_in e.item.instr))

comes : (d : Desc) (x : Machine) (b : List Entry) (e : Entry) (k : Kind) → is_store k ≡ false → Comes x.cycle e (given x b e k) (begin_as k d (around x) b e).entry
comes d x b e Load n = let f = effect_of x.regs b e in load_comes d (around x) e f (load_bytes x.ram b f.addr (byte_count e)) b f.addr (byte_count e) (load_fault x.ram f.addr (byte_count e)) (some_bytes (op_of e.item.instr))
comes d x b e Store n = absurd (cc)
comes d x b e _ n = Begins _ refl

-- an outcome of what issues in one piece is known at once
whole_known : (k : Kind) (a c : Bool) (o : Outcome) → is_store k ≡ false → as_known_by k a c o ≡ o
whole_known Store a c o n = absurd (cc)
whole_known _ a c o n = refl

whole_issued : (k : Kind) (a c i : Bool) → is_store k ≡ false → all_issued_by k a c i ≡ i
whole_issued Store a c i n = absurd (cc)
whole_issued _ a c i n = refl

whole_parts : (k : Kind) (a c i i2 : Bool) → is_store k ≡ false → FitsParts k a c i → (a ≡ false) × (c ≡ false) × FitsParts k a c i2
whole_parts Store a c i i2 n p = absurd (cc)
whole_parts _ a c i i2 n p = (p.0, p.1, p)

whole_operands : (k : Kind) (a c i : Bool) (d : Desc) (b : List Entry) (e : Entry) → is_store k ≡ false → ready d b e ≡ true → HasOperands k a c i b (sources e)
whole_operands Store a c i d b e n r = absurd (cc)
whole_operands _ a c i d b e n r = λ h. all_known_executed d b (sources e) r

-- ---- what holds in a later cycle

later_before : (i : Option ℕ) (n : ℕ) → is_before i (Some n) ≡ true → is_before i (Some (n + 1)) ≡ true
later_before None n h = absurd (cc)
later_before (Some i) n h = grind (arith, nat_tests)

later_due : (a : Option ℕ) (n : ℕ) → IsDueBy n a → IsDueBy (n + 1) a
later_due None n h = tt
later_due (Some a) n h = omega (arith, h)

-- what Issue finds stands so in the next cycle
stands_later : (d : Desc) (code : Code) (s : Bank) (now : ℕ) (b : List Entry) (e : Entry) → EntryInvariant d code s now b e → EntryInvariant d code s (now + 1) b e
stands_later d code s now b e st = record {
  item = st.item;
  parts = st.parts;
  state = st.state;
  computed = st.computed;
  operands = st.operands;
  stores = st.stores;
  clearing = st.clearing;
  issued = λ i l. later_before e.issued now (st.issued i l);
  due = later_due e.addr_due now st.due;
  through = st.through;
  alone = st.alone;
}

along_later : (d : Desc) (code : Code) (s : Bank) (now : ℕ) (b w : List Entry) → Along (EntryInvariant d code s now) b w → Along (EntryInvariant d code s (now + 1)) b w
along_later d code s now b [] k = tt
along_later d code s now b (e ∷ w) k = (stands_later d code s now b e k.0, along_later d code s now (e ∷ b) w k.1)

-- a machine that Issue doesn't come to is consistent for the next cycle, too
pub consistent_later : (now : ℕ) (code : Code) (d : Desc) (x : Machine) → ConsistentIn now d code x → ConsistentIn (now + 1) d code x
consistent_later now code d x h = record { entries = along_later d code (bank_of x) now [] x.window h.entries; items = h.items; chain = h.chain; registers = h.registers }

-- ---- an entry in one piece that begins

clearing_begun : (p : Bool) (cycle : ℕ) (e : Entry) (due : ℕ) (o : Outcome) → FitsClearing p e → FitsClearing p (executing_until cycle e due o)
clearing_begun true cycle e due o c = c
clearing_begun false cycle e due o c = c

module _ (d : Desc) (code : Code) (x : Machine) (b : List Entry) (e : Entry) (h : Behind (EntryInvariant d code (bank_of x) x.cycle) b) (st : EntryInvariant d code (bank_of x) x.cycle b e) where
  abbrev F : Effect
  F = effect_of x.regs b e

  abbrev O : Outcome
  O = given x b e e.item.kind

  remains : Kept d code (bank_of x) (x.cycle + 1) b e e
  remains = record { stands = stands_later d code (bank_of x) x.cycle b e st; moves = moves_same (x.cycle + 1) e; link = refl }

  waits_so : (t : Progress) → is_waiting t ≡ true → FitsState t e → (e.resolved ≡ false) × (at_once e.item.kind ≡ false) × (is_done t ≡ true → ⊥)
  waits_so Waiting w f = (f.1, f.2, λ q. absurd (cc))
  waits_so Done w f = absurd (cc)
  waits_so (Busy due) w f = absurd (cc)

  -- what an entry that begins gets is what it computes
  computed_so : (due : ℕ) → outcome_behind (bank_of x) b (executing_until x.cycle e due O) ≡ O
  computed_so due =
      let l = executing_until x.cycle e due O in
      outcome_same x.ram x.ram e.item.instr (same_shape x.ram) e.item.kind F F _ _ refl (λ z y. bytes_now d code (bank_of x) x.cycle l refl b F.addr (width_in e.item.instr) h)

  -- older stores let a load go that begins so
  stores_so : (due : ℕ) → is_store e.item.kind ≡ false → is_load e.item.kind ≡ true → may_issue_as e.item.kind d (around x) b e ≡ true → list_all (stands_before (executing_until x.cycle e due O)) b ≡ true
  stores_so due n z m =
      let l = executing_until x.cycle e due O in
      let ad = address_is code x.regs b e st.item (ap (λ t. t || is_store e.item.kind) z) in
      let o = load_out e.item.kind x.ram l F (load_bytes x.ram b F.addr (width_in e.item.instr)) (Some O) z (sym (whole_known e.item.kind (has_address e) (has_data e) O n)) refl in
      stands_behind d code (bank_of x) x.cycle l refl (around x) b e refl (o.0 ∙ ad) (o.1 ∙ ap (λ a. load_fault x.ram a (byte_count e)) ad) h (load_behind e.item.kind d (around x) b e m z)

  begun_so : is_store e.item.kind ≡ false → MayIssue d (around x) b e → (r : Entry) → Comes x.cycle e O r → Kept d code (bank_of x) (x.cycle + 1) b e r
  begun_so n m r (Remains q) = subst (λ r. Kept d code (bank_of x) (x.cycle + 1) b e r) (sym q) remains
  begun_so n m r (Begins due q) =
      let k = e.item.kind in
      let a = has_address e in
      let c = has_data e in
      let t = waits_so e.state m.waits st.state in
      let p = whole_parts k a c (is_issued e) true n st.parts in
      let l = executing_until x.cycle e due O in
      let made : EntryInvariant d code (bank_of x) (x.cycle + 1) b l = record {
        item = st.item;
        parts = p.2;
        state = (whole_issued k a c true n, t.0, t.1);
        computed = sym (whole_known k a c (outcome_behind (bank_of x) b l) n ∙ computed_so due);
        operands = whole_operands k a c true d b e n m.ready;
        stores = λ i z. stores_so due n z m.kind;
        clearing = clearing_begun (loads_pass d) x.cycle e due O st.clearing;
        issued = λ i z. grind (arith, nat_tests);
        due = later_due e.addr_due x.cycle st.due;
        through = st.through;
        alone = st.alone;
      } in
      let on : Moves (x.cycle + 1) e l = record {
        item = refl;
        cleared = refl;
        done = λ h. absurd (t.2 h);
        address = λ h. absurd (let z = p.0 in cc);
        fresh = λ h k. absurd (cc);
        stored = λ h. absurd (let z = p.1 in cc);
      } in
      subst (λ r. Kept d code (bank_of x) (x.cycle + 1) b e r) (sym q) (record { stands = made; moves = on; link = same_link e.resolved e l refl t.0 })

-- ---- the window after Issue

-- an entry as Issue leaves it, by what stands before it
abbrev pub issued : Desc → Machine → List Entry → Entry → Entry
issued d x b e = (issue_entry d (around x) b e).entry

issue_one : (d : Desc) (code : Code) (x : Machine) (b : List Entry) (e : Entry) → Behind (EntryInvariant d code (bank_of x) x.cycle) b → EntryInvariant d code (bank_of x) x.cycle b e → Kept d code (bank_of x) (x.cycle + 1) b e (issued d x b e)
issue_one d code x b e h st = by_issue d (around x) b e (Kept d code (bank_of x) (x.cycle + 1) b e) (remains d code x b e h st)
    (λ n m. begun_so d code x b e h st n m _ (comes d x b e e.item.kind n))
    (λ t a c ga gc. parts_so d code x b e (store_kind e.item.kind t) (stands_later d code (bank_of x) x.cycle b e st) a c ga gc)

-- Issue leads to the next cycle
pub consistent_issue : (code : Code) (d : Desc) (x : Machine) → ConsistentIn x.cycle d code x → Consistent d code (issue d x).machine
consistent_issue code d x h =
    by_after_load d x (λ y. (w : List Entry) (v : Divider) → Holds d code (hart_of x) (x.cycle + 1) w x.queue x.fetch_pc → Consistent d code (record y { window = w; divider = v })) (λ c s m w v k. k)
    (first (may_at d (around x) LoadPort) x.window) _ (divider_after x (first (may_at d (around x) DivPort) x.window))
    (subst (λ w. Holds d code (hart_of x) (x.cycle + 1) w x.queue x.fetch_pc) (sym (map_each (λ (t : Begun). t.entry) (issue_entry d (around x)) [] x.window))
    (each_holds d code (hart_of x) x.cycle (x.cycle + 1) (issued d x) (issue_one d code x) x.window x.queue x.fetch_pc h))
