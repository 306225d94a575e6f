-- Issue of a store: each part that goes makes known what it computes.
use Rattle.std.proofs.Common.{◌≡◌, ℕ, ◌+◌, Bool, true, false, not, ◌&&◌, ◌||◌, List, Option, Some, None, refl, ap, sym, ◌∙◌, subst, arith}
use Rattle.std.specs.Prelude.{if◌then◌else◌, is_some}
use Rattle.rv_types.specs.Memory.{Code}
use Rattle.rv_types.specs.Isa.{Effect}
use Rattle.rv_types.specs.declared.Kind.{Kind}
use Rattle.rv_types.specs.declared.Kind.TheVariants.{Store}
use Rattle.machine_desc.specs.declared.Desc.{Desc}
use Rattle.window_model.specs.declared.Entry.{Entry}
use Rattle.window_model.specs.declared.Item.{Item}
use Rattle.window_model.specs.declared.Outcome.{Outcome}
use Rattle.window_model.specs.declared.Progress.{Progress}
use Rattle.window_model.specs.declared.Progress.TheVariants.{Waiting, Busy, Done}
use Rattle.window_model.specs.State.{Machine}
use Rattle.window_model.specs.Around.{around}
use Rattle.machine_desc.specs.Questions.{loads_pass}
use Rattle.window_model.specs.MayIssue.{effect_of}
use Rattle.window_model.specs.Issue.{busy_until_both, so_far, with_address, with_data}
use Rattle.window_model.specs.Order.{base_of, has_address, has_data, is_done, is_load, is_store, others_of, sources}
use Rattle.window_model.specs.Rename.{at_once}
use Rattle.window_model.specs.Retire.{hart_of, stored_of}
use Rattle.window_model.proofs.Booleans.{and_no, or_true}
use Rattle.window_model.proofs.Issuing.{MayGo, gone_parts}
use Rattle.committed_state.specs.Computed.{Bank, ComesTo, as_known_by, bytes_over, outcome_behind, known_of, outcome_as}
use Rattle.committed_state.specs.Consistent.{FitsClearing, FitsParts, FitsState, HasOperands, EntryInvariant, all_executed, all_issued, all_issued_by, bank_in, is_issued}
use Rattle.committed_state.specs.Links.{Link, true_next}
use Rattle.committed_state.proofs.Kept.{Kept}
use Rattle.committed_state.proofs.Sees.{Moves, located, moves_same, moves_then}
use Rattle.committed_state.proofs.Operands.{all_known_executed}

-- registers and memory of a machine
abbrev pub bank_of : Machine → Bank
bank_of x = bank_in (hart_of x)

abbrev made_link : Item → Option ℕ → Link
made_link i n = record { pc = i.pc; next = n }

-- fetch goes on as predicted after what is not resolved
pub same_link : (u : Bool) (e e2 : Entry) → e2.item ≡ e.item → u ≡ false → made_link e2.item (if u then true_next e2 else e2.item.predicted) ≡ made_link e.item (if u then true_next e else e.item.predicted)
same_link false e e2 h n = ap (λ (i : Item). made_link i i.predicted) h
same_link true e e2 h n = absurd (cc)

-- the outcome before a part goes
so_far_is : (o : Option Outcome) (v : Outcome) (a c : Bool) → is_some o ≡ (a || c) → v.value ≡ 0 → ComesTo o (known_of a c v) → so_far o v.next ≡ known_of a c v
so_far_is (Some o) v a c i z h = h
so_far_is None v false false i z h = cc
so_far_is None v true c i z h = absurd (cc)
so_far_is None v false true i z h = absurd (cc)

-- a store that lacks a part waits, and isn't resolved
still_waits : (t : Progress) (e : Entry) → FitsState t e → all_issued e ≡ false → at_once e.item.kind ≡ false → (t ≡ Waiting) × (e.resolved ≡ false)
still_waits Waiting e f n k = (refl, f.1)
still_waits (Busy due) e f n k = absurd (let z = f.0 in cc)
still_waits Done e f n k = absurd (let z = f.0 ∙ ap not k in cc)

-- a store executes from when both its parts have issued
fits_busy : (a c : Option ℕ) (e : Entry) → all_issued e ≡ (is_some a && is_some c) → e.resolved ≡ false → at_once e.item.kind ≡ false → FitsState (busy_until_both a c Waiting) e
fits_busy (Some a) (Some c) e h r k = (h, r, k)
fits_busy (Some a) None e h r k = (h, r, k)
fits_busy None (Some c) e h r k = (h, r, k)
fits_busy None None e h r k = (h, r, k)

store_all : (k : Kind) (a c i : Bool) → k ≡ Store → all_issued_by k a c i ≡ (a && c)
store_all Store a c i q = refl
store_all _ a c i q = absurd (cc)

-- what has to hold of a store that is or isn't cleared stays as its address comes or stays
fits_clearing : (p : Bool) (e r : Entry) → r.item ≡ e.item → r.cleared ≡ e.cleared → (has_address r ≡ false → has_address e ≡ false) → FitsClearing p e → FitsClearing p r
fits_clearing true e r i c a f = λ q n. c ∙ f (sym (ap (λ (i : Item). is_store i.kind) i) ∙ q) (a n)
fits_clearing false e r i c a f = c ∙ f

module _ (d : Desc) (code : Code) (x : Machine) (b : List Entry) (e : Entry) (q : e.item.kind ≡ Store) (st : EntryInvariant d code (bank_of x) (x.cycle + 1) b e) where
  abbrev F : Effect
  F = effect_of x.regs b e

  abbrev O : Outcome
  O = outcome_as Store x.ram e.item.instr F (bytes_over (bank_of x) b e F.addr)

  no_load : is_load e.item.kind ≡ false
  no_load = ap is_load q

  once : at_once e.item.kind ≡ false
  once = ap at_once q

  known_as : (a c : Bool) (o : Option Outcome) → ComesTo o (known_of a c O) → ComesTo o (as_known_by e.item.kind a c (outcome_behind (bank_of x) b e))
  known_as a c o h = subst (λ k. ComesTo o (as_known_by k a c (outcome_as k x.ram e.item.instr F (bytes_over (bank_of x) b e F.addr)))) (sym q) h

  -- the store has an outcome from its first part on
  has_outcome : is_some e.outcome ≡ (has_address e || has_data e)
  has_outcome = subst (λ k. FitsParts k (has_address e) (has_data e) (is_issued e)) q st.parts

  -- the store's outcome is, before a part issues, as much of the whole as is known
  before : so_far e.outcome F.next ≡ known_of (has_address e) (has_data e) O
  before = so_far_is e.outcome O (has_address e) (has_data e) has_outcome refl
      (subst (λ k. ComesTo e.outcome (as_known_by k (has_address e) (has_data e) (outcome_as k x.ram e.item.instr F (bytes_over (bank_of x) b e F.addr)))) q st.computed)

  own : (has_address e ≡ true → all_executed b (base_of (sources e)) ≡ true) × (has_data e ≡ true → all_executed b (others_of (sources e)) ≡ true)
  own = subst (λ k. HasOperands k (has_address e) (has_data e) (is_issued e) b (sources e)) q st.operands

  -- a store whose address part issues goes on, and stands as it has to
  address_so : MayGo d (has_address e) (base_of (sources e)) b → Kept d code (bank_of x) (x.cycle + 1) b e (with_address (around x) F e)
  address_so g =
      let r = with_address (around x) F e in
      let w = still_waits e.state e st.state (store_all e.item.kind (has_address e) (has_data e) (is_issued e) q ∙ ap (λ a. a && has_data e) g.fresh) once in
      let out : ComesTo r.outcome (known_of true (has_data e) O) = ap (λ (u : Outcome). let v : Outcome = record u { addr = O.addr; fault = O.fault } in v) (before ∙ ap (λ a. known_of a (has_data e) O) g.fresh) in
      let made : EntryInvariant d code (bank_of x) (x.cycle + 1) b r = record {
        item = st.item;
        parts = subst (λ k. FitsParts k true (has_data e) true) (sym q) refl;
        state = subst (λ t. FitsState (busy_until_both (Some (x.cycle + 1)) e.data_due t) r) (sym w.0) (fits_busy (Some (x.cycle + 1)) e.data_due r (store_all e.item.kind true (has_data e) true q) w.1 once);
        computed = known_as true (has_data e) r.outcome out;
        operands = subst (λ k. HasOperands k true (has_data e) true b (sources e)) (sym q) (λ z. all_known_executed d b (base_of (sources e)) g.known, own.1);
        stores = λ i l. absurd (let n = no_load in cc);
        clearing = fits_clearing (loads_pass d) e r refl refl (λ h. absurd (cc)) st.clearing;
        issued = λ i l. absurd (let n = no_load in cc);
        due = omega arith;
        through = st.through;
        alone = st.alone;
      } in
      let on : Moves (x.cycle + 1) e r = record {
        item = refl;
        cleared = refl;
        done = λ h. absurd (let z = w.0 in let d = ap is_done z in cc);
        address = λ h. absurd (let f = g.fresh in cc);
        fresh = λ h k. refl;
        stored = λ h. (h, kept_data h);
      } in
      record { stands = made; moves = on; link = same_link e.resolved e r refl w.1 }
    where
      kept_data : has_data e ≡ true → (so_far e.outcome F.next).stored ≡ stored_of e.outcome
      kept_data h = by_outcome e.outcome has_outcome
        where
          by_outcome : (o : Option Outcome) → is_some o ≡ (has_address e || has_data e) → (so_far o F.next).stored ≡ stored_of o
          by_outcome (Some o) i = refl
          by_outcome None i = absurd (let z = or_true (has_address e) (has_data e) h in cc)

  -- a store whose data part issues goes on, and stands as it has to
  data_so : MayGo d (has_data e) (others_of (sources e)) b → Kept d code (bank_of x) (x.cycle + 1) b e (with_data (around x) F e)
  data_so g =
      let r = with_data (around x) F e in
      let w = still_waits e.state e st.state (store_all e.item.kind (has_address e) (has_data e) (is_issued e) q ∙ and_no (has_address e) (has_data e) g.fresh) once in
      let out : ComesTo r.outcome (known_of (has_address e) true O) = ap (λ (u : Outcome). let v : Outcome = record u { stored = O.stored } in v) (before ∙ ap (λ c. known_of (has_address e) c O) g.fresh) in
      let made : EntryInvariant d code (bank_of x) (x.cycle + 1) b r = record {
        item = st.item;
        parts = subst (λ k. FitsParts k (has_address e) true true) (sym q) (sym (or_true (has_address e) true refl));
        state = subst (λ t. FitsState (busy_until_both e.addr_due (Some (x.cycle + 1)) t) r) (sym w.0) (fits_busy e.addr_due (Some (x.cycle + 1)) r (store_all e.item.kind (has_address e) true true q) w.1 once);
        computed = known_as (has_address e) true r.outcome out;
        operands = subst (λ k. HasOperands k (has_address e) true true b (sources e)) (sym q) (own.0, λ z. all_known_executed d b (others_of (sources e)) g.known);
        stores = λ i l. absurd (let n = no_load in cc);
        clearing = fits_clearing (loads_pass d) e r refl refl (λ h. h) st.clearing;
        issued = λ i l. absurd (let n = no_load in cc);
        due = st.due;
        through = st.through;
        alone = st.alone;
      } in
      let on : Moves (x.cycle + 1) e r = record {
        item = refl;
        cleared = refl;
        done = λ h. absurd (let z = w.0 in let d = ap is_done z in cc);
        address = λ h. (refl, kept_address h);
        fresh = λ h k. absurd (cc);
        stored = λ h. absurd (let f = g.fresh in cc);
      } in
      record { stands = made; moves = on; link = same_link e.resolved e r refl w.1 }
    where
      kept_address : has_address e ≡ true → located (Some (record (so_far e.outcome F.next) { stored = F.stored })) ≡ located e.outcome
      kept_address h = by_outcome e.outcome has_outcome
        where
          by_outcome : (o : Option Outcome) → is_some o ≡ (has_address e || has_data e) → located (Some (record (so_far o F.next) { stored = F.stored })) ≡ located o
          by_outcome (Some o) i = refl
          by_outcome None i = absurd (let z = ap (λ a. a || has_data e) h in cc)

-- a store of which both parts issue, one or none
module _ (d : Desc) (code : Code) (x : Machine) (b : List Entry) where
  abbrev Goes : Entry → Entry → Type 0
  Goes = Kept d code (bank_of x) (x.cycle + 1) b

  kept_then : (e e1 e2 : Entry) → Goes e e1 → Goes e1 e2 → Goes e e2
  kept_then e e1 e2 p q = record { stands = q.stands; moves = moves_then (x.cycle + 1) e e1 e2 p.moves q.moves; link = q.link ∙ p.link }

  -- a store whose parts issue goes on, and stands as it has to
  pub parts_so : (e : Entry) → e.item.kind ≡ Store → EntryInvariant d code (bank_of x) (x.cycle + 1) b e → (a c : Bool) → (a ≡ true → MayGo d (has_address e) (base_of (sources e)) b) → (c ≡ true → MayGo d (has_data e) (others_of (sources e)) b) → Goes e (gone_parts (around x) b a c e)
  parts_so e q st false false ga gc = record { stands = st; moves = moves_same (x.cycle + 1) e; link = refl }
  parts_so e q st true false ga gc = address_so d code x b e q st (ga refl)
  parts_so e q st false true ga gc = data_so d code x b e q st (gc refl)
  parts_so e q st true true ga gc =
      let p = address_so d code x b e q st (ga refl) in
      let r = with_address (around x) (effect_of x.regs b e) e in
      kept_then e r (with_data (around x) (effect_of x.regs b e) r) p (data_so d code x b r q p.stands (gc refl))
