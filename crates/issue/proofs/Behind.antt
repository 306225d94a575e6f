-- Whether the older stores let a load go, as the queue of stores tells.
use Rattle.std.proofs.Common.{◌≡◌, ℕ, zero, suc, Bool, true, false, not, ◌&&◌, ◌||◌, List, [], ◌∷◌, take, None, refl, ap, ap₂, sym, ◌∙◌}
use Rattle.std.specs.Prelude.{◌==◌, if◌then◌else◌}
use Rattle.std.specs.List.{AllByRecursion as Each, list_all, list_any}
use mathlib.Core.List.{reverse_aux}
use Rattle.rv_types.specs.Isa.{effect, jump, only, relative}
use Rattle.rv_types.specs.Memory.{load_fault, range}
use Rattle.rv_types.specs.Path.{unless_fault}
use Rattle.rv_types.specs.Value.{taken}
use Rattle.rv_types.specs.declared.Instr.{Instr}
use Rattle.rv_types.specs.declared.Instr.TheVariants.{Branch}
use Rattle.machine_desc.specs.declared.SttModel.{SttModel}
use Rattle.window_model.specs.declared.Entry.{Entry}
use Rattle.window_model.specs.declared.Progress.{Progress}
use Rattle.window_model.specs.declared.Progress.TheVariants.{Waiting, Busy, Done}
use Rattle.window_model.specs.Access.{covers}
use Rattle.window_model.specs.MayIssue.{address_of, bytes_of, effect_of, first_operand, goes_behind, lets, passes_stores, second_operand, stores_done, stores_let}
use Rattle.window_model.specs.Order.{before_at, has_address, has_data, is_busy, is_done, is_store, is_waiting, sources}
use Rattle.window_model.specs.Retire.{byte_count}
use Rattle.window_model.specs.Taint.{address_tainted}
use Rattle.machine_facts.specs.Sized.{HasParts, Together}
use Rattle.machine_facts.specs.Timely.{WaitsOrDone}
use Rattle.machine_facts.proofs.GoesBehind.{goes_as_let}
use Rattle.lsq.specs.Queues.{is_known}
use Rattle.queue_laws.specs.Window.{all_complete}
use Rattle.queue_laws.proofs.Letting.{known_is}
use Rattle.issue.specs.declared.seen.Seen.{Seen}
use Rattle.issue.specs.State.{IssueInvariant, StandsAt, around_of}
use Rattle.issue.proofs.Bytes.{stand, stores}

-- ---- an address comes from the base alone

same_branch : (pc target : ℕ) (x y : Bool) → (if x then jump 1 target else only pc 0).addr ≡ (if y then jump 1 target else only pc 0).addr
same_branch pc target true true = refl
same_branch pc target true false = refl
same_branch pc target false true = refl
same_branch pc target false false = refl

by_base : (pc : ℕ) (i : Instr) (a b : ℕ) → (effect pc i a b).addr ≡ (effect pc i a 0).addr
by_base pc (Branch op rs1 rs2 imm) a b = same_branch pc (relative pc imm) (taken op a b) (taken op a 0)
by_base pc _ a b = refl

pub address_is : (regs : List ℕ) (before : List Entry) (e : Entry) → (effect_of regs before e).addr ≡ address_of regs before e
address_is regs before e = by_base e.item.pc e.item.instr (first_operand regs before (sources e)) (second_operand regs before (sources e))

-- ---- stores of which both parts have issued

-- a store of which both parts have issued lets every load go
complete_one : (store a c f r : Bool) → (not store || a && c) ≡ true → (not store || (a || f) && (c || r)) ≡ true
complete_one false a c f r h = refl
complete_one true true true f r h = refl
complete_one true true false f r h = absurd (cc)
complete_one true false c f r h = absurd (cc)

both_of : (a b c d : Bool) → (a ≡ true → c ≡ true) → (b ≡ true → d ≡ true) → (a && b) ≡ true → (c && d) ≡ true
both_of true true c d p q h = ap₂ (λ x y. x && y) (p refl) (q refl)
both_of true false c d p q h = absurd (cc)
both_of false b c d p q h = absurd (cc)

complete_lets : (model : SttModel) (passes : Bool) (bytes : List ℕ) (before : List Entry) → all_complete before ≡ true → stores_let model passes bytes before ≡ true
complete_lets model passes bytes [] h = refl
complete_lets model passes bytes (e ∷ before) h =
    both_of (not (is_store e.item.kind) || has_address e && has_data e) (all_complete before) (not (is_store e.item.kind) || lets model passes bytes before e) (stores_let model passes bytes before)
    (complete_one (is_store e.item.kind) (has_address e) (has_data e) passes (not (address_tainted model before e) && not (list_any (λ a. covers a e) bytes))) (complete_lets model passes bytes before) h

-- where no store executes, they are those that are Done
done_parts : (a c : Bool) (s : Progress) → (a && c) ≡ not (is_waiting s) → is_busy s ≡ false → is_done s ≡ (a && c)
done_parts a c Waiting p b = sym p
done_parts a c (Busy due) p b = absurd (cc)
done_parts a c Done p b = sym p

done_one : (e : Entry) (store : Bool) → is_store e.item.kind ≡ store → HasParts e → WaitsOrDone e → (not store || is_done e.state) ≡ (not store || has_address e && has_data e)
done_one e false s p w = refl
done_one e true s p w = done_parts (has_address e) (has_data e) e.state (p s) (w s)

done_complete : (before : List Entry) → Each HasParts before → Each WaitsOrDone before → stores_done before ≡ all_complete before
done_complete [] p w = refl
done_complete (e ∷ before) p w = ap₂ (λ a b. a && b) (done_one e (is_store e.item.kind) refl p.0 w.0) (done_complete before p.1 w.1)

-- ---- what holds of each entry holds of those before a position

each_back : (P : Entry → Type 0) (es acc : List Entry) (i : ℕ) → Each P es → Each P acc → Each P (reverse_aux (take i es) acc)
each_back P es acc zero p q = q
each_back P [] acc (suc i) p q = q
each_back P (e ∷ es) acc (suc i) p q = each_back P es (e ∷ acc) i p.1 (p.0, q)

module _ (s : Seen) (i : ℕ) (e : Entry) (t : IssueInvariant s) (h : StandsAt s i e) where
  abbrev before : List Entry
  before = before_at s.rob.now.entries i

  parts_before : Each HasParts before
  parts_before = each_back HasParts s.rob.now.entries [] i t.store_parts tt

  settled_before : Each WaitsOrDone before
  settled_before = each_back WaitsOrDone s.rob.now.entries [] i t.settled tt

  -- a load goes behind them where they let it go
  pub goes_is : goes_behind s.desc.now (around_of s) before e ≡ stores_let s.desc.now.stt_model (passes_stores s.desc.now (around_of s) e) (bytes_of (around_of s) before e) before
  goes_is = goes_as_let s.desc.now (around_of s) before e parts_before (each_back (Together s.desc.now) s.rob.now.entries [] i t.together tt) settled_before

  -- a load goes behind its older stores where the queue says that they are all known
  pub goes_known : list_all is_known (stores s i e t h) ≡ true → goes_behind s.desc.now (around_of s) before e ≡ true
  goes_known k = goes_is ∙ complete_lets s.desc.now.stt_model (passes_stores s.desc.now (around_of s) e) (bytes_of (around_of s) before e) before (sym (known_is (stores s i e t h) before (stand s i e t h)) ∙ k)

  -- in version 1 a load goes behind its older stores only where the queue says that they are all known
  pub goes_not : (s.desc.now.version == 1) ≡ true → list_all is_known (stores s i e t h) ≡ false → goes_behind s.desc.now (around_of s) before e ≡ false
  goes_not v k =
      ap (λ v. if v then stores_done before else stores_let s.desc.now.stt_model (passes_stores s.desc.now (around_of s) e) (bytes_of (around_of s) before e) before) v
      ∙ done_complete before parts_before settled_before ∙ sym (known_is (stores s i e t h) before (stand s i e t h)) ∙ k

  -- a load without fault asks for all its bytes
  pub lets_sound : (addr : ℕ) → addr ≡ (effect_of s.regs.now before e).addr → load_fault s.ram.now addr (byte_count e) ≡ None → goes_behind s.desc.now (around_of s) before e ≡ true →
      stores_let s.desc.now.stt_model (passes_stores s.desc.now (around_of s) e) (range addr (byte_count e)) before ≡ true
  lets_sound addr q sound g =
      let a = q ∙ address_is s.regs.now before e in
      let fault = sym (ap (λ a. load_fault s.ram.now a (byte_count e)) a) ∙ sound in
      ap (λ a. stores_let s.desc.now.stt_model (passes_stores s.desc.now (around_of s) e) (range a (byte_count e)) before) a
      ∙ sym (ap (λ f. stores_let s.desc.now.stt_model (passes_stores s.desc.now (around_of s) e) (unless_fault f (range (address_of s.regs.now before e) (byte_count e))) before) fault)
      ∙ sym goes_is ∙ g
