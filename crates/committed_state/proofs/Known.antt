-- What is known of an entry that has issued: its operands have their values. So what it computes is what the replay
-- says, where each older store is cleared.
use Rattle.std.proofs.Common.{◌≡◌, ℕ, ◌+◌, Bool, true, false, not, ◌&&◌, List, [], ◌∷◌, length, Option, Some, refl, ap, sym, ◌∙◌, subst, arith}
use Rattle.std.specs.Prelude.{if◌then◌else◌, reverse}
use Rattle.std.specs.List.{find, list_all}
use Rattle.rv_types.specs.Memory.{Code, bytes_at}
use Rattle.rv_types.specs.Isa.{Effect}
use Rattle.rv_types.specs.declared.Kind.{Kind}
use Rattle.rv_types.specs.declared.Kind.TheVariants.{Store}
use Rattle.machine_desc.specs.declared.Desc.{Desc}
use Rattle.window_model.specs.declared.Entry.{Entry}
use Rattle.window_model.specs.declared.Outcome.{Outcome}
use Rattle.window_model.specs.declared.Progress.{Progress}
use Rattle.window_model.specs.declared.Progress.TheVariants.{Waiting, Busy, Done}
use Rattle.window_model.specs.Along.{Along, Behind}
use Rattle.machine_desc.specs.Questions.{loads_pass}
use Rattle.window_model.specs.Rename.{at_once}
use Rattle.window_model.specs.MayIssue.{effect_of}
use Rattle.window_model.specs.Order.{is_control, writes, writer, is_done, is_store, has_address, has_data}
use Rattle.window_model.specs.Retire.{hart_of, width_in}
use Rattle.window_model.proofs.Booleans.{both, or_true}
use Rattle.window_model.proofs.EntryByEntry.{behind_of}
use Rattle.window_model.proofs.Memory.{inside}
use Rattle.committed_state.specs.Computed.{Bank, ComesTo, as_known, as_known_by, outcome_behind, outcome_as}
use Rattle.committed_state.specs.Consistent.{EntryInvariant, FitsClearing, FitsParts, FitsState, all_issued, all_issued_by, bank_in, executed, goes_through, is_issued}
use Rattle.committed_state.specs.Laws.{AllClearUnlessPassing, IssuedIsReplayed}
use Rattle.committed_state.specs.Replay.{FollowsReplay, bank, is_clear, replay_outcome}
use Rattle.committed_state.proofs.Bytes.{keeps_bank, load_bytes_are, store_issued}
use Rattle.committed_state.proofs.Computed.{alike, effect_alone}
use Rattle.committed_state.proofs.Onward.{comes_to, in_load}
use Rattle.committed_state.proofs.Operands.{HasValue, operand_is}

-- what is Done has all of its outcome, unless it is a stop or a call, and only a branch or JALR is resolved
pub done_has : (t : Progress) (e : Entry) → FitsState t e → is_done t ≡ true → (all_issued e ≡ not (at_once e.item.kind)) × (e.resolved ≡ true → is_control e.item.kind ≡ true)
done_has Done e h d = h
done_has Waiting e h d = absurd (cc)
done_has (Busy due) e h d = absurd (cc)

-- where all of an entry has issued, it has an outcome
pub issued_of : (k : Kind) (a c i : Bool) → FitsParts k a c i → all_issued_by k a c i ≡ true → i ≡ true
issued_of Store a c i p h = store_issued Store a c i refl p (both a c h).0
issued_of _ a c i p h = h

-- where all of a store has issued, both its parts have
pub both_parts : (k : Kind) (a c i : Bool) → is_store k ≡ true → all_issued_by k a c i ≡ true → (a ≡ true) × (c ≡ true)
both_parts Store a c i q h = both a c h
both_parts _ a c i q h = absurd (cc)

-- where all of an entry has issued, its whole outcome is known
pub known_all : (k : Kind) (a c i : Bool) (v : Outcome) → all_issued_by k a c i ≡ true → as_known_by k a c v ≡ v
known_all Store true true i v h = refl
known_all Store true false i v h = absurd (cc)
known_all Store false c i v h = absurd (cc)
known_all _ a c i v h = refl

-- what is Done and no stop or call has an outcome
pub done_issued : (d : Desc) (code : Code) (s : Bank) (now : ℕ) (b : List Entry) (e : Entry) → EntryInvariant d code s now b e → goes_through e ≡ true → is_done e.state ≡ true → is_issued e ≡ true
done_issued d code s now b e h t f = issued_of e.item.kind (has_address e) (has_data e) (is_issued e) h.parts ((done_has e.state e h.state f).0 ∙ t)

value_if : (w k : Bool) (e : Entry) (o : Option Entry) → (is_done e.state ≡ true → is_issued e ≡ true) → (k ≡ true → HasValue o) → (if w then is_done e.state else k) ≡ true → HasValue (if w then Some e else o)
value_if true k e o p q t = p t
value_if false k e o p q t = q t

-- a source whose writer has executed is given by a writer that has a value, or by the retired registers
pub has_value : (d : Desc) (code : Code) (s : Bank) (now : ℕ) (b : List Entry) (r : ℕ) → Behind (EntryInvariant d code s now) b → list_all goes_through b ≡ true → executed b r ≡ true → HasValue (writer b r)
has_value d code s now [] r h t k = tt
has_value d code s now (e ∷ b) r h t k =
    let ts = both _ _ t in
    value_if (writes r e) (executed b r) e (find (writes r) b) (done_issued d code s now b e h.0 ts.0) (has_value d code s now b r h.1 ts.1) k

-- ---- entries and the replay

-- with as many registers as instructions name, what issued entries have computed is the replay's
module _ (d : Desc) (code : Code) (s : Bank) (now : ℕ) (n : length s.regs ≡ 32) where
  -- what an issued entry computes is what its replay comes to, where older entries have theirs and older stores are
  -- cleared
  replayed_so : (b : List Entry) (e : Entry) → FollowsReplay s b → list_all is_clear b ≡ true → Behind (EntryInvariant d code s now) b → EntryInvariant d code s now b e → is_issued e ≡ true → as_known e (replay_outcome (bank s b) e) ≡ as_known e (outcome_behind s b e)
  replayed_so b e r cl h st i =
      let w = width_in e.item.instr in
      let m = bank s b in
      let F : Effect = effect_of s.regs b e in
      ap (λ (f : Effect). as_known e (outcome_as e.item.kind m.ram e.item.instr f (bytes_at m.ram f.addr w))) (sym (effect_alone m e))
      ∙ alike code s m b [] e st.item (keeps_bank s b) (λ q lt k. sym (operand_is s b q (omega (arith, n)) cl r (has_value d code s now b q h st.through k))) (λ a. bytes_at m.ram a w)
      (λ l f. let j = inside _ _ s.ram F.addr w f in sym (load_bytes_are d code s now e b F.addr w j.0 j.1 (λ a le lt. in_load d code s now b e st i l f a le lt) h (st.stores i l) cl r)) i st.operands

  -- every entry that one looks back on has the outcome of its replay, as far as it is known
  pub replayed_behind : (b : List Entry) → Behind (EntryInvariant d code s now) b → FollowsReplay s b
  replayed_behind [] h = tt
  replayed_behind (e ∷ b) h = let r = replayed_behind b h.1 in (λ cl. comes_to e.outcome _ _ (replayed_so b e r cl h.1 h.0) h.0.computed, r)

  -- a head of which all has issued has the outcome of its replay on the retired state
  pub replayed_head : (e : Entry) → EntryInvariant d code s now [] e → all_issued e ≡ true → ComesTo e.outcome (replay_outcome s e)
  replayed_head e st a = subst (ComesTo e.outcome) (known_all e.item.kind (has_address e) (has_data e) (is_issued e) (replay_outcome s e) a) ((replayed_behind (e ∷ []) (st, tt)).0 refl)

-- in a consistent state each issued entry has the outcome of its replay
pub issued_is_replayed : IssuedIsReplayed
issued_is_replayed d code x h = replayed_behind d code (bank_in (hart_of x)) (x.cycle + 1) h.registers (reverse x.window) (behind_of (EntryInvariant d code (bank_in (hart_of x)) (x.cycle + 1)) [] x.window h.entries tt)

-- where no load passes a store, each entry is cleared
clear_so : (p : Bool) (e : Entry) → FitsClearing p e → p ≡ false → is_clear e ≡ true
clear_so true e c q = absurd (cc)
clear_so false e c q = or_true (not (is_store e.item.kind)) e.cleared c

all_clear_from : (d : Desc) (code : Code) (s : Bank) (now : ℕ) (b w : List Entry) → Along (EntryInvariant d code s now) b w → loads_pass d ≡ false → list_all is_clear w ≡ true
all_clear_from d code s now b [] h q = refl
all_clear_from d code s now b (e ∷ w) h q = ap (λ c. c && list_all is_clear w) (clear_so (loads_pass d) e h.0.clearing q) ∙ all_clear_from d code s now (e ∷ b) w h.1 q

-- in a consistent state each store is cleared, unless loads may pass stores
pub all_clear : AllClearUnlessPassing
all_clear d code x h q = all_clear_from d code (bank_in (hart_of x)) (x.cycle + 1) [] x.window h.entries q
