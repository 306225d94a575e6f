-- Retire tells nothing: the head has nothing older, so what retires is one entry in both runs.
use Rattle.std.proofs.Common.{◌≡◌, ℕ, zero, suc, ◌+◌, ◌≤◌, Bool, true, false, not, ◌&&◌, ◌||◌, List, [], ◌∷◌, length, map, Option, Some, None, refl, ap, sym, ◌∙◌, subst, arith}
use Rattle.rv_types.specs.Memory.{Code}
use Rattle.rv_types.specs.Isa.{call}
use Rattle.rv_types.specs.declared.Cause.{Cause}
use Rattle.rv_types.specs.declared.End.{End}
use Rattle.rv_types.specs.declared.End.TheVariants.{Trap}
use Rattle.machine_desc.specs.declared.Desc.{Desc}
use Rattle.window_model.specs.Retire.{Retired, retire, turns, turn, head_turn, head_leaves, then_retires, stays, store_waits, unless_ended, hart_of, may_leave, trap_of}
use Rattle.window_model.specs.declared.Entry.{Entry}
use Rattle.window_model.specs.State.{Machine}
use Rattle.window_model.specs.Order.{is_load, is_store}
use Rattle.window_model.specs.Rename.{is_call}
use Rattle.window_model.specs.Taint.{protects}
use Rattle.window_model.specs.Committed.{Aligned}
use Rattle.window_model.specs.Path.{path}
use Rattle.window_model.proofs.Booleans.{some_of}
use Rattle.window_model.proofs.Calls.{call_does}
use Rattle.window_model.proofs.Leaving.{is_cleared}
use Rattle.committed_state.specs.Consistent.{Holds, EntryInvariant, bank_in}
use Rattle.committed_state.proofs.Turn.{head_leaves_so}
use Rattle.committed_state.proofs.Ends.{head_calls}
use Rattle.committed_state.proofs.Calls.{only_call}
use Rattle.two_runs.proofs.Choices.{if_both}
use Rattle.noninterference.specs.Alike.{Alike, without_outcome}
use Rattle.noninterference.specs.InStep.{InStepUpTo}
use Rattle.noninterference.specs.Together.{RetiresAlike}
use Rattle.noninterference.specs.Laws.{RetireTellsNothing}
use Rattle.noninterference.proofs.StepsAlike.{StepsAlike, step_alike}
use Rattle.noninterference.proofs.Paths.{path_calls}
use Rattle.noninterference.proofs.Looking.{untainted_sources, same_entry}
use Rattle.noninterference.proofs.Operands.{known_outcome}
use Rattle.noninterference.proofs.SameReads.{same_window}
use Rattle.noninterference.proofs.OneRun.{head_alone}
use Rattle.noninterference.proofs.Turns.{Follows, stays_alike, left_turn, call_turn}
use Rattle.committed_state.proofs.Retire.{call_kind}

module _ (now : ℕ) (d : Desc) (protected : protects d.stt_model ≡ true) (code : Code) (aligned : Aligned code) (total : ℕ) where
  abbrev R : Retired → Retired → Type 0
  R r r2 = RetiresAlike d.stt_model code total r r2

  -- the heads of both windows are one entry
  head_same : (x x2 : Machine) (e e2 : Entry) → InStepUpTo d.stt_model code total x x2 → 1 + x.retired ≤ total → length x.regs ≡ 32 → length x2.regs ≡ 32 → EntryInvariant d code (bank_in (hart_of x)) now [] e → EntryInvariant d code (bank_in (hart_of x2)) now [] e2 → x.pc ≡ e.item.pc → x2.pc ≡ e2.item.pc → without_outcome e ≡ without_outcome e2 → e ≡ e2
  head_same x x2 e e2 a lt n n2 st st2 pc pc2 h =
      let s = same_window now d protected code aligned x x2 1 n n2 (λ k le. a k (omega (arith, le, lt))) (e ∷ []) (e2 ∷ []) (omega arith) (head_alone now d code x e st pc) (head_alone now d code x2 e2 st2 pc2) (ap (λ t. t ∷ []) h) in
      let u = untainted_sources d.stt_model [] e refl in
      same_entry e e2 h (known_outcome e.item.kind d.stt_model [] e e2 s.0.outcomes (off (is_load e.item.kind) _ _ refl u))
    where
      off : (l v u : Bool) → v ≡ true → u ≡ false → (l && not v || u) ≡ false
      off true true false p q = refl
      off false true false p q = refl
      off l _ _ p q = absurd (cc)

  -- ---- one turn of one entry, and all turns

  by_call : (b : Bool) (n : ℕ) (stored : Bool) (x x2 : Machine) (e : Entry) (rest rest2 : List Entry) → is_call e.item.kind ≡ b → x.end ≡ None → Holds d code (hart_of x) now (e ∷ rest) x.queue x.fetch_pc → Holds d code (hart_of x2) now (e ∷ rest2) x2.queue x2.fetch_pc → may_leave e ≡ true → trap_of e ≡ None → (is_store e.item.kind ≡ true → e.cleared ≡ true) →
      map without_outcome rest ≡ map without_outcome rest2 → x.retired + suc (length rest) ≤ total → Alike x x2 → InStepUpTo d.stt_model code total x x2 → Follows now d code total (turns d n stored) →
      R (then_retires (head_leaves e.item.kind d e rest x) (turns d n stored)) (then_retires (head_leaves e.item.kind d e rest2 x2) (turns d n stored))
  by_call false n stored x x2 e rest rest2 c ne h h2 may t clear w le r a m =
      let l = head_leaves_so d code (hart_of x) now e rest x.queue x.fetch_pc h may t c clear in
      let l2 = head_leaves_so d code (hart_of x2) now e rest2 x2.queue x2.fetch_pc h2 may t c clear in
      left_turn now d code total e.item.kind x x2 e rest rest2 (turns d n stored) c (record { holds = l.holds; step = l.step }) (record { holds = l2.holds; step = l2.step }) ne w le r a m
  by_call true n stored x x2 e [] [] c ne h h2 may t clear w le r a m =
      let k = call_kind e.item.kind c in
      let q = head_calls d code (hart_of x) now e h.entries.0 (some_of _ _ h.chain.0) k in
      let q2 = head_calls d code (hart_of x2) now e h2.entries.0 (some_of _ _ h2.chain.0) k in
      let st = step_alike d.stt_model code 0 (hart_of x) (hart_of x2) (a 1 (omega (arith, le))) in
      let st2 = subst (λ u. StepsAlike (hart_of x) (hart_of x2) u (call (hart_of x2))) (path_calls d.stt_model code (hart_of x) q) (subst (StepsAlike (hart_of x) (hart_of x2) (path d.stt_model code (hart_of x))) (path_calls d.stt_model code (hart_of x2) q2) st) in
      subst (λ k. R (then_retires (head_leaves k d e [] x) (turns d n stored)) (then_retires (head_leaves k d e [] x2) (turns d n stored))) (sym k)
      (call_turn now d code total x x2 e n stored (call (hart_of x)) (call (hart_of x2)) q q2 st2 (call_does (hart_of x)) r a)
  by_call true n stored x x2 e (y ∷ rest) rest2 c ne h h2 may t clear w le r a m = absurd (only_call d code (hart_of x) now e y rest x.queue x.fetch_pc (call_kind e.item.kind c) h)
  by_call true n stored x x2 e [] (y ∷ rest2) c ne h h2 may t clear w le r a m = absurd (cc)

  by_trap : (o : Option Cause) (n : ℕ) (stored : Bool) (x x2 : Machine) (e : Entry) (rest rest2 : List Entry) → trap_of e ≡ o → x.end ≡ None → Holds d code (hart_of x) now (e ∷ rest) x.queue x.fetch_pc → Holds d code (hart_of x2) now (e ∷ rest2) x2.queue x2.fetch_pc → may_leave e ≡ true →
      map without_outcome rest ≡ map without_outcome rest2 → x.retired + suc (length rest) ≤ total → Alike x x2 → InStepUpTo d.stt_model code total x x2 → ((b : Bool) → Follows now d code total (turns d n b)) →
      R (turn d stored o e rest x (turns d n)) (turn d stored o e rest2 x2 (turns d n))
  by_trap (Some c) n stored x x2 e rest rest2 t ne h h2 may w le r a m =
      record { alike = ap (λ (m : Machine). let u : Machine = record m { end = Some (Trap c e.item.pc) } in u) r; events = refl; piece = refl; in_step = λ z. absurd (cc) }
  by_trap None n stored x x2 e rest rest2 t ne h h2 may w le r a m =
      if_both R (store_waits stored e) (store_waits stored e) _ _ _ _ refl (λ q. stays_alike now d code total x x2 r a)
      (λ q. by_call (is_call e.item.kind) n _ x x2 e rest rest2 refl ne h h2 may t (is_cleared stored e q) w le r a (m (stored || is_store e.item.kind)))

  by_head : (n : ℕ) (stored : Bool) (x x2 : Machine) (w w2 : List Entry) → x.end ≡ None → Holds d code (hart_of x) now w x.queue x.fetch_pc → Holds d code (hart_of x2) now w2 x2.queue x2.fetch_pc →
      map without_outcome w ≡ map without_outcome w2 → x.retired + length w ≤ total → Alike x x2 → InStepUpTo d.stt_model code total x x2 → ((b : Bool) → Follows now d code total (turns d n b)) → R (head_turn d stored w x (turns d n)) (head_turn d stored w2 x2 (turns d n))
  by_head n stored x x2 [] [] ne h h2 l le r a m = stays_alike now d code total x x2 r a
  by_head n stored x x2 (e ∷ rest) (e2 ∷ rest2) ne h h2 l le r a m =
      let l1 : without_outcome e ≡ without_outcome e2 = cc in
      let l2 : map without_outcome rest ≡ map without_outcome rest2 = cc in
      let same = head_same x x2 e e2 a (omega (arith, le)) h.registers h2.registers h.entries.0 h2.entries.0 (some_of _ _ h.chain.0) (some_of _ _ h2.chain.0) l1 in
      subst (λ t. R (head_turn d stored (e ∷ rest) x (turns d n)) (head_turn d stored (t ∷ rest2) x2 (turns d n))) same
      (if_both R (may_leave e) (may_leave e) _ _ _ _ refl
      (λ may. by_trap (trap_of e) n stored x x2 e rest rest2 refl ne h (subst (λ t. Holds d code (hart_of x2) now (t ∷ rest2) x2.queue x2.fetch_pc) (sym same) h2) may l2 (omega (arith, le)) r a m)
      (λ q. stays_alike now d code total x x2 r a))
  by_head n stored x x2 _ _ ne h h2 l le r a m = absurd (cc)

  turns_alike : (n : ℕ) (stored : Bool) → Follows now d code total (turns d n stored)
  turns_alike zero stored x x2 ne h h2 le r a = stays_alike now d code total x x2 r a
  turns_alike (suc n) stored x x2 ne h h2 le r a =
      let w : map without_outcome x.window ≡ map without_outcome x2.window = ap (λ (m : Machine). m.window) r in
      let ne2 : x2.end ≡ None = sym (ap (λ (m : Machine). m.end) r) ∙ ne in
      goes x.end x2.end ne ne2 (by_head n stored x x2 x.window x2.window ne h h2 w le r a (turns_alike n))
    where
      goes : (o o2 : Option End) → o ≡ None → o2 ≡ None → {s s2 : Retired} → R s s2 → R (unless_ended o (stays x) s) (unless_ended o2 (stays x2) s2)
      goes None None q q2 h = h
      goes _ _ q q2 h = absurd (cc)

-- Retire tells nothing of two machines that show the same, where the paths of both runs go on in step
pub retire_tells_nothing : RetireTellsNothing
unfolding retire
retire_tells_nothing now d code total x x2 protected aligned ne h h2 le r a = turns_alike now d protected code aligned total d.core_retire_width false x x2 ne h h2 le r a
