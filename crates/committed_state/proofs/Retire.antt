-- Retire: what leaves the window is a run of the instruction set.
use Rattle.std.proofs.Common.{◌≡◌, ℕ, Bool, ◌||◌, true, false, List, [], ◌∷◌, Some, None, refl, sym, subst, arith}
use Rattle.rv_types.specs.Memory.{Code}
use Rattle.rv_types.specs.Isa.{Hart, Goes, isa_step, with_reg}
use Rattle.rv_types.specs.Regs.{writes_of}
use Rattle.rv_types.specs.declared.Cause.{Cause}
use Rattle.rv_types.specs.declared.Kind.{Kind}
use Rattle.rv_types.specs.declared.Kind.TheVariants.{Store, Call}
use Rattle.machine_desc.specs.declared.Desc.{Desc}
use Rattle.window_model.specs.declared.Entry.{Entry}
use Rattle.window_model.specs.State.{Machine}
use Rattle.window_model.specs.Order.{is_store, value_of}
use Rattle.window_model.specs.Resolve.{next_of}
use Rattle.window_model.specs.Retire.{Retired, retire, turns, head_leaves, then_retires, ends_with, hart_of, may_leave, trap_of}
use Rattle.window_model.specs.Rename.{is_call}
use Rattle.committed_state.specs.Consistent.{Holds, ConsistentIn}
use Rattle.window_model.specs.Committed.{Aligned}
use Rattle.committed_state.proofs.Turn.{head_ram, head_leaves_so}
use Rattle.window_model.proofs.Booleans.{some_of}
use Rattle.committed_state.proofs.Ends.{head_ends}
use Rattle.committed_state.proofs.Calls.{call_turn, only_call, turns_empty}
use Rattle.committed_state.proofs.Steps.{Retires, no_turn, one_more}
use Rattle.window_model.proofs.Leaving.{is_cleared}
use Rattle.window_model.proofs.Walks.{retire_by}

-- the state behind a head of this kind
abbrev pub hart_as : Kind → Hart → Entry → Hart
hart_as k s e = record { pc = next_of e.outcome; regs = with_reg s.regs (writes_of e.item.instr) (value_of e.outcome); ram = head_ram k s.ram e e.outcome }

-- what a head of this kind leaves, and that it is a step
pub record LeftAs (now : ℕ) (d : Desc) (code : Code) (k : Kind) (x : Machine) (e : Entry) (rest : List Entry) : Type 0 where
  pub holds : Holds d code (hart_as k (hart_of x) e) now rest x.queue x.fetch_pc
  pub step : isa_step code (hart_of x) ≡ Goes (hart_as k (hart_of x) e) []

-- what is a call has the kind of one
pub call_kind : (k : Kind) → is_call k ≡ true → k ≡ Call
call_kind Call h = refl
call_kind _ h = absurd (cc)

module _ (now : ℕ) (code : Code) (aligned : Aligned code) (d : Desc) where
  -- a run of turns from a consistent state commits
  abbrev Commits : ℕ → Bool → Machine → Retired → Type 0
  Commits n stored x r = ConsistentIn now d code x → x.end ≡ None → Retires now d code x r

  -- what follows a head of a kind
  abbrev Follows : Kind → ℕ → Bool → Machine → Entry → List Entry → Type 0
  Follows k n stored x e rest = let y = (head_leaves k d e rest x).machine in Commits n stored y (turns d n stored y)

  left_turn : (k : Kind) (n : ℕ) (stored : Bool) (x : Machine) (e : Entry) (rest : List Entry) → is_call k ≡ false → LeftAs now d code k x e rest → x.end ≡ None → Follows k n stored x e rest → Retires now d code x (then_retires (head_leaves k d e rest x) (turns d n stored))
  left_turn Call n stored x e rest c l u m = absurd (cc)
  left_turn Store n stored x e rest c l u m = let r = head_leaves Store d e rest x in one_more now d code x r.machine r.events (turns d n stored) l.step refl (m l.holds u)
  left_turn k n stored x e rest c l u m = let r = head_leaves k d e rest x in one_more now d code x r.machine r.events (turns d n stored) l.step refl (m l.holds u)

  by_call : (b : Bool) (n : ℕ) (stored : Bool) (x : Machine) (e : Entry) (rest : List Entry) → is_call e.item.kind ≡ b → x.end ≡ None → Holds d code (hart_of x) now (e ∷ rest) x.queue x.fetch_pc → may_leave e ≡ true → trap_of e ≡ None → (is_store e.item.kind ≡ true → e.cleared ≡ true) →
      Follows e.item.kind n stored x e rest → Retires now d code x (then_retires (head_leaves e.item.kind d e rest x) (turns d n stored))
  by_call true n stored x e [] b u h may t c m =
      let q = call_kind e.item.kind b in
      subst (λ k. Retires now d code x (then_retires (head_leaves k d e [] x) (turns d n stored))) (sym q) (call_turn now d code x (turns d n stored) e h may q (turns_empty d n stored))
  by_call true n stored x e (e2 ∷ rest) b u h may t c m = absurd (only_call d code (hart_of x) now e e2 rest x.queue x.fetch_pc (call_kind e.item.kind b) h)
  by_call false n stored x e rest b u h may t c m =
      let l = head_leaves_so d code (hart_of x) now e rest x.queue x.fetch_pc h may t b c in
      left_turn e.item.kind n stored x e rest b (record { holds = l.holds; step = l.step }) u m

  -- a head that may leave, where it is known to be the first of the window
  head_of : (x : Machine) (e : Entry) (rest : List Entry) → x.window ≡ e ∷ rest → ConsistentIn now d code x → Holds d code (hart_of x) now (e ∷ rest) x.queue x.fetch_pc
  head_of x e rest q h = subst (λ w. Holds d code (hart_of x) now w x.queue x.fetch_pc) q h

  traps : (n : ℕ) (x : Machine) (e : Entry) (rest : List Entry) (c : Cause) → x.window ≡ e ∷ rest → may_leave e ≡ true → trap_of e ≡ Some c → Commits n false x (ends_with c e x)
  traps n x e rest c q may t h u =
      let w = head_of x e rest q h in
      let pc = some_of _ _ w.chain.0 in
      record {
        committed = record { steps = 0; counted = omega arith; runs = refl; trap = (head_ends d code aligned (hart_of x) now w.registers e w.entries.0 pc may c t, pc) };
        holds = h;
      }

  -- what retires are steps of the instruction set, where the run hasn't ended
  pub retire_commits : (x : Machine) → ConsistentIn now d code x → x.end ≡ None → Retires now d code x (retire d x)
  retire_commits x h u =
      retire_by d Commits (λ n stored x s h u. no_turn now d code x h u)
      (λ n stored x e rest v q l t w more h u. by_call (is_call e.item.kind) n (stored || is_store e.item.kind) x e rest refl u (head_of x e rest q h) l t (is_cleared stored e w) more)
      (λ n stored x e rest c v q l t. traps n x e rest c q l t) x h u

  -- Retire keeps a state consistent where the run hasn't ended
  pub consistent_retire : (x : Machine) → ConsistentIn now d code x → x.end ≡ None → ConsistentIn now d code (retire d x).machine
  consistent_retire x h u = (retire_commits x h u).holds
