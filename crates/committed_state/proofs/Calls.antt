-- A call retires alone: nothing stands behind it in the window.
use Rattle.std.proofs.Common.{◌≡◌, ℕ, zero, suc, ◌+◌, Bool, true, false, not, ◌&&◌, List, [], ◌∷◌, ◌++◌, Option, Some, None, refl, ap, sym, ◌∙◌, subst}
use Rattle.std.specs.Prelude.{if◌then◌else◌}
use Rattle.std.proofs.lemmas.List.{append-nil}
use Rattle.rv_types.specs.Word.{word_add}
use Rattle.rv_types.specs.Memory.{Code}
use Rattle.rv_types.specs.Isa.{Hart, Step, Goes, Exits, Traps, isa, isa_step, after, run, call, with_piece}
use Rattle.rv_types.specs.declared.End.{End}
use Rattle.rv_types.specs.declared.End.TheVariants.{Exit}
use Rattle.rv_types.specs.declared.Kind.{Kind}
use Rattle.rv_types.specs.declared.Kind.TheVariants.{Call}
use Rattle.machine_desc.specs.declared.Desc.{Desc}
use Rattle.window_model.specs.declared.Entry.{Entry}
use Rattle.window_model.specs.declared.Item.{Item}
use Rattle.window_model.specs.State.{Machine}
use Rattle.window_model.specs.Order.{is_done, is_control}
use Rattle.window_model.specs.Retire.{Retired, turns, head_turn, call_leaves, as_hart, then_retires, stays, unless_ended, hart_of, may_leave}
use Rattle.window_model.specs.Rename.{at_once}
use Rattle.committed_state.specs.Links.{Chain, links, true_next}
use Rattle.window_model.specs.declared.Event.{Event}
use Rattle.window_model.specs.Committed.{TrapsNext, exit_of}
use Rattle.committed_state.specs.Consistent.{Holds, ConsistentIn, Predicts}
use Rattle.committed_state.proofs.Turn.{leave_parts}
use Rattle.window_model.proofs.Booleans.{some_of}
use Rattle.window_model.proofs.Calls.{Follows, CallDoes, call_does}
use Rattle.committed_state.proofs.Ends.{head_calls}
use Rattle.committed_state.proofs.Steps.{Leads, Retires}
use Rattle.committed_state.proofs.Known.{done_has}

-- nothing stands behind a call
pub only_call : (d : Desc) (code : Code) (s : Hart) (now : ℕ) (e e2 : Entry) (rest : List Entry) (queue : List Item) (fetch_pc : Option ℕ) → e.item.kind ≡ Call → Holds d code s now (e ∷ e2 ∷ rest) queue fetch_pc → ⊥
only_call d code s now e e2 rest queue fetch_pc k h = by_kind e.item.kind k h.entries.1.0.through
  where
    by_kind : (k : Kind) → k ≡ Call → (not (at_once k) && true) ≡ true → ⊥
    by_kind Call q h = absurd (cc)
    by_kind _ q h = absurd (cc)

-- behind a call nothing can leave the window
stays_empty : (o : Option End) (w : List Entry) (d : Desc) (stored : Bool) (y : Machine) (more : Bool → Machine → Retired) → w ≡ [] → unless_ended o (stays y) (head_turn d stored w y more) ≡ stays y
stays_empty None [] d stored y more h = refl
stays_empty (Some e) w d stored y more h = refl
stays_empty None (e ∷ w) d stored y more h = absurd (cc)

-- over an empty window Retire does nothing, however many turns it has
pub turns_empty : (d : Desc) (n : ℕ) (stored : Bool) (y : Machine) → y.window ≡ [] → turns d n stored y ≡ stays y
turns_empty d zero stored y h = refl
turns_empty d (suc n) stored y h = stays_empty y.end y.window d stored y (turns d n) h

call_next : (r : Bool) (e : Entry) → (r ≡ true → is_control e.item.kind ≡ true) → e.item.kind ≡ Call → Predicts e.item.kind e.item → (if r then true_next e else e.item.predicted) ≡ Some (word_add e.item.pc 4)
call_next true e c k p = absurd (let q = c refl in let n = ap is_control k in cc)
call_next false e c k p = subst (λ k. Predicts k e.item) k p

module _ (now : ℕ) (d : Desc) (code : Code) (x : Machine) (more : Machine → Retired) where
  finish : (y : Machine) (events : List Event) (piece : List ℕ) →
      isa code (hart_of x) 1 ≡ record { last = hart_of y; pieces = with_piece piece []; steps = 1; ended = exit_of y.end } →
      TrapsNext code (hart_of y) y.end → y.retired ≡ x.retired + 1 → ConsistentIn now d code y → more y ≡ stays y →
      Retires now d code x (then_retires (record { machine = y; events = events; piece = piece }) more)
  finish y events piece runs trap count h m =
      let joined : Retired → Retired = λ s. record { machine = s.machine; events = events ++ s.events; piece = piece ++ s.piece } in
      let committed : Leads code (hart_of x) x.retired y (with_piece piece []) = record { steps = 1; counted = count; runs = runs; trap = trap } in
      let here : Retires now d code x (joined (stays y)) = record {
        committed = subst (λ p. Leads code (hart_of x) x.retired y (with_piece p [])) (sym (append-nil piece)) committed;
        holds = h;
      } in
      subst (λ s. Retires now d code x (joined s)) (sym m) here

  module _ (e : Entry) (h : Holds d code (hart_of x) now (e ∷ []) x.queue x.fetch_pc) (may : may_leave e ≡ true) (k : e.item.kind ≡ Call) (empty : (y : Machine) → y.window ≡ [] → more y ≡ stays y) where
    after_call : (s2 : Hart) → Follows (hart_of x) s2 → Holds d code s2 now [] x.queue x.fetch_pc
    after_call s2 f =
        let st = h.entries.0 in
        let pc = some_of _ _ h.chain.0 in
        let done = done_has e.state e st.state (leave_parts (is_done e.state) (is_control e.item.kind) e.resolved may).0 in
        let nx = call_next e.resolved e done.1 k st.item.next ∙ ap (λ p. Some (word_add p 4)) (sym pc) ∙ ap Some (sym f.pc) in
        record {
          entries = tt;
          items = h.items;
          chain = subst (λ a. Chain a (links [] x.queue) x.fetch_pc) nx h.chain.1;
          registers = f.registers ∙ h.registers;
        }

    by_step : (t : Step) → isa_step code (hart_of x) ≡ t → CallDoes (hart_of x) t → Retires now d code x (then_retires (call_leaves e [] x t) more)
    by_step (Goes s2 piece) q f =
        let y = as_hart s2 [] None x in
        finish y (call_leaves e [] x (Goes s2 piece)).events piece (ap (λ t. after (hart_of x) t (run (isa_step code) 0)) q) tt refl (after_call s2 f) (empty y refl)
    by_step (Exits v s2) q f =
        let y = as_hart s2 [] (Some (Exit v)) x in
        finish y (call_leaves e [] x (Exits v s2)).events [] (ap (λ t. after (hart_of x) t (run (isa_step code) 0)) q) tt refl (after_call s2 f) (empty y refl)
    by_step (Traps c) q f = absurd f

    pub call_turn : Retires now d code x (then_retires (call_leaves e [] x (call (hart_of x))) more)
    call_turn = by_step (call (hart_of x)) (head_calls d code (hart_of x) now e h.entries.0 (some_of _ _ h.chain.0) k) (call_does (hart_of x))
