-- Turns of Retire as steps of the instruction set.
use Rattle.std.proofs.Common.{◌≡◌, ℕ, suc, ◌+◌, ◌-◌, List, [], None, refl, ap, ◌∙◌, subst, arith}
use Rattle.rv_types.specs.Memory.{Code}
use Rattle.rv_types.specs.Isa.{Hart, Goes, Run, isa, isa_step, after, run, with_piece}
use Rattle.machine_desc.specs.declared.Desc.{Desc}
use Rattle.window_model.specs.declared.Event.{Event}
use Rattle.window_model.specs.State.{Machine}
use Rattle.window_model.specs.Retire.{Retired, then_retires, stays, hart_of}
use Rattle.committed_state.specs.Consistent.{ConsistentIn}
use Rattle.window_model.specs.Committed.{Committed, Commits, TrapsNext, exit_of}

-- from a state after this number of retired instructions, some steps lead to this machine, and as many retire
pub record Leads (code : Code) (from : Hart) (retired : ℕ) (x : Machine) (pieces : List (List ℕ)) : Type 0 where
  pub steps : ℕ
  pub counted : x.retired ≡ retired + steps
  pub runs : isa code from steps ≡ record { last = hart_of x; pieces = pieces; steps = steps; ended = exit_of x.end }
  pub trap : TrapsNext code (hart_of x) x.end

steps_are : (code : Code) (from : Hart) (x : Machine) (pieces : List (List ℕ)) (m n : ℕ) → m ≡ n → Committed code from m x pieces → Committed code from n x pieces
steps_are code from x pieces m n e c = subst (λ n. Committed code from n x pieces) e c

-- where some steps lead from a state of which nothing has retired, they are as many as the machine has retired
pub from_none : (code : Code) (from : Hart) (x : Machine) (pieces : List (List ℕ)) → Leads code from 0 x pieces → Committed code from x.retired x pieces
from_none code from x pieces c = steps_are code from x pieces c.steps x.retired (omega (arith, c.counted)) (record { runs = c.runs; trap = c.trap })

-- where steps lead on from what has retired, a cycle commits as many as it retires
pub as_retired : (code : Code) (x y : Machine) (piece : List ℕ) → Leads code (hart_of x) x.retired y (with_piece piece []) → Commits code x y piece
as_retired code x y piece c = record {
  rises = omega (arith, c.counted);
  committed = steps_are code (hart_of x) y (with_piece piece []) c.steps (y.retired - x.retired) (omega (arith, c.counted)) (record { runs = c.runs; trap = c.trap });
}

-- turns of Retire from a consistent state: what they lead to, and that it is consistent
pub record Retires (now : ℕ) (d : Desc) (code : Code) (x : Machine) (r : Retired) : Type 0 where
  pub committed : Leads code (hart_of x) x.retired r.machine (with_piece r.piece [])
  pub holds : ConsistentIn now d code r.machine

-- a step that goes on, and then so many, are one step more, with what it put out before
pub prepend : (code : Code) (s s2 : Hart) (piece : List ℕ) (n : ℕ) (r : Run) → isa_step code s ≡ Goes s2 piece → isa code s2 n ≡ r → isa code s (suc n) ≡ record r { pieces = with_piece piece r.pieces; steps = suc r.steps }
prepend code s s2 piece n r h k = ap (λ t. after s t (run (isa_step code) n)) h ∙ ap (λ (r : Run). let t : Run = record r { pieces = with_piece piece r.pieces; steps = r.steps + 1 } in t) k
    ∙ ap (λ m. let t : Run = record r { pieces = with_piece piece r.pieces; steps = m } in t) one
  where
    one : r.steps + 1 ≡ suc r.steps
    one = omega arith

module _ (now : ℕ) (d : Desc) (code : Code) where
  pub no_turn : (x : Machine) → ConsistentIn now d code x → x.end ≡ None → Retires now d code x (stays x)
  no_turn x h n = record {
    committed = record { steps = 0; counted = omega arith; runs = rw n refl; trap = rw n tt };
    holds = h;
  }

  -- one step, and what follows it, lead on together
  pub one_more : (x y : Machine) (events : List Event) (more : Machine → Retired) → isa_step code (hart_of x) ≡ Goes (hart_of y) [] → y.retired ≡ x.retired + 1 → Retires now d code y (more y) →
      Retires now d code x (then_retires (record { machine = y; events = events; piece = [] }) more)
  one_more x y events more step count h = record {
    committed = record {
      steps = suc h.committed.steps;
      counted = omega (arith, h.committed.counted, count);
      runs = prepend code (hart_of x) (hart_of y) [] h.committed.steps _ step h.committed.runs;
      trap = h.committed.trap;
    };
    holds = h.holds;
  }
