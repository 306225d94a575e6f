-- History and stack are as large as the description says, wherever they stand (docs/theorems.md, "What every state
-- keeps").
use Rattle.std.specs.Prelude.{◌<◌, ◌≤◌, ◌^◌}
use Rattle.std.specs.List.{AllByRecursion as Each}
use Rattle.machine_desc.specs.declared.Desc.{Desc}
use Rattle.window_model.specs.declared.Checkpoint.{Checkpoint}
use Rattle.window_model.specs.State.{Machine}

-- the history has as many directions of branches as the description says, and the stack at most as many addresses
pub record FitsCheckpoint (d : Desc) (m : Checkpoint) : Type 0 where
  pub history : m.history < 2 ^ d.predictor_history
  pub stack : m.depth ≤ d.predictor_returns

-- history and stack fit the description: those of the next item, and those before each entry and each item
pub record FitCheckpoints (d : Desc) (x : Machine) : Type 0 where
  pub next : FitsCheckpoint d x.checkpoint
  pub entries : Each (λ e. FitsCheckpoint d e.item.checkpoint) x.window
  pub items : Each (λ i. FitsCheckpoint d i.checkpoint) x.queue
