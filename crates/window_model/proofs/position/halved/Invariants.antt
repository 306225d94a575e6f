use Rattle.std.proofs.Common.{◌≡◌, ◌-◌, ◌≤◌, take}
use Rattle.window_model.specs.Serials.{below}
use Rattle.window_model.proofs.position.halved.Given as goal

-- no entry from the upper bound on has a serial below the one that is looked for
abbrev pub invariant-loop-low : goal.invariant-loop-low
invariant-loop-low g l = record {
  walked : below l.serial (g.W.Window.entries l.window) ≡ below l.serial (take l.high (g.W.Window.entries l.window));
  within : l.high ≤ l.entries;
}

abbrev pub decreases-loop-low : goal.decreases-loop-low
decreases-loop-low g l = l.high - l.low
