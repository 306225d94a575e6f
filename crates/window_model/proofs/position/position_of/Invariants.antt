use Rattle.std.proofs.Common.{◌≡◌, ◌≤◌, take, length}
use Rattle.window_model.specs.Serials.{below}
use Rattle.window_model.proofs.position.position_of.Given as goal

-- no entry from the loop's position on has a serial below the one that is looked for
abbrev pub invariant-loop-position : goal.invariant-loop-position
invariant-loop-position g l = record {
  walked : below l.serial (g.W.Window.entries l.window) ≡ below l.serial (take l.position (g.W.Window.entries l.window));
  within : l.position ≤ length (g.W.Window.entries l.window);
}

abbrev pub decreases-loop-position : goal.decreases-loop-position
decreases-loop-position g l = l.position
