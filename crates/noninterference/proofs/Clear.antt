-- Clear tells nothing: it looks at addresses of stores that are untainted, and at those of loads that have issued.
use Rattle.std.proofs.Common.{ap, sym, ◌∙◌, length, reverse, take}
use Rattle.window_model.specs.State.{Machine}
use Rattle.window_model.specs.Clear.{clear}
use Rattle.two_runs.specs.Masks.{without_contents}
use Rattle.two_runs.proofs.Clear.{clear_alike, clear_data}
use Rattle.noninterference.specs.Laws.{ClearTellsNothing}
use Rattle.noninterference.proofs.Looking.{seen_by_outcomes}
use Rattle.noninterference.proofs.Masks.{access_left, leaves_loads, loads_left, tells}

-- Clear tells nothing of two machines that show the same, where outcomes that may be looked at are equal
pub clear_tells_nothing : ClearTellsNothing
clear_tells_nothing d x x2 r o =
    tells leaves_loads (take (length (clear d x).machine.window) x.window) (clear d x) (clear d x2) ((clear_data d x).0 ∙ ap (λ (m : Machine). m.regs) r ∙ sym (clear_data d x2).0)
    (clear_alike leaves_loads access_left d x.window x x2 (ap without_contents r) (loads_left d.stt_model x x2 o) (seen_by_outcomes d.stt_model (reverse x.window) (reverse x2.window) o))
