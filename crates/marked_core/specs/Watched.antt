-- A watched cycle in its parts, once it has begun: `watch_cycle` and `shown_cycle` of `secret_marks`, cut at Retire.
use Rattle.std.specs.Prelude.{[], Option, None, false}
use Rattle.rv_types.specs.Memory.{Code}
use Rattle.machine_desc.specs.declared.Desc.{Desc}
use Rattle.window_model.specs.State.{Machine}
use Rattle.window_model.specs.Retire.{unless_ended}
use Rattle.secret_marks.specs.declared.Shown.{Shown}
use Rattle.secret_marks.specs.Marks.{Marks}
use Rattle.secret_marks.specs.Shown.{operands_shown, resolved_shown}
use Rattle.secret_marks.specs.Watch.{Watched, then_watches, watch_clear, watch_complete, watch_fetch, watch_issue, watch_resolve}

-- a watched cycle up to Resolve
abbrev pub to_resolve : Desc → Machine → Marks → Watched
to_resolve d x m = let c = watch_complete d x m in watch_resolve d c.machine c.marks

-- a watched cycle up to Clear
abbrev pub to_clear : Desc → Machine → Marks → Watched
to_clear d x m = let r = to_resolve d x m in watch_clear d r.machine r.marks

-- what shows in a cycle up to Clear
abbrev pub shown_to_clear : Desc → Machine → Marks → Option Shown
shown_to_clear d x m = let r = to_resolve d x m in resolved_shown r.machine.window r.marks.window

-- a watched cycle from Issue on, unless the run has ended
abbrev pub from_issue : Desc → Code → Machine → Marks → Watched
from_issue d code x m =
    unless_ended x.end (record { machine = x; marks = m; shows = false }) (then_watches (watch_issue d x m) (watch_fetch d code))

-- what shows in a cycle from Issue on, unless the run has ended
abbrev pub shown_from_issue : Desc → Machine → Marks → Option Shown
shown_from_issue d x m = unless_ended x.end None (operands_shown d m [] [] x.window m.window)
