-- What follows from how the program ends over its words.
use Rattle.std.proofs.Common.{ℕ, List}
use Rattle.tool_io.specs.Outside.{Told}
use Rattle.run_inputs.specs.Told.{World}
use Rattle.stats_top.specs.Top.{EndsWith, Statuses}
use Rattle.stats_top.proofs.Statuses.{statuses_at}

-- what a status says follows from how the program ends
pub statuses_of : (words : List (List ℕ)) (old new : World) (note note' : Told) (status : ℕ) → EndsWith words old new note note' status → Statuses words old new status
statuses_of words old new note note' status e = statuses_at words old new e.0 status e.2 e.1
