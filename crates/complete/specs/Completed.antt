-- What becomes of an entry that is done (docs/machine.md, "Complete").
use Rattle.std.specs.Prelude.{ℕ, List, slice_set}
use Rattle.window_model.specs.declared.Entry.{Entry}
use Rattle.window_model.specs.declared.Progress.TheVariants.{Done}

-- the window in which the entry at a position is this one, Done
abbrev pub done_at : ℕ → Entry → List Entry → List Entry
done_at i e window = slice_set window i (record e { state = Done })
