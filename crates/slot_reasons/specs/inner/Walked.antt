-- Beside Reasons.antt: what only clauses of the code and lemmas cite.
use Rattle.std.specs.Prelude.{ℕ, Bool, false, List, Option, Some, None, slice_index_or}
use Rattle.window_model.specs.declared.Event.{Event}
use Rattle.window_model.specs.declared.Event.TheVariants.{Fill}
use Rattle.slot_reasons.specs.Reasons.{is_bit}

-- the event, if there is one, tells of a bit of dependence
abbrev pub has_bit : Option Event → Bool
has_bit None = false
has_bit (Some event) = is_bit event

-- the event at a place that has one; elsewhere `Fill 0`, of which nothing is said
abbrev pub event_at : ℕ → List Event → Event
event_at place events = slice_index_or events place (Fill 0)
