-- The events so far stand behind the number.
use Rattle.std.proofs.Common.{◌≡◌, ◌≤◌, ◌++◌, ◌+◌, ◌*◌, take}
use Rattle.trace_text.specs.TraceText.{events_text}
use Rattle.trace_text.specs.declared.events.TheConstants.{EVENT_MAX}
use Rattle.trace_text.proofs.lines.add_events.Given as goal

abbrev pub invariant-loop-event : goal.invariant-loop-event
invariant-loop-event l = (take l.at l.draft ≡ take l.from l.initial.draft ++ events_text (take l.event-index l.events)) × (l.at ≤ l.from + EVENT_MAX * l.event-index)
