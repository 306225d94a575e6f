-- A prefetched line, and a fetched instruction.
use Rattle.std.proofs.Common.{sym}
use Rattle.trace_text.specs.TraceText.{event_text}
use Rattle.trace_text.proofs.events.add_event.Goals as goal

pub returns-in-Pf-clause-text : goal.returns-in-Pf-clause-text
unfolding event_text
returns-in-Pf-clause-text c = rw c.in-Pf.is (rw (sym c.look_text-in-Pf.ensures) c.add_at_text.ensures.text)

pub returns-in-Fet-clause-text : goal.returns-in-Fet-clause-text
unfolding event_text
returns-in-Fet-clause-text c = rw c.in-Fet.is c.add_at-in-Fet.ensures.text
