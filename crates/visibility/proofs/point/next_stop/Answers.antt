use Rattle.visibility.proofs.Stopping.{stops_at_open, stops_at_unsafe, stops_nowhere}
use Rattle.visibility.proofs.point.next_stop.Goals as goal

pub returns-in-Spectre : goal.returns-in-Spectre
returns-in-Spectre c = stops_at_open c.args.model _ _ _ c.in-Spectre.is c.next_open.ensures.next

pub returns-in-Futuristic : goal.returns-in-Futuristic
returns-in-Futuristic c = stops_at_unsafe c.args.model _ _ _ c.in-Futuristic.is c.next_unsafe.ensures.next

pub returns-in-Off : goal.returns-in-Off
returns-in-Off c = stops_nowhere c.args.model _ _ c.in-Off.is
