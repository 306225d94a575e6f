use Rattle.queue_laws.proofs.Clearing.{tells_in_place}
use Rattle.queue_laws.proofs.Keeping.{older_stands, room_is}
use Rattle.queue_laws.proofs.Letting.{known_is, lets_are}
use Rattle.queue_laws.proofs.Roots.{hidden_is}
use Rattle.queue_laws.proofs.Telling.{bytes_are, covered_is}
use Rattle.queue_laws.proofs.Violating.{violates}
use Rattle.queue_laws.proofs.queues_tell_of_window.Goals as goal

pub returns : goal.returns
returns c = record { room = room_is; older = older_stands; known = known_is; lets = lets_are; bytes = bytes_are; covered = covered_is; hidden = hidden_is; violates = violates; place = tells_in_place }
