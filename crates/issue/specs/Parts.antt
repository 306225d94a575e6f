-- What Issue changes of the parts that stand for the window (docs/architecture.md, "How the parts refine the window").
use Rattle.machine_desc.specs.declared.Desc.{Desc}
use Rattle.machine_desc.specs.Questions.{loads_pass}
use Rattle.rob_ring.specs.Ring.{Ring}
use Rattle.stations.specs.Stations.{Stations}
use Rattle.lsq.specs.Queues.{Queues}
use Rattle.refinement.specs.InFlight.{InFlight}

-- what is in flight under this description, with these entries, these stations and these queues
abbrev pub holding : Desc → Ring → Stations → Queues → InFlight → InFlight
holding d rob stations queues p = record p { version = d.version; tracked = loads_pass d; window = rob.entries; held = stations.held; queues = queues }
