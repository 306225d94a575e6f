use Rattle.machine_facts.proofs.SizedRetire.{memory_stays_retire}
use Rattle.machine_facts.proofs.SizedRun.{sized_at, memory_stays_cycle, memory_stays_at}
use Rattle.machine_facts.proofs.Stores.{none_busy}
use Rattle.machine_facts.proofs.Dues.{one_is_longest}
use Rattle.machine_facts.proofs.TimelyRun.{timely_at}
use Rattle.machine_facts.proofs.Checkpoints.{checkpoints_at}
use Rattle.machine_facts.proofs.FewEvents.{counts_at, few_events}
use Rattle.machine_facts.proofs.states_keep.Goals as goal

pub returns : goal.returns
returns c = record { sized = sized_at; timely = timely_at; division = one_is_longest; checkpoints = checkpoints_at; no_busy_store = none_busy; counted = counts_at; events = few_events; retire_memory = memory_stays_retire; cycle_memory = memory_stays_cycle; memory = memory_stays_at }
