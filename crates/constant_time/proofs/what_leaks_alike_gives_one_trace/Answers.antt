use Rattle.constant_time.proofs.Delayed.{contract_under_delay, delay_waits}
use Rattle.constant_time.proofs.Runs.{contract}
use Rattle.constant_time.proofs.what_leaks_alike_gives_one_trace.Goals as goal

pub returns : goal.returns
returns c = record { wherever_visible = contract; waits = delay_waits; delay = contract_under_delay }
