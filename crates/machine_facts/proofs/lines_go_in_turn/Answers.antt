use Rattle.machine_facts.proofs.Lookups.{accesses_in_turn, leave_in_turn, others_stay}
use Rattle.machine_facts.proofs.lines_go_in_turn.Goals as goal

pub returns : goal.returns
returns c = record { others = others_stay; found = accesses_in_turn; left = leave_in_turn }
