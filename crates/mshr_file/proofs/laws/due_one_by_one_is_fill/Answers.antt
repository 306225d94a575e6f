use Rattle.mshr_file.proofs.Freeing.{due_first, due_none, due_rest}
use Rattle.mshr_file.proofs.laws.due_one_by_one_is_fill.Goals as goal

pub returns : goal.returns
returns c = record { first = due_first; rest = due_rest; none = due_none }
