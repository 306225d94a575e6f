use Rattle.constant_time.proofs.BothModels.{every_core_of_both}
use Rattle.constant_time.proofs.PlainEnds.{one_run_for_every_core}
use Rattle.constant_time.proofs.Delayed.{every_core, every_core_of_one_output, one_path}
use Rattle.constant_time.proofs.PathMarks.{ended_leaks, first_shows, path_publishes, path_tells}
use Rattle.constant_time.proofs.one_path_proves_every_core.Goals as goal

pub returns : goal.returns
returns c = record { path = path_tells; ended = ended_leaks; publishes = path_publishes; first = first_shows; one_path = one_path; every_core_output = every_core_of_one_output; every_core = every_core; both_models = every_core_of_both; one_run = one_run_for_every_core }
