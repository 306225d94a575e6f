use Rattle.constant_time.proofs.Judged.{paths_that_hide, paths_that_publish, paths_that_show}
use Rattle.constant_time.proofs.paths_are_judged.Goals as goal

pub returns : goal.returns
returns c = record { shown = paths_that_show; hidden = paths_that_hide; published = paths_that_publish }
