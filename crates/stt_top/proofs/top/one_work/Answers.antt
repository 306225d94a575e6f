use Rattle.stt_top.proofs.Tasks.{one_work}
use Rattle.stt_top.proofs.top.one_work.Goals as goal

pub returns : goal.returns
returns c = one_work
