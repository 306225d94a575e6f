use Rattle.stt_top.proofs.Promised.{traces_agree}
use Rattle.stt_top.proofs.top.traces_agree.Goals as goal

pub returns : goal.returns
returns c = traces_agree
