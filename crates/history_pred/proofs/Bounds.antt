-- How many directions and addresses a description of either version asks for, at most.
use Rattle.std.proofs.Common.{◌≤◌}
use Rattle.machine_desc.specs.declared.Desc.{Desc}
use Rattle.machine_desc.specs.declared.keys.Key.TheVariants.{PredictorHistory, PredictorReturns}
use Rattle.machine_desc.proofs.Newest.{in_newest}

pub few_directions : (d : Desc) → d.predictor_history ≤ 12
few_directions d = (in_newest d PredictorHistory).1

pub few_returns : (d : Desc) → d.predictor_returns ≤ 16
few_returns d = (in_newest d PredictorReturns).1
