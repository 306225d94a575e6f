use Rattle.std.proofs.Common.{subst}
use Rattle.stations.specs.Stations.{Rise, Stations}
use Rattle.stations.proofs.by_age.Stations.is_youngest_from.Goals as goal

pub returns-in_default-clause-rise : goal.returns-in_default-clause-rise
returns-in_default-clause-rise c = subst (λ (v : Stations). Rise v.held) c.self.view_is c.self.invariant.0.rise
