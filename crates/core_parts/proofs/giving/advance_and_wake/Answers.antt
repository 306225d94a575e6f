use Rattle.std.proofs.Common.{◌∙◌}
use Rattle.core_parts.proofs.Waking.{woken_as}
use Rattle.core_parts.proofs.giving.advance_and_wake.Goals as goal

pub returns-clause-woken : goal.returns-clause-woken
returns-clause-woken c =
    c.wake_given.ensures
    ∙ woken_as c.args.point.now.serial c.advance.new.self.serial c.first_hidden-from.result c.args.rob.now.entries c.args.stations.now c.advance.ensures.on c.first_hidden-from.ensures.visible
    c.first_hidden-from.ensures.hidden
