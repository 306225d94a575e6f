use Rattle.std.proofs.Common.{rules, ◌∙◌, ap, min}
use Rattle.window_model.proofs.Positions.{reach_is}
use Rattle.window_model.proofs.position.reach.Goals as goal

pub returns-clause-older : goal.returns-clause-older
returns-clause-older g c =
    reach_is c.args.serial (g.W.Window.entries c.args.window.now) c.lend.result.now c.saturating_sub-ahead.result c.up_to.result c.requires.rise c.lend.ensures (search rules)
    (c.up_to.ensures ∙ ap (min c.saturating_sub-ahead.result) c.len-2.ensures)
