use Rattle.std.proofs.Common.{◌≡◌, ◌≢◌, rules}
use Rattle.machine_desc.specs.declared.SttModel.TheVariants.{Off}
use Rattle.visibility.proofs.Moving.{advanced_at, left_advanced, on_at}
use Rattle.visibility.proofs.point.VisPoint.advance.Goals as goal

pub returns-then-eq-clause-advanced : goal.returns-then-eq-clause-advanced
returns-then-eq-clause-advanced c =
    let off : c.self.inside.model ≡ Off = search rules in
    left_advanced (record { serial = c.self.inside.serial; model = c.self.inside.model }) c.args.self.now c.args.rob.now.entries c.self.view_is off
    c.requires.rise c.self.invariant c.requires.few c.requires.can

pub returns-clause-advanced : goal.returns-clause-advanced
returns-clause-advanced c =
    let guards : c.self.inside.model ≢ Off = search rules in
    advanced_at (record { serial = c.self.inside.serial; model = c.self.inside.model }) c.args.self.now c.args.rob.now.entries c.unwrap_or-self-inside.result c.after_youngest.result
    c.find_stop-stop.result c.self.view_is guards c.unwrap_or-self-inside.ensures c.find_stop-stop.ensures c.after_youngest.ensures c.requires.rise c.requires.can c.self.invariant c.requires.few

pub returns-clause-on : goal.returns-clause-on
returns-clause-on c =
    let guards : c.self.inside.model ≢ Off = search rules in
    on_at (record { serial = c.self.inside.serial; model = c.self.inside.model }) c.args.self.now c.args.rob.now.entries c.unwrap_or-self-inside.result c.after_youngest.result
    c.find_stop-stop.result c.self.view_is guards c.unwrap_or-self-inside.ensures c.find_stop-stop.ensures c.after_youngest.ensures c.requires.rise c.requires.can
