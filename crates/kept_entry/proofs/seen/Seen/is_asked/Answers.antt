use Rattle.std.proofs.Common.{sym, ◌∙◌}
use Rattle.kept_entry.proofs.Standing.{visible_tells, whole_tells}
use Rattle.kept_entry.proofs.seen.Seen.is_asked.Goals as goal

pub returns-then-visible : goal.returns-then-visible
returns-then-visible c =
    visible_tells c.args.self.now c.requires.stands c.args.station c.serial.result c.requires.within c.serial.ensures (sym c.visible.ensures.tells ∙ c.if-visible.true)

pub returns : goal.returns
returns c =
    whole_tells c.args.self.now c.requires.stands c.args.station c.serial.result c.is_whole.result c.serial.ensures (sym c.visible.ensures.tells ∙ c.if-visible.false) c.is_whole.ensures
