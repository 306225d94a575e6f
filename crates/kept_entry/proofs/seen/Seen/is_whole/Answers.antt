use Rattle.std.proofs.Common.{Some, ap, sym, ◌∙◌}
use Rattle.kept_entry.proofs.Standing.{ready_whole, unready_whole}
use Rattle.kept_entry.proofs.seen.Seen.is_whole.Goals as goal

pub returns-then-ready : goal.returns-then-ready
returns-then-ready c = ready_whole c.args.self.now c.requires.stands c.args.station c.requires.within (c.ready.ensures ∙ ap Some c.if-ready.true)

pub returns-then-not-holds : goal.returns-then-not-holds
returns-then-not-holds c =
    unready_whole c.args.self.now c.requires.stands c.args.station c.requires.within (c.ready.ensures ∙ ap Some c.if-ready.false)
    (sym c.holds.ensures ∙ c.if-not-holds.true)
