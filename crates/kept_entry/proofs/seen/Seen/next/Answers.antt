use Rattle.std.proofs.Common.{◌∙◌, sym}
use Rattle.kept_entry.proofs.Standing.{next_tells}
use Rattle.kept_entry.proofs.seen.Seen.next.Goals as goal

pub returns-then-not-holds-clause-next : goal.returns-then-not-holds-clause-next
returns-then-not-holds-clause-next c =
    next_tells c.args.self.now c.requires.stands c.args.from c.next_able.result (sym c.holds.ensures ∙ c.if-not-holds.true) c.next_able.ensures.next
