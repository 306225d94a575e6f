use Rattle.std.proofs.Common.{is_none, ap, sym, ◌∙◌}
use Rattle.kept_entry.proofs.Standing.{nobody_asked}
use Rattle.kept_entry.proofs.seen.Seen.asks_nobody.Goals as goal

pub returns-in-None : goal.returns-in-None
returns-in-None c = λ q.
    nobody_asked c.args.self.now c.requires.stands c.next_able.result (sym c.holds.ensures ∙ c.if-holds.false) c.next_able.ensures.next (ap is_none c.in-None.is)
