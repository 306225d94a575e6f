use Rattle.std.proofs.Common.{Some, None, ap, subst, ◌∙◌}
use Rattle.std.specs.Prelude.{if◌then◌else◌}
use Rattle.kept_entry.specs.State.{KeptAt}
use Rattle.kept_entry.proofs.Standing.{ready_at, unready_at}
use Rattle.kept_entry.proofs.seen.Seen.kept_at.Goals as goal

pub returns-then-not-ready : goal.returns-then-not-ready
returns-then-not-ready g c =
    unready_at c.args.self.now c.requires.stands c.args.station c.found-found.result.position c.found-found.result.entry.now c.found-found.ensures.here
    (c.ready.ensures ∙ ap Some c.if-not-ready.true)

pub returns-then-may_show : goal.returns-then-may_show
returns-then-may_show g c =
    subst (λ b. KeptAt c.args.self.now c.args.station (if b then None else Some c.found-found.result.entry.now.serial)) c.if-may_show.true
    (ready_at c.args.self.now c.requires.stands c.args.station c.found-found.result.position c.found-found.result.entry.now c.may_show.result c.found-found.ensures.here
    (c.ready.ensures ∙ ap Some c.if-not-ready.false) c.may_show.ensures)

pub returns : goal.returns
returns g c =
    subst (λ b. KeptAt c.args.self.now c.args.station (if b then None else Some c.found-found.result.entry.now.serial)) c.if-may_show.false
    (ready_at c.args.self.now c.requires.stands c.args.station c.found-found.result.position c.found-found.result.entry.now c.may_show.result c.found-found.ensures.here
    (c.ready.ensures ∙ ap Some c.if-not-ready.false) c.may_show.ensures)
