use Rattle.std.proofs.Common.{◌∙◌, ◌&&◌, not, ap, refl, sym}
use Rattle.issue.specs.Ports.{besides}
use Rattle.issue.proofs.Asking.{whole_ready}
use Rattle.issue.proofs.Kept.{unless_kept}
use Rattle.issue.proofs.Testing.{issue_is, refused_where_none, served_where_left}
use Rattle.issue.proofs.seen.Seen.may_ask.Goals as goal

pub returns-then-not-has-clause-served : goal.returns-then-not-has-clause-served
returns-then-not-has-clause-served c = refused_where_none _ _ _ c.args.candidate.now.entry.now _ c.requires.whole c.requires.left (sym c.has.ensures ∙ c.if-not-has.true)

pub returns-then-not-may_transmit-clause-served : goal.returns-then-not-may_transmit-clause-served
returns-then-not-may_transmit-clause-served c =
    let t = c.requires.turn in
    served_where_left _ _ _ c.args.candidate.now.entry.now _ c.requires.whole c.requires.left (sym c.has.ensures ∙ c.if-not-has.false)
    ∙ sym (issue_is _ _ _ t.stands t.candidate.at _ (besides c.args.self.now c.args.candidate.now) _ c.sources_of.ensures c.may_transmit.ensures refl t.candidate.waits (whole_ready _ _ _ c.requires.whole t.candidate.able))
    ∙ ap (λ m. m && besides c.args.self.now c.args.candidate.now) c.if-not-may_transmit.true

pub returns-clause-served : goal.returns-clause-served
returns-clause-served c =
    let t = c.requires.turn in
    let s = c.args.self.now in
    let p = c.args.candidate.now in
    served_where_left _ _ _ p.entry.now _ c.requires.whole c.requires.left (sym c.has.ensures ∙ c.if-not-has.false)
    ∙ sym (issue_is _ _ _ t.stands t.candidate.at _ (besides s p) _ c.sources_of.ensures c.may_transmit.ensures refl t.candidate.waits (whole_ready _ _ _ c.requires.whole t.candidate.able))
    ∙ ap (λ m. m && besides s p) c.if-not-may_transmit.false
    ∙ unless_kept s p t ∙ ap (λ k. not k && besides s p) (sym c.is_kept.ensures)
