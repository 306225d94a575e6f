use Rattle.std.proofs.Common.{◌≡◌, sym, ◌∙◌}
use Rattle.pair_run.proofs.Events.{same, same_is, is_same}
use Rattle.pair_run.proofs.rows.same_event.Goals as goal

pub returns : goal.returns
returns c =
    let same_as : c.eq.result ≡ same c.args.one.now c.args.two.now = c.eq.ensures in
    (λ t. same_is _ _ (sym same_as ∙ t), λ e. same_as ∙ is_same _ _ e)
