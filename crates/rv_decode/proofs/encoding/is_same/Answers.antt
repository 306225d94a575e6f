use Rattle.std.proofs.Common.{◌≡◌, true, sym, ◌∙◌, rules}
use Rattle.rv_decode.proofs.Same.{same, same_is, is_same}
use Rattle.rv_decode.proofs.encoding.is_same.Goals as goal

pub returns : goal.returns
returns c =
    let same_as : c.eq.result ≡ same c.args.one.now c.args.other.now = c.eq.ensures in
    (λ t. let answered : c.eq.result ≡ true = search (rules, t) in same_is _ _ (sym same_as ∙ answered), λ e. let answered : c.eq.result ≡ true = same_as ∙ is_same _ _ e in search (rules, answered))
