use Rattle.std.proofs.Common.{arith}
use Rattle.std.proofs.lemmas.Nat.{pow_below}
use Rattle.stations.proofs.MarkGone.{left_last, left_older, left_younger, positive}
use Rattle.stations.proofs.marks.without_mark.Goals as goal

pub returns-clause-older : goal.returns-clause-older
returns-clause-older c b lt =
    let fits = pow_below c.args.position 128 c.requires in
    let some = positive c.args.position in
    left_older c.args.word c.args.position _ _ (omega (arith, fits, some)) (omega (arith, fits, some)) b lt

pub returns-clause-younger : goal.returns-clause-younger
returns-clause-younger c b ge lt =
    let fits = pow_below c.args.position 128 c.requires in
    let some = positive c.args.position in
    left_younger c.args.word c.args.position _ _ (omega (arith, fits, some)) (omega (arith, fits, some)) b ge (omega (arith, lt))

pub returns-clause-last : goal.returns-clause-last
returns-clause-last c =
    let fits = pow_below c.args.position 128 c.requires in
    let some = positive c.args.position in
    left_last c.args.word c.args.position _ _ (omega (arith, fits, some)) (omega (arith, fits, some)) c.requires c.ranges.word.fits
