use Rattle.std.proofs.Common.{◌∙◌, ap, sym, codes}
use Rattle.std.specs.Prelude.{option_and_then}
use Rattle.std.proofs.lemmas.Result.{IfOk-weaker, IfErr-weaker}
use Rattle.clap.specs.Words.{found_of}
use Rattle.clap.proofs.WalkLemmas.{raw_values-rows}
use Rattle.secret_words.specs.Ranges.{ranges_of}
use Rattle.secret_words.proofs.ranges_in.Goals as goal

pub returns-in-Some-clause-ok : goal.returns-in-Some-clause-ok
returns-in-Some-clause-ok c =
    let read = ap (option_and_then ranges_of) (sym (c.in-Some.ensures ∙ raw_values-rows (found_of c.args.matches.now) (codes "secret"))) in
    IfOk-weaker c.read_ranges.result _ _ (λ v h. read ∙ h) c.read_ranges.ensures.ok

pub returns-in-Some-clause-refused : goal.returns-in-Some-clause-refused
returns-in-Some-clause-refused c =
    let read = ap (option_and_then ranges_of) (sym (c.in-Some.ensures ∙ raw_values-rows (found_of c.args.matches.now) (codes "secret"))) in
    IfErr-weaker c.read_ranges.result _ _ (λ e h words. read ∙ h words) c.read_ranges.ensures.refused

pub returns-in-None-clause-refused : goal.returns-in-None-clause-refused
returns-in-None-clause-refused c = λ e. ap (option_and_then ranges_of) (sym (c.in-None.ensures ∙ raw_values-rows (found_of c.args.matches.now) (codes "secret")))
