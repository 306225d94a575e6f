-- The parser with its arguments is the written one.
use Rattle.std.proofs.lemmas.Result.{IfOk-weaker}
use Rattle.stats_words.proofs.stats_parser.Goals as goal

pub returns : goal.returns
returns c =
    IfOk-weaker c.with_arg.result _ _ (λ parser p. p.0)
    (c.with_arg.ensures _ _ c.every_arg.ensures.rule
    (c.with_arg-parser-3.ensures _ _ c.cycles_arg.ensures.rule
    (c.with_arg-parser-2.ensures _ _ c.name_arg-2.ensures.rule
    (c.with_arg-parser.ensures _ _ c.name_arg.ensures.rule (c.bare_parser.ensures.app, c.bare_parser.ensures.here)))))
