-- The parser with its arguments is the written one.
use Rattle.std.proofs.lemmas.Result.{IfOk-weaker}
use Rattle.secret_words.proofs.secrets_parser.Goals as goal

pub returns : goal.returns
returns c =
    IfOk-weaker c.with_arg.result _ _ (λ parser p. p.0)
    (c.with_arg.ensures _ _ c.text_arg.ensures.rule
    (c.with_arg-parser-2.ensures _ _ c.budget_arg-2.ensures.rule
    (c.with_arg-parser.ensures _ _ c.budget_arg.ensures.rule c.asked_parser-parser.ensures)))
