-- The parser of names, ranges and streams is the written one.
use Rattle.secret_words.proofs.asked_parser.Goals as goal

pub returns : goal.returns
returns c =
    c.with_arg.ensures _ _ c.repeated_arg.ensures.rule
    (c.with_arg-parser-3.ensures _ _ c.secret_arg.ensures.rule
    (c.with_arg-parser-2.ensures _ _ c.second_arg.ensures.rule
    (c.with_arg-parser.ensures _ _ c.name_arg.ensures.rule (c.bare_parser.ensures.app, c.bare_parser.ensures.here))))
