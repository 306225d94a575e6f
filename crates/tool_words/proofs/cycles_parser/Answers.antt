use Rattle.tool_words.proofs.Parsers.{is_command}
use Rattle.tool_words.proofs.cycles_parser.Goals as goal

pub returns : goal.returns
returns c =
    is_command _ _
    (c.with_arg.ensures _ _ c.cycles_arg.ensures.rule
    (c.with_arg-parser-2.ensures _ _ c.name_arg-2.ensures.rule
    (c.with_arg-parser.ensures _ _ c.name_arg.ensures.rule (c.new.ensures.app, c.new.ensures.local))))
