use Rattle.tool_words.specs.Words.{tool_app}
use Rattle.tool_words.proofs.Tool.{found_as_written}
use Rattle.tool_words.proofs.parse.Goals as goal

pub returns : goal.returns
returns c =
    let found = found_as_written _ c.find_by.result (c.find_by.ensures tool_app c.tool_parser.ensures) in
    record {
      ok = found.0;
      refused = found.1;
    }
