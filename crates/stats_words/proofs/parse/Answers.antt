use Rattle.stats_words.specs.Words.{stats_app}
use Rattle.stats_words.proofs.Stats.{found_as_written}
use Rattle.stats_words.proofs.parse.Goals as goal

pub returns : goal.returns
returns c =
    let found = found_as_written _ c.find_by.result (c.find_by.ensures stats_app c.stats_parser.ensures) in
    record {
      ok = found.0;
      refused = found.1;
    }
