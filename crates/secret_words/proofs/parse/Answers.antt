use Rattle.secret_words.specs.Words.{secrets_app}
use Rattle.secret_words.proofs.Secrets.{found_as_written}
use Rattle.secret_words.proofs.parse.Goals as goal

pub returns : goal.returns
returns c =
    let found = found_as_written _ c.find_by.result (c.find_by.ensures secrets_app c.secrets_parser.ensures) in
    record {
      ok = found.0;
      refused = found.1;
    }
