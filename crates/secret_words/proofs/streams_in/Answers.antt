use Rattle.std.proofs.Common.{◌∙◌, ap, Some, codes}
use Rattle.clap.specs.Words.{found_of}
use Rattle.clap.proofs.WalkLemmas.{raw_values-rows}
use Rattle.secret_words.specs.Words.{streams_or}
use Rattle.secret_words.proofs.streams_in.Goals as goal

pub returns-in-Some : goal.returns-in-Some
returns-in-Some c = c.read_streams.ensures ∙ ap streams_or (c.in-Some.ensures ∙ raw_values-rows (found_of c.args.matches.now) (codes "public-stream"))

pub returns-in-None : goal.returns-in-None
returns-in-None c = ap Some c.none_public.ensures ∙ ap streams_or (c.in-None.ensures ∙ raw_values-rows (found_of c.args.matches.now) (codes "public-stream"))
