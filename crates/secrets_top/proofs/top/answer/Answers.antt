-- How the wish ends is how the program does.
use Rattle.std.proofs.Common.{List, ℕ, map}
use Rattle.run_inputs.specs.Told.{World, world}
use Rattle.secret_words.specs.inner.Words.{wanted_text}
use Rattle.secrets_top.proofs.Outcomes.{wish_end}
use Rattle.secrets_top.proofs.top.answer.Goals as goal

pub returns-clause-ends : goal.returns-clause-ends
returns-clause-ends g c =
    let words : List (List ℕ) = map (λ w. w.now) c.args.words.now in
    let old : World = world (g.F.Files.shelf c.args.files.now) (g.O.Sink.told c.args.out.now) in
    let new : World = world (g.F.Files.shelf c.answer_wish.new.files) (g.O.Sink.told c.answer_wish.new.out) in
    wish_end words old new (wanted_text c.in_ok-wanted.wanted) c.answer_wish.result c.in_ok-wanted.ensures.ok c.answer_wish.ensures.ends
