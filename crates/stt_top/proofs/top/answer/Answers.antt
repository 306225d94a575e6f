-- How the command ends is how the program does.
use Rattle.std.proofs.Common.{List, ℕ, map}
use Rattle.run_inputs.specs.Told.{World, world}
use Rattle.tool_words.specs.inner.Words.{command_text}
use Rattle.stt_top.proofs.Outcomes.{command_end}
use Rattle.stt_top.proofs.top.answer.Goals as goal

pub returns-clause-ends : goal.returns-clause-ends
returns-clause-ends g c =
    let words : List (List ℕ) = map (λ w. w.now) c.args.words.now in
    let old : World = world (g.F.Files.shelf c.args.files.now) (g.O.Sink.told c.args.out.now) in
    let new : World = world (g.F.Files.shelf c.answer_command.new.files) (g.O.Sink.told c.answer_command.new.out) in
    command_end words old new (command_text c.in_ok-command.command) c.answer_command.result c.in_ok-command.ensures.ok c.answer_command.ensures.ends
