-- How the task ends is how the command does.
use Rattle.run_inputs.specs.Told.{world}
use Rattle.run_inputs.proofs.Exits.{at_exit}
use Rattle.tool_words.specs.inner.Words.{command_text}
use Rattle.stt_top.specs.inner.Work.{task_text}
use Rattle.stt_top.specs.Top.{CommandEnds}
use Rattle.stt_top.proofs.Outcomes.{command_refused, task_end}
use Rattle.stt_top.proofs.command.answer_command.Goals as goal

pub returns-in_err-task-clause-ends : goal.returns-in_err-task-clause-ends
returns-in_err-task-clause-ends g c =
    let command = command_text c.args.command in
    let old = g.F.Files.shelf c.args.files.now in
    let new = g.F.Files.shelf c.read_task.new.files in
    let out = g.O.Sink.told c.args.out.now in
    at_exit (CommandEnds command (world old out) (world new out)) _ c.in_err-task.field-0.0 c.from_residual.ensures.1
    (command_refused command old new out c.in_err-task.field-0.0 c.in_err-task.ensures.answer)

pub returns-clause-ends : goal.returns-clause-ends
returns-clause-ends g c =
    task_end (command_text c.args.command) (g.F.Files.shelf c.args.files.now) (g.F.Files.shelf c.read_task.new.files) (g.O.Sink.told c.args.out.now) (g.O.Sink.told c.perform.new.out)
    (task_text c.in_ok-task.task) c.perform.result c.in_ok-task.ensures.answer c.perform.ensures
