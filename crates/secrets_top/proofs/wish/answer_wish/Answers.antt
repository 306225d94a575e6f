-- How the run that is wanted is told is how the wish ends.
use Rattle.std.proofs.Common.{List, subst}
use Rattle.run_inputs.specs.Told.{world}
use Rattle.run_inputs.proofs.Exits.{at_exit}
use Rattle.secret_marks.specs.declared.SecretRange.{SecretRange}
use Rattle.secret_words.specs.Words.{WantedText}
use Rattle.secret_words.specs.inner.Words.{wanted_text}
use Rattle.secrets_top.specs.declared.refusal.Unjudged.TheVariants.{Refused}
use Rattle.secrets_top.specs.Ranges.{first_faulty}
use Rattle.secrets_top.specs.Top.{Inputs, WishEnds}
use Rattle.secrets_top.specs.inner.Top.{PerformsAccepted, image_in, verdict_on}
use Rattle.secrets_top.proofs.Outcomes.{inputs_refused, told_end}
use Rattle.secrets_top.proofs.wish.answer_wish.Goals as goal

pub returns-in_err-task-clause-ends : goal.returns-in_err-task-clause-ends
returns-in_err-task-clause-ends g c =
    let old = g.F.Files.shelf c.args.files.now in
    let new = g.F.Files.shelf c.read_task.new.files in
    let out = g.O.Sink.told c.args.out.now in
    let wanted : WantedText = wanted_text c.args.wanted in
    at_exit (WishEnds wanted (world old out) (world new out)) _ (Refused c.in_err-task.field-0.0) c.from_residual.ensures.1
    (inputs_refused wanted old new out c.in_err-task.field-0.0 c.in_err-task.ensures.answer)

pub returns-clause-ends : goal.returns-clause-ends
returns-clause-ends g c =
    let old = g.F.Files.shelf c.args.files.now in
    let new = g.F.Files.shelf c.read_task.new.files in
    let out = g.O.Sink.told c.args.out.now in
    let out' = g.O.Sink.told c.perform.new.out in
    let wanted : WantedText = wanted_text c.args.wanted in
    let task = c.in_ok-task.task in
    let made = c.in_ok-task.ensures.answer in
    let inputs : Inputs wanted old new = record { desc = made.desc; image = image_in task; read = made.read } in
    let P : List SecretRange → Type 0 = λ s. PerformsAccepted (first_faulty (image_in task) 0 s) (verdict_on task s wanted.public) out out' c.perform.result in
    told_end wanted old new out out' inputs (verdict_on task wanted.secret wanted.public) (made.told wanted.secret wanted.public) c.perform.result
    (subst P c.as_slice.ensures.value c.perform.ensures)
