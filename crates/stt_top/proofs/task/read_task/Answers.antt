-- The machine's run of an image asks for the task of what was read, or what it reads is refused.
use Rattle.std.proofs.Common.{[], ◌∷◌, Some, refl}
use Rattle.run_inputs.specs.Loaded.{image_text}
use Rattle.run_inputs.proofs.Exits.{at_err}
use Rattle.stt_top.proofs.task.read_task.Goals as goal

pub returns-in_ok-read-in-Run-clause-answer : goal.returns-in_ok-read-in-Run-clause-answer
returns-in_ok-read-in-Run-clause-answer g c =
    let read = c.in_ok-read-in-Run.read in
    rw c.in-Run.is (record { desc = Some read.desc; images = image_text read.image ∷ []; read = c.in_ok-read-in-Run.ensures.answer; asks = refl })

pub returns-in_ok-read-in-Trace-clause-answer : goal.returns-in_ok-read-in-Trace-clause-answer
returns-in_ok-read-in-Trace-clause-answer g c =
    let read = c.in_ok-read-in-Trace.read in
    rw c.in-Trace.is (record { desc = Some read.desc; images = image_text read.image ∷ []; read = c.in_ok-read-in-Trace.ensures.answer; asks = refl })

pub returns-in_ok-read-in-Bench-clause-answer : goal.returns-in_ok-read-in-Bench-clause-answer
returns-in_ok-read-in-Bench-clause-answer g c =
    let read = c.in_ok-read-in-Bench.read in
    rw c.in-Bench.is (record { desc = Some read.desc; images = image_text read.image ∷ []; read = c.in_ok-read-in-Bench.ensures.answer; asks = refl })

pub returns-in_err-read-in-Run-clause-answer : goal.returns-in_err-read-in-Run-clause-answer
returns-in_err-read-in-Run-clause-answer g c = rw c.in-Run.is (at_err _ _ _ _ c.from_residual.ensures.1 c.in_err-read-in-Run.ensures.answer)

pub returns-in_err-read-in-Trace-clause-answer : goal.returns-in_err-read-in-Trace-clause-answer
returns-in_err-read-in-Trace-clause-answer g c =
    rw c.in-Trace.is (at_err _ _ _ _ c.from_residual-in_err-read-in-Trace.ensures.1 c.in_err-read-in-Trace.ensures.answer)

pub returns-in_err-read-in-Bench-clause-answer : goal.returns-in_err-read-in-Bench-clause-answer
returns-in_err-read-in-Bench-clause-answer g c =
    rw c.in-Bench.is (at_err _ _ _ _ c.from_residual-in_err-read-in-Bench.ensures.1 c.in_err-read-in-Bench.ensures.answer)

pub returns-in-Isa-clause-answer : goal.returns-in-Isa-clause-answer
returns-in-Isa-clause-answer g c = rw c.in-Isa.is c.read_isa.ensures.answer

pub returns-in-Pair-clause-answer : goal.returns-in-Pair-clause-answer
returns-in-Pair-clause-answer g c = rw c.in-Pair.is c.read_pair.ensures.answer
