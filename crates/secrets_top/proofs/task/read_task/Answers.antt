-- Each run reads what it needs.
use Rattle.secrets_top.proofs.task.read_task.Goals as goal

pub returns-in-Core-clause-answer : goal.returns-in-Core-clause-answer
returns-in-Core-clause-answer g c = rw c.in-Core.is c.read_core.ensures.answer

pub returns-in-Path-clause-answer : goal.returns-in-Path-clause-answer
returns-in-Path-clause-answer g c = rw c.in-Path.is c.read_path.ensures.answer
