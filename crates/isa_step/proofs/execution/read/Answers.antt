use Rattle.std.proofs.Math.Facts.{Fits-lt-pow}
use Rattle.isa_step.proofs.Memory.{small}
use Rattle.isa_step.proofs.execution.read.Goals as goal

pub returns-clause-small : goal.returns-clause-small
returns-clause-small c = small c.args.ram.now c.args.addr c.args.op c.width_of.result c.get.result (λ i. rw (← c.requires) (Fits-lt-pow (c.type_inv.bytes i))) c.width_of.ensures c.get.ensures
