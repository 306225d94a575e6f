use Rattle.std.proofs.Common.{arith}
use Rattle.std.proofs.lemmas.Bool.Decides.{nat_tests}
use Rattle.rob_ring.proofs.ByEnd.{lacks_all, lacks_before}
use Rattle.rob_ring.proofs.ring.RobRing.begins_behind.Goals as goal

pub returns-then-len-eq0 : goal.returns-then-len-eq0
returns-then-len-eq0 c = λ _. lacks_all c.args.serial c.args.self.now.entries (let len = c.len.ensures.len in let none = c.if-len-eq0.true in omega (arith, len, none))

pub returns : goal.returns
returns c = λ t. lacks_before c.args.serial c.args.self.now.entries c.lend.result.now c.requires.rise c.lend.ensures (grind (arith, nat_tests, t))
