use Rattle.std.proofs.Common.{◌∙◌}
use Rattle.rename.proofs.Fitting.{call_is_oldest, none_unless_one}
use Rattle.rename.proofs.room.has_call.Goals as goal

pub returns-then-len-ne1 : goal.returns-then-len-ne1
returns-then-len-ne1 c = none_unless_one _ c.requires (λ one. c.if-len-ne1.true (c.len.ensures.len ∙ one))

pub returns : goal.returns
returns c = c.is_call.ensures ∙ call_is_oldest _ c.lend.result.now c.requires c.lend.ensures
