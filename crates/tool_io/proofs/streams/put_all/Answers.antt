use Rattle.std.proofs.Common.{take, rules, ◌++◌, arith}
use Rattle.std.proofs.lemmas.Grind.{common_steps}
use Rattle.std.proofs.KnownBytes.{Appends-trans, Appends-kept}
use Rattle.tool_io.proofs.Pieces.{front_is_part, nothing_appended}
use Rattle.tool_io.proofs.streams.put_all.Goals as goal

pub loop-rest-preserved : goal.loop-rest-preserved
loop-rest-preserved g c =
    let (front, split, taken) = c.loop-rest.invariant in
    (front ++ take c.in-Ok.sent c.loop-rest.rest.now, grind (arith, common_steps, split), Appends-trans _ _ _ _ _ taken c.in-Ok.ensures.bytes)

pub returns-in-Ok-eq0 : goal.returns-in-Ok-eq0
returns-in-Ok-eq0 g c =
    let (front, split, taken) = c.loop-rest.invariant in
    front_is_part _ front c.loop-rest.rest.now _ _ split (search rules) (Appends-kept _ _ _ front taken (nothing_appended _ _ _ _ (search rules) c.in-Ok-eq0.ensures.bytes))

pub returns-in-Err : goal.returns-in-Err
returns-in-Err g c =
    let (front, split, taken) = c.loop-rest.invariant in
    front_is_part _ front c.loop-rest.rest.now _ _ split (search rules) (Appends-kept _ _ _ front taken c.in-Err.ensures.bytes)
