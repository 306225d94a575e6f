-- Where serials rise, those below the serial after an entry's are the entries up to it.
use Rattle.std.proofs.Common.{◌∷◌, [], length, ap, true, arith}
use Rattle.std.specs.Prelude.{reverse}
use Rattle.std.proofs.lemmas.List.{length-append}
use Rattle.window_model.proofs.Serials.{below_next}
use Rattle.squash.specs.Laws.{LeavesTheOlder, DropsTheYounger}

pub leaves_the_older : LeavesTheOlder
leaves_the_older d p x rise = below_next (reverse p.before) (record (p.entry) { resolved = true }) p.younger rise

pub drops_the_younger : DropsTheYounger
drops_the_younger p x rise =
    let e = record (p.entry) { resolved = true } in
    let kept = ap length (below_next (reverse p.before) (record (p.entry) { resolved = true }) p.younger rise) in
    let all = length-append (reverse p.before) (record (p.entry) { resolved = true } ∷ p.younger) in
    let left = length-append (reverse p.before) (record (p.entry) { resolved = true } ∷ []) in
    omega (arith, kept, all, left)
