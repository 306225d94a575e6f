use Rattle.std.proofs.Common.{◌≤◌, ◌<◌, ◌-◌, ◌∙◌, length, arith, length-set}
use Rattle.elf_loader.proofs.Jumping.{jumps_set, left_set, left_same, set_positive}
use Rattle.elf_loader.proofs.unwritten.compress.Goals as goal

pub loop-place-preserved : goal.loop-place-preserved
loop-place-preserved c =
    let js = c.loop-place.jumps.items in
    let p = c.loop-place.place in
    let x = c.args.end - p in
    let from_le : c.args.from ≤ p = c.loop-place.invariant.0 in
    let end_le : c.args.end ≤ length js = c.loop-place.invariant.3 in
    let below : p < c.args.end = c.loop-place-test.true in
    let in_row : p < length js = omega arith in
    let some : 0 < x = omega arith in
    let taken = c.loop-place.invariant.4 in (
      omega arith,
      jumps_set js p x c.loop-place.invariant.1 in_row some (omega arith) (λ m a b. taken m (omega arith) (omega arith)),
      left_set js p x some ∙ left_same js p in_row (taken p from_le below) ∙ c.loop-place.invariant.2,
      omega (arith, length-set js p x),
      λ k a b. set_positive js p x k in_row some (taken k a b),
    )
