use Rattle.std.proofs.Common.{◌+◌, ◌-◌, ◌/◌, ◌<◌, ℕ, ◌∙◌, sym, arith}
use Rattle.kept_entry.proofs.Standing.{reached_tell}
use Rattle.kept_entry.proofs.seen.Seen.first_hidden.Goals as goal

pub loop-low-preserved-then-visible : goal.loop-low-preserved-then-visible
loop-low-preserved-then-visible c =
    let test = c.loop-low-test.true in
    let high = c.loop-low.invariant.high in
    let middle : ℕ = c.loop-low.low + (c.loop-low.high - c.loop-low.low) / 2 in
    let below : middle < c.loop-low.high = omega (arith, test) in
    record {
      low = omega (arith, test);
      high = high;
      passed = reached_tell c.args.self.now c.requires.stands middle c.serial.result (omega (arith, below, high)) c.serial.ensures (sym c.visible.ensures.tells ∙ c.if-visible.true);
    }
