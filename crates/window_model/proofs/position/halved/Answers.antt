use Rattle.std.proofs.Common.{arith, ◌+◌, ◌-◌, ◌/◌}
use Rattle.window_model.proofs.Positions.{below_to}
use Rattle.window_model.proofs.position.halved.Goals as goal

pub loop-low-preserved : goal.loop-low-preserved
loop-low-preserved g c =
    let within = c.loop-low.invariant.within in
    let apart = c.loop-low-test.true in
    let middle = c.loop-low.low + (c.loop-low.high - c.loop-low.low) / 2 in
    record {
      walked = below_to c.args.serial (g.W.Window.entries c.args.window.now) middle c.lend.result.now c.requires.rise c.lend.ensures (let h = c.if-lend-serial.false in omega (arith, h));
      within = omega (arith, within, apart);
    }
