use Rattle.std.proofs.Common.{arith}
use Rattle.window_model.proofs.Positions.{above_of, below_of, below_on, count_of, older_at, older_at_start}
use Rattle.window_model.proofs.position.position_of.Goals as goal

pub halved-position-requires-clause-older : goal.halved-position-requires-clause-older
halved-position-requires-clause-older g c =
    let t = c.loop-position.invariant in
    below_on c.args.serial (g.W.Window.entries c.args.window.now) c.loop-position.position c.lend.result.now c.loop-position-test.true t.within c.lend.ensures (let h = c.if-lend-serial.true in omega (arith, h)) t.walked

pub returns-else-lend-serial-clause-older : goal.returns-else-lend-serial-clause-older
returns-else-lend-serial-clause-older g c =
    let t = c.loop-position.invariant in
    older_at c.args.serial (g.W.Window.entries c.args.window.now) c.loop-position.position c.lend.result.now c.requires.rise c.loop-position-test.true t.within c.lend.ensures (let h = c.if-lend-serial.false in omega (arith, h)) t.walked

pub returns-else-lend-serial-clause-count : goal.returns-else-lend-serial-clause-count
returns-else-lend-serial-clause-count g c =
    count_of c.args.serial (g.W.Window.entries c.args.window.now) c.loop-position.position c.loop-position.invariant.within (returns-else-lend-serial-clause-older g c)

pub returns-else-lend-serial-clause-below : goal.returns-else-lend-serial-clause-below
returns-else-lend-serial-clause-below g c =
    below_of c.args.serial (g.W.Window.entries c.args.window.now) c.loop-position.position c.requires.rise (returns-else-lend-serial-clause-older g c)

pub returns-else-lend-serial-clause-above : goal.returns-else-lend-serial-clause-above
returns-else-lend-serial-clause-above g c =
    above_of c.args.serial (g.W.Window.entries c.args.window.now) c.loop-position.position c.requires.rise c.loop-position.invariant.within (returns-else-lend-serial-clause-older g c)

pub returns-after-loop-position-clause-above : goal.returns-after-loop-position-clause-above
returns-after-loop-position-clause-above g c =
    let entries = g.W.Window.entries c.args.window.now in
    let at_start = older_at_start c.args.serial entries c.loop-position.position (omega arith) c.loop-position.invariant.walked in
    above_of c.args.serial entries c.loop-position.position c.requires.rise c.loop-position.invariant.within at_start
