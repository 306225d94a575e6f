use Rattle.std.proofs.Common.{◌∙◌, sym, arith}
use Rattle.kept_entry.proofs.Looking.{older_made, writer_made}
use Rattle.kept_entry.proofs.seen.Seen.is_made.Goals as goal

pub returns-then-writes : goal.returns-then-writes
returns-then-writes c =
    let some = c.loop-i-test.true in
    c.is_done.ensures
    ∙ writer_made c.args.self.now.rob.now.entries c.loop-i.i c.lend-entry.result.now c.args.register.number (omega (arith, some)) c.lend-entry.ensures (sym c.writes.ensures ∙ c.if-writes.true)
    ∙ c.loop-i.invariant

pub loop-i-preserved : goal.loop-i-preserved
loop-i-preserved c =
    let some = c.loop-i-test.true in
    older_made c.args.self.now.rob.now.entries c.loop-i.i c.lend-entry.result.now c.args.register.number (omega (arith, some)) c.lend-entry.ensures (sym c.writes.ensures ∙ c.if-writes.false)
    ∙ c.loop-i.invariant
