-- The loop writes the row of each cycle as it is done.
use Rattle.std.proofs.Common.{◌≡◌, ◌∙◌, ap₂, None, arith}
use Rattle.std.proofs.lemmas.Result.{MatchResult-from_err}
use Rattle.window_model.specs.Cycle.{cycle}
use Rattle.core_cycle.proofs.Going.{ended_at, running_at}
use Rattle.stt_top.proofs.Cycles.{rows_next, rows_part, rows_ended, rows_done}
use Rattle.stt_top.proofs.clocking.write_rows.Goals as goal

pub returns-then-is_some : goal.returns-then-is_some
returns-then-is_some g c = rows_ended _ _ _ _ _ _ _ _ (ended_at _ c.end.result c.is_some.result c.end.ensures c.is_some.ensures c.if-is_some.true) c.loop-done.invariant.rows

pub returns-in_err-write_row_with : goal.returns-in_err-write_row_with
returns-in_err-write_row_with g c =
    let core = g.C.Clocked.machine c.loop-done.core in
    let running : core.end ≡ None = running_at _ c.end.result c.is_some.result c.end.ensures c.is_some.ensures c.if-is_some.false in
    MatchResult-from_err _ _ _ c.from_residual.ensures.0
    (λ _. rows_part _ _ _ _ _ _ _ _ _ _ _ _ c.loop-done-test.true running
    (c.cycle.ensures.cycled ∙ ap₂ (λ d code. cycle d code core) c.loop-done.invariant.desc c.loop-done.invariant.code) c.loop-done.invariant.rows
    c.in_err-write_row_with.ensures)

pub loop-done-preserved : goal.loop-done-preserved
loop-done-preserved g c =
    let core = g.C.Clocked.machine c.loop-done.core in
    let running : core.end ≡ None = running_at _ c.end.result c.is_some.result c.end.ensures c.is_some.ensures c.if-is_some.false in
    record {
      desc = c.cycle.ensures.desc ∙ c.loop-done.invariant.desc;
      code = c.cycle.ensures.code ∙ c.loop-done.invariant.code;
      rows = rows_next _ _ _ _ _ _ _ _ _ _ _ _ c.loop-done-test.true running
          (c.cycle.ensures.cycled ∙ ap₂ (λ d code. cycle d code core) c.loop-done.invariant.desc c.loop-done.invariant.code) c.loop-done.invariant.rows
          c.in_ok-write_row_with.ensures;
    }

pub returns : goal.returns
returns g c = rows_done _ _ _ _ _ _ _ _ (omega arith) c.loop-done.invariant.rows
