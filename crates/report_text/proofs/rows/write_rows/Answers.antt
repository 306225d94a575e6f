use Rattle.std.proofs.Common.{◌+◌, ◌<◌, ◌≤◌, ◌/◌, length, refl, ap, sym, ◌∙◌, arith}
use Rattle.report_text.specs.Report.{row_of, row_text}
use Rattle.report_text.proofs.Blocks.{no_text}
use Rattle.report_text.proofs.Turns.{each_begun, each_passed, each_wrote, each_part, each_done}
use Rattle.tool_io.proofs.Writing.{writes_part}
use Rattle.report_text.proofs.rows.write_rows.Goals as goal

pub loop-row-init : goal.loop-row-init
loop-row-init g c = each_begun _ _ _

pub returns-in_err-write_row : goal.returns-in_err-write_row
returns-in_err-write_row g c =
    let h : c.loop-row.row < length c.args.after.now.bytes / 16 = omega arith in
    writes_part _ _ _ _ c.from_residual.ensures.0 (each_part _ (row_text c.args.before.now c.args.after.now) _ _ _ _ _ h c.loop-row.invariant c.in_err-write_row.ensures)

pub loop-row-preserved : goal.loop-row-preserved
loop-row-preserved g c =
    let h : c.loop-row.row < length c.args.after.now.bytes / 16 = omega arith in
    each_wrote _ (row_text c.args.before.now c.args.after.now) _ _ _ _ _ h c.loop-row.invariant c.in_ok-write_row.ensures

pub returns : goal.returns
returns g c =
    let h : length c.args.after.now.bytes / 16 ≤ c.loop-row.row = omega arith in
    each_done _ (row_text c.args.before.now c.args.after.now) _ _ _ _ h c.loop-row.invariant

pub loop-row-preserved-then-is_same_block : goal.loop-row-preserved-then-is_same_block
loop-row-preserved-then-is_same_block g c =
    let within = c.if-is_same_block.ensures.within refl in
    let le : c.loop-row.row + 256 ≤ length c.args.after.now.bytes / 16 = let long = ap length c.bytes-in-loop-row.ensures in omega (arith, within, long) in
    each_passed _ (row_text c.args.before.now c.args.after.now) _ _ 256 _ _ le
    (λ k low high. no_text c.args.before.now c.args.after.now k (ap (λ bs. row_of bs k) (sym c.bytes.ensures) ∙ c.if-is_same_block.ensures.same refl k low high ∙ ap (λ bs. row_of bs k) c.bytes-in-loop-row.ensures))
    c.loop-row.invariant
