use Rattle.report_text.proofs.Blocks.{rows_same, parts_same}
use Rattle.report_text.proofs.rows.is_same_block.Goals as goal

pub returns-then-to-after-clause-same : goal.returns-then-to-after-clause-same
returns-then-to-after-clause-same c = λ t k low high. rows_same c.args.before.now c.args.after.now c.args.row k (parts_same _ _ c.eq.result c.eq.ensures t) low high
