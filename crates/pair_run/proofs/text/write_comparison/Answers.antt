-- The lines in turn are the text.
use Rattle.tool_io.proofs.Writing.{wrote_then_part, part_more, writes_then, writes_part}
use Rattle.pair_run.specs.Comparison.{comparison}
use Rattle.pair_run.proofs.text.write_comparison.Goals as goal

pub returns-in_err-write_premise : goal.returns-in_err-write_premise
unfolding comparison
returns-in_err-write_premise g c =
    writes_part _ _ _ _ c.from_residual.ensures.0 (part_more _ _ _ _ c.in_err-write_premise.ensures)

pub returns-in_err-write_differ : goal.returns-in_err-write_differ
unfolding comparison
returns-in_err-write_differ g c =
    writes_part _ _ _ _ c.from_residual-in_err-write_differ.ensures.0
    (wrote_then_part _ _ _ _ _ c.in_ok-write_premise.ensures (part_more _ _ _ _ c.in_err-write_differ.ensures))

pub returns : goal.returns
unfolding comparison
returns g c =
    writes_then _ _ _ _ _ _ c.in_ok-write_premise.ensures (writes_then _ _ _ _ _ _ c.in_ok-write_differ.ensures c.write_length.ensures)
