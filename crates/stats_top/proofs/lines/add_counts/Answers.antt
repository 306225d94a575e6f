-- The lines go on with that of the number at the next place.
use Rattle.std.proofs.Common.{◌<◌, ◌≤◌, ◌∙◌, ◌++◌, length, ap, arith}
use Rattle.run_counts.specs.Counted.{names}
use Rattle.run_counts.proofs.Distinct.{names_length}
use Rattle.stats_top.specs.Stats.{number_lines}
use Rattle.stats_top.proofs.Texts.{next_line, last_line}
use Rattle.stats_top.proofs.lines.add_counts.Goals as goal

pub loop-place-preserved : goal.loop-place-preserved
loop-place-preserved c =
    let before = c.loop-place.invariant.short in
    let more = c.add_number_line.ensures.short in
    let few = c.loop-place-test.true in
    let long = c.as_slice-numbers.ensures.len in
    let there : c.loop-place.place < length c.as_slice-numbers.result.now = omega (arith, few, long) in
    record {
      text = next_line names c.as_slice-numbers.result.now _ _ _ c.loop-place.place 0 _ c.name_at.ensures.name there c.add_number_line.ensures.text c.loop-place.invariant.text;
      short = omega (arith, before, more);
    }

pub returns-clause-text : goal.returns-clause-text
returns-clause-text c =
    let over = c.loop-place-test.false in
    let long = names_length in
    let most : length names ≤ c.loop-place.place = omega (arith, over, long) in
    last_line names c.as_slice-numbers.result.now _ c.loop-place.lines c.loop-place.place most c.loop-place.invariant.text
    ∙ ap (λ ns. c.args.lines.now ++ number_lines names ns) c.as_slice-numbers.ensures.value
