-- The lines go on with that of the number at the next place.
use Rattle.std.proofs.Common.{◌<◌, ◌≤◌, ◌∙◌, ◌++◌, length, ap, arith}
use Rattle.slot_reasons.specs.Slots.{slot_names}
use Rattle.slot_reasons.proofs.Counting.{slot_names_length}
use Rattle.stats_top.specs.Stats.{number_lines}
use Rattle.stats_top.proofs.Texts.{next_line, last_line}
use Rattle.stats_top.proofs.lines.add_slots.Goals as goal

pub loop-place-preserved : goal.loop-place-preserved
loop-place-preserved c =
    let before = c.loop-place.invariant.short in
    let more = c.add_number_line.ensures.short in
    let few = c.loop-place-test.true in
    let long = c.as_slice-numbers.ensures.len in
    let there : c.loop-place.place < length c.as_slice-numbers.result.now = omega (arith, few, long) in
    record {
      text = next_line slot_names c.as_slice-numbers.result.now _ _ _ c.loop-place.place 0 _ c.slot_name_at.ensures.name there c.add_number_line.ensures.text c.loop-place.invariant.text;
      short = omega (arith, before, more);
    }

pub returns : goal.returns
returns c =
    let over = c.loop-place-test.false in
    let long = slot_names_length in
    let most : length slot_names ≤ c.loop-place.place = omega (arith, over, long) in
    record {
      text =
          last_line slot_names c.as_slice-numbers.result.now _ c.loop-place.lines c.loop-place.place most c.loop-place.invariant.text
          ∙ ap (λ ns. c.args.lines.now ++ number_lines slot_names ns) c.as_slice-numbers.ensures.value;
    }
