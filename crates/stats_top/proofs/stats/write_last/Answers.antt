-- What is written is the lines of the numbers, and then the last line.
use Rattle.std.proofs.Common.{◌∙◌, subst}
use Rattle.line_text.specs.EndLine.{end_line}
use Rattle.tool_io.proofs.Writing.{part_more, writes_part, writes_then}
use Rattle.tool_io.specs.Outside.{Wrote, WrotePrefix}
use Rattle.stats_top.specs.Stats.{all_lines}
use Rattle.stats_top.proofs.stats.write_last.Goals as goal

pub returns-in_err-put : goal.returns-in_err-put
returns-in_err-put g c =
    let out = g.S.Sink.told c.args.out.now in
    let out' = g.S.Sink.told c.put.new.self in
    let lines = c.as_slice.ensures ∙ c.all_lines.ensures in
    writes_part _ out out' c.from_residual.result c.from_residual.ensures.0
    (part_more (all_lines c.args.numbers.now) (end_line c.args.ending.now) out out' (subst (λ text. WrotePrefix text out out') lines c.in_err-put.ensures))

pub returns : goal.returns
returns g c =
    let out = g.S.Sink.told c.args.out.now in
    let out' = g.S.Sink.told c.put.new.self in
    let lines = c.as_slice.ensures ∙ c.all_lines.ensures in
    writes_then (all_lines c.args.numbers.now) (end_line c.args.ending.now) out out' (g.S.Sink.told c.write_end.new.out) c.write_end.result
    (subst (λ text. Wrote text out out') lines c.in_ok-put.ensures) c.write_end.ensures
