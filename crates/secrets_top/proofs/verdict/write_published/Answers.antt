-- What is written is how many bytes are published, and then the last line of the trace.
use Rattle.line_text.specs.EndLine.{end_line}
use Rattle.std.specs.Prelude.{Some}
use Rattle.tool_io.proofs.Writing.{part_more, writes_part, writes_then}
use Rattle.tool_io.specs.Outside.{Wrote, WrotePrefix}
use Rattle.secrets_top.specs.Verdict.{last_lines, published_line}
use Rattle.secrets_top.proofs.verdict.write_published.Goals as goal
use Rattle.std.proofs.Common.{subst, ◌∙◌}

pub returns-in_err-put : goal.returns-in_err-put
returns-in_err-put g c =
    let out = g.S.Sink.told c.args.out.now in
    let out' = g.S.Sink.told c.put.new.self in
    let line = c.as_slice.ensures ∙ c.published_line.ensures in
    writes_part (last_lines c.args.ending.now (Some c.args.bytes)) out out' c.from_residual.result c.from_residual.ensures.0
    (part_more (published_line c.args.bytes) (end_line c.args.ending.now) out out' (subst (λ text. WrotePrefix text out out') line c.in_err-put.ensures))

pub returns : goal.returns
returns g c =
    let out = g.S.Sink.told c.args.out.now in
    let out' = g.S.Sink.told c.put.new.self in
    let line = c.as_slice.ensures ∙ c.published_line.ensures in
    writes_then (published_line c.args.bytes) (end_line c.args.ending.now) out out' (g.S.Sink.told c.write_end.new.out) c.write_end.result
    (subst (λ text. Wrote text out out') line c.in_ok-put.ensures) c.write_end.ensures
