-- What is written is the line that nothing shows, and then the last lines.
use Rattle.std.proofs.Common.{codes}
use Rattle.tool_io.proofs.Writing.{part_more, writes_part, writes_then}
use Rattle.secrets_top.specs.Verdict.{hidden_text, last_lines}
use Rattle.secrets_top.proofs.verdict.write_hidden.Goals as goal

pub returns-in_err-put : goal.returns-in_err-put
returns-in_err-put g c =
    writes_part (hidden_text c.args.ending.now c.args.published) (g.S.Sink.told c.args.out.now) (g.S.Sink.told c.put.new.self) c.from_residual.result c.from_residual.ensures.0
    (part_more (codes "hidden\n") (last_lines c.args.ending.now c.args.published) (g.S.Sink.told c.args.out.now) (g.S.Sink.told c.put.new.self) c.in_err-put.ensures)

pub returns : goal.returns
returns g c =
    writes_then (codes "hidden\n") (last_lines c.args.ending.now c.args.published) (g.S.Sink.told c.args.out.now) (g.S.Sink.told c.put.new.self) (g.S.Sink.told c.write_last.new.out)
    c.write_last.result c.in_ok-put.ensures c.write_last.ensures
