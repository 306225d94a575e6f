-- Memory wants only behind a read that gave bytes.
use Rattle.std.proofs.Common.{take, rules, ◌++◌}
use Rattle.std.proofs.KnownBytes.{Consumes-trans}
use Rattle.tool_io.proofs.Pieces.{some_given}
use Rattle.tool_io.proofs.streams.read_up_to.Goals as goal

pub returns-then-is_err-clause-wanting : goal.returns-then-is_err-clause-wanting
returns-then-is_err-clause-wanting g c =
    λ _. (
      c.loop-buffer.bytes.items ++ take c.in-Ok.got c.read.new.buf,
      some_given _ _ _ c.in-Ok.ensures.bound.0 (search rules),
      Consumes-trans _ _ _ _ _ c.loop-buffer.invariant c.in-Ok.ensures.bytes.0,
    )
