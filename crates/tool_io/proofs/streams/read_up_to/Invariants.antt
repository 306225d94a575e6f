-- What is gone of the stream is what has been gathered.
use Rattle.std.proofs.Common.{◌+◌, ◌-◌, vec_len, vec_items}
use Rattle.std.specs.Io.KnownBytes.{Consumes}
use Rattle.tool_io.proofs.streams.read_up_to.Given as goal

abbrev pub invariant-loop-buffer : goal.invariant-loop-buffer
invariant-loop-buffer g l = Consumes (g.T.Read.remaining l.initial.from) (g.T.Read.remaining l.from) (vec_items l.bytes)

abbrev pub decreases-loop-buffer : goal.decreases-loop-buffer
decreases-loop-buffer g l = (l.max + 1) - vec_len l.bytes
