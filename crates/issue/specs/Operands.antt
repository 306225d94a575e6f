-- The values of an entry's sources, by the serials of their writers (docs/machine.md, "Writers and roots").
use Rattle.std.specs.Prelude.{ℕ, List, Option, Some, None}
use Rattle.rv_types.specs.Isa.{reg}
use Rattle.window_model.specs.declared.Entry.{Entry}
use Rattle.window_model.specs.MayIssue.{first_operand, second_operand}
use Rattle.window_model.specs.Order.{from_writer, sources}
use Rattle.refinement.specs.Writers.{in_flight}
use Rattle.issue.specs.declared.candidate.Candidate.{Candidate}
use Rattle.issue.specs.declared.seen.Seen.{Seen}
use Rattle.issue.specs.State.{before_of}

-- the value of a source with this writer, 0 where there is no source
abbrev pub value_by : List ℕ → List Entry → Option ℕ → Option ℕ → ℕ
value_by regs window None writer = 0
value_by regs window (Some r) writer = from_writer (in_flight window writer) (reg regs r)

-- the first operand of the entry in its place, and the second below
abbrev pub first_of : Seen → Candidate → ℕ
first_of s p = first_operand s.regs.now (before_of s p) (sources p.entry.now)

abbrev pub second_of : Seen → Candidate → ℕ
second_of s p = second_operand s.regs.now (before_of s p) (sources p.entry.now)
