-- Runs of a core, cycle by cycle, and what they write.
use Rattle.std.specs.Prelude.{ℕ, List, Some}
use Rattle.rv_types.specs.Memory.{Code, Ram}
use Rattle.rv_types.specs.Isa.{Run}
use Rattle.machine_desc.specs.declared.Desc.{Desc}
use Rattle.window_model.specs.State.{Machine}
use Rattle.window_model.specs.Retire.{hart_of}
use Rattle.window_model.specs.Cycle.{pieces, after_cycles}
use Rattle.report_text.specs.Report.{report_text}

-- a run of at most n cycles from a state, as a report tells it: its steps are the instructions that retired
abbrev pub run_from : Desc → Code → ℕ → Machine → Run
run_from d code n x =
    let last = after_cycles d code n x in
    record { last = hart_of last; pieces = pieces d code n x; steps = last.retired; ended = last.end }

-- the report of a core's run, which counts the cycles
abbrev pub report_from : Ram → Desc → Code → ℕ → Machine → List ℕ
report_from before d code n x = report_text before (run_from d code n x) (Some (after_cycles d code n x).cycle)
