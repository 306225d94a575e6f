use Rattle.std.proofs.Common.{take}
use Rattle.std.specs.List.{AllByRecursion as Each}
use Rattle.machine_facts.specs.Timely.{WaitsOrDone}
use Rattle.core_tests.proofs.phases.are_settled.Given as goal

abbrev pub invariant-loop-i : goal.invariant-loop-i
invariant-loop-i l = Each WaitsOrDone (take l.i l.rob.entries)
