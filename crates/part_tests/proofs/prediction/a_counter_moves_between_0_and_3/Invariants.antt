use Rattle.std.proofs.Common.{◌<◌, length}
use Rattle.part_tests.proofs.prediction.a_counter_moves_between_0_and_3.Given as goal

abbrev pub invariant-loop-taken : goal.invariant-loop-taken
invariant-loop-taken g l = 1 < length l.predictor.counters
