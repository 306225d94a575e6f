use Rattle.rob_ring.proofs.Words.{dropped_in_place, dropped_low_in_place}
use Rattle.rob_ring.proofs.flags.drop_flag.Goals as goal

pub returns : goal.returns
returns c = dropped_in_place _ _ _ _ c.told-flags c.shifted-2.ensures c.shifted-3.ensures c.shifted-4.ensures

pub returns-then-flags-eq0-2 : goal.returns-then-flags-eq0-2
returns-then-flags-eq0-2 c = dropped_low_in_place _ _ c.told-flags c.if-flags-eq0.true c.if-flags-eq0-2.true c.shifted.ensures
