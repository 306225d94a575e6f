use Rattle.core_parts.proofs.Opening.{opens_whole}
use Rattle.core_parts.proofs.parts.Parts.new.Goals as goal

pub invariant_of-result : goal.invariant_of-result
invariant_of-result g c =
    opens_whole _ _ _ _ _ _ _ _ _ _ _ _ _ _ _ _ _ _ _ _ c.start_regs.ensures c.in_ok-rob.ensures c.in_ok-sources.ensures c.in_ok-table.ensures.empty c.in_ok-table.ensures.room c.in_ok-stations.ensures
    c.in_ok-lsq.ensures c.in_ok-tags.ensures c.in_ok-second.ensures c.in_ok-mshrs.ensures c.new-11.ensures c.in_ok-predictor.ensures c.new-12.ensures c.in_ok-dependence.ensures c.in_ok-fetch_unit.ensures c.new-13.ensures
