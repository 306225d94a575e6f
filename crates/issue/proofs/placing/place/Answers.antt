use Rattle.std.proofs.Common.{ap, length}
use Rattle.issue.proofs.InPlace.{as_safe, place_within, places_more, places_start, station_within, still_within}
use Rattle.issue.proofs.placing.place.Goals as goal

pub loop-k-init : goal.loop-k-init
loop-k-init c = rw (ap length c.as_slice-listed.ensures.value) (places_start _ _ _ _ _ c.requires.puts)

pub issue-requires-clause-within : goal.issue-requires-clause-within
issue-requires-clause-within c =
    place_within _ _ _ _ _ _ _ _ _ _ c.loop-k.invariant c.loop-k-test.true _ c.loop-k.auto.k (ap length c.as_slice-listed.ensures.value) _ c.index-listed-k.is c.as_slice-listed.ensures.value

pub issue-requires-clause-alike : goal.issue-requires-clause-alike
issue-requires-clause-alike c =
    as_safe _ _ _ _ _ _ _ _ _ _ c.loop-k.invariant c.loop-k-test.true _ c.loop-k.auto.k (ap length c.as_slice-listed.ensures.value) _ c.index-listed-k.is c.as_slice-listed.ensures.value c.requires.refines

pub lend-entry-requires : goal.lend-entry-requires
lend-entry-requires c =
    still_within _ _ _ _ _ _ _ _ _ _ c.loop-k.invariant c.loop-k-test.true _ c.loop-k.auto.k (ap length c.as_slice-listed.ensures.value) _ c.index-listed-k.is c.as_slice-listed.ensures.value _ c.issue.ensures

pub settle-requires : goal.settle-requires
settle-requires c = record {
  within =
      station_within _ _ _ _ _ _ _ _ _ _ c.loop-k.invariant c.loop-k-test.true _ c.loop-k.auto.k (ap length c.as_slice-listed.ensures.value) _ c.index-listed-k.is c.as_slice-listed.ensures.value
      c.requires.refines;
}

pub loop-k-preserved : goal.loop-k-preserved
loop-k-preserved c =
    places_more _ _ _ _ _ _ _ _ _ _ c.loop-k.invariant c.loop-k-test.true _ c.loop-k.auto.k (ap length c.as_slice-listed.ensures.value) _ c.index-listed-k.is c.as_slice-listed.ensures.value
    _ c.issue.ensures _ _ _ c.lend-entry.ensures c.settle.ensures c.note.ensures
