use Rattle.std.proofs.Common.{ap, ◌∙◌, ◌++◌, ◌∷◌, [], sym, arith}
use Rattle.stations.proofs.Placing.{range_more}
use Rattle.stations.proofs.places.all_places.Goals as goal

pub loop-place-preserved : goal.loop-place-preserved
loop-place-preserved c =
    record {
      items = c.in_ok-push.ensures.items ∙ ap (λ ps. ps ++ c.loop-place.place ∷ []) c.loop-place.invariant.items ∙ sym (range_more c.loop-place.place);
      len = omega (arith, c.in_ok-push.ensures.len, c.loop-place.invariant.len);
      capacity = omega (arith, c.in_ok-push.ensures.capacity, c.loop-place.invariant.capacity);
    }
