use Rattle.std.proofs.Common.{◌≡◌, replicate}
use Rattle.std.specs.Prelude.{vec_len}
use Rattle.stations.specs.Places.{nobody}
use Rattle.stations.proofs.places.empty_places.Given as goal

abbrev pub invariant-loop-turn : goal.invariant-loop-turn
invariant-loop-turn l = record {
  items : l.places.items ≡ replicate l.turn nobody;
  len : vec_len l.places ≡ l.turn;
}
