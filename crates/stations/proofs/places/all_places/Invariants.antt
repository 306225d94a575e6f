use Rattle.std.proofs.Common.{◌≡◌, ◌≤◌}
use Rattle.std.specs.Prelude.{vec_len, vec_capacity}
use Rattle.std.specs.List.{range_with_len}
use Rattle.stations.proofs.places.all_places.Given as goal

abbrev pub invariant-loop-place : goal.invariant-loop-place
invariant-loop-place l = record {
  items : l.free.items ≡ range_with_len 0 l.place;
  len : vec_len l.free ≡ l.place;
  capacity : l.room ≤ vec_capacity l.free;
}
