use Rattle.std.proofs.Common.{◌≡◌, ◌+◌, length}
use Rattle.std.specs.Prelude.{nat_lt}
use Rattle.std.specs.List.{filter}
use Rattle.stations.proofs.by_age.Stations.drop_from.Given as goal

-- what stays of the entries left is what stays of all
abbrev pub invariant-loop-turn : goal.invariant-loop-turn
invariant-loop-turn l = record {
  held : filter (λ s. nat_lt s.serial l.serial) l.self.held ≡ filter (λ s. nat_lt s.serial l.serial) l.initial.self.held;
  room : l.self.room ≡ l.initial.self.room;
  turns : length l.self.held + l.turn ≡ length l.initial.self.held;
}
