use Rattle.std.proofs.Common.{◌≡◌, length, take}
use Rattle.issue.specs.Named.{positions_of}
use Rattle.issue.proofs.named.name_each.Given as goal

abbrev pub invariant-loop-k : goal.invariant-loop-k
invariant-loop-k l = record {
  named : take l.k l.places ≡ positions_of (take l.k l.puts.items);
  count : length l.places ≡ 9;
}
