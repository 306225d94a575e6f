use Rattle.std.proofs.Common.{take}
use Rattle.issue.proofs.InPlace.{PlacesOn}
use Rattle.issue.proofs.placing.place.Given as goal

abbrev pub invariant-loop-k : goal.invariant-loop-k
invariant-loop-k l = PlacesOn l.desc l.puts.items l.initial.rob l.initial.stations l.initial.lsq (take l.k l.puts.items) l.rob l.stations l.lsq
