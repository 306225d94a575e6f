use Rattle.std.proofs.Common.{map, drop}
use Rattle.secret_words.proofs.Reading.{GoOn}
use Rattle.secret_words.proofs.ranges.read_ranges.Given as goal

-- the ranges so far are those of the first texts
abbrev pub invariant-loop-text : goal.invariant-loop-text
invariant-loop-text l = GoOn (map (λ t. t.now) l.texts) l.ranges.items (map (λ t. t.now) (drop l.text-index l.texts))
