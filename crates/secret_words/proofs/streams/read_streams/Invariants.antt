use Rattle.std.proofs.Common.{◌≡◌, map, drop}
use Rattle.secret_words.specs.Streams.{none_public, streams_of}
use Rattle.secret_words.proofs.streams.read_streams.Given as goal

-- the streams so far are those of the first texts
abbrev pub invariant-loop-text : goal.invariant-loop-text
invariant-loop-text l = streams_of none_public (map (λ t. t.now) l.texts) ≡ streams_of l.streams (map (λ t. t.now) (drop l.text-index l.texts))
