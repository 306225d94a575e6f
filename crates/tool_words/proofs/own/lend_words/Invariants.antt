use Rattle.std.proofs.Common.{◌≡◌, map, take, string_bytes}
use Rattle.tool_words.proofs.own.lend_words.Given as goal

-- the words so far are lent
abbrev pub invariant-loop-word : goal.invariant-loop-word
invariant-loop-word l = map (λ w. w.now) l.lent.items ≡ map string_bytes (take l.word-index l.words)
