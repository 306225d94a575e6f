-- A piece that a stream takes in several writes, and what a read gives.
use Rattle.std.proofs.Common.{◌≡◌, ◌<◌, ◌≤◌, ℕ, zero, suc, List, ◌++◌, length, take, refl, sym, ap, ◌∙◌, subst, append-nil, Option, None, Some, arith}
use Rattle.std.proofs.lemmas.List.{length-append, length-take-le}
use Rattle.std.proofs.lemmas.Grind.{common_steps}
use Rattle.std.specs.Io.KnownBytes.{Appends, Keeps}
use Rattle.tool_io.specs.Streams.{AppendsPart}

-- a stream that takes nothing holds what it held
pub nothing_appended : (a b : Option (List ℕ)) (n : ℕ) (rest : List ℕ) → n ≡ 0 → Appends a b (take n rest) → Keeps a b
nothing_appended None b n rest none p = tt
nothing_appended (Some x) None n rest none p = absurd p
nothing_appended (Some x) (Some y) n rest none p = p ∙ ap (λ k. x ++ take k rest) none ∙ append-nil x

-- where something of the piece is left, its front is a part
pub front_is_part : (piece front rest : List ℕ) (a b : Option (List ℕ)) → piece ≡ front ++ rest → 0 < length rest → Appends a b front → AppendsPart piece a b
front_is_part piece front rest a b split left taken =
    let whole : take (length front) piece ≡ front = grind (arith, common_steps) in
    record { sent = length front; short = grind (arith, common_steps); appended = subst (Appends a b) (sym whole) taken }

-- what a read gives is some, where it isn't none
pub some_given : (gathered buffer : List ℕ) (n : ℕ) → n ≤ length buffer → (n ≡ 0 → ⊥) → 0 < length (gathered ++ take n buffer)
some_given gathered buffer zero few some = absurd (some refl)
some_given gathered buffer (suc n) few some =
    let whole = length-append gathered (take (suc n) buffer) in
    let taken = length-take-le (suc n) buffer few in
    omega (arith, whole, taken)
