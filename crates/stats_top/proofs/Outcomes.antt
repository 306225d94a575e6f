-- How the program ends, from what its parts do.
use Rattle.std.proofs.Common.{◌≡◌, ℕ, List, [], Option, Some, None, Result, Ok, Err, refl, ap, ◌∙◌, inl, inr}
use Rattle.rv_types.specs.declared.End.{End}
use Rattle.tool_io.specs.Outside.{Told, Shelf, SameCounts}
use Rattle.run_inputs.specs.declared.refusal.Refusal.{Refusal}
use Rattle.run_inputs.specs.declared.refusal.Refusal.TheVariants.{Words, Write, Memory}
use Rattle.run_inputs.specs.Told.{World, world}
use Rattle.stats_words.specs.Words.{AskedText, asked_of}
use Rattle.stats_words.proofs.Stats.{no_words_ask}
use Rattle.stats_top.specs.Top.{Inputs, RefusedInputs, AskedWants, AskedEnds, Ends}
use Rattle.stats_top.specs.inner.Top.{Performs}

-- words that ask for something aren't none
pub not_empty : (words : List (List ℕ)) (asked : AskedText) → asked_of words ≡ Some asked → words ≡ [] → ⊥
not_empty words asked k e = let none : asked_of words ≡ None = ap asked_of e ∙ no_words_ask in cc

-- what is read is refused
pub inputs_refused : (asked : AskedText) (old new : Shelf) (out : Told) (e : Refusal) → RefusedInputs asked old new e → AskedEnds asked (world old out) (world new out) (Err e)
inputs_refused asked old new out Write c = absurd c
inputs_refused asked old new out Memory c = (inl c, refl)
inputs_refused asked old new out _ c = (c, refl)

-- what is asked for ends as it has to where its run is told
pub told_end : (asked : AskedText) (old new : Shelf) (out out' : Told) (i : Inputs asked old new) (r : Result (Option End) Refusal)
    → Performs asked.every i.desc i.image asked.cycles out out' r → AskedEnds asked (world old out) (world new out') r
told_end asked old new out out' i (Ok end) p = (i, p.0, p.1)
told_end asked old new out out' i (Err Write) p = (i, p)
told_end asked old new out out' i (Err Memory) p = (inr i, p)
told_end asked old new out out' i (Err _) p = absurd p

-- want of memory leaves the counts of all files
wants_alone : (asked : AskedText) (old new : Shelf) → AskedWants asked old new → SameCounts old new
wants_alone asked old new (inl refused) = refused.1
wants_alone asked old new (inr i) = i.read.counts

-- the program ends as what its words ask for
pub asked_end : (words : List (List ℕ)) (old new : World) (asked : AskedText) (r : Result (Option End) Refusal) → asked_of words ≡ Some asked → AskedEnds asked old new r → Ends words old new r
asked_end words old new asked (Ok end) k a = (asked, k, a)
asked_end words old new asked (Err Words) k a = absurd a.0
asked_end words old new asked (Err Memory) k a = (not_empty words asked k, wants_alone asked old.files new.files a.0, a.1)
asked_end words old new asked (Err _) k a = (asked, k, a)
