-- How the program ends, from what its parts do.
use Rattle.std.proofs.Common.{◌≡◌, ℕ, List, [], Option, Some, None, Result, Ok, Err, refl, ap, ◌∙◌, inl, inr}
use Rattle.tool_io.specs.Outside.{Told, Shelf, SameCounts}
use Rattle.run_inputs.specs.declared.refusal.Refusal.{Refusal}
use Rattle.run_inputs.specs.declared.refusal.Refusal.TheVariants.{Words, Write, Memory}
use Rattle.run_inputs.specs.Input.{NamedRefused}
use Rattle.run_inputs.specs.Told.{World, world}
use Rattle.secret_words.specs.Words.{WantedText, wanted_of}
use Rattle.secret_words.proofs.Secrets.{no_words_no_wish}
use Rattle.secrets_top.specs.declared.ranges.FaultyRange.{FaultyRange}
use Rattle.secrets_top.specs.declared.refusal.Unjudged.{Unjudged}
use Rattle.secrets_top.specs.declared.refusal.Unjudged.TheVariants.{Range, Refused}
use Rattle.secrets_top.specs.declared.verdict.Verdict.{Verdict}
use Rattle.secrets_top.specs.Top.{run_description, Inputs, RefusedInputs, Accepted, fault_in, verdict_in, WishWants, WishEnds, Ends}
use Rattle.secrets_top.specs.inner.Top.{Performs, PerformsAccepted}

-- words that want something aren't none
pub not_empty : (words : List (List ℕ)) (wanted : WantedText) → wanted_of words ≡ Some wanted → words ≡ [] → ⊥
not_empty words wanted k e = let none : wanted_of words ≡ None = ap wanted_of e ∙ no_words_no_wish in cc

-- a description isn't refused for the words, or for what is written
no_words : (name : Option (List ℕ)) (old new : Shelf) → NamedRefused name old new Words → ⊥
no_words None old new h = h
no_words (Some name) old new h = h

no_write : (name : Option (List ℕ)) (old new : Shelf) → NamedRefused name old new Write → ⊥
no_write None old new h = h
no_write (Some name) old new h = h

-- what is read is refused
pub inputs_refused : (wanted : WantedText) (old new : Shelf) (out : Told) (e : Refusal) → RefusedInputs wanted old new e → WishEnds wanted (world old out) (world new out) (Err (Refused e))
inputs_refused wanted old new out Write c = absurd (no_write (run_description wanted.run) old new c)
inputs_refused wanted old new out Memory c = (inl c, refl)
inputs_refused wanted old new out _ c = (c, refl)

-- where no range has a fault, the run is told as it is without ranges
pub accepted_end : (fault : Option FaultyRange) (verdict : Verdict) (out out' : Told) (r : Result Verdict Unjudged) → fault ≡ None → Performs verdict out out' r
    → PerformsAccepted fault verdict out out' r
accepted_end fault verdict out out' (Ok told) e p = (e, p)
accepted_end fault verdict out out' (Err (Range f)) e p = absurd p
accepted_end fault verdict out out' (Err (Refused _)) e p = (e, p)

module _ (wanted : WantedText) (old new : Shelf) (out out' : Told) (inputs : Inputs wanted old new) (verdict : Verdict) (told : verdict_in wanted inputs.desc inputs.image ≡ Some verdict) where
  -- no range has a fault, and this is told of the run
  abbrev accepted : fault_in wanted inputs.image ≡ None → Accepted wanted old new
  accepted none = record { inputs = inputs; ranges = none; verdict = verdict; told = told }

  -- a range is refused, or the run that is wanted is told
  pub told_end : (r : Result Verdict Unjudged) → PerformsAccepted (fault_in wanted inputs.image) verdict out out' r → WishEnds wanted (world old out) (world new out') r
  told_end (Ok v) p = (accepted p.0, p.1.0, p.1.1)
  told_end (Err (Range f)) p = (inputs, p.0, p.1)
  told_end (Err (Refused Write)) p = (accepted p.0, p.1)
  told_end (Err (Refused Memory)) p = (inr (accepted p.0), p.1)
  told_end (Err (Refused _)) p = absurd p.1

-- want of memory leaves the counts of all files
wants_alone : (wanted : WantedText) (old new : Shelf) → WishWants wanted old new → SameCounts old new
wants_alone wanted old new (inl refused) = refused.1
wants_alone wanted old new (inr a) = a.inputs.read.counts

-- the program ends as what its words want
pub wish_end : (words : List (List ℕ)) (old new : World) (wanted : WantedText) (r : Result Verdict Unjudged) → wanted_of words ≡ Some wanted → WishEnds wanted old new r → Ends words old new r
wish_end words old new wanted (Ok told) k w = (wanted, k, w)
wish_end words old new wanted (Err (Range f)) k w = (wanted, k, w)
wish_end words old new wanted (Err (Refused Words)) k w = absurd (no_words (run_description wanted.run) old.files new.files w.0)
wish_end words old new wanted (Err (Refused Memory)) k w = (not_empty words wanted k, wants_alone wanted old.files new.files w.0, w.1)
wish_end words old new wanted (Err (Refused _)) k w = (wanted, k, w)
