-- What the program does: the words, what the files and the sink tell before and after, and the status
-- (docs/theorems.md, "The program stt_secrets").
use Rattle.std.specs.Prelude.{◌≡◌, ◌≢◌, ◌⊎◌, ℕ, List, [], ◌∷◌, Option, Some, None, Result, Ok, Err}
use Rattle.elf_loader.specs.Image.{ImageText}
use Rattle.machine_desc.specs.declared.Desc.{Desc}
use Rattle.tool_io.specs.Outside.{Told, Shelf, Wrote, WrotePrefix, SameCounts, NameFailed, Rose}
use Rattle.run_inputs.specs.Input.{MayGive, Gives, HasDesc, IsFaultyDescription, from_file, IsImage, IsFaultyImage, IsRead, Refuses}
use Rattle.run_inputs.specs.Told.{World}
use Rattle.run_inputs.specs.declared.refusal.Refusal.{Refusal}
use Rattle.run_inputs.specs.declared.refusal.Refusal.TheVariants.{Words, Write, Memory}
use Rattle.secret_marks.specs.declared.PublicStreams.{PublicStreams}
use Rattle.secret_marks.specs.declared.SecretRange.{SecretRange}
use Rattle.secret_words.specs.Words.{RunText, WantedText, wanted_of, core_run, path_run}
use Rattle.secrets_top.specs.declared.ranges.FaultyRange.{FaultyRange}
use Rattle.secrets_top.specs.declared.refusal.Unjudged.{Unjudged}
use Rattle.secrets_top.specs.declared.refusal.Unjudged.TheVariants.{Range, Refused}
use Rattle.secrets_top.specs.declared.verdict.Verdict.{Verdict}
use Rattle.secrets_top.specs.Ranges.{first_faulty}
use Rattle.secrets_top.specs.Refused.{Notes, status_of}
use Rattle.secrets_top.specs.Verdict.{verdict_of, path_verdict_of, verdict_text, verdict_status}

-- ---- What the words want

-- the words want something, and P holds of it
abbrev pub Wants : List (List ℕ) → (WantedText → Type 0) → Type 0
Wants words P = (wanted : WantedText) × (wanted_of words ≡ Some wanted) × P wanted

-- the name of the description of a run: the path may do without
abbrev pub run_description : RunText → Option (List ℕ)
run_description (core_run description cycles) = Some description
run_description (path_run description steps) = description

-- what is read for what is wanted: a description, if one is named, and then an image under it
pub record Inputs (wanted : WantedText) (old new : Shelf) : Type 0 where
  pub desc : Option Desc
  pub image : ImageText
  pub read : IsRead old new (run_description wanted.run) (from_file wanted.image ∷ []) desc (image ∷ [])

-- what is wrong with the ranges of an image
abbrev pub fault_in : WantedText → ImageText → Option FaultyRange
fault_in wanted image = first_faulty image 0 wanted.secret

-- what is told of a run, with what is read for it: of a core's with its description alone
abbrev pub verdict_on_run : RunText → Option Desc → ImageText → List SecretRange → PublicStreams → Option Verdict
verdict_on_run (core_run description cycles) (Some d) image secret public = Some (verdict_of d image secret public cycles)
verdict_on_run (core_run description cycles) None image secret public = None
verdict_on_run (path_run description steps) desc image secret public = Some (path_verdict_of image secret public steps)

-- what is told of the run that is wanted
abbrev pub verdict_in : WantedText → Option Desc → ImageText → Option Verdict
verdict_in wanted desc image = verdict_on_run wanted.run desc image wanted.secret wanted.public

-- what is read is accepted: a description, if one is named, an image under it, and no range of secret bytes with a
-- fault; and this is told of the run
pub record Accepted (wanted : WantedText) (old new : Shelf) : Type 0 where
  pub inputs : Inputs wanted old new
  pub ranges : fault_in wanted inputs.image ≡ None
  pub verdict : Verdict
  pub told : verdict_in wanted inputs.desc inputs.image ≡ Some verdict

-- why reading is refused: for the description, or for the image under it
abbrev pub RefusedInputs : WantedText → Shelf → Shelf → Refusal → Type 0
RefusedInputs wanted old new refusal = Refuses (run_description wanted.run) (from_file wanted.image ∷ []) old new refusal

-- a wish may need memory: for what is read, or, once that is accepted, for the run
abbrev pub WishWants : WantedText → Shelf → Shelf → Type 0
WishWants wanted old new = RefusedInputs wanted old new Memory ⊎ Accepted wanted old new

-- how a wish ends, once the words were read: what is told is written whole, or in part where the sink failed; or there
-- was no memory where it needs some, or what is read or a range of it is refused, and nothing is written
abbrev pub WishEnds : WantedText → World → World → Result Verdict Unjudged → Type 0
WishEnds wanted old new (Ok told) = (a : Accepted wanted old.files new.files) × Wrote (verdict_text a.verdict) old.out new.out × (told ≡ a.verdict)
WishEnds wanted old new (Err (Range faulty)) = (inputs : Inputs wanted old.files new.files) × (fault_in wanted inputs.image ≡ Some faulty) × (new.out ≡ old.out)
WishEnds wanted old new (Err (Refused Write)) = (a : Accepted wanted old.files new.files) × WrotePrefix (verdict_text a.verdict) old.out new.out
WishEnds wanted old new (Err (Refused Memory)) = WishWants wanted old.files new.files × (new.out ≡ old.out)
WishEnds wanted old new (Err (Refused refusal)) = RefusedInputs wanted old.files new.files refusal × (new.out ≡ old.out)

-- how the program ends: the words want nothing, or there are some and there was no memory, which may be for the words
-- themselves; or they want something, and the program ends as that does
abbrev pub Ends : List (List ℕ) → World → World → Result Verdict Unjudged → Type 0
Ends words old new (Err (Refused Words)) = (wanted_of words ≡ None) × SameCounts old.files new.files × (new.out ≡ old.out)
Ends words old new (Err (Refused Memory)) = (words ≢ []) × SameCounts old.files new.files × (new.out ≡ old.out)
Ends words old new outcome = Wants words (λ wanted. WishEnds wanted old new outcome)

-- an outcome of the program, its status, and what the note gets of it
abbrev pub EndsWith : List (List ℕ) → World → World → Told → Told → ℕ → Type 0
EndsWith words old new note note' status = (outcome : Result Verdict Unjudged) × (status ≡ status_of outcome) × Ends words old new outcome × Notes outcome note note'

-- ---- The statuses, and when each comes

-- the status of a text that is written whole
abbrev pub IsTold : ℕ → Type 0
IsTold status = (status ≡ 0) ⊎ (status ≡ 1) ⊎ (status ≡ 3)

-- what each status says, and when it comes
pub record Statuses (words : List (List ℕ)) (old new : World) (status : ℕ) : Type 0 where
  -- 0, 1 and 3: the whole text is written, with the status of what it tells: nothing shows and the run ended, something
  -- shows, or nothing does within the budget
  pub told : IsTold status → Wants words (λ wanted. (a : Accepted wanted old.files new.files) × Wrote (verdict_text a.verdict) old.out new.out
      × (status ≡ verdict_status a.verdict))
  -- 2 only where the words want nothing, or a range isn't within the image's memory or touches its code; and there
  -- always, but for a failed read and want of memory
  pub two : status ≡ 2 → (wanted_of words ≡ None)
      ⊎ Wants words (λ wanted. (inputs : Inputs wanted old.files new.files) × (faulty : FaultyRange) × (fault_in wanted inputs.image ≡ Some faulty))
  pub no_wish : wanted_of words ≡ None → (status ≡ 2) ⊎ (status ≡ 8)
  -- 2 wherever there are no words
  pub no_words : words ≡ [] → status ≡ 2
  pub faulty_range : (wanted : WantedText) (desc : Option Desc) (image : ImageText) (faulty : FaultyRange) → wanted_of words ≡ Some wanted
      → HasDesc (Gives old.files) (run_description wanted.run) desc → IsImage (Gives old.files) desc (from_file wanted.image) image → fault_in wanted image ≡ Some faulty
      → (status ≡ 2) ⊎ ((status ≡ 6) ⊎ (status ≡ 8))
  -- 4 only where a description is named that is too long or at fault, and there always, but for a failed read and want
  -- of memory
  pub four : status ≡ 4 → Wants words (λ wanted. (name : List ℕ) × (run_description wanted.run ≡ Some name) × IsFaultyDescription (MayGive old.files) name)
  pub faulty_description : (wanted : WantedText) (name : List ℕ) → wanted_of words ≡ Some wanted → run_description wanted.run ≡ Some name
      → IsFaultyDescription (Gives old.files) name → (status ≡ 4) ⊎ ((status ≡ 6) ⊎ (status ≡ 8))
  -- 5 only where the image is too long or at fault and the description isn't, and there always, but for a failed read
  -- and want of memory
  pub five : status ≡ 5 → Wants words (λ wanted. (desc : Option Desc) × HasDesc (MayGive old.files) (run_description wanted.run) desc
      × IsFaultyImage (MayGive old.files) desc (from_file wanted.image))
  pub faulty_image : (wanted : WantedText) (desc : Option Desc) → wanted_of words ≡ Some wanted → HasDesc (Gives old.files) (run_description wanted.run) desc
      → IsFaultyImage (Gives old.files) desc (from_file wanted.image) → (status ≡ 5) ⊎ ((status ≡ 6) ⊎ (status ≡ 8))
  -- 6 only where the count of the description's name rose, or that of the image's after the description, if one is
  -- named, was read and had no fault; any other status leaves all counts of the files
  pub six : status ≡ 6 → Wants words (λ wanted. ((name : List ℕ) × (run_description wanted.run ≡ Some name) × NameFailed name old.files new.files)
      ⊎ ((desc : Option Desc) × HasDesc (MayGive old.files) (run_description wanted.run) desc × NameFailed wanted.image old.files new.files))
  pub not_six : status ≢ 6 → SameCounts old.files new.files
  -- 7 only where the count of the sink rose, with a part of the text written; any other status leaves that count
  pub seven : status ≡ 7 → Wants words (λ wanted. (a : Accepted wanted old.files new.files) × WrotePrefix (verdict_text a.verdict) old.out new.out)
  pub not_seven : status ≢ 7 → new.out.faults ≡ old.out.faults
  -- any status but 0, 1, 3 and 7 writes nothing
  pub nothing : ¬ IsTold status → status ≢ 7 → new.out ≡ old.out
  -- where the words, the description, the image and the ranges have no fault and no count rose, the whole text is
  -- written with its status, or memory was wanting and nothing is
  pub complete : (wanted : WantedText) (desc : Option Desc) (image : ImageText) (verdict : Verdict) → wanted_of words ≡ Some wanted
      → HasDesc (Gives old.files) (run_description wanted.run) desc → IsImage (Gives old.files) desc (from_file wanted.image) image → fault_in wanted image ≡ None
      → verdict_in wanted desc image ≡ Some verdict
      → ((name : List ℕ) → run_description wanted.run ≡ Some name → ¬ Rose (old.files.faults name) (new.files.faults name))
      → ¬ Rose (old.files.faults wanted.image) (new.files.faults wanted.image) → ¬ Rose old.out.faults new.out.faults
      → ((status ≡ 8) × (new.out ≡ old.out)) ⊎ ((status ≡ verdict_status verdict) × Wrote (verdict_text verdict) old.out new.out)
