-- What the program does: the words, what the files and the sink tell before and after, and the status
-- (docs/theorems.md, "The program stt_stats").
use Rattle.std.specs.Prelude.{◌≡◌, ◌≢◌, ◌⊎◌, ℕ, List, [], ◌∷◌, Option, Some, None, Result, Ok, Err}
use Rattle.rv_types.specs.declared.End.{End}
use Rattle.elf_loader.specs.Image.{ImageText}
use Rattle.machine_desc.specs.declared.Desc.{Desc}
use Rattle.window_model.specs.State.{opening}
use Rattle.window_model.specs.Cycle.{Trace}
use Rattle.slot_reasons.specs.Reasons.{first_known}
use Rattle.slot_reasons.specs.Slots.{Seen, seen}
use Rattle.pair_run.specs.Starts.{trace_of}
use Rattle.tool_io.specs.Outside.{Told, Shelf, Wrote, WrotePrefix, SameCounts, NameFailed, Rose}
use Rattle.run_inputs.specs.Input.{MayGive, Gives, HasDesc, IsFaultyDescription, from_file, IsImage, IsFaultyImage, IsRead, Refuses}
use Rattle.run_inputs.specs.Note.{Notes}
use Rattle.run_inputs.specs.Told.{World}
use Rattle.run_inputs.specs.declared.refusal.Refusal.{Refusal}
use Rattle.run_inputs.specs.declared.refusal.Refusal.TheVariants.{Words, Write, Memory}
use Rattle.stats_words.specs.Words.{AskedText, asked_of}
use Rattle.stats_top.specs.Outcome.{status_of, end_status}
use Rattle.stats_top.specs.Stats.{stats_text}

-- ---- What the words ask for

-- the words ask for something, and P holds of it
abbrev pub Asks : List (List ℕ) → (AskedText → Type 0) → Type 0
Asks words P = (asked : AskedText) × (asked_of words ≡ Some asked) × P asked

-- what is read for what is asked for: a description, and then an image under it
pub record Inputs (asked : AskedText) (old new : Shelf) : Type 0 where
  pub desc : Desc
  pub image : ImageText
  pub read : IsRead old new (Some asked.description) (from_file asked.image ∷ []) (Some desc) (image ∷ [])

-- the run of the written machine that is asked for, with these inputs
abbrev pub run_in : AskedText → Desc → ImageText → Trace
run_in asked d image = trace_of d image asked.cycles

-- what is seen of its cycles
abbrev pub seen_of : Desc → ImageText → ℕ → List Seen
seen_of d image n = seen d image.code n (opening d image.entry image.ram) first_known

-- what is told of that run
abbrev pub told_in : AskedText → Desc → ImageText → List ℕ
told_in asked d image = stats_text asked.every (seen_of d image asked.cycles) (run_in asked d image)

-- why reading is refused: for the description, or for the image under it
abbrev pub RefusedInputs : AskedText → Shelf → Shelf → Refusal → Type 0
RefusedInputs asked old new refusal = Refuses (Some asked.description) (from_file asked.image ∷ []) old new refusal

-- what is asked for may need memory: for what is read, or, once that is read, for the run
abbrev pub AskedWants : AskedText → Shelf → Shelf → Type 0
AskedWants asked old new = RefusedInputs asked old new Memory ⊎ Inputs asked old new

-- how what is asked for ends, once the words were read: what is told is written whole, or in part where the sink
-- failed; or there was no memory where it needs some, or what is read is refused, and nothing is written
abbrev pub AskedEnds : AskedText → World → World → Result (Option End) Refusal → Type 0
AskedEnds asked old new (Ok end) =
    (i : Inputs asked old.files new.files) × Wrote (told_in asked i.desc i.image) old.out new.out × (end ≡ (run_in asked i.desc i.image).end)
AskedEnds asked old new (Err Write) = (i : Inputs asked old.files new.files) × WrotePrefix (told_in asked i.desc i.image) old.out new.out
AskedEnds asked old new (Err Memory) = AskedWants asked old.files new.files × (new.out ≡ old.out)
AskedEnds asked old new (Err refusal) = RefusedInputs asked old.files new.files refusal × (new.out ≡ old.out)

-- how the program ends: the words ask for nothing, or there are some and there was no memory, which may be for the
-- words themselves; or they ask for something, and the program ends as that does
abbrev pub Ends : List (List ℕ) → World → World → Result (Option End) Refusal → Type 0
Ends words old new (Err Words) = (asked_of words ≡ None) × SameCounts old.files new.files × (new.out ≡ old.out)
Ends words old new (Err Memory) = (words ≢ []) × SameCounts old.files new.files × (new.out ≡ old.out)
Ends words old new outcome = Asks words (λ asked. AskedEnds asked old new outcome)

-- an outcome of the program, its status, and what the note gets of it
abbrev pub EndsWith : List (List ℕ) → World → World → Told → Told → ℕ → Type 0
EndsWith words old new note note' status = (outcome : Result (Option End) Refusal) × (status ≡ status_of outcome) × Ends words old new outcome × Notes outcome note note'

-- ---- The statuses, and when each comes

-- the status of a text that is written whole
abbrev pub IsTold : ℕ → Type 0
IsTold status = (status ≡ 0) ⊎ (status ≡ 1) ⊎ (status ≡ 3)

-- what each status says, and when it comes
pub record Statuses (words : List (List ℕ)) (old new : World) (status : ℕ) : Type 0 where
  -- 0, 1 and 3: all that is told of the written machine's run is written, with the status of how that run ended: by an
  -- exit, by a trap, or not within its budget
  pub told : IsTold status → Asks words (λ asked. (i : Inputs asked old.files new.files) × Wrote (told_in asked i.desc i.image) old.out new.out
      × (status ≡ end_status (run_in asked i.desc i.image).end))
  -- 2 only where the words ask for nothing, and there always, but for want of memory
  pub two : status ≡ 2 → asked_of words ≡ None
  pub nothing_asked : asked_of words ≡ None → (status ≡ 2) ⊎ (status ≡ 8)
  -- 2 wherever there are no words
  pub no_words : words ≡ [] → status ≡ 2
  -- 4 only where the description is too long or at fault, and there always, but for a failed read and want of memory
  pub four : status ≡ 4 → Asks words (λ asked. IsFaultyDescription (MayGive old.files) asked.description)
  pub faulty_description : (asked : AskedText) → asked_of words ≡ Some asked → IsFaultyDescription (Gives old.files) asked.description
      → (status ≡ 4) ⊎ ((status ≡ 6) ⊎ (status ≡ 8))
  -- 5 only where the image is too long or at fault and the description isn't, and there always, but for a failed read
  -- and want of memory
  pub five : status ≡ 5 → Asks words (λ asked. (desc : Option Desc) × HasDesc (MayGive old.files) (Some asked.description) desc
      × IsFaultyImage (MayGive old.files) desc (from_file asked.image))
  pub faulty_image : (asked : AskedText) (desc : Option Desc) → asked_of words ≡ Some asked → HasDesc (Gives old.files) (Some asked.description) desc
      → IsFaultyImage (Gives old.files) desc (from_file asked.image) → (status ≡ 5) ⊎ ((status ≡ 6) ⊎ (status ≡ 8))
  -- 6 only where the count of the description's name rose, or that of the image's after the description was read and
  -- had no fault; any other status leaves all counts of the files
  pub six : status ≡ 6 → Asks words (λ asked. NameFailed asked.description old.files new.files
      ⊎ ((desc : Option Desc) × HasDesc (MayGive old.files) (Some asked.description) desc × NameFailed asked.image old.files new.files))
  pub not_six : status ≢ 6 → SameCounts old.files new.files
  -- 7 only where the count of the sink rose, with a part of the text written; any other status leaves that count
  pub seven : status ≡ 7 → Asks words (λ asked. (i : Inputs asked old.files new.files) × WrotePrefix (told_in asked i.desc i.image) old.out new.out)
  pub not_seven : status ≢ 7 → new.out.faults ≡ old.out.faults
  -- any status but 0, 1, 3 and 7 writes nothing
  pub nothing : ¬ IsTold status → status ≢ 7 → new.out ≡ old.out
  -- where the words, the description and the image have no fault and no count rose, the whole text is written with its
  -- status, or memory was wanting and nothing is
  pub complete : (asked : AskedText) (d : Desc) (image : ImageText) → asked_of words ≡ Some asked
      → HasDesc (Gives old.files) (Some asked.description) (Some d) → IsImage (Gives old.files) (Some d) (from_file asked.image) image
      → ¬ Rose (old.files.faults asked.description) (new.files.faults asked.description)
      → ¬ Rose (old.files.faults asked.image) (new.files.faults asked.image) → ¬ Rose old.out.faults new.out.faults
      → ((status ≡ 8) × (new.out ≡ old.out)) ⊎ ((status ≡ end_status (run_in asked d image).end) × Wrote (told_in asked d image) old.out new.out)
