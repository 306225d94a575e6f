-- What the program does: the words, what the files and the sink tell before and after, and the status
-- (docs/theorems.md, "The program").
use Rattle.std.specs.Prelude.{◌≡◌, ◌≢◌, ◌⊎◌, ℕ, List, [], ◌∷◌, slice_get, Option, Some, None, Result, Ok, Err}
use Rattle.elf_loader.specs.Image.{ImageText}
use Rattle.machine_desc.specs.declared.Desc.{Desc}
use Rattle.run_inputs.specs.Note.{Notes}
use Rattle.tool_io.specs.Outside.{Shelf, Told, Wrote, WrotePrefix, SameCounts, NameFailed, Rose}
use Rattle.tool_words.specs.Words.{CommandText, command_of, isa_text, run_text, trace_text, bench_text, pair_text}
use Rattle.run_inputs.specs.declared.refusal.Which.{Which}
use Rattle.stt_top.specs.declared.outcome.Ended.{Ended}
use Rattle.run_inputs.specs.declared.refusal.Refusal.{Refusal}
use Rattle.run_inputs.specs.declared.refusal.Refusal.TheVariants.{Words, Write, Memory}
use Rattle.stt_top.specs.Outcome.{status_of}
use Rattle.run_inputs.specs.Refused.{place_of}
use Rattle.run_inputs.specs.Input.{MayGive, Gives, ImageFrom, from_file, from_seed, HasDesc, IsFaultyDescription, AreImages, IsFaultyImage, IsRead, RefusedAt, FailsToRead, Refuses}
use Rattle.run_inputs.specs.Told.{World}
use Rattle.stt_top.specs.Work.{TaskText, task_of, Work, ComesTo}

-- ---- Commands and what they read

-- where a command's images come from, in the order in which they are read: that of bench is generated, and pair has two
abbrev pub sources : CommandText → List ImageFrom
sources (isa_text image steps description) = from_file image ∷ []
sources (run_text description image cycles) = from_file image ∷ []
sources (trace_text description image cycles) = from_file image ∷ []
sources (bench_text description seed blocks cycles) = from_seed seed blocks ∷ []
sources (pair_text description image image2 cycles) = from_file image ∷ from_file image2 ∷ []

-- the name of its description: isa may do without
abbrev pub description_name : CommandText → Option (List ℕ)
description_name (isa_text image steps description) = description
description_name (run_text description image cycles) = Some description
description_name (trace_text description image cycles) = Some description
description_name (bench_text description seed blocks cycles) = Some description
description_name (pair_text description image image2 cycles) = Some description

-- what a command reads makes this task of it
pub record Runs (command : CommandText) (old new : Shelf) (task : TaskText) : Type 0 where
  pub desc : Option Desc
  pub images : List ImageText
  pub read : IsRead old new (description_name command) (sources command) desc images
  pub asks : task_of command desc images ≡ Some task

-- why a command is refused before anything is written
abbrev pub CommandRefused : CommandText → Shelf → Shelf → Refusal → Type 0
CommandRefused command old new refusal = Refuses (description_name command) (sources command) old new refusal

-- a command is done: it had this task, and the task comes to this work
pub record Done (command : CommandText) (old new : World) : Type 0 where
  pub task : TaskText
  pub runs : Runs command old.files new.files task
  pub work : Work
  pub comes_to : ComesTo task work

-- the words ask for a command, of which this holds
abbrev pub Asks : List (List ℕ) → (CommandText → Type 0) → Type 0
Asks words P = (command : CommandText) × (command_of words ≡ Some command) × P command

-- a command may need memory: for what it reads, or, once that is read, for its run
abbrev pub CommandWants : CommandText → Shelf → Shelf → Type 0
CommandWants command old new = CommandRefused command old new Memory ⊎ ((task : TaskText) × Runs command old new task)

-- how a command ends, once the words were read: its text is written whole, or in part where the sink failed; or there
-- was no memory where it needs some, or what it reads is refused, and nothing is written
abbrev pub CommandEnds : CommandText → World → World → Result Ended Refusal → Type 0
CommandEnds command old new (Ok ended) = (done : Done command old new) × Wrote done.work.text old.out new.out × (ended ≡ done.work.ended)
CommandEnds command old new (Err Write) = (done : Done command old new) × WrotePrefix done.work.text old.out new.out
CommandEnds command old new (Err Memory) = CommandWants command old.files new.files × (new.out ≡ old.out)
CommandEnds command old new (Err refusal) = CommandRefused command old.files new.files refusal × (new.out ≡ old.out)

-- how the program ends: the words are no command, or there are some and there was no memory, which may be for the words
-- themselves; or they ask for a command, and the program ends as that does
abbrev pub Ends : List (List ℕ) → World → World → Result Ended Refusal → Type 0
Ends words old new (Err Words) = (command_of words ≡ None) × SameCounts old.files new.files × (new.out ≡ old.out)
Ends words old new (Err Memory) = (words ≢ []) × SameCounts old.files new.files × (new.out ≡ old.out)
Ends words old new outcome = Asks words (λ command. CommandEnds command old new outcome)

-- an outcome of the program, its status, and what the note gets of it
abbrev pub EndsWith : List (List ℕ) → World → World → Told → Told → ℕ → Type 0
EndsWith words old new note note' status = (outcome : Result Ended Refusal) × (status ≡ status_of outcome) × Ends words old new outcome × Notes outcome note note'

-- ---- The statuses of the program

-- the image at this place of a command comes from there
abbrev pub IsAt : CommandText → ℕ → ImageFrom → Type 0
IsAt command place from = slice_get (sources command) place ≡ Some from

-- a name that the words give as the description's or as an image's
abbrev pub Names : CommandText → List ℕ → Type 0
Names command name = (description_name command ≡ Some name) ⊎ ((place : ℕ) × IsAt command place (from_file name))

-- the image at a place of a command is refused for this cause; the description and the images before it aren't
abbrev pub ImageRefusedAt : CommandText → Shelf → ℕ → (Option Desc → ImageFrom → Type 0) → Type 0
ImageRefusedAt command old place Cause = RefusedAt old (description_name command) (sources command) place Cause

-- the status of a text that is written whole
abbrev pub IsRun : ℕ → Type 0
IsRun status = (status ≡ 0) ⊎ (status ≡ 1) ⊎ (status ≡ 3)

-- what each status says, and when it comes
pub record Statuses (words : List (List ℕ)) (old new : World) (status : ℕ) : Type 0 where
  -- 0, 1 and 3: the command's whole text is written, with the status of what it comes to: the run ended by an exit, by
  -- a trap, or not within its budget; for pair 0 where the runs are the same and 1 where they aren't
  pub ran : IsRun status → Asks words (λ command. (done : Done command old new) × Wrote done.work.text old.out new.out × (status ≡ status_of (Ok done.work.ended)))
  -- 2 exactly where the words are no command, but for want of memory, which is never told of no words
  pub two : status ≡ 2 → command_of words ≡ None
  pub no_command : command_of words ≡ None → (status ≡ 2) ⊎ (status ≡ 8)
  pub no_words : words ≡ [] → status ≡ 2
  -- 4 only where the description is too long or at fault, and there always, but for a failed read and want of memory
  pub four : status ≡ 4 → Asks words (λ command. (name : List ℕ) × (description_name command ≡ Some name) × IsFaultyDescription (MayGive old.files) name)
  pub faulty_description : (command : CommandText) (name : List ℕ) → command_of words ≡ Some command → description_name command ≡ Some name
      → IsFaultyDescription (Gives old.files) name → (status ≡ 4) ⊎ ((status ≡ 6) ⊎ (status ≡ 8))
  -- 5 only where an image is too long or at fault and nothing before it is, and always where one is, but for a failed
  -- read and want of memory
  pub five : status ≡ 5 → Asks words (λ command. (which : Which) × ImageRefusedAt command old.files (place_of which) (IsFaultyImage (MayGive old.files)))
  pub faulty_image : (command : CommandText) (desc : Option Desc) (place : ℕ) (from : ImageFrom) → command_of words ≡ Some command
      → HasDesc (Gives old.files) (description_name command) desc → IsAt command place from → IsFaultyImage (Gives old.files) desc from
      → (status ≡ 5) ⊎ ((status ≡ 6) ⊎ (status ≡ 8))
  -- 6 only where the count of the description's name rose, or that of an image's file after all before it was read and
  -- had no fault; any other status leaves all counts of the files
  pub six : status ≡ 6 → Asks words (λ command. ((name : List ℕ) × (description_name command ≡ Some name) × NameFailed name old.files new.files)
      ⊎ ((which : Which) × ImageRefusedAt command old.files (place_of which) (λ desc from. FailsToRead old.files new.files from)))
  pub not_six : status ≢ 6 → SameCounts old.files new.files
  -- 7 only where the count of the sink rose, with a part of the text written; any other status leaves that count
  pub seven : status ≡ 7 → Asks words (λ command. (done : Done command old new) × WrotePrefix done.work.text old.out new.out)
  pub not_seven : status ≢ 7 → new.out.faults ≡ old.out.faults
  -- any status but 0, 1, 3 and 7 writes nothing
  pub nothing : ¬ IsRun status → status ≢ 7 → new.out ≡ old.out
  -- where the words, the description and the images have no fault and no count rose, the whole text is written with its
  -- status, or memory was wanting and nothing is
  pub complete : (command : CommandText) (desc : Option Desc) (images : List ImageText) (task : TaskText) → command_of words ≡ Some command
      → HasDesc (Gives old.files) (description_name command) desc → AreImages (Gives old.files) desc (sources command) images → task_of command desc images ≡ Some task
      → ((name : List ℕ) → Names command name → ¬ Rose (old.files.faults name) (new.files.faults name)) → ¬ Rose old.out.faults new.out.faults
      → ((status ≡ 8) × (new.out ≡ old.out))
      ⊎ ((work : Work) × ComesTo task work × (status ≡ status_of (Ok work.ended)) × Wrote work.text old.out new.out)
