-- Beside Top.antt: what only clauses of the code and lemmas cite.
use Rattle.std.specs.Prelude.{◌≡◌, ℕ, List, [], ◌∷◌, Option, Some, None, Result, Ok, Err, MatchResult}
use Rattle.elf_loader.specs.Image.{ImageText}
use Rattle.machine_desc.specs.declared.Desc.{Desc}
use Rattle.tool_io.specs.Outside.{Shelf, Told, Wrote, WrotePrefix}
use Rattle.run_inputs.specs.Input.{from_file, IsRead, Refuses}
use Rattle.run_inputs.specs.Loaded.{Fits, image_text}
use Rattle.run_inputs.specs.declared.refusal.Refusal.{Refusal}
use Rattle.run_inputs.specs.declared.refusal.Refusal.TheVariants.{Write, Memory}
use Rattle.secret_marks.specs.declared.PublicStreams.{PublicStreams}
use Rattle.secret_marks.specs.declared.SecretRange.{SecretRange}
use Rattle.secret_words.specs.Words.{RunText}
use Rattle.secrets_top.specs.declared.ranges.FaultyRange.{FaultyRange}
use Rattle.secrets_top.specs.declared.refusal.Unjudged.{Unjudged}
use Rattle.secrets_top.specs.declared.refusal.Unjudged.TheVariants.{Range, Refused}
use Rattle.secrets_top.specs.declared.task.Task.{Task}
use Rattle.secrets_top.specs.declared.task.Task.TheVariants.{Core, Path}
use Rattle.secrets_top.specs.declared.verdict.Verdict.{Verdict}
use Rattle.secrets_top.specs.Top.{run_description, verdict_on_run}
use Rattle.secrets_top.specs.Verdict.{verdict_of, path_verdict_of, verdict_text}

-- the image of a task
abbrev pub image_in : Task → ImageText
image_in (Core read cycles) = image_text read.image
image_in (Path image steps) = image_text image

-- a core's image lies in the memory of its description
abbrev pub InMemory : Task → Type 0
InMemory (Core read cycles) = Fits read.desc read.image.ram
InMemory (Path image steps) = Unit {0}

-- what is told of a task, of whose image's memory the bytes of these ranges are secret, where these streams are public
abbrev pub verdict_on : Task → List SecretRange → PublicStreams → Verdict
verdict_on (Core read cycles) secret public = verdict_of read.desc (image_text read.image) secret public cycles
verdict_on (Path image steps) secret public = path_verdict_of (image_text image) secret public steps

-- a task is made of the run that is asked of, by what is read for it: a description, if one is named, and the image
pub record Makes (name : List ℕ) (run : RunText) (old new : Shelf) (task : Task) : Type 0 where
  pub desc : Option Desc
  pub read : IsRead old new (run_description run) (from_file name ∷ []) desc (image_in task ∷ [])
  pub told : (secret : List SecretRange) (public : PublicStreams) → verdict_on_run run desc (image_in task) secret public ≡ Some (verdict_on task secret public)

-- what a run needs is read, and makes its task, or is refused
abbrev pub ReadsTask : List ℕ → RunText → Shelf → Shelf → Result Task Refusal → Type 0
ReadsTask name run old new result = MatchResult result (Makes name run old new) (Refuses (run_description run) (from_file name ∷ []) old new)

-- how a run is told: with its whole text, with a part of it where the sink failed, or with nothing where memory was
-- wanting
abbrev pub Performs : Verdict → Told → Told → Result Verdict Unjudged → Type 0
Performs verdict out out' (Ok told) = Wrote (verdict_text verdict) out out' × (told ≡ verdict)
Performs verdict out out' (Err (Refused Write)) = WrotePrefix (verdict_text verdict) out out'
Performs verdict out out' (Err (Refused Memory)) = out' ≡ out
Performs verdict out out' (Err cause) = ⊥

-- how the run of what was read is told, by the first range with a fault, if one has any: with that range refused and
-- nothing written, or, where none has, as the run is told; so want of memory is never told for a range
abbrev pub PerformsAccepted : Option FaultyRange → Verdict → Told → Told → Result Verdict Unjudged → Type 0
PerformsAccepted fault verdict out out' (Err (Range faulty)) = (fault ≡ Some faulty) × (out' ≡ out)
PerformsAccepted fault verdict out out' result = (fault ≡ None) × Performs verdict out out' result
