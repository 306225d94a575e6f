-- What may be relied on besides the text: one run that shows no secret proves it for every secret, or for every one
-- with which the program publishes the same; of a core for that core, and of the path, where it ends plainly, for every
-- core with the defence `delay` (docs/theorems.md, "Secrets that are loaded", "Secrets that are published", "Constant
-- time on the path").
use Rattle.std.specs.Prelude.{◌≡◌, ◌≤◌, ◌⊎◌, ℕ, true, not, List, filter, length, Option, Some}
use Rattle.rv_types.specs.Isa.{start}
use Rattle.rv_types.specs.Memory.{Ram, Agree, range}
use Rattle.elf_loader.specs.Image.{ImageText}
use Rattle.machine_desc.specs.declared.Desc.{Desc}
use Rattle.window_model.specs.Cycle.{trace}
use Rattle.window_model.specs.Delay.{delays}
use Rattle.window_model.specs.Taint.{protects}
use Rattle.pair_run.specs.Starts.{trace_of}
use Rattle.trace_text.specs.TraceText.{ending_of}
use Rattle.secret_marks.specs.declared.FirstShown.{FirstShown}
use Rattle.secret_marks.specs.declared.PublicStreams.{PublicStreams}
use Rattle.secret_marks.specs.declared.SecretRange.{SecretRange}
use Rattle.secret_marks.specs.Ranges.{secret_in}
use Rattle.secret_marks.specs.Laws.{PublishesSame}
use Rattle.secret_marks.specs.Published.{published_in}
use Rattle.secret_marks.specs.Streams.{public_in}
use Rattle.constant_time.specs.Certified.{ends_plainly}
use Rattle.constant_time.specs.declared.FirstStep.{FirstStep}
use Rattle.tool_io.specs.Outside.{Told, Wrote}
use Rattle.run_inputs.specs.Told.{World}
use Rattle.secret_words.specs.Words.{RunText, core_run, path_run}
use Rattle.secrets_top.specs.Top.{Wants, Accepted}
use Rattle.secrets_top.specs.Verdict.{is_any_public, told_of, hidden_text, shown_line, step_line, first_of_run, first_on_path, path_of, ending_in}

-- ---- Of other secrets

-- the addresses of a memory whose bytes aren't secret
abbrev pub addresses_not_secret : List SecretRange → Ram → List ℕ
addresses_not_secret secret m = filter (λ a. not (secret_in secret a)) (range m.base (length m.bytes))

-- a memory differs from the image's in the secret bytes alone: it has its shape, holds bytes, and has the image's byte
-- at each other address. Nothing is asked of the image's own memory
abbrev pub HasOtherSecret : ImageText → List SecretRange → Ram → Type 0
HasOtherSecret image secret m = Agree image.ram m (addresses_not_secret secret image.ram)

-- ---- Of the run of a core

-- how many bytes the run's steps of the instruction set publish, told where a stream is public
abbrev pub published_of : PublicStreams → Desc → ImageText → ℕ → Option ℕ
published_of public d image n =
    told_of public (length (published_in (public_in public) image.code (trace_of d image n).retired (start image.entry image.ram)))

-- as many steps of the instruction set as the run retires publish with this memory what they do with the image's. Where
-- no stream is public nothing is asked
abbrev pub PublishesAlike : PublicStreams → Desc → ImageText → ℕ → Ram → Type 0
PublishesAlike public d image n m = is_any_public public ≡ true → PublishesSame (public_in public) d image.code image.entry image.ram m n

-- every memory that differs from the image's in the secret bytes alone, and with which as many steps publish the same
-- as in the run of n cycles, gives the trace of the image, of at most k cycles
abbrev pub OneTrace : PublicStreams → Desc → ImageText → List SecretRange → ℕ → ℕ → Type 0
OneTrace public d image secret n k = (m : Ram) → HasOtherSecret image secret m → PublishesAlike public d image n m
    → trace d image.code image.entry m k ≡ trace d image.code image.entry image.ram k

-- with status 0 or 3 what is written is that nothing shows, how many bytes are published, where a stream is public, and
-- the last line of the image's trace, which every secret gives that publishes the same: of any number of cycles up to
-- those of the run, and with status 0 of any greater number, too
pub record Hides (public : PublicStreams) (d : Desc) (image : ImageText) (secret : List SecretRange) (n : ℕ) (status : ℕ) (out out' : Told) : Type 0 where
  pub text : Wrote (hidden_text (ending_of (trace_of d image n)) (published_of public d image n)) out out'
  pub one_trace : (k : ℕ) → k ≤ n → OneTrace public d image secret n k
  pub longer : status ≡ 0 → (k : ℕ) → n ≤ k → OneTrace public d image secret n k

-- with status 1 what is written is the line of what shows first
pub record Tells (public : PublicStreams) (d : Desc) (image : ImageText) (secret : List SecretRange) (n : ℕ) (out out' : Told) : Type 0 where
  pub first : FirstShown
  pub shows : first_of_run d image secret public n ≡ Some first
  pub text : Wrote (shown_line first) out out'

-- ---- Of the path

-- how many bytes n steps of the instruction set publish, told where a stream is public
abbrev pub path_published_of : PublicStreams → ImageText → ℕ → Option ℕ
path_published_of public image n = told_of public (length (published_in (public_in public) image.code n (start image.entry image.ram)))

-- n steps of the instruction set publish with this memory what they do with the image's. Where no stream is public
-- nothing is asked
abbrev pub StepsPublishAlike : PublicStreams → ImageText → ℕ → Ram → Type 0
StepsPublishAlike public image n m = is_any_public public ≡ true
    → published_in (public_in public) image.code n (start image.entry m) ≡ published_in (public_in public) image.code n (start image.entry image.ram)

-- every memory that differs from the image's in the secret bytes alone, and with which n steps of the instruction set
-- publish the same, gives the trace of the image, of any number of cycles, on every core with a model that protects and
-- the defence `delay`
abbrev pub OneTraceOnEveryCore : PublicStreams → ImageText → List SecretRange → ℕ → Type 0
OneTraceOnEveryCore public image secret n = (m : Ram) → HasOtherSecret image secret m → StepsPublishAlike public image n m
    → (d : Desc) (k : ℕ) → protects d.stt_model ≡ true → delays d.stt_defence ≡ true → trace d image.code image.entry m k ≡ trace d image.code image.entry image.ram k

-- with status 0 or 3 what is written is that nothing shows, how many bytes are published, where a stream is public, and
-- how the steps of the instruction set ended. Where they ended by an exit, or by a trap that isn't of a load or store,
-- every secret that publishes the same gives one trace on every core with the defence `delay`; of another end, or of
-- none within the budget, nothing more is promised
pub record Certifies (public : PublicStreams) (image : ImageText) (secret : List SecretRange) (n : ℕ) (out out' : Told) : Type 0 where
  pub text : Wrote (hidden_text (ending_in (path_of image n)) (path_published_of public image n)) out out'
  pub every_core : ends_plainly (path_of image n).ended ≡ true → OneTraceOnEveryCore public image secret n

-- with status 1 what is written is the line of the step that shows first
pub record TellsStep (public : PublicStreams) (image : ImageText) (secret : List SecretRange) (n : ℕ) (out out' : Told) : Type 0 where
  pub first : FirstStep
  pub shows : first_on_path image secret public n ≡ Some first
  pub text : Wrote (step_line first) out out'

-- ---- The promises of the program

-- what is promised where nothing shows in the run that is asked of
abbrev pub HidesIn : RunText → Option Desc → ImageText → List SecretRange → PublicStreams → ℕ → Told → Told → Type 0
HidesIn (core_run description cycles) desc image secret public status out out' = (d : Desc) × (desc ≡ Some d) × Hides public d image secret cycles status out out'
HidesIn (path_run description steps) desc image secret public status out out' = Certifies public image secret steps out out'

-- what is promised where something shows in it
abbrev pub TellsIn : RunText → Option Desc → ImageText → List SecretRange → PublicStreams → Told → Told → Type 0
TellsIn (core_run description cycles) desc image secret public out out' = (d : Desc) × (desc ≡ Some d) × Tells public d image secret cycles out out'
TellsIn (path_run description steps) desc image secret public out out' = TellsStep public image secret steps out out'

pub record Promises (words : List (List ℕ)) (old new : World) (status : ℕ) : Type 0 where
  pub hidden : (status ≡ 0) ⊎ (status ≡ 3) → Wants words (λ wanted. (a : Accepted wanted old.files new.files)
      × HidesIn wanted.run a.inputs.desc a.inputs.image wanted.secret wanted.public status old.out new.out)
  pub shown : status ≡ 1 → Wants words (λ wanted. (a : Accepted wanted old.files new.files)
      × TellsIn wanted.run a.inputs.desc a.inputs.image wanted.secret wanted.public old.out new.out)
