-- What is told of a run (docs/formats.md, "The program stt_secrets").
use Rattle.std.specs.Prelude.{ℕ, Bool, ◌||◌, List, ◌++◌, length, Option, Some, None, if◌then◌else◌, codes, decimal}
use Rattle.rv_types.specs.Isa.{Hart, Run, isa, isa_step, start}
use Rattle.rv_types.specs.Memory.{Code}
use Rattle.rv_types.specs.declared.End.{End}
use Rattle.rv_types.specs.declared.Ending.{Ending}
use Rattle.rv_types.specs.declared.Kind.{Kind}
use Rattle.rv_types.specs.declared.Kind.TheVariants.{Load, Store, Div, Call}
use Rattle.elf_loader.specs.Image.{ImageText}
use Rattle.line_text.specs.Digits.{hex8}
use Rattle.line_text.specs.EndLine.{end_line}
use Rattle.machine_desc.specs.declared.Desc.{Desc}
use Rattle.window_model.specs.State.{Machine, opening}
use Rattle.window_model.specs.Cycle.{after_cycles}
use Rattle.pair_run.specs.Running.{ending_at}
use Rattle.secret_marks.specs.declared.FirstShown.{FirstShown}
use Rattle.secret_marks.specs.declared.PublicStreams.{PublicStreams}
use Rattle.secret_marks.specs.declared.SecretRange.{SecretRange}
use Rattle.secret_marks.specs.Marks.{Marks, opening_marks}
use Rattle.secret_marks.specs.Published.{published_by, published_in}
use Rattle.secret_marks.specs.Ranges.{secret_in}
use Rattle.secret_marks.specs.Shown.{first_shown}
use Rattle.secret_marks.specs.Streams.{public_in}
use Rattle.constant_time.specs.declared.FirstStep.{FirstStep}
use Rattle.constant_time.specs.PathMarks.{PathMarks, first_marks, first_shown as first_step}
use Rattle.secrets_top.specs.declared.verdict.Verdict.{Verdict}
use Rattle.secrets_top.specs.declared.verdict.Verdict.TheVariants.{Hidden, Shown, PathShown}

-- ---- What the run of a core comes to

-- some stream is public
abbrev pub is_any_public : PublicStreams → Bool
is_any_public public = public.first || public.second

-- a number of published bytes is told where a stream is public
abbrev pub told_of : PublicStreams → ℕ → Option ℕ
told_of public count = if is_any_public public then Some count else None

-- the verdict on a run, by how it ended, how many bytes it published, if that is told, and what shows first
abbrev pub verdict : Ending → Option ℕ → Option FirstShown → Verdict
verdict ending published None = Hidden ending published
verdict ending published (Some first) = Shown first

-- what is told of a machine, with marks beside it and these streams public, in at most n cycles
abbrev pub verdict_from : PublicStreams → Desc → Code → ℕ → Machine → Marks → Verdict
verdict_from public d code n x m =
    verdict (ending_at (after_cycles d code n x)) (told_of public (length (published_by (public_in public) d code n x))) (first_shown (public_in public) d code n x m)

-- what shows first in at most n cycles of an image's run, of whose memory the bytes of these ranges are secret, where
-- these streams are public
abbrev pub first_of_run : Desc → ImageText → List SecretRange → PublicStreams → ℕ → Option FirstShown
first_of_run d image secret public n =
    first_shown (public_in public) d image.code n (opening d image.entry image.ram) (opening_marks (secret_in secret) image.ram)

-- what is told of at most n cycles of an image's run, of whose memory the bytes of these ranges are secret, where these
-- streams are public
abbrev pub verdict_of : Desc → ImageText → List SecretRange → PublicStreams → ℕ → Verdict
verdict_of d image secret public n = verdict_from public d image.code n (opening d image.entry image.ram) (opening_marks (secret_in secret) image.ram)

-- ---- What the path comes to: the run of the instruction set

-- how a run of the instruction set ended, which counts no cycles
abbrev pub ending_in : Run → Ending
ending_in run = record { end = run.ended; retired = run.steps; cycles = None }

-- the verdict on the path, by how it ended, how many bytes it published, if that is told, and what shows first
abbrev pub path_verdict : Ending → Option ℕ → Option FirstStep → Verdict
path_verdict ending published None = Hidden ending published
path_verdict ending published (Some first) = PathShown first

-- what is told of a state of the instruction set, with marks beside it and these streams public, in at most n steps, of
-- which the first has number 1
abbrev pub path_verdict_from : PublicStreams → Code → ℕ → Hart → PathMarks → Verdict
path_verdict_from public code n s m =
    path_verdict (ending_in (isa code s n)) (told_of public (length (published_in (public_in public) code n s))) (first_step (public_in public) isa_step code n 1 s m)

-- at most n steps of the instruction set from where an image begins
abbrev pub path_of : ImageText → ℕ → Run
path_of image n = isa image.code (start image.entry image.ram) n

-- what shows first in at most n steps of an image's path, of whose memory the bytes of these ranges are secret, where
-- these streams are public
abbrev pub first_on_path : ImageText → List SecretRange → PublicStreams → ℕ → Option FirstStep
first_on_path image secret public n =
    first_step (public_in public) isa_step image.code n 1 (start image.entry image.ram) (first_marks (secret_in secret) image.ram)

-- what is told of at most n steps of an image's path, of whose memory the bytes of these ranges are secret, where these
-- streams are public
abbrev pub path_verdict_of : ImageText → List SecretRange → PublicStreams → ℕ → Verdict
path_verdict_of image secret public n = path_verdict_from public image.code n (start image.entry image.ram) (first_marks (secret_in secret) image.ram)

-- ---- The text of a verdict

-- the word of what shows of an instruction of this kind: where it accesses memory, how long it divides, what it is
-- called for, or where a branch or JALR goes
abbrev pub what_shows : Kind → List ℕ
what_shows Load = codes "access"
what_shows Store = codes "access"
what_shows Div = codes "division"
what_shows Call = codes "call"
what_shows _ = codes "branch"

-- the line of what shows first: the cycle, what, the serial, and the address of the instruction
unfoldable pub shown_line : FirstShown → List ℕ
shown_line first =
    codes "shown " ++ decimal first.cycle ++ codes " " ++ what_shows first.shown.kind ++ codes " " ++ decimal first.shown.serial ++ codes " " ++ hex8 first.shown.pc
    ++ codes "\n"

-- the line of what shows first on the path: the number of the step, what, and the address of the instruction
unfoldable pub step_line : FirstStep → List ℕ
step_line first = codes "shown " ++ decimal first.step ++ codes " " ++ what_shows first.kind ++ codes " " ++ hex8 first.pc ++ codes "\n"

-- the line of what is published: how many bytes that is
unfoldable pub published_line : ℕ → List ℕ
published_line bytes = codes "published " ++ decimal bytes ++ codes "\n"

-- the last lines of a run in which nothing shows: what is published, if that is told, and how the run ended, as the
-- last line of its trace or report says it
abbrev pub last_lines : Ending → Option ℕ → List ℕ
last_lines ending None = end_line ending
last_lines ending (Some bytes) = published_line bytes ++ end_line ending

-- the lines of a run in which nothing shows
abbrev pub hidden_text : Ending → Option ℕ → List ℕ
hidden_text ending published = codes "hidden\n" ++ last_lines ending published

abbrev pub verdict_text : Verdict → List ℕ
verdict_text (Hidden ending published) = hidden_text ending published
verdict_text (Shown first) = shown_line first
verdict_text (PathShown first) = step_line first

-- ---- The status of a verdict

-- the status where nothing shows: 0 where the run ended, else 3
abbrev pub hidden_status : Option End → ℕ
hidden_status (Some end) = 0
hidden_status None = 3

abbrev pub verdict_status : Verdict → ℕ
verdict_status (Hidden ending published) = hidden_status ending.end
verdict_status (Shown first) = 1
verdict_status (PathShown first) = 1
