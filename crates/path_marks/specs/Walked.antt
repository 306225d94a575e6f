-- What is told of a run with marks beside it.
use Rattle.std.specs.Prelude.{◌≡◌, ℕ, length, Option, Some, None}
use Rattle.rv_types.specs.Isa.{Run, isa, isa_step}
use Rattle.elf_loader.specs.inner.Code.{word_at}
use Rattle.secret_marks.specs.Published.{published_in}
use Rattle.secret_marks.specs.Streams.{public_in}
use Rattle.constant_time.specs.declared.FirstStep.{FirstStep}
use Rattle.constant_time.specs.PathMarks.{first_shown}
use Rattle.path_marks.specs.State.{MarkedState}
use Rattle.path_marks.specs.declared.walking.Walked.{Walked}
use Rattle.path_marks.specs.declared.walking.Walked.TheVariants.{Shown, Hidden}

-- what shows first in n steps of the instruction set from a state, of which the first has number k
abbrev pub shown_in : ℕ → ℕ → MarkedState → Option FirstStep
shown_in n k s = first_shown (public_in s.public) isa_step (word_at s.code) n k s.hart s.marks

-- at most n steps of the instruction set from a state
abbrev pub run_of : ℕ → MarkedState → Run
run_of n s = isa (word_at s.code) s.hart n

-- how many bytes n steps of the instruction set from a state publish
abbrev pub published_of : ℕ → MarkedState → ℕ
published_of n s = length (published_in (public_in s.public) (word_at s.code) n s.hart)

-- what is told is what shows first in n steps; where nothing does, how many steps were taken, how the run ended, and
-- how many bytes were published
abbrev pub Tells : ℕ → MarkedState → Walked → Type 0
Tells n s (Shown first) = shown_in n 1 s ≡ Some first
Tells n s (Hidden ran published) =
    (shown_in n 1 s ≡ None) × (ran.taken ≡ (run_of n s).steps) × (ran.ended ≡ (run_of n s).ended)
    × (published ≡ published_of n s)
