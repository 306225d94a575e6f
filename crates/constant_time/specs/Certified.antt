-- One run of the instruction set that shows nothing proves it for every secret, on every core with the defence `delay`
-- (docs/theorems.md, "Constant time on the path").
use Rattle.std.specs.Prelude.{◌≡◌, ℕ, ◌+◌, Bool, true, false, not, nat_le, Option, Some, None, is_some}
use Rattle.rv_types.specs.Isa.{Hart, Step, isa, isa_step, start}
use Rattle.rv_types.specs.declared.End.{End}
use Rattle.rv_types.specs.declared.End.TheVariants.{Exit, Trap}
use Rattle.rv_types.specs.Memory.{Code, Ram}
use Rattle.rv_types.specs.Path.{pass_step}
use Rattle.machine_desc.specs.declared.Desc.{Desc}
use Rattle.machine_desc.specs.declared.SttModel.{SttModel}
use Rattle.window_model.specs.Committed.{Aligned}
use Rattle.window_model.specs.Cycle.{trace}
use Rattle.window_model.specs.Delay.{delays}
use Rattle.window_model.specs.Path.{path}
use Rattle.window_model.specs.State.{opening}
use Rattle.window_model.specs.Taint.{protects}
use Rattle.secret_marks.specs.Alike.{AgreeBut}
use Rattle.secret_marks.specs.Marks.{Secret}
use Rattle.secret_marks.specs.Published.{Public, no_stream, published_in}
use Rattle.constant_time.specs.Leaks.{LeakAlike}
use Rattle.constant_time.specs.PathMarks.{PathMarks, first_marks, first_shown, path_ends, path_published, path_shows}
use Rattle.constant_time.specs.Waits.{RunWaits}

-- ---- one memory's path, and every other's

-- the first n steps of a path publish the same from two memories
abbrev pub PublishSame : Public → (Code → Hart → Step) → Code → ℕ → ℕ → Ram → Ram → Type 0
PublishSame public step code n entry m m2 = path_published public step code n (start entry m2) ≡ path_published public step code n (start entry m)

-- where nothing marked shows in n steps of one memory's path, every memory that differs in secret bytes alone, and from
-- which these steps publish the same, leaks alike in them
abbrev pub OnePathTellsAll : Type 0
OnePathTellsAll = (public : Public) (model : SttModel) (code : Code) (entry : ℕ) (secret : Secret) (m m2 : Ram) (n : ℕ) → AgreeBut secret m m2 →
    path_shows public (path model) code n (start entry m) (first_marks secret m) ≡ false → PublishSame public (path model) code n entry m m2 →
    LeakAlike (path model) code n (start entry m) (start entry m2)

-- a path that ends within k steps, in which two states leak alike, does so in any number of steps
abbrev pub EndedPathLeaksAlike : Type 0
EndedPathLeaksAlike = (step : Code → Hart → Step) (code : Code) (k n : ℕ) (s s2 : Hart) → path_ends step code k s ≡ true →
    LeakAlike step code k s s2 → LeakAlike step code n s s2

-- what steps of the instruction set publish along their own path is what they publish
abbrev pub PathPublishesItsSteps : Type 0
PathPublishesItsSteps = (public : Public) (code : Code) (n : ℕ) (s : Hart) → path_published public isa_step code n s ≡ published_in public code n s

-- where something shows there is a first step in which it does
abbrev pub FirstStepShows : Type 0
FirstStepShows = (public : Public) (step : Code → Hart → Step) (code : Code) (n k : ℕ) (s : Hart) (m : PathMarks) →
    is_some (first_shown public step code n k s m) ≡ path_shows public step code n s m

-- ---- traces

-- where nothing marked shows on one memory's path, in the steps that its trace retires and as many more as the window
-- holds, every memory that differs in secret bytes alone, and from which these steps publish the same, gives its trace,
-- where what shows is visible
abbrev pub OnePathForAllOfOneOutput : Type 0
OnePathForAllOfOneOutput = (public : Public) (d : Desc) (code : Code) (entry : ℕ) (secret : Secret) (m m2 : Ram) (n : ℕ) → protects d.stt_model ≡ true →
    Aligned code → AgreeBut secret m m2 → RunWaits d code n (opening d entry m) →
    (let steps = (trace d code entry m n).retired + d.core_rob in
    path_shows public (path d.stt_model) code steps (start entry m) (first_marks secret m) ≡ false → PublishSame public (path d.stt_model) code steps entry m m2 →
    trace d code entry m2 n ≡ trace d code entry m n)

-- where the path of one memory ends within k steps in which nothing marked shows, every memory that differs in secret
-- bytes alone, and from which these steps publish the same, gives its trace, of any number of cycles, under each
-- description with a model that protects and the defence `delay`, whatever its sizes
abbrev pub EveryCoreOfOneOutput : Type 0
EveryCoreOfOneOutput = (public : Public) (code : Code) (entry : ℕ) (secret : Secret) (m m2 : Ram) (k : ℕ) → Aligned code → AgreeBut secret m m2 →
    (d : Desc) (n : ℕ) → protects d.stt_model ≡ true → delays d.stt_defence ≡ true → path_ends (path d.stt_model) code k (start entry m) ≡ true →
    path_shows public (path d.stt_model) code k (start entry m) (first_marks secret m) ≡ false → PublishSame public (path d.stt_model) code k entry m m2 →
    trace d code entry m2 n ≡ trace d code entry m n

-- one walk is of both models: where the run that passes faulting accesses over ends within k steps in which nothing
-- marked shows, every memory that differs in secret bytes alone, and from which these steps publish the same, gives the
-- trace, on every core with a model that protects and the defence `delay`
abbrev pub EveryCoreOfBothModels : Type 0
EveryCoreOfBothModels = (public : Public) (code : Code) (entry : ℕ) (secret : Secret) (m m2 : Ram) (k : ℕ) → Aligned code → AgreeBut secret m m2 →
    path_ends pass_step code k (start entry m) ≡ true → path_shows public pass_step code k (start entry m) (first_marks secret m) ≡ false →
    PublishSame public pass_step code k entry m m2 → (d : Desc) (n : ℕ) → protects d.stt_model ≡ true → delays d.stt_defence ≡ true →
    trace d code entry m2 n ≡ trace d code entry m n

-- a run has ended, and not at a load or store that faults
abbrev pub ends_plainly : Option End → Bool
ends_plainly None = false
ends_plainly (Some (Exit v)) = true
ends_plainly (Some (Trap cause pc)) = not (nat_le 4 cause.number)

-- one run of the instruction set that ends within k steps, not at a load or store that faults, and in which nothing
-- marked shows: every memory that differs in secret bytes alone, and with which k steps of the instruction set publish
-- the same, gives the trace, on every core with a model that protects and the defence `delay`
abbrev pub OneRunForEveryCore : Type 0
OneRunForEveryCore = (public : Public) (code : Code) (entry : ℕ) (secret : Secret) (m m2 : Ram) (k : ℕ) → Aligned code → AgreeBut secret m m2 →
    ends_plainly (isa code (start entry m) k).ended ≡ true → path_shows public isa_step code k (start entry m) (first_marks secret m) ≡ false →
    published_in public code k (start entry m2) ≡ published_in public code k (start entry m) →
    (d : Desc) (n : ℕ) → protects d.stt_model ≡ true → delays d.stt_defence ≡ true → trace d code entry m2 n ≡ trace d code entry m n

-- where no stream is public nothing is asked of what memories publish: where the path of one memory ends within k steps
-- in which nothing marked shows, every memory that differs in secret bytes alone gives its trace, on every such core
abbrev pub EveryCore : Type 0
EveryCore = (code : Code) (entry : ℕ) (secret : Secret) (m m2 : Ram) (k : ℕ) → Aligned code → AgreeBut secret m m2 →
    (d : Desc) (n : ℕ) → protects d.stt_model ≡ true → delays d.stt_defence ≡ true → path_ends (path d.stt_model) code k (start entry m) ≡ true →
    path_shows no_stream (path d.stt_model) code k (start entry m) (first_marks secret m) ≡ false →
    trace d code entry m2 n ≡ trace d code entry m n
