-- How a task ends, and with it the program, from what the parts do.
use Rattle.std.proofs.Common.{◌≡◌, ℕ, List, [], Option, Some, None, Result, Ok, Err, refl, ap, ◌∙◌, subst, inl, inr}
use Rattle.rv_types.specs.Memory.{Code, Ram}
use Rattle.elf_loader.specs.Image.{ImageText}
use Rattle.machine_desc.specs.declared.Desc.{Desc}
use Rattle.elf_loader.specs.declared.loading.Image.{Image}
use Rattle.pair_run.specs.Answer.{Answers}
use Rattle.pair_run.specs.inner.Images.{Images}
use Rattle.run_inputs.specs.Loaded.{image_text}
use Rattle.pair_run.specs.declared.answer.PairAnswer.{PairAnswer}
use Rattle.pair_run.specs.Comparison.{comparison}
use Rattle.tool_io.specs.Outside.{Told, Shelf, Wrote, WrotePrefix, SameCounts}
use Rattle.trace_text.specs.TraceText.{trace_text}
use Rattle.window_model.specs.State.{Machine}
use Rattle.window_model.specs.Cycle.{trace_from}
use Rattle.tool_words.specs.Words.{CommandText, command_of}
use Rattle.stt_top.specs.declared.outcome.Ended.{Ended}
use Rattle.run_inputs.specs.declared.refusal.Refusal.{Refusal}
use Rattle.run_inputs.specs.declared.refusal.Refusal.TheVariants.{Words, Write, Memory}
use Rattle.run_inputs.specs.Input.{NamedRefused}
use Rattle.tool_words.proofs.Tool.{no_words_no_command}
use Rattle.stt_top.specs.Clocking.{report_from}
use Rattle.stt_top.specs.Outcome.{compared_of}
use Rattle.stt_top.specs.Running.{opening_of}
use Rattle.stt_top.specs.inner.Running.{Starts}
use Rattle.stt_top.specs.Work.{TaskText, report_task, trace_task, pair_task, run_work, trace_work, pair_work}
use Rattle.stt_top.specs.inner.Work.{Performs}
use Rattle.run_inputs.specs.Told.{World, world}
use Rattle.stt_top.specs.Top.{Runs, CommandRefused, CommandWants, CommandEnds, description_name, Ends}

-- ---- Tasks, and what is written

-- anything of a core that starts with an image is that of the machine there
at_start : {A : Type 0} (f : Desc → Code → Machine → A) (image : ImageText) (desc d : Desc) (code : Code) (x : Machine) → Starts image desc d code x
    → f d code x ≡ f desc image.code (opening_of desc image)
at_start f image desc d code x s =
    ap (λ k. f k code x) s.desc_is ∙ (ap (λ k. f desc k x) s.code_is ∙ ap (f desc image.code) s.machine_is)

-- the part of a trace that a failing sink has taken is one of the task's trace; below, of its report
pub trace_part : (image : ImageText) (desc d : Desc) (code : Code) (x : Machine) (n : ℕ) (out out' : Told) → Starts image desc d code x
    → WrotePrefix (trace_text (trace_from d code n x)) out out' → Performs (trace_task desc image n) out out' (Err Write)
trace_part image desc d code x n out out' s w =
    let P : List ℕ → Type 0 = λ t. WrotePrefix t out out' in
    (trace_work desc image n, refl, subst P (at_start (λ k c y. trace_text (trace_from k c n y)) image desc d code x s) w)

pub report_part : (image : ImageText) (desc d : Desc) (code : Code) (x : Machine) (before : Ram) (n : ℕ) (out out' : Told) → Starts image desc d code x → before ≡ image.ram
    → WrotePrefix (report_from before d code n x) out out' → Performs (report_task desc image n) out out' (Err Write)
report_part image desc d code x before n out out' s b w =
    let P : List ℕ → Type 0 = λ t. WrotePrefix t out out' in
    let is = ap (λ m. report_from m d code n x) b ∙ at_start (λ k c y. report_from image.ram k c n y) image desc d code x s in
    (run_work desc image n, refl, subst P is w)

-- what a pair of these images answers is said of them
pub pair_answers : (p : Images) (d : Desc) (one two : Image) (n : ℕ) (answer : PairAnswer) → p ≡ record { desc = d; one = one; two = two }
    → Answers p.desc (image_text p.one) (image_text p.two) n answer → Answers d (image_text one) (image_text two) n answer
pair_answers p d one two n answer e h = subst (λ (q : Images). Answers q.desc (image_text q.one) (image_text q.two) n answer) e h

pub compared : (d : Desc) (one two : ImageText) (n : ℕ) (answer : PairAnswer) (ended : Ended) (out out' : Told) → Answers d one two n answer → Wrote (comparison answer) out out'
    → ended ≡ compared_of answer.first → Performs (pair_task d one two n) out out' (Ok ended)
compared d one two n answer ended out out' a w e = (pair_work answer, (answer, a, refl), w, e)

pub compared_part : (d : Desc) (one two : ImageText) (n : ℕ) (answer : PairAnswer) (out out' : Told) → Answers d one two n answer → WrotePrefix (comparison answer) out out'
    → Performs (pair_task d one two n) out out' (Err Write)
compared_part d one two n answer out out' a w = (pair_work answer, (answer, a, refl), w)

-- ---- The program as a whole

-- words that give a command aren't none
pub not_empty : (words : List (List ℕ)) (command : CommandText) → command_of words ≡ Some command → words ≡ [] → ⊥
not_empty words command k e = let none : command_of words ≡ None = ap command_of e ∙ no_words_no_command in cc

-- no read of a named file is refused for want of a write
no_write : (name : Option (List ℕ)) (old new : Shelf) → NamedRefused name old new Write → ⊥
no_write None old new h = h
no_write (Some name) old new h = h

-- no read of a named file is refused for its words
no_wrong_words : (name : Option (List ℕ)) (old new : Shelf) → NamedRefused name old new Words → ⊥
no_wrong_words None old new h = h
no_wrong_words (Some name) old new h = h

-- a refusal of what the command reads ends it with that refusal
pub command_refused : (command : CommandText) (old new : Shelf) (out : Told) (e : Refusal) → CommandRefused command old new e → CommandEnds command (world old out) (world new out) (Err e)
command_refused command old new out Write c = absurd (no_write (description_name command) old new c)
command_refused command old new out Memory c = (inl c, refl)
command_refused command old new out _ c = (c, refl)

-- the command is done, once its task is performed
pub task_end : (command : CommandText) (old new : Shelf) (out out' : Told) (task : TaskText) (r : Result Ended Refusal) → Runs command old new task → Performs task out out' r
    → CommandEnds command (world old out) (world new out') r
task_end command old new out out' task (Ok ended) c p = (record { task = task; runs = c; work = p.0; comes_to = p.1 }, p.2, p.3)
task_end command old new out out' task (Err Write) c p = (record { task = task; runs = c; work = p.0; comes_to = p.1 }, p.2)
task_end command old new out out' task (Err Memory) c p = (inr (task, c), p)
task_end command old new out out' task (Err _) c p = absurd p

-- want of memory leaves the counts of all files
wants_alone : (command : CommandText) (old new : Shelf) → CommandWants command old new → SameCounts old new
wants_alone command old new (inl refused) = refused.1
wants_alone command old new (inr read) = read.1.read.counts

-- the program ends as the command that its words ask for
pub command_end : (words : List (List ℕ)) (old new : World) (command : CommandText) (r : Result Ended Refusal) → command_of words ≡ Some command → CommandEnds command old new r → Ends words old new r
command_end words old new command (Ok ended) k c = (command, k, c)
command_end words old new command (Err Words) k c = absurd (no_wrong_words (description_name command) old.files new.files c.0)
command_end words old new command (Err Memory) k c = (not_empty words command k, wants_alone command old.files new.files c.0, c.1)
command_end words old new command (Err _) k c = (command, k, c)
