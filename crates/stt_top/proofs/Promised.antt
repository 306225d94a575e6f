-- A machine's run keeps its promises: by the laws of committed state, progress, noninterference and the constant-time
-- contract.
use Rattle.std.proofs.Common.{◌≡◌, ◌≤◌, ℕ, List, [], Some, None, Result, sym, ap, ◌∙◌, subst}
use Rattle.rv_types.specs.Memory.{Code, Ram, Agree}
use Rattle.rv_types.specs.Isa.{Run, start}
use Rattle.elf_loader.specs.Image.{ImageText}
use Rattle.elf_loader.proofs.Images.{at_words}
use Rattle.machine_desc.specs.declared.Desc.{Desc}
use Rattle.machine_desc.proofs.EveryDesc.{every_desc}
use Rattle.window_model.specs.Cycle.{at, trace, pieces}
use Rattle.window_model.specs.Committed.{Aligned, Committed, TrapsNext}
use Rattle.committed_state.proofs.Run.{run_commits}
use Rattle.progress.specs.Laws.{Allows}
use Rattle.progress.proofs.Run.{retires_within_bound, retires_in_budget}
use Rattle.noninterference.proofs.Runs.{same_trace}
use Rattle.constant_time.specs.Laws.{any_byte_at}
use Rattle.constant_time.proofs.Delayed.{contract_under_delay}
use Rattle.secret_marks.specs.Alike.{AgreeBut}
use Rattle.report_text.specs.Report.{report_text}
use Rattle.trace_text.specs.TraceText as text
use Rattle.tool_io.specs.Outside.{Told, Wrote}
use Rattle.pair_run.specs.Answer.{Answers}
use Rattle.pair_run.specs.Starts.{trace_of}
use Rattle.pair_run.specs.declared.answer.PairAnswer.{PairAnswer}
use Rattle.pair_run.proofs.Answering.{one_trace, premise_traces}
use Rattle.pair_run.specs.Comparison.{comparison}
use Rattle.stt_top.specs.Clocking.{run_from}
use Rattle.stt_top.specs.Running.{opening_of}
use Rattle.stt_top.specs.declared.outcome.Ended.{Ended}
use Rattle.run_inputs.specs.declared.refusal.Refusal.{Refusal}
use Rattle.stt_top.specs.Outcome.{status_of}
use Rattle.stt_top.specs.Work.{TaskText, isa_task, report_task, trace_task, pair_task, Work, ComesTo, run_work}
use Rattle.run_inputs.specs.Input.{HoldsBytes}
use Rattle.run_inputs.specs.Told.{World}
use Rattle.stt_top.specs.Top.{Ends, Statuses}
use Rattle.stt_top.specs.Promises.{Commits, MovesOn, Hides, Compares, Keeps, Promises, TracesAgree, retired_run}
use Rattle.stt_top.proofs.Tasks.{SuitedTask, task_suited}
use Rattle.stt_top.proofs.Statuses.{statuses_at}

-- ---- Committed state of a run

-- the law of committed state, of an image
committed : (d : Desc) (image : ImageText) (n : ℕ) → Aligned image.code
    → Committed image.code (start image.entry image.ram) (at d image.code image.entry image.ram n).retired (at d image.code image.entry image.ram n) (pieces d image.code n (opening_of d image))
committed d image n al = run_commits d image.code image.entry image.ram n al

-- the report of the machine's run is that of the instruction set's run
commits : (d : Desc) (image : ImageText) (n : ℕ) (out out' : Told) → Aligned image.code → Wrote (run_work d image n).text out out' → Commits d image n out out'
commits d image n out out' al w =
    let c = committed d image n al in
    let end = (trace_of d image n).end in
    let same : run_from d image.code n (opening_of d image) ≡ record (retired_run d image n) { ended = end } = sym (ap (λ (r : Run). record r { ended = end }) c.runs) in
    let P : Run → Type 0 = λ r. Wrote (report_text image.ram r (Some (trace_of d image n).cycles)) out out' in
    record {
      report = subst P same w;
      all = ap (λ (r : Run). r.steps) c.runs;
      exit = ap (λ (r : Run). r.ended) c.runs;
      trap = subst (λ s. TrapsNext image.code s end) (sym (ap (λ (r : Run). r.last) c.runs)) c.trap;
    }

-- ---- Progress of a run

moves_on : (d : Desc) (image : ImageText) (n : ℕ) → Allows d image.ram → MovesOn d image n
moves_on d image n allows = record {
  one = λ k e. retires_within_bound d image.code image.entry image.ram k (every_desc d) allows e;
  many = λ m q e. let P : ℕ → Type 0 = λ n. (trace_of d image n).end ≡ None → m ≤ (trace_of d image n).retired in
      subst P (sym q) (λ f. retires_in_budget d image.code image.entry image.ram m (every_desc d) allows f) e;
}

-- ---- Noninterference of two runs

-- a memory of the image's shape that holds bytes may differ in every byte
any_memory : (image : ImageText) (m : Ram) → HoldsBytes image → Agree image.ram m [] → AgreeBut any_byte_at image.ram m
any_memory image m holds agree = record {
  base = agree.base;
  size = agree.size;
  misaligned = agree.misaligned;
  bytes = holds;
  bytes2 = agree.bytes;
  same = λ i e. absurd (cc);
}

hides : (d : Desc) (image : ImageText) (n : ℕ) (out out' : Told) → Aligned image.code → HoldsBytes image → Wrote (text.trace_text (trace_of d image n)) out out' → Hides d image n out out'
hides d image n out out' al b w = record {
  agreeing = λ protected m agree. subst (λ t. Wrote (text.trace_text t) out out') (sym (same_trace d image.code image.entry image.ram m n protected al agree)) w;
  leaking = λ protected delayed m agree leaks.
      subst (λ t. Wrote (text.trace_text t) out out') (sym (contract_under_delay d image.code image.entry image.ram m n protected delayed al (any_memory image m b agree) leaks)) w;
}

-- a file's image and any other with its entry and code, whose memories agree on what the path loads, have one trace
-- where the model protects
pub traces_agree : TracesAgree
traces_agree d file one two n protected f e c agree =
    let first : trace_of d two n ≡ trace d one.code one.entry two.ram n = ap (λ (x : ℕ). trace d two.code x two.ram n) e ∙ ap (λ (x : Code). trace d x one.entry two.ram n) c in
    ap text.trace_text (first ∙ same_trace d one.code one.entry one.ram two.ram n protected (at_words file _ _ _ one f) agree)

-- the answer on two images whose premise is true is that their runs are the same
compares : (d : Desc) (one two : ImageText) (n : ℕ) (answer : PairAnswer) (out out' : Told) → Aligned one.code → Answers d one two n answer → Wrote (comparison answer) out out'
    → Compares d one two n out out'
compares d one two n answer out out' al a w = record {
  answer = answer;
  answers = a;
  text = w;
  equal = λ protected t. one_trace (trace_of d one n) (trace_of d two n) answer.first (premise_traces d one two n protected al (a.premise.0 t)) a.first;
}

-- ---- The program as a whole

-- a task whose whole text is written keeps what is promised besides
keeps : (task : TaskText) (work : Work) (out out' : Told) → SuitedTask task → ComesTo task work → Wrote work.text out out' → Keeps task out out'
keeps (isa_task image steps) work out out' s c w = tt
keeps (report_task d image n) work out out' s c w = (commits d image n out out' s.aligned (subst (λ (k : Work). Wrote k.text out out') c w), moves_on d image n s.allows)
keeps (trace_task d image n) work out out' s c w = (hides d image n out out' s.aligned s.bytes (subst (λ (k : Work). Wrote k.text out out') c w), moves_on d image n s.allows)
keeps (pair_task d one two n) work out out' s c w = compares d one two n c.0 out out' s.aligned c.1 (subst (λ (k : Work). Wrote k.text out out') c.2 w)

-- with the status of a text that is written whole
pub promises : (words : List (List ℕ)) (old new : World) (status : ℕ) → Statuses words old new status → Promises words old new status
promises words old new status s = record {
  kept = λ h. let a = s.ran h in let d = a.2.0 in
      (a.0, a.1, (d.task, d.runs, keeps d.task d.work old.out new.out (task_suited a.0 old.files new.files d.task d.runs) d.comes_to a.2.1));
}

-- the program keeps its promises, with the status of how it ended
pub promises_at : (words : List (List ℕ)) (old new : World) (r : Result Ended Refusal) (status : ℕ) → Ends words old new r → status ≡ status_of r → Promises words old new status
promises_at words old new r status e s = promises words old new status (statuses_at words old new r status e s)
