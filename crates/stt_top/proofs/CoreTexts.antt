-- The trace and the report of a core's run, from what its parts write.
use Rattle.std.proofs.Common.{◌≡◌, ℕ, List, Some, length, refl, ap, ap₂, sym, ◌∙◌, subst}
use Rattle.rv_types.specs.Memory.{Code, Ram}
use Rattle.rv_types.specs.Isa.{Hart}
use Rattle.rv_types.specs.declared.Ending.{Ending}
use Rattle.line_text.specs.EndLine.{end_line}
use Rattle.machine_desc.specs.declared.Desc.{Desc}
use Rattle.machine_desc.proofs.EveryDesc.{every_desc}
use Rattle.window_model.specs.State.{Machine}
use Rattle.window_model.specs.Shape.{SameShape}
use Rattle.window_model.specs.Retire.{hart_of}
use Rattle.window_model.specs.Cycle.{rows, cycle, pieces, after_cycles, trace_from}
use Rattle.window_model.proofs.Walks.{run_keep}
use Rattle.machine_facts.specs.Sized.{Sized}
use Rattle.machine_facts.proofs.SizedRun.{sized_cycle, memory_stays_cycle}
use Rattle.report_text.specs.Report.{piece_lines, state_text}
use Rattle.report_text.proofs.Pieces.{report_parts}
use Rattle.trace_text.specs.TraceText.{rows_text, trace_text}
use Rattle.trace_text.proofs.Growing.{trace_parts}
use Rattle.tool_io.specs.Outside.{Told, Wrote, WrotePrefix}
use Rattle.tool_io.proofs.Writing.{part_more, wrote_then, wrote_then_part}
use Rattle.pair_run.specs.Running.{ending_at}
use Rattle.stt_top.specs.Clocking.{run_from, report_from}
use Rattle.stt_top.specs.inner.Clocking.{CameTo}
use Rattle.stt_top.proofs.Turns.{same_hart}

-- ---- The trace of a run

-- a part of the rows is a part of the trace
pub rows_alone : (d : Desc) (code : Code) (n : ℕ) (x : Machine) (s t : Told) → WrotePrefix (rows_text (rows d code n x)) s t → WrotePrefix (trace_text (trace_from d code n x)) s t
rows_alone d code n x s t p = rw (trace_parts (trace_from d code n x)) (part_more _ _ _ _ p)

-- the rows and then the last line are the trace
pub trace_whole : (d : Desc) (code : Code) (n : ℕ) (x y : Machine) (ending : Ending) (s t u : Told) → CameTo (rows_text (rows d code n x)) d code n x y s t → ending ≡ ending_at y
    → Wrote (end_line ending) t u → Wrote (trace_text (trace_from d code n x)) s u
trace_whole d code n x y ending s t u c e w =
    let P : Ending → Type 0 = λ k. Wrote (end_line k) t u in
    rw (trace_parts (trace_from d code n x))
    (wrote_then (rows_text (rows d code n x)) (end_line (ending_at (after_cycles d code n x))) s t u c.lines (subst P (e ∙ ap ending_at c.last) w))

pub trace_cut : (d : Desc) (code : Code) (n : ℕ) (x y : Machine) (ending : Ending) (s t u : Told) → CameTo (rows_text (rows d code n x)) d code n x y s t → ending ≡ ending_at y
    → WrotePrefix (end_line ending) t u → WrotePrefix (trace_text (trace_from d code n x)) s u
trace_cut d code n x y ending s t u c e w =
    let P : Ending → Type 0 = λ k. WrotePrefix (end_line k) t u in
    rw (trace_parts (trace_from d code n x))
    (wrote_then_part (rows_text (rows d code n x)) (end_line (ending_at (after_cycles d code n x))) s t u c.lines (subst P (e ∙ ap ending_at c.last) w))

-- ---- The report of a run

-- a part of the output is a part of the report
pub output_alone : (before : Ram) (d : Desc) (code : Code) (n : ℕ) (x : Machine) (s t : Told) → WrotePrefix (piece_lines (pieces d code n x)) s t
    → WrotePrefix (report_from before d code n x) s t
output_alone before d code n x s t p = rw (report_parts before (run_from d code n x) (Some (after_cycles d code n x).cycle)) (part_more _ _ _ _ p)

-- the state that is written is the run's last
last_state : (before : Ram) (d : Desc) (code : Code) (n : ℕ) (x y : Machine) (pc : ℕ) (regs : List ℕ) (ram : Ram) (ending : Ending) → y ≡ after_cycles d code n x
    → pc ≡ y.pc → regs ≡ y.regs → ram ≡ y.ram → ending ≡ ending_at y
    → state_text (record { pc = pc; regs = regs; ram = ram }) before ending ≡ state_text (hart_of (after_cycles d code n x)) before (ending_at (after_cycles d code n x))
last_state before d code n x y pc regs ram ending l p q m e =
    ap₂ (λ (h : Hart) (k : Ending). state_text h before k) (same_hart (hart_of y) pc regs ram p q m) e
    ∙ ap (λ (z : Machine). state_text (hart_of z) before (ending_at z)) l

pub core_report_whole : (before : Ram) (d : Desc) (code : Code) (n : ℕ) (x y : Machine) (pc : ℕ) (regs : List ℕ) (ram : Ram) (ending : Ending) (s t u : Told)
    → CameTo (piece_lines (pieces d code n x)) d code n x y s t → pc ≡ y.pc → regs ≡ y.regs → ram ≡ y.ram → ending ≡ ending_at y
    → Wrote (state_text (record { pc = pc; regs = regs; ram = ram }) before ending) t u → Wrote (report_from before d code n x) s u
core_report_whole before d code n x y pc regs ram ending s t u c p q m e w =
    let P : List ℕ → Type 0 = λ text. Wrote text t u in
    let z = after_cycles d code n x in
    rw (report_parts before (run_from d code n x) (Some z.cycle))
    (wrote_then (piece_lines (pieces d code n x)) (state_text (hart_of z) before (ending_at z)) s t u c.lines
    (subst P (last_state before d code n x y pc regs ram ending c.last p q m e) w))

pub core_report_cut : (before : Ram) (d : Desc) (code : Code) (n : ℕ) (x y : Machine) (pc : ℕ) (regs : List ℕ) (ram : Ram) (ending : Ending) (s t u : Told)
    → CameTo (piece_lines (pieces d code n x)) d code n x y s t → pc ≡ y.pc → regs ≡ y.regs → ram ≡ y.ram → ending ≡ ending_at y
    → WrotePrefix (state_text (record { pc = pc; regs = regs; ram = ram }) before ending) t u → WrotePrefix (report_from before d code n x) s u
core_report_cut before d code n x y pc regs ram ending s t u c p q m e w =
    let P : List ℕ → Type 0 = λ text. WrotePrefix text t u in
    let z = after_cycles d code n x in
    rw (report_parts before (run_from d code n x) (Some z.cycle))
    (wrote_then_part (piece_lines (pieces d code n x)) (state_text (hart_of z) before (ending_at z)) s t u c.lines
    (subst P (last_state before d code n x y pc regs ram ending c.last p q m e) w))

-- ---- Memory over a run

-- the sizes of a machine, and its memory where the memory of x lay
record Kept (d : Desc) (x y : Machine) : Type 0 where
  sized : Sized d y
  shape : SameShape x.ram y.ram

kept_cycle : (d : Desc) (code : Code) (x y : Machine) → Kept d x y → Kept d x (cycle d code y).machine
kept_cycle d code x y k =
    let stays = memory_stays_cycle d code y (every_desc d) k.sized in
    record {
      sized = sized_cycle d code y (every_desc d) k.sized;
      shape = record { base = stays.base ∙ k.shape.base; size = stays.size ∙ k.shape.size; misaligned = stays.misaligned ∙ k.shape.misaligned };
    }

kept : (d : Desc) (code : Code) (n : ℕ) (x : Machine) → Sized d x → Kept d x (after_cycles d code n x)
kept d code n x s = run_keep d (Kept d x) code (kept_cycle d code x) n x (record { sized = s; shape = record { base = refl; size = refl; misaligned = refl } })

pub base_stays : (d : Desc) (code : Code) (n : ℕ) (x y : Machine) (before ram : Ram) → Sized d x → y ≡ after_cycles d code n x → before.base ≡ x.ram.base → ram ≡ y.ram
    → before.base ≡ ram.base
base_stays d code n x y before ram s l b m =
    b ∙ sym (ap (λ (r : Ram). r.base) m ∙ (ap (λ (z : Machine). z.ram.base) l ∙ (kept d code n x s).shape.base))

pub size_stays : (d : Desc) (code : Code) (n : ℕ) (x y : Machine) (before ram : Ram) → Sized d x → y ≡ after_cycles d code n x → length before.bytes ≡ length x.ram.bytes → ram ≡ y.ram
    → length before.bytes ≡ length ram.bytes
size_stays d code n x y before ram s l b m =
    b ∙ sym (ap (λ (r : Ram). length r.bytes) m ∙ (ap (λ (z : Machine). length z.ram.bytes) l ∙ (kept d code n x s).shape.size))
