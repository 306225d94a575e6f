-- The output of a run that is written step by step.
use Rattle.std.proofs.Common.{◌≡◌, ◌<◌, ◌≤◌, ℕ, ◌+◌, ◌-◌, List, [], ◌++◌, Option, Some, None, length, ap, ap₂, sym, ◌∙◌, subst, arith}
use Rattle.rv_types.specs.Memory.{Code, Ram}
use Rattle.rv_types.specs.Isa.{Hart, Run, isa_step, isa, run}
use Rattle.rv_types.specs.declared.Cause.{Cause}
use Rattle.rv_types.specs.declared.End.{End}
use Rattle.rv_types.specs.declared.Ending.{Ending}
use Rattle.rv_types.specs.declared.End.TheVariants.{Exit as EndExit, Trap as EndTrap}
use Rattle.core_cycle.proofs.Going.{one_more}
use Rattle.isa_step.specs.Outcome.{outcome}
use Rattle.isa_step.specs.declared.stepped.Stepped.TheVariants.{Next, Exit, Trap}
use Rattle.isa_step.proofs.Runs as runs
use Rattle.isa_step.proofs.Runs.{Rest, run_goes, run_exits, run_traps}
use Rattle.report_text.specs.Report.{piece_text, piece_lines, report_text, state_text}
use Rattle.report_text.proofs.Pieces.{piece_lines_more, piece_lines_none, report_parts}
use Rattle.tool_io.specs.Outside.{Told, Wrote, WrotePrefix}
use Rattle.tool_io.proofs.Writing.{WroteUpTo, up_to_start, up_to_more, up_to_part, up_to_end, part_more, wrote_then, wrote_then_part}
use Rattle.stt_top.specs.inner.Running.{RanAs}
use Rattle.isa_step.proofs.Shape.{run_keeps}

-- a run with so much done that the rest is left, and with the lines of its output written so far
pub record Turned (whole rest : Run) (done : ℕ) (old new : Told) : Type 0 where
  pub rest_is : Rest whole rest done
  pub lines : WroteUpTo (piece_lines whole.pieces) (piece_lines rest.pieces) old new

pub at_start : (code : Code) (s : Hart) (n : ℕ) (t : Told) → Turned (isa code s n) (isa code s (n - 0)) 0 t t
at_start code s n t =
    let e : n - 0 ≡ n = omega arith in
    record { rest_is = runs.at_start code s n; lines = rw e (up_to_start _ t) }

-- the pieces of what is left, by the step that comes
left_goes : (code : Code) (s s' : Hart) (p : List ℕ) (n i : ℕ) → i < n → record { hart = s'; piece = p; stepped = Next } ≡ outcome s (isa_step code s)
    → piece_lines (isa code s (n - i)).pieces ≡ piece_text p ++ piece_lines (isa code s' (n - (i + 1))).pieces
left_goes code s s' p n i h e =
    ap (λ k. piece_lines (isa code s k).pieces) (one_more n i h)
    ∙ (ap (λ r. piece_lines r.pieces) (run_goes code s s' p (n - (i + 1)) e) ∙ piece_lines_more p (isa code s' (n - (i + 1))).pieces)

pub at_next : (code : Code) (s s' : Hart) (p : List ℕ) (whole : Run) (n i : ℕ) (told t u : Told) → i < n → record { hart = s'; piece = p; stepped = Next } ≡ outcome s (isa_step code s)
    → Turned whole (isa code s (n - i)) i told t → Wrote (piece_text p) t u → Turned whole (isa code s' (n - (i + 1))) (i + 1) told u
at_next code s s' p whole n i told t u h e q w = record {
  rest_is = runs.at_next code s s' p whole n i h e q.rest_is;
  lines = up_to_more _ (piece_text p) _ _ _ _ (rw (left_goes code s s' p n i h e) at q.lines) w;
}

pub at_part : (code : Code) (s s' : Hart) (p : List ℕ) (whole : Run) (n i : ℕ) (told t u : Told) → i < n → record { hart = s'; piece = p; stepped = Next } ≡ outcome s (isa_step code s)
    → Turned whole (isa code s (n - i)) i told t → WrotePrefix (piece_text p) t u → WrotePrefix (piece_lines whole.pieces) told u
at_part code s s' p whole n i told t u h e q w =
    up_to_part _ (piece_text p) _ _ _ _ (rw (left_goes code s s' p n i h e) at q.lines) w

-- nothing is left to write
ends : (whole rest : Run) (done : ℕ) (last : Hart) (taken : ℕ) (ended : Option End) (told t : Told) → rest.pieces ≡ [] → Turned whole rest done told t → runs.RanAs whole last taken ended
    → RanAs whole last taken ended told t
ends whole rest done last taken ended told t e q r = record {
  lines =
      let k : piece_lines rest.pieces ≡ [] = ap piece_lines e ∙ piece_lines_none in
      let P : List ℕ → Type 0 = λ x. WroteUpTo (piece_lines whole.pieces) x told t in
      up_to_end _ _ _ (subst P k q.lines);
  hart_is = r.last_is;
  taken_is = r.taken_is;
  ended_is = r.ended_is;
}

pub at_exit : (code : Code) (s s' : Hart) (p : List ℕ) (v : ℕ) (whole : Run) (n i : ℕ) (told t : Told) → i < n → record { hart = s'; piece = p; stepped = Exit v } ≡ outcome s (isa_step code s)
    → Turned whole (isa code s (n - i)) i told t → RanAs whole s' (i + 1) (Some (EndExit v)) told t
at_exit code s s' p v whole n i told t h e q =
    ends whole (isa code s (n - i)) i s' (i + 1) _ told t
    (ap (λ k. (isa code s k).pieces) (one_more n i h) ∙ ap (λ r. r.pieces) (run_exits code s s' p v (n - (i + 1)) e))
    q (runs.at_exit code s s' p v whole n i h e q.rest_is)

pub at_trap : (code : Code) (s s' : Hart) (p : List ℕ) (c : Cause) (whole : Run) (n i : ℕ) (told t : Told) → i < n → record { hart = s'; piece = p; stepped = Trap c } ≡ outcome s (isa_step code s)
    → Turned whole (isa code s (n - i)) i told t → RanAs whole s' i (Some (EndTrap c s'.pc)) told t
at_trap code s s' p c whole n i told t h e q =
    ends whole (isa code s (n - i)) i s' i _ told t
    (ap (λ k. (isa code s k).pieces) (one_more n i h) ∙ ap (λ r. r.pieces) (run_traps code s s' p c (n - (i + 1)) e))
    q (runs.at_trap code s s' p c whole n i h e q.rest_is)

pub at_end : (code : Code) (s : Hart) (whole : Run) (n i : ℕ) (told t : Told) → i ≤ n → n ≤ i → Turned whole (isa code s (n - i)) i told t → RanAs whole s n None told t
at_end code s whole n i told t a b q =
    ends whole (isa code s (n - i)) i s n None told t
    (let e : n - i ≡ 0 = omega arith in ap (λ k. (isa code s k).pieces) e)
    q (runs.at_end code s whole n i a b q.rest_is)

-- a part of the output is a part of the report
pub output_part : (before : Ram) (run : Run) (s t : Told) → WrotePrefix (piece_lines run.pieces) s t → WrotePrefix (report_text before run None) s t
output_part before run s t p = rw (report_parts before run None) (part_more _ _ _ _ p)

-- the state of these parts
abbrev hart_of : ℕ → List ℕ → Ram → Hart
hart_of pc regs ram = record { pc = pc; regs = regs; ram = ram }

abbrev ending_of : Option End → ℕ → Ending
ending_of ended taken = record { end = ended; retired = taken; cycles = None }

pub same_hart : (hart : Hart) (pc : ℕ) (regs : List ℕ) (ram : Ram) → pc ≡ hart.pc → regs ≡ hart.regs → ram ≡ hart.ram → hart_of pc regs ram ≡ hart
same_hart hart pc regs ram p q r =
    ap (λ x. hart_of x regs ram) p ∙ (ap (λ x. hart_of hart.pc x ram) q ∙ ap (λ x. hart_of hart.pc hart.regs x) r)

-- the state's text is that of the run's end
state_is : (before : Ram) (run : Run) (hart : Hart) (taken : ℕ) (ended : Option End) (pc : ℕ) (regs : List ℕ) (ram : Ram) (s t : Told) → RanAs run hart taken ended s t
    → pc ≡ hart.pc → regs ≡ hart.regs → ram ≡ hart.ram
    → state_text (hart_of pc regs ram) before (ending_of ended taken) ≡ state_text run.last before (ending_of run.ended run.steps)
state_is before run hart taken ended pc regs ram s t r p q m =
    ap (λ h. state_text h before (ending_of ended taken)) (same_hart hart pc regs ram p q m ∙ r.hart_is)
    ∙ ap₂ (λ e k. state_text run.last before (ending_of e k)) r.ended_is r.taken_is

-- the lines of output and then the state are the report
pub report_whole : (before : Ram) (run : Run) (hart : Hart) (taken : ℕ) (ended : Option End) (pc : ℕ) (regs : List ℕ) (ram : Ram) (s t u : Told) → RanAs run hart taken ended s t
    → pc ≡ hart.pc → regs ≡ hart.regs → ram ≡ hart.ram → Wrote (state_text (hart_of pc regs ram) before (ending_of ended taken)) t u
    → Wrote (report_text before run None) s u
report_whole before run hart taken ended pc regs ram s t u r p q m w =
    let P : List ℕ → Type 0 = λ x. Wrote x t u in
    rw (report_parts before run None)
    (wrote_then (piece_lines run.pieces) (state_text run.last before (ending_of run.ended run.steps)) s t u r.lines (subst P (state_is before run hart taken ended pc regs ram s t r p q m) w))

pub report_part : (before : Ram) (run : Run) (hart : Hart) (taken : ℕ) (ended : Option End) (pc : ℕ) (regs : List ℕ) (ram : Ram) (s t u : Told) → RanAs run hart taken ended s t
    → pc ≡ hart.pc → regs ≡ hart.regs → ram ≡ hart.ram → WrotePrefix (state_text (hart_of pc regs ram) before (ending_of ended taken)) t u
    → WrotePrefix (report_text before run None) s u
report_part before run hart taken ended pc regs ram s t u r p q m w =
    let P : List ℕ → Type 0 = λ x. WrotePrefix x t u in
    rw (report_parts before run None)
    (wrote_then_part (piece_lines run.pieces) (state_text run.last before (ending_of run.ended run.steps)) s t u r.lines (subst P (state_is before run hart taken ended pc regs ram s t r p q m) w))

-- memory after a run lies where it lay before
pub same_base : (code : Code) (s hart : Hart) (n : ℕ) (before ram : Ram) → before.base ≡ s.ram.base → hart ≡ (isa code s n).last → ram ≡ hart.ram → before.base ≡ ram.base
same_base code s hart n before ram b h r = b ∙ sym (ap (λ m. m.base) r ∙ (ap (λ x. x.ram.base) h ∙ (run_keeps code n s).base))

pub same_size : (code : Code) (s hart : Hart) (n : ℕ) (before ram : Ram) → length before.bytes ≡ length s.ram.bytes → hart ≡ (isa code s n).last → ram ≡ hart.ram
    → length before.bytes ≡ length ram.bytes
same_size code s hart n before ram b h r = b ∙ sym (ap (λ m. length m.bytes) r ∙ (ap (λ x. length x.ram.bytes) h ∙ (run_keeps code n s).size))
