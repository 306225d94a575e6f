-- The run that passes faulting loads and stores over, and the bytes that a run loads. Both are what the theorem on two
-- runs speaks of (docs/theorems.md, "Noninterference").
use Rattle.std.specs.Prelude.{ℕ, zero, suc, nat_le, if◌then◌else◌, List, [], ◌++◌, Option, Some, None}
use Rattle.rv_types.specs.Word.{word_add}
use Rattle.rv_types.specs.Value.{size_of}
use Rattle.rv_types.specs.Decode.{decode}
use Rattle.rv_types.specs.Memory.{Code, load_fault, range}
use Rattle.rv_types.specs.Regs.{unless_zero}
use Rattle.rv_types.specs.Causes.{outside_code}
use Rattle.rv_types.specs.Isa.{Hart, Step, Goes, Exits, Traps, only, goes_to, effect_in, step_of}
use Rattle.rv_types.specs.declared.Cause.{Cause}
use Rattle.rv_types.specs.declared.Instr.{Instr}
use Rattle.rv_types.specs.declared.Instr.TheVariants.{Load}

-- ---- The step that passes faulting loads and stores over

-- the state behind a load or store that is passed over: a load gives 0, a store writes nothing
abbrev pub state_past_access : Hart → Instr → Hart
state_past_access s (Load op rd rs1 imm) = goes_to s (unless_zero rd.number) (only s.pc 0)
state_past_access s i = record s { pc = word_add s.pc 4 }

-- causes 4 to 7 are those of loads and stores
abbrev pub pass_fault : Hart → Instr → Step → Step
pass_fault s i (Traps cause) = if nat_le 4 cause.number then Goes (state_past_access s i) [] else Traps cause
pass_fault s i step = step

-- the step at a word, in which a load or store that would trap is passed over
abbrev pub pass_at : Option ℕ → Hart → Step
pass_at None s = Traps outside_code
pass_at (Some w) s = pass_fault s (decode w) (step_of s (decode w))

-- one step of the instruction set, in which a load or store that would trap is passed over
unfoldable pub pass_step : Code → Hart → Step
pass_step code s = pass_at (code s.pc) s

-- ---- What a run loads

-- the list where there is no fault, an empty one where there is
abbrev pub unless_fault : Option Cause → List ℕ → List ℕ
unless_fault None xs = xs
unless_fault (Some cause) xs = []

-- the addresses of the bytes that an instruction loads: none where it is no load, or faults
abbrev pub loads_of : Hart → Instr → List ℕ
loads_of s (Load op rd rs1 imm) =
    let a = (effect_in s (Load op rd rs1 imm)).addr in unless_fault (load_fault s.ram a (size_of op)) (range a (size_of op))
loads_of s i = []

-- the addresses of the bytes that the instruction of a word loads, none where there is no word
abbrev pub loads_at : Option ℕ → Hart → List ℕ
loads_at None s = []
loads_at (Some w) s = loads_of s (decode w)

-- what the rest of a run loads behind a step, nothing where that stops the run
abbrev pub then_reads : Step → (Hart → List ℕ) → List ℕ
then_reads (Goes s' piece) rest = rest s'
then_reads (Exits v s') rest = []
then_reads (Traps cause) rest = []

-- the addresses of the bytes that are loaded in the first n steps of a kind, fewer where the run stops; the bytes of a
-- write call don't count
abbrev pub reads : (Code → Hart → Step) → Code → Hart → ℕ → List ℕ
reads path code s zero = []
reads path code s (suc n) = loads_at (code s.pc) s ++ then_reads (path code s) (λ s'. reads path code s' n)
