-- Marks beside a run of the instruction set, and what shows of them (docs/theorems.md, "Constant time on the path").
-- Each word and each byte may be marked: it may depend on the secret.
use Rattle.std.specs.Prelude.{ℕ, zero, suc, ◌+◌, ◌-◌, Bool, true, false, ◌&&◌, ◌||◌, ◌==◌, if◌then◌else◌, List, [], ◌∷◌, get_or, slice_set, Option, Some, None}
use Rattle.rv_types.specs.Memory.{Code, Ram, load_fault, store_fault}
use Rattle.rv_types.specs.Regs.{reads_of, unless_zero, writes_of}
use Rattle.rv_types.specs.Value.{size_of}
use Rattle.rv_types.specs.Isa.{Hart, Step, Goes, effect_in, reg}
use Rattle.rv_types.specs.declared.Cause.{Cause}
use Rattle.rv_types.specs.declared.Instr.{Instr}
use Rattle.rv_types.specs.declared.Instr.TheVariants as instr
use Rattle.rv_types.specs.declared.Kind.{Kind}
use Rattle.rv_types.specs.declared.Kind.TheVariants.{Load, Store, Div, Branch, Jalr, Call}
use Rattle.rv_types.specs.declared.Op.{Op}
use Rattle.window_model.specs.Fetch.{instr_at, kind_at}
use Rattle.constant_time.specs.declared.FirstStep.{FirstStep}
use Rattle.secret_marks.specs.declared.WordMarks.{WordMarks}
use Rattle.secret_marks.specs.Words.{any_byte, either, unmarked}
use Rattle.secret_marks.specs.Results.{loaded_marks, result_marks}
use Rattle.secret_marks.specs.Marks.{Secret, opening_marks, with_byte_marks, with_marks}
use Rattle.secret_marks.specs.Published.{Public, public_piece, then_published, unmarked_at}

-- the marks beside a state
pub record PathMarks : Type 0 where
  -- the marks of the registers
  pub regs : List WordMarks
  -- the mark of every byte of memory
  pub bytes : List Bool

-- the marks as a run begins: the secret bytes of memory alone are marked
abbrev pub first_marks : Secret → Ram → PathMarks
first_marks secret ram = record { regs = (opening_marks secret ram).regs; bytes = (opening_marks secret ram).bytes }

-- the marks of the first source, none where there is no source
abbrev pub first_mark : List ℕ → List WordMarks → WordMarks
first_mark [] regs = unmarked
first_mark (r ∷ rs) regs = get_or regs r unmarked

-- the marks of the second source, none where there is none
abbrev pub second_mark : List ℕ → List WordMarks → WordMarks
second_mark [] regs = unmarked
second_mark (r ∷ rs) regs = first_mark rs regs

-- ---- what shows

-- some byte of the register is marked
abbrev pub has_mark : List WordMarks → ℕ → Bool
has_mark regs r = any_byte (get_or regs r unmarked)

-- what a call is asked for is marked: its number; of an exit its value; of a write its stream, address or length
abbrev pub asks_marked : List ℕ → List WordMarks → Bool
asks_marked regs marks =
    has_mark marks 17
    || (if reg regs 17 == 93 || reg regs 17 == 94 then has_mark marks 10
    else reg regs 17 == 64 && (has_mark marks 10 || has_mark marks 11 || has_mark marks 12))

-- what an instruction of a kind leaks is marked: the base of a load or store, the dividend of a division, a source of a
-- branch or JALR, what a call is asked for
abbrev pub shows_as : Kind → Hart → Instr → List WordMarks → Bool
shows_as Load s i m = any_byte (first_mark (reads_of i) m)
shows_as Store s i m = any_byte (first_mark (reads_of i) m)
shows_as Div s i m = any_byte (first_mark (reads_of i) m)
shows_as Branch s i m = any_byte (either (first_mark (reads_of i) m) (second_mark (reads_of i) m))
shows_as Jalr s i m = any_byte (either (first_mark (reads_of i) m) (second_mark (reads_of i) m))
shows_as Call s i m = asks_marked s.regs m
shows_as _ s i m = false

-- something marked shows in the next step
abbrev pub shows : Code → Hart → PathMarks → Bool
shows code s m = shows_as (kind_at (code s.pc)) s (instr_at (code s.pc)) m.regs

-- ---- how a step moves marks

-- the marks of what is loaded from an address: none where the load faults
abbrev pub load_marks : Option Cause → Op → (ℕ → Bool) → ℕ → WordMarks
load_marks (Some c) op mark a = unmarked
load_marks None op mark a = loaded_marks op mark a

-- the marks of memory behind a store: as before where it faults
abbrev pub store_marks : Option Cause → List Bool → ℕ → ℕ → WordMarks → List Bool
store_marks (Some c) bytes i n w = bytes
store_marks None bytes i n w = with_byte_marks bytes i n w

-- the marks behind an instruction: a load's value gets those of the bytes that it reads, the bytes that a store writes
-- those of its second source, a call's answer none, and any other value those of the sources
abbrev pub after_instr : Hart → Instr → PathMarks → PathMarks
after_instr s (instr.Load op rd rs1 imm) m =
    let a = (effect_in s (instr.Load op rd rs1 imm)).addr in
    record m { regs = with_marks m.regs (unless_zero rd.number) (load_marks (load_fault s.ram a (size_of op)) op (λ b. get_or m.bytes (b - s.ram.base) false) a) }
after_instr s (instr.Store op rs1 rs2 imm) m =
    let a = (effect_in s (instr.Store op rs1 rs2 imm)).addr in
    record m { bytes = store_marks (store_fault s.ram a (size_of op)) m.bytes (a - s.ram.base) (size_of op) (second_mark (reads_of (instr.Store op rs1 rs2 imm)) m.regs) }
after_instr s instr.Ecall m = record m { regs = slice_set m.regs 10 unmarked }
after_instr s i m = record m { regs = with_marks m.regs (writes_of i) (result_marks i (first_mark (reads_of i) m.regs) (second_mark (reads_of i) m.regs)) }

-- the marks behind a step that put out a piece: bytes of memory that it published are unmarked
abbrev pub after_step : Public → Hart → Instr → List ℕ → PathMarks → PathMarks
after_step public s i piece m =
    let n = after_instr s i m in record n { bytes = unmarked_at (reg s.regs 11 - s.ram.base) (public_piece public s piece) n.bytes }

-- ---- runs

-- what is asked behind a step that put out a piece, if the run goes on
abbrev pub behind : Step → (Hart → List ℕ → Bool) → Bool
behind (Goes t p) more = more t p
behind _ more = false

-- something marked shows in the first n steps of a path
abbrev pub path_shows : Public → (Code → Hart → Step) → Code → ℕ → Hart → PathMarks → Bool
path_shows public step code zero s m = false
path_shows public step code (suc n) s m =
    shows code s m || behind (step code s) (λ t p. path_shows public step code n t (after_step public s (instr_at (code s.pc)) p m))

-- the first that is found behind a step, if the run goes on
abbrev pub first_behind : Step → (Hart → List ℕ → Option FirstStep) → Option FirstStep
first_behind (Goes t p) more = more t p
first_behind _ more = None

-- the first of n steps in which something marked shows, where the next one has number k; its kind and its address
abbrev pub first_shown : Public → (Code → Hart → Step) → Code → ℕ → ℕ → Hart → PathMarks → Option FirstStep
first_shown public step code zero k s m = None
first_shown public step code (suc n) k s m =
    if shows code s m then Some (record { step = k; kind = kind_at (code s.pc); pc = s.pc })
    else first_behind (step code s) (λ t p. first_shown public step code n (k + 1) t (after_step public s (instr_at (code s.pc)) p m))

-- the bytes that the first n steps of a path publish, in order
abbrev pub path_published : Public → (Code → Hart → Step) → Code → ℕ → Hart → List ℕ
path_published public step code zero s = []
path_published public step code (suc n) s = then_published public s (step code s) (path_published public step code n)

-- a run that doesn't go on has ended
abbrev pub ends_behind : Step → (Hart → Bool) → Bool
ends_behind (Goes t p) more = more t
ends_behind _ more = true

-- the path ends within n steps
abbrev pub path_ends : (Code → Hart → Step) → Code → ℕ → Hart → Bool
path_ends step code zero s = false
path_ends step code (suc n) s = ends_behind (step code s) (path_ends step code n)
