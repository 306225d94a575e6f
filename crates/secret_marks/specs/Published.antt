-- What a run publishes: the bytes that it writes to public streams (docs/theorems.md, "Secrets that are published").
use Rattle.std.specs.Prelude.{ℕ, zero, suc, ◌+◌, ◌-◌, Bool, false, List, [], ◌∷◌, ◌++◌, length, take, drop, replicate, if◌then◌else◌}
use Rattle.rv_types.specs.Isa.{Hart, Step, Goes, isa_step, reg}
use Rattle.rv_types.specs.Memory.{Code}
use Rattle.machine_desc.specs.declared.Desc.{Desc}
use Rattle.window_model.specs.State.{Machine}
use Rattle.window_model.specs.Retire.{hart_of, unless_ended}
use Rattle.window_model.specs.Cycle.{cycle}
use Rattle.secret_marks.specs.Marks.{Marks}

-- which streams are public, by their numbers
abbrev pub Public : Type 0
Public = ℕ → Bool

-- no stream is public
abbrev pub no_stream : Public
no_stream stream = false

-- what is published of a piece that a call puts out in this state: all of it where its stream, a0, is public
abbrev pub public_piece : Public → Hart → List ℕ → List ℕ
public_piece public s piece = if public (reg s.regs 10) then piece else []

-- what a step from this state publishes, and then the rest of a run
abbrev pub then_published : Public → Hart → Step → (Hart → List ℕ) → List ℕ
then_published public s (Goes s2 piece) rest = public_piece public s piece ++ rest s2
then_published public s _ rest = []

-- the bytes that at most n steps of the instruction set publish, in order
abbrev pub published_in : Public → Code → ℕ → Hart → List ℕ
published_in public code zero s = []
published_in public code (suc n) s = then_published public s (isa_step code s) (published_in public code n)

-- the bytes that at most n cycles of the machine publish, in order
abbrev pub published_by : Public → Desc → Code → ℕ → Machine → List ℕ
published_by public d code zero x = []
published_by public d code (suc n) x =
    unless_ended x.end []
    (let c = cycle d code x in public_piece public (hart_of x) c.piece ++ published_by public d code n c.machine)

-- the bytes of memory that hold a piece, from position i on, are unmarked
abbrev pub unmarked_at : ℕ → List ℕ → List Bool → List Bool
unmarked_at i [] bytes = bytes
unmarked_at i (b ∷ piece) bytes =
    let n = length (b ∷ piece) in take i bytes ++ replicate n false ++ drop (i + n) bytes

-- the marks behind Retire of this machine: the bytes that it published, from a1 on, are unmarked, and no other byte
abbrev pub published_marks : Public → Machine → List ℕ → Marks → Marks
published_marks public x piece m =
    record m { bytes = unmarked_at (reg x.regs 11 - x.ram.base) (public_piece public (hart_of x) piece) m.bytes }
