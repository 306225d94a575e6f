-- The steps of groups of instructions, at the values that they read.
use Rattle.std.specs.Prelude.{ℕ, [], Option, None, Result, Bool, if◌then◌else◌}
use Rattle.rv_types.specs.Word.{word_add, from_le, to_le}
use Rattle.rv_types.specs.Value.{size_of}
use Rattle.rv_types.specs.Memory.{Ram, load_fault, store_fault, bytes_at, with_bytes}
use Rattle.rv_types.specs.Causes.{jump_misaligned}
use Rattle.rv_types.specs.Isa.{Hart, Step, Goes, Traps, only, jump, goes_to, or_trap, load_value}
use Rattle.rv_types.specs.declared.Op.{Op}
use Rattle.rv_types.specs.declared.Cause.{Cause}
use Rattle.byte_ram.specs.Access.{unless_fault}

-- an instruction that computes this value, for the register named
abbrev pub computes : Hart → Option ℕ → ℕ → Step
computes s rd v = Goes (goes_to s rd (only s.pc v)) []

-- a jump to this target, with the return address for the register named
abbrev pub jumps : Hart → Option ℕ → ℕ → Step
jumps s rd target =
    let e = jump (word_add s.pc 4) target in
    if e.misaligned then Traps jump_misaligned else Goes (goes_to s rd e) []

-- a branch to this target, which is taken or not
abbrev pub branches : Hart → Bool → ℕ → Step
branches s taken target = if taken then jumps s None target else computes s None 0

-- what a read for a load answers: a fault, or the number of its bytes
abbrev pub read_of : Ram → Op → ℕ → Result ℕ Cause
read_of ram op a = unless_fault (load_fault ram a (size_of op)) (from_le (bytes_at ram a (size_of op)))

-- a load from this address, for the register named
abbrev pub loads : Hart → Op → Option ℕ → ℕ → Step
loads s op rd a = or_trap (load_fault s.ram a (size_of op)) (computes s rd (load_value s op a))

-- a store of this value to this address
abbrev pub stores : Hart → Op → ℕ → ℕ → Step
stores s op a v = or_trap (store_fault s.ram a (size_of op)) (Goes (record s { pc = word_add s.pc 4; ram = with_bytes s.ram a (to_le (size_of op) v) }) [])
