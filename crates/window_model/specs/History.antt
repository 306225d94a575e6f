-- Global history and return stack (docs/machine.md, "History and return stack").
use Rattle.std.specs.Prelude.{ℕ, ◌+◌, ◌*◌, ◌/◌, ◌%◌, ◌^◌, Bool, false, ◌&&◌, ◌==◌, List, [], ◌∷◌, ◌++◌, length, take, drop, replicate, bit_xor, Option, Some, None, if◌then◌else◌}
use Rattle.rv_types.specs.Word.{word_add}
use Rattle.rv_types.specs.Value.{one_if}
use Rattle.rv_types.specs.declared.Instr.{Instr}
use Rattle.rv_types.specs.declared.Instr.TheVariants as instr
use Rattle.rv_types.specs.declared.Kind.{Kind}
use Rattle.rv_types.specs.declared.Kind.TheVariants.{Branch, Jalr, Jal}
use Rattle.machine_desc.specs.declared.Desc.{Desc}
use Rattle.window_model.specs.declared.Checkpoint.{Checkpoint}

-- history and stack before the first item: no branch yet, and an empty stack
abbrev pub no_checkpoint : Checkpoint
no_checkpoint = record { history = 0; depth = 0; addresses = replicate 16 0 }

-- ---- the history and the counters

-- where the counter of a branch stands that comes with this history
abbrev pub counter_index : Desc → Checkpoint → ℕ → ℕ
counter_index d m pc = bit_xor (pc / 4) m.history % d.predictor_counters

-- a direction enters the history as its lowest digit, and the oldest leaves it
abbrev pub after_direction : Desc → Bool → Checkpoint → Checkpoint
after_direction d way m = record m { history = (2 * m.history + one_if way) % 2 ^ d.predictor_history }

-- ---- the stack of return addresses

-- the addresses on the return stack, youngest first
abbrev pub stack : Checkpoint → List ℕ
stack m = take m.depth m.addresses

-- the checkpoint with these addresses on its stack, in the first of the 16 places
abbrev pub with_stack : List ℕ → Checkpoint → Checkpoint
with_stack addresses m = record m { depth = length addresses; addresses = take 16 (addresses ++ replicate 16 0) }

-- an address is pushed on the stack; where there are then more than the description lets it hold, the oldest goes
abbrev pub after_push : Desc → ℕ → Checkpoint → Checkpoint
after_push d a m = with_stack (take d.predictor_returns (a ∷ stack m)) m

-- the youngest address of the stack goes, if there is one
abbrev pub after_pop : Checkpoint → Checkpoint
after_pop m = with_stack (drop 1 (stack m)) m

-- the youngest address, if there is one
abbrev pub youngest : List ℕ → Option ℕ
youngest [] = None
youngest (a ∷ older) = Some a

-- a jump that links by x1 pushes
abbrev pub links : Instr → Bool
links (instr.Jal rd imm) = rd.number == 1
links (instr.Jalr rd rs1 imm) = rd.number == 1
links _ = false

-- a JALR that goes by x1 and doesn't link returns: it pops
abbrev pub returns : Instr → Bool
returns (instr.Jalr rd rs1 imm) = rd.number == 0 && rs1.number == 1
returns _ = false

-- the address to which a return is predicted to go: the youngest, if there is one
abbrev pub returns_to : Instr → Checkpoint → Option ℕ
returns_to i m = if returns i then youngest (stack m) else None

-- ---- what an item does to both

-- the stack after a jump
abbrev pub after_jump : Desc → ℕ → Instr → Checkpoint → Checkpoint
after_jump d pc i m = if links i then after_push d (word_add pc 4) m else if returns i then after_pop m else m

-- history and stack after an instruction, of a branch that goes this way
abbrev pub checkpoint_after : Kind → Desc → ℕ → Instr → Bool → Checkpoint → Checkpoint
checkpoint_after Branch d pc i way m = after_direction d way m
checkpoint_after Jal d pc i way m = after_jump d pc i m
checkpoint_after Jalr d pc i way m = after_jump d pc i m
checkpoint_after _ d pc i way m = m
