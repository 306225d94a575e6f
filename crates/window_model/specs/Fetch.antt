-- The last phase: items are fetched (docs/machine.md, "Fetch").
use Rattle.std.specs.Prelude.{ℕ, zero, suc, Bool, false, ◌==◌, nat_lt, nat_le, List, [], ◌∷◌, ◌++◌, length, slice_index, slice_index_or, Option, Some, None, if◌then◌else◌}
use Rattle.rv_types.specs.Word.{word_add}
use Rattle.rv_types.specs.Isa.{relative}
use Rattle.rv_types.specs.Decode.{decode}
use Rattle.rv_types.specs.Causes.{outside_code}
use Rattle.rv_types.specs.Memory.{Code}
use Rattle.rv_types.specs.Kind.{kind_of}
use Rattle.rv_types.specs.declared.Instr.{Instr}
use Rattle.rv_types.specs.declared.Instr.TheVariants as instr
use Rattle.rv_types.specs.declared.Kind.{Kind}
use Rattle.rv_types.specs.declared.Kind.TheVariants.{Branch, Jalr, Jal, Stop}
use Rattle.machine_desc.specs.declared.Desc.{Desc}
use Rattle.window_model.specs.declared.Event.TheVariants as event
use Rattle.window_model.specs.declared.Item.{Item}
use Rattle.window_model.specs.State.{Machine, After, then_does, nothing, Target}
use Rattle.window_model.specs.Resolve.{index}
use Rattle.window_model.specs.History.{counter_index, checkpoint_after, returns_to}
use Rattle.window_model.specs.declared.Checkpoint.{Checkpoint}

-- the instruction of a word; outside code an illegal one
abbrev pub instr_at : Option ℕ → Instr
instr_at None = instr.Illegal 0
instr_at (Some w) = decode w

-- the kind of a word's instruction; outside code a stop
abbrev pub kind_at : Option ℕ → Kind
kind_at None = Stop outside_code
kind_at (Some w) = kind_of (decode w)

-- where a JAL goes, or a branch that is taken; else the instruction behind
abbrev pub target_of : ℕ → Instr → ℕ
target_of pc (instr.Jal rd imm) = relative pc imm
target_of pc (instr.Branch op rs1 rs2 imm) = relative pc imm
target_of pc i = word_add pc 4

-- the target stored for this pc, else the instruction behind
abbrev pub stored_target : ℕ → Option Target → ℕ
stored_target pc None = word_add pc 4
stored_target pc (Some t) = if t.pc == pc then t.target else word_add pc 4

-- the direction that is predicted: taken only of a branch, where the counter that its history gives it is 2 or 3
abbrev pub guess : Kind → Desc → List ℕ → Checkpoint → ℕ → Bool
guess Branch d counters m pc = nat_le 2 (slice_index counters (counter_index d m pc))
guess _ d counters m pc = false

-- the address to which a return goes, else this one
abbrev pub unless_returns : Option ℕ → ℕ → ℕ
unless_returns None target = target
unless_returns (Some back) target = back

-- the next pc that is predicted, none after a stop, of a branch that is predicted to go this way
abbrev pub predicted_pc : Kind → Desc → List (Option Target) → Checkpoint → Bool → ℕ → Instr → Option ℕ
predicted_pc (Stop cause) d targets m way pc i = None
predicted_pc Jal d targets m way pc i = Some (target_of pc i)
predicted_pc Branch d targets m way pc i = Some (if way then target_of pc i else word_add pc 4)
predicted_pc Jalr d targets m way pc i =
    Some (unless_returns (returns_to i m) (stored_target pc (slice_index_or targets (index pc d.predictor_btb) None)))
predicted_pc _ d targets m way pc i = Some (word_add pc 4)

-- the item that is fetched from a pc, with the history and stack that the machine has before it
abbrev pub item_at : Desc → Code → Machine → ℕ → Item
item_at d code x pc =
    let w = code pc in
    let way = guess (kind_at w) d x.counters x.checkpoint pc in
    let next = predicted_pc (kind_at w) d x.targets x.checkpoint way pc (instr_at w) in
    record { pc = pc; instr = instr_at w; kind = kind_at w; predicted = next; checkpoint = x.checkpoint }

-- history and stack after an item, by the predicted direction where it is a branch
abbrev pub guessed_checkpoint : Desc → List ℕ → Item → Checkpoint
guessed_checkpoint d counters item =
    checkpoint_after item.kind d item.pc item.instr (guess item.kind d counters item.checkpoint item.pc) item.checkpoint

-- the item goes to the end of the queue, and fetching goes on at its predicted next, with history and stack as they are
-- after it
abbrev pub fetch_one : Desc → Item → Machine → After
fetch_one d item x = record {
  machine = record x { queue = x.queue ++ item ∷ []; fetch_pc = item.predicted; checkpoint = guessed_checkpoint d x.counters item };
  events = event.Fet item.pc ∷ [];
}

-- the item of the fetch pc is fetched, and then more, while there is one and the queue has room
abbrev pub fetch_from : Desc → Code → Option ℕ → Machine → (Machine → After) → After
fetch_from d code None x more = nothing x
fetch_from d code (Some pc) x more =
    if nat_lt (length x.queue) d.core_queue then then_does (fetch_one d (item_at d code x pc) x) more else nothing x

-- at most n items are fetched, one after the other
abbrev pub fetch_up_to : Desc → Code → ℕ → Machine → After
fetch_up_to d code zero x = nothing x
fetch_up_to d code (suc n) x = fetch_from d code x.fetch_pc x (fetch_up_to d code n)

-- the phase Fetch: at most as many items as the description lets a cycle fetch
unfoldable pub fetch : Desc → Code → Machine → After
fetch d code x = fetch_up_to d code d.core_fetch_width x
