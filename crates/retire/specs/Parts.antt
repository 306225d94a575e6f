-- Phase Retire of a machine that stands in parts (docs/machine.md, "State", "Retire").
use Rattle.std.specs.Prelude.{◌≡◌, ℕ, ◌+◌, true, List, [], ◌∷◌, map, Option, None}
use Rattle.std.specs.List.{fold}
use Rattle.rv_types.specs.Memory.{Ram, store_fault}
use Rattle.rv_types.specs.declared.End.{End}
use Rattle.rv_types.specs.declared.Kind.{Kind}
use Rattle.rv_types.specs.declared.Kind.TheVariants.{Store, Call}
use Rattle.machine_desc.specs.declared.Desc.{Desc}
use Rattle.window_model.specs.declared.Entry.{Entry}
use Rattle.window_model.specs.declared.Event.{Event}
use Rattle.window_model.specs.declared.Event.TheVariants as event
use Rattle.window_model.specs.Order.{is_done, is_store, fault_of}
use Rattle.window_model.specs.Retire.{Retired, addr_of, has_line, head_leaves, lines_in, retire, with_line_touched, byte_count}
use Rattle.window_model.specs.Row.{Row}
use Rattle.window_model.specs.inner.Row.{with_events}
use Rattle.window_model.specs.State.{Machine}
use Rattle.rob_ring.specs.Ring.{Ring}
use Rattle.cache_tags.specs.Sets.{Cache}

-- a machine with this cache, memory, registers, pc and end in the place of its own: what a head that retires acts on
abbrev pub with_effects : Cache → Ram → List ℕ → ℕ → Option End → Machine → Machine
with_effects tags ram regs pc end x = record x { cache = tags.sets; ram = ram; regs = regs; pc = pc; end = end }

-- a machine with this window, cache, memory, registers, pc and end in the place of its own
abbrev pub with_parts : Ring → Cache → Ram → List ℕ → ℕ → Option End → Machine → Machine
with_parts rob tags ram regs pc end x = record (with_effects tags ram regs pc end x) { window = rob.entries }

-- a machine of which n more have retired
abbrev pub with_more_retired : ℕ → Machine → Machine
with_more_retired n x = record x { retired = x.retired + n }

-- phase Retire of a machine with these parts, whose run hasn't ended
abbrev pub retires : Desc → Ring → Cache → Ram → List ℕ → ℕ → Machine → Retired
retires d rob tags ram regs pc x = retire d (with_parts rob tags ram regs pc None x)

-- the row has the phase's events behind its own, whichever machine has these parts
abbrev pub Tells : (Machine → Retired) → Row → Row → Type 0
Tells phase old new = (x : Machine) → new ≡ with_events old (phase x).events

-- ---- one head that retires

-- the head of a machine with this cache, memory, registers and pc retires, and these entries stay
abbrev pub head_retires : Desc → Entry → Cache → Ram → List ℕ → ℕ → Machine → List Entry → Retired
head_retires d e tags ram regs pc x rest = head_leaves e.item.kind d e rest (with_effects tags ram regs pc None x)

-- a head that retires leaves this cache, memory, registers, pc and end, whatever the other fields of the machine and
-- the other entries are
abbrev pub IsLeft : (Machine → List Entry → Retired) → Cache → Ram → List ℕ → ℕ → Option End → Type 0
IsLeft head tags ram regs pc end = (x : Machine) (rest : List Entry) →
    record (with_effects tags ram regs pc end x) { window = rest; retired = x.retired + 1 } ≡ (head x rest).machine

-- a head that retires has these events, whatever the other fields of the machine and the other entries are
abbrev pub TellsHead : (Machine → List Entry → Retired) → List Event → Type 0
TellsHead head events = (x : Machine) (rest : List Entry) → events ≡ (head x rest).events

-- a head that retires puts out this piece, whatever the other fields of the machine and the other entries are
abbrev pub PrintsHead : (Machine → List Entry → Retired) → List ℕ → Type 0
PrintsHead head piece = (x : Machine) (rest : List Entry) → piece ≡ (head x rest).piece

-- the cache once each of these lines has moved to the front of its set, where the cache has it
abbrev pub with_touched : Desc → List ℕ → Cache → Cache
with_touched d lines tags = record tags { sets = fold (with_line_touched d) tags.sets lines }

-- the cache once the head has retired: the lines of a store move
abbrev pub lines_moved : Kind → Desc → Entry → Cache → Cache
lines_moved Store d e tags = with_touched d (lines_in d e) tags
lines_moved _ d e tags = tags

-- the event of a line of a store: whether the cache has it
abbrev pub line_told : Desc → List (List ℕ) → Entry → ℕ → Event
line_told d cache e line = event.St e.serial line (has_line d cache line)

-- the events of a head: that it retires, each line of a store with whether the cache has it, and a call with so many
-- bytes
abbrev pub head_told : Kind → Desc → Cache → Entry → ℕ → List Event
head_told Store d tags e bytes = event.Ret e.serial ∷ map (line_told d tags.sets e) (lines_in d e)
head_told Call d tags e bytes = event.Ret e.serial ∷ event.Call e.serial bytes ∷ []
head_told _ d tags e bytes = event.Ret e.serial ∷ []

-- ---- what is asked of the parts

-- memory takes what the entry writes, if it is a Done store without a fault
abbrev pub TakesStore : Ram → Entry → Type 0
TakesStore ram e = is_store e.item.kind ≡ true → is_done e.state ≡ true → fault_of e.outcome ≡ None → store_fault ram (addr_of e.outcome) (byte_count e) ≡ None
