-- The window's instructions one after another from the retired state: what entries that have issued come to
-- (docs/theorems.md, "Committed state").
use Rattle.std.specs.Prelude.{◌≡◌, ℕ, Bool, true, not, ◌||◌, List, [], ◌∷◌, Option, Some, None}
use Rattle.std.specs.List.{list_all}
use Rattle.rv_types.specs.Word.{to_le}
use Rattle.rv_types.specs.Memory.{Ram, with_bytes, bytes_at}
use Rattle.rv_types.specs.Isa.{Effect, effect, with_reg, first_of, second_of}
use Rattle.rv_types.specs.Regs.{writes_of}
use Rattle.rv_types.specs.declared.Cause.{Cause}
use Rattle.rv_types.specs.declared.Instr.{Instr}
use Rattle.rv_types.specs.declared.Kind.{Kind}
use Rattle.rv_types.specs.declared.Kind.TheVariants.{Store}
use Rattle.window_model.specs.declared.Entry.{Entry}
use Rattle.window_model.specs.declared.Outcome.{Outcome}
use Rattle.window_model.specs.Order.{is_store, sources}
use Rattle.window_model.specs.Retire.{width_in}
use Rattle.committed_state.specs.Computed.{ComesTo, as_known, outcome_as}
pub use Rattle.committed_state.specs.Computed.{Bank}

-- what an instruction makes of its operands in these registers
abbrev pub effect_on : Bank → Entry → Effect
effect_on s e = effect e.item.pc e.item.instr (first_of (sources e) s.regs) (second_of (sources e) s.regs)

-- an outcome by kind in these registers and memory
abbrev pub replayed_as : Kind → Bank → Entry → Outcome
replayed_as k s e = let f = effect_on s e in outcome_as k s.ram e.item.instr f (bytes_at s.ram f.addr (width_in e.item.instr))

-- the outcome of an entry in these registers and memory
abbrev pub replay_outcome : Bank → Entry → Outcome
replay_outcome s e = replayed_as e.item.kind s e

-- memory with a store's bytes, unless it faults
abbrev pub stored_unless : Option Cause → Ram → ℕ → List ℕ → Ram
stored_unless (Some c) ram a new = ram
stored_unless None ram a new = with_bytes ram a new

-- memory after an instruction of a kind, with its outcome
abbrev pub ram_after : Kind → Ram → Instr → Outcome → Ram
ram_after Store ram i o = stored_unless o.fault ram o.addr (to_le (width_in i) o.stored)
ram_after _ ram i o = ram

-- the registers and memory after an entry, which is passed over where it faults
abbrev pub bank_after : Entry → Bank → Bank
bank_after e s =
    let o = replay_outcome s e in
    record { regs = with_reg s.regs (writes_of e.item.instr) o.value; ram = ram_after e.item.kind s.ram e.item.instr o }

-- the registers and memory after the replay of these entries, of which the first is the youngest
abbrev pub bank : Bank → List Entry → Bank
bank s [] = s
bank s (e ∷ before) = bank_after e (bank s before)

-- the entry is no store, or it is cleared: no load that has issued passed it wrongly
abbrev pub is_clear : Entry → Bool
is_clear e = not (is_store e.item.kind) || e.cleared

-- every issued entry all of whose older stores are cleared has the outcome of the replay at its place, as far as it is
-- known
abbrev pub FollowsReplay : Bank → List Entry → Type 0
FollowsReplay s [] = Unit {0}
FollowsReplay s (e ∷ before) =
    (list_all is_clear before ≡ true → ComesTo e.outcome (as_known e (replay_outcome (bank s before) e))) × FollowsReplay s before
