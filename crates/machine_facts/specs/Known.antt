-- What has issued of a store is known in every phase that asks for it (docs/theorems.md, "What every state keeps").
use Rattle.std.specs.Prelude.{◌≡◌, ℕ, Bool, false, nat_le, Option, Some, None}
use Rattle.std.specs.List.{AllByRecursion as Each}
use Rattle.rv_types.specs.Memory.{Code, Ram}
use Rattle.machine_desc.specs.declared.Desc.{Desc}
use Rattle.machine_desc.specs.Ranges.{IsDesc}
use Rattle.window_model.specs.declared.Entry.{Entry}
use Rattle.window_model.specs.State.{Machine}
use Rattle.window_model.specs.Order.{has_address, has_data}
use Rattle.window_model.specs.Fill.{fill, complete}
use Rattle.window_model.specs.Resolve.{resolve}
use Rattle.window_model.specs.Clear.{clear}
use Rattle.window_model.specs.Retire.{retire}
use Rattle.window_model.specs.Cycle.{at, begins_cycle}

-- a part that has issued is known from the cycle on in which it is due
abbrev pub is_known_at : ℕ → Option ℕ → Bool
is_known_at cycle None = false
is_known_at cycle (Some due) = nat_le due cycle

-- in a cycle the address has issued exactly where it is known, and so has the data
abbrev pub KnownIfIssued : ℕ → Entry → Type 0
KnownIfIssued cycle e = (has_address e ≡ is_known_at cycle e.addr_due) × (has_data e ≡ is_known_at cycle e.data_due)

-- in a cycle what has issued of each entry of a state is known
abbrev pub AllKnown : ℕ → Machine → Type 0
AllKnown cycle x = Each (KnownIfIssued cycle) x.window

-- in every cycle of a run, as Resolve, Clear, Retire and Issue begin, what has issued of a store's two parts is known
abbrev pub IssuedIsKnown : Type 0
IssuedIsKnown = (d : Desc) (code : Code) (entry : ℕ) (ram : Ram) (k : ℕ) → IsDesc d →
    let x = begins_cycle (at d code entry ram k) in
    let executed = (complete (fill d x).machine).machine in
    let resolved = (resolve d executed).machine in
    let cleared = (clear d resolved).machine in
    let retired = (retire d cleared).machine in
    AllKnown x.cycle executed × AllKnown x.cycle resolved × AllKnown x.cycle cleared × AllKnown x.cycle retired
