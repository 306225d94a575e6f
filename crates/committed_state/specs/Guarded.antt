-- What shows its operand by its time has waited for an untainted one, and it stays untainted
-- (docs/theorems.md, "Committed state").
use Rattle.std.specs.Prelude.{◌≡◌, ℕ, true, false, ◌&&◌, List, [], is_some}
use Rattle.rv_types.specs.Memory.{Code, Ram}
use Rattle.machine_desc.specs.declared.Desc.{Desc}
use Rattle.window_model.specs.declared.Entry.{Entry}
use Rattle.machine_desc.specs.declared.SttModel.{SttModel}
use Rattle.window_model.specs.State.{Machine}
use Rattle.window_model.specs.Order.{is_waiting, is_load, is_store, has_address, has_data}
use Rattle.window_model.specs.Taint.{any_tainted, address_tainted}
use Rattle.window_model.specs.Issue.{is_division}
use Rattle.window_model.specs.Cycle.{cycle, at}
use Rattle.window_model.specs.Along.{Along}

-- a load that has issued has an untainted base, and a division untainted operands
pub record IsGuarded (model : SttModel) (before : List Entry) (e : Entry) : Type 0 where
  pub load : is_some e.outcome ≡ true → is_load e.item.kind ≡ true → address_tainted model before e ≡ false
  pub division : is_some e.outcome ≡ true → is_division e.item.kind ≡ true → any_tainted model before e ≡ false
  -- what waits is not resolved
  pub fresh : is_waiting e.state ≡ true → e.resolved ≡ false
  -- a store that doesn't wait has issued both parts
  pub whole : is_waiting e.state ≡ false → is_store e.item.kind ≡ true → (has_address e && has_data e) ≡ true

-- every entry of the window is guarded: a load that has issued has an untainted base, and a division untainted operands
abbrev pub AllGuarded : SttModel → List Entry → Type 0
AllGuarded model window = Along (IsGuarded model) [] window

-- a cycle keeps every entry of the window guarded
abbrev pub CycleGuards : Type 0
CycleGuards = (d : Desc) (code : Code) (x : Machine) → AllGuarded d.stt_model x.window → AllGuarded d.stt_model (cycle d code x).machine.window

-- in every state of a run each entry of the window is guarded
abbrev pub RunGuards : Type 0
RunGuards = (d : Desc) (code : Code) (entry : ℕ) (ram : Ram) (k : ℕ) → AllGuarded d.stt_model (at d code entry ram k).window
