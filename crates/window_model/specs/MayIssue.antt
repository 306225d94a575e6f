-- Which entries may issue (docs/machine.md, "Issue"): by their operands, by the stores before them, and a store by the
-- version, in one piece or by parts.
use Rattle.std.specs.Prelude.{ℕ, Bool, true, not, ◌&&◌, ◌||◌, List, [], ◌∷◌, if◌then◌else◌}
use Rattle.std.specs.List.{list_all, list_any}
use Rattle.rv_types.specs.Isa.{Effect, effect}
use Rattle.rv_types.specs.Memory.{load_fault, range}
use Rattle.rv_types.specs.Path.{unless_fault}
use Rattle.rv_types.specs.declared.Kind.{Kind}
use Rattle.rv_types.specs.declared.Kind.TheVariants.{Div, Load}
use Rattle.machine_desc.specs.declared.Desc.{Desc}
use Rattle.machine_desc.specs.Questions.{loads_pass, stores_in_one}
use Rattle.machine_desc.specs.declared.SttModel.{SttModel}
use Rattle.window_model.specs.declared.Entry.{Entry}
use Rattle.window_model.specs.Around.{Around, is_free}
use Rattle.window_model.specs.Order.{is_waiting, is_done, is_store, has_address, has_data, operand, sources, base_of, others_of}
use Rattle.window_model.specs.Taint.{any_tainted, address_tainted}
use Rattle.window_model.specs.Ready.{all_known, ready}
use Rattle.window_model.specs.Delay.{may_show}
use Rattle.window_model.specs.Dependence.{waits_for_stores}
use Rattle.window_model.specs.Retire.{byte_count}
use Rattle.window_model.specs.Access.{covers}

-- ---- the operands of an entry

-- the value of the first source
abbrev pub first_operand : List ℕ → List Entry → List ℕ → ℕ
first_operand regs before [] = 0
first_operand regs before (r ∷ rs) = operand regs before r

-- the value of the second source
abbrev pub second_operand : List ℕ → List Entry → List ℕ → ℕ
second_operand regs before [] = 0
second_operand regs before (r ∷ rs) = first_operand regs before rs

-- what the instruction makes of its operands
abbrev pub effect_of : List ℕ → List Entry → Entry → Effect
effect_of regs before e =
    effect e.item.pc e.item.instr (first_operand regs before (sources e)) (second_operand regs before (sources e))

-- ---- which entries may issue that are no stores

-- every older store is Done: both its address and what it writes are known
abbrev pub stores_done : List Entry → Bool
stores_done before = list_all (λ e. not (is_store e.item.kind) || is_done e.state) before

-- the address of a load or store: its base alone decides it
abbrev pub address_of : List ℕ → List Entry → Entry → ℕ
address_of regs before e = (effect e.item.pc e.item.instr (first_operand regs before (sources e)) 0).addr

-- the bytes of a load, none where it faults
abbrev pub bytes_of : Around → List Entry → Entry → List ℕ
bytes_of now before e =
    let a = address_of now.regs before e in unless_fault (load_fault now.ram a (byte_count e)) (range a (byte_count e))

-- the load passes stores of unknown address
abbrev pub passes_stores : Desc → Around → Entry → Bool
passes_stores d now e = loads_pass d && not (waits_for_stores d now.dependence e.item.pc)

-- a store lets a younger load of these bytes go: its address is known, or the load passes it; and its data is known, or
-- its address is untainted and it covers none of them
abbrev pub lets : SttModel → Bool → List ℕ → List Entry → Entry → Bool
lets model passes bytes before e =
    (has_address e || passes) && (has_data e || not (address_tainted model before e) && not (list_any (λ a. covers a e) bytes))

-- every older store lets a younger load of these bytes go
abbrev pub stores_let : SttModel → Bool → List ℕ → List Entry → Bool
stores_let model passes bytes [] = true
stores_let model passes bytes (e ∷ before) =
    (not (is_store e.item.kind) || lets model passes bytes before e) && stores_let model passes bytes before

-- what a load asks of the older stores: in version 1 that they are Done
abbrev pub goes_behind : Desc → Around → List Entry → Entry → Bool
goes_behind d now before e =
    if stores_in_one d then stores_done before else stores_let d.stt_model (passes_stores d now e) (bytes_of now before e) before

-- what loads and divisions ask for besides
abbrev pub may_issue_as : Kind → Desc → Around → List Entry → Entry → Bool
may_issue_as Load d now before e = (not (address_tainted d.stt_model before e) && may_show d before) && goes_behind d now before e
may_issue_as Div d now before e = (not (any_tainted d.stt_model before e) && may_show d before) && is_free now
may_issue_as _ d now before e = true

-- an entry that is no store: waiting and ready; a load with an untainted base, and behind stores that let it go; a
-- division with untainted operands, and a divider that is free
abbrev pub may_issue : Desc → Around → List Entry → Entry → Bool
may_issue d now before e = is_waiting e.state && ready d before e && may_issue_as e.item.kind d now before e

-- ---- which stores may issue

-- which ports a store asks for: that of addresses, and that of data
pub record Asks : Type 0 where
  pub address : Bool
  pub stored : Bool

-- a store of version 1 goes in one piece: once all its registers are there it asks for both ports, unless it has issued
abbrev pub asks_in_one : Desc → List Entry → Entry → Asks
asks_in_one d before e =
    let may = ready d before e && not (has_address e || has_data e) && may_show d before in record { address = may; stored = may }

-- a store of version 2 goes by parts: a part that hasn't issued asks for its port once its own register is there
abbrev pub asks_by_parts : Desc → List Entry → Entry → Asks
asks_by_parts d before e = record {
  address = not (has_address e) && (may_show d before && all_known d before (base_of (sources e)));
  stored = not (has_data e) && all_known d before (others_of (sources e));
}

-- which ports a store asks for in its version
abbrev pub store_asks : Desc → List Entry → Entry → Asks
store_asks d before e = if stores_in_one d then asks_in_one d before e else asks_by_parts d before e
