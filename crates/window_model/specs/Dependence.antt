-- Which loads may pass stores of unknown address (docs/machine.md, "Clear").
use Rattle.std.specs.Prelude.{ℕ, Bool, true, false, ◌&&◌, List, slice_set, slice_index_or}
use Rattle.rv_types.specs.declared.Kind.{Kind}
use Rattle.machine_desc.specs.declared.Desc.{Desc}
use Rattle.machine_desc.specs.Questions.{loads_pass}
use Rattle.window_model.specs.Order.{is_store}
use Rattle.window_model.specs.Resolve.{index}

-- where the bit of a load at this address stands
abbrev pub bit_index : Desc → ℕ → ℕ
bit_index d pc = index pc d.predictor_depend

-- the load's bit is set
abbrev pub waits_for_stores : Desc → List Bool → ℕ → Bool
waits_for_stores d dependence pc = slice_index_or dependence (bit_index d pc) false

-- the bits once a load at this address has passed a store wrongly: its own is set for good
abbrev pub bit_set : Desc → ℕ → List Bool → List Bool
bit_set d pc dependence = slice_set dependence (bit_index d pc) true

-- an entry of this kind has to be cleared before it counts as cleared: a store, where there are bits of dependence and
-- so loads may pass it. Any other entry is cleared from its renaming on
abbrev pub needs_clearing : Desc → Kind → Bool
needs_clearing d k = loads_pass d && is_store k
