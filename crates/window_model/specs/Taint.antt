-- Speculative taint: what a load reads may be secret until the load is visible (docs/machine.md, "Writers and roots",
-- "Safe and visible").
use Rattle.std.specs.Prelude.{ℕ, ◌-◌, Bool, true, false, not, ◌&&◌, List, [], ◌∷◌, ◌++◌, length, drop, if◌then◌else◌}
use Rattle.std.specs.List.{list_all, list_any, flat_map}
use Rattle.rv_types.specs.declared.Kind.{Kind}
use Rattle.rv_types.specs.declared.Kind.TheVariants.{Load, Store, Branch, Jalr, Call, Stop}
use Rattle.window_model.specs.declared.Entry.{Entry}
use Rattle.machine_desc.specs.declared.SttModel.{SttModel}
use Rattle.machine_desc.specs.declared.SttModel.TheVariants.{Spectre, Futuristic, Off}
use Rattle.window_model.specs.Order.{is_done, is_load, is_faulty, writes, sources, base_of}

-- by its kind, the entry squashes nothing that comes after it. Of a store this asks `cleared` alone, and not whether it
-- needs clearing: a store that needs none is cleared from its renaming on (`needs_clearing` of `Dependence.antt`)
abbrev pub safe_as : Kind → Entry → Bool
safe_as Load e = is_done e.state && not (is_faulty e)
safe_as Store e = is_done e.state && not (is_faulty e) && e.cleared
safe_as Branch e = e.resolved && not (is_faulty e)
safe_as Jalr e = e.resolved && not (is_faulty e)
safe_as Call e = false
safe_as (Stop cause) e = false
safe_as _ e = true

-- the entry squashes nothing that comes after it
abbrev pub safe : Entry → Bool
safe e = safe_as e.item.kind e

-- by its kind, whether it is resolved and whether it is cleared: the entry squashes nothing that comes after it, but by
-- a fault. Of a store this asks `cleared` alone, and not whether it needs clearing: a store that needs none, since no
-- load passes it, is cleared from its renaming on (`needs_clearing` of `Dependence.antt`) and holds up nothing
abbrev pub settled_as : Kind → Bool → Bool → Bool
settled_as Branch resolved cleared = resolved
settled_as Jalr resolved cleared = resolved
settled_as Store resolved cleared = cleared
settled_as _ resolved cleared = true

-- the entry, if it is a branch or JALR, is resolved, and if it is a store, is cleared
abbrev pub settled : Entry → Bool
settled e = settled_as e.item.kind e.resolved e.cleared

-- the model protects: under any but `off` there is something that isn't visible
abbrev pub protects : SttModel → Bool
protects Off = false
protects _ = true

-- the entry permits what comes after it to be visible: it doesn't keep it from being so
abbrev pub permits : SttModel → Entry → Bool
permits Spectre e = settled e
permits Futuristic e = safe e
permits Off e = true

-- what stands after these entries has reached its visibility point: all of them permit it
abbrev pub visible : SttModel → List Entry → Bool
visible model before = list_all (permits model) before

-- the oldest j of these entries
abbrev pub oldest : ℕ → List Entry → List Entry
oldest j before = drop (length before - j) before

-- the positions of the loads from which a register's value after these entries flows
abbrev pub roots : List Entry → ℕ → List ℕ
roots [] r = []
roots (e ∷ before) r =
    if writes r e
    then (if is_load e.item.kind then length before ∷ [] else []) ++ flat_map (λ s. roots before s) (sources e)
    else roots before r

-- a register has a root that is not visible
abbrev pub tainted : SttModel → List Entry → ℕ → Bool
tainted model before r = list_any (λ j. not (visible model (oldest j before))) (roots before r)

-- an operand of the entry is tainted
abbrev pub any_tainted : SttModel → List Entry → Entry → Bool
any_tainted model before e = list_any (tainted model before) (sources e)

-- the base register of a load or store is tainted
abbrev pub address_tainted : SttModel → List Entry → Entry → Bool
address_tainted model before e = list_any (tainted model before) (base_of (sources e))
