-- Which store in the queue may be cleared, by what is told of it (docs/machine.md, "Clear").
use Rattle.std.specs.Prelude.{◌≡◌, ℕ, Bool, true, not, ◌&&◌}
use Rattle.std.specs.List.{find}
use Rattle.std.specs.Option.{option_map}
use Rattle.machine_desc.specs.declared.Desc.{Desc}
use Rattle.window_model.specs.Clear.{may_clear}
use Rattle.window_model.specs.Order.{first}
use Rattle.lsq.specs.declared.clearing.StoreInfo.{StoreInfo}
use Rattle.lsq.specs.declared.store.Store.{Store}
use Rattle.lsq.specs.Clearing.{info_of}
use Rattle.visibility.specs.Point.{HasAdvanced, is_hidden}
use Rattle.refinement.specs.InFlight.{InFlight}
use Rattle.refinement.specs.Refines.{Refines}

-- what is told of a store says that it may be cleared, where entries up to the point are visible: it is known where it
-- writes, it isn't cleared, and its root isn't behind the point
abbrev pub may_clear_by : ℕ → StoreInfo → Bool
may_clear_by point s = s.known && not s.cleared && not (is_hidden point s.root)

-- a store in the queue may be, by what is told of it
abbrev pub can_clear : ℕ → Store → Bool
can_clear point s = may_clear_by point (info_of s)

-- the oldest such store is the one that the machine clears, where parts that track who is cleared refine the window and
-- the point has advanced
abbrev pub FindsClearable : Type 0
FindsClearable = (d : Desc) (p : InFlight) → Refines p → HasAdvanced p.point p.window → p.point.model ≡ d.stt_model → p.tracked ≡ true →
    option_map (λ s. s.serial) (find (can_clear p.point.serial) p.queues.stores) ≡ option_map (λ q. q.entry.serial) (first (may_clear d) p.window)
