-- What the parts tell of who may issue (docs/machine.md, "Issue").
use Rattle.std.specs.Prelude.{◌≡◌, ℕ, Bool, true, ◌&&◌, List, Some, slice_get}
use Rattle.rv_types.specs.declared.Kind.{Kind}
use Rattle.rv_types.specs.declared.Kind.TheVariants.{Div, Load}
use Rattle.machine_desc.specs.declared.Desc.{Desc}
use Rattle.window_model.specs.declared.Entry.{Entry}
use Rattle.window_model.specs.Around.{Around, is_free}
use Rattle.window_model.specs.MayIssue.{goes_behind, may_issue_as}
use Rattle.window_model.specs.Order.{before_at}
use Rattle.rob_ring.specs.declared.beside.Sources.{Sources}
use Rattle.visibility.specs.Gate.{may_transmit}
use Rattle.visibility.specs.Point.{HasAdvanced}
use Rattle.refinement.specs.InFlight.{InFlight}
use Rattle.refinement.specs.Refines.{Refines}

-- what loads and divisions ask for beside untainted operands that they may show: older stores that let it go, a divider
-- that is free
abbrev pub asks_besides : Kind → Desc → Around → List Entry → Entry → Bool
asks_besides Load d now before e = goes_behind d now before e
asks_besides Div d now before e = is_free now
asks_besides _ d now before e = true

-- with what `may_transmit` answers by an entry's serial and roots it is what Issue asks for, where the parts refine the
-- window and the point has advanced
abbrev pub TellsIssue : Type 0
TellsIssue = (d : Desc) (p : InFlight) (i : ℕ) (e : Entry) (x : Sources) (now : Around) → Refines p → HasAdvanced p.point p.window →
    p.point.model ≡ d.stt_model → slice_get p.window i ≡ Some e → slice_get p.sources i ≡ Some x →
    may_issue_as e.item.kind d now (before_at p.window i) e ≡ (may_transmit e.item.kind d p.point.serial e.serial x.roots && asks_besides e.item.kind d now (before_at p.window i) e)
