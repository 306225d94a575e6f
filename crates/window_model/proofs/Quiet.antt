-- What every phase but Retire leaves alone: the retired state, the count of the retired, and the end.
use Rattle.std.proofs.Common.{◌≡◌, List, Option, Some, None, refl, ◌∙◌}
use Rattle.rv_types.specs.Memory.{Code}
use Rattle.rv_types.specs.declared.End.{End}
use Rattle.machine_desc.specs.declared.Desc.{Desc}
use Rattle.window_model.specs.declared.Entry.{Entry}
use Rattle.window_model.specs.declared.Divider.{Divider}
use Rattle.window_model.specs.State.{Machine, then_does, nothing}
use Rattle.window_model.specs.Order.{first}
use Rattle.window_model.specs.Fill.{fill, complete}
use Rattle.window_model.specs.Resolve.{resolve}
use Rattle.window_model.specs.Clear.{clear}
use Rattle.window_model.specs.Retire.{hart_of, retire, unless_ended}
use Rattle.window_model.specs.Around.{around}
use Rattle.window_model.specs.Ports.{LoadPort, may_at}
use Rattle.window_model.specs.Issue.{issue}
use Rattle.window_model.specs.Rename.{rename}
use Rattle.window_model.specs.Fetch.{fetch}
use Rattle.window_model.specs.Cycle.{after_retire, before_retire, begins_cycle, cycle}
use Rattle.window_model.proofs.Issuing.{by_after_load}
use Rattle.window_model.proofs.Placing.{resolve_keep}
use Rattle.window_model.proofs.Clearing.{clear_keep}
use Rattle.window_model.proofs.Walks.{rename_keep, fetch_keep}

-- from one machine to the next the instruction set's state, the count of the retired and the end are as they were
pub record Quiet (x y : Machine) : Type 0 where
  pub hart : hart_of y ≡ hart_of x
  pub retired : y.retired ≡ x.retired
  pub ended : y.end ≡ x.end

pub quiet_same : (x : Machine) → Quiet x x
quiet_same x = record { hart = refl; retired = refl; ended = refl }

-- state, count and end that each of two steps leaves both together leave
pub quiet_then : (x y z : Machine) → Quiet x y → Quiet y z → Quiet x z
quiet_then x y z p q = record { hart = q.hart ∙ p.hart; retired = q.retired ∙ p.retired; ended = q.ended ∙ p.ended }

-- Fill leaves the instruction set's state, the count of the retired and the end
pub fill_quiet : (d : Desc) (x : Machine) → Quiet x (fill d x).machine
fill_quiet d x = record { hart = refl; retired = refl; ended = refl }

-- Complete leaves the instruction set's state, the count of the retired and the end
pub complete_quiet : (x : Machine) → Quiet x (complete x).machine
complete_quiet x = record { hart = refl; retired = refl; ended = refl }

-- Resolve leaves the instruction set's state, the count of the retired and the end
pub resolve_quiet : (d : Desc) (x : Machine) → Quiet x (resolve d x).machine
resolve_quiet d x = resolve_keep d (Quiet x) (λ y p t q k. record { hart = k.hart; retired = k.retired; ended = k.ended }) (λ y p t q k. record { hart = k.hart; retired = k.retired; ended = k.ended }) x (quiet_same x)

-- Clear leaves the instruction set's state, the count of the retired and the end
pub clear_quiet : (d : Desc) (x : Machine) → Quiet x (clear d x).machine
clear_quiet d x =
    clear_keep d (Quiet x) (λ y p t k. record { hart = k.hart; retired = k.retired; ended = k.ended })
    (λ y p q t v k. record { hart = k.hart; retired = k.retired; ended = k.ended }) x (quiet_same x)

-- Issue leaves the instruction set's state, the count of the retired and the end
pub issue_quiet : (d : Desc) (x : Machine) → Quiet x (issue d x).machine
issue_quiet d x =
    by_after_load d x (λ y. (w : List Entry) (v : Divider) → Quiet x (record y { window = w; divider = v }))
    (λ c s m w v. record { hart = refl; retired = refl; ended = refl }) (first (may_at d (around x) LoadPort) x.window) _ _

-- Rename leaves the instruction set's state, the count of the retired and the end
pub rename_quiet : (d : Desc) (x : Machine) → Quiet x (rename d x).machine
rename_quiet d x = rename_keep d (Quiet x) (λ y i rest q f k. record { hart = k.hart; retired = k.retired; ended = k.ended }) x (quiet_same x)

-- Fetch leaves the instruction set's state, the count of the retired and the end
pub fetch_quiet : (d : Desc) (code : Code) (x : Machine) → Quiet x (fetch d code x).machine
fetch_quiet d code x = fetch_keep d (Quiet x) code (λ y pc q r k. record { hart = k.hart; retired = k.retired; ended = k.ended }) x (quiet_same x)

-- ---- the phases before Retire, and those after it

-- the state that Retire finds
abbrev pub at_retire : Desc → Machine → Machine
at_retire d x = (before_retire d (begins_cycle x)).machine

-- the machine after a cycle: the phases before Retire go, then Retire, then those after it
pub cycle_is : (d : Desc) (code : Code) (x : Machine) → (cycle d code x).machine ≡ (after_retire d code (retire d (at_retire d x)).machine).machine
unfolding cycle
cycle_is d code x = refl

-- the phases before Retire leave the instruction set's state, the count of the retired and the end
pub before_quiet : (d : Desc) (x : Machine) → Quiet x (at_retire d x)
before_quiet d x =
    let x1 = begins_cycle x in
    let x2 = (fill d x1).machine in
    let x3 = (complete x2).machine in
    let x4 = (resolve d x3).machine in
    let x5 = (clear d x4).machine in
    let begun : Quiet x x1 = record { hart = refl; retired = refl; ended = refl } in
    quiet_then x x1 x5 begun
    (quiet_then x1 x2 x5 (fill_quiet d x1)
    (quiet_then x2 x3 x5 (complete_quiet x2) (quiet_then x3 x4 x5 (resolve_quiet d x3) (clear_quiet d x4))))

behind : (d : Desc) (code : Code) (o : Option End) (x : Machine) → Quiet x (unless_ended o (nothing x) (then_does (issue d x) (λ y. then_does (rename d y) (fetch d code)))).machine
behind d code (Some e) x = quiet_same x
behind d code None x =
    let y = (issue d x).machine in
    let z = (rename d y).machine in
    quiet_then x y (fetch d code z).machine (issue_quiet d x) (quiet_then y z (fetch d code z).machine (rename_quiet d y) (fetch_quiet d code z))

-- the phases after Retire leave the instruction set's state, the count of the retired and the end
pub after_quiet : (d : Desc) (code : Code) (x : Machine) → Quiet x (after_retire d code x).machine
after_quiet d code x = behind d code x.end x
