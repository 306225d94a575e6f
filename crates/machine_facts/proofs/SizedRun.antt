-- A cycle and a run keep sizes and entries, and leave memory where it is.
use Rattle.std.proofs.Common.{ℕ, ap, sym, subst}
use Rattle.rv_types.specs.Memory.{Code, Ram}
use Rattle.machine_desc.specs.declared.Desc.{Desc}
use Rattle.machine_desc.specs.Ranges.{IsDesc}
use Rattle.window_model.specs.Shape.{SameShape}
use Rattle.window_model.specs.State.{Machine, opening}
use Rattle.window_model.specs.Cycle.{begins_cycle, cycle, at}
use Rattle.window_model.proofs.Walks.{cycle_keep, run_keep}
use Rattle.window_model.specs.Fill.{fill, complete}
use Rattle.window_model.specs.Resolve.{resolve}
use Rattle.window_model.specs.Retire.{retire}
use Rattle.rv_types.specs.Isa.{Hart}
use Rattle.window_model.proofs.Quiet.{at_retire, cycle_is, before_quiet, after_quiet}
use Rattle.machine_facts.specs.Sized.{Sized}
use Rattle.machine_facts.proofs.SizedPhases.{sized_opening, sized_begin, sized_fill, sized_complete, sized_resolve, sized_issue, sized_rename, sized_fetch}
use Rattle.machine_facts.proofs.ClearPhases.{sized_clear}
use Rattle.machine_facts.proofs.SizedRetire.{sized_retire, memory_stays_retire}
use Rattle.window_model.proofs.Memory.{same_shape, shape_then}

-- a machine keeps its sizes over a cycle
pub sized_cycle : (d : Desc) (code : Code) (x : Machine) → IsDesc d → Sized d x → Sized d (cycle d code x).machine
sized_cycle d code x i s =
    cycle_keep d (Sized d) code (λ x. sized_issue d x i) (λ x. sized_rename d x i) (λ x. sized_fetch d code x i) (λ x. sized_resolve d x i) (λ x. sized_clear d x i) (λ x. sized_retire d x i)
    (λ x. sized_begin d x i) (λ x. sized_fill d x i) (λ x. sized_complete d x i) x s

-- every state of a run has its sizes
pub sized_at : (d : Desc) (code : Code) (entry : ℕ) (ram : Ram) (k : ℕ) → IsDesc d → Sized d (at d code entry ram k)
sized_at d code entry ram k i = run_keep d (Sized d) code (λ x. sized_cycle d code x i) k (opening d entry ram) (sized_opening d entry ram i)

-- the state that Retire finds has its sizes
pub sized_at_retire : (d : Desc) (x : Machine) → IsDesc d → Sized d x → Sized d (at_retire d x)
sized_at_retire d x i s =
    let x1 = begins_cycle x in
    let x2 = (fill d x1).machine in
    let x3 = (complete x2).machine in
    sized_clear d (resolve d x3).machine i (sized_resolve d x3 i (sized_complete d x2 i (sized_fill d x1 i (sized_begin d x i s))))

-- ---- memory stays where it is

-- a cycle leaves base and size of memory
pub memory_stays_cycle : (d : Desc) (code : Code) (x : Machine) → IsDesc d → Sized d x → SameShape x.ram (cycle d code x).machine.ram
memory_stays_cycle d code x i s =
    let y = at_retire d x in
    let z = (retire d y).machine in
    let before = ap (λ (h : Hart). h.ram) (before_quiet d x).hart in
    let after = ap (λ (h : Hart). h.ram) (after_quiet d code z).hart in
    let stays = subst (λ m. SameShape m z.ram) before (memory_stays_retire d y (sized_at_retire d x i s)) in
    subst (λ (u : Machine). SameShape x.ram u.ram) (sym (cycle_is d code x)) (subst (SameShape x.ram) (sym after) stays)

-- the state has its sizes, and memory lies where it did at first
record Lies (d : Desc) (ram : Ram) (x : Machine) : Type 0 where
  sized : Sized d x
  shape : SameShape ram x.ram

-- base and size of memory stay all over a run
pub memory_stays_at : (d : Desc) (code : Code) (entry : ℕ) (ram : Ram) (k : ℕ) → IsDesc d → SameShape ram (at d code entry ram k).ram
memory_stays_at d code entry ram k i =
    (run_keep d (Lies d ram) code (λ x h. record { sized = sized_cycle d code x i h.sized; shape = shape_then ram x.ram (cycle d code x).machine.ram h.shape (memory_stays_cycle d code x i h.sized) }) k
    (opening d entry ram) (record { sized = sized_opening d entry ram i; shape = same_shape ram })).shape
