-- What has issued of a store is known as Resolve, Clear, Retire and Issue begin.
use Rattle.std.proofs.Common.{◌≡◌, ℕ, ◌+◌, true, List, Option, Some, None, refl, sym, arith, is_some}
use Rattle.std.proofs.lemmas.Bool.Decides.{nat_tests}
use Rattle.std.specs.Prelude.{nat_le, reverse}
use Rattle.std.specs.List.{AllByRecursion as Each}
use Rattle.machine_desc.specs.declared.Desc.{Desc}
use Rattle.window_model.specs.declared.Entry.{Entry}
use Rattle.window_model.specs.State.{Machine}
use Rattle.window_model.specs.Resolve.{resolve}
use Rattle.window_model.specs.Clear.{clear}
use Rattle.window_model.specs.Retire.{retire}
use Rattle.window_model.specs.Cycle.{at}
use Rattle.window_model.proofs.Lists.{each_join, each_left, each_right, each_then}
use Rattle.window_model.proofs.Placing.{place_keep}
use Rattle.window_model.proofs.Walks.{retire_keep, head_drops}
use Rattle.machine_facts.specs.Timely.{PartDue, PartsDue}
use Rattle.machine_facts.specs.Known.{is_known_at, KnownIfIssued, IssuedIsKnown}
use Rattle.machine_facts.proofs.ClearPhases.{clear_each}
use Rattle.machine_facts.proofs.Dues.{parts_left}
use Rattle.machine_facts.proofs.TimelyRun.{timely_at}

-- ---- a part that is due by the next cycle is known then

known_from : (cycle : ℕ) (due : Option ℕ) → PartDue cycle due → is_some due ≡ is_known_at (cycle + 1) due
known_from cycle None h = refl
known_from cycle (Some due) h = let now : nat_le due (cycle + 1) ≡ true = grind (arith, nat_tests, h) in sym now

all_known : (cycle : ℕ) (w : List Entry) → Each (PartsDue cycle) w → Each (KnownIfIssued (cycle + 1)) w
all_known cycle = each_then (PartsDue cycle) (KnownIfIssued (cycle + 1)) (λ e h. (known_from cycle e.addr_due h.0, known_from cycle e.data_due h.1))

-- ---- no phase before Issue changes a part

module _ (d : Desc) (cycle : ℕ) where
  abbrev Due : List Entry → Type 0
  Due w = Each (PartsDue cycle) w

  resolve_due : (x : Machine) → Due x.window → Due (resolve d x).machine.window
  resolve_due =
      place_keep d Due (each_left (PartsDue cycle)) (λ b e ys m h.
      each_join (PartsDue cycle) (reverse b) _ (each_left (PartsDue cycle) (reverse b) _ h) (each_right (PartsDue cycle) (reverse b) _ h))

  clear_due : (x : Machine) → Due x.window → Due (clear d x).machine.window
  clear_due = clear_each (PartsDue cycle) (λ e k. k) d

  retire_due : (x : Machine) → Due x.window → Due (retire d x).machine.window
  retire_due = retire_keep d (λ x. Due x.window) (head_drops Due (λ e rest h. h.1) d) (λ x end h. h)

-- in every cycle of a run what has issued of a store is known as Resolve, Clear, Retire and Issue begin
pub issued_is_known : IssuedIsKnown
issued_is_known d code entry ram k i =
    let x = at d code entry ram k in
    let executed = parts_left x.cycle (x.cycle + 1) x.window (timely_at d code entry ram k i).parts in
    let resolved = resolve_due d x.cycle _ executed in
    let cleared = clear_due d x.cycle _ resolved in
    (all_known x.cycle _ executed, all_known x.cycle _ resolved, all_known x.cycle _ cleared, all_known x.cycle _ (retire_due d x.cycle _ cleared))
