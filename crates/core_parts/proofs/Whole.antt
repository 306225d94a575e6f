-- What holds of the parts in every state goes on to hold, and what is shown of them.
use Rattle.std.proofs.Common.{◌≡◌, ℕ, ◌+◌, true, false, ◌++◌, ap, sym, ◌∙◌, subst}
use Rattle.machine_desc.specs.declared.Desc.{Desc}
use Rattle.machine_desc.proofs.EveryDesc.{every_desc}
use Rattle.machine_facts.specs.Sized.{Sized}
use Rattle.machine_facts.proofs.SizedPhases.{sized_begin}
use Rattle.visibility.specs.Point.{Point, moved_over}
use Rattle.refinement.specs.Stations.{struck_by_move, struck_each}
use Rattle.stations.specs.Stations.{Stations}
use Rattle.window_model.specs.Ready.{holds}
use Rattle.window_model.specs.Row.{Row}
use Rattle.window_model.specs.State.{Machine, After}
use Rattle.core_parts.specs.Described.{Described}
use Rattle.core_parts.specs.Held.{Held, Whole, described_of, in_flight, machine_of}
use Rattle.refinement.specs.Steps.{with_moved}
use Rattle.refinement.proofs.Steps.{refines_moved}
use Rattle.core_parts.proofs.Waking.{at_point, none_released}

-- ---- what is shown of the parts

-- a phase of the machine that the parts hold is a phase of the machine that is seen
pub shown_by : (phase : Desc → Machine → Machine) (h : Held) (y : Machine) (v : Described) → y ≡ phase h.desc (machine_of h) → described_of h ≡ v →
    record { desc = h.desc; code = h.code; machine = y; point = h.point } ≡ record v { machine = phase v.desc v.machine }
shown_by phase h y v e s =
    let shown : Machine → Described = λ y. record { desc = h.desc; code = h.code; machine = y; point = h.point } in
    let after : Described → Described = λ v. record v { machine = phase v.desc v.machine } in
    ap shown e ∙ ap after s

-- the events of a phase of the machine that the parts hold are those of the machine that is seen
pub told_by : (phase : Desc → Machine → After) (h : Held) (v : Described) (old new : Row) → new ≡ record old { events = old.events ++ (phase h.desc (machine_of h)).events } → described_of h ≡ v →
    new ≡ record old { events = old.events ++ (phase v.desc v.machine).events }
told_by phase h v old new e s = e ∙ ap (λ (v : Described). record old { events = old.events ++ (phase v.desc v.machine).events }) s

-- ---- the steps that are no phase

-- the parts stay whole as the next cycle begins
pub begin_whole : (h : Held) (cycle : ℕ) → Whole h → cycle ≡ h.cycle + 1 → Whole (record h { cycle = cycle })
begin_whole h cycle w e = record {
  sized = subst (λ c. Sized h.desc (record (machine_of h) { cycle = c })) (sym e) (sized_begin h.desc (machine_of h) (every_desc h.desc) w.sized);
  refines = w.refines;
  made = w.made;
}

-- the point moves, and the stations are told
advance_whole : (h : Held) (point : Point) (stations : Stations) → Whole h → point ≡ moved_over h.rob.entries h.point →
    stations ≡ record (h.stations) { held = (with_moved (in_flight h)).held } → Whole (record h { point = point; stations = stations })
advance_whole h point stations w e t =
    subst (λ s. Whole (record h { point = point; stations = s })) (sym t)
    (subst (λ p. Whole (record h { point = p; stations = record (h.stations) { held = (with_moved (in_flight h)).held } })) (sym e)
    (record { sized = w.sized; refines = refines_moved (in_flight h) w.refines; made = w.made }))

-- where nothing is held back the stations are told nothing
nothing_told : (h : Held) → holds h.desc.stt_defence ≡ false → h.stations ≡ record (h.stations) { held = (with_moved (in_flight h)).held }
nothing_told h n =
    ap (λ held. record (h.stations) { held = held })
    (sym (ap (λ b. struck_by_move (record { holds = b; point = h.point.serial }) (record { holds = b; point = (moved_over h.rob.entries h.point).serial }) h.rob.entries h.stations.held) n
    ∙ ap (λ serials. struck_each serials h.stations.held) (none_released h.point.serial (moved_over h.rob.entries h.point).serial h.rob.entries)))

-- where results of loads are, they are told what the point passes
passed_told : (h : Held) (point : Point) (stations : Stations) → holds h.desc.stt_defence ≡ true → point ≡ moved_over h.rob.entries h.point →
    stations ≡ record (h.stations) { held = struck_by_move (at_point h.point.serial) (at_point point.serial) h.rob.entries h.stations.held } →
    stations ≡ record (h.stations) { held = (with_moved (in_flight h)).held }
passed_told h point stations y e t =
    t
    ∙ ap (λ (p : Point). record (h.stations) { held = struck_by_move (at_point h.point.serial) (at_point p.serial) h.rob.entries h.stations.held }) e
    ∙ ap (λ b. record (h.stations) { held = struck_by_move (record { holds = b; point = h.point.serial }) (record { holds = b; point = (moved_over h.rob.entries h.point).serial }) h.rob.entries h.stations.held }) (sym y)

pub advance_alone : (h : Held) (point : Point) → Whole h → holds h.desc.stt_defence ≡ false → point ≡ moved_over h.rob.entries h.point → Whole (record h { point = point })
advance_alone h point w n e = advance_whole h point h.stations w e (nothing_told h n)

pub advance_told : (h : Held) (point : Point) (stations : Stations) → Whole h → holds h.desc.stt_defence ≡ true → point ≡ moved_over h.rob.entries h.point →
    stations ≡ record (h.stations) { held = struck_by_move (at_point h.point.serial) (at_point point.serial) h.rob.entries h.stations.held } → Whole (record h { point = point; stations = stations })
advance_told h point stations w y e t = advance_whole h point stations w e (passed_told h point stations y e t)
