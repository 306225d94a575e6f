-- The parts once an entry is Done.
use Rattle.std.proofs.Common.{◌≡◌, ℕ, ◌<◌, Bool, not, false, length, Option, Some, None, refl, ap, sym, ◌∙◌, subst, slice_get}
use Rattle.std.specs.Prelude.{slice_set}
use Rattle.std.specs.Option.{option_map}
use Rattle.std.specs.Slice.Scan.{HoldsNowhere, holds_at}
use Rattle.std.proofs.lemmas.Option.{slice_get_within}
use Rattle.window_model.specs.declared.Entry.{Entry}
use Rattle.window_model.specs.Fill.{completes}
use Rattle.window_model.specs.Order.{is_waiting}
use Rattle.window_model.proofs.Booleans.{some_of}
use Rattle.window_model.proofs.Lists.{set_here}
use Rattle.machine_facts.proofs.Parts.{IsEntry}
use Rattle.rob_ring.specs.Ring.{IsNext, Ring, in_execution}
use Rattle.stations.specs.Stations.{Stations}
use Rattle.refinement.specs.Stations.{struck_if_given}
use Rattle.refinement.specs.Telling.{hold_of}
use Rattle.core_parts.specs.Described.{Described}
use Rattle.core_parts.specs.Held.{Held, Whole, described_of, in_flight, machine_of}
use Rattle.core_parts.proofs.Sizes.{sized_set}
use Rattle.refinement.proofs.Steps.{refines_done}
use Rattle.complete.proofs.Turns.{done}

some_here : (o : Option Entry) → option_map (λ (e : Entry). is_waiting e.state) o ≡ Some false → (e : Entry) × (o ≡ Some e) × (is_waiting e.state ≡ false)
some_here None h = absurd (cc)
some_here (Some e) h = (e, refl, let k : Some (is_waiting e.state) ≡ Some false = h in cc)

pub is_inside : (h : Held) (v : Described) (i : ℕ) → Whole h → described_of h ≡ v → option_map (λ (e : Entry). is_waiting e.state) (slice_get v.machine.window i) ≡ Some false → i < length h.rob.entries
is_inside h v i w s a =
    let k = some_here (slice_get h.rob.entries i) (ap (λ (v : Described). option_map (λ (e : Entry). is_waiting e.state) (slice_get v.machine.window i)) s ∙ a) in
    slice_get_within h.rob.entries i k.0 k.1

-- ---- what is there once it is set

set_there : (h : Held) (i : ℕ) (e : Entry) (rob : Ring) → slice_get h.rob.entries i ≡ Some e → rob ≡ record (h.rob) { entries = slice_set h.rob.entries i (done e) } → slice_get rob.entries i ≡ Some (done e)
set_there h i e rob here sets = ap (λ (r : Ring). slice_get r.entries i) sets ∙ set_here h.rob.entries i e (done e) here

-- there still is an entry at the position, once the one that stood there is Done
pub still_inside : (h : Held) (i : ℕ) (e : Entry) (rob : Ring) → Whole h → slice_get h.rob.entries i ≡ Some e → rob ≡ record (h.rob) { entries = slice_set h.rob.entries i (done e) } → i < length rob.entries
still_inside h i e rob w here sets = slice_get_within rob.entries i _ (set_there h i e rob here sets)

-- ---- the parts once an entry is Done

module _ (h : Held) (v : Described) (i : ℕ) (e then : Entry) (rob : Ring) (stations : Stations) (w : Whole h) (s : described_of h ≡ v) (a : option_map (λ (e : Entry). is_waiting e.state) (slice_get v.machine.window i) ≡ Some false)
    (here : slice_get h.rob.entries i ≡ Some e) (sets : rob ≡ record (h.rob) { entries = slice_set h.rob.entries i (done e) }) (there : slice_get rob.entries i ≡ Some then)
    (wakes : stations ≡ record (h.stations) { held = struck_if_given (hold_of h.desc h.point) then h.stations.held }) where
  waits_not : is_waiting e.state ≡ false
  waits_not =
      let b = sym (ap (option_map (λ (e : Entry). is_waiting e.state)) here) ∙ ap (λ (v : Described). option_map (λ (e : Entry). is_waiting e.state) (slice_get v.machine.window i)) s ∙ a in
      let k : Some (is_waiting e.state) ≡ Some false = b in
      cc

  -- what wakes stations is the entry, Done
  is_done : then ≡ done e
  is_done = some_of then (done e) (sym there ∙ set_there h i e rob here sets)

  wakes_done : stations ≡ record (h.stations) { held = struck_if_given (hold_of h.desc h.point) (done e) h.stations.held }
  wakes_done = wakes ∙ ap (λ (e : Entry). record (h.stations) { held = struck_if_given (hold_of h.desc h.point) e h.stations.held }) is_done

  are : record h { rob = rob; stations = stations }
      ≡ record h {
        rob = record (h.rob) { entries = slice_set h.rob.entries i (done e) };
        stations = record (h.stations) { held = struck_if_given (hold_of h.desc h.point) (done e) h.stations.held };
      }
  are =
      ap (λ (r : Ring). record h { rob = r; stations = stations }) sets
      ∙ ap (λ (t : Stations). record h { rob = record (h.rob) { entries = slice_set h.rob.entries i (done e) }; stations = t }) wakes_done

  entry_done : IsEntry h.desc h.ram e → IsEntry h.desc h.ram (done e)
  entry_done k = record { kind = k.kind; memory = k.memory; outcome = k.outcome; parts = λ st. k.parts st ∙ ap not waits_not; together = k.together }

  pub finish_whole : Whole (record h { rob = rob; stations = stations })
  finish_whole = subst Whole (sym are) (record {
    sized = sized_set h.desc (machine_of h) i e (done e) here (record { item = refl; serial = refl; waits = λ k. absurd (cc) }) entry_done w.sized;
    refines = refines_done (in_flight h) i e w.refines here waits_not;
    made = w.made;
  })

  one_shown : described_of (record h { rob = rob; stations = stations }) ≡ record v { machine = record (v.machine) { window = slice_set v.machine.window i (done e) } }
  one_shown = ap described_of are ∙ ap (λ (v : Described). record v { machine = record (v.machine) { window = slice_set v.machine.window i (done e) } }) s

  was_here : slice_get v.machine.window i ≡ Some e
  was_here = subst (λ (v : Described). slice_get v.machine.window i ≡ Some e) s here

  pub serial_shown : option_map (λ (e : Entry). e.serial) (slice_get v.machine.window i) ≡ Some e.serial
  serial_shown = ap (option_map (λ (e : Entry). e.serial)) was_here

  -- whichever entry is there in the machine's window is this one
  pub finish_shown : (one : Entry) → slice_get v.machine.window i ≡ Some one →
      described_of (record h { rob = rob; stations = stations }) ≡ record v { machine = record (v.machine) { window = slice_set v.machine.window i (done one) } }
  finish_shown one at = one_shown ∙ ap (λ (e : Entry). record v { machine = record (v.machine) { window = slice_set v.machine.window i (done e) } }) (some_of e one (sym was_here ∙ at))

-- what is told of the entry in the buffer is told of the machine's
pub told_here : (h : Held) (v : Described) (i : ℕ) (b : Bool) → Whole h → described_of h ≡ v → option_map (completes h.cycle) (slice_get h.rob.entries i) ≡ Some b →
    option_map (completes v.machine.cycle) (slice_get v.machine.window i) ≡ Some b
told_here h v i b w s t = subst (λ (v : Described). option_map (completes v.machine.cycle) (slice_get v.machine.window i) ≡ Some b) s t

-- the next entry that executes in the parts is the next one in the machine's window
pub next_here : (h : Held) (v : Described) (from i : ℕ) → Whole h → described_of h ≡ v → IsNext in_execution h.rob.entries from i → IsNext in_execution v.machine.window from i
next_here h v from i w s t = subst (λ (v : Described). IsNext in_execution v.machine.window from i) s t

pub none_here : (h : Held) (v : Described) (from : ℕ) → Whole h → described_of h ≡ v → HoldsNowhere (holds_at in_execution h.rob.entries) from (length h.rob.entries) → HoldsNowhere (holds_at in_execution v.machine.window) from (length v.machine.window)
none_here h v from w s t = subst (λ (v : Described). HoldsNowhere (holds_at in_execution v.machine.window) from (length v.machine.window)) s t
