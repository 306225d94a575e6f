-- A cycle has few events, and raises serials and the count of the retired by no more than four.
use Rattle.std.proofs.Common.{◌≡◌, ℕ, ◌+◌, ◌*◌, ◌≤◌, ◌++◌, length, Option, Some, None, refl, ◌∙◌, arith}
use Rattle.rv_types.specs.Memory.{Code, Ram}
use Rattle.rv_types.specs.declared.End.{End}
use Rattle.machine_desc.specs.declared.Desc.{Desc}
use Rattle.machine_desc.specs.Ranges.{IsDesc}
use Rattle.machine_desc.specs.declared.keys.Key.TheVariants.{CoreRob}
use Rattle.machine_desc.proofs.Newest.{in_newest}
use Rattle.window_model.specs.State.{Machine, After, opening, then_does, nothing}
use Rattle.window_model.specs.Fill.{fill, complete}
use Rattle.window_model.specs.Resolve.{resolve}
use Rattle.window_model.specs.Clear.{clear}
use Rattle.window_model.specs.Retire.{retire, unless_ended}
use Rattle.window_model.specs.Issue.{issue}
use Rattle.window_model.specs.Rename.{rename}
use Rattle.window_model.specs.Fetch.{fetch}
use Rattle.window_model.specs.Cycle.{after_retire, at, before_retire, begins_cycle, cycle}
use Rattle.window_model.proofs.Quiet.{at_retire}
use Rattle.window_model.proofs.Telling.{retire_few}
use Rattle.window_model.proofs.Walks.{run_keep}
use Rattle.machine_facts.specs.Sized.{Sized}
use Rattle.machine_facts.specs.Timely.{Counted}
use Rattle.machine_facts.proofs.Adds.{Adds, joined, fill_adds, complete_adds, resolve_adds, retire_turns, rename_renames, fetch_adds}
use Rattle.machine_facts.proofs.ClearPhases.{clear_adds}
use Rattle.machine_facts.proofs.Ports.{issue_adds}
use Rattle.machine_facts.proofs.SizedRun.{sized_at_retire}

-- ---- the phases before Retire, and those after it

before_adds : (d : Desc) (x : Machine) → Adds (length x.misses + (length x.window + 7)) x (before_retire d x)
before_adds d x =
    let a = fill d x in
    let b = complete a.machine in
    let c = resolve d b.machine in
    let p = fill_adds d x in
    let q = complete_adds a.machine in
    let e = clear d c.machine in
    let r = resolve_adds d b.machine in
    let s = clear_adds d c.machine in
    record {
      events =
          joined (length x.misses) (length x.window + 7) a.events (b.events ++ (c.events ++ e.events)) p.events
          (joined (length x.window) 7 b.events (c.events ++ e.events) q.events (joined 3 4 c.events e.events r.events s.events));
      cycle = s.cycle ∙ r.cycle ∙ q.cycle ∙ p.cycle;
      serials = s.serials ∙ r.serials ∙ q.serials ∙ p.serials;
      retired = s.retired ∙ r.retired ∙ q.retired ∙ p.retired;
    }

-- what the phases after Retire keep and add: at most this many events, and n serials
record AddsAfter (most n : ℕ) (x : Machine) (a : After) : Type 0 where
  events : length a.events ≤ most
  cycle : a.machine.cycle ≡ x.cycle
  serials : a.machine.next_serial ≤ x.next_serial + n
  retired : a.machine.retired ≡ x.retired

after_adds : (d : Desc) (code : Code) (o : Option End) (x : Machine) → AddsAfter (d.units_alus + 7 + (d.core_fetch_width + d.core_fetch_width)) d.core_fetch_width x (unless_ended o (nothing x) (then_does (issue d x) (λ y. then_does (rename d y) (fetch d code))))
after_adds d code (Some e) x = record { events = omega arith; cycle = refl; serials = omega arith; retired = refl }
after_adds d code None x =
    let i = issue d x in
    let r = rename d i.machine in
    let f = fetch d code r.machine in
    let p = issue_adds d x in
    let q = rename_renames d i.machine in
    let u = fetch_adds d code r.machine in
    record {
      events = joined (d.units_alus + 7) (d.core_fetch_width + d.core_fetch_width) i.events (r.events ++ f.events) p.events (joined d.core_fetch_width d.core_fetch_width r.events f.events q.events u.events);
      cycle = u.cycle ∙ q.cycle ∙ p.cycle;
      serials = omega (arith, u.serials, q.serials, p.serials);
      retired = u.retired ∙ q.retired ∙ p.retired;
    }

-- ---- a cycle as a whole

-- no cycle has more than 232 events
pub few_events : (d : Desc) (code : Code) (x : Machine) → IsDesc d → Sized d x → length (cycle d code x).row.events ≤ 232
unfolding cycle
few_events d code x i s =
    let x1 = begins_cycle x in
    let f = before_retire d x1 in
    let r = retire d f.machine in
    let k = after_retire d code r.machine in
    let n = length x.misses + (length x.window + 7) in
    let few = retire_few d f.machine (sized_at_retire d x i s).call_alone in
    let w = joined n (d.core_retire_width + 2) f.events r.events (before_adds d x1).events few in
    let rob : d.core_rob ≤ 192 = (in_newest d CoreRob).1 in
    let all = joined (n + (d.core_retire_width + 2)) (d.units_alus + 7 + (d.core_fetch_width + d.core_fetch_width)) (f.events ++ r.events) k.events w (after_adds d code r.machine.end r.machine).events in
    small (length ((f.events ++ r.events) ++ k.events)) (length x.misses) (length x.window) d.core_retire_width d.units_alus d.core_fetch_width all
    (omega (arith, s.misses, i.mshrs.1)) (omega (arith, s.entries, rob)) i.retire_width.1 i.alus.1 i.fetch_width.1
  where
    small : (n m w r u f : ℕ) → n ≤ m + (w + 7) + (r + 2) + (u + 7 + (f + f)) → m ≤ 8 → w ≤ 192 → r ≤ 4 → u ≤ 4 → f ≤ 4 → n ≤ 232
    small n m w r u f h a b c e g = omega arith

-- a cycle's number is one more than that of the cycle before
pub cycle_number : (d : Desc) (code : Code) (x : Machine) → (cycle d code x).machine.cycle ≡ x.cycle + 1
unfolding cycle
cycle_number d code x =
    let x1 = begins_cycle x in
    let y = at_retire d x in
    let z = (retire d y).machine in
    (after_adds d code z.end z).cycle ∙ (retire_turns d y).cycle ∙ (before_adds d x1).cycle

-- a cycle keeps that at most four instructions a cycle were renamed, and at most four have retired
pub counts_cycle : (d : Desc) (code : Code) (x : Machine) → IsDesc d → Counted x → Counted (cycle d code x).machine
unfolding cycle
counts_cycle d code x i h =
    let x1 = begins_cycle x in
    let y = at_retire d x in
    let z = (retire d y).machine in
    let p = before_adds d x1 in
    let q = retire_turns d y in
    let r = after_adds d code z.end z in
    record {
      serials = more y.next_serial x.next_serial z.next_serial _ y.cycle z.cycle _ x.cycle d.core_fetch_width p.cycle q.cycle r.cycle i.fetch_width.1 h.serials p.serials (omega (arith, q.serials)) r.serials;
      retired = less y.retired x.retired z.retired _ y.cycle z.cycle _ x.cycle d.core_retire_width p.cycle q.cycle r.cycle i.retire_width.1 h.retired p.retired q.retired r.retired;
    }
  where
    more : (y x z k yc zc kc xc w : ℕ) → yc ≡ xc + 1 → zc ≡ yc → kc ≡ zc → w ≤ 4 → x ≤ 4 * xc → y ≡ x → z ≤ y → k ≤ z + w → k ≤ 4 * kc
    more y x z k yc zc kc xc w a b c e f g h j = omega arith

    less : (y x z k yc zc kc xc w : ℕ) → yc ≡ xc + 1 → zc ≡ yc → kc ≡ zc → w ≤ 4 → x ≤ 4 * xc → y ≡ x → z ≤ y + w → k ≡ z → k ≤ 4 * kc
    less y x z k yc zc kc xc w a b c e f g h j = omega arith

-- as a run begins nothing is renamed and nothing has retired
pub counts_opening : (d : Desc) (entry : ℕ) (ram : Ram) → Counted (opening d entry ram)
counts_opening d entry ram = record { serials = omega arith; retired = omega arith }

-- in each state of a run at most four instructions a cycle were renamed, and at most four have retired
pub counts_at : (d : Desc) (code : Code) (entry : ℕ) (ram : Ram) (k : ℕ) → IsDesc d → Counted (at d code entry ram k)
counts_at d code entry ram k i = run_keep d Counted code (λ x. counts_cycle d code x i) k (opening d entry ram) (counts_opening d entry ram)
