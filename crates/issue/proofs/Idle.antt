-- Where no station is able every entry stays as it is.
use Rattle.std.proofs.Common.{◌≡◌, ℕ, zero, suc, Bool, true, false, List, [], ◌∷◌, take, Some, None, refl, ap, ap₂, sym, subst, ◌∙◌, slice_get, ◌++◌, append-nil}
use Rattle.std.specs.Prelude.{if◌then◌else◌, map}
use Rattle.std.specs.List.{flat_map, list_any, AllByRecursion as Each}
use Rattle.std.specs.Option.{option_map}
use mathlib.Core.List.{reverse_aux}
use Rattle.machine_desc.specs.declared.Desc.{Desc}
use Rattle.window_model.specs.declared.Entry.{Entry}
use Rattle.window_model.specs.Along.{Along, Fact}
use Rattle.window_model.specs.Row.{Row}
use Rattle.window_model.specs.inner.Row.{with_events}
use Rattle.window_model.specs.State.{Machine}
use Rattle.window_model.specs.Around.{Around, around}
use Rattle.window_model.specs.Order.{Place, before_at, each_from, first_from, is_waiting}
use Rattle.window_model.specs.Ports.{Port, DivPort, LoadPort, may_at}
use Rattle.window_model.specs.Issue.{issue, issue_entry, taken_for, waits}
use Rattle.window_model.proofs.Booleans.{neither}
use Rattle.machine_facts.specs.Sized.{HasParts, Together}
use Rattle.stations.specs.Stations.{Station, is_able}
use Rattle.refinement.proofs.Ready.{tells_able}
use Rattle.refinement.specs.InFlight.{InFlight}
use Rattle.refinement.specs.Refines.{Refines}
use Rattle.refinement.specs.Stations.{station_of}
use Rattle.refinement.specs.Telling.{MovedBy, has_sources}
use Rattle.refinement.specs.Waiters.{wants_of}
use Rattle.visibility.specs.Point.{HasAdvanced}
use Rattle.core_parts.specs.Described.{Described}
use Rattle.core_parts.specs.Held.{Held, Sizes, Whole, described_of, in_flight, machine_of}
use Rattle.core_parts.proofs.Whole.{shown_by, told_by}
use Rattle.issue.specs.Shared.{divider_left}
use Rattle.issue.proofs.Leaving.{leaves}
use Rattle.issue.proofs.Asking.{AsksNone, InStep, not_able, not_waiting, step_at}
use Rattle.issue.proofs.Turning.{turn_none}

-- ---- no entry asks for a port

-- the answer of each station
answer_at : (held : List Station) (n : ℕ) (b : Bool) → list_any is_able held ≡ false → option_map is_able (slice_get held n) ≡ Some b → b ≡ false
answer_at [] n b h k = absurd (cc)
answer_at (s ∷ held) zero b h k = let no = (neither (is_able s) (list_any is_able held) h).0 in cc
answer_at (s ∷ held) (suc n) b h k = answer_at held n b (neither (is_able s) (list_any is_able held) h).1 k

-- an entry that doesn't wait, and one that lacks what it wants, asks for no port
none_by : (d : Desc) (now : Around) (before : List Entry) (e : Entry) (w : Bool) → InStep d e → is_waiting e.state ≡ w → (is_waiting e.state ≡ true → has_sources (wants_of d.version e) d before e ≡ false) → AsksNone d now before e
none_by d now before e true t w r = not_able d now before e w (r w)
none_by d now before e false t w r = not_waiting d now before e t w

-- what each position has, each entry has
along_by : (P : Fact) (before es : List Entry) → ((i : ℕ) (e : Entry) → slice_get es i ≡ Some e → P (reverse_aux (take i es) before) e) → Along P before es
along_by P before [] h = tt
along_by P before (e ∷ es) h = (h 0 e refl, along_by P (e ∷ before) es (λ i e2 k. h (suc i) e2 k))

pub all_stay : (d : Desc) (now : Around) (p : InFlight) → p.version ≡ d.version → Refines p → MovedBy d p → Each HasParts p.window → Each (Together d) p.window → list_any is_able p.held ≡ false → Along (AsksNone d now) [] p.window
all_stay d now p v s moved parts together none = along_by (AsksNone d now) [] p.window (λ i e h.
    none_by d now (before_at p.window i) e (is_waiting e.state) (step_at d p.window i e parts together h) refl (λ w. subst (λ v. has_sources (wants_of v e) d (before_at p.window i) e ≡ false) v (answer_at p.held (station_of i p.window) (has_sources (wants_of p.version e) d (before_at p.window i) e) none (tells_able d p i e s moved h w))))

-- ---- Where none of these may issue, nothing changes

module _ (d : Desc) (now : Around) where
  each_waits : (before es : List Entry) → Along (AsksNone d now) before es → each_from (issue_entry d now) before es ≡ map waits es
  each_waits before [] h = refl
  each_waits before (e ∷ es) h =
      ap₂ (λ b bs. b ∷ bs) (turn_none d now before e h.0) (each_waits (e ∷ before) es h.1)

  none_first : (port : Port) (before es : List Entry) → Along (AsksNone d now) before es → first_from (may_at d now port) before es ≡ None
  none_first port before [] h = refl
  none_first port before (e ∷ es) h =
      ap (λ m. if m then Some (record { before = before; entry = e; younger = es }) else first_from (may_at d now port) (e ∷ before) es) (h.0 port)
      ∙ none_first port (e ∷ before) es h.1

same_entries : (es : List Entry) → map (λ b. b.entry) (map waits es) ≡ es
same_entries [] = refl
same_entries (e ∷ es) = ap (λ es. e ∷ es) (same_entries es)

no_events : (es : List Entry) → flat_map (λ b. b.events) (map waits es) ≡ []
no_events [] = refl
no_events (e ∷ es) = no_events es

module _ (d : Desc) (x : Machine) (h : Along (AsksNone d (around x)) [] x.window) where
  -- the phase has no event
  pub idle_events : (issue d x).events ≡ []
  idle_events = ap (flat_map (λ b. b.events)) (each_waits d (around x) [] x.window h) ∙ no_events x.window

  -- the phase leaves the machine as it is, where no entry issues
  pub idle_machine : x ≡ (issue d x).machine
  idle_machine =
      leaves d x x.window None x.cache x.second x.misses x.divider
      (sym (ap (map (λ b. b.entry)) (each_waits d (around x) [] x.window h) ∙ same_entries x.window))
      (sym (ap (option_map _) (none_first d (around x) LoadPort [] x.window h)))
      refl refl refl
      (sym (ap (λ o. divider_left (option_map (λ (p : Place). taken_for (around x) p.before p.entry) o) x.divider) (none_first d (around x) DivPort [] x.window h)))

-- ---- of parts with no station that is able

-- no entry asks for a port
none_may : (h : Held) → Whole h → HasAdvanced h.point h.rob.entries → list_any is_able h.stations.held ≡ false → Along (AsksNone h.desc (around (machine_of h))) [] h.rob.entries
none_may h w a none =
    let moved : MovedBy h.desc (in_flight h) = record { advanced = a; model = ap (λ (s : Sizes). s.model) w.made; holds = refl } in
    all_stay h.desc (around (machine_of h)) (in_flight h) refl w.refines moved w.sized.parts w.sized.together none

-- where no station is able, the phase leaves what is described of the parts, and has no event
pub idle_shown : (h : Held) (v : Described) → Whole h → HasAdvanced h.point h.rob.entries → list_any is_able h.stations.held ≡ false → described_of h ≡ v → described_of h ≡ record v { machine = (issue v.desc v.machine).machine }
idle_shown h v w a none s = shown_by (λ d x. (issue d x).machine) h (machine_of h) v (idle_machine h.desc (machine_of h) (none_may h w a none)) s

pub idle_row : (h : Held) (v : Described) (row : Row) → Whole h → HasAdvanced h.point h.rob.entries → list_any is_able h.stations.held ≡ false → described_of h ≡ v → row ≡ with_events row (issue v.desc v.machine).events
idle_row h v row w a none s =
    told_by (λ d x. issue d x) h v row row
    (ap (λ es. record row { events = es }) (sym (ap (λ es. row.events ++ es) (idle_events h.desc (machine_of h) (none_may h w a none)) ∙ append-nil row.events))) s
