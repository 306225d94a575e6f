-- The load that is violated, where it stands once the store is cleared, and what is left once it is fetched anew.
use Rattle.std.proofs.Common.{◌≡◌, ℕ, ◌<◌, true, [], ◌∷◌, length, Some, ap, sym, ◌∙◌, subst, slice_get}
use Rattle.std.proofs.lemmas.List.{append_assoc}
use Rattle.std.proofs.lemmas.Option.{slice_get_within}
use Rattle.window_model.specs.declared.Entry.{Entry}
use Rattle.window_model.specs.declared.Event.TheVariants as event
use Rattle.window_model.specs.Clear.{clear, clears}
use Rattle.machine_desc.specs.Questions.{loads_pass}
use Rattle.window_model.specs.Row.{Row}
use Rattle.window_model.specs.inner.Row.{with_events}
use Rattle.window_model.specs.Serials.{Rise, below}
use Rattle.window_model.specs.State.{After, Machine}
use Rattle.window_model.proofs.Booleans.{some_of}
use Rattle.core_parts.specs.Described.{Described}
use Rattle.core_parts.specs.Dropped.{StopsBelow}
use Rattle.clear.specs.Cleared.{anew, anew_events, clearing, violated_load, with_cleared}
use Rattle.clear.proofs.Effects.{anew_is, cleared_is, violated_is}
use Rattle.clear.proofs.Places.{Load, Store, load_at, load_there, rose, store_at}

-- the parts as they are seen once the store is cleared
module _ (v : Described) (serial : ℕ) (a : loads_pass v.desc ≡ true) (f : Some serial ≡ clearing v.desc v.machine) (load : ℕ) (m : Some load ≡ violated_load v.desc v.machine)
    (seen last : Described) (s : seen ≡ last) (l : last ≡ record v { machine = with_cleared v.desc v.machine }) (rising : Rise seen.machine.window)
    (i : ℕ) (at : i ≡ length (below load seen.machine.window)) where
  it : Store v.desc v.machine serial
  it = store_at v.desc v.machine serial f

  one : Load it.place load
  one = load_at it.place load (m ∙ violated_is v.desc v.machine it.place it.is)

  window_is : last.machine.window ≡ (clears it.place v.machine).machine.window
  window_is = ap (λ (d : Described). d.machine.window) l ∙ ap (λ (x : Machine). x.window) (cleared_is v.desc v.machine it.place it.is)

  rises : Rise v.machine.window
  rises = rose v.desc v.machine serial it (subst Rise window_is (subst (λ (d : Described). Rise d.machine.window) s rising))

  -- the violated load stands where its serial says, once the store is cleared
  here : slice_get last.machine.window i ≡ Some one.place.entry
  here =
      ap (slice_get last.machine.window) (at ∙ ap (λ (d : Described). length (below load d.machine.window)) s)
      ∙ ap (λ es. slice_get es (length (below load es))) window_is
      ∙ ap (λ n. slice_get (clears it.place v.machine).machine.window (length (below n (clears it.place v.machine).machine.window))) (sym one.named)
      ∙ load_there v.desc v.machine serial it rises one.place one.is

  pub load_inside : i < length last.machine.window
  load_inside = slice_get_within last.machine.window i one.place.entry here

  -- what may go from the load's serial on may go from the load on
  pub load_stops : StopsBelow load last.point last.machine.window → (e : Entry) → slice_get last.machine.window i ≡ Some e → StopsBelow e.serial last.point last.machine.window
  load_stops k e h = subst (λ n. StopsBelow n last.point last.machine.window) (sym one.named ∙ ap (λ (e : Entry). e.serial) (some_of _ _ (sym here ∙ h))) k

  -- the violated load goes, and with it all that is younger
  whole : clear v.desc v.machine
      ≡ record { machine = anew v.desc one.place.entry (with_cleared v.desc v.machine); events = event.Clr serial ∷ anew_events v.desc one.place.entry (with_cleared v.desc v.machine) }
  whole = anew_is v.desc v.machine serial a it rises one.place one.is

  pub anew_shown : (end : Described) → ((e : Entry) → slice_get last.machine.window i ≡ Some e → end ≡ record last { machine = anew last.desc e last.machine }) →
      end ≡ record v { machine = (clear v.desc v.machine).machine }
  anew_shown end q =
      q one.place.entry here
      ∙ ap (λ (d : Described). record d { machine = anew d.desc one.place.entry d.machine }) l
      ∙ ap (λ (a : After). record v { machine = a.machine }) (sym whole)

  pub anew_row : (old then new : Row) → then ≡ with_events old (event.Clr serial ∷ []) →
      ((e : Entry) → slice_get last.machine.window i ≡ Some e → new ≡ with_events then (anew_events last.desc e last.machine)) → new ≡ with_events old (clear v.desc v.machine).events
  anew_row old then new t n =
      n one.place.entry here
      ∙ ap (λ (d : Described). with_events then (anew_events d.desc one.place.entry d.machine)) l
      ∙ ap (λ (r : Row). with_events r (anew_events v.desc one.place.entry (with_cleared v.desc v.machine))) t
      ∙ ap (λ es. record old { events = es }) (append_assoc old.events (event.Clr serial ∷ []) (anew_events v.desc one.place.entry (with_cleared v.desc v.machine)))
      ∙ ap (λ (a : After). with_events old a.events) (sym whole)
