-- The parts once the store that is found is marked as cleared.
use Rattle.std.proofs.Common.{◌≡◌, ℕ, ◌<◌, true, ◌∷◌, ◌++◌, length, map, Option, Some, None, ap, ap₂, sym, ◌∙◌, subst, slice_get}
use Rattle.std.specs.Prelude.{IfSome, reverse, slice_set}
use Rattle.std.specs.Option.{option_map}
use Rattle.std.proofs.lemmas.Option.{slice_get_within}
use Rattle.window_model.specs.declared.Entry.{Entry}
use Rattle.window_model.specs.Clear.{cleared_one, violated_by}
use Rattle.machine_desc.specs.Questions.{loads_pass}
use Rattle.window_model.specs.Order.{Place}
use Rattle.window_model.specs.Serials.{Rise, below}
use Rattle.window_model.proofs.Clearing.{cleared_goes}
use Rattle.window_model.proofs.Lists.{set_here}
use Rattle.window_model.proofs.Permitting.{uncleared_as}
use Rattle.rob_ring.specs.Ring.{Ring}
use Rattle.lsq.specs.Clearing.{violated_by as violated_in}
use Rattle.lsq.specs.Queues.{Queues, cleared_at}
use Rattle.queue_laws.specs.Window.{StandFor, Tracks}
use Rattle.refinement.specs.Noted.{cleared_in}
use Rattle.queue_laws.proofs.Violating.{violates}
use Rattle.core_parts.specs.Described.{Described}
use Rattle.core_parts.specs.Dropped.{StopsBelow}
use Rattle.core_parts.specs.Held.{Held, Whole, described_of, in_flight, machine_of}
use Rattle.core_parts.proofs.Sizes.{sized_set}
use Rattle.refinement.proofs.Noting.{refines_cleared}
use Rattle.refinement.proofs.Queues.{queues_stand, queues_track}
use Rattle.refinement.proofs.Steps.{stops_at}
use Rattle.core_parts.proofs.Whole.{shown_by}
use Rattle.clear.specs.Cleared.{clearing, violated_load, with_cleared}
use Rattle.clear.proofs.Effects.{cleared_is, violated_is}
use Rattle.clear.proofs.Places.{Load, Store, load_at, load_younger, set_there, stands_there, store_at}

-- a store that isn't cleared isn't settled
module _ (h : Held) (v : Described) (serial : ℕ) (w : Whole h) (s : described_of h ≡ v) (a : loads_pass v.desc ≡ true) (f : Some serial ≡ clearing v.desc v.machine) where
  it : Store h.desc (machine_of h) serial
  it = store_at h.desc (machine_of h) serial (subst (λ (v : Described). Some serial ≡ clearing v.desc v.machine) (sym s) f)

  rises : Rise h.rob.entries
  rises = w.refines.rise

  here : slice_get h.rob.entries (length (below serial h.rob.entries)) ≡ Some it.place.entry
  here = stands_there h.desc (machine_of h) serial it rises

  pub is_inside : (i : ℕ) → i ≡ length (below serial h.rob.entries) → i < length h.rob.entries
  is_inside i e = subst (λ i. i < length h.rob.entries) (sym e) (slice_get_within h.rob.entries (length (below serial h.rob.entries)) it.place.entry here)

  -- ---- where it stands, and in the queue

  module _ (i : ℕ) (rob : Ring) (q : Queues) (at : i ≡ length (below serial h.rob.entries))
      (marks : (e : Entry) → slice_get h.rob.entries i ≡ Some e → rob ≡ record (h.rob) { entries = slice_set h.rob.entries i (cleared_one e) })
      (notes : q ≡ record (h.queues) { stores = map (cleared_at serial) h.queues.stores }) where
    ring_is : rob ≡ record (h.rob) { entries = slice_set h.rob.entries (length (below serial h.rob.entries)) (cleared_one it.place.entry) }
    ring_is =
        marks it.place.entry (ap (slice_get h.rob.entries) at ∙ here)
        ∙ ap (λ i. record (h.rob) { entries = slice_set h.rob.entries i (cleared_one it.place.entry) }) at

    queues_are : q ≡ cleared_in it.place.entry.serial h.queues
    queues_are = notes ∙ ap (λ n. cleared_in n h.queues) (sym it.named)

    are : record h { rob = rob; queues = q }
        ≡ record h {
          rob = record (h.rob) { entries = slice_set h.rob.entries (length (below serial h.rob.entries)) (cleared_one it.place.entry) };
          queues = cleared_in it.place.entry.serial h.queues;
        }
    are = ap₂ (λ (r : Ring) (q : Queues). record h { rob = r; queues = q }) ring_is queues_are

    pub in_place_whole : Whole (record h { rob = rob; queues = q })
    in_place_whole = subst Whole (sym are) (record {
      sized = sized_set h.desc (machine_of h) (length (below serial h.rob.entries)) it.place.entry (cleared_one it.place.entry) here (cleared_goes it.place.entry)
          (λ k. record { kind = k.kind; memory = k.memory; outcome = k.outcome; parts = k.parts; together = k.together }) w.sized;
      refines = refines_cleared (in_flight h) (length (below serial h.rob.entries)) it.place.entry w.refines here;
      made = w.made;
    })

    machine_is : machine_of (record h {
      rob = record (h.rob) { entries = slice_set h.rob.entries (length (below serial h.rob.entries)) (cleared_one it.place.entry) };
      queues = cleared_in it.place.entry.serial h.queues;
    }) ≡ with_cleared h.desc (machine_of h)
    machine_is =
        ap (λ es. record (machine_of h) { window = es }) (set_there h.desc (machine_of h) serial it rises)
        ∙ sym (cleared_is h.desc (machine_of h) it.place it.is)

    pub in_place_shown : described_of (record h { rob = rob; queues = q }) ≡ record v { machine = with_cleared v.desc v.machine }
    in_place_shown = ap described_of are ∙ shown_by with_cleared h _ v machine_is s

    -- ---- the load that it violates

    here_whole : h.rob.entries ≡ reverse it.place.before ++ it.place.entry ∷ it.place.younger
    here_whole = it.whole

    told : violated_in it.place.entry.serial h.queues.stores h.queues.loads ≡ option_map (λ q. q.entry.serial) (violated_by it.place)
    told =
        violates h.queues (reverse it.place.before) it.place.younger it.place.entry (subst (StandFor h.queues) here_whole (queues_stand (in_flight h) w.refines))
        (subst (Tracks h.queues) here_whole (queues_track (in_flight h) w.refines (subst (λ (v : Described). loads_pass v.desc ≡ true) (sym s) a))) (subst Rise here_whole rises) it.may.store

    pub in_place_violates : (o : Option ℕ) → o ≡ violated_in serial h.queues.stores h.queues.loads → o ≡ violated_load v.desc v.machine
    in_place_violates o e =
        e
        ∙ ap (λ n. violated_in n h.queues.stores h.queues.loads) (sym it.named)
        ∙ told
        ∙ sym (violated_is h.desc (machine_of h) it.place it.is)
        ∙ ap (λ (v : Described). violated_load v.desc v.machine) s

    -- the entries from the violated load on may go: the store stays, and the point isn't past it
    stops_by : (load : ℕ) → Load it.place load → StopsBelow load h.point rob.entries
    stops_by load l = record {
      position = length (below serial h.rob.entries);
      entry = cleared_one it.place.entry;
      here = ap (λ (r : Ring). slice_get r.entries (length (below serial h.rob.entries))) ring_is ∙ set_here h.rob.entries _ it.place.entry (cleared_one it.place.entry) here;
      older = subst (λ n. it.place.entry.serial < n) l.named (load_younger h.desc (machine_of h) serial it rises l.place l.is);
      not_past = stops_at (in_flight h) (length (below serial h.rob.entries)) it.place.entry w.refines here (uncleared_as it.place.entry.item.kind it.place.entry.resolved it.place.entry.cleared it.may.store it.may.fresh);
    }

    by_answer : (o : Option ℕ) → o ≡ option_map (λ (q : Place). q.entry.serial) (violated_by it.place) → IfSome o (λ load. StopsBelow load h.point rob.entries)
    by_answer None e = tt
    by_answer (Some load) e = stops_by load (load_at it.place load e)

    pub in_place_stops : (o : Option ℕ) → o ≡ violated_in serial h.queues.stores h.queues.loads → IfSome o (λ load. StopsBelow load h.point rob.entries)
    in_place_stops o e = by_answer o (e ∙ ap (λ n. violated_in n h.queues.stores h.queues.loads) (sym it.named) ∙ told)
