-- The parts once an entry has taught the predictor and is marked as resolved.
use Rattle.std.proofs.Common.{◌≡◌, ℕ, ◌+◌, ◌<◌, Bool, true, false, List, [], ◌∷◌, ◌++◌, length, Option, Some, None, refl, ap, ap₂, sym, ◌∙◌, subst, arith, slice_get}
use Rattle.std.specs.Prelude.{◌^◌, slice_set}
use Rattle.std.proofs.lemmas.List.{append-nil, append_assoc}
use Rattle.std.proofs.lemmas.Option.{slice_get_within}
use Rattle.std.specs.Option.{option_map}
use Rattle.rv_types.specs.declared.Kind.{Kind}
use Rattle.rv_types.specs.declared.Kind.TheVariants.{Branch, Jalr}
use Rattle.machine_desc.specs.declared.Desc.{Desc}
use Rattle.window_model.specs.declared.Entry.{Entry}
use Rattle.window_model.specs.Order.{Place, first, is_control}
use Rattle.window_model.specs.Resolve.{learn, may_resolve, resolve, resolve_at, true_checkpoint}
use Rattle.window_model.specs.Taint.{settled_as}
use Rattle.window_model.specs.declared.Checkpoint.{Checkpoint}
use Rattle.window_model.specs.Row.{Row}
use Rattle.window_model.specs.declared.Event.TheVariants as event
use Rattle.window_model.specs.State.{After, Machine}
use Rattle.window_model.proofs.Booleans.{done_waits, some_of}
use Rattle.window_model.proofs.Counts.{evolves_thins}
use Rattle.window_model.proofs.Places.{found}
use Rattle.window_model.proofs.Serials.{all_at}
use Rattle.window_model.proofs.Resolving.{MayResolve, resolve_parts, resolved_goes}
use Rattle.machine_facts.specs.Sized.{Sized}
use Rattle.machine_facts.proofs.Parts.{IsEntry, parts, whole}
use Rattle.machine_facts.proofs.SizedPhases.{learns_in}
use Rattle.machine_facts.proofs.SizedWindow.{thinner}
use Rattle.rob_ring.specs.Issued.{as_resolved}
use Rattle.rob_ring.specs.Ring.{Ring}
use Rattle.predictor.specs.Tables as learnt
use Rattle.predictor.specs.Tables.{Tables}
use Rattle.history_pred.specs.Past as histories
use Rattle.history_pred.specs.Past.{Past}
use Rattle.visibility.specs.Point.{HasAdvanced, NotPast}
use Rattle.branch_resolve.specs.Effect.{resolution_of, tables_after_learning, learn_events}
use Rattle.branch_resolve.specs.declared.effect.Resolution.TheVariants.{Right}
use Rattle.visibility.specs.Pick.{pick_from}
use Rattle.resolve.proofs.Picking.{picks_first}
use Rattle.rob_ring.specs.Beside.{each_roots}
use Rattle.core_parts.specs.Described.{Described}
use Rattle.core_parts.specs.Held.{Held, Sizes, Whole, described_of, in_flight, machine_of, sizes}
use Rattle.core_parts.specs.Dropped.{StopsBelow, count_from, cut_from}
use Rattle.core_parts.proofs.Sizes.{each_set, evolves_set}
use Rattle.refinement.proofs.Steps.{refines_resolved, stops_at}
use Rattle.resolve.specs.Taken.{resolving, true_next}
use Rattle.resolve.proofs.Effects.{marked, recalled, right_is, wrong_is}
use Rattle.window_model.specs.Serials.{Rise}
use Rattle.window_model.proofs.Lists.{set_here}
use Rattle.resolve.proofs.Picked.{Taken, picked, inside, taken}

-- ---- which entry is picked

pub picks : (h : Held) (v : Described) (o : Option ℕ) → Whole h → described_of h ≡ v → HasAdvanced v.point v.machine.window → o ≡ pick_from h.desc h.point.serial 0 h.rob.entries (each_roots h.sources.items) → o ≡ resolving v.desc v.machine.window
picks h v o w s a e =
    let here : HasAdvanced h.point h.rob.entries = subst (λ (v : Described). HasAdvanced v.point v.machine.window) (sym s) a in
    e ∙ picks_first h.desc (in_flight h) w.refines here (ap (λ (s : Sizes). s.model) w.made) ∙ ap (λ (v : Described). resolving v.desc v.machine.window) s

no_place : (d : Desc) (x : Machine) (o : Option Place) → first (may_resolve d) x.window ≡ o → None ≡ option_map (λ (p : Place). length p.before) o → resolve d x ≡ record { machine = x; events = [] }
no_place d x None q h = ap (λ o. resolve_at d o x) q
no_place d x (Some p) q h = absurd (cc)

-- where no entry may be resolved nothing happens
pub none_is : (d : Desc) (x : Machine) → None ≡ resolving d x.window → resolve d x ≡ record { machine = x; events = [] }
none_is d x h = no_place d x (first (may_resolve d) x.window) refl h

pub none_shown : (v : Described) → None ≡ resolving v.desc v.machine.window → v ≡ record v { machine = (resolve v.desc v.machine).machine }
none_shown v h = ap (λ (a : After). record v { machine = a.machine }) (sym (none_is v.desc v.machine h))

pub none_row : (v : Described) (row : Row) → None ≡ resolving v.desc v.machine.window → row ≡ record row { events = row.events ++ (resolve v.desc v.machine).events }
none_row v row h = ap (λ es. record row { events = es }) (sym (append-nil row.events)) ∙ ap (λ (a : After). record row { events = row.events ++ a.events }) (sym (none_is v.desc v.machine h))

pub is_inside : (h : Held) (v : Described) (i : ℕ) → Whole h → described_of h ≡ v → Some i ≡ resolving v.desc v.machine.window → i < length h.rob.entries
is_inside h v i w s p = subst (λ (v : Described). i < length v.machine.window) (sym s) (inside v.desc v.machine.window i (picked v.desc v.machine.window i p))

-- what holds in each machine that asks for a predictor of these sizes
abbrev pub Taught : Held → (Desc → Type 0) → Type 0
Taught h So = learnt.InEach h.tables So

-- what holds in each machine that asks for a history of these sizes
abbrev pub Remembered : Held → (Desc → Type 0) → Type 0
Remembered h So = histories.InEach h.past So

-- what holds in each such machine holds in that of the description
taught_here : (h : Held) (So : Desc → Type 0) → Whole h → Taught h So → So h.desc
taught_here h So w each = each h.desc w.sized.counters w.sized.targets

remembered_here : (h : Held) (So : Desc → Type 0) → Whole h → Remembered h So → So h.desc
remembered_here h So w each = each h.desc (ap (λ (s : Sizes). s.counters) w.made) (ap (λ (s : Sizes). s.directions) w.made) (ap (λ (s : Sizes). s.returns) w.made)

-- ---- the sizes of the machine stay

sized_marked : (d : Desc) (x : Machine) (i : ℕ) (e : Entry) → slice_get x.window i ≡ Some e → Sized d x → Sized d (marked d i e x)
sized_marked d x i e h s =
    let f = parts d x s in
    whole d (marked d i e x) (record {
      window = thinner d x.window _ (evolves_thins x.window _ (evolves_set x.window i e (as_resolved e) h (resolved_goes e))) f.window;
      entries = each_set (IsEntry d x.ram) x.window i e (as_resolved e) h
          (λ k. record { kind = k.kind; memory = k.memory; outcome = k.outcome; parts = k.parts; together = k.together }) f.entries;
      queue = f.queue;
      predictor = learns_in d e.item.kind e x.counters x.targets f.predictor;
      cache = f.cache;
      second = f.second;
      misses = f.misses;
      dependence = f.dependence;
      registers = f.registers;
    })

sized_recalled : (d : Desc) (x : Machine) (m : Checkpoint) → Sized d x → Sized d (record x { checkpoint = m })
sized_recalled d x m s =
    let f = parts d x s in
    whole d (record x { checkpoint = m }) (record { window = f.window; entries = f.entries; queue = f.queue; predictor = f.predictor; cache = f.cache; second = f.second; misses = f.misses; dependence = f.dependence; registers = f.registers })

-- ---- the parts once the entry is resolved

-- there is a serial after the entry's, as there is a next one
pub serial_fits : (h : Held) (i : ℕ) (e : Entry) → Whole h → slice_get h.rob.entries i ≡ Some e → h.next_serial < 2 ^ 64 → e.serial + 1 < 2 ^ 64
serial_fits h i e w here n = let below_next = all_at (λ (e : Entry). e.serial < h.next_serial) h.rob.entries i e w.refines.next here in omega (arith, below_next, n)

-- a branch or JALR that isn't resolved isn't settled
unsettled : (k : Kind) (resolved cleared : Bool) → is_control k ≡ true → resolved ≡ false → settled_as k resolved cleared ≡ false
unsettled Branch resolved cleared c h = h
unsettled Jalr resolved cleared c h = h
unsettled _ resolved cleared c h = absurd (cc)

-- the entry that is taken may be resolved
takes : (d : Desc) (w : List Entry) (i : ℕ) (e : Entry) (k : Taken d w i e) → MayResolve d k.before e
takes d w i e k = resolve_parts d k.before e (found (may_resolve d) [] w (record { before = k.before; entry = e; younger = k.younger }) k.is).has

module _ (h : Held) (v : Described) (i : ℕ) (e : Entry) (rob : Ring) (tables : Tables) (w : Whole h) (s : described_of h ≡ v) (p : Some i ≡ resolving v.desc v.machine.window) (here : slice_get h.rob.entries i ≡ Some e)
    (marks : rob ≡ record (h.rob) { entries = slice_set h.rob.entries i (as_resolved e) }) (teaches : Taught h (λ d. tables ≡ tables_after_learning d h.tables e)) where
  there : slice_get v.machine.window i ≡ Some e
  there = subst (λ (v : Described). slice_get v.machine.window i ≡ Some e) s here

  may : MayResolve h.desc (taken h.desc h.rob.entries i e (subst (λ (v : Described). Some i ≡ resolving v.desc v.machine.window) (sym s) p) here).before e
  may = takes h.desc h.rob.entries i e (taken h.desc h.rob.entries i e (subst (λ (v : Described). Some i ≡ resolving v.desc v.machine.window) (sym s) p) here)

  are : record h { rob = rob; tables = tables } ≡ record h { rob = record (h.rob) { entries = slice_set h.rob.entries i (as_resolved e) }; tables = tables_after_learning h.desc h.tables e }
  are = ap₂ (λ (r : Ring) (t : Tables). record h { rob = r; tables = t }) marks (taught_here h (λ d. tables ≡ tables_after_learning d h.tables e) w teaches)

  machine_is : machine_of (record h { rob = record (h.rob) { entries = slice_set h.rob.entries i (as_resolved e) }; tables = tables_after_learning h.desc h.tables e }) ≡ marked h.desc i e (machine_of h)
  machine_is = refl

  pub marked_whole : Whole (record h { rob = rob; tables = tables })
  marked_whole = subst Whole (sym are) (record {
    sized = subst (Sized h.desc) (sym machine_is) (sized_marked h.desc (machine_of h) i e here w.sized);
    refines = refines_resolved (in_flight h) i e w.refines here (done_waits e.state may.done);
    made = w.made;
  })

  pub marked_shown : described_of (record h { rob = rob; tables = tables }) ≡ record v { machine = marked v.desc i e v.machine }
  marked_shown =
      ap described_of are
      ∙ ap (λ x. record { desc = h.desc; code = h.code; machine = x; point = h.point }) machine_is
      ∙ ap (λ (v : Described). record v { machine = marked v.desc i e v.machine }) s

  -- the visibility point is not past the entry that is resolved
  pub marked_stops : NotPast h.point e.serial
  marked_stops = stops_at (in_flight h) i e w.refines here (unsettled e.item.kind e.resolved e.cleared may.control may.fresh)

  -- what then stands at the position is the entry, resolved
  marked_here : slice_get rob.entries i ≡ Some (as_resolved e)
  marked_here = ap (λ (r : Ring). slice_get r.entries i) marks ∙ set_here h.rob.entries i e (as_resolved e) here

  pub still_inside : i < length rob.entries
  still_inside = slice_get_within rob.entries i _ marked_here

  -- what is behind it is behind the entry as it was
  pub behind : (then : Entry) (past : Past) → slice_get rob.entries i ≡ Some then → Remembered h (λ d. past ≡ record (h.past) { checkpoint = true_checkpoint d then }) → past ≡ record (h.past) { checkpoint = true_checkpoint h.desc e }
  behind then past at m =
      remembered_here h (λ d. past ≡ record (h.past) { checkpoint = true_checkpoint d then }) w m
      ∙ ap (λ (e : Entry). record (h.past) { checkpoint = true_checkpoint h.desc e }) (some_of then (as_resolved e) (sym at ∙ marked_here))

  told_is : learn_events h.desc h.tables e ≡ (learn v.desc e v.machine.counters v.machine.targets).events
  told_is = ap (λ (v : Described). (learn v.desc e v.machine.counters v.machine.targets).events) s

  row_is : (old new : Row) → Taught h (λ d. new ≡ record old { events = old.events ++ learn_events d h.tables e }) → new ≡ record old { events = old.events ++ learn_events h.desc h.tables e }
  row_is old new = taught_here h (λ d. new ≡ record old { events = old.events ++ learn_events d h.tables e }) w

  -- ---- the entry was rightly predicted

  module _ (right : resolution_of e ≡ Right) where
    pub right_shown : described_of (record h { rob = rob; tables = tables }) ≡ record v { machine = (resolve v.desc v.machine).machine }
    right_shown = marked_shown ∙ ap (λ (a : After). record v { machine = a.machine }) (sym (right_is v.desc v.machine i e p there right))

    pub right_row : (old new : Row) → Taught h (λ d. new ≡ record old { events = old.events ++ learn_events d h.tables e }) → new ≡ record old { events = old.events ++ (resolve v.desc v.machine).events }
    right_row old new t = row_is old new t ∙ ap (λ es. record old { events = old.events ++ es }) (told_is ∙ sym (ap (λ (a : After). a.events) (right_is v.desc v.machine i e p there right)))

  -- ---- the entry was not rightly predicted

  module _ (past : Past) (remembers : past ≡ record (h.past) { checkpoint = true_checkpoint h.desc e }) where
    checkpoint_is : past.checkpoint ≡ true_checkpoint h.desc e
    checkpoint_is = ap (λ (p : Past). p.checkpoint) remembers

    pub recalled_whole : Whole (record h { rob = rob; tables = tables; past = past })
    recalled_whole = record {
      sized = sized_recalled h.desc (machine_of (record h { rob = rob; tables = tables })) past.checkpoint marked_whole.sized;
      refines = marked_whole.refines;
      made = ap (λ (p : Past). sizes (record h { rob = rob; tables = tables; past = p })) remembers ∙ marked_whole.made;
    }

    recalled_shown : described_of (record h { rob = rob; tables = tables; past = past }) ≡ record v { machine = recalled v.desc i e v.machine }
    recalled_shown =
        ap (λ m. let d = described_of (record h { rob = rob; tables = tables }) in record d { machine = record (d.machine) { checkpoint = m } }) checkpoint_is
        ∙ ap (λ (d : Described). record d { machine = record (d.machine) { checkpoint = true_checkpoint h.desc e } }) marked_shown
        ∙ ap (λ (d : Described). record v { machine = record (marked v.desc i e v.machine) { checkpoint = true_checkpoint d.desc e } }) s

    module _ (wrong : resolution_of e ≡ Right → ⊥) where
      rises : Rise v.machine.window
      rises = subst (λ (v : Described). Rise v.machine.window) s w.refines.rise

      all : resolve v.desc v.machine
          ≡ record {
            machine = cut_from (e.serial + 1) (true_next (resolution_of e)) (recalled v.desc i e v.machine);
            events = (learn v.desc e v.machine.counters v.machine.targets).events ++ event.Sq (count_from (e.serial + 1) (recalled v.desc i e v.machine)) ∷ [];
          }
      all = wrong_is v.desc v.machine i e p there wrong rises

      pub wrong_shown : (last : Described) (next : Option ℕ) → next ≡ true_next (resolution_of e) →
          last ≡ (let d = described_of (record h { rob = rob; tables = tables; past = past }) in record d { machine = cut_from (e.serial + 1) next d.machine }) → last ≡ record v { machine = (resolve v.desc v.machine).machine }
      wrong_shown last next n l =
          l
          ∙ ap (λ (d : Described). record d { machine = cut_from (e.serial + 1) next d.machine }) recalled_shown
          ∙ ap (λ next. record v { machine = cut_from (e.serial + 1) next (recalled v.desc i e v.machine) }) n
          ∙ ap (λ (a : After). record v { machine = a.machine }) (sym all)

      pub wrong_row : (old then new : Row) (n : ℕ) → Taught h (λ d. then ≡ record old { events = old.events ++ learn_events d h.tables e }) →
          n ≡ (let d = described_of (record h { rob = rob; tables = tables; past = past }) in count_from (e.serial + 1) d.machine) →
          new ≡ record then { events = then.events ++ event.Sq n ∷ [] } → new ≡ record old { events = old.events ++ (resolve v.desc v.machine).events }
      wrong_row old then new n t d r =
          r
          ∙ ap (λ n. record then { events = then.events ++ event.Sq n ∷ [] }) (d ∙ ap (λ (d : Described). count_from (e.serial + 1) d.machine) recalled_shown)
          ∙ ap (λ (r : Row). record r { events = r.events ++ event.Sq (count_from (e.serial + 1) (recalled v.desc i e v.machine)) ∷ [] }) (row_is old then t)
          ∙ ap (λ es. record old { events = es }) (append_assoc old.events (learn_events h.desc h.tables e) (event.Sq (count_from (e.serial + 1) (recalled v.desc i e v.machine)) ∷ []))
          ∙ ap (λ es. record old { events = old.events ++ (es ++ event.Sq (count_from (e.serial + 1) (recalled v.desc i e v.machine)) ∷ []) }) told_is
          ∙ ap (λ (a : After). record old { events = old.events ++ a.events }) (sym all)

  -- entries younger than the resolved one may be dropped: the visibility point isn't past it
  pub marked_stops_below : StopsBelow (e.serial + 1) h.point rob.entries
  marked_stops_below = record {
    position = i;
    entry = as_resolved e;
    here = marked_here;
    older = omega arith;
    not_past = marked_stops;
  }
