-- What the parts that are lent tell of the machine that is shown.
use Rattle.std.proofs.Common.{◌≡◌, ℕ, ◌<◌, Bool, true, false, List, [], ◌∷◌, length, map, Some, None, refl, ap, sym, ◌∙◌, subst, arith, slice_get}
use Rattle.std.specs.Prelude.{nat_le, if◌then◌else◌}
use Rattle.std.proofs.lemmas.Bool.Decides.{nat_tests}
use Rattle.machine_desc.specs.declared.SttModel.{SttModel}
use Rattle.window_model.specs.declared.Entry.{Entry}
use Rattle.queue_laws.specs.Window.{StandFor, Tracks}
use Rattle.machine_desc.specs.Questions.{loads_pass}
use Rattle.window_model.specs.Order.{each_from, is_store}
use Rattle.visibility.specs.Point.{Point, HasAdvanced}
use Rattle.refinement.proofs.Lists.{map_twice}
use Rattle.refinement.proofs.Queues.{queues_stand, queues_track}
use Rattle.refinement.proofs.Ready.{tells_part, tells_ready}
use Rattle.refinement.proofs.Room.{counts_sources}
use Rattle.refinement.proofs.Sources.{sources_are}
use Rattle.refinement.proofs.Stations.{holds_waiting}
use Rattle.refinement.proofs.Table.{names_root, names_writer}
use Rattle.refinement.proofs.Visible.{tells_visible}
use Rattle.refinement.specs.Footprint.{StoreFootprint, Terms, column, footprint_of, store_footprint, store_in}
use Rattle.refinement.specs.Refines.{terms}
use Rattle.refinement.specs.Roots.{base_root, source_roots}
use Rattle.refinement.specs.Telling.{MovedBy, hold_of}
use Rattle.refinement.specs.Waiters.{oldest_of}
use Rattle.std.specs.List.{cons_option}
use Rattle.rob_ring.specs.declared.beside.Sources.{Sources}
use Rattle.core_parts.specs.Described.{Described}
use Rattle.core_parts.specs.Held.{Held, Sizes, Whole, described_of, in_flight}
use Rattle.core_parts.specs.Lent.{HasAddressRoots, HasRoots, HoldsWaiting, NamesRoots, NamesWriters, ShowsOlder, TellsPart, TellsReady, TellsVisible, address_roots}

pub lent_names : (h : Held) (v : Described) → Whole h → described_of h ≡ v → NamesWriters h.writes v.machine.window
lent_names h v w s = subst (λ (v : Described). NamesWriters h.writes v.machine.window) s (λ r. names_writer (in_flight h) r w.refines)

pub lent_name_roots : (h : Held) (v : Described) → Whole h → described_of h ≡ v → NamesRoots v.machine.next_serial h.writes v.machine.window
lent_name_roots h v w s = subst (λ (v : Described). NamesRoots v.machine.next_serial h.writes v.machine.window) s (λ r. names_root (in_flight h) r w.refines)

-- the stations that are lent hold the entries that wait, with what their sources await
pub lent_waiting : (h : Held) (v : Described) → Whole h → described_of h ≡ v → HoldsWaiting v.desc.version (hold_of v.desc v.point) h.stations v.machine.window
lent_waiting h v w s = subst (λ (v : Described). HoldsWaiting v.desc.version (hold_of v.desc v.point) h.stations v.machine.window) s (holds_waiting (in_flight h) w.refines)

-- results are held back by the point that has advanced
held_by : (h : Held) → Whole h → HasAdvanced h.point h.rob.entries → MovedBy h.desc (in_flight h)
held_by h w a = record { advanced = a; model = ap (λ (s : Sizes). s.model) w.made; holds = refl }

-- the stations tell who is ready, where the point has advanced
ready_by : (h : Held) → Whole h → HasAdvanced h.point h.rob.entries → TellsReady h.desc h.stations h.rob.entries
ready_by h w a i e b c = tells_ready h.desc (in_flight h) i e w.refines (held_by h w a) b c

-- the stations tell which part of a store is ready, where the point has advanced
part_by : (h : Held) → Whole h → HasAdvanced h.point h.rob.entries → TellsPart h.desc h.stations h.rob.entries
part_by h w a part i e b c = tells_part part h.desc (in_flight h) i e w.refines (held_by h w a) b c

-- the stations that are lent tell who is ready, once the point has moved
pub lent_ready : (h : Held) (v : Described) → Whole h → described_of h ≡ v → HasAdvanced v.point v.machine.window → TellsReady v.desc h.stations v.machine.window
lent_ready h v w s = subst (λ (v : Described). HasAdvanced v.point v.machine.window → TellsReady v.desc h.stations v.machine.window) s (ready_by h w)

-- the stations that are lent tell which part of a store is ready, once the point has moved
pub lent_parts : (h : Held) (v : Described) → Whole h → described_of h ≡ v → HasAdvanced v.point v.machine.window → TellsPart v.desc h.stations v.machine.window
lent_parts h v w s = subst (λ (v : Described). HasAdvanced v.point v.machine.window → TellsPart v.desc h.stations v.machine.window) s (part_by h w)

pub lent_queues : (h : Held) (v : Described) → Whole h → described_of h ≡ v → StandFor h.queues v.machine.window
lent_queues h v w s = subst (λ (v : Described). StandFor h.queues v.machine.window) s (queues_stand (in_flight h) w.refines)

pub lent_tracks : (h : Held) (v : Described) → Whole h → described_of h ≡ v → loads_pass v.desc ≡ true → Tracks h.queues v.machine.window
lent_tracks h v w s = subst (λ (v : Described). loads_pass v.desc ≡ true → Tracks h.queues v.machine.window) s (queues_track (in_flight h) w.refines)

-- ---- the roots of the stores' addresses

address_are : (t : Terms) (b es : List Entry) → map (λ (x : StoreFootprint). x.root) (column (λ k. k.store) (each_from (footprint_of t) b es)) ≡ address_roots b es
address_are t b [] = refl
address_are t b (e ∷ es) = by_store (is_store e.item.kind) (address_are t (e ∷ b) es)
  where
    by_store : (w : Bool) → map (λ (x : StoreFootprint). x.root) (column (λ k. k.store) (each_from (footprint_of t) (e ∷ b) es)) ≡ address_roots (e ∷ b) es →
        map (λ (x : StoreFootprint). x.root) (cons_option (if w then Some (store_footprint t (base_root (source_roots b e)) e) else None) (column (λ k. k.store) (each_from (footprint_of t) (e ∷ b) es)))
        ≡ (if w then base_root (source_roots b e) ∷ address_roots (e ∷ b) es else address_roots (e ∷ b) es)
    by_store true k = ap (λ os. base_root (source_roots b e) ∷ os) k
    by_store false k = k

pub lent_addresses : (h : Held) (v : Described) → Whole h → described_of h ≡ v → HasAddressRoots v.machine.next_serial h.queues.stores v.machine.window
lent_addresses h v w s =
    let p = in_flight h in
    subst (λ (v : Described). HasAddressRoots v.machine.next_serial h.queues.stores v.machine.window) s
    (sym (map_twice (λ (x : StoreFootprint). x.root) (store_in (terms p) (oldest_of h.next_serial h.rob.entries)) h.queues.stores)
    ∙ ap (map (λ (x : StoreFootprint). x.root)) w.refines.columns.stores ∙ address_are (terms p) [] h.rob.entries)

-- ---- the point, once it has advanced

visible_by : (model : SttModel) (p : Point) (window : List Entry) → p.model ≡ model → HasAdvanced p window → TellsVisible model p window
visible_by model p window m a = subst (λ m. TellsVisible m p window) m (λ i e h. tells_visible p window i e a h)

-- the oldest entry is visible, and so is what is below its serial
older_by : (p : Point) (window : List Entry) → HasAdvanced p window → ShowsOlder p window
older_by p window a s e h below =
    let shown : nat_le e.serial p.serial ≡ true = tells_visible p window 0 e a h in
    grind (arith, nat_tests)

-- once the point has moved, it tells which entries of the window are visible
pub point_visible : (model : SttModel) (q p : Point) (window : List Entry) → q ≡ p → q.model ≡ model → HasAdvanced p window → TellsVisible model q window
point_visible model q p window e m a = visible_by model q window m (subst (λ p. HasAdvanced p window) (sym e) a)

-- once the point has moved, whatever is older than the window is visible by it
pub point_older : (q p : Point) (window : List Entry) → q ≡ p → HasAdvanced p window → ShowsOlder q window
point_older q p window e a = older_by q window (subst (λ p. HasAdvanced p window) (sym e) a)

-- ---- the sources at a position

-- the parts hold the sources of each entry of the window, and no others
pub each_has_sources : (h : Held) → Whole h → length h.sources.items ≡ length h.rob.entries
each_has_sources h w = counts_sources (in_flight h) w.refines

pub lent_counts : (h : Held) (v : Described) (i : ℕ) → Whole h → described_of h ≡ v → i < length v.machine.window → i < length h.sources.items
lent_counts h v i w s l =
    let n = each_has_sources h w in
    let m = ap (λ (v : Described). length v.machine.window) s in
    omega (arith, n, m, l)

pub lent_roots : (h : Held) (v : Described) (i : ℕ) (k : Sources) → Whole h → described_of h ≡ v → slice_get h.sources.items i ≡ Some k →
    HasRoots v.machine.next_serial v.machine.window i k.roots
lent_roots h v i k w s g =
    subst (λ (v : Described). HasRoots v.machine.next_serial v.machine.window i k.roots) s
    (λ e a. ap (λ (x : Sources). x.roots) (sources_are (in_flight h) i e k w.refines a g))
