-- Whose first operand tells an address or the time of a division: what the parts tell of an entry in its place, and who
-- is passed.
use Rattle.std.proofs.Common.{◌≡◌, inl, inr, ℕ, Bool, true, false, not, ◌&&◌, List, [], ◌∷◌, Some, refl, ap, ap₂, sym, ◌∙◌, slice_get}
use Rattle.std.specs.Prelude.{◌==◌, ◌⊎◌, if◌then◌else◌}
use Rattle.std.specs.Option.{option_map}
use Rattle.std.proofs.Math.Bool.{and-false}
use Rattle.rv_types.specs.declared.Kind.{Kind}
use Rattle.rv_types.specs.declared.Kind.TheVariants.{Load, Store, Div}
use Rattle.machine_desc.specs.declared.Desc.{Desc}
use Rattle.machine_desc.specs.Questions.{stores_in_one}
use Rattle.machine_desc.specs.declared.SttModel.{SttModel}
use Rattle.window_model.specs.declared.Entry.{Entry}
use Rattle.window_model.specs.Around.{Around}
use Rattle.window_model.specs.Delay.{may_show}
use Rattle.window_model.specs.Ports.{AddressPort, part_may}
use Rattle.window_model.specs.Order.{base_of, has_address, has_data, is_store, is_waiting, sources}
use Rattle.window_model.specs.Ready.{all_known, ready}
use Rattle.window_model.specs.Taint.{address_tainted, any_tainted}
use Rattle.window_model.proofs.Booleans.{or_false}
use Rattle.window_model.proofs.Together.{is_whole}
use Rattle.stations.specs.Stations.{ready_part}
use Rattle.stations.specs.declared.wants.Part.TheVariants as part
use Rattle.stations.specs.declared.wants.Wants.TheVariants as wants
use Rattle.rob_ring.specs.declared.beside.Sources.{Sources}
use Rattle.visibility.specs.Gate.{may_show_by, may_transmit}
use Rattle.visibility.proofs.Showing.{shown_by_point}
use Rattle.refinement.proofs.Ready.{tells_part}
use Rattle.refinement.proofs.Visible.{tells_operands, tells_visible}
use Rattle.refinement.specs.Telling.{MovedBy, OperandsTold, has_sources}
use Rattle.refinement.specs.Waiters.{wants_by, wants_of}
use Rattle.issue.proofs.Asking.{InStep, first_ready, not_able, not_waiting, part_asks, part_gone, part_may_by, second_ready, step_at, whole_ready}
use Rattle.secret_marks.specs.declared.EntryMarks.{EntryMarks}
use Rattle.secret_marks.specs.declared.WordMarks.{WordMarks}
use Rattle.secret_marks.specs.Words.{any_byte}
use Rattle.secret_marks.specs.Marks.{Marks, any_marked, first_marks}
use Rattle.secret_marks.specs.Shows.{decides_as, operand_shows}
use Rattle.issue.specs.declared.candidate.Candidate.{Candidate}
use Rattle.shown_marks.specs.declared.seen.Seen.{Seen}
use Rattle.shown_marks.specs.State.{HasTurn, ShowsInvariant, before_of, flight_of, window_of}

-- ---- whose operand tells nothing

-- surroundings without anything: whether a store asks at the port of its address doesn't depend on them
nothing_around : Around
nothing_around = record { cycle = 0; regs = []; ram = record { base = 0; bytes = []; misaligned = false }; dependence = []; cache = []; second = []; misses = []; free_from = 0 }

module _ (d : Desc) (before : List Entry) (e : Entry) where
  silent_as : (k : Kind) → (is_store k ≡ false → (is_waiting e.state && ready d before e) ≡ false) → (is_store k ≡ true → part_may AddressPort d before e ≡ false) → decides_as k d before e ≡ false
  silent_as Load w p = ap (λ b. b && (not (address_tainted d.stt_model before e) && may_show d before)) (w refl)
  silent_as Div w p = ap (λ b. b && (not (any_tainted d.stt_model before e) && may_show d before)) (w refl)
  silent_as Store w p = p refl
  silent_as _ w p = refl

  -- the first operand of an entry that doesn't wait tells nothing
  pub unwaiting_silent : InStep d e → is_waiting e.state ≡ false → decides_as e.item.kind d before e ≡ false
  unwaiting_silent t w =
      silent_as e.item.kind (λ s. ap (λ b. b && ready d before e) w)
      (λ s. sym (part_asks d nothing_around before e AddressPort s) ∙ not_waiting d nothing_around before e t w AddressPort)

  -- the first operand of an entry that waits and lacks what it wants tells nothing
  pub unable_silent : is_waiting e.state ≡ true → has_sources (wants_of d.version e) d before e ≡ false → decides_as e.item.kind d before e ≡ false
  unable_silent w h =
      silent_as e.item.kind (λ s. ap (λ r. is_waiting e.state && r) (unready s) ∙ and-false (is_waiting e.state))
      (λ s. sym (part_asks d nothing_around before e AddressPort s) ∙ not_able d nothing_around before e w h AddressPort)
    where
      unready : is_store e.item.kind ≡ false → ready d before e ≡ false
      unready s = sym (ap (λ s. has_sources (if s && not (d.version == 1) then wants_by (has_address e) (has_data e) else wants.Whole) d before e) s) ∙ h

  -- an entry whose operand tells nothing shows nothing
  pub silent : (m : Marks) (marks : List EntryMarks) → decides_as e.item.kind d before e ≡ false → operand_shows d m before marks e ≡ false
  silent m marks h = ap (λ b. b && any_marked m.regs before marks (base_of (sources e))) h

-- ---- an entry in its place

-- results are held back by the point that has moved
pub moved : (s : Seen) (stands : ShowsInvariant s) → MovedBy s.desc.now (flight_of stands.rest s)
moved s stands = record { advanced = stands.advanced; model = stands.model; holds = refl }

module _ (s : Seen) (p : Candidate) (t : HasTurn s p) where
  abbrev d : Desc
  d = s.desc.now

  abbrev e : Entry
  e = p.entry.now

  abbrev before : List Entry
  before = before_of s p

  told : (x : Sources) → slice_get s.walk.sources.now.items p.position ≡ Some x → OperandsTold s.point.now before e x.roots
  told x k = tells_operands (flight_of t.stands.rest s) p.position e x t.stands.refines t.stands.advanced t.candidate.at k

  is_ready : is_store e.item.kind ≡ false → ready d before e ≡ true
  is_ready n = whole_ready d before e n t.candidate.able

  -- the point tells whether the entry may show its operands
  shows : may_show_by d s.point.now.serial e.serial ≡ may_show d before
  shows = shown_by_point d s.point.now before e t.stands.model (tells_visible s.point.now (window_of s) p.position e t.stands.advanced t.candidate.at)

  -- a load that may show its address tells it where its base is untainted
  load_decides : (x : Sources) (b : Bool) → e.item.kind ≡ Load → slice_get s.walk.sources.now.items p.position ≡ Some x →
      b ≡ may_transmit e.item.kind d s.point.now.serial e.serial x.roots → b ≡ decides_as e.item.kind d before e
  load_decides x b is k q =
      q ∙ ap (λ k. may_transmit k d s.point.now.serial e.serial x.roots) is
      ∙ ap₂ (λ t s. not t && s) ((told x k).base ∙ ap (λ (model : SttModel). address_tainted model before e) t.stands.model) shows
      ∙ sym (ap₂ (λ w r. w && r && (not (address_tainted d.stt_model before e) && may_show d before)) t.candidate.waits (is_ready (ap is_store is)))
      ∙ ap (λ k. decides_as k d before e) (sym is)

  -- a division that may show its time tells it where both operands are untainted
  division_decides : (x : Sources) (b : Bool) → e.item.kind ≡ Div → slice_get s.walk.sources.now.items p.position ≡ Some x →
      b ≡ may_transmit e.item.kind d s.point.now.serial e.serial x.roots → b ≡ decides_as e.item.kind d before e
  division_decides x b is k q =
      q ∙ ap (λ k. may_transmit k d s.point.now.serial e.serial x.roots) is
      ∙ ap₂ (λ t s. not t && s) ((told x k).any ∙ ap (λ (model : SttModel). any_tainted model before e) t.stands.model) shows
      ∙ sym (ap₂ (λ w r. w && r && (not (any_tainted d.stt_model before e) && may_show d before)) t.candidate.waits (is_ready (ap is_store is)))
      ∙ ap (λ k. decides_as k d before e) (sym is)

  -- a load or division tells its address or time where what it asks of taint and of the defence is so
  pub untainted_decides : (x : Sources) (b : Bool) → (e.item.kind ≡ Load) ⊎ (e.item.kind ≡ Div) → slice_get s.walk.sources.now.items p.position ≡ Some x →
      b ≡ may_transmit e.item.kind d s.point.now.serial e.serial x.roots → b ≡ decides_as e.item.kind d before e
  untainted_decides x b (inl is) k q = load_decides x b is k q
  untainted_decides x b (inr is) k q = division_decides x b is k q

  -- ---- a store's address part

  in_step : InStep d e
  in_step = step_at d (window_of s) p.position e t.stands.store_parts t.stands.together t.candidate.at

  -- the address part of a store that has issued may not issue again
  pub address_issued : has_address e ≡ true → false ≡ part_may AddressPort d before e
  address_issued h = sym (part_gone part.Address d before e h)

  -- the address part of a store that may not show its operands may not issue
  pub address_hidden : (b : Bool) → b ≡ may_show_by d s.point.now.serial e.serial → b ≡ false → has_address e ≡ false → false ≡ part_may AddressPort d before e
  address_hidden b q h f =
      let hidden : may_show d before ≡ false = sym shows ∙ sym q ∙ h in
      sym (part_may_by part.Address d before e false f
      (ap (λ m. if d.version == 1 then ready d before e && is_whole e && m else m && all_known d before (base_of (sources e))) hidden
      ∙ by_version (d.version == 1) (ready d before e && is_whole e)))
    where
      by_version : (v r : Bool) → (if v then r && false else false) ≡ false
      by_version true r = and-false r
      by_version false r = refl

  module _ (b : Bool) (q : b ≡ may_show_by d s.point.now.serial e.serial) (h : b ≡ true) (f : has_address e ≡ false) where
    shown : may_show d before ≡ true
    shown = sym shows ∙ sym q ∙ h

    -- the address part of a store in version 1 that may show its operands may issue: both sources are there, and it
    -- goes with the data part
    pub address_with_data : stores_in_one d ≡ true → is_store e.item.kind ≡ true → true ≡ part_may AddressPort d before e
    address_with_data one n =
        sym (part_may_by part.Address d before e true f (first_ready d before e (base_of (sources e)) (may_show d before) in_step one n t.candidate.waits t.candidate.able ∙ shown))

    -- the address part of a store in version 2 that may show its operands may issue where its base is there
    pub address_alone : (r : Bool) → stores_in_one d ≡ false → option_map (ready_part part.Address) (slice_get s.stations.now.held p.station) ≡ Some r → r ≡ part_may AddressPort d before e
    address_alone r apart k =
        let known = tells_part part.Address d (flight_of t.stands.rest s) p.position e t.stands.refines (moved s t.stands) t.candidate.at t.candidate.waits in
        let here : option_map (ready_part part.Address) (slice_get s.stations.now.held p.station) ≡ Some (all_known d before (base_of (sources e))) =
        ap (λ n. option_map (ready_part part.Address) (slice_get s.stations.now.held n)) t.candidate.station ∙ known in
        let both : Some r ≡ Some (all_known d before (base_of (sources e))) = sym k ∙ here in
        let same : r ≡ all_known d before (base_of (sources e)) = cc in
        sym (part_may_by part.Address d before e r f
        (second_ready d before e (base_of (sources e)) (may_show d before) apart ∙ ap₂ (λ a b. a && b) shown (sym same)))

-- ---- the marks of the first operand

-- the marks of the first operand are those of the base, if there is one
pub base_marked : (regs : List WordMarks) (older : List Entry) (marks : List EntryMarks) (rs : List ℕ) → any_byte (first_marks regs older marks rs) ≡ any_marked regs older marks (base_of rs)
base_marked regs older marks [] = refl
base_marked regs older marks (r ∷ rs) = sym (or_false (any_byte (first_marks regs older marks (r ∷ rs))))
