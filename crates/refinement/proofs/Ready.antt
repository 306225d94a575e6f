-- What the stations tell of the entries that wait, once the point has moved over the window: who is ready, and which
-- part of it.
use Rattle.std.proofs.Common.{Bool, List, None, Option, Some, [], ap, ap₂, arith, false, is_none, length, map, not, refl, slice_get, subst, sym, true, ℕ, ◌&&◌, ◌||◌, ◌∙◌, ◌∷◌, ◌≡◌, ◌≤◌}
use Rattle.std.specs.List.{list_all, list_any}
use Rattle.std.specs.Option.{option_map}
use Rattle.std.specs.Prelude.{if◌then◌else◌}
use Rattle.machine_desc.specs.declared.Desc.{Desc}
use Rattle.rv_types.specs.Regs.{two}
use Rattle.stations.specs.Stations.{Station, able_as, nothing_at, source_of}
use Rattle.stations.specs.declared.wants.Part.{Part}
use Rattle.stations.specs.declared.wants.Wants.{Wants}
use Rattle.visibility.specs.Point.{HasAdvanced, Point}
use Rattle.visibility.proofs.Moving.{Tells}
use Rattle.window_model.proofs.Booleans.{or_false}
use Rattle.window_model.proofs.Serials.{behind_at}
use Rattle.window_model.specs.Along.{Along, Behind, Fact}
use Rattle.window_model.specs.Order.{base_of, before_at, is_done, is_load, is_waiting, others_of, sources, writer, writes}
use Rattle.window_model.specs.Ready.{all_known, gives, holds, is_known}
use Rattle.window_model.specs.Taint.{visible}
use Rattle.window_model.specs.declared.Entry.{Entry}
use Rattle.refinement.proofs.Stations.{has_station}
use Rattle.refinement.proofs.Youngest.{few_reads}
use Rattle.refinement.specs.InFlight.{InFlight, hold_in}
use Rattle.refinement.specs.Refines.{Refines}
use Rattle.refinement.specs.Stations.{station_of}
use Rattle.refinement.specs.Telling.{has_sources, hold_of, own_of, TellsReady, TellsAble, TellsPart, MovedBy}
use Rattle.refinement.specs.Waiters.{Hold, Waiter, awaited_serial, awaited_of, awaits_of, gives_at, waiter_in, wants_of}
use Rattle.stations.specs.declared.wants.Part.TheVariants as part
use Rattle.stations.specs.declared.wants.Wants.TheVariants as wants

-- an older entry gives its value by what results are held back by where it does by the machine's definition
abbrev GivesAlike : Desc → Hold → Fact
GivesAlike d hold before e = gives_at hold e ≡ gives d before e

alike_behind : (d : Desc) (point : Point) (before : List Entry) → point.model ≡ d.stt_model → Behind (Tells point) before → Behind (GivesAlike d (hold_of d point)) before
alike_behind d point [] q t = tt
alike_behind d point (e ∷ before) q t =
    (ap (λ v. not (holds d.stt_defence && is_load e.item.kind && not v) && is_done e.state) (t.0 ∙ ap (λ m. visible m before) q), alike_behind d point before q t.1)

along_window : (point : Point) (es : List Entry) → HasAdvanced point es → Along (Tells point) [] es
along_window point [] m = tt
along_window point (e ∷ es) m = m.each

alike_at : (d : Desc) (p : InFlight) (i : ℕ) → MovedBy d p → Behind (GivesAlike d (hold_in p)) (before_at p.window i)
alike_at d p i b =
    subst (λ h. Behind (GivesAlike d (record { holds = h; point = p.point.serial })) (before_at p.window i)) (sym b.holds)
    (alike_behind d p.point (before_at p.window i) b.model (behind_at (Tells p.point) [] p.window i tt (along_window p.point p.window b.advanced)))

module _ (d : Desc) (hold : Hold) where
  none_awaited : (before : List Entry) (r : ℕ) → Behind (GivesAlike d hold) before → is_none (awaited_of hold (writer before r)) ≡ is_known d before r
  none_awaited [] r k = refl
  none_awaited (e ∷ before) r k = by_writer (writes r e) (none_awaited before r k.1)
    where
      by_given : (b : Bool) → is_none (if b then None else Some e.serial) ≡ b
      by_given true = refl
      by_given false = refl

      by_writer : (w : Bool) → is_none (awaited_of hold (writer before r)) ≡ is_known d before r → is_none (awaited_of hold (if w then Some e else writer before r)) ≡ (if w then gives d before e else is_known d before r)
      by_writer true h = by_given (gives_at hold e) ∙ k.0
      by_writer false h = h

  ready_by : (before : List Entry) (rs : List ℕ) → Behind (GivesAlike d hold) before → length rs ≤ 2 → list_all is_none (map (awaited_serial hold before) (two rs)) ≡ list_all (is_known d before) rs
  ready_by before [] k le = refl
  ready_by before (a ∷ []) k le = ap (λ b. b && true) (none_awaited before a k)
  ready_by before (a ∷ b ∷ []) k le = ap₂ (λ p q. p && (q && true)) (none_awaited before a k) (none_awaited before b k)
  ready_by before (a ∷ b ∷ c ∷ rs) k le = absurd (omega (arith, le))

  -- a source that is known is known, and so are all of one
  one_known : (before : List Entry) (r : ℕ) → Behind (GivesAlike d hold) before → is_none (awaited_of hold (writer before r)) ≡ all_known d before (r ∷ [])
  one_known before r k = none_awaited before r k ∙ sym (and_true (is_known d before r))
    where
      and_true : (b : Bool) → (b && true) ≡ b
      and_true true = refl
      and_true false = refl

  -- what a part of a store awaits, by its own source
  part_by : (part : Part) (before : List Entry) (rs : List ℕ) → Behind (GivesAlike d hold) before → length rs ≤ 2 →
      nothing_at (source_of part) (map (awaited_serial hold before) (two rs)) ≡ all_known d before (own_of part rs)
  part_by part.Address before [] k le = refl
  part_by part.Data before [] k le = refl
  part_by part.Address before (a ∷ []) k le = one_known before a k
  part_by part.Data before (a ∷ []) k le = refl
  part_by part.Address before (a ∷ b ∷ []) k le = one_known before a k
  part_by part.Data before (a ∷ b ∷ []) k le = one_known before b k
  part_by part before (a ∷ b ∷ c ∷ rs) k le = absurd (omega (arith, le))

  or_none : (a b : Bool) → (a || (b || false)) ≡ (a || b)
  or_none true b = refl
  or_none false b = or_false b

  either_by : (before : List Entry) (rs : List ℕ) → Behind (GivesAlike d hold) before → length rs ≤ 2 →
      list_any is_none (map (awaited_serial hold before) (two rs)) ≡ (all_known d before (base_of rs) || all_known d before (others_of rs))
  either_by before [] k le = refl
  either_by before (a ∷ []) k le = or_none (is_none (awaited_serial hold before (Some a))) true ∙ ap (λ b. b || true) (one_known before a k)
  either_by before (a ∷ b ∷ []) k le =
      or_none (is_none (awaited_serial hold before (Some a))) (is_none (awaited_serial hold before (Some b))) ∙ ap₂ (λ p q. p || q) (one_known before a k) (one_known before b k)
  either_by before (a ∷ b ∷ c ∷ rs) k le = absurd (omega (arith, le))

  able_by : (w : Wants) (before : List Entry) (e : Entry) → Behind (GivesAlike d hold) before → able_as w (map (awaited_serial hold before) (two (sources e))) ≡ has_sources w d before e
  able_by wants.Whole before e k = ready_by before (sources e) k (few_reads e.item.instr)
  able_by wants.Either before e k = either_by before (sources e) k (few_reads e.item.instr)
  able_by wants.Address before e k = part_by part.Address before (sources e) k (few_reads e.item.instr)
  able_by wants.Data before e k = part_by part.Data before (sources e) k (few_reads e.item.instr)

-- what is asked of what a station wants and awaits is asked of its waiter
asked_as : (t : Wants → List (Option ℕ) → Bool) (o : Option Station) → option_map (λ s. t s.wants s.awaits) o ≡ option_map (λ (w : Waiter). t w.wants w.awaits) (option_map waiter_in o)
asked_as t None = refl
asked_as t (Some s) = refl

-- what is asked of what an entry's station wants and awaits is asked of what the entry is to want and await
asked_of : (t : Wants → List (Option ℕ) → Bool) (p : InFlight) (i : ℕ) (e : Entry) → Refines p → slice_get p.window i ≡ Some e → is_waiting e.state ≡ true →
    option_map (λ s. t s.wants s.awaits) (slice_get p.held (station_of i p.window)) ≡ Some (t (wants_of p.version e) (awaits_of (hold_in p) (before_at p.window i) e))
asked_of t p i e s h w = asked_as t (slice_get p.held (station_of i p.window)) ∙ ap (option_map (λ (w : Waiter). t w.wants w.awaits)) (has_station p i e s h w)

-- the station of an entry that waits awaits nothing exactly where the entry is ready
pub tells_ready : TellsReady
tells_ready d p i e s b h w =
    asked_of (λ wants awaits. list_all is_none awaits) p i e s h w ∙ ap Some (ready_by d (hold_in p) (before_at p.window i) (sources e) (alike_at d p i b) (few_reads e.item.instr))

-- a station is able exactly where what its entry wants is there
pub tells_able : TellsAble
tells_able d p i e s b h w = asked_of able_as p i e s h w ∙ ap Some (able_by d (hold_in p) (wants_of p.version e) (before_at p.window i) e (alike_at d p i b))

-- a part of a store is ready exactly where the part's own source is
pub tells_part : TellsPart
tells_part part d p i e s b h w =
    asked_of (λ wants awaits. nothing_at (source_of part) awaits) p i e s h w
    ∙ ap Some (part_by d (hold_in p) part (before_at p.window i) (sources e) (alike_at d p i b) (few_reads e.item.instr))
