-- Which entries may show what they show, by the point and the youngest roots of their sources.
use Rattle.std.proofs.Common.{◌≡◌, inl, inr, ℕ, ◌<◌, ◌≤◌, Bool, not, ◌&&◌, List, [], ◌∷◌, Option, Some, slice_get, refl, ap, ap₂, sym, ◌∙◌, arith}
use Rattle.std.specs.Prelude.{◌⊎◌}
use Rattle.std.proofs.lemmas.Option.{slice_get_within}
use Rattle.rv_types.specs.declared.Kind.TheVariants.{Load, Div}
use Rattle.machine_desc.specs.declared.Desc.{Desc}
use Rattle.window_model.specs.declared.Entry.{Entry}
use Rattle.window_model.specs.Delay.{may_show}
use Rattle.window_model.specs.Order.{before_at}
use Rattle.window_model.proofs.Serials.{Falls, behind_at, falls}
use Rattle.visibility.specs.Gate.{may_show_by, may_transmit}
use Rattle.visibility.specs.Point.{Point}
use Rattle.visibility.proofs.Moving.{Tells}
use Rattle.visibility.proofs.Showing.{shown_by_point}
use Rattle.refinement.proofs.Visible.{operands_told}
use Rattle.refinement.specs.Telling.{OperandsTold}
use Rattle.refinement.specs.Waiters.{oldest_of}
use Rattle.core_parts.specs.Lent.{HasRoots, ShowsOlder}
use Rattle.slot_reasons.specs.Kept.{shows_as}
use Rattle.kept_entry.specs.declared.seen.Seen.{Seen}
use Rattle.kept_entry.specs.State.{Stands, WaitsAt, window_of}
use Rattle.kept_entry.proofs.Looking.{behind_each}

-- what is older than a window with an entry is visible by the point
older_shown : (p : Point) (next : ℕ) (window : List Entry) (i : ℕ) (e : Entry) → ShowsOlder p window → slice_get window i ≡ Some e → (s : ℕ) → s < oldest_of next window → s ≤ p.serial
older_shown p next [] i e h at s lt = absurd (cc)
older_shown p next (x ∷ window) i e h at s lt = h s x refl lt

module _ (s : Seen) (t : Stands s) (k i : ℕ) (e : Entry) (h : WaitsAt s k i e) where
  abbrev d : Desc
  d = s.desc.now

  abbrev before : List Entry
  before = before_at (window_of s) i

  -- the point, as one of the description's model
  abbrev point : Point
  point = record { serial = s.point.now.serial; model = d.stt_model }

  -- by the point it is told whether the entry may show its operands
  pub shown : may_show_by d s.point.now.serial e.serial ≡ may_show d before
  shown = shown_by_point d point before e refl (t.visible i e h.at)

  module _ (next : ℕ) (roots : List (Option ℕ)) (has : HasRoots next (window_of s) i roots) where
    told : OperandsTold point before e roots
    told =
        let lt = slice_get_within (window_of s) i e h.at in
        operands_told point (oldest_of next (window_of s)) before e roots
        (behind_each (Tells point) (window_of s) t.visible i (omega (arith, lt)))
        (behind_at Falls [] (window_of s) i tt (falls (window_of s) t.rise))
        (older_shown s.point.now next (window_of s) i e t.older h.at)
        (has e h.at)

    -- a load or division may show its address or time where what it asks of taint and of the defence is so
    pub transmits : (b : Bool) → (e.item.kind ≡ Load) ⊎ (e.item.kind ≡ Div) → b ≡ may_transmit e.item.kind d s.point.now.serial e.serial roots → b ≡ shows_as e.item.kind d before e
    transmits b (inl is) q =
        q ∙ ap (λ k. may_transmit k d s.point.now.serial e.serial roots) is ∙ ap₂ (λ t m. not t && m) told.base shown ∙ ap (λ k. shows_as k d before e) (sym is)
    transmits b (inr is) q =
        q ∙ ap (λ k. may_transmit k d s.point.now.serial e.serial roots) is ∙ ap₂ (λ t m. not t && m) told.any shown ∙ ap (λ k. shows_as k d before e) (sym is)
