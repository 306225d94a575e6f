-- The writers of registers among the entries in flight: where they stand, and that the serials of an entry's sources
-- find them.
use mathlib.Core.List.{reverse_aux}
use Rattle.std.proofs.Common.{Bool, List, None, Option, Some, [], ap, ap₂, arith, cond, false, inl, inr, length, refl, slice_get, subst, suc, take, true, zero, ℕ, ⊎_elim, ◌<◌, ◌∙◌, ◌∷◌, ◌≡◌, ◌≤◌}
use Rattle.std.proofs.lemmas.Bool.Decides.{nat_tests}
use Rattle.std.proofs.lemmas.List.Elements.{All-weaker}
use Rattle.std.proofs.lemmas.Option.{slice_get_within}
use Rattle.std.specs.Option.{option_map}
use Rattle.std.specs.Prelude.{if◌then◌else◌, map, nat_le, reverse, ◌==◌, ◌⊎◌}
use Rattle.rob_ring.specs.Ring.{below}
use Rattle.rob_ring.specs.declared.beside.Sources.{Sources}
use Rattle.rv_types.specs.Regs.{two}
use Rattle.window_model.proofs.Serials.{none_below, place_of}
use Rattle.window_model.specs.Order.{before_at, sources, writer, writes}
use Rattle.window_model.specs.Serials.{Rise}
use Rattle.window_model.specs.declared.Entry.{Entry}
use Rattle.refinement.proofs.Serials.{oldest_least}
use Rattle.refinement.proofs.Sources.{sources_are}
use Rattle.refinement.specs.Roots.{root_in_flight}
use Rattle.refinement.specs.Telling.{entry_of, source_by, TellsWriters}
use Rattle.refinement.specs.Waiters.{oldest_of}
use Rattle.refinement.specs.Writers.{if_serial, in_flight, writer_of, writer_of_source}
use Rattle.rename_taint.specs.declared.Source.TheVariants as source

-- a writer stands among these entries, or before them
pub stands_in : (r : ℕ) (w : Entry) (before es : List Entry) → writer (reverse_aux es before) r ≡ Some w → ((i : ℕ) × (slice_get es i ≡ Some w)) ⊎ (writer before r ≡ Some w)
stands_in r w before [] h = inr h
stands_in r w before (e ∷ es) h = ⊎_elim (λ (k : (i : ℕ) × (slice_get es i ≡ Some w)). inl (suc k.0, k.1)) (λ (k : writer (e ∷ before) r ≡ Some w). by_writes (writes r e) k) (stands_in r w (e ∷ before) es h)
  where
    by_writes : (b : Bool) → cond b (Some e) (writer before r) ≡ Some w → ((i : ℕ) × (slice_get (e ∷ es) i ≡ Some w)) ⊎ (writer before r ≡ Some w)
    by_writes true k = inl (0, k)
    by_writes false k = inr k

-- a writer is found by its serial
pub writer_place : (r : ℕ) (w : Entry) (es : List Entry) → Rise es → writer (reverse es) r ≡ Some w → slice_get es (length (below w.serial es)) ≡ Some w
writer_place r w es rise h = ⊎_elim (λ (k : (i : ℕ) × (slice_get es i ≡ Some w)). ap (slice_get es) (place_of es k.0 w rise k.1) ∙ k.1) (λ (k : writer [] r ≡ Some w). absurd (cc)) (stands_in r w [] es h)

-- the entry of a writer's serial is the writer
pub found : (r : ℕ) (es : List Entry) → Rise es → (o : Option Entry) → writer (reverse es) r ≡ o → entry_of es (source_by o) ≡ o
found r es rise None h = refl
found r es rise (Some w) h = writer_place r w es rise h

-- a writer's serial is that of an entry in the window
pub within : (r s : ℕ) (es : List Entry) → Rise es → (o : Option Entry) → writer (reverse es) r ≡ o → source_by o ≡ source.Entry s → length (below s es) < length es
within r s es rise None h q = absurd (cc)
within r s es rise (Some w) h q =
    let n : w.serial ≡ s = cc in
    subst (λ n. length (below n es) < length es) n (slice_get_within es (length (below w.serial es)) w (writer_place r w es rise h))

taken_at : {X : Type 0} (xs : List X) (i k : ℕ) (x : X) → slice_get (take i xs) k ≡ Some x → slice_get xs k ≡ Some x
taken_at xs zero k x h = absurd (cc)
taken_at [] (suc i) k x h = absurd (cc)
taken_at (y ∷ xs) (suc i) zero x h = h
taken_at (y ∷ xs) (suc i) (suc k) x h = taken_at xs i k x h

-- no entry has a serial that is below the oldest's
old_serial : (next s : ℕ) (es : List Entry) → Rise es → s < oldest_of next es → in_flight es (Some s) ≡ None
old_serial next s [] r lt = refl
old_serial next s (x ∷ es) r lt =
    let n = none_below s (x ∷ es) (All-weaker (λ d. x.serial ≤ d.serial) (λ d. s ≤ d.serial) (λ d le. omega (arith, lt, le)) (x ∷ es) (oldest_least next (x ∷ es) r)) in
    let f : (x.serial == s) ≡ false = grind (arith, nat_tests) in
    ap (λ ds. if_serial s (slice_get (x ∷ es) (length ds))) n ∙ ap (λ b. if b then Some x else None) f

module _ (next : ℕ) (es : List Entry) (rise : Rise es) (i : ℕ) where
  here : (r : ℕ) (w : Entry) → writer (before_at es i) r ≡ Some w → in_flight es (Some w.serial) ≡ Some w
  here r w h =
      ⊎_elim
      (λ (k : (n : ℕ) × (slice_get (take i es) n ≡ Some w)).
      let at = taken_at es i k.0 w k.1 in
      let t : (w.serial == w.serial) ≡ true = grind (arith, nat_tests) in
      ap (λ o. if_serial w.serial o) (ap (slice_get es) (place_of es k.0 w rise at) ∙ at) ∙ ap (λ b. if b then Some w else None) t)
      (λ (k : writer [] r ≡ Some w). absurd (cc))
      (stands_in r w [] (take i es) h)

  none_named : (o : Option Entry) → None ≡ option_map (λ (e : Entry). e.serial) o → None ≡ o
  none_named None h = refl
  none_named (Some e) h = absurd (cc)

  one : (ws o : Option ℕ) → root_in_flight (oldest_of next es) ws ≡ writer_of_source (before_at es i) o → in_flight es ws ≡ writer_of (before_at es i) o
  one None None h = refl
  one None (Some r) h = none_named (writer (before_at es i) r) h
  one (Some s) o h = by_age (nat_le (oldest_of next es) s) refl o h
    where
      by_writer : (r : ℕ) (w : Option Entry) → writer (before_at es i) r ≡ w → Some s ≡ option_map (λ (e : Entry). e.serial) w → in_flight es (Some s) ≡ w
      by_writer r None k h = absurd (cc)
      by_writer r (Some w) k h = let n : s ≡ w.serial = cc in ap (λ n. in_flight es (Some n)) n ∙ here r w k

      by_age : (b : Bool) → nat_le (oldest_of next es) s ≡ b → (o : Option ℕ) → (if b then Some s else None) ≡ writer_of_source (before_at es i) o → in_flight es (Some s) ≡ writer_of (before_at es i) o
      by_age true q None h = absurd (cc)
      by_age true q (Some r) h = by_writer r (writer (before_at es i) r) refl h
      by_age false q None h = let lt : s < oldest_of next es = grind (arith, nat_tests) in old_serial next s es rise lt
      by_age false q (Some r) h = let lt : s < oldest_of next es = grind (arith, nat_tests) in old_serial next s es rise lt ∙ none_named (writer (before_at es i) r) h

  -- pairs of serials of writers, some of which may have retired, find the writers
  pub pairs : (ws os : List (Option ℕ)) → map (root_in_flight (oldest_of next es)) ws ≡ map (writer_of_source (before_at es i)) os → map (in_flight es) ws ≡ map (writer_of (before_at es i)) os
  pairs [] [] h = refl
  pairs [] (o ∷ os) h = absurd (cc)
  pairs (w ∷ ws) [] h = absurd (cc)
  pairs (w ∷ ws) (o ∷ os) h = ap₂ (λ x xs. x ∷ xs) (one w o (cc)) (pairs ws os (cc))

-- by the serials that stand at an entry's position its sources' writers are found
pub tells_writers : TellsWriters
tells_writers p i e x s h k = pairs p.next p.window s.rise i x.writers (two (sources e)) (ap (λ (x : Sources). x.writers) (sources_are p i e x s h k))
