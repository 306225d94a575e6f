-- By position the sources of the entries, as they are in the window.
use Rattle.std.proofs.Common.{List, Some, [], ap, map, refl, slice_get, suc, sym, zero, ℕ, ◌∙◌, ◌∷◌, ◌≡◌}
use Rattle.std.proofs.lemmas.Option.{slice_get-map}
use Rattle.std.specs.Option.{option_map}
use Rattle.rob_ring.specs.Beside.{each_roots}
use Rattle.rob_ring.specs.declared.beside.Sources.{Sources}
use Rattle.window_model.specs.Order.{before_at, each_from}
use Rattle.window_model.specs.declared.Entry.{Entry}
use Rattle.refinement.proofs.Each.{each_at}
use Rattle.refinement.proofs.Lists.{map_twice}
use Rattle.refinement.specs.Footprint.{Footprint, Terms, column, footprint_of, unretired_sources}
use Rattle.refinement.specs.InFlight.{InFlight}
use Rattle.refinement.specs.Refines.{Refines, footprints, terms}
use Rattle.refinement.specs.Roots.{source_roots, root_in_flight}
use Rattle.refinement.specs.Waiters.{oldest_of}
use Rattle.refinement.specs.Writers.{source_writers}

-- ---- sources

at_each : {X : Type 0} (g : Footprint → X) (ks : List Footprint) (i : ℕ) (k : Footprint) → slice_get ks i ≡ Some k → slice_get (column (λ k. Some (g k)) ks) i ≡ Some (g k)
at_each g [] i k h = absurd (cc)
at_each g (x ∷ ks) zero k h = let a : x ≡ k = cc in ap (λ k. Some (g k)) a
at_each g (x ∷ ks) (suc i) k h = at_each g ks i k h

-- by position the roots and writers of an entry's sources, where they haven't retired
pub sources_are : (p : InFlight) (i : ℕ) (e : Entry) (x : Sources) → Refines p → slice_get p.window i ≡ Some e → slice_get p.sources i ≡ Some x →
    unretired_sources (oldest_of p.next p.window) x ≡ record { roots = source_roots (before_at p.window i) e; writers = source_writers (before_at p.window i) e }
sources_are p i e x s h k =
    let f = oldest_of p.next p.window in
    let there = sym (ap (option_map (unretired_sources f)) k) ∙ sym (slice_get-map (unretired_sources f) p.sources i) ∙ ap (λ xs. slice_get xs i) s.columns.sources
    ∙ at_each (λ k. k.sources) (footprints p) i (footprint_of (terms p) (before_at p.window i) e) (each_at (footprint_of (terms p)) [] p.window i e h) in
    some_same _ _ there
  where
    some_same : (a b : Sources) → Some a ≡ Some b → a ≡ b
    some_same a b h = cc

-- the roots of the footprints, position by position
roots_kept : (t : Terms) (b es : List Entry) → map (λ (x : Sources). x.roots) (column (λ k. Some k.sources) (each_from (footprint_of t) b es)) ≡ each_from source_roots b es
roots_kept t b [] = refl
roots_kept t b (e ∷ es) = ap (λ rs. source_roots b e ∷ rs) (roots_kept t (e ∷ b) es)

-- by position the roots of all entries' sources, where they haven't retired
pub roots_are : (p : InFlight) → Refines p → map (map (root_in_flight (oldest_of p.next p.window))) (each_roots p.sources) ≡ each_from source_roots [] p.window
roots_are p s =
    let f = oldest_of p.next p.window in
    map_twice (map (root_in_flight f)) (λ (x : Sources). x.roots) p.sources ∙ sym (map_twice (λ (x : Sources). x.roots) (unretired_sources f) p.sources)
    ∙ ap (map (λ (x : Sources). x.roots)) s.columns.sources ∙ roots_kept (terms p) [] p.window
