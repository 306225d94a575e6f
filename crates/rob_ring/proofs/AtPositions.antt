-- What stands beside the entries, as lists of roots and of writers.
use Rattle.std.proofs.Common.{◌≡◌, ℕ, List, length, Some, ap, ◌∙◌, slice_get}
use Rattle.std.specs.Option.{option_map}
use Rattle.std.proofs.lemmas.List.{length-map}
use Rattle.std.proofs.lemmas.Option.{slice_get-map}
use Rattle.rob_ring.specs.Beside.{each_roots}
use Rattle.rob_ring.specs.declared.beside.Sources.{Sources}

-- at the position of sources stand their roots
pub roots_here : (xs : List Sources) (i : ℕ) (s : Sources) → slice_get xs i ≡ Some s → slice_get (each_roots xs) i ≡ Some s.roots
roots_here xs i s h = slice_get-map (λ (s : Sources). s.roots) xs i ∙ ap (option_map (λ (s : Sources). s.roots)) h

-- there are as many pairs of roots as pairs of sources
pub as_many_roots : (xs : List Sources) → length (each_roots xs) ≡ length xs
as_many_roots xs = length-map xs (λ s. s.roots)
