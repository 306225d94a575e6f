-- The entry that is picked, at its position in the window.
use Rattle.std.proofs.Common.{◌≡◌, ℕ, ◌<◌, List, [], ◌∷◌, ◌++◌, length, Option, Some, None, refl, ap, sym, ◌∙◌, arith, slice_get}
use Rattle.std.specs.Prelude.{reverse, slice_set}
use Rattle.std.specs.Option.{option_map}
use Rattle.std.proofs.Math.Seq.{set-append_seam}
use Rattle.std.proofs.lemmas.List.{length-append, length-reverse}
use Rattle.machine_desc.specs.declared.Desc.{Desc}
use Rattle.window_model.specs.declared.Entry.{Entry}
use Rattle.window_model.specs.Order.{Place, first}
use Rattle.window_model.specs.Resolve.{may_resolve}
use Rattle.window_model.proofs.Booleans.{some_of}
use Rattle.window_model.proofs.Places.{found}
use Rattle.window_model.proofs.Resolving.{placed}
use Rattle.window_model.proofs.Lists.{get_seam}
use Rattle.resolve.specs.Taken.{resolving}

-- the oldest entry that may be resolved, at position i of the window
pub record Picked (d : Desc) (w : List Entry) (i : ℕ) : Type 0 where
  pub place : Place
  pub is : first (may_resolve d) w ≡ Some place
  pub at : length (reverse place.before) ≡ i
  pub whole : w ≡ reverse place.before ++ place.entry ∷ place.younger

pub picked : (d : Desc) (w : List Entry) (i : ℕ) → Some i ≡ resolving d w → Picked d w i
picked d w i h = by_first (first (may_resolve d) w) refl h
  where
    by_first : (o : Option Place) → first (may_resolve d) w ≡ o → Some i ≡ option_map (λ p. length p.before) o → Picked d w i
    by_first None q h = absurd (cc)
    by_first (Some p) q h =
        let n : length p.before ≡ i = some_of _ _ (sym h) in
        record { place = p; is = q; at = length-reverse p.before ∙ n; whole = placed d w p (found (may_resolve d) [] w p q) }

-- the position of the entry that Resolve takes is one of the window
pub inside : (d : Desc) (w : List Entry) (i : ℕ) → Picked d w i → i < length w
inside d w i k =
    let all = ap length k.whole in
    let sum = length-append (reverse k.place.before) (k.place.entry ∷ k.place.younger) in
    let n = k.at in
    omega (arith, all, sum, n)

-- ---- the entry at its position

-- the entry e, at position i of the window, is the oldest that may be resolved
pub record Taken (d : Desc) (w : List Entry) (i : ℕ) (e : Entry) : Type 0 where
  pub before : List Entry
  pub younger : List Entry
  pub is : first (may_resolve d) w ≡ Some (record { before = before; entry = e; younger = younger })
  pub at : length (reverse before) ≡ i
  pub whole : w ≡ reverse before ++ e ∷ younger

pub taken : (d : Desc) (w : List Entry) (i : ℕ) (e : Entry) → Some i ≡ resolving d w → slice_get w i ≡ Some e → Taken d w i e
taken d w i e h at =
    let k = picked d w i h in
    let p = k.place in
    let there : slice_get w i ≡ Some p.entry =
    ap (λ n. slice_get w n) (sym k.at) ∙ ap (λ w. slice_get w (length (reverse p.before))) k.whole ∙ get_seam (reverse p.before) p.younger p.entry in
    let same : p.entry ≡ e = some_of _ _ (sym there ∙ at) in
    record {
      before = p.before;
      younger = p.younger;
      is = k.is ∙ ap (λ (e : Entry). Some (record { before = p.before; entry = e; younger = p.younger })) same;
      at = k.at;
      whole = k.whole ∙ ap (λ e. reverse p.before ++ e ∷ p.younger) same;
    }

-- a window with another entry in the place of the one that Resolve takes
pub replaced : (d : Desc) (w : List Entry) (i : ℕ) (e e2 : Entry) (k : Taken d w i e) → slice_set w i e2 ≡ reverse k.before ++ e2 ∷ k.younger
replaced d w i e e2 k =
    ap (λ n. slice_set w n e2) (sym k.at) ∙ ap (λ w. slice_set w (length (reverse k.before)) e2) k.whole ∙ set-append_seam (reverse k.before) e k.younger e2
