-- Serials rise, as entries go on, leave and come.
use Rattle.std.proofs.Common.{◌≡◌, ℕ, suc, ◌+◌, ◌≤◌, List, [], ◌∷◌, ◌++◌, arith}
use Rattle.window_model.specs.declared.Entry.{Entry}
use Rattle.window_model.proofs.Counts.{Evolves}
use Rattle.machine_facts.specs.Timely.{Rises}

rises_past : (low next : ℕ) (w : List Entry) → Rises low w next → low ≤ next
rises_past low next [] h = h
rises_past low next (e ∷ w) h = let r = rises_past (suc e.serial) next w h.1 in omega (arith, r, h.0)

-- serials that rise from a number on rise from a lower one on
pub rises_from : (low low2 next : ℕ) (w : List Entry) → low2 ≤ low → Rises low w next → Rises low2 w next
rises_from low low2 next [] le h = omega (arith, le, h)
rises_from low low2 next (e ∷ w) le h = (omega (arith, le, h.0), h.1)

-- serials rise as entries go on, since each keeps its own
pub rises_on : (low next : ℕ) (w w2 : List Entry) → Evolves w w2 → Rises low w next → Rises low w2 next
rises_on low next w [] v h = rises_past low next w h
rises_on low next [] (e2 ∷ w2) v h = absurd v
rises_on low next (e ∷ w) (e2 ∷ w2) v h =
    let r = rises_on (suc e.serial) next w w2 v.1 h.1 in
    (omega (arith, v.0.serial, h.0), rises_from (suc e.serial) (suc e2.serial) next w2 (omega (arith, v.0.serial)) r)

-- serials rise once an entry with the next one stands behind the others
pub rises_push : (low next : ℕ) (w : List Entry) (e : Entry) → e.serial ≡ next → Rises low w next → Rises low (w ++ e ∷ []) (next + 1)
rises_push low next [] e q h = (omega (arith, q, h), omega (arith, q))
rises_push low next (x ∷ w) e q h = (h.0, rises_push (suc x.serial) next w e q h.1)
