-- A walk that asks for the next entry that passes: what holds at a position goes on to hold at the next one, where
-- entries that don't pass change nothing.
use Rattle.std.proofs.Common.{◌≡◌, ℕ, zero, suc, ◌+◌, ◌-◌, ◌<◌, ◌≤◌, Bool, false, List, [], ◌∷◌, length, Some, refl, subst, arith, slice_get}
use Rattle.std.specs.Slice.Scan.{HoldsNowhere, holds_at}
use Rattle.window_model.specs.declared.Entry.{Entry}
use Rattle.rob_ring.specs.Ring.{IsNext}

-- an entry of which this is told
told_at : (p : Entry → Bool) (b : Bool) (es : List Entry) (k : ℕ) → k < length es → holds_at p es k ≡ b → (e : Entry) × (slice_get es k ≡ Some e) × (p e ≡ b)
told_at p b [] k lt h = absurd (omega (arith, lt))
told_at p b (e ∷ es) zero lt h = (e, refl, h)
told_at p b (e ∷ es) (suc k) lt h = told_at p b es k (omega (arith, lt)) h

module _ (p : Entry → Bool) (es : List Entry) (P : ℕ → Type 0) (step : (k : ℕ) (e : Entry) → slice_get es k ≡ Some e → p e ≡ false → P k → P (k + 1)) where
  over : (i n j : ℕ) → j ≡ i + n → j ≤ length es → HoldsNowhere (holds_at p es) i j → P i → P j
  over i zero j same le none h = let here : i ≡ j = omega (arith, same) in subst P here h
  over i (suc n) j same le none h =
      let lt : i < j = omega (arith, same) in
      let e = told_at p false es i (omega (arith, lt, le)) (none i (omega arith) lt) in
      over (i + 1) n j (omega (arith, same)) le (λ k low high. none k (omega (arith, low)) high) (step i e.0 e.1 e.2 h)

  -- what entries that don't pass the test leave as it is holds at the next entry that does, if it holds before
  pub to_next : (i j : ℕ) → IsNext p es i j → P i → P j
  to_next i j next h =
      let low = next.low in
      let within = next.within in
      over i (j - i) j (omega (arith, low)) (omega (arith, within)) next.before h

  -- what holds at a position holds at the end, where no entry from there on passes the test
  pub to_end : (i : ℕ) → i ≤ length es → HoldsNowhere (holds_at p es) i (length es) → P i → P (length es)
  to_end i le none h = over i (length es - i) (length es) (omega (arith, le)) (omega arith) none h
