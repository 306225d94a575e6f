-- What a walk finds for the soonest cycle is what it began with, or some item is due in it.
use Rattle.std.proofs.Common.{◌≡◌, ◌⊎◌, inl, inr, ℕ, ◌<◌, List, length, get_or, subst, sym, ◌∙◌}
use Rattle.std.specs.Prelude.{Any}
use Rattle.std.proofs.lemmas.Option.{get_or_from_slice_get, slice_get-get_or}
use Rattle.window_model.specs.declared.Entry.{Entry}
use Rattle.window_model.specs.declared.Miss.{Miss}
use Rattle.window_model.specs.State.{Machine}
use Rattle.quiet_cycles.specs.Still.{IsDoneIn, IsDueIn, SomethingDueIn}

module _ {X : Type 0} (IsDue : ℕ → X → Type 0) (xs : List X) (most : ℕ) where
  -- the least so far is the one at first, or some item is due in that cycle
  abbrev pub Either : ℕ → Type 0
  Either least = (least ≡ most) ⊎ Any (IsDue least) xs

  -- a walk goes on, and the least is now m: that before, or the cycle in which this item is due
  pub either_more : (least m i : ℕ) (x : X) → i < length xs → get_or xs i x ≡ x → Either least → (m ≡ least) ⊎ IsDue m x → Either m
  either_more least m i x l at either (inr due) = inr (i, x, l, at, due)
  either_more least m i x l at (inl first) (inl same) = inl (same ∙ first)
  either_more least m i x l at (inr found) (inl same) = inr (subst (λ n. Any (IsDue n) xs) (sym same) found)

  pub either_at : (least m i : ℕ) (x : X) → i < length xs → Either least → (m ≡ least) ⊎ IsDue m (get_or xs i x) → Either m
  either_at least m i x l either step =
      either_more least m i (get_or xs i x) l (get_or_from_slice_get xs i _ _ (slice_get-get_or xs i x l)) either step

-- three walks, each from where the one before ended: over the divider, the lines and the entries
in_turn : (x : Machine) (n comes free most : ℕ)
    → (free ≡ most) ⊎ IsDueIn free x.cycle x.divider.free_from → (comes ≡ free) ⊎ Any (λ m. IsDueIn comes x.cycle m.due) x.misses → (n ≡ comes) ⊎ Any (λ e. IsDoneIn n x.cycle e.state) x.window
    → (n ≡ most) ⊎ SomethingDueIn n x
in_turn x n comes free most divider lines (inr done) = inr (inl done)
in_turn x n comes free most divider (inr line) (inl same) = inr (inr (inl (subst (λ k. Any (λ (m : Miss). IsDueIn k x.cycle m.due) x.misses) (sym same) line)))
in_turn x n comes free most (inr due) (inl second) (inl same) = inr (inr (inr (subst (λ k. IsDueIn k x.cycle x.divider.free_from) (sym (same ∙ second)) due)))
in_turn x n comes free most (inl first) (inl second) (inl same) = inl (same ∙ second ∙ first)

-- parts hold what the machine has
pub soonest : (x : Machine) (n comes free most cycle free_from : ℕ) (ms : List Miss) (es : List Entry)
    → cycle ≡ x.cycle → free_from ≡ x.divider.free_from → ms ≡ x.misses → es ≡ x.window
    → (free ≡ most) ⊎ IsDueIn free cycle free_from → (comes ≡ free) ⊎ Any (λ m. IsDueIn comes cycle m.due) ms → (n ≡ comes) ⊎ Any (λ e. IsDoneIn n cycle e.state) es
    → (n ≡ most) ⊎ SomethingDueIn n x
soonest x n comes free most cycle free_from ms es c f m w divider lines entries =
    in_turn x n comes free most
    (subst (λ k. (free ≡ most) ⊎ IsDueIn free x.cycle k) f (subst (λ k. (free ≡ most) ⊎ IsDueIn free k free_from) c divider))
    (subst (λ l. (comes ≡ free) ⊎ Any (λ (r : Miss). IsDueIn comes x.cycle r.due) l) m (subst (λ k. (comes ≡ free) ⊎ Any (λ (r : Miss). IsDueIn comes k r.due) ms) c lines))
    (subst (λ l. (n ≡ comes) ⊎ Any (λ (e : Entry). IsDoneIn n x.cycle e.state) l) w (subst (λ k. (n ≡ comes) ⊎ Any (λ (e : Entry). IsDoneIn n k e.state) es) c entries))
