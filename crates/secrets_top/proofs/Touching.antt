-- Whether an address of a range has a property, looked at byte by byte.
use Rattle.std.proofs.Common.{◌≡◌, ◌<◌, ℕ, ◌+◌, ◌-◌, Bool, false, ◌||◌, ap, sym, ◌∙◌}
use Rattle.std.specs.List.{list_any}
use Rattle.rv_types.specs.Memory.{range}
use Rattle.mark_words.proofs.Secrets.{range_next}

module _ (p : ℕ → Bool) (a n i : ℕ) where
  -- one of the addresses that are left has the property, where the first has or one of the others
  one_more : (b : Bool) → i < n → b ≡ p (a + i) → list_any p (range (a + i) (n - i)) ≡ b || list_any p (range (a + (i + 1)) (n - (i + 1)))
  one_more b lt e = ap (list_any p) (range_next a i n lt) ∙ ap (λ c. c || list_any p (range (a + (i + 1)) (n - (i + 1)))) (sym e)

  pub passed : (b : Bool) → i < n → b ≡ p (a + i) → b ≡ false → list_any p (range (a + i) (n - i)) ≡ list_any p (range (a + (i + 1)) (n - (i + 1)))
  passed b lt e f = one_more b lt e ∙ ap (λ c. c || list_any p (range (a + (i + 1)) (n - (i + 1)))) f
