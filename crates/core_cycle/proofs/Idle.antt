-- Entries that don't execute aren't due.
use Rattle.std.proofs.Common.{◌≡◌, ℕ, ◌+◌, ◌≤◌, false, List, length, take, Some, sym, subst, arith, slice_get}
use Rattle.std.specs.List.{All}
use Rattle.std.specs.Slice.Scan.{HoldsNowhere, holds_at}
use Rattle.std.proofs.lemmas.Option.{get_or_from_slice_get, slice_get_within}
use Rattle.window_model.specs.declared.Entry.{Entry}
use Rattle.window_model.specs.declared.Progress.{Progress}
use Rattle.window_model.specs.declared.Progress.TheVariants.{Waiting, Busy, Done}
use Rattle.window_model.specs.Order.{is_busy}
use Rattle.rob_ring.specs.Ring.{IsNext, in_execution}
use Rattle.rob_ring.proofs.Gaps.{to_end, to_next}
use Rattle.quiet_cycles.specs.Still.{NotDoneBefore}
use Rattle.quiet_cycles.proofs.Sooner.{entries_more}

idle : (n cycle : ℕ) (s : Progress) → is_busy s ≡ false → NotDoneBefore n cycle s
idle n cycle Waiting h = tt
idle n cycle (Busy due) h = absurd (cc)
idle n cycle Done h = tt

module _ (n cycle : ℕ) (es : List Entry) where
  -- no entry up to a position is Done before this cycle
  abbrev pub UpTo : ℕ → Type 0
  UpTo i = All (λ e. NotDoneBefore n cycle e.state) (take i es)

  past : (k : ℕ) (e : Entry) → slice_get es k ≡ Some e → in_execution e ≡ false → UpTo k → UpTo (k + 1)
  past k e at h up =
      entries_more n n cycle k es e (slice_get_within es k e at) (omega arith) up
      (subst (λ (e : Entry). NotDoneBefore n cycle e.state) (sym (get_or_from_slice_get es k e e at)) (idle n cycle e.state h))

  pub idle_to : (i j : ℕ) → IsNext in_execution es i j → UpTo i → UpTo j
  idle_to i j next up = to_next in_execution es UpTo past i j next up

  pub idle_end : (i : ℕ) → i ≤ length es → HoldsNowhere (holds_at in_execution es) i (length es) → UpTo i → UpTo (length es)
  idle_end i le none up = to_end in_execution es UpTo past i le none up
