-- What is seen of a cycle, and known after it, from what a core tells once it is over.
use Rattle.std.proofs.Common.{◌≡◌, ℕ, ◌-◌, List, ap, ap₂, ◌∙◌}
use Rattle.rv_types.specs.Memory.{Code}
use Rattle.machine_desc.specs.declared.Desc.{Desc}
use Rattle.window_model.specs.State.{Machine}
use Rattle.window_model.specs.Row.{Row}
use Rattle.window_model.specs.Cycle.{cycle}
use Rattle.slot_reasons.specs.declared.Known.{Known}
use Rattle.slot_reasons.specs.Kept.{counts_for}
use Rattle.slot_reasons.specs.Reasons.{known_by, past_after}
use Rattle.slot_reasons.specs.Slots.{charge_of, known_after}
use Rattle.stats_top.specs.inner.Counting.{charge_by}

module _ (d e : Desc) (code : Code) (x y : Machine) (row : Row) (piece : List ℕ) (k : Known) (retired : ℕ) (same : d ≡ e) (is : record { machine = y; row = row; piece = piece } ≡ cycle e code x)
    (many : retired ≡ y.retired - x.retired) where
  -- its slots are the cycle's
  pub charge_is : charge_by d k row.events retired y ≡ charge_of e k x (cycle e code x)
  charge_is = ap₂ (λ b n. charge_by b k row.events n y) same many ∙ ap (charge_of e k x) is

  -- what is known then is what is known after the cycle
  pub known_is : known_by k (past_after d k.past row.events) (counts_for d retired y.window) ≡ known_after e k x (cycle e code x)
  known_is = ap₂ (λ b n. known_by k (past_after b k.past row.events) (counts_for b n y.window)) same many ∙ ap (known_after e k x) is
