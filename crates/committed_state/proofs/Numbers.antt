-- The cycle's number stays in each phase.
use Rattle.std.proofs.Common.{◌≡◌, ℕ, ◌+◌, List, ◌∷◌, refl}
use Rattle.std.specs.Prelude.{map}
use Rattle.rv_types.specs.Isa.{Step, Goes, Exits, Traps, call}
use Rattle.rv_types.specs.Memory.{Code}
use Rattle.rv_types.specs.declared.Kind.{Kind}
use Rattle.rv_types.specs.declared.Kind.TheVariants.{Store, Call}
use Rattle.machine_desc.specs.declared.Desc.{Desc}
use Rattle.window_model.specs.declared.Divider.{Divider}
use Rattle.window_model.specs.declared.Entry.{Entry}
use Rattle.window_model.specs.Around.{around}
use Rattle.window_model.specs.State.{Machine}
use Rattle.window_model.specs.Order.{each, first}
use Rattle.window_model.specs.Fetch.{fetch}
use Rattle.window_model.specs.Fill.{complete, fill}
use Rattle.window_model.specs.Ports.{DivPort, LoadPort, may_at}
use Rattle.window_model.specs.Issue.{Begun, divider_after, issue, issue_entry}
use Rattle.window_model.specs.Cycle.{begins_cycle}
use Rattle.window_model.specs.Rename.{rename}
use Rattle.window_model.specs.Resolve.{resolve}
use Rattle.window_model.specs.Retire.{call_leaves, hart_of, head_leaves, retire}
use Rattle.window_model.proofs.Clearing.{clear_keep}
use Rattle.window_model.proofs.Issuing.{by_after_load}
use Rattle.window_model.proofs.Placing.{resolve_keep}
use Rattle.window_model.proofs.Quiet.{at_retire}
use Rattle.window_model.proofs.Walks.{fetch_keep, rename_keep, retire_keep}

abbrev Numbered : ℕ → Machine → Type 0
Numbered n x = x.cycle ≡ n

module _ (d : Desc) where
  -- the phases before Retire go in the cycle that has begun
  pub before_cycle : (x : Machine) → Numbered (x.cycle + 1) (at_retire d x)
  before_cycle x =
      let n = x.cycle + 1 in
      let y = (complete (fill d (begins_cycle x)).machine).machine in
      clear_keep d (Numbered n) (λ x p t h. h) (λ x p q t u h. h) (resolve d y).machine (resolve_keep d (Numbered n) (λ x p t q h. h) (λ x p t q h. h) y refl)

  call_keeps : (n : ℕ) (e : Entry) (rest : List Entry) (x : Machine) (t : Step) → Numbered n x → Numbered n (call_leaves e rest x t).machine
  call_keeps n e rest x (Goes s p) h = h
  call_keeps n e rest x (Exits v s) h = h
  call_keeps n e rest x (Traps c) h = h

  head_keeps : (n : ℕ) (k : Kind) (x : Machine) (e : Entry) (rest : List Entry) → x.window ≡ e ∷ rest → Numbered n x → Numbered n (head_leaves k d e rest x).machine
  head_keeps n Call x e rest q h = call_keeps n e rest x (call (hart_of x)) h
  head_keeps n Store x e rest q h = h
  head_keeps n _ x e rest q h = h

  -- Retire leaves the number of the cycle
  pub retire_cycle : (x : Machine) → Numbered x.cycle (retire d x).machine
  retire_cycle x = retire_keep d (Numbered x.cycle) (head_keeps x.cycle) (λ y end h. h) x refl

  -- Issue leaves the number of the cycle
  pub issue_cycle : (x : Machine) → Numbered x.cycle (issue d x).machine
  issue_cycle x =
      by_after_load d x (λ y. (w : List Entry) (v : Divider) → Numbered x.cycle (record y { window = w; divider = v })) (λ c s m w v. refl)
      (first (may_at d (around x) LoadPort) x.window) (map (λ (b : Begun). b.entry) (each (issue_entry d (around x)) x.window)) (divider_after x (first (may_at d (around x) DivPort) x.window))

  -- Rename leaves the number of the cycle
  pub rename_cycle : (x : Machine) → Numbered x.cycle (rename d x).machine
  rename_cycle x = rename_keep d (Numbered x.cycle) (λ y i rest q f h. h) x refl

  -- Fetch leaves the number of the cycle
  pub fetch_cycle : (code : Code) (x : Machine) → Numbered x.cycle (fetch d code x).machine
  fetch_cycle code x = fetch_keep d (Numbered x.cycle) code (λ y pc q r h. h) x refl
