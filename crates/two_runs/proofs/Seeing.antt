-- What of two outcomes has to be equal for two runs to see alike of their entries.
use Rattle.std.proofs.Common.{Option, Some, None, ◌≡◌, ℕ, Bool, true, false, not, ◌&&◌, refl, ap, ◌∙◌}
use Rattle.std.specs.Prelude.{is_some}
use Rattle.rv_types.specs.declared.Kind.{Kind}
use Rattle.rv_types.specs.declared.Kind.TheVariants.{Load, Store, Branch, Jalr}
use Rattle.machine_desc.specs.declared.SttModel.{SttModel}
use Rattle.machine_desc.specs.declared.SttModel.TheVariants.{Spectre, Futuristic, Off}
use Rattle.window_model.specs.declared.Entry.{Entry}
use Rattle.window_model.specs.declared.Outcome.{Outcome}
use Rattle.window_model.specs.State.{Machine}
use Rattle.window_model.specs.Access.{covers, reaches}
use Rattle.window_model.specs.Around.{around, is_free}
use Rattle.window_model.specs.Order.{fault_of, has_address, is_control, is_store}
use Rattle.window_model.specs.Retire.{addr_of, byte_count}
use Rattle.window_model.specs.Shape.{SameShape}
use Rattle.window_model.specs.Taint.{permits, safe, safe_as, settled}
use Rattle.two_runs.specs.Masks.{without_contents}
use Rattle.two_runs.specs.Seen.{SeenMachine, without_outcome}

-- two entries have one fault, unless they are branches or JALRs that aren't resolved
abbrev pub FaultsAlike : Entry → Entry → Type 0
FaultsAlike e e2 = (is_control e.item.kind && not e.resolved) ≡ false → fault_of e.outcome ≡ fault_of e2.outcome

-- two stores both have an outcome, or neither, with one address and one fault
abbrev pub ReachAlike : Entry → Entry → Type 0
ReachAlike e e2 = is_store e.item.kind ≡ true → (is_some e.outcome ≡ is_some e2.outcome) × (addr_of e.outcome ≡ addr_of e2.outcome) × (fault_of e.outcome ≡ fault_of e2.outcome)

where_resolved : (b f f2 : Bool) → ((true && not b) ≡ false → f ≡ f2) → (b && f) ≡ (b && f2)
where_resolved true f f2 h = h refl
where_resolved false f f2 h = refl

safe_by : (k : Kind) (e : Entry) (o : Option Outcome) → ((is_control k && not e.resolved) ≡ false → fault_of e.outcome ≡ fault_of o) → safe_as k e ≡ safe_as k (record e { outcome = o })
safe_by Load e o h = let f = h refl in cc
safe_by Store e o h = let f = h refl in cc
safe_by Branch e o h = where_resolved e.resolved _ _ (λ q. ap (λ c. not (is_some c)) (h q))
safe_by Jalr e o h = where_resolved e.resolved _ _ (λ q. ap (λ c. not (is_some c)) (h q))
safe_by _ e o h = refl

same_reaches : (a n : ℕ) (o o2 : Option Outcome) → is_some o ≡ is_some o2 → addr_of o ≡ addr_of o2 → fault_of o ≡ fault_of o2 → reaches a n o ≡ reaches a n o2
same_reaches a n None None i ad f = refl
same_reaches a n (Some o) (Some o2) i ad f = cc
same_reaches a n _ _ i ad f = absurd (cc)

covers_by : (k : Kind) (a n : ℕ) (h : Bool) (o o2 : Option Outcome) → (is_store k ≡ true → (is_some o ≡ is_some o2) × (addr_of o ≡ addr_of o2) × (fault_of o ≡ fault_of o2)) →
    (is_store k && h && reaches a n o) ≡ (is_store k && h && reaches a n o2)
covers_by Store a n h o o2 q = let s = q refl in ap (λ r. h && r) (same_reaches a n o o2 s.0 s.1 s.2)
covers_by _ a n h o o2 q = refl

module _ (e e2 : Entry) (h : without_outcome e ≡ without_outcome e2) where
  with_outcome : Option Outcome → Entry → Entry
  with_outcome o t = record t { outcome = o }

  same_safe : FaultsAlike e e2 → safe e ≡ safe e2
  unfolding with_outcome
  same_safe f = safe_by e.item.kind e e2.outcome f ∙ ap (λ t. safe (with_outcome e2.outcome t)) h

  -- two runs see alike whether an entry permits younger ones to be visible, by its fault
  pub permits_alike : (model : SttModel) → FaultsAlike e e2 → permits model e ≡ permits model e2
  permits_alike Spectre f = ap settled h
  permits_alike Futuristic f = same_safe f
  permits_alike Off f = refl

  -- two runs see alike which bytes a store covers, by its address and fault
  pub covers_alike : (a : ℕ) → ReachAlike e e2 → covers a e ≡ covers a e2
  unfolding with_outcome
  covers_alike a s = covers_by e.item.kind a (byte_count e) (has_address e) e.outcome e2.outcome s ∙ ap (λ t. covers a (with_outcome e2.outcome t)) h

-- two runs see alike what Issue looks at beside the window, where all but data is equal, and memory lies in one place
pub seen_machine : (x x2 : Machine) → without_contents x ≡ without_contents x2 → SameShape x.ram x2.ram → SeenMachine x x2
seen_machine x x2 o p = record { dependence = ap (λ (m : Machine). m.dependence) o; free = ap (λ (m : Machine). is_free (around m)) o; place = p }
