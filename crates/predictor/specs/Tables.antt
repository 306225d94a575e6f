-- What the predictor holds, what it predicts, and what it learns (docs/machine.md, "State", "Resolve", "Fetch").
use Rattle.std.specs.Prelude.{◌≡◌, ℕ, Bool, ◌==◌, nat_le, if◌then◌else◌, List, length, slice_index, slice_index_or, Option, Some, None, refl}
use Rattle.std.specs.Coded.{Coded, code_by, coded×, coded_ℕ, coded_list, coded_option}
use Rattle.machine_desc.specs.declared.Desc.{Desc}
use Rattle.window_model.specs.contracts.Target as target
use Rattle.window_model.specs.declared.Target.{Target}
use Rattle.window_model.specs.Resolve.{index, counter_after_branch}

-- the counters of branches and the targets of JALRs, as many as there are
pub record Tables : Type 0 where
  pub counters : List ℕ
  pub targets : List (Option Target)

-- the tables are stored as the counters and the targets
abbrev pub tables_code : Coded Tables
tables_code =
    code_by (List ℕ × List (Option Target)) (coded× (coded_list coded_ℕ) (coded_list (coded_option target.the_row.coded))) (λ t. (t.counters, t.targets))
    (λ p. record { counters = p.0; targets = p.1 }) (λ _. refl)

-- the place of a JALR's target
abbrev pub target_place : Tables → ℕ → ℕ
target_place t pc = index pc (length t.targets)

-- a branch is predicted to be taken where its counter, at this place, is 2 or 3
abbrev pub is_taken : Tables → ℕ → Bool
is_taken t place = nat_le 2 (slice_index t.counters place)

-- a target, where it was stored for this address
abbrev pub target_if : ℕ → Option Target → Option ℕ
target_if pc None = None
target_if pc (Some t) = if t.pc == pc then Some t.target else None

-- the target that is stored for a JALR
abbrev pub target_at : Tables → ℕ → Option ℕ
target_at t pc = target_if pc (slice_index_or t.targets (target_place t pc) None)

-- the counter at this place, after its branch went this way
abbrev pub counter_after : Tables → ℕ → Bool → ℕ
counter_after t place way = counter_after_branch way (slice_index t.counters place)

-- there is a description that asks for so many counters and targets
pub record IsAsked (counters targets : ℕ) : Type 0 where
  pub desc : Desc
  pub as_many_counters : counters ≡ desc.predictor_counters
  pub as_many_targets : targets ≡ desc.predictor_btb

-- what holds in the machine of each description that asks for as many counters and targets; there is one (`IsAsked`)
abbrev pub InEach : Tables → (Desc → Type 0) → Type 0
InEach t So = (d : Desc) → length t.counters ≡ d.predictor_counters → length t.targets ≡ d.predictor_btb → So d
