-- What is remembered of the past: history and stack, and how much each keeps (docs/machine.md, "History and return
-- stack").
use Rattle.std.specs.Prelude.{◌≡◌, ℕ, ◌+◌, ◌*◌, ◌/◌, ◌%◌, ◌^◌, Bool, ◌∷◌, take, bit_xor, refl}
use Rattle.std.specs.Coded.{Coded, code_by, coded×, coded_ℕ}
use Rattle.rv_types.specs.Value.{one_if}
use Rattle.machine_desc.specs.declared.Desc.{Desc}
use Rattle.window_model.specs.contracts.Checkpoint as checkpoint
use Rattle.window_model.specs.declared.Checkpoint.{Checkpoint}
use Rattle.window_model.specs.History.{stack, with_stack}

-- how many counters branches have, how many directions and addresses are kept, and the present history and stack
pub record Past : Type 0 where
  pub counters : ℕ
  pub directions : ℕ
  pub returns : ℕ
  pub checkpoint : Checkpoint

-- history and stack are stored as the three sizes and the checkpoint
abbrev pub past_code : Coded Past
past_code =
    code_by (ℕ × (ℕ × (ℕ × Checkpoint))) (coded× coded_ℕ (coded× coded_ℕ (coded× coded_ℕ checkpoint.the_row.coded))) (λ p. (p.counters, (p.directions, (p.returns, p.checkpoint))))
    (λ p. record { counters = p.0; directions = p.1.0; returns = p.1.1.0; checkpoint = p.1.1.1 }) (λ _. refl)

-- where the counter of a branch stands that comes with a checkpoint
abbrev pub counter_place : Past → Checkpoint → ℕ → ℕ
counter_place p m pc = bit_xor (pc / 4) m.history % p.counters

-- a direction enters the history as its lowest digit, and the oldest leaves it
abbrev pub with_direction : Past → Bool → Past
with_direction p way = record p { checkpoint = record (p.checkpoint) { history = (2 * p.checkpoint.history + one_if way) % 2 ^ p.directions } }

-- an address is pushed; where there are then more than are kept, the oldest goes
abbrev pub with_address : Past → ℕ → Past
with_address p a = record p { checkpoint = with_stack (take p.returns (a ∷ stack p.checkpoint)) p.checkpoint }

-- there is a description that asks for so many counters, directions and addresses
pub record IsAsked (counters directions returns : ℕ) : Type 0 where
  pub desc : Desc
  pub as_many_counters : counters ≡ desc.predictor_counters
  pub as_many_directions : directions ≡ desc.predictor_history
  pub as_many_returns : returns ≡ desc.predictor_returns

-- what holds in the machine of each description that asks for as many counters, directions and addresses; there is one
-- (`IsAsked`)
abbrev pub InEach : Past → (Desc → Type 0) → Type 0
InEach p So = (d : Desc) → p.counters ≡ d.predictor_counters → p.directions ≡ d.predictor_history → p.returns ≡ d.predictor_returns → So d
