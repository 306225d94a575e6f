-- The fetch unit: what is fetched and not renamed, and where fetching goes on (docs/machine.md, "State", "Fetch").
use Rattle.std.specs.Prelude.{◌≡◌, ℕ, nat_lt, if◌then◌else◌, List, length, Option, None, refl}
use Rattle.std.specs.Coded.{Coded, code_by, coded×, coded_ℕ, coded_list, coded_option}
use Rattle.rv_types.specs.Memory.{Code}
use Rattle.machine_desc.specs.declared.Desc.{Desc}
use Rattle.window_model.specs.contracts.Item as item
use Rattle.window_model.specs.declared.Item.{Item}
use Rattle.window_model.specs.State.{Machine, After}
use Rattle.window_model.specs.Fetch.{fetch}
use Rattle.predictor.specs.Tables.{Tables}
use Rattle.history_pred.specs.Past.{Past}

-- how many items are fetched a cycle at most, and how many the queue holds; the queue, and the fetch pc
pub record FetchUnit : Type 0 where
  pub width : ℕ
  pub room : ℕ
  pub queue : List Item
  pub fetch_pc : Option ℕ

-- the fetch unit is stored as its width, its room, the queue and the address where fetching goes on
abbrev pub unit_code : Coded FetchUnit
unit_code =
    code_by (ℕ × (ℕ × (List Item × Option ℕ))) (coded× coded_ℕ (coded× coded_ℕ (coded× (coded_list item.the_row.coded) (coded_option coded_ℕ))))
    (λ f. (f.width, (f.room, (f.queue, f.fetch_pc)))) (λ p. record { width = p.0; room = p.1.0; queue = p.1.1.0; fetch_pc = p.1.1.1 }) (λ _. refl)

-- a machine with this fetch unit, this predictor, and this history and stack in the place of its own
abbrev pub with_unit : FetchUnit → Tables → Past → Machine → Machine
with_unit f t p x = record x { queue = f.queue; fetch_pc = f.fetch_pc; counters = t.counters; targets = t.targets; checkpoint = p.checkpoint }

-- phase Fetch of such a machine under a description
abbrev pub fetches : Desc → Code → FetchUnit → Tables → Past → Machine → After
fetches d code f t p x = fetch d code (with_unit f t p x)

-- a machine with this predictor, and this history and stack
abbrev pub predicting : Tables → Past → Machine → Machine
predicting t p x = record x { counters = t.counters; targets = t.targets; checkpoint = p.checkpoint }

-- where the next item is fetched: nowhere where the queue is full
abbrev pub next_fetch : FetchUnit → Option ℕ
next_fetch f = if nat_lt (length f.queue) f.room then f.fetch_pc else None

-- a description asks for a history of these sizes and for as many targets
pub record Predicts (t : Tables) (p : Past) (d : Desc) : Type 0 where
  pub counters : p.counters ≡ d.predictor_counters
  pub directions : p.directions ≡ d.predictor_history
  pub returns : p.returns ≡ d.predictor_returns
  pub targets : length t.targets ≡ d.predictor_btb

-- a description asks for a fetch unit and a history of these sizes and for as many targets
pub record HasSizes (f : FetchUnit) (t : Tables) (p : Past) (d : Desc) : Type 0 where
  pub width : f.width ≡ d.core_fetch_width
  pub room : f.room ≡ d.core_queue
  pub predicts : Predicts t p d

-- there is a description that asks for such a width and such room
pub record IsAsked (width room : ℕ) : Type 0 where
  pub desc : Desc
  pub as_wide : width ≡ desc.core_fetch_width
  pub as_long : room ≡ desc.core_queue

-- there is a description that asks for parts of these sizes
pub record AreAsked (f : FetchUnit) (t : Tables) (p : Past) : Type 0 where
  pub desc : Desc
  pub sizes : HasSizes f t p desc

-- what holds in the machine of each description that asks for parts of these sizes; there is one (`AreAsked`)
abbrev pub InEach : FetchUnit → Tables → Past → (Desc → Type 0) → Type 0
InEach f t p So = (d : Desc) → HasSizes f t p d → So d
