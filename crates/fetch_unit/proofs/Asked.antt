-- Parts whose sizes three descriptions ask for are parts whose sizes one asks for: the newest version allows each size
-- that some version allows.
use Rattle.std.proofs.Common.{◌≡◌, ℕ, List, length, Result, Ok, Err, refl, ap, subst}
use Rattle.std.specs.Prelude.{IfErr, OnOk}
use Rattle.circular_buffer.specs.Buffer.{Buffer, buffer}
use Rattle.machine_desc.specs.declared.Desc.{Desc}
use Rattle.machine_desc.specs.declared.keys.Key.{Key}
use Rattle.machine_desc.specs.declared.keys.Key.TheVariants.{PredictorBtb, PredictorCounters, PredictorHistory, PredictorReturns}
use Rattle.machine_desc.specs.Version.{newest}
use Rattle.machine_desc.specs.Allowed.{MayBe}
use Rattle.machine_desc.specs.Ranges.{key_number, Meets, desc_of_numbers, all_may_be}
use Rattle.machine_desc.proofs.Newest.{in_newest, meets_in_newest}
use Rattle.window_model.specs.declared.Item.{Item}
use Rattle.predictor.specs.Tables as tables
use Rattle.predictor.specs.Tables.{Tables}
use Rattle.history_pred.specs.Past as past
use Rattle.history_pred.specs.Past.{Past}
use Rattle.fetch_unit.specs.Unit.{AreAsked, FetchUnit, IsAsked}

-- of the third description the history, the counters and the stack, of the second one the targets, else of the first
abbrev pub joined_number : Desc → Desc → Desc → Key → ℕ
joined_number unit jumps history PredictorCounters = history.predictor_counters
joined_number unit jumps history PredictorHistory = history.predictor_history
joined_number unit jumps history PredictorReturns = history.predictor_returns
joined_number unit jumps history PredictorBtb = jumps.predictor_btb
joined_number unit jumps history key = key_number unit key

pub each_joined : (unit jumps history : Desc) (key : Key) → MayBe newest key (joined_number unit jumps history key)
each_joined unit jumps history PredictorCounters = in_newest history PredictorCounters
each_joined unit jumps history PredictorHistory = in_newest history PredictorHistory
each_joined unit jumps history PredictorReturns = in_newest history PredictorReturns
each_joined unit jumps history PredictorBtb = in_newest jumps PredictorBtb
each_joined unit jumps history key = in_newest unit key

pub meets_joined : (unit jumps history : Desc) → Meets newest (joined_number unit jumps history) unit.stt_model unit.stt_defence
meets_joined unit jumps history =
    let h = meets_in_newest unit in
    record {
      version = h.version;
      each = each_joined unit jumps history;
      latencies = h.latencies;
      ends = h.ends;
      registers = h.registers;
      second = h.second;
      model = h.model;
      defence = h.defence;
    }

-- the first description in the newest version, with the second one's targets, and what the third one asks for of
-- history and stack
abbrev pub joined : Desc → Desc → Desc → Desc
joined unit jumps history =
    desc_of_numbers newest (joined_number unit jumps history) unit.stt_model unit.stt_defence
    (all_may_be (meets_joined unit jumps history))

-- where some description asks for each of the three parts, one description asks for all of them
pub all_asked : (f : FetchUnit) (t : Tables) (p : Past) → IsAsked f.width f.room → tables.IsAsked (length t.counters) (length t.targets)
    → past.IsAsked p.counters p.directions p.returns → AreAsked f t p
all_asked f t p unit jumps history = record {
  desc = joined unit.desc jumps.desc history.desc;
  sizes = record {
    width = unit.as_wide;
    room = unit.as_long;
    predicts = record {
      counters = history.as_many_counters;
      directions = history.as_many_directions;
      returns = history.as_many_returns;
      targets = jumps.as_many_targets;
    };
  };
}

-- one description asks for all of them also where the fetch unit is known by its fields
pub fetch_asked : (inside f : FetchUnit) (t : Tables) (p : Past) → inside ≡ f → IsAsked inside.width inside.room
    → tables.IsAsked (length t.counters) (length t.targets) → past.IsAsked p.counters p.directions p.returns → AreAsked f t p
fetch_asked inside f t p same unit jumps history =
    all_asked f t p (subst (λ (f : FetchUnit). IsAsked f.width f.room) same unit) jumps history

-- whether an item finds room or not, there is as much room as before
pub room_stays : {T : Type 0} (r : Result T Item) (now old : Buffer Item) (items : List Item) (item : Item) →
    OnOk r (now ≡ buffer items old.capacity) → IfErr r (λ x. (x ≡ item) × (now ≡ old)) → now.capacity ≡ old.capacity
room_stays (Ok v) now old items item ok err = ap (λ (b : Buffer Item). b.capacity) ok
room_stays (Err x) now old items item ok err = ap (λ (b : Buffer Item). b.capacity) err.1
