-- Beside Stats.antt: what only clauses of the code and lemmas cite.
use Rattle.std.specs.Prelude.{◌≡◌, ℕ, List, Option, Result, MatchResult, slice_get}
use Rattle.rv_types.specs.Memory.{Code}
use Rattle.rv_types.specs.declared.End.{End}
use Rattle.machine_desc.specs.declared.Desc.{Desc}
use Rattle.window_model.specs.State.{Machine}
use Rattle.window_model.specs.declared.Event.{Event}
use Rattle.window_model.specs.Cycle.{after_cycles, trace_from}
use Rattle.machine_facts.specs.Sized.{Sized}
use Rattle.machine_facts.specs.Timely.{Timely}
use Rattle.tool_io.specs.Outside.{Told, Wrote, WrotePrefix}
use Rattle.tool_io.specs.declared.Failed.{Failed}
use Rattle.slot_reasons.specs.declared.Known.{Known}
use Rattle.slot_reasons.specs.declared.Past.{Past}
use Rattle.slot_reasons.specs.Reasons.{first_known, past_after}
use Rattle.slot_reasons.specs.Slots.{Charge, charged, left_by, seen}
use Rattle.stats_top.specs.Stats.{Numbers, numbers_of, way_text, stats_from}

-- the slots of a cycle, by what was known before it and is known of it, how many retired, and how it left the machine
abbrev pub charged_in : Desc → Known → Past → ℕ → Machine → Charge
charged_in d known now retired y = charged d known now (left_by d retired y) (slice_get y.window 0)

-- the slots of a cycle, by its events
abbrev pub charge_by : Desc → Known → List Event → ℕ → Machine → Charge
charge_by d known events retired y = charged_in d known (past_after d known.past events) retired y

-- what every state of a run keeps: it has the sizes of its description, serials rise with age, and all that is under
-- way ends in a later cycle
pub record Sound (d : Desc) (x : Machine) : Type 0 where
  pub sized : Sized d x
  pub timely : Timely d x

-- a core came from x to the state after at most n cycles, and these are the numbers of what is seen of them
pub record CountedTo (counts : Numbers) (d : Desc) (code : Code) (n : ℕ) (x y : Machine) (known : Known) : Type 0 where
  pub counts_are : counts ≡ numbers_of (seen d code n x known)
  pub last : y ≡ after_cycles d code n x

-- at most n cycles from x are counted, and the lines on the way are written, whole and with the core at their end, or
-- in part
abbrev pub WritesWay : Option ℕ → Desc → Code → ℕ → Machine → Machine → Told → Told → Result Numbers Failed → Type 0
WritesWay every d code n x y old new result =
    MatchResult result (λ counts. CountedTo counts d code n x y first_known × Wrote (way_text every x.cycle (seen d code n x first_known)) old new)
    (λ _. WrotePrefix (way_text every x.cycle (seen d code n x first_known)) old new)

-- all that is told of a run of at most n cycles from x is written, whole and with how the run ended, or in part
abbrev pub TellsStats : Option ℕ → Desc → Code → ℕ → Machine → Told → Told → Result (Option End) Failed → Type 0
TellsStats every d code n x old new result =
    MatchResult result (λ end. Wrote (stats_from every x.cycle (seen d code n x first_known) (trace_from d code n x)) old new × (end ≡ (trace_from d code n x).end))
    (λ _. WrotePrefix (stats_from every x.cycle (seen d code n x first_known) (trace_from d code n x)) old new)
