-- What comes of a branch or JALR that is resolved (docs/machine.md, "Resolve").
use Rattle.std.specs.Prelude.{List, if◌then◌else◌}
use Rattle.machine_desc.specs.declared.Desc.{Desc}
use Rattle.predictor.specs.Tables.{Tables}
use Rattle.window_model.specs.declared.Entry.{Entry}
use Rattle.window_model.specs.declared.Event.{Event}
use Rattle.window_model.specs.Order.{is_faulty}
use Rattle.window_model.specs.Resolve.{learn, is_next, next_of}
use Rattle.branch_resolve.specs.declared.effect.Resolution.{Resolution}
use Rattle.branch_resolve.specs.declared.effect.Resolution.TheVariants.{Right, Wrong, Fault}

-- the predictor after it has learnt from the entry
abbrev pub tables_after_learning : Desc → Tables → Entry → Tables
tables_after_learning d p e = record {
  counters = (learn d e p.counters p.targets).counters;
  targets = (learn d e p.counters p.targets).targets;
}

-- the events of what the predictor learns of an entry
abbrev pub learn_events : Desc → Tables → Entry → List Event
learn_events d p e = (learn d e p.counters p.targets).events

-- the entry will trap, or its next address is the one that was predicted, or it isn't
abbrev pub resolution_of : Entry → Resolution
resolution_of e =
    if is_faulty e then Fault
    else if is_next e.item.predicted (next_of e.outcome) then Right
    else Wrong (next_of e.outcome)
