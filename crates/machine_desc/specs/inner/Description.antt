-- Beside Description.antt: what only clauses of the code and lemmas cite.
use Rattle.std.specs.Prelude.{ℕ, Option, Some, None, Result, Ok, Err}
use Rattle.toml.specs.Data.{Members}
use Rattle.machine_desc.specs.declared.SttModel.{SttModel}
use Rattle.machine_desc.specs.declared.Defence.{Defence}
use Rattle.machine_desc.specs.declared.keys.Key.TheVariants.{SttModel as ModelKey, SttDefence as DefenceKey}
use Rattle.machine_desc.specs.declared.fault.DescFault.{DescFault}
use Rattle.machine_desc.specs.Version.{knows_off}
use Rattle.machine_desc.specs.Table.{is_known}
use Rattle.machine_desc.specs.Description.{version, value_at, model_in, defence_in}

-- a test passes where there is no fault
abbrev pub ok_without_fault : Option DescFault → Result (Unit {0}) DescFault
ok_without_fault None = Ok tt
ok_without_fault (Some fault) = Err fault

-- the model of a document
abbrev pub model : ℕ → Members → Result SttModel DescFault
model version document = model_in ModelKey (knows_off version) (value_at document ModelKey)

-- the defence of a document
abbrev pub defence : ℕ → Members → Result Defence DescFault
defence version document = defence_in DefenceKey (is_known version DefenceKey) (value_at document DefenceKey)
