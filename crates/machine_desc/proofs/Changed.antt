-- A description under another model and another defence.
use Rattle.std.proofs.Common.{IsTrue}
use Rattle.machine_desc.specs.declared.Desc.{Desc}
use Rattle.machine_desc.specs.declared.SttModel.{SttModel}
use Rattle.machine_desc.specs.declared.Defence.{Defence}
use Rattle.machine_desc.specs.Version.{knows_model, knows_defence}
use Rattle.machine_desc.proofs.EveryDesc.{each_is}
use Rattle.machine_desc.specs.Ranges.{key_number, Meets, desc_of_numbers, all_may_be}

-- a description may have any model and any defence that its version knows
pub meets_with : (d : Desc) (m : SttModel) (t : Defence) → IsTrue (knows_model d.version m) → IsTrue (knows_defence d.version t) → Meets d.version (key_number d) m t
meets_with d m t model defence = record {
  version = d.stands.version;
  each = each_is d;
  latencies = d.stands.miss_latency.1;
  ends = d.stands.ram_size.1;
  registers = d.stands.misaligned.1;
  second = d.stands.second_latency.1;
  model = model;
  defence = defence;
}

-- the description with this model and this defence, which its version knows
abbrev pub with_stt : (d : Desc) (m : SttModel) (t : Defence) → IsTrue (knows_model d.version m) → IsTrue (knows_defence d.version t) → Desc
with_stt d m t model defence = desc_of_numbers d.version (key_number d) m t (all_may_be (meets_with d m t model defence))
