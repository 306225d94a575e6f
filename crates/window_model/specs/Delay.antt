-- What shows an operand waits until it is visible, under the defence `delay` (docs/machine.md, "Safe and visible").
use Rattle.std.specs.Prelude.{Bool, true, false, not, ◌||◌, List}
use Rattle.machine_desc.specs.declared.Desc.{Desc}
use Rattle.machine_desc.specs.declared.Defence.{Defence}
use Rattle.machine_desc.specs.declared.Defence.TheVariants.{Stt, Hold, Delay}
use Rattle.window_model.specs.declared.Entry.{Entry}
use Rattle.window_model.specs.Taint.{visible}

-- the defence keeps what shows an operand waiting until it is visible, whatever its taint
abbrev pub delays : Defence → Bool
delays Stt = false
delays Hold = false
delays Delay = true

-- what stands after these entries may show its operands: the defence doesn't delay it, or it is visible
abbrev pub may_show : Desc → List Entry → Bool
may_show d before = not (delays d.stt_defence) || visible d.stt_model before
