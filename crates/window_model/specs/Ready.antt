-- Operands that are there (docs/machine.md, "Writers and roots").
use Rattle.std.specs.Prelude.{ℕ, Bool, true, false, not, ◌&&◌, List, [], ◌∷◌, if◌then◌else◌}
use Rattle.std.specs.List.{list_all}
use Rattle.machine_desc.specs.declared.Desc.{Desc}
use Rattle.machine_desc.specs.declared.Defence.{Defence}
use Rattle.machine_desc.specs.declared.Defence.TheVariants.{Stt, Hold, Delay}
use Rattle.window_model.specs.declared.Entry.{Entry}
use Rattle.window_model.specs.Order.{is_done, is_load, writes, sources}
use Rattle.window_model.specs.Taint.{visible}

-- the defence holds the results of loads back until they are visible
abbrev pub holds : Defence → Bool
holds Stt = false
holds Hold = true
holds Delay = false

-- the entry's result is held back
abbrev pub is_held : Desc → List Entry → Entry → Bool
is_held d before e = holds d.stt_defence && is_load e.item.kind && not (visible d.stt_model before)

-- the entry has its result, and it may be used
abbrev pub gives : Desc → List Entry → Entry → Bool
gives d before e = not (is_held d before e) && is_done e.state

-- the register's writer gives its value, or there is none
abbrev pub is_known : Desc → List Entry → ℕ → Bool
is_known d [] r = true
is_known d (e ∷ before) r = if writes r e then gives d before e else is_known d before r

-- the writer of each of these registers gives its value, or there is none
abbrev pub all_known : Desc → List Entry → List ℕ → Bool
all_known d before rs = list_all (is_known d before) rs

-- the writer of each source of the entry gives its value, or there is none
abbrev pub ready : Desc → List Entry → Entry → Bool
ready d before e = all_known d before (sources e)
