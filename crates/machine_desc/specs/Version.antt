-- The versions of a description (docs/formats.md, "Versions").
use Rattle.std.specs.Prelude.{ℕ, Bool, true, ◌==◌, ◌≤◌, ◌&&◌, ◌||◌, not, nat_lt, if◌then◌else◌}
use Rattle.machine_desc.specs.declared.SttModel.{SttModel}
use Rattle.machine_desc.specs.declared.SttModel.TheVariants.{Off}
use Rattle.machine_desc.specs.declared.Defence.{Defence}
use Rattle.machine_desc.specs.declared.Defence.TheVariants.{Hold, Delay}

-- the newest version that this program knows; it knows each one from 1 on
abbrev pub newest : ℕ
newest = 2

-- a version that is known
abbrev pub IsKnown : ℕ → Type 0
IsKnown version = (1 ≤ version) × (version ≤ newest)

-- a number by the version: the first one in version 1, the second in any later one
abbrev pub most : ℕ → ℕ → ℕ → ℕ
most in_1 in_2 version = if version == 1 then in_1 else in_2

-- whether the model `off` may be named in a version: in each but the first
abbrev pub knows_off : ℕ → Bool
knows_off version = not (version == 1)

-- whether the defences `hold` and `delay` may be named in a version: in each but the first
abbrev pub knows_defences : ℕ → Bool
knows_defences version = not (version == 1)

-- the version knows the model
abbrev pub knows_model : ℕ → SttModel → Bool
knows_model version Off = knows_off version
knows_model version _ = true

-- the version knows the defence
abbrev pub knows_defence : ℕ → Defence → Bool
knows_defence version Hold = knows_defences version
knows_defence version Delay = knows_defences version
knows_defence version _ = true

-- where there is a second level, a line of it comes later than a hit and sooner than from memory
abbrev pub comes_between : ℕ → ℕ → ℕ → ℕ → Bool
comes_between second_sets hit second miss = second_sets == 0 || nat_lt hit second && nat_lt second miss
