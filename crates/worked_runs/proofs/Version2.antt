-- The example description in version 2, and with bits of dependence, the model `off`, and the defences `hold` and
-- `delay`.
use Rattle.std.proofs.Common.{ℕ, IsTrue, refl}
use lib.Count.{ones}
use Rattle.machine_desc.specs.Example.{example}
use Rattle.machine_desc.specs.Ranges.{key_number}
use Rattle.machine_desc.proofs.Newest.{renewed}
use Rattle.machine_desc.proofs.Changed.{with_stt}
use Rattle.machine_desc.proofs.Tested.{all_pass, tested}
use Rattle.machine_desc.specs.declared.Desc.{Desc}
use Rattle.machine_desc.specs.declared.keys.Key.{Key}
use Rattle.machine_desc.specs.declared.keys.Key.TheVariants.{PredictorDepend}
use Rattle.machine_desc.specs.declared.SttModel.TheVariants.{Spectre, Off}
use Rattle.machine_desc.specs.declared.Defence.TheVariants.{Stt, Hold, Delay}

-- the example in version 2
abbrev pub example_2 : Desc
example_2 = renewed example

-- with 16 bits of dependence
abbrev pub bits_number : Key → ℕ
bits_number PredictorDepend = 16
bits_number key = key_number example key

pub bits_pass : IsTrue (all_pass 2 bits_number Spectre Stt)
unfolding ones
bits_pass = refl

abbrev pub with_bits : Desc
with_bits = tested 2 bits_number Spectre Stt bits_pass

-- under the model that protects nothing
abbrev pub unprotected : Desc
unprotected = with_stt example_2 Off Stt refl refl

-- under the defence that holds the results of loads back
abbrev pub holding : Desc
holding = with_stt example_2 Spectre Hold refl refl

-- under the defence that keeps what shows an operand waiting
abbrev pub delaying : Desc
delaying = with_stt example_2 Spectre Delay refl refl
