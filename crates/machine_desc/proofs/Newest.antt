-- The newest version allows each number that some version allows.
use Rattle.std.proofs.Common.{ℕ, Bool, true, false, IsTrue, refl, arith, leb-true, lit≤}
use Rattle.std.specs.Prelude.{◌≤◌, ◌&&◌, nat_le}
use Rattle.machine_desc.specs.declared.Desc.{Desc}
use Rattle.machine_desc.specs.declared.SttModel.{SttModel}
use Rattle.machine_desc.specs.declared.SttModel.TheVariants.{Spectre, Futuristic, Off}
use Rattle.machine_desc.specs.declared.Defence.{Defence}
use Rattle.machine_desc.specs.declared.Defence.TheVariants.{Stt, Hold, Delay}
use Rattle.machine_desc.specs.declared.keys.Key.{Key}
use Rattle.machine_desc.specs.declared.keys.Key.TheVariants.{CoreFetchWidth}
use Rattle.machine_desc.specs.declared.keys.Shape.{Shape}
use Rattle.machine_desc.specs.declared.keys.Shape.TheVariants.{Any, PowerOfTwo, ZeroOrPowerOfTwo, MultipleOf16}
use Rattle.machine_desc.specs.declared.keys.Values.{Values}
use Rattle.machine_desc.specs.declared.keys.Values.TheVariants.{Numbers, Optional, Models, Defences}
use Rattle.machine_desc.specs.Version.{newest, knows_model, knows_defence}
use Rattle.machine_desc.specs.Table.{values_of}
use Rattle.machine_desc.specs.Allowed.{HasShape, Fits, MayBe}
use Rattle.machine_desc.proofs.EveryDesc.{each_is}
use Rattle.machine_desc.specs.Ranges.{key_number, Meets, desc_of_numbers, all_may_be}
use Rattle.machine_desc.proofs.Versions.{in_each}
use Rattle.machine_desc.proofs.Tested.{both}

abbrev is_shape : Shape → Shape → Bool
is_shape Any Any = true
is_shape PowerOfTwo PowerOfTwo = true
is_shape ZeroOrPowerOfTwo ZeroOrPowerOfTwo = true
is_shape MultipleOf16 MultipleOf16 = true
is_shape _ _ = false

of_shape : (a b : Shape) (n : ℕ) → IsTrue (is_shape a b) → HasShape a n → HasShape b n
of_shape Any Any n h f = f
of_shape PowerOfTwo PowerOfTwo n h f = f
of_shape ZeroOrPowerOfTwo ZeroOrPowerOfTwo n h f = f
of_shape MultipleOf16 MultipleOf16 n h f = f
of_shape _ _ n h f = absurd (cc)

-- whether a range is within another one of its shape
abbrev is_within : Values → Values → Bool
is_within (Numbers l m s) (Numbers l2 m2 s2) = nat_le l2 l && nat_le m m2 && is_shape s s2
is_within (Optional l m s) (Optional l2 m2 s2) = nat_le l2 l && nat_le m m2 && is_shape s s2
is_within (Models _) (Models _) = true
is_within (Defences _) (Defences _) = true
is_within _ _ = false

by_range : (l m l2 m2 n : ℕ) (s s2 : Shape) → IsTrue (nat_le l2 l && nat_le m m2 && is_shape s s2) → Fits (Numbers l m s) n → Fits (Numbers l2 m2 s2) n
by_range l m l2 m2 n s s2 h f =
    let p = both (nat_le l2 l && nat_le m m2) (is_shape s s2) h in
    let q = both (nat_le l2 l) (nat_le m m2) p.0 in
    let low : l2 ≤ l = leb-true l2 l q.0 in
    let high : m ≤ m2 = leb-true m m2 q.1 in
    (omega (arith, low, f.0), omega (arith, high, f.1), of_shape s s2 n p.1 f.2)

within : (a b : Values) (n : ℕ) → IsTrue (is_within a b) → Fits a n → Fits b n
within (Numbers l m s) (Numbers l2 m2 s2) n h f = by_range l m l2 m2 n s s2 h f
within (Optional l m s) (Optional l2 m2 s2) n h f = by_range l m l2 m2 n s s2 h f
within (Models _) (Models _) n h f = tt
within (Defences _) (Defences _) n h f = tt
within _ _ n h f = absurd (cc)

each_within : (key : Key) → IsTrue (is_within (values_of 1 key) (values_of newest key))
each_within CoreFetchWidth = refl
each_within _ = refl

-- what a version allows at a key the newest one allows
pub newest_may_be : (d : Desc) (n : ℕ) (key : Key) → MayBe d.version key n → MayBe newest key n
newest_may_be d n key h =
    in_each (λ v. MayBe v key n → MayBe newest key n) d.version d.stands.version (within (values_of 1 key) (values_of newest key) n (each_within key)) (λ f. f) h

-- each number of a description is one that the newest version allows at its key
pub in_newest : (d : Desc) (key : Key) → MayBe newest key (key_number d key)
in_newest d key = newest_may_be d (key_number d key) key (each_is d key)

model_in_newest : (v : ℕ) (m : SttModel) → IsTrue (knows_model v m) → IsTrue (knows_model newest m)
model_in_newest v Spectre h = refl
model_in_newest v Futuristic h = refl
model_in_newest v Off h = refl

defence_in_newest : (v : ℕ) (t : Defence) → IsTrue (knows_defence v t) → IsTrue (knows_defence newest t)
defence_in_newest v Stt h = refl
defence_in_newest v Hold h = refl
defence_in_newest v Delay h = refl

-- the numbers, the model and the defence of every description are allowed in the newest version
pub meets_in_newest : (d : Desc) → Meets newest (key_number d) d.stt_model d.stt_defence
meets_in_newest d = record {
  version = (lit≤ tt, lit≤ tt);
  each = in_newest d;
  latencies = d.stands.miss_latency.1;
  ends = d.stands.ram_size.1;
  registers = d.stands.misaligned.1;
  second = d.stands.second_latency.1;
  model = model_in_newest d.version d.stt_model d.stands.model;
  defence = defence_in_newest d.version d.stt_defence d.stands.defence;
}

-- a description's numbers, model and defence in the newest version
abbrev pub renewed : Desc → Desc
renewed d = desc_of_numbers newest (key_number d) d.stt_model d.stt_defence (all_may_be (meets_in_newest d))
