-- Which numbers a description may have at a key (`Fits` of machine_desc, by `MayBe`): from the least to the most of the
-- version, and of the key's shape (docs/formats.md, "Keys" and "Keys that may be left out").
use Rattle.std.proofs.Common.{◌≡◌, ℕ, zero, suc, ◌^◌, refl, inl, inr, lit≤, arith}
use Rattle.machine_desc.specs.declared.keys.Key.TheVariants.{CoreRob, CacheSecondLatency, PredictorCounters, PredictorDepend, RamSize}
use Rattle.machine_desc.specs.Power.{IsZeroOrPower}
use Rattle.machine_desc.specs.Allowed.{MayBe}

-- ---- the least and the most may be, and no number before or behind

least : MayBe 2 CoreRob 4
least = (lit≤ tt, lit≤ tt, tt)

most_in_1 : MayBe 1 CoreRob 64
most_in_1 = (lit≤ tt, lit≤ tt, tt)

most_in_2 : MayBe 2 CoreRob 192
most_in_2 = (lit≤ tt, lit≤ tt, tt)

before_the_least : MayBe 2 CoreRob 3 → ⊥
before_the_least m = omega (arith, m.0)

behind_the_most_in_1 : MayBe 1 CoreRob 65 → ⊥
behind_the_most_in_1 m = omega (arith, m.1)

behind_the_most_in_2 : MayBe 2 CoreRob 193 → ⊥
behind_the_most_in_2 m = omega (arith, m.1)

-- of a key that may be left out, which version 1 doesn't know
left_out_in_1 : MayBe 1 CacheSecondLatency 2
left_out_in_1 = (lit≤ tt, lit≤ tt, tt)

no_other_in_1 : MayBe 1 CacheSecondLatency 3 → ⊥
no_other_in_1 m = omega (arith, m.1)

before_the_least_left_out : MayBe 2 CacheSecondLatency 1 → ⊥
before_the_least_left_out m = omega (arith, m.0)

most_left_out : MayBe 2 CacheSecondLatency 100
most_left_out = (lit≤ tt, lit≤ tt, tt)

behind_the_most_left_out : MayBe 2 CacheSecondLatency 101 → ⊥
behind_the_most_left_out m = omega (arith, m.1)

-- ---- shapes

three_is_no_power : (k : ℕ) → 3 ≡ 2 ^ k → ⊥
three_is_no_power zero e = omega (arith, e)
three_is_no_power (suc k) e = grind (arith, e)

three_is_neither : IsZeroOrPower 3 → ⊥
three_is_neither (inl e) = omega (arith, e)
three_is_neither (inr p) = three_is_no_power p.0 p.1

power : MayBe 2 PredictorCounters 4096
power = (lit≤ tt, lit≤ tt, (12, refl))

no_power : MayBe 2 PredictorCounters 3 → ⊥
no_power m = three_is_no_power m.2.0 m.2.1

zero_of_a_power : MayBe 2 PredictorDepend 0
zero_of_a_power = (lit≤ tt, lit≤ tt, inl refl)

power_left_out : MayBe 2 PredictorDepend 1024
power_left_out = (lit≤ tt, lit≤ tt, inr (10, refl))

neither : MayBe 2 PredictorDepend 3 → ⊥
neither m = three_is_neither m.2

multiple : MayBe 1 RamSize 4112
multiple = (lit≤ tt, lit≤ tt, refl)

no_multiple : MayBe 1 RamSize 4104 → ⊥
no_multiple m = omega (arith, m.2)
