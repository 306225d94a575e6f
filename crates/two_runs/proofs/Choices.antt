-- Two runs that choose alike.
use Rattle.std.proofs.Common.{◌≡◌, Bool, true, false, Option, Some, None, refl}
use Rattle.std.specs.Prelude.{if◌then◌else◌}

-- what two runs choose by tests that answer alike is related, where what they choose among is
pub if_both : {A : Type 0} (R : A → A → Type 0) (c c2 : Bool) (a a2 k k2 : A) → c ≡ c2 → (c ≡ true → R a a2) → (c ≡ false → R k k2) →
    R (if c then a else k) (if c2 then a2 else k2)
if_both R true true a a2 k k2 q p n = p refl
if_both R false false a a2 k k2 q p n = n refl
if_both R _ _ a a2 k k2 q p n = absurd (cc)

-- two runs both have nothing, or things that are related
abbrev pub Both : {A : Type 0} → (A → A → Type 0) → Option A → Option A → Type 0
Both R None None = Unit {0}
Both R (Some a) (Some a2) = R a a2
Both R _ _ = ⊥

-- what holds where both have nothing, and where both have things that are related, holds
pub by_both : {A : Type 0} (R : A → A → Type 0) (P : Option A → Option A → Type 0) → P None None → ((a a2 : A) → R a a2 → P (Some a) (Some a2)) →
    (o o2 : Option A) → Both R o o2 → P o o2
by_both R P none some None None s = none
by_both R P none some (Some a) (Some a2) s = some a a2 s
by_both R P none some _ _ s = absurd s
