-- A version that is read is known; what is known since version 2; and the facts that pin versions and ranges.
use Rattle.std.proofs.Common.{◌≡◌, ◌⊎◌, inl, inr, ℕ, Bool, true, false, if◌then◌else◌, Option, Some, None, Ok, Err, refl, sym, subst, arith, lit≤}
use borrow.Author.Tests.{leb-true}
use Rattle.std.specs.Prelude.{pos, negsuc, nat_le, ◌&&◌, codes}
use Rattle.toml.specs.Data.{Data, integer, string, Members, get_member}
use Rattle.machine_desc.specs.declared.keys.Key.{Key}
use Rattle.machine_desc.specs.declared.keys.Key.TheVariants.{CoreRob, CoreStations, CoreLoads, CoreStores, CoreQueue}
use Rattle.machine_desc.specs.declared.fault.DescFault.{DescFault}
use Rattle.machine_desc.specs.declared.fault.DescFault.TheVariants.{Kind, Version, Range}
use Rattle.machine_desc.specs.declared.fault.Subject.TheVariants.{Version as OfVersion}
use Rattle.machine_desc.specs.Version.{newest, IsKnown, knows_defences}
use Rattle.machine_desc.specs.Table.{values_of, version_name}
use Rattle.machine_desc.specs.Description.{version_in, version, fault_of, setting_in}

within : (n v : ℕ) (low high : Bool) (e : DescFault) → nat_le 1 n ≡ low → nat_le n newest ≡ high → (if low && high then Ok n else Err e) ≡ Ok v → IsKnown v
within n v true true e l h q =
    let i : n ≡ v = cc in
    subst IsKnown i (leb-true 1 n l, leb-true n newest h)
within n v true false e l h q = absurd (cc)
within n v false high e l h q = absurd (cc)

by_value : (o : Option Data) (v : ℕ) → version_in o ≡ Ok v → IsKnown v
by_value None v q = let i : 1 ≡ v = cc in subst IsKnown i (lit≤ tt, lit≤ tt)
by_value (Some (integer (pos n))) v q = within n v (nat_le 1 n) (nat_le n newest) _ refl refl q
by_value (Some (integer (negsuc n))) v q = absurd (cc)
by_value (Some _) v q = absurd (cc)

-- a version that is read of a document is a known one
pub is_known : (document : Members) (v : ℕ) → version document ≡ Ok v → IsKnown v
is_known document v q = by_value (get_member version_name document) v q

-- ---- a version knows what is there since version 2 where it isn't the first

one_or_two : (v : ℕ) → IsKnown v → (v ≡ 1) ⊎ (v ≡ 2)
one_or_two v k = grind (arith, k.0, k.1)

-- what holds of both versions holds of each that is known
pub in_each : (P : ℕ → Type 0) (v : ℕ) → IsKnown v → P 1 → P 2 → P v
in_each P v k one two = by_version (one_or_two v k)
  where
    by_version : (v ≡ 1) ⊎ (v ≡ 2) → P v
    by_version (inl e) = subst P (sym e) one
    by_version (inr e) = subst P (sym e) two

-- a known version knows defences exactly from version 2 on
pub defences_if_known : (v : ℕ) → IsKnown v → knows_defences v ≡ nat_le 2 v
defences_if_known v k = in_each (λ x. knows_defences x ≡ nat_le 2 x) v k refl refl

-- ---- versions: without a value it is 1; 1 and 2 are known; no other number is, and nothing else is a version

absent : version_in None ≡ Ok 1
absent = refl

one : version_in (Some (integer (pos 1))) ≡ Ok 1
one = refl

two : version_in (Some (integer (pos 2))) ≡ Ok 2
two = refl

none_yet : version_in (Some (integer (pos 3))) ≡ Err (Version (pos 3))
none_yet = refl

zeroth : version_in (Some (integer (pos 0))) ≡ Err (Version (pos 0))
zeroth = refl

below : version_in (Some (integer (negsuc 0))) ≡ Err (Version (negsuc 0))
below = refl

of_text : version_in (Some (string (codes "1"))) ≡ Err (Kind OfVersion)
of_text = refl

-- ---- the ranges that differ: the most in each version, and one more

-- the fault of a number as a key's value in a version
abbrev pub told : ℕ → Key → ℕ → Option DescFault
told version key n = fault_of (setting_in key (values_of version key) (Some (integer (pos n))))

rob : (told 1 CoreRob 64 ≡ None) × (told 1 CoreRob 65 ≡ Some (Range CoreRob (pos 65)))
    × (told 2 CoreRob 192 ≡ None) × (told 2 CoreRob 193 ≡ Some (Range CoreRob (pos 193)))
rob = (refl, refl, refl, refl)

stations : (told 1 CoreStations 32 ≡ None) × (told 1 CoreStations 33 ≡ Some (Range CoreStations (pos 33)))
    × (told 2 CoreStations 96 ≡ None) × (told 2 CoreStations 97 ≡ Some (Range CoreStations (pos 97)))
stations = (refl, refl, refl, refl)

loads : (told 1 CoreLoads 16 ≡ None) × (told 1 CoreLoads 17 ≡ Some (Range CoreLoads (pos 17)))
    × (told 2 CoreLoads 64 ≡ None) × (told 2 CoreLoads 65 ≡ Some (Range CoreLoads (pos 65)))
loads = (refl, refl, refl, refl)

stores : (told 1 CoreStores 16 ≡ None) × (told 1 CoreStores 17 ≡ Some (Range CoreStores (pos 17)))
    × (told 2 CoreStores 48 ≡ None) × (told 2 CoreStores 49 ≡ Some (Range CoreStores (pos 49)))
stores = (refl, refl, refl, refl)

queue : (told 1 CoreQueue 16 ≡ None) × (told 1 CoreQueue 17 ≡ Some (Range CoreQueue (pos 17)))
    × (told 2 CoreQueue 32 ≡ None) × (told 2 CoreQueue 33 ≡ Some (Range CoreQueue (pos 33)))
queue = (refl, refl, refl, refl)
