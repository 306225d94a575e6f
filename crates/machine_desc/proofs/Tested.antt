-- Whether numbers may be a description's, as a test: by it worked descriptions are made.
use Rattle.std.proofs.Common.{◌+◌, ◌*◌, ◌^◌, ℕ, Bool, true, false, IsTrue, List, [], ◌∷◌, map, refl, leb-true, ltb-true}
use Rattle.std.specs.Prelude.{◌&&◌, nat_le, nat_lt}
use Rattle.std.specs.List.{AllByRecursion as Each}
use Rattle.machine_desc.specs.declared.Desc.{Desc}
use Rattle.machine_desc.specs.declared.SttModel.{SttModel}
use Rattle.machine_desc.specs.declared.Defence.{Defence}
use Rattle.machine_desc.specs.declared.keys.Key.{Key}
use Rattle.machine_desc.specs.declared.keys.Key.TheVariants.{CacheHitLatency, CacheMissLatency, CacheMshrs, CacheSecondSets, CacheSecondLatency, RamBase, RamSize, RamMisaligned}
use Rattle.machine_desc.specs.declared.keys.Shape.{Shape}
use Rattle.machine_desc.specs.declared.keys.Values.{Values}
use Rattle.machine_desc.specs.declared.keys.Values.TheVariants.{Numbers, Optional, Models, Defences}
use Rattle.machine_desc.specs.Version.{newest, knows_model, knows_defence, comes_between}
use Rattle.machine_desc.specs.Table.{keys, values_of}
use Rattle.machine_desc.specs.Ranges.{Meets, desc_of_numbers, all_may_be}
use Rattle.machine_desc.specs.Description.{has_shape}
use Rattle.machine_desc.specs.Clean.{PassesAs}
use Rattle.machine_desc.proofs.Fitting.{fits_from_test}
use Rattle.machine_desc.proofs.Places.{each_key}

-- all of these hold
abbrev pub all_hold : List Bool → Bool
all_hold [] = true
all_hold (b ∷ more) = b && all_hold more

-- two tests hold, where both are tested at once
pub both : (a b : Bool) → IsTrue (a && b) → IsTrue a × IsTrue b
both true b h = (refl, h)
both false b h = absurd (cc)

each_holds : (bs : List Bool) → IsTrue (all_hold bs) → Each IsTrue bs
each_holds [] h = tt
each_holds (b ∷ more) h = let p = both b (all_hold more) h in (p.0, each_holds more p.1)

-- a number is in a range and of its shape; a key of names has no number that could be wrong
abbrev pub passes : Values → ℕ → Bool
passes (Numbers least most shape) n = nat_le least n && nat_le n most && has_shape shape n
passes (Optional least most shape) n = nat_le least n && nat_le n most && has_shape shape n
passes (Models off) n = true
passes (Defences every) n = true

in_range : (least most n : ℕ) (shape : Shape) → IsTrue (nat_le least n && nat_le n most && has_shape shape n) → PassesAs (Numbers least most shape) n
in_range least most n shape h =
    let p = both (nat_le least n && nat_le n most) (has_shape shape n) h in
    let q = both (nat_le least n) (nat_le n most) p.0 in
    (leb-true least n q.0, leb-true n most q.1, p.1)

passes_as : (values : Values) (n : ℕ) → IsTrue (passes values n) → PassesAs values n
passes_as (Numbers least most shape) n h = in_range least most n shape h
passes_as (Optional least most shape) n h = in_range least most n shape h
passes_as (Models off) n h = tt
passes_as (Defences every) n h = tt

-- what the rules on several keys ask, as tests
abbrev rules : ℕ → (Key → ℕ) → SttModel → Defence → List Bool
rules v n m t =
    nat_le 1 v ∷ nat_le v newest ∷
    nat_lt (n CacheHitLatency) (n CacheMissLatency) ∷
    nat_le (n RamBase + n RamSize) (2 ^ 32) ∷
    nat_le (2 * n RamMisaligned) (n CacheMshrs) ∷
    comes_between (n CacheSecondSets) (n CacheHitLatency) (n CacheSecondLatency) (n CacheMissLatency) ∷
    knows_model v m ∷ knows_defence v t ∷ []

-- what the table of keys asks of each number, as a test
abbrev key_passes : ℕ → (Key → ℕ) → Key → Bool
key_passes v n key = passes (values_of v key) (n key)

-- all that is asked of a description, as a test
abbrev pub all_pass : ℕ → (Key → ℕ) → SttModel → Defence → Bool
all_pass v n m t = all_hold (rules v n m t) && all_hold (map (key_passes v n) keys)

-- numbers that pass all tests meet all that is asked
pub meets : (v : ℕ) (n : Key → ℕ) (m : SttModel) (t : Defence) → IsTrue (all_pass v n m t) → Meets v n m t
meets v n m t h =
    let p = both (all_hold (rules v n m t)) (all_hold (map (key_passes v n) keys)) h in
    let r = each_holds (rules v n m t) p.0 in
    record {
      version = (leb-true _ _ r.0, leb-true _ _ r.1.0);
      each = λ key. fits_from_test (values_of v key) (n key) (passes_as (values_of v key) (n key) (each_key IsTrue (key_passes v n) (each_holds (map (key_passes v n) keys) p.1) key));
      latencies = ltb-true _ _ r.1.1.0;
      ends = leb-true _ _ r.1.1.1.0;
      registers = leb-true _ _ r.1.1.1.1.0;
      second = r.1.1.1.1.1.0;
      model = r.1.1.1.1.1.1.0;
      defence = r.1.1.1.1.1.1.1.0;
    }

-- the description of numbers that pass all tests
abbrev pub tested : (v : ℕ) (n : Key → ℕ) (m : SttModel) (t : Defence) → IsTrue (all_pass v n m t) → Desc
tested v n m t h = desc_of_numbers v n m t (all_may_be (meets v n m t h))
