-- What a document without fault has.
use Rattle.std.proofs.Common.{◌≡◌, ◌+◌, ◌*◌, ◌^◌, ℕ, IsTrue, ◌<◌, ◌≤◌, nat_lt, nat_le, Bool, true, false, if◌then◌else◌, List, [], ◌∷◌, map, Option, Some, None, Result, Ok, refl, leb-true, ltb-true}
use Rattle.std.specs.List.{AllByRecursion as Each}
use Rattle.toml.specs.Data.{Members}
use Rattle.machine_desc.specs.declared.keys.Key.TheVariants.{CacheHitLatency, CacheMissLatency, CacheMshrs, RamBase, RamSize, RamMisaligned, CacheSecondSets, CacheSecondLatency}
use Rattle.machine_desc.specs.declared.fault.DescFault.{DescFault}
use Rattle.machine_desc.specs.Table.{keys}
use Rattle.machine_desc.specs.Description.{first, top_fault, sections_fault, key_fault, keys_fault, latency_fault, end_fault, registers_fault, second_fault, document_fault, with_number, number}
use Rattle.machine_desc.specs.inner.Description.{ok_without_fault}
use Rattle.machine_desc.specs.Version.{comes_between}
use Rattle.machine_desc.specs.Clean.{IsClean}
use Rattle.machine_desc.proofs.Places.{each_key}

-- where a list of faults has no first one, it has none
pub none_first : (xs : List (Option DescFault)) → first xs ≡ None → Each (λ x. x ≡ None) xs
none_first [] h = tt
none_first (None ∷ xs) h = (refl, none_first xs h)
none_first (Some e ∷ xs) h = absurd (cc)

none_from_if : (b : Bool) (e : DescFault) → (if b then None else Some e) ≡ None → b ≡ true
none_from_if true e h = refl
none_from_if false e h = absurd (cc)

-- a test on two numbers, and one on four, holds of the numbers of their keys where it finds no fault
two : (test : ℕ → ℕ → Bool) (e : DescFault) (a b : Result ℕ DescFault) (x y : ℕ) → a ≡ Ok x → b ≡ Ok y
    → with_number a (λ m. with_number b (λ n. if test m n then None else Some e)) ≡ None → test x y ≡ true
two test e a b x y p q h = none_from_if (test x y) e (rw (p, q) at h)

four : (test : ℕ → ℕ → ℕ → ℕ → Bool) (e : DescFault) (a b c f : Result ℕ DescFault) (x y z w : ℕ) → a ≡ Ok x → b ≡ Ok y → c ≡ Ok z → f ≡ Ok w
    → with_number a (λ k. with_number b (λ l. with_number c (λ m. with_number f (λ n. if test k l m n then None else Some e)))) ≡ None → test x y z w ≡ true
four test e a b c f x y z w p q r s h = none_from_if (test x y z w) e (rw (p, q, r, s) at h)

-- a document without a fault of latencies has a hit take less time than a miss
pub latencies : (v : ℕ) (document : Members) (hit miss : ℕ) → latency_fault v document ≡ None → number v document CacheHitLatency ≡ Ok hit
    → number v document CacheMissLatency ≡ Ok miss → hit < miss
unfolding latency_fault
latencies v document hit miss h p q = ltb-true hit miss (two nat_lt _ _ _ hit miss p q h)

-- a document without a fault of memory's end has memory end at 2^32 at the latest
pub ends : (v : ℕ) (document : Members) (base size : ℕ) → end_fault v document ≡ None → number v document RamBase ≡ Ok base
    → number v document RamSize ≡ Ok size → base + size ≤ 2 ^ 32
unfolding end_fault
ends v document base size h p q = leb-true (base + size) (2 ^ 32) (two (λ m n. nat_le (m + n) (2 ^ 32)) _ _ _ base size p q h)

-- a document without a fault of miss registers has at least two where accesses may be misaligned
pub registers : (v : ℕ) (document : Members) (misaligned mshrs : ℕ) → registers_fault v document ≡ None → number v document RamMisaligned ≡ Ok misaligned
    → number v document CacheMshrs ≡ Ok mshrs → 2 * misaligned ≤ mshrs
unfolding registers_fault
registers v document misaligned mshrs h p q = leb-true (2 * misaligned) mshrs (two (λ m n. nat_le (2 * m) n) _ _ _ misaligned mshrs p q h)

-- a document without a fault of the second level has its time between those of hit and miss
pub second : (v : ℕ) (document : Members) (sets hit next miss : ℕ) → second_fault v document ≡ None → number v document CacheSecondSets ≡ Ok sets
    → number v document CacheHitLatency ≡ Ok hit → number v document CacheSecondLatency ≡ Ok next → number v document CacheMissLatency ≡ Ok miss
    → IsTrue (comes_between sets hit next miss)
unfolding second_fault
second v document sets hit next miss h p q r s = four comes_between _ _ _ _ _ sets hit next miss p q r s h

no_key : (v : ℕ) (document : Members) → keys_fault v document ≡ None → Each (λ x. x ≡ None) (map (key_fault v document) keys)
unfolding keys_fault
no_key v document h = none_first (map (key_fault v document) keys) h

each_step : (v : ℕ) (document : Members) → document_fault v document ≡ None
    → Each (λ x. x ≡ None) (top_fault document ∷ sections_fault v document ∷ keys_fault v document ∷ latency_fault v document ∷ end_fault v document ∷
    registers_fault v document ∷ second_fault v document ∷ [])
unfolding document_fault
each_step v document h =
    none_first (top_fault document ∷ sections_fault v document ∷ keys_fault v document ∷ latency_fault v document ∷ end_fault v document ∷
    registers_fault v document ∷ second_fault v document ∷ []) h

-- a document without fault is clean
pub is_clean : (v : ℕ) (document : Members) → document_fault v document ≡ None → IsClean v document
is_clean v document h =
    let steps = each_step v document h in
    record {
      keys = each_key (λ x. x ≡ None) (key_fault v document) (no_key v document steps.1.1.0);
      latencies = steps.1.1.1.0;
      ends = steps.1.1.1.1.0;
      registers = steps.1.1.1.1.1.0;
      second = steps.1.1.1.1.1.1.0;
    }

-- a test passes only where there is no fault
pub none_from_checked : (x : Option DescFault) → ok_without_fault x ≡ Ok tt → x ≡ None
none_from_checked None h = refl
none_from_checked (Some e) h = absurd (cc)

-- a document is clean, where the test of it passes
pub clean_from_checked : (v : ℕ) (document : Members) → ok_without_fault (document_fault v document) ≡ Ok tt → IsClean v document
clean_from_checked v document h = is_clean v document (none_from_checked _ h)
