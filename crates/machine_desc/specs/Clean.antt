-- What it is for a document to have no fault.
use Rattle.std.specs.Prelude.{◌≡◌, ◌≤◌, ℕ, Bool, true, false, IsTrue, None}
use Rattle.toml.specs.Data.{Members}
use Rattle.machine_desc.specs.declared.keys.Key.{Key}
use Rattle.machine_desc.specs.declared.keys.Values.{Values}
use Rattle.machine_desc.specs.declared.keys.Values.TheVariants.{Numbers, Optional, Models, Defences}
use Rattle.machine_desc.specs.Description.{has_shape, key_fault, latency_fault, end_fault, registers_fault, second_fault}

-- a number is one of these values, where a test tells its shape
abbrev pub PassesAs : Values → ℕ → Type 0
PassesAs (Numbers least most shape) n = (least ≤ n) × (n ≤ most) × IsTrue (has_shape shape n)
PassesAs (Optional least most shape) n = (least ≤ n) × (n ≤ most) × IsTrue (has_shape shape n)
PassesAs (Models off) n = Unit {0}
PassesAs (Defences every) n = Unit {0}

-- a key that may have these is one of numbers
abbrev pub has_numbers : Values → Bool
has_numbers (Numbers least most shape) = true
has_numbers (Optional least most shape) = true
has_numbers (Models off) = false
has_numbers (Defences every) = false

-- the least of the numbers of a key, which one that may be left out then has; a key of names has none
abbrev pub least_of : Values → ℕ
least_of (Numbers least most shape) = least
least_of (Optional least most shape) = least
least_of (Models off) = 0
least_of (Defences every) = 0

-- in this version no key has a fault, and none of the tests on several numbers finds one
pub record IsClean (version : ℕ) (document : Members) : Type 0 where
  pub keys : (k : Key) → key_fault version document k ≡ None
  pub latencies : latency_fault version document ≡ None
  pub ends : end_fault version document ≡ None
  pub registers : registers_fault version document ≡ None
  pub second : second_fault version document ≡ None
