-- The number of a key without fault is one of the key's values.
use Rattle.std.proofs.Common.{◌≡◌, ◌≤◌, ℕ, Option, Some, None, Result, Ok, Err, Bool, true, false, IsTrue, if◌then◌else◌, refl, ap, sym, subst, ◌∙◌, arith}
use Rattle.std.specs.Prelude.{pos, negsuc, nat_le, ◌&&◌}
use borrow.Author.Tests.{leb-true}
use Rattle.toml.specs.Data.{Data, integer, Members}
use Rattle.machine_desc.specs.declared.keys.Key.{Key}
use Rattle.machine_desc.specs.declared.keys.Key.TheVariants.{CoreFetchWidth}
use Rattle.machine_desc.specs.declared.keys.Shape.{Shape}
use Rattle.machine_desc.specs.declared.keys.Values.{Values}
use Rattle.machine_desc.specs.declared.keys.Values.TheVariants.{Numbers, Optional, Models, Defences}
use Rattle.machine_desc.specs.declared.fault.DescFault.{DescFault}
use Rattle.machine_desc.specs.Table.{values_of, row, is_known, where_known}
use Rattle.machine_desc.specs.Description.{has_shape, value_at, number_in, number_or_least, number_of, number, Setting, OneNumber, set_to, setting_in, setting, fault_of, key_fault}
use Rattle.machine_desc.specs.Clean.{PassesAs, has_numbers}
use Rattle.machine_desc.specs.Allowed.{Fits, MayBe}
use Rattle.machine_desc.proofs.Fitting.{fits_from_test}

-- an answer is a number in this range and of this shape
record InRange (least most : ℕ) (shape : Shape) (answer : Result ℕ DescFault) : Type 0 where
  value : ℕ
  is : answer ≡ Ok value
  passes : PassesAs (Numbers least most shape) value

-- a number passes the tests of its range and its shape where reading it gives no fault
passes : (n least most : ℕ) (shape : Shape) (low high fits : Bool) (a b : DescFault) → nat_le least n ≡ low → nat_le n most ≡ high → has_shape shape n ≡ fits
    → fault_of (if low && high then (if fits then Ok n else Err a) else Err b) ≡ None
    → InRange least most shape (if low && high then (if fits then Ok n else Err a) else Err b)
passes n least most shape true true true a b l h f e = record { value = n; is = refl; passes = (leb-true least n l, leb-true n most h, f) }
passes n least most shape true true false a b l h f e = absurd (cc)
passes n least most shape true false fits a b l h f e = absurd (cc)
passes n least most shape false high fits a b l h f e = absurd (cc)

number_found : (key : Key) (least most : ℕ) (shape : Shape) (v : Option Data) → fault_of (number_in key least most shape v) ≡ None
    → InRange least most shape (number_in key least most shape v)
number_found key least most shape None e = absurd (cc)
number_found key least most shape (Some (integer (pos n))) e =
    passes n least most shape (nat_le least n) (nat_le n most) (has_shape shape n) _ _ refl refl refl e
number_found key least most shape (Some (integer (negsuc n))) e = absurd (cc)
number_found key least most shape (Some _) e = absurd (cc)

-- a key that is left out has one of its values
abbrev LeastPasses : Values → Type 0
LeastPasses (Optional least most shape) = PassesAs (Optional least most shape) least
LeastPasses _ = Unit {0}

least_within : (least most : ℕ) (known : Bool) → least ≤ most → least ≤ (if known then most else least)
least_within least most true h = h
least_within least most false h = omega arith

-- the least of a range is in the range, and of its shape
abbrev has_least : Values → Bool
has_least (Optional least most shape) = nat_le least most && has_shape shape least
has_least _ = true

by_range : (least most : ℕ) (known low fits : Bool) (shape : Shape) → nat_le least most ≡ low → has_shape shape least ≡ fits → IsTrue (low && fits)
    → PassesAs (Optional least (if known then most else least) shape) least
by_range least most known true true shape l f h = (omega arith, least_within least most known (leb-true least most l), f)
by_range least most known true false shape l f h = absurd (cc)
by_range least most known false fits shape l f h = absurd (cc)

by_values : (known : Bool) (values : Values) → IsTrue (has_least values) → LeastPasses (where_known known values)
by_values known (Numbers least most shape) h = tt
by_values known (Optional least most shape) h = by_range least most known _ _ shape refl refl h
by_values known (Models off) h = tt
by_values known (Defences every) h = tt

each_has_least : (version : ℕ) (key : Key) → IsTrue (has_least (row version key).values)
each_has_least v CoreFetchWidth = refl
each_has_least v _ = refl

least_passes : (version : ℕ) (key : Key) → LeastPasses (values_of version key)
least_passes v key = by_values (is_known v key) (row v key).values (each_has_least v key)

optional_found : (key : Key) (least most : ℕ) (shape : Shape) (v : Option Data) → PassesAs (Optional least most shape) least
    → fault_of (number_or_least key least most shape v) ≡ None → InRange least most shape (number_or_least key least most shape v)
optional_found key least most shape None g e = record { value = least; is = refl; passes = g }
optional_found key least most shape (Some value) g e = number_found key least most shape (Some value) e

no_fault : {A : Type 0} (make : A → Setting) (answer : Result A DescFault) → fault_of (set_to make answer) ≡ None → fault_of answer ≡ None
no_fault make (Ok x) e = refl
no_fault make (Err fault) e = absurd (cc)

-- a value gives its key a number that passes the tests of its range and its shape
record FoundIn (key : Key) (values : Values) (v : Option Data) : Type 0 where
  value : ℕ
  is : number_of key values v ≡ Ok value
  set : setting_in key values v ≡ Ok (OneNumber value)
  passes : PassesAs values value

value_found : (key : Key) (values : Values) (v : Option Data) → LeastPasses values → fault_of (setting_in key values v) ≡ None → IsTrue (has_numbers values)
    → FoundIn key values v
value_found key (Numbers least most shape) v g e w =
    let f = number_found key least most shape v (no_fault OneNumber _ e) in
    record { value = f.value; is = f.is; set = ap (set_to OneNumber) f.is; passes = f.passes }
value_found key (Optional least most shape) v g e w =
    let f = optional_found key least most shape v g (no_fault OneNumber _ e) in
    record { value = f.value; is = f.is; set = ap (set_to OneNumber) f.is; passes = f.passes }
value_found key (Models off) v g e w = absurd (cc)
value_found key (Defences every) v g e w = absurd (cc)

-- the number of an answer, or none
abbrev pub number_or_none : Result ℕ DescFault → ℕ
number_or_none (Ok n) = n
number_or_none (Err fault) = 0

-- the number that a document has at a key, and none at a key of names
abbrev pub number_at : ℕ → Members → Key → ℕ
number_at v document key = number_or_none (number v document key)

-- a key of a document is set to a number
pub record Found (version : ℕ) (document : Members) (key : Key) : Type 0 where
  pub is : number version document key ≡ Ok (number_at version document key)
  pub set : setting version document key ≡ Ok (OneNumber (number_at version document key))

-- a document without a fault at a key of numbers sets the key to a number
pub found : (v : ℕ) (document : Members) (key : Key) → key_fault v document key ≡ None → IsTrue (has_numbers (values_of v key)) → Found v document key
unfolding key_fault
found v document key none w =
    let f = value_found key (values_of v key) (value_at document key) (least_passes v key) none w in
    let same : f.value ≡ number_at v document key = sym (ap number_or_none f.is) in
    record { is = f.is ∙ ap Ok same; set = f.set ∙ ap (λ (n : ℕ). Ok (OneNumber n)) same }

value_fits : (key : Key) (values : Values) (v : Option Data) → LeastPasses values → fault_of (setting_in key values v) ≡ None
    → Fits values (number_or_none (number_of key values v))
value_fits key (Numbers least most shape) v g e =
    let f = value_found key (Numbers least most shape) v g e refl in
    subst (λ (r : Result ℕ DescFault). Fits (Numbers least most shape) (number_or_none r)) (sym f.is) (fits_from_test (Numbers least most shape) f.value f.passes)
value_fits key (Optional least most shape) v g e =
    let f = value_found key (Optional least most shape) v g e refl in
    subst (λ (r : Result ℕ DescFault). Fits (Optional least most shape) (number_or_none r)) (sym f.is) (fits_from_test (Optional least most shape) f.value f.passes)
value_fits key (Models off) v g e = tt
value_fits key (Defences every) v g e = tt

-- the number of a key without fault is one of the key's values
pub may_be : (v : ℕ) (document : Members) (key : Key) → key_fault v document key ≡ None → MayBe v key (number_at v document key)
unfolding key_fault
may_be v document key none = value_fits key (values_of v key) (value_at document key) (least_passes v key) none
