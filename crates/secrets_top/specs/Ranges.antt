-- Which ranges of secret bytes an image may have (docs/formats.md, "The program stt_secrets").
use Rattle.std.specs.Prelude.{ℕ, ◌+◌, ◌-◌, ◌%◌, Bool, not, List, [], ◌∷◌, Option, Some, None, is_some, if◌then◌else◌}
use Rattle.std.specs.List.{list_any}
use Rattle.rv_types.specs.Memory.{Code, in_ram, range}
use Rattle.elf_loader.specs.Image.{ImageText}
use Rattle.secret_marks.specs.declared.SecretRange.{SecretRange}
use Rattle.secrets_top.specs.declared.ranges.RangeFault.{RangeFault}
use Rattle.secrets_top.specs.declared.ranges.RangeFault.TheVariants as fault
use Rattle.secrets_top.specs.declared.ranges.FaultyRange.{FaultyRange}

-- the byte at an address is one of a word that may be fetched
abbrev pub in_code : Code → ℕ → Bool
in_code code a = is_some (code (a - a % 4))

-- a byte of the range is one of a word that may be fetched
abbrev pub touches_code : Code → SecretRange → Bool
touches_code code r = list_any (in_code code) (range r.addr r.bytes)

-- what is wrong with a range: not all of its bytes lie in memory, or one is code
abbrev pub range_fault : ImageText → SecretRange → Option RangeFault
range_fault image r =
    if not (in_ram image.ram r.addr r.bytes) then Some fault.Outside
    else if touches_code image.code r then Some fault.Code
    else None

-- the range with this number is the first one with a fault, if it has one
abbrev pub faulty_or : ℕ → Option RangeFault → Option FaultyRange → Option FaultyRange
faulty_or i None later = later
faulty_or i (Some fault) later = Some (record { number = i; fault = fault })

-- the first of these ranges with a fault; they are numbered from i on
abbrev pub first_faulty : ImageText → ℕ → List SecretRange → Option FaultyRange
first_faulty image i [] = None
first_faulty image i (r ∷ rest) = faulty_or i (range_fault image r) (first_faulty image (i + 1) rest)
