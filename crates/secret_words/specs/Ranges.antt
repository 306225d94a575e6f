-- Ranges of secret bytes as words give them: ADDRESS:BYTES (docs/formats.md, "Words of stt_secrets").
use Rattle.std.specs.Prelude.{ℕ, ◌+◌, ◌==◌, Bool, ◌&&◌, if◌then◌else◌, nat_le, nat_lt, List, [], ◌∷◌, length, take, drop, Option, Some, None, option_map, option_and_then, codes}
use Rattle.std.specs.List.{list_all, position, starts_with}
use Rattle.std.specs.Char.{digit_value}
use Rattle.std.specs.Str.Parse.{digits_value, without_leading_plus}
use Rattle.clap.specs.Words.{Text}
use Rattle.secret_marks.specs.declared.SecretRange.{SecretRange}

-- the text is a numeral of this radix: one digit or more, and nothing else
abbrev pub is_numeral : ℕ → Text → Bool
is_numeral radix digits = nat_lt 0 (length digits) && list_all (λ d. nat_lt (digit_value d) radix) digits

-- a number of 32 bits in this radix; a plus may stand before its digits
unfoldable pub number_of : ℕ → Text → Option ℕ
number_of radix t =
    let digits = without_leading_plus t in
    if is_numeral radix digits && nat_le (digits_value radix digits) 4294967295 then Some (digits_value radix digits) else None

-- ADDRESS: hexadecimal behind 0x, else decimal
unfoldable pub address_of : Text → Option ℕ
address_of t = if starts_with (◌==◌) t (codes "0x") then number_of 16 (drop 2 t) else number_of 10 t

-- BYTES: decimal, at least 1
unfoldable pub bytes_of : Text → Option ℕ
bytes_of t = option_and_then (λ n. if nat_le 1 n then Some n else None) (number_of 10 t)

abbrev pub is_colon : ℕ → Bool
is_colon b = b == 58

-- ADDRESS:BYTES, cut at the first colon
unfoldable pub range_of : Text → Option SecretRange
range_of t =
    option_and_then (λ cut. option_and_then (λ addr. option_map (λ bytes. record { addr = addr; bytes = bytes }) (bytes_of (drop (cut + 1) t)))
    (address_of (take cut t))) (position is_colon t)

-- the ranges of these texts, where every one of them is a range
unfoldable pub ranges_of : List Text → Option (List SecretRange)
ranges_of [] = Some []
ranges_of (t ∷ ts) = option_and_then (λ range. option_map (λ ranges. range ∷ ranges) (ranges_of ts)) (range_of t)
