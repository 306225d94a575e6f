-- What reading a text tells of the range that it is.
use Rattle.std.proofs.Common.{◌≡◌, ℕ, ◌+◌, ◌<◌, ◌≤◌, ◌^◌, ◌==◌, ◌++◌, true, false, List, [], ◌∷◌, length, take, drop, get_or, Option, Some, None, Result, Ok, Err, MatchOption, refl, sym, ap, ◌∙◌, subst, arith, codes, option_map, append_assoc, append-nil, drop-cons, add-one}
use Rattle.std.proofs.lemmas.Bool.{ltb-true, leb-true, lt-ltb, le-ltb, le-leb, lt-leb}
use Rattle.std.proofs.lemmas.List.{drop_all}
use Rattle.std.proofs.lemmas.Result.{OkIff-at_ok, OkIff-at_err}
use Rattle.std.proofs.lemmas.Str.Pattern.{starts_text}
use Rattle.std.specs.Borrow.{Bor}
use Rattle.std.specs.Prelude.{nat_lt, position, map}
use Rattle.std.specs.List.{list_all, starts_with, position_or_len, before_first, after_first}
use Rattle.std.specs.Char.{digit_value}
use Rattle.std.specs.Str.{IsCharBoundary}
use Rattle.std.specs.Str.Parse.{AllDigits, ParsesUnsigned, digits_value, without_leading_plus}
use Rattle.std.specs.Str.Pattern.{FindsTextPrefix, StripsPrefix}
use Rattle.clap.specs.Words.{Text}
use Rattle.clap.proofs.WalkLemmas.{both}
use Rattle.secret_marks.specs.declared.SecretRange.{SecretRange}
use Rattle.tool_words.proofs.Tool.{yes, no}
use Rattle.secret_words.specs.Ranges.{number_of, address_of, bytes_of, is_colon, range_of, ranges_of}

-- digits by the test, and as std says it
digits_from : (radix : ℕ) (ds : Text) → list_all (λ d. nat_lt (digit_value d) radix) ds ≡ true → AllDigits radix ds
digits_from radix [] e = tt
digits_from radix (d ∷ ds) e =
    let parts = both _ _ e in
    (ltb-true _ _ parts.0, digits_from radix ds parts.1)

digits_back : (radix : ℕ) (ds : Text) → AllDigits radix ds → list_all (λ d. nat_lt (digit_value d) radix) ds ≡ true
digits_back radix [] h = refl
digits_back radix (d ∷ ds) h = rw (lt-ltb (digit_value d) radix h.0) (digits_back radix ds h.1)

-- a text that parses as a number of 32 bits is one
pub number_read : {E : Type 0} (radix : ℕ) (t : Text) (r : Result ℕ E) (n : ℕ) → ParsesUnsigned 32 radix t r → r ≡ Ok n → Some n ≡ number_of radix t
unfolding number_of
number_read radix t r n h e =
    let p = OkIff-at_ok r _ _ n h e in
    let digits = without_leading_plus t in
    let value : digits_value radix digits ≡ n = sym p.1 in
    let some : 0 < length digits = p.0.0.0 in
    let small : digits_value radix digits < 2 ^ 32 = p.0.1 in
    let most : digits_value radix digits ≤ 4294967295 = omega (arith, small) in
    yes _ _ _ (rw (lt-ltb _ _ some, digits_back radix digits p.0.0.1, le-leb _ _ most) refl) value

-- a text that doesn't parse is none
pub number_not_read : {E : Type 0} (radix : ℕ) (t : Text) (r : Result ℕ E) (d : E) → ParsesUnsigned 32 radix t r → r ≡ Err d → None ≡ number_of radix t
unfolding number_of
number_not_read radix t r d h e =
    no _ _ (λ a.
    let digits = without_leading_plus t in
    let parts = both _ _ a in
    let numeral = both _ _ parts.0 in
    let most : digits_value radix digits ≤ 4294967295 = leb-true _ _ parts.1 in
    OkIff-at_err r _ _ d h e ((ltb-true _ _ numeral.0, digits_from radix digits numeral.1), omega (arith, most)))

-- the clause of `strip_prefix` at a text
pub stripped : (p s : Text) (r : Option (Bor Text)) → MatchOption r (FindsTextPrefix p s None) (λ x. StripsPrefix (FindsTextPrefix p) s x.now)
    → MatchOption r (starts_with (◌==◌) s p ≡ false) (λ x. (starts_with (◌==◌) s p ≡ true) × (x.now ≡ drop (length p) s))
stripped p s None h = sym (starts_text false p s h)
stripped p s (Some x) h =
    let edge : IsCharBoundary s h.0 = subst (IsCharBoundary s) (sym h.1.0) h.1.2 in
    (sym (starts_text true p s (h.0, h.1, edge)), h.2 ∙ ap (λ n. drop n s) h.1.0)

pub address_hexadecimal : (t d : Text) (o : Option ℕ) → starts_with (◌==◌) t (codes "0x") ≡ true → d ≡ drop 2 t → o ≡ number_of 16 d → o ≡ address_of t
unfolding address_of
address_hexadecimal t d o s e h = rw s (h ∙ ap (number_of 16) e)

pub address_decimal : (t : Text) (o : Option ℕ) → starts_with (◌==◌) t (codes "0x") ≡ false → o ≡ number_of 10 t → o ≡ address_of t
unfolding address_of
address_decimal t o s h = rw s h

pub bytes_read : (t : Text) (n : ℕ) → Some n ≡ number_of 10 t → 1 ≤ n → Some n ≡ bytes_of t
unfolding bytes_of
bytes_read t n h some = rw (← h, le-leb _ _ some) refl

pub no_bytes : (t : Text) (n : ℕ) → Some n ≡ number_of 10 t → n < 1 → None ≡ bytes_of t
unfolding bytes_of
no_bytes t n h none = rw (← h, lt-leb _ _ none) refl

pub bytes_not_read : (t : Text) → None ≡ number_of 10 t → None ≡ bytes_of t
unfolding bytes_of
bytes_not_read t h = rw (← h) refl

-- where the first colon stands
colon_at : (t : Text) → position_or_len is_colon t < length t → position is_colon t ≡ Some (position_or_len is_colon t)
colon_at t h = rw (lt-ltb _ _ h) refl

no_colon : (t : Text) → position_or_len is_colon t ≡ length t → position is_colon t ≡ None
no_colon t e = rw (le-ltb (position_or_len is_colon t) (length t) (omega (arith, e))) refl

-- what a text with no colon is, and one with a colon by its two parts
pub range_without_colon : (t : Text) → position_or_len is_colon t ≡ length t → None ≡ range_of t
unfolding range_of
range_without_colon t e = rw (no_colon t e) refl

pub range_read : (t a b : Text) (addr bytes : ℕ) → position_or_len is_colon t < length t → a ≡ before_first is_colon t → b ≡ after_first is_colon t
    → Some addr ≡ address_of a → Some bytes ≡ bytes_of b → Some (record { addr = addr; bytes = bytes }) ≡ range_of t
unfolding range_of
range_read t a b addr bytes l ea eb ha hb =
    let ha' : address_of (take (position_or_len is_colon t) t) ≡ Some addr = sym (ha ∙ ap address_of ea) in
    let hb' : bytes_of (drop (position_or_len is_colon t + 1) t) ≡ Some bytes = sym (hb ∙ ap bytes_of eb) in
    rw (colon_at t l, ha', hb') refl

pub range_without_address : (t a : Text) → position_or_len is_colon t < length t → a ≡ before_first is_colon t → None ≡ address_of a → None ≡ range_of t
unfolding range_of
range_without_address t a l ea ha =
    let ha' : address_of (take (position_or_len is_colon t) t) ≡ None = sym (ha ∙ ap address_of ea) in
    rw (colon_at t l, ha') refl

pub range_without_bytes : (t a b : Text) (addr : ℕ) → position_or_len is_colon t < length t → a ≡ before_first is_colon t → b ≡ after_first is_colon t
    → Some addr ≡ address_of a → None ≡ bytes_of b → None ≡ range_of t
unfolding range_of
range_without_bytes t a b addr l ea eb ha hb =
    let ha' : address_of (take (position_or_len is_colon t) t) ≡ Some addr = sym (ha ∙ ap address_of ea) in
    let hb' : bytes_of (drop (position_or_len is_colon t + 1) t) ≡ None = sym (hb ∙ ap bytes_of eb) in
    rw (colon_at t l, ha', hb') refl

-- the ranges of all texts, where those of the first ones are known
abbrev pub GoOn : List Text → List SecretRange → List Text → Type 0
GoOn all got rest = ranges_of all ≡ option_map (λ ranges. got ++ ranges) (ranges_of rest)

pub go_on-more : (all rest : List Text) (got : List SecretRange) (t : Text) (range : SecretRange) → GoOn all got (t ∷ rest) → Some range ≡ range_of t → GoOn all (got ++ range ∷ []) rest
unfolding ranges_of
go_on-more all rest got t range h e = h ∙ rw (← e) (by (ranges_of rest))
  where
    by : (o : Option (List SecretRange)) → option_map (λ ranges. got ++ ranges) (option_map (λ ranges. range ∷ ranges) o) ≡ option_map (λ ranges. (got ++ range ∷ []) ++ ranges) o
    by None = refl
    by (Some ranges) = ap Some (sym (append_assoc got (range ∷ []) ranges))

-- the ranges are read on with the next text, and none behind the last one
pub go_on-next : (texts : List (Bor Text)) (got : List SecretRange) (i : ℕ) (d : Bor Text) → i < length texts → GoOn (map (λ t. t.now) texts) got (map (λ t. t.now) (drop i texts))
    → GoOn (map (λ t. t.now) texts) got ((get_or texts i d).now ∷ map (λ t. t.now) (drop (i + 1) texts))
go_on-next texts got i d l h =
    h ∙ ap (λ rest. option_map (λ ranges. got ++ ranges) (ranges_of (map (λ t. t.now) rest))) (drop-cons texts i d l ∙ ap (λ k. get_or texts i d ∷ drop k texts) (sym (add-one i)))

pub go_on-end : (texts : List (Bor Text)) (got : List SecretRange) (i : ℕ) → length texts ≤ i → GoOn (map (λ t. t.now) texts) got (map (λ t. t.now) (drop i texts))
    → ranges_of (map (λ t. t.now) texts) ≡ Some got
unfolding ranges_of
go_on-end texts got i l h = h ∙ rw (drop_all i texts l) (ap Some (append-nil got))

pub go_on-none : (all rest : List Text) (got : List SecretRange) (t : Text) → GoOn all got (t ∷ rest) → None ≡ range_of t → ranges_of all ≡ None
unfolding ranges_of
go_on-none all rest got t h e = h ∙ rw (← e) refl
