-- What clap's clauses say of the commands of the tool, and that the definitions compute on words.
use Rattle.std.proofs.Common.{◌≡◌, ◌≢◌, IfOk, IfErr, ◌⊎◌, inl, inr, List, [], ◌∷◌, Result, true, refl, subst, sym}
use Rattle.clap.specs.Words.{Text, Kinds, is_simple, is_simple_and_free, subcommand_rows_of}
use Rattle.clap.specs.declared.error.kind.ErrorKind.TheVariants as kind
use Rattle.clap.specs.declared.parser.matches.ArgMatches.{ArgMatches}
use Rattle.std.proofs.Common.{ℕ, ◌<◌, ◌≤◌, ◌^◌, Bool, false, if◌then◌else◌, Option, Some, None, Ok, Err, arith}
use Rattle.std.specs.Str.Parse.{ParsesUnsigned, digits_value, without_leading_plus}
use Rattle.std.proofs.lemmas.Result.{OkIff-at_ok, OkIff-at_err}
use Rattle.std.proofs.Common.{codes, length, map}
use Rattle.clap.proofs.OnLiterals.{clap_on_literals}
use Rattle.clap.proofs.ValueTestLemmas.{accepts-Accepts, Accepts-accepts}
use Rattle.clap.specs.declared.builder.value_parser.ValueParser.TheVariants as parser
use Rattle.tool_words.specs.declared.Refused.{Refused}
use Rattle.tool_words.specs.declared.Refused.TheVariants.{Words}
use Rattle.tool_words.specs.Words.{isa_text, run_text, trace_text, bench_text, pair_text, tool_app, faults, rows_in, number_between, number_of, word_of, blocks_of, CommandText, command_in, command_of, if_none}
use Rattle.tool_words.specs.inner.Words.{FindsBy}

pub tool_is_free : is_simple_and_free tool_app ≡ true
tool_is_free = refl

pub tool_is_simple : is_simple tool_app ≡ true
tool_is_simple = refl

-- what was found by the parser of the tool is what its definitions say
pub found_as_written : (ws : List Text) (r : Result ArgMatches Refused) → FindsBy tool_app ws r
    → IfOk r (λ m. (faults ws ≡ []) × (subcommand_rows_of m ≡ rows_in ws)) × IfErr r (λ e. e ≡ Words → faults ws ≢ [])
unfolding faults rows_in
found_as_written ws (Ok m) h = let found = h tool_is_free in ((found.0, (found.1 tool_is_simple).1), tt)
found_as_written ws (Err e) h = (tt, h tool_is_free)

-- a number that is read where a test is passed, and none where it isn't
pub yes : (b : Bool) (v n : ℕ) → b ≡ true → v ≡ n → Some n ≡ (if b then Some v else None)
yes b v n e k = rw (e, k) refl

-- no number is read where a test isn't passed
pub no : (b : Bool) (v : ℕ) → (b ≡ true → ⊥) → None ≡ (if b then Some v else None)
no true v h = absurd (h refl)
no false v h = refl

-- a text that parses as a number of so many bits, and one in this range, is one that clap takes
read_between : {E : Type 0} (least most : ℕ) (t : List ℕ) (r : Result ℕ E) (n bits : ℕ) → most < 2 ^ 64 → ParsesUnsigned bits 10 t r → r ≡ Ok n → least ≤ n → n ≤ most
    → Some n ≡ number_between least most t
read_between least most t r n bits small_most h e l m =
    let p = OkIff-at_ok r _ _ n h e in
    let value : digits_value 10 (without_leading_plus t) ≡ n = sym p.1 in
    yes _ _ _ (Accepts-accepts false (parser.Unsigned least most) t (p.0.0, omega (arith, value, m), omega (arith, value, l), omega (arith, value, m))) value

-- a number outside the range is not one that the parser accepts
read_outside : {E : Type 0} (least most : ℕ) (t : List ℕ) (r : Result ℕ E) (n bits : ℕ) → ParsesUnsigned bits 10 t r → r ≡ Ok n → (least ≤ n → n ≤ most → ⊥)
    → None ≡ number_between least most t
read_outside least most t r n bits h e x =
    no _ _ (λ a. let q = accepts-Accepts false (parser.Unsigned least most) t a in
    let value : digits_value 10 (without_leading_plus t) ≡ n = sym (OkIff-at_ok r _ _ n h e).1 in
    let from : least ≤ digits_value 10 (without_leading_plus t) = q.2 in
    let up_to : digits_value 10 (without_leading_plus t) ≤ most = q.3 in
    x (omega (arith, value, from)) (omega (arith, value, up_to)))

not_read_between : {E : Type 0} (least most : ℕ) (t : List ℕ) (r : Result ℕ E) (d : E) (bits : ℕ) → most < 2 ^ bits → ParsesUnsigned bits 10 t r → r ≡ Err d
    → None ≡ number_between least most t
not_read_between least most t r d bits b h e =
    no _ _ (λ a. let q = accepts-Accepts false (parser.Unsigned least most) t a in
    let up_to : digits_value 10 (without_leading_plus t) ≤ most = q.3 in
    OkIff-at_err r _ _ d h e (q.0, omega (arith, up_to, b)))

-- what parses as a number of so many bits is below their end
below_end : {E : Type 0} (t : List ℕ) (r : Result ℕ E) (n bits : ℕ) → ParsesUnsigned bits 10 t r → r ≡ Ok n → n < 2 ^ bits
below_end t r n bits h e =
    let p = OkIff-at_ok r _ _ n h e in
    subst (λ (k : ℕ). k < 2 ^ bits) (sym p.1) p.0.1

pub number_read : {E : Type 0} (t : List ℕ) (r : Result ℕ E) (n : ℕ) → ParsesUnsigned 64 10 t r → r ≡ Ok n → Some n ≡ number_of t
unfolding number_of
number_read t r n h e =
    let small : n < 2 ^ 64 = below_end t r n 64 h e in
    read_between 0 18446744073709551615 t r n 64 (omega arith) h e (omega arith) (omega (arith, small))

pub number_not_read : {E : Type 0} (t : List ℕ) (r : Result ℕ E) (d : E) → ParsesUnsigned 64 10 t r → r ≡ Err d → None ≡ number_of t
unfolding number_of
number_not_read t r d h e = not_read_between 0 18446744073709551615 t r d 64 (omega arith) h e

pub word_read : {E : Type 0} (t : List ℕ) (r : Result ℕ E) (n : ℕ) → ParsesUnsigned 32 10 t r → r ≡ Ok n → Some n ≡ word_of t
unfolding word_of
word_read t r n h e =
    let small : n < 2 ^ 32 = below_end t r n 32 h e in
    read_between 0 4294967295 t r n 32 (omega arith) h e (omega arith) (omega (arith, small))

pub word_not_read : {E : Type 0} (t : List ℕ) (r : Result ℕ E) (d : E) → ParsesUnsigned 32 10 t r → r ≡ Err d → None ≡ word_of t
unfolding word_of
word_not_read t r d h e = not_read_between 0 4294967295 t r d 32 (omega arith) h e

pub blocks_read : {E : Type 0} (t : List ℕ) (r : Result ℕ E) (n : ℕ) → ParsesUnsigned 32 10 t r → r ≡ Ok n → 1 ≤ n → n ≤ 4096 → Some n ≡ blocks_of t
unfolding blocks_of
blocks_read t r n h e l m = read_between 1 4096 t r n 32 (omega arith) h e l m

pub blocks_outside : {E : Type 0} (t : List ℕ) (r : Result ℕ E) (n : ℕ) → ParsesUnsigned 32 10 t r → r ≡ Ok n → ((1 ≤ n) × (4096 < n)) ⊎ (n < 1) → None ≡ blocks_of t
unfolding blocks_of
blocks_outside t r n h e (inl x) = let above : 4096 < n = x.1 in read_outside 1 4096 t r n 32 h e (λ l m. omega (arith, above, m))
blocks_outside t r n h e (inr x) = read_outside 1 4096 t r n 32 h e (λ l m. omega (arith, x, l))

pub blocks_not_read : {E : Type 0} (t : List ℕ) (r : Result ℕ E) (d : E) → ParsesUnsigned 32 10 t r → r ≡ Err d → None ≡ blocks_of t
unfolding blocks_of
blocks_not_read t r d h e = not_read_between 1 4096 t r d 32 (omega arith) h e

pub words_are : (ws : List Text) (m : ArgMatches) (o : Option CommandText) → faults ws ≡ [] → subcommand_rows_of m ≡ rows_in ws → o ≡ command_in (subcommand_rows_of m) → command_of ws ≡ o
unfolding command_of
words_are ws m o none rows e = rw (none, ← rows) (sym e)

-- words in which a fault was found ask for nothing
pub none_of : {X : Type 0} (ks : Kinds) (c : Option X) → (ks ≡ [] → ⊥) → if_none ks c ≡ None
none_of [] c h = absurd (h refl)
none_of (k ∷ ks) c h = refl

pub words_faulty : (ws : List Text) → (faults ws ≡ [] → ⊥) → command_of ws ≡ None
unfolding command_of
words_faulty ws h = none_of (faults ws) _ h

-- a request for help is a fault
help_is_refused : faults (codes "--help" ∷ []) ≡ kind.UnknownArgument ∷ []
unfolding faults clap_on_literals
help_is_refused = refl

no_words : faults [] ≡ kind.MissingSubcommand ∷ []
unfolding faults clap_on_literals
no_words = refl

-- where no words are given there is no command
pub no_words_no_command : command_of [] ≡ None
unfolding command_of
no_words_no_command = rw no_words refl

-- where a list of words is empty there is no command
pub empty_words : {A : Type 0} (f : A → Text) (ws : List A) → length ws ≡ 0 → command_of (map f ws) ≡ None
empty_words f [] n = no_words_no_command
empty_words f (w ∷ ws) n = absurd (omega (arith, n))

-- the words of a command compute to it
isa_is_read : command_of (codes "isa" ∷ codes "p.elf" ∷ codes "--steps" ∷ codes "5" ∷ []) ≡ Some (isa_text (codes "p.elf") 5 None)
unfolding command_of faults rows_in number_of clap_on_literals
isa_is_read = refl

run_is_read : command_of (codes "run" ∷ codes "d.toml" ∷ codes "p.elf" ∷ codes "--cycles" ∷ codes "9" ∷ []) ≡ Some (run_text (codes "d.toml") (codes "p.elf") 9)
unfolding command_of faults rows_in word_of clap_on_literals
run_is_read = refl

trace_is_read : command_of (codes "trace" ∷ codes "--cycles" ∷ codes "9" ∷ codes "d.toml" ∷ codes "p.elf" ∷ []) ≡ Some (trace_text (codes "d.toml") (codes "p.elf") 9)
unfolding command_of faults rows_in word_of clap_on_literals
trace_is_read = refl

bench_is_read : command_of (codes "bench" ∷ codes "d.toml" ∷ codes "--seed" ∷ codes "7" ∷ codes "--blocks" ∷ codes "64" ∷ codes "--cycles" ∷ codes "9" ∷ []) ≡ Some (bench_text (codes "d.toml") 7 64 9)
unfolding command_of faults rows_in number_of word_of blocks_of clap_on_literals
bench_is_read = refl

pair_is_read : command_of (codes "pair" ∷ codes "d.toml" ∷ codes "p.elf" ∷ codes "q.elf" ∷ codes "--cycles" ∷ codes "9" ∷ []) ≡ Some (pair_text (codes "d.toml") (codes "p.elf") (codes "q.elf") 9)
unfolding command_of faults rows_in word_of clap_on_literals
pair_is_read = refl
