-- What clap's clauses say of the words of stt_stats, and that the definitions compute on words.
use Rattle.std.proofs.Common.{◌≡◌, ◌≢◌, List, [], ◌∷◌, length, map, Option, Some, None, Result, Ok, Err, IfOk, IfErr, true, refl, sym, codes, arith}
use Rattle.clap.specs.Words.{Text, rows_of, found_of, is_simple, is_simple_and_free}
use Rattle.clap.specs.declared.error.kind.ErrorKind.TheVariants as kind
use Rattle.clap.specs.declared.parser.matches.ArgMatches.{ArgMatches}
use Rattle.clap.proofs.OnLiterals.{clap_on_literals}
use Rattle.tool_words.specs.declared.Refused.{Refused}
use Rattle.tool_words.specs.declared.Refused.TheVariants.{Words}
use Rattle.tool_words.specs.Words.{word_of}
use Rattle.tool_words.specs.inner.Words.{FindsBy}
use Rattle.tool_words.proofs.Tool.{none_of}
use Rattle.stats_words.specs.Words.{stats_app, faults, rows_in, AskedText, asked_in, asked_of}

stats_are_free : is_simple_and_free stats_app ≡ true
stats_are_free = refl

stats_are_simple : is_simple stats_app ≡ true
stats_are_simple = refl

-- what was found by the parser of these words is what its definitions say
pub found_as_written : (ws : List Text) (r : Result ArgMatches Refused) → FindsBy stats_app ws r
    → IfOk r (λ m. (faults ws ≡ []) × (rows_of (found_of m) ≡ rows_in ws)) × IfErr r (λ e. e ≡ Words → faults ws ≢ [])
unfolding faults rows_in
found_as_written ws (Ok m) h = let found = h stats_are_free in ((found.0, (found.1 stats_are_simple).0), tt)
found_as_written ws (Err e) h = (tt, h stats_are_free)

-- words with no fault ask for what was found in them, and faulty ones for nothing
pub words_are : (ws : List Text) (m : ArgMatches) (o : Option AskedText) → faults ws ≡ [] → rows_of (found_of m) ≡ rows_in ws → o ≡ asked_in (rows_of (found_of m)) → asked_of ws ≡ o
unfolding asked_of
words_are ws m o none rows e = rw (none, ← rows) (sym e)

pub words_faulty : (ws : List Text) → (faults ws ≡ [] → ⊥) → asked_of ws ≡ None
unfolding asked_of
words_faulty ws h = none_of (faults ws) _ h

no_words : faults [] ≡ kind.MissingRequiredArgument ∷ []
unfolding faults clap_on_literals
no_words = refl

-- no words ask for nothing
pub no_words_ask : asked_of [] ≡ None
unfolding asked_of
no_words_ask = rw no_words refl

-- nor do words of which there are none
pub empty_words : {A : Type 0} (f : A → Text) (ws : List A) → length ws ≡ 0 → asked_of (map f ws) ≡ None
empty_words f [] n = no_words_ask
empty_words f (w ∷ ws) n = absurd (omega (arith, n))

-- a run without a line on the way, and with one after each 1000 cycles
plain_is_read : asked_of (codes "d.toml" ∷ codes "p.elf" ∷ codes "--cycles" ∷ codes "9" ∷ []) ≡ Some (record { description = codes "d.toml"; image = codes "p.elf"; cycles = 9; every = None })
unfolding asked_of faults rows_in word_of clap_on_literals
plain_is_read = refl

every_is_read : asked_of (codes "--every=1000" ∷ codes "d.toml" ∷ codes "--cycles" ∷ codes "9" ∷ codes "p.elf" ∷ [])
    ≡ Some (record { description = codes "d.toml"; image = codes "p.elf"; cycles = 9; every = Some 1000 })
unfolding asked_of faults rows_in word_of clap_on_literals
every_is_read = refl

-- no number of cycles after which no line could come, no second one, and no request for help
refused : List Text → Type 0
refused ws = asked_of (codes "d.toml" ∷ codes "p.elf" ∷ ws) ≡ None

zero_is_refused : refused (codes "--cycles=9" ∷ codes "--every=0" ∷ [])
unfolding refused asked_of faults rows_in word_of clap_on_literals
zero_is_refused = refl

twice_is_refused : refused (codes "--cycles=9" ∷ codes "--every=1" ∷ codes "--every=2" ∷ [])
unfolding refused asked_of faults rows_in word_of clap_on_literals
twice_is_refused = refl

help_is_refused : faults (codes "--help" ∷ []) ≡ kind.UnknownArgument ∷ []
unfolding faults clap_on_literals
help_is_refused = refl
