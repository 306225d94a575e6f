-- What clap's clauses say of the words of stt_secrets, and that the definitions compute on words.
use Rattle.std.proofs.Common.{◌≡◌, ◌≢◌, List, [], ◌∷◌, length, map, Option, Some, None, Result, Ok, Err, IfOk, IfErr, true, false, refl, codes, arith}
use Rattle.clap.specs.Words.{Text, rows_of, found_of, is_simple, is_simple_and_free}
use Rattle.clap.specs.declared.error.kind.ErrorKind.TheVariants as kind
use Rattle.clap.specs.declared.parser.matches.ArgMatches.{ArgMatches}
use Rattle.clap.proofs.OnLiterals.{clap_on_literals}
use Rattle.secret_marks.specs.declared.PublicStreams.{PublicStreams}
use Rattle.tool_words.specs.declared.Refused.{Refused}
use Rattle.tool_words.specs.declared.Refused.TheVariants.{Words}
use Rattle.tool_words.specs.Words.{word_of}
use Rattle.tool_words.specs.inner.Words.{FindsBy}
use Rattle.tool_words.proofs.Tool.{none_of}
use Rattle.secret_words.specs.Ranges.{number_of, address_of, bytes_of, range_of, ranges_of}
use Rattle.secret_words.specs.Streams.{none_public, streams_of, with_named}
use Rattle.secret_words.specs.Words.{secrets_app, faults, rows_in, WantedText, core_run, path_run, wanted_in, wanted_of}

secrets_are_free : is_simple_and_free secrets_app ≡ true
secrets_are_free = refl

secrets_are_simple : is_simple secrets_app ≡ true
secrets_are_simple = refl

-- what was found by the parser of these words is what its definitions say
pub found_as_written : (ws : List Text) (r : Result ArgMatches Refused) → FindsBy secrets_app ws r
    → IfOk r (λ m. (faults ws ≡ []) × (rows_of (found_of m) ≡ rows_in ws)) × IfErr r (λ e. e ≡ Words → faults ws ≢ [])
unfolding faults rows_in
found_as_written ws (Ok m) h = let found = h secrets_are_free in ((found.0, (found.1 secrets_are_simple).0), tt)
found_as_written ws (Err e) h = (tt, h secrets_are_free)

-- words with no fault ask for what was found in them, and faulty ones for nothing
pub words_are : (ws : List Text) (m : ArgMatches) (o : Option WantedText) → faults ws ≡ [] → rows_of (found_of m) ≡ rows_in ws → wanted_in (rows_of (found_of m)) ≡ o → wanted_of ws ≡ o
unfolding wanted_of
words_are ws m o none rows e = rw (none, ← rows) e

pub words_faulty : (ws : List Text) → (faults ws ≡ [] → ⊥) → wanted_of ws ≡ None
unfolding wanted_of
words_faulty ws h = none_of (faults ws) _ h

no_words : faults [] ≡ kind.MissingRequiredArgument ∷ []
unfolding faults clap_on_literals
no_words = refl

-- no words ask for nothing
pub no_words_no_wish : wanted_of [] ≡ None
unfolding wanted_of
no_words_no_wish = rw no_words refl

-- nor do words of which there are none
pub empty_words : {A : Type 0} (f : A → Text) (ws : List A) → length ws ≡ 0 → wanted_of (map f ws) ≡ None
empty_words f [] n = no_words_no_wish
empty_words f (w ∷ ws) n = absurd (omega (arith, n))

-- two ranges are read, in their order
two_are_read : wanted_of (codes "d.toml" ∷ codes "p.elf" ∷ codes "--secret" ∷ codes "0x1f000:64" ∷ codes "--secret=131072:1" ∷ codes "--cycles" ∷ codes "9" ∷ [])
    ≡ Some (record { image = codes "p.elf"; secret = record { addr = 126976; bytes = 64 } ∷ record { addr = 131072; bytes = 1 } ∷ []; public = none_public; run = core_run (codes "d.toml") 9 })
unfolding wanted_of faults rows_in word_of ranges_of range_of address_of bytes_of number_of clap_on_literals
two_are_read = refl

-- a stream is public, before the ranges or behind them, and by two options both are
named : Text → PublicStreams → Type 0
named n public =
    wanted_of (codes "d.toml" ∷ codes "p.elf" ∷ codes "--public-stream" ∷ n ∷ codes "--secret" ∷ codes "0:1" ∷ codes "--cycles=9" ∷ [])
    ≡ Some (record { image = codes "p.elf"; secret = record { addr = 0; bytes = 1 } ∷ []; public = public; run = core_run (codes "d.toml") 9 })

first_is_public : named (codes "1") (record { first = true; second = false })
unfolding named wanted_of faults rows_in word_of ranges_of range_of address_of bytes_of number_of streams_of with_named clap_on_literals
first_is_public = refl

second_is_public : named (codes "2") (record { first = false; second = true })
unfolding named wanted_of faults rows_in word_of ranges_of range_of address_of bytes_of number_of streams_of with_named clap_on_literals
second_is_public = refl

both_are_public : streams_of none_public (codes "2" ∷ codes "1" ∷ []) ≡ Some (record { first = true; second = true })
unfolding streams_of with_named number_of
both_are_public = refl

-- no other stream, none twice, no third option, and nothing that is no number
no_stream_is_read : (streams_of none_public (codes "0" ∷ []) ≡ None) × (streams_of none_public (codes "3" ∷ []) ≡ None) × (streams_of none_public (codes "1" ∷ codes "1" ∷ []) ≡ None)
    × (streams_of none_public (codes "2" ∷ codes "1" ∷ codes "2" ∷ []) ≡ None) × (streams_of none_public (codes "" ∷ []) ≡ None) × (streams_of none_public (codes "one" ∷ []) ≡ None)
    × (streams_of none_public (codes "1,2" ∷ []) ≡ None) × (streams_of none_public (codes "0x1" ∷ []) ≡ None)
unfolding streams_of with_named number_of
no_stream_is_read = (refl, refl, refl, refl, refl, refl, refl, refl)

-- decimal and hexadecimal are one, and a plus may stand before digits
bases_are_one : ranges_of (codes "0x1f000:64" ∷ codes "126976:64" ∷ codes "+126976:+64" ∷ codes "0x+1F000:0064" ∷ [])
    ≡ ranges_of (codes "126976:64" ∷ codes "126976:64" ∷ codes "126976:64" ∷ codes "126976:64" ∷ [])
unfolding ranges_of range_of address_of bytes_of number_of
bases_are_one = refl

whole_is_read : range_of (codes "0xffffffff:4294967295") ≡ Some (record { addr = 4294967295; bytes = 4294967295 })
unfolding range_of address_of bytes_of number_of
whole_is_read = refl

too_large : ranges_of (codes "0x100000000:1" ∷ []) ≡ None
unfolding ranges_of range_of address_of bytes_of number_of
too_large = refl

too_many : ranges_of (codes "0:4294967296" ∷ []) ≡ None
unfolding ranges_of range_of address_of bytes_of number_of
too_many = refl

-- no colon, two colons, no bytes, no address, and digits of the other base
no_range_is_read : (range_of (codes "126976") ≡ None) × (range_of (codes "126976:64:1") ≡ None) × (range_of (codes "126976:0") ≡ None) × (range_of (codes ":64") ≡ None)
    × (range_of (codes "1f000:64") ≡ None) × (range_of (codes "0x:64") ≡ None) × (range_of (codes "0x1f000:0x40") ≡ None) × (range_of (codes "-1:64") ≡ None)
unfolding range_of address_of bytes_of number_of
no_range_is_read = (refl, refl, refl, refl, refl, refl, refl, refl)

-- where one text is no range, the words ask for nothing
one_is_none : wanted_of (codes "d.toml" ∷ codes "p.elf" ∷ codes "--secret" ∷ codes "0x1f000:64" ∷ codes "--secret" ∷ codes "7" ∷ codes "--cycles" ∷ codes "9" ∷ []) ≡ None
unfolding wanted_of faults rows_in word_of ranges_of range_of address_of bytes_of number_of clap_on_literals
one_is_none = refl

-- one name and a number of steps ask of the path, with a description or without one
path_asked : List Text → Option Text → Type 0
path_asked desc named =
    wanted_of (codes "p.elf" ∷ codes "--secret=0:1" ∷ codes "--steps" ∷ codes "9" ∷ desc)
    ≡ Some (record { image = codes "p.elf"; secret = record { addr = 0; bytes = 1 } ∷ []; public = none_public; run = path_run named 9 })

path_is_asked : path_asked [] None
unfolding path_asked wanted_of faults rows_in word_of ranges_of range_of address_of bytes_of number_of clap_on_literals
path_is_asked = refl

path_in_memory_of : path_asked (codes "--desc" ∷ codes "d.toml" ∷ []) (Some (codes "d.toml"))
unfolding path_asked wanted_of faults rows_in word_of ranges_of range_of address_of bytes_of number_of clap_on_literals
path_in_memory_of = refl

-- what is asked of a core and what is asked of the path don't mix: both budgets, a description by its option beside one
-- by its place, steps behind two names, cycles behind one, and no budget
mixed : List Text → Type 0
mixed ws = wanted_of (codes "--secret=0:1" ∷ ws) ≡ None

both_budgets : mixed (codes "d.toml" ∷ codes "p.elf" ∷ codes "--cycles=9" ∷ codes "--steps=9" ∷ [])
unfolding mixed wanted_of faults rows_in word_of clap_on_literals
both_budgets = refl

two_descriptions : mixed (codes "d.toml" ∷ codes "p.elf" ∷ codes "--cycles=9" ∷ codes "--desc=d.toml" ∷ [])
unfolding mixed wanted_of faults rows_in word_of clap_on_literals
two_descriptions = refl

steps_of_a_core : mixed (codes "d.toml" ∷ codes "p.elf" ∷ codes "--steps=9" ∷ [])
unfolding mixed wanted_of faults rows_in word_of clap_on_literals
steps_of_a_core = refl

cycles_of_a_path : mixed (codes "p.elf" ∷ codes "--cycles=9" ∷ [])
unfolding mixed wanted_of faults rows_in word_of clap_on_literals
cycles_of_a_path = refl

no_budget : mixed (codes "d.toml" ∷ codes "p.elf" ∷ [])
unfolding mixed wanted_of faults rows_in word_of clap_on_literals
no_budget = refl

-- no range, and a request for help
none_is_given : faults (codes "d.toml" ∷ codes "p.elf" ∷ codes "--cycles" ∷ codes "9" ∷ []) ≡ kind.MissingRequiredArgument ∷ []
unfolding faults clap_on_literals
none_is_given = refl

help_is_refused : faults (codes "--help" ∷ []) ≡ kind.UnknownArgument ∷ []
unfolding faults clap_on_literals
help_is_refused = refl
