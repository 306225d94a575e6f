-- Streams that are public, as words give them (docs/formats.md, "Words of stt_secrets").
use Rattle.std.specs.Prelude.{ℕ, true, false, ◌==◌, if◌then◌else◌, List, [], ◌∷◌, Option, Some, None, option_and_then}
use Rattle.clap.specs.Words.{Text}
use Rattle.secret_marks.specs.declared.PublicStreams.{PublicStreams}
use Rattle.secret_words.specs.Ranges.{number_of}

-- no stream is public
abbrev pub none_public : PublicStreams
none_public = record { first = false; second = false }

-- the stream of this number is public besides those: there are 1 and 2, and none is named twice
abbrev pub with_stream : PublicStreams → ℕ → Option PublicStreams
with_stream streams n =
    if n == 1 then (if streams.first then None else Some (record { first = true; second = streams.second }))
    else if n == 2 then (if streams.second then None else Some (record { first = streams.first; second = true }))
    else None

-- the stream that a text names, a number in decimal, is public besides those
unfoldable pub with_named : PublicStreams → Text → Option PublicStreams
with_named streams t = option_and_then (with_stream streams) (number_of 10 t)

-- the streams that these texts name are public besides those, where every one of them names one that may be
unfoldable pub streams_of : PublicStreams → List Text → Option PublicStreams
streams_of streams [] = Some streams
streams_of streams (t ∷ ts) = option_and_then (λ more. streams_of more ts) (with_named streams t)
