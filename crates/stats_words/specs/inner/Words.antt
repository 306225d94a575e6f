-- Beside Words.antt: what only clauses of the code and lemmas cite.
use Rattle.std.specs.Prelude.{option_map}
use Rattle.stats_words.specs.declared.Asked.{Asked}
use Rattle.stats_words.specs.Words.{AskedText}

-- what is asked for, as its texts and numbers say it
abbrev pub asked_text : Asked → AskedText
asked_text a = record { description = a.description.now; image = a.image.now; cycles = a.cycles; every = option_map (λ k. k.cycles) a.every }
