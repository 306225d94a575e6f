-- Beside Words.antt: what only clauses of the code and lemmas cite.
use Rattle.std.specs.Prelude.{option_map}
use Rattle.secret_words.specs.declared.RunWanted.{RunWanted}
use Rattle.secret_words.specs.declared.RunWanted.TheVariants.{Core, Path}
use Rattle.secret_words.specs.declared.Wanted.{Wanted}
use Rattle.secret_words.specs.Words.{RunText, WantedText, core_run, path_run}

-- a run that is asked of, as its texts and numbers say it
abbrev pub run_text : RunWanted → RunText
run_text (Core description cycles) = core_run description.now cycles
run_text (Path description steps) = path_run (option_map (λ t. t.now) description) steps

-- what is wanted of a run, as its texts and numbers say it
abbrev pub wanted_text : Wanted → WantedText
wanted_text w = record { image = w.image.now; secret = w.secret.items; public = w.public; run = run_text w.run }
