-- Beside Top.antt: what only clauses of the code and lemmas cite.
use Rattle.std.specs.Prelude.{◌≡◌, ℕ, Option, Result, Ok, Err}
use Rattle.rv_types.specs.declared.End.{End}
use Rattle.elf_loader.specs.Image.{ImageText}
use Rattle.machine_desc.specs.declared.Desc.{Desc}
use Rattle.pair_run.specs.Starts.{trace_of}
use Rattle.tool_io.specs.Outside.{Told, Wrote, WrotePrefix}
use Rattle.run_inputs.specs.declared.refusal.Refusal.{Refusal}
use Rattle.run_inputs.specs.declared.refusal.Refusal.TheVariants.{Write, Memory}
use Rattle.stats_top.specs.Stats.{stats_text}
use Rattle.stats_top.specs.Top.{seen_of}

-- how a run is told: with its whole text, with a part of it where the sink failed, or with nothing where memory was
-- wanting
abbrev pub Performs : Option ℕ → Desc → ImageText → ℕ → Told → Told → Result (Option End) Refusal → Type 0
Performs every d image n out out' (Ok end) = Wrote (stats_text every (seen_of d image n) (trace_of d image n)) out out' × (end ≡ (trace_of d image n).end)
Performs every d image n out out' (Err Write) = WrotePrefix (stats_text every (seen_of d image n) (trace_of d image n)) out out'
Performs every d image n out out' (Err Memory) = out' ≡ out
Performs every d image n out out' (Err refusal) = ⊥
