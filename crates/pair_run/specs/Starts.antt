-- The machine's run of an image.
use Rattle.std.specs.Prelude.{ℕ}
use Rattle.elf_loader.specs.Image.{ImageText}
use Rattle.machine_desc.specs.declared.Desc.{Desc}
use Rattle.window_model.specs.Cycle.{Trace, trace}

-- the machine's run of an image, of at most n cycles
abbrev pub trace_of : Desc → ImageText → ℕ → Trace
trace_of d image n = trace d image.code image.entry image.ram n
