-- What is answered of two runs (docs/theorems.md, "Noninterference").
use Rattle.std.specs.Prelude.{◌≡◌, ◌≢◌, ◌↔◌, ℕ, ◌+◌, ◌-◌, ◌<◌, ◌≤◌, List, slice_get, IsTrue}
use Rattle.rv_types.specs.Memory.{Agree}
use Rattle.elf_loader.specs.Image.{ImageText}
use Rattle.machine_desc.specs.declared.Desc.{Desc}
use Rattle.window_model.specs.Row.{Row}
use Rattle.window_model.specs.Cycle.{Trace}
use Rattle.window_model.specs.Path.{reads_of_trace}
use Rattle.pair_run.specs.Starts.{trace_of}
use Rattle.pair_run.specs.declared.answer.Differ.{Differ}
use Rattle.pair_run.specs.declared.answer.Differ.TheVariants.{Same, Cycle, End}
use Rattle.pair_run.specs.declared.answer.PairAnswer.{PairAnswer}

-- the images have one entry and one code, and their memories agree on each byte that the path of the first loads, in as
-- many steps as its run retires and as many more as the window holds
pub record Premise (d : Desc) (one two : ImageText) (n : ℕ) : Type 0 where
  pub entry : two.entry ≡ one.entry
  pub code : two.code ≡ one.code
  pub agree : Agree one.ram two.ram (reads_of_trace d one.code one.entry one.ram n)

-- the least cycle whose rows differ, or that only one run has: rows stand in the order of their cycles, from 1 on
pub record FirstUnequal (rows rows2 : List Row) (cycle : ℕ) : Type 0 where
  pub counted : 1 ≤ cycle
  pub before : (k : ℕ) → k + 1 < cycle → slice_get rows k ≡ slice_get rows2 k
  pub there : slice_get rows (cycle - 1) ≢ slice_get rows2 (cycle - 1)

-- how two traces differ: not, in a cycle's rows, or in their ends
abbrev pub Differs : Trace → Trace → Differ → Type 0
Differs t t2 Same = t2 ≡ t
Differs t t2 (Cycle k) = FirstUnequal t.rows t2.rows k
Differs t t2 End = (t2.rows ≡ t.rows) × (t2 ≢ t)

-- what is answered of the runs of two images, of at most n cycles
pub record Answers (d : Desc) (one two : ImageText) (n : ℕ) (answer : PairAnswer) : Type 0 where
  pub premise : IsTrue answer.premise ↔ Premise d one two n
  pub first : Differs (trace_of d one n) (trace_of d two n) answer.first
  pub retired : answer.retired ≡ (trace_of d one n).retired
  pub cycles : answer.cycles ≡ (trace_of d one n).cycles
