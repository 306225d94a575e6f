-- What is told of a run's numbers (docs/formats.md, "The program stt_stats").
use Rattle.std.specs.Prelude.{ℕ, zero, suc, ◌+◌, ◌/◌, List, [], ◌∷◌, ◌++◌, length, take, drop, flat_map, Option, Some, None, codes, decimal}
use Rattle.line_text.specs.EndLine.{end_line}
use Rattle.trace_text.specs.TraceText.{ending_of}
use Rattle.window_model.specs.Cycle.{Trace}
use Rattle.run_counts.specs.Counted.{names, numbers}
use Rattle.slot_reasons.specs.Slots.{Seen, charges_of, rows_of, slot_names, slots}

-- what is counted of cycles: the numbers of their rows, and their slots by reason
pub record Numbers : Type 0 where
  pub counts : List ℕ
  pub slots : List ℕ

-- what is counted of what is seen of cycles
abbrev pub numbers_of : List Seen → Numbers
numbers_of seen = record { counts = numbers (rows_of seen); slots = slots (charges_of seen) }

-- a blank, and a number in decimal
abbrev pub and_number : ℕ → List ℕ
and_number n = codes " " ++ decimal n

-- the line of a stretch of cycles: the number of its last cycle, the numbers of its rows, and its slots by reason
unfoldable pub stretch_line : ℕ → Numbers → List ℕ
stretch_line cycle n = decimal cycle ++ flat_map and_number n.counts ++ flat_map and_number n.slots ++ codes "\n"

-- the lines of m stretches of k cycles each, the first of which comes behind this cycle
abbrev pub stretches : ℕ → ℕ → ℕ → List Seen → List ℕ
stretches k cycle zero seen = []
stretches k cycle (suc m) seen = stretch_line (cycle + k) (numbers_of (take k seen)) ++ stretches k (cycle + k) m (drop k seen)

-- the lines of cycles that come behind this one: one for each k of them, and none for what is left
abbrev pub stretches_text : ℕ → ℕ → List Seen → List ℕ
stretches_text k cycle seen = stretches k cycle (length seen / k) seen

-- the lines on the way, where they are asked for
abbrev pub way_text : Option ℕ → ℕ → List Seen → List ℕ
way_text None cycle seen = []
way_text (Some k) cycle seen = stretches_text k cycle seen

-- the line of a number: its name, and the number
abbrev pub number_line : List ℕ → ℕ → List ℕ
number_line name n = name ++ and_number n ++ codes "\n"

-- the lines of numbers, by their names
abbrev pub number_lines : List (List ℕ) → List ℕ → List ℕ
number_lines [] ns = []
number_lines (name ∷ rest) [] = []
number_lines (name ∷ rest) (n ∷ ns) = number_line name n ++ number_lines rest ns

-- the lines of all that is counted, each number with its name
abbrev pub all_lines : Numbers → List ℕ
all_lines n = number_lines names n.counts ++ number_lines slot_names n.slots

-- what is told of a run that comes behind this cycle: the lines on the way, the line of each number of the whole run,
-- and the last line of its trace
unfoldable pub stats_from : Option ℕ → ℕ → List Seen → Trace → List ℕ
stats_from every cycle seen trace = way_text every cycle seen ++ (all_lines (numbers_of seen) ++ end_line (ending_of trace))

-- what is told of a run from its first cycle on
abbrev pub stats_text : Option ℕ → List Seen → Trace → List ℕ
stats_text every seen trace = stats_from every 0 seen trace
