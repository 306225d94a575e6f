-- The text of a trace (docs/formats.md, "The trace").
use Rattle.std.specs.Prelude.{ℕ, Bool, true, false, List, ◌++◌, Some, codes, decimal, flat_map}
use Rattle.rv_types.specs.declared.Ending.{Ending}
use Rattle.line_text.specs.Digits.{hex8}
use Rattle.line_text.specs.EndLine.{end_line}
use Rattle.window_model.specs.declared.Event.{Event}
use Rattle.window_model.specs.declared.Event.TheVariants.{Fill, Done, Res, Bp, Bt, Sq, Clr, Vio, Dp, Ret, St, Call, Alu, Mul, Div, Agu, Std, Ld, LdForward, LdFault, Pf, Ren, Fet}
use Rattle.window_model.specs.declared.Way.{Way}
use Rattle.window_model.specs.declared.Way.TheVariants.{Taken, NotTaken, Jump}
use Rattle.window_model.specs.declared.Look.{Look}
use Rattle.window_model.specs.declared.Look.TheVariants.{Hit, Miss, Join, Second}
use Rattle.window_model.specs.Row.{Row}
use Rattle.window_model.specs.Cycle.{Trace}

-- a colon, and a number in decimal
abbrev pub and_number : ℕ → List ℕ
and_number n = codes ":" ++ decimal n

-- a colon, and an address in eight digits
abbrev pub and_address : ℕ → List ℕ
and_address a = codes ":" ++ hex8 a

-- how a branch or JALR went
abbrev pub way_text : Way → List ℕ
way_text Taken = codes ":T"
way_text NotTaken = codes ":N"
way_text Jump = codes ":J"

-- whether a store's line was in the cache
abbrev pub found_text : Bool → List ℕ
found_text true = codes ":h"
found_text false = codes ":m"

-- where a line was found
abbrev pub look_text : Look → List ℕ
look_text Hit = codes ":h"
look_text Miss = codes ":m"
look_text Join = codes ":j"
look_text Second = codes ":2"

-- the text of an event: its name and what it tells, with colons between
unfoldable pub event_text : Event → List ℕ
event_text (Fill line) = codes "fill" ++ and_address line
event_text (Done serial) = codes "done" ++ and_number serial
event_text (Res serial way) = codes "res" ++ and_number serial ++ way_text way
event_text (Bp index value) = codes "bp" ++ and_number index ++ and_number value
event_text (Bt index target) = codes "bt" ++ and_number index ++ and_address target
event_text (Sq count) = codes "sq" ++ and_number count
event_text (Clr serial) = codes "clr" ++ and_number serial
event_text (Vio serial) = codes "vio" ++ and_number serial
event_text (Dp index value) = codes "dp" ++ and_number index ++ and_number value
event_text (Ret serial) = codes "ret" ++ and_number serial
event_text (St serial line found) = codes "st" ++ and_number serial ++ and_address line ++ found_text found
event_text (Call serial count) = codes "call" ++ and_number serial ++ and_number count
event_text (Alu serial) = codes "alu" ++ and_number serial
event_text (Mul serial) = codes "mul" ++ and_number serial
event_text (Div serial time) = codes "div" ++ and_number serial ++ and_number time
event_text (Agu serial) = codes "agu" ++ and_number serial
event_text (Std serial) = codes "std" ++ and_number serial
event_text (Ld serial line look) = codes "ld" ++ and_number serial ++ and_address line ++ look_text look
event_text (LdForward serial) = codes "ld" ++ and_number serial ++ codes ":f"
event_text (LdFault serial) = codes "ld" ++ and_number serial ++ codes ":x"
event_text (Pf line look) = codes "pf" ++ and_address line ++ look_text look
event_text (Ren serial pc) = codes "ren" ++ and_number serial ++ and_address pc
event_text (Fet pc) = codes "fet" ++ and_address pc

-- a blank and the text of each event, in turn
unfoldable pub events_text : List Event → List ℕ
events_text events = flat_map (λ event. codes " " ++ event_text event) events

-- the line of a cycle: its number, and its events
unfoldable pub row_text : Row → List ℕ
row_text row = decimal row.cycle ++ events_text row.events ++ codes "\n"

-- the lines of cycles, in turn
unfoldable pub rows_text : List Row → List ℕ
rows_text rows = flat_map row_text rows

-- what the last line of a trace says
abbrev pub ending_of : Trace → Ending
ending_of trace = record { end = trace.end; retired = trace.retired; cycles = Some trace.cycles }

-- the text of a trace: the line of each cycle, and the last line
unfoldable pub trace_text : Trace → List ℕ
trace_text trace = rows_text trace.rows ++ end_line (ending_of trace)
