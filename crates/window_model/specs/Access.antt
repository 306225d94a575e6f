-- What a load finds: bytes of older stores, the cache, or a miss (docs/machine.md, "Loads").
use Rattle.std.specs.Prelude.{ℕ, ◌+◌, ◌-◌, Bool, false, not, ◌&&◌, ◌||◌, ◌==◌, nat_le, nat_lt, max, List, [], ◌∷◌, ◌++◌, length, map, slice_index, Option, Some, None, is_some, if◌then◌else◌}
use Rattle.std.specs.List.{find, fold, list_all}
use Rattle.std.specs.Option.{option_and_then, option_map, option_to_list, unwrap_or}
use Rattle.rv_types.specs.Word.{to_le}
use Rattle.rv_types.specs.Memory.{Ram, load_fault, range}
use Rattle.rv_types.specs.declared.Cause.{Cause}
use Rattle.machine_desc.specs.declared.Desc.{Desc}
use Rattle.machine_desc.specs.Questions.{has_prefetch}
use Rattle.window_model.specs.declared.Entry.{Entry}
use Rattle.window_model.specs.declared.Event.{Event}
use Rattle.window_model.specs.declared.Event.TheVariants as event
use Rattle.window_model.specs.declared.Look.{Look}
use Rattle.window_model.specs.declared.Look.TheVariants as look
use Rattle.window_model.specs.declared.Outcome.{Outcome}
use Rattle.window_model.specs.declared.lookup.Access.{Access}
use Rattle.window_model.specs.declared.lookup.Access.TheVariants.{Faults, Forwards, Looks, Waits}
use Rattle.window_model.specs.declared.lookup.Line.{Line}
use Rattle.window_model.specs.declared.lookup.Line.TheVariants.{Hits, Joins, Takes}
use Rattle.window_model.specs.declared.lookup.Lines.{Lines}
use Rattle.window_model.specs.declared.lookup.Request.{Request}
use Rattle.machine_desc.specs.declared.SttModel.{SttModel}
use Rattle.window_model.specs.State.{Miss, line_of, upper_line}
use Rattle.window_model.specs.Around.{Around}
use Rattle.window_model.specs.Order.{is_store, has_address}
use Rattle.window_model.specs.Taint.{address_tainted}
use Rattle.window_model.specs.SecondLevel.{second_has, second_touched}
use Rattle.window_model.specs.Retire.{has_line, with_line_touched, addr_of, stored_of, byte_count}

-- an access of n bytes with this outcome reaches the byte at an address: it has no fault, and the byte is one of its
-- own
abbrev pub reaches : ℕ → ℕ → Option Outcome → Bool
reaches a n None = false
reaches a n (Some o) = not (is_some o.fault) && nat_le o.addr a && nat_lt a (o.addr + n)

-- the entry is a store that writes the byte at this address: none where its address isn't known yet
abbrev pub covers : ℕ → Entry → Bool
covers a e = is_store e.item.kind && has_address e && reaches a (byte_count e) e.outcome

-- the byte that a store writes at an address that it covers
abbrev pub byte_from : ℕ → Entry → ℕ
byte_from a e = slice_index (to_le (byte_count e) (stored_of e.outcome)) (a - addr_of e.outcome)

-- the byte at an address: that of the store found, else memory's
abbrev pub byte_of : Ram → ℕ → Option Entry → ℕ
byte_of ram a None = slice_index ram.bytes (a - ram.base)
byte_of ram a (Some e) = byte_from a e

-- the bytes of a load: each from the youngest older store that covers it, else from memory
abbrev pub load_bytes : Ram → List Entry → ℕ → ℕ → List ℕ
load_bytes ram before a n = map (λ b. byte_of ram b (find (covers b) before)) (range a n)

-- older stores cover every byte of the access
abbrev pub all_covered : List Entry → ℕ → ℕ → Bool
all_covered before a n = list_all (λ b. is_some (find (covers b) before)) (range a n)

-- some older store has a tainted address
abbrev pub any_store_hidden : SttModel → List Entry → Bool
any_store_hidden model [] = false
any_store_hidden model (e ∷ before) = is_store e.item.kind && address_tainted model before e || any_store_hidden model before

-- ---- what a load's access finds

-- The answers are types of the code. A line that is looked up comes to a `Line`: the cache has it (`Hits`), a register
-- waits for it until a cycle (`Joins`), or it takes a register (`Takes`); a line that takes one is a `Request`, from
-- memory or from the second level. An access has `Lines`: that of its first byte, and that of its last where it is
-- another. It comes to an `Access`: a fault (`Faults`), older stores have all its bytes (`Forwards`), its lines are
-- looked up, and what is prefetched with them (`Looks`), or too few registers are free (`Waits`).

-- the request of a line: it comes from the second level where that has the line, else from memory
abbrev pub request : Desc → Around → ℕ → Request
request d now line = record { line = line; from_memory = not (second_has d now.second line) }

-- what a line that the cache lacks comes to: it joins the miss register that waits for it, if one does, else it takes
-- one
abbrev pub line_on_miss : Desc → Around → ℕ → Option Miss → Line
line_on_miss d now line (Some m) = Joins line m.due
line_on_miss d now line None = Takes (request d now line)

-- what a line that is looked up comes to: a hit where the cache has it, else by the miss register that waits for it, if
-- one does. All lines of an access are looked up on the state before it, and in turn they come to the same
-- (`lines_go_in_turn` of machine_facts)
abbrev pub look_up : Desc → Around → ℕ → Line
look_up d now line =
    if has_line d now.cache line then Hits line else line_on_miss d now line (find (λ m. m.line == line) now.misses)

-- what the lines of an access of n bytes come to
abbrev pub looked_up : Desc → Around → ℕ → ℕ → Lines
looked_up d now a n = record { lower = look_up d now (line_of d a); upper = option_map (look_up d now) (upper_line d a n) }

-- the lines of an access as a list, the lower first
abbrev pub in_order : Lines → List Line
in_order found = found.lower ∷ option_to_list found.upper

-- the line, if it takes a miss register
abbrev pub request_by : Line → Option Request
request_by (Takes r) = Some r
request_by _ = None

-- the lines of a load that take miss registers, the lower first
abbrev pub requests : Lines → List Request
requests found = option_to_list (request_by found.lower) ++ option_to_list (option_and_then request_by found.upper)

-- the line that was looked up
abbrev pub line_at : Line → ℕ
line_at (Hits line) = line
line_at (Joins line due) = line
line_at (Takes r) = r.line

-- the line behind the last of a load's lines
abbrev pub line_behind : Desc → Lines → ℕ
line_behind d found = line_at (unwrap_or found.upper found.lower) + d.cache_line

-- the line behind a load's is looked up as well: the load takes a register, the line begins in memory, and a register
-- is left
abbrev pub prefetches : Desc → Around → Lines → Bool
prefetches d now found =
    has_prefetch d
    && nat_lt 0 (length (requests found))
    && nat_lt (line_behind d found) (now.ram.base + length now.ram.bytes)
    && nat_lt (length now.misses + length (requests found)) d.cache_mshrs

-- the request of the line behind a load's, where that is prefetched; none where the cache has it or a register waits
-- for it
abbrev pub prefetch_request : Desc → Around → Lines → Option Request
prefetch_request d now found = if prefetches d now found then request_by (look_up d now (line_behind d found)) else None

-- where there are too few registers for a load's lines, none is looked up
abbrev pub unless_lacking : Desc → Around → Lines → Access
unless_lacking d now found =
    if nat_le (length now.misses + length (requests found)) d.cache_mshrs then Looks found (prefetch_request d now found) else Waits

-- an access of n bytes without fault: wholly forwarded, else what becomes of its lines
abbrev pub unless_forwarded : Desc → Around → Bool → ℕ → ℕ → Access
unless_forwarded d now forwarded a n = if forwarded then Forwards else unless_lacking d now (looked_up d now a n)

-- what an access comes to: a fault where there is one, else forwarded where older stores cover all and none has a
-- tainted address, else its lines
abbrev pub access_at : Desc → Around → List Entry → ℕ → ℕ → Option Cause → Access
access_at d now before a n (Some cause) = Faults cause
access_at d now before a n None =
    unless_forwarded d now (all_covered before a n && not (any_store_hidden d.stt_model before)) a n

-- what an access of n bytes at an address comes to
abbrev pub access : Desc → Around → List Entry → ℕ → ℕ → Access
access d now before a n = access_at d now before a n (load_fault now.ram a n)

-- ---- when it is done, and its events

-- where a line that takes a miss register comes from: memory or the second level
abbrev pub source_of : Request → Look
source_of r = if r.from_memory then look.Miss else look.Second

-- where a line that was looked up was found
abbrev pub look_at : Line → Look
look_at (Hits line) = look.Hit
look_at (Joins line due) = look.Join
look_at (Takes r) = source_of r

-- the cycles that a line takes from memory or from the second level
abbrev pub latency_of : Desc → Request → ℕ
latency_of d r = if r.from_memory then d.cache_miss_latency else d.cache_second_latency

-- the miss register that a line takes in this cycle
abbrev pub register : Desc → ℕ → Request → Miss
register d cycle r = record { line = r.line; due = cycle + latency_of d r; from_memory = r.from_memory }

-- the cycle in which a line that was looked up is there
abbrev pub due_of : Desc → Around → Line → ℕ
due_of d now (Hits line) = now.cycle + d.cache_hit_latency
due_of d now (Joins line due) = due
due_of d now (Takes r) = (register d now.cycle r).due

-- the later of a cycle and another, if there is another
abbrev pub later : ℕ → Option ℕ → ℕ
later due None = due
later due (Some other) = max due other

-- the cycle in which all lines of a load are there
abbrev pub due_by : Desc → Around → Lines → ℕ
due_by d now found = later (due_of d now found.lower) (option_map (due_of d now) found.upper)

-- the events of a load of this serial: one for each of its lines, and one for the line that is prefetched
abbrev pub look_events : ℕ → Lines → Option Request → List Event
look_events serial found ahead =
    map (λ l. event.Ld serial (line_at l) (look_at l)) (in_order found) ++ map (λ r. event.Pf r.line (source_of r)) (option_to_list ahead)

-- ---- what a load's access leaves

-- the lines that take miss registers, the one that is prefetched last
abbrev pub all_requests : Lines → Option Request → List Request
all_requests found ahead = requests found ++ option_to_list ahead

-- the cache after an access: each line of the load moves to the front of its set, where the cache has it
abbrev pub cache_after : Access → Desc → List (List ℕ) → List (List ℕ)
cache_after (Looks found ahead) d cache = fold (with_line_touched d) cache (map line_at (in_order found))
cache_after _ d cache = cache

-- the second level after an access: each line that takes a miss register moves to the front of its set, where the
-- second level has it
abbrev pub second_after : Access → Desc → List (List ℕ) → List (List ℕ)
second_after (Looks found ahead) d second = fold (second_touched d) second (map (λ r. r.line) (all_requests found ahead))
second_after _ d second = second

-- the miss registers after an access: a new one for each line that takes one, behind those that were taken before
abbrev pub misses_after : Access → Desc → ℕ → List Miss → List Miss
misses_after (Looks found ahead) d cycle misses = misses ++ map (register d cycle) (all_requests found ahead)
misses_after _ d cycle misses = misses
