-- A load's access, told line by line: the lower line, the upper one, and the line that is prefetched, each on what the
-- one before left (docs/theorems.md, "What every state keeps").
use Rattle.std.specs.Prelude.{◌≡◌, ◌≢◌, ℕ, ◌+◌, ◌<◌, ◌&&◌, nat_le, nat_lt, if◌then◌else◌, ◌++◌, length, map, Option, None, Some}
use Rattle.std.specs.List.{fold}
use Rattle.std.specs.Option.{option_map, option_to_list}
use Rattle.machine_desc.specs.declared.Desc.{Desc}
use Rattle.machine_desc.specs.Questions.{has_prefetch}
use Rattle.window_model.specs.State.{line_of, upper_line}
use Rattle.window_model.specs.Around.{Around}
use Rattle.window_model.specs.SecondLevel.{second_touched}
use Rattle.window_model.specs.Retire.{with_line_touched}
use Rattle.window_model.specs.declared.lookup.Line.{Line}
use Rattle.window_model.specs.declared.lookup.Lines.{Lines}
use Rattle.window_model.specs.declared.lookup.Request.{Request}
use Rattle.window_model.specs.declared.lookup.Access.{Access}
use Rattle.window_model.specs.declared.lookup.Access.TheVariants.{Looks, Waits}
use Rattle.window_model.specs.Access.{look_up, looked_up, line_at, request_by, requests, line_behind, unless_lacking, register, cache_after, second_after, misses_after}

-- what is left once a line has taken a miss register, if one is to: the line moves to the front of its set of the
-- second level, where that has it
abbrev pub left_taking : Desc → Option Request → Around → Around
left_taking d asked now = record now {
  second = fold (second_touched d) now.second (map (λ r. r.line) (option_to_list asked));
  misses = now.misses ++ map (register d now.cycle) (option_to_list asked);
}

-- what a line that was looked up leaves: it moves to the front of its set, where the cache has it, and takes a miss
-- register, where it is to take one
abbrev pub left_by : Desc → Line → Around → Around
left_by d l now = record (left_taking d (request_by l) now) { cache = with_line_touched d now.cache (line_at l) }

-- what the upper line leaves, if there is one
abbrev pub left_above : Desc → Option Line → Around → Around
left_above d None now = now
left_above d (Some l) now = left_by d l now

-- what the lines of an access come to, and what is left behind the last
pub record InTurn : Type 0 where
  pub found : Lines
  pub left : Around

-- the lower line is looked up, and then the upper, if there is one, on what the lower left
abbrev pub in_turn : Desc → Around → ℕ → Option ℕ → InTurn
in_turn d now low up =
    let lower = look_up d now low in
    let left = left_by d lower now in
    let upper = option_map (look_up d left) up in
    record { found = record { lower = lower; upper = upper }; left = left_above d upper left }

-- what is prefetched, looked up on what a load's lines left: the load takes a register, the line behind its own begins
-- in memory, and a register is left
abbrev pub ahead_of : Desc → InTurn → Option Request
ahead_of d t =
    if has_prefetch d
    && nat_lt 0 (length (requests t.found))
    && nat_lt (line_behind d t.found) (t.left.ram.base + length t.left.ram.bytes)
    && nat_lt (length t.left.misses) d.cache_mshrs
    then request_by (look_up d t.left (line_behind d t.found)) else None

-- what lines come to in turn, and what is prefetched behind them; a load whose lines took more registers than there are
-- waits, and nothing is left of it
abbrev pub access_in_turn : Desc → Around → ℕ → Option ℕ → Access
access_in_turn d now low up =
    let t = in_turn d now low up in
    if nat_le (length t.left.misses) d.cache_mshrs then Looks t.found (ahead_of d t) else Waits

-- both levels of the cache and the miss registers behind an access are those of this state
abbrev pub Leaves : Desc → Around → Access → Around → Type 0
Leaves d now access left =
    (cache_after access d now.cache ≡ left.cache)
    × (second_after access d now.second ≡ left.second)
    × (misses_after access d now.cycle now.misses ≡ left.misses)

-- looking a line up isn't changed by what the access of another line leaves
abbrev pub OthersStay : Type 0
OthersStay = (d : Desc) (now : Around) (line other : ℕ) → line ≢ other →
    look_up d (left_by d (look_up d now line) now) other ≡ look_up d now other

-- what the lines of an access come to when all are looked up at once is what they come to in turn
abbrev pub AccessesGoInTurn : Type 0
AccessesGoInTurn = (d : Desc) (now : Around) (a n : ℕ) → 0 < n →
    unless_lacking d now (looked_up d now a n) ≡ access_in_turn d now (line_of d a) (upper_line d a n)

-- an access leaves what its lines leave in turn, and then what is prefetched
abbrev pub AccessesLeaveInTurn : Type 0
AccessesLeaveInTurn = (d : Desc) (now : Around) (low : ℕ) (up : Option ℕ) →
    let t = in_turn d now low up in
    Leaves d now (Looks t.found (ahead_of d t)) (left_taking d (ahead_of d t) t.left)
