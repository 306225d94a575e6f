-- What a sink in memory holds, and what a put leaves.
use Rattle.std.specs.Prelude.{◌<◌, ◌⊎◌, ℕ, ◌^◌, ◌-◌, ◌+◌, ◌==◌, ◌&&◌, min, nat_le, List, ◌++◌, length, take, Option, Bool, is_none, IsSome, if◌then◌else◌, option_map, find, unwrap_or}
use Rattle.tool_io.specs.declared.mem_sink.MemFail.{MemFail}

-- what a sink in memory holds: what was written, how much it may hold, the puts that are to fail, the number of puts so
-- far, and how many of them failed
pub record SinkState : Type 0 where
  pub bytes : List ℕ
  pub room : ℕ
  pub fails : List MemFail
  pub calls : ℕ
  pub count : ℕ

-- how many bytes go out before the fault of this call, where it is listed
abbrev pub sent_at : ℕ → List MemFail → Option ℕ
sent_at call fails = option_map (λ f. f.sent) (find (λ f. f.call == call) fails)

-- a count with one more, as far as 64 bits go
abbrev pub one_more : ℕ → ℕ
one_more n = min (n + 1) (2 ^ 64 - 1)

-- the next put of this piece fails
abbrev pub IsSinkFault : SinkState → List ℕ → Type 0
IsSinkFault s piece = IsSome (sent_at (one_more s.calls) s.fails) ⊎ (s.room - length s.bytes < length piece)

-- how many bytes the next put of this piece lets out
abbrev pub sent_by : SinkState → List ℕ → ℕ
sent_by s piece = min (min (unwrap_or (sent_at (one_more s.calls) s.fails) (length piece)) (length piece)) (s.room - length s.bytes)

-- the next put takes the whole piece
abbrev pub takes_all : SinkState → List ℕ → Bool
takes_all s piece = is_none (sent_at (one_more s.calls) s.fails) && nat_le (length piece) (s.room - length s.bytes)

-- what the sink holds after the next put of this piece
abbrev pub sink_after : SinkState → List ℕ → SinkState
sink_after s piece = record s {
  bytes = s.bytes ++ take (sent_by s piece) piece;
  calls = one_more s.calls;
  count = if takes_all s piece then s.count else one_more s.count;
}
