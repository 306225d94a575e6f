-- What the one load and the one division of a cycle leave of what all entries share (docs/machine.md, "Issue").
use Rattle.std.specs.Prelude.{ℕ, List, [], Option, None, Some}
use Rattle.machine_desc.specs.declared.Desc.{Desc}
use Rattle.window_model.specs.declared.Divider.{Divider}
use Rattle.window_model.specs.declared.Miss.{Miss}
use Rattle.window_model.specs.declared.lookup.Request.{Request}
use Rattle.window_model.specs.declared.lookup.Access.{Access}
use Rattle.window_model.specs.declared.lookup.Access.TheVariants.{Looks}
use Rattle.window_model.specs.Access.{all_requests, cache_after, misses_after, second_after}

-- the cache after the load's access, if a load was tried
abbrev pub cache_left : Desc → Option Access → List (List ℕ) → List (List ℕ)
cache_left d None cache = cache
cache_left d (Some a) cache = cache_after a d cache

-- the second level of the cache after the load's access, if a load was tried
abbrev pub second_left : Desc → Option Access → List (List ℕ) → List (List ℕ)
second_left d None second = second
second_left d (Some a) second = second_after a d second

-- the registers after the load's access, if a load was tried
abbrev pub misses_left : Desc → ℕ → Option Access → List Miss → List Miss
misses_left d cycle None misses = misses
misses_left d cycle (Some a) misses = misses_after a d cycle misses

-- the divider after the division, if one began
abbrev pub divider_left : Option Divider → Divider → Divider
divider_left None v = v
divider_left (Some taken) v = taken

-- the lines that take registers with the load that was tried
abbrev pub requests_of_load : Option Access → List Request
requests_of_load (Some (Looks found ahead)) = all_requests found ahead
requests_of_load _ = []
