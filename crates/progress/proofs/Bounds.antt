-- The measure is at least 1 and at most the bound, and the wait for a miss register gets shorter.
use Rattle.std.proofs.Common.{ℕ, ◌+◌, ◌-◌, ◌≤◌, ◌<◌, max, Bool, true, false, cond, List, [], ◌∷◌, length, arith}
use Rattle.std.specs.List.{filter, AllByRecursion as Each}
use Rattle.rv_types.specs.declared.Kind.{Kind}
use Rattle.rv_types.specs.declared.Kind.TheVariants.{Div, Load}
use Rattle.machine_desc.specs.declared.Desc.{Desc}
use Rattle.machine_desc.specs.Ranges.{IsDesc, bound}
use Rattle.window_model.specs.declared.Entry.{Entry}
use Rattle.window_model.specs.declared.Item.{Item}
use Rattle.window_model.specs.declared.Miss.{Miss}
use Rattle.window_model.specs.declared.Progress.{Progress}
use Rattle.window_model.specs.declared.Progress.TheVariants.{Waiting, Busy, Done}
use Rattle.window_model.specs.State.{Machine}
use Rattle.machine_facts.specs.Timely.{Timely, DueSoon, IsDue, IsPending, latency, longest_division}
use Rattle.progress.specs.Measure.{last_due, takes, until_renamed, time_left, measure}

-- ---- the cycle in which the last register is freed

last_at_most : (d : Desc) (past cycle : ℕ) (ms : List Miss) → Each (IsPending d past cycle) ms → last_due ms ≤ cycle + d.cache_miss_latency
last_at_most d past cycle [] p = omega arith
last_at_most d past cycle (m ∷ ms) p = let l = last_at_most d past cycle ms p.1 in let g = p.0.1 in omega arith

last_later : (d : Desc) (past cycle : ℕ) (ms : List Miss) → 1 ≤ length ms → Each (IsPending d past cycle) ms → past < last_due ms
last_later d past cycle [] h p = absurd (omega arith)
last_later d past cycle (m ∷ ms) h p = let g = p.0.0 in omega arith

last_kept : (t : Bool) (m : Miss) (l : ℕ) (ms : List Miss) → last_due ms ≤ l → last_due (cond t (m ∷ ms) ms) ≤ max m.due l
last_kept true m l ms h = omega arith
last_kept false m l ms h = omega arith

-- the cycle in which the last register is freed is no later once lines have come
last_falls : (t : Miss → Bool) (ms : List Miss) → last_due (filter t ms) ≤ last_due ms
last_falls t [] = omega arith
last_falls t (m ∷ ms) = last_kept (t m) m (last_due ms) (filter t ms) (last_falls t ms)

-- while a line is still to come, the wait gets shorter
pub register_nearer : (d : Desc) (before : ℕ) (t : Miss → Bool) (old : List Miss) → 1 ≤ length (filter t old) → Each (IsPending d (before + 1) (before + 1)) (filter t old) →
    max 1 (last_due (filter t old) - (before + 1)) < max 1 (last_due old - before)
register_nearer d before t old l p =
    let later = last_later d (before + 1) (before + 1) (filter t old) l p in
    let falls = last_falls t old in
    omega arith

-- ---- how long an entry takes

module _ (d : Desc) (cycle : ℕ) (misses : List Miss) (free_from : ℕ) where
  -- a waiting entry takes at most the bound less two cycles: one is left to be fetched, one to be renamed
  pub waiting_at_most : (k : Kind) → 1 ≤ d.cache_miss_latency → Each (IsPending d cycle cycle) misses → free_from ≤ cycle + longest_division → takes Waiting k d cycle misses free_from + 2 ≤ bound d
  waiting_at_most Load l p h = let w = last_at_most d cycle cycle misses p in omega arith
  waiting_at_most Div l p h = omega arith
  waiting_at_most _ l p h = omega arith

  waiting_at_least : (k : Kind) → 1 ≤ takes Waiting k d cycle misses free_from
  waiting_at_least Load = omega arith
  waiting_at_least _ = omega arith

  latency_in_bound : (k : Kind) → latency k d ≤ bound d
  latency_in_bound Load = omega arith
  latency_in_bound _ = omega arith

  takes_at_most : (s : Progress) (k : Kind) → 1 ≤ d.cache_miss_latency → Each (IsPending d cycle cycle) misses → free_from ≤ cycle + longest_division → DueSoon cycle cycle (latency k d) s → takes s k d cycle misses free_from ≤ bound d
  takes_at_most Done k l p h s = omega arith
  takes_at_most (Busy due) k l p h s = let n = s.1 in let w = latency_in_bound k in omega arith
  takes_at_most Waiting k l p h s = let w = waiting_at_most k l p h in omega arith

  takes_at_least : (s : Progress) (k : Kind) → DueSoon cycle cycle (latency k d) s → 1 ≤ takes s k d cycle misses free_from
  takes_at_least Done k s = omega arith
  takes_at_least (Busy due) k s = let n = s.0 in omega arith
  takes_at_least Waiting k s = waiting_at_least k

  renamed_at_most : (queue : List Item) → until_renamed d queue ≤ bound d
  renamed_at_most [] = omega arith
  renamed_at_most (i ∷ is) = omega arith

  renamed_at_least : (queue : List Item) → 1 ≤ until_renamed d queue
  renamed_at_least [] = omega arith
  renamed_at_least (i ∷ is) = omega arith

  left_at_most : (queue : List Item) (w : List Entry) → 1 ≤ d.cache_miss_latency → Each (IsPending d cycle cycle) misses → free_from ≤ cycle + longest_division → Each (IsDue d cycle cycle) w → time_left d cycle misses free_from queue w ≤ bound d
  left_at_most queue [] l p h s = renamed_at_most queue
  left_at_most queue (e ∷ es) l p h s = takes_at_most e.state e.item.kind l p h s.0

  left_at_least : (queue : List Item) (w : List Entry) → Each (IsDue d cycle cycle) w → 1 ≤ time_left d cycle misses free_from queue w
  left_at_least queue [] s = renamed_at_least queue
  left_at_least queue (e ∷ es) s = takes_at_least e.state e.item.kind s.0

pub miss_takes_time : (d : Desc) → IsDesc d → 1 ≤ d.cache_miss_latency
miss_takes_time d i = omega (arith, i.miss_latency.0.0)

pub measure_at_most : (d : Desc) (x : Machine) → IsDesc d → Timely d x → measure d x ≤ bound d
measure_at_most d x i h = left_at_most d x.cycle x.misses x.divider.free_from x.queue x.window (miss_takes_time d i) h.misses h.divider h.dues

pub measure_at_least : (d : Desc) (x : Machine) → Timely d x → 1 ≤ measure d x
measure_at_least d x h = left_at_least d x.cycle x.misses x.divider.free_from x.queue x.window h.dues
