-- What is under way ends soon: as the cycle goes on, as lines arrive and entries become done, and as entries begin.
use Rattle.std.proofs.Common.{◌≡◌, ◌≢◌, ◌⊎◌, inl, inr, ℕ, suc, ◌+◌, ◌<◌, ◌≤◌, Bool, true, false, not, cond, List, [], ◌∷◌, ◌++◌, length, Option, Some, None, refl, sym, subst, arith}
use Rattle.std.proofs.lemmas.Bool.Decides.{nat_tests}
use Rattle.std.specs.Prelude.{if◌then◌else◌, ◌==◌, map}
use Rattle.std.specs.Option.{option_map}
use Rattle.std.specs.List.{filter, find, AllByRecursion as Each}
use Rattle.rv_types.specs.Isa.{Effect}
use Rattle.rv_types.specs.declared.Kind.{Kind}
use Rattle.rv_types.specs.declared.Kind.TheVariants.{Mul, Div, Load, Store}
use Rattle.machine_desc.specs.declared.Desc.{Desc}
use Rattle.machine_desc.specs.Ranges.{IsDesc}
use Rattle.machine_desc.proofs.EveryDesc.{none_or_between}
use Rattle.window_model.specs.declared.Entry.{Entry}
use Rattle.window_model.specs.declared.Item.{Item}
use Rattle.window_model.specs.declared.Miss.{Miss}
use Rattle.window_model.specs.declared.Progress.{Progress}
use Rattle.window_model.specs.declared.Progress.TheVariants.{Waiting, Busy, Done}
use Rattle.window_model.specs.State.{Machine, line_of, upper_line}
use Rattle.window_model.specs.Order.{Place, each_from, is_store}
use Rattle.window_model.specs.Fill.{is_due, after_completion, completes, completes_at}
use Rattle.window_model.specs.Around.{Around}
use Rattle.window_model.specs.declared.lookup.Request.{Request}
use Rattle.window_model.specs.declared.lookup.Access.{Access}
use Rattle.window_model.specs.declared.lookup.Access.TheVariants.{Faults, Forwards, Looks, Waits}
use Rattle.window_model.specs.Access.{all_requests, due_by, due_of, latency_of, look_up, looked_up, misses_after, prefetch_request, register, request}
use Rattle.window_model.specs.SecondLevel.{second_has}
use Rattle.window_model.specs.MayIssue.{effect_of}
use Rattle.window_model.specs.Issue.{Begun, issue_entry, begin_as, busy_until_both, load_as, with_address, access_of, time_of, divider_after}
use Rattle.window_model.specs.Rename.{entry_of_item, at_once}
use Rattle.window_model.proofs.Lists.{each_then, each_map, each_join, each_filter, OfSome, find_each}
use Rattle.window_model.proofs.Issuing.{Comes, Remains, Begins, by_issue, begin_comes, begin_goes, gone_parts, by_line, by_load}
use Rattle.machine_facts.proofs.Requests.{AllFresh, all_fresh}
use Rattle.machine_facts.specs.Laws.{OneDivisionIsLongest}
use Rattle.machine_facts.specs.Timely.{IsSoon, DueSoon, IsDue, PartDue, PartsDue, IsPending, StaysCleared, Apart, latency, longest_division}

-- ---- the cycle goes on

due_later : (past cycle longest : ℕ) (t : Progress) → DueSoon past cycle longest t → DueSoon past (cycle + 1) longest t
due_later past cycle longest (Busy due) h = (h.0, omega (arith, h.1))
due_later past cycle longest Waiting h = tt
due_later past cycle longest Done h = tt

-- a busy entry that becomes Done soon does so in the next cycle, too
pub dues_later : (d : Desc) (past cycle : ℕ) (w : List Entry) → Each (IsDue d past cycle) w → Each (IsDue d past (cycle + 1)) w
dues_later d past cycle w h = each_then (IsDue d past cycle) (IsDue d past (cycle + 1)) (λ e. due_later past cycle (latency e.item.kind d) e.state) w h

-- a miss that ends soon does so in the next cycle, too
pub misses_later : (d : Desc) (past cycle : ℕ) (ms : List Miss) → Each (IsPending d past cycle) ms → Each (IsPending d past (cycle + 1)) ms
misses_later d past cycle ms h = each_then (IsPending d past cycle) (IsPending d past (cycle + 1)) (λ m s. (s.0, omega (arith, s.1))) ms h

-- ---- what was due in this cycle is gone

not_this : (past cycle due : ℕ) → (due == cycle) ≡ false → cycle ≡ past + 1 → past < due → cycle < due
not_this past cycle due h q lt = let n : due ≢ cycle = grind (arith, nat_tests) in omega (arith, q, lt, n)

left_miss : (d : Desc) (past cycle : ℕ) (m : Miss) (ms : List Miss) (b : Bool) → is_due cycle m ≡ b → cycle ≡ past + 1 → IsPending d past cycle m → Each (IsPending d cycle cycle) ms → Each (IsPending d cycle cycle) (if not b then m ∷ ms else ms)
left_miss d past cycle m ms true h q s k = k
left_miss d past cycle m ms false h q s k = ((not_this past cycle m.due h q s.0, s.1), k)

-- the misses that are left once those of this cycle have ended end in a later one
pub misses_left : (d : Desc) (past cycle : ℕ) (ms : List Miss) → cycle ≡ past + 1 → Each (IsPending d past cycle) ms → Each (IsPending d cycle cycle) (filter (λ m. not (is_due cycle m)) ms)
misses_left d past cycle [] q h = tt
misses_left d past cycle (m ∷ ms) q h = left_miss d past cycle m _ (is_due cycle m) refl q h.0 (misses_left d past cycle ms q h.1)

left_due : (d : Desc) (past cycle longest : ℕ) (t : Progress) → completes_at cycle t ≡ false → cycle ≡ past + 1 → DueSoon past cycle longest t → DueSoon cycle cycle longest t
left_due d past cycle longest (Busy due) h q s = (not_this past cycle due h q s.0, s.1)
left_due d past cycle longest Waiting h q s = tt
left_due d past cycle longest Done h q s = tt

completed_due : (d : Desc) (past cycle : ℕ) → cycle ≡ past + 1 → (e : Entry) → IsDue d past cycle e → IsDue d cycle cycle (after_completion cycle e)
completed_due d past cycle q e h = by_due (completes cycle e) refl
  where
    by_due : (b : Bool) → completes cycle e ≡ b → IsDue d cycle cycle (if b then record e { state = Done } else e)
    by_due true k = tt
    by_due false k = left_due d past cycle (latency e.item.kind d) e.state k q h

-- the entries that are busy once those due in this cycle are Done become Done in a later one
pub dues_left : (d : Desc) (past cycle : ℕ) (w : List Entry) → cycle ≡ past + 1 → Each (IsDue d past cycle) w → Each (IsDue d cycle cycle) (map (after_completion cycle) w)
dues_left d past cycle w q h = each_map (IsDue d cycle cycle) (after_completion cycle) w (each_then (IsDue d past cycle) (λ e. IsDue d cycle cycle (after_completion cycle e)) (completed_due d past cycle q) w h)

-- ---- entries that begin end soon

-- a division takes 3 to 35 cycles
time_in : (regs : List ℕ) (b : List Entry) (e : Entry) → (0 < time_of regs b e) × (time_of regs b e ≤ longest_division)
time_in regs b e = (omega arith, omega arith)

-- no division takes longer than the longest, and one takes as long
pub one_is_longest : OneDivisionIsLongest
unfolding lib.Count.count_leading_zeros
one_is_longest = (λ op a. omega arith, refl)

-- what holds of a miss register, if one is found, holds of the one that is
of_found : (d : Desc) (now : Around) (o : Option Miss) (m : Miss) → o ≡ Some m → OfSome (IsPending d now.cycle now.cycle) o → IsPending d now.cycle now.cycle m
of_found d now o m q h = subst (OfSome (IsPending d now.cycle now.cycle)) q h

-- a level without sets has no line
no_sets : (d : Desc) (second : List (List ℕ)) (line : ℕ) → length second ≡ 0 → second_has d second line ≡ false
no_sets d [] line h = refl
no_sets d (s ∷ second) line h = absurd (omega (arith, h))

-- a line that takes a register comes within the latency of a miss, from either level
latency_soon : (d : Desc) (now : Around) → IsDesc d → length now.second ≡ d.cache_second_sets → (line : ℕ) →
    let r = request d now line in (0 < latency_of d r) × (latency_of d r ≤ d.cache_miss_latency)
latency_soon d now i sets line = by_level (second_has d now.second line) refl
  where
    between : (d.cache_second_sets ≡ 0) ⊎ (d.cache_hit_latency < d.cache_second_latency) × (d.cache_second_latency < d.cache_miss_latency) → second_has d now.second line ≡ true →
        (0 < d.cache_second_latency) × (d.cache_second_latency ≤ d.cache_miss_latency)
    between (inl none) h = let n = no_sets d now.second line (omega (arith, sets, none)) in absurd (cc)
    between (inr p) h = (omega (arith, p.0), omega (arith, p.1))

    by_level : (b : Bool) → second_has d now.second line ≡ b → let t = (if not b then d.cache_miss_latency else d.cache_second_latency) in (0 < t) × (t ≤ d.cache_miss_latency)
    by_level false h = (omega (arith, i.miss_latency.0.0), omega arith)
    by_level true h = between (none_or_between d.cache_second_sets d.cache_hit_latency d.cache_second_latency d.cache_miss_latency i.second_latency.1) h

register_soon : (d : Desc) (now : Around) → IsDesc d → length now.second ≡ d.cache_second_sets → (line : ℕ) → IsPending d now.cycle now.cycle (register d now.cycle (request d now line))
register_soon d now i sets line = let l = latency_soon d now i sets line in (omega (arith, l.0), omega (arith, l.1))

-- the lines that an access looks up come soon, if it looks up any
abbrev pub LooksSoon : Desc → Around → Access → Type 0
LooksSoon d now (Looks found ahead) = IsSoon now.cycle now.cycle d.cache_miss_latency (due_by d now found)
LooksSoon d now _ = Unit {0}

module _ (d : Desc) (now : Around) (i : IsDesc d) (sets : length now.second ≡ d.cache_second_sets) (h : Each (IsPending d now.cycle now.cycle) now.misses) where
  abbrev Soon : ℕ → Type 0
  Soon due = IsSoon now.cycle now.cycle d.cache_miss_latency due

  line_soon : (line : ℕ) → Soon (due_of d now (look_up d now line))
  line_soon line =
      by_line d now line (λ l. Soon (due_of d now l)) (λ q. (omega (arith, i.hit_latency.0), omega (arith, i.miss_latency.1)))
      (λ m q. of_found d now _ m q (find_each (IsPending d now.cycle now.cycle) (λ m. m.line == line) now.misses h)) (λ q. register_soon d now i sets line)

  -- one line or the later of two comes soon
  lines_soon : (low : ℕ) (up : Option ℕ) → Soon (due_by d now (record { lower = look_up d now low; upper = option_map (look_up d now) up }))
  lines_soon low None = line_soon low
  lines_soon low (Some high) = let p = line_soon low in let q = line_soon high in (omega (arith, p.0, q.0), omega (arith, p.1, q.1))

  -- the lines that an entry's access looks up come soon, if it looks up any
  pub looks_soon : (b : List Entry) (e : Entry) → LooksSoon d now (access_of d now b e)
  looks_soon = by_load d now (LooksSoon d now) tt (λ a n some room. lines_soon (line_of d a) (upper_line d a n)) (λ a n some r. tt) (λ c. tt)

module _ (d : Desc) (now : Around) (i : IsDesc d) (sets : length now.second ≡ d.cache_second_sets) where
  abbrev BusySoon : Kind → Progress → Type 0
  BusySoon k t = DueSoon now.cycle now.cycle (latency k d) t

  load_soon : (a : Access) (e : Entry) (f : Effect) (v : ℕ) → LooksSoon d now a → BusySoon Load e.state → BusySoon Load (load_as a d now e f v).entry.state
  load_soon (Faults c) e f v h k = (omega arith, omega (arith, i.miss_latency.0.0))
  load_soon Forwards e f v h k = (omega arith, omega (arith, i.miss_latency.0.0))
  load_soon (Looks found ahead) e f v h k = h
  load_soon Waits e f v h k = k

  begin_soon : (k : Kind) (b : List Entry) (e : Entry) → LooksSoon d now (access_of d now b e) → BusySoon k e.state → BusySoon k (begin_as k d now b e).entry.state
  begin_soon Load b e j h = load_soon (access_of d now b e) e _ _ j h
  begin_soon Mul b e j h = (omega (arith, i.mul_latency.0), omega arith)
  begin_soon Div b e j h = let n = time_in now.regs b e in (omega (arith, n.0), omega (arith, n.1))
  begin_soon _ b e j h = (omega arith, omega arith)

  -- a store is busy for one cycle
  one_cycle : (k : Kind) → is_store k ≡ true → latency k d ≡ 1
  one_cycle Store h = refl
  one_cycle _ h = absurd (cc)

  -- a store that has its second part is busy until the next cycle at the latest
  address_soon : (n longest : ℕ) (c : Option ℕ) (t : Progress) → longest ≡ 1 → PartDue n c → DueSoon n n longest t → DueSoon n n longest (busy_until_both (Some (n + 1)) c t)
  address_soon n longest None t q u h = h
  address_soon n longest (Some m) t q u h = (omega arith, omega (arith, q, u))

  data_soon : (n longest : ℕ) (a : Option ℕ) (t : Progress) → longest ≡ 1 → PartDue n a → DueSoon n n longest t → DueSoon n n longest (busy_until_both a (Some (n + 1)) t)
  data_soon n longest None t q u h = h
  data_soon n longest (Some m) t q u h = (omega arith, omega (arith, q, u))

  gone_soon : (b : List Entry) (e : Entry) (a c : Bool) → latency e.item.kind d ≡ 1 → PartsDue now.cycle e → IsDue d now.cycle now.cycle e → IsDue d now.cycle now.cycle (gone_parts now b a c e)
  gone_soon b e true true q u h =
      let r = with_address now (effect_of now.regs b e) e in
      data_soon now.cycle (latency e.item.kind d) (Some (now.cycle + 1)) r.state q (omega arith) (address_soon now.cycle (latency e.item.kind d) e.data_due e.state q u.1 h)
  gone_soon b e true false q u h = address_soon now.cycle (latency e.item.kind d) e.data_due e.state q u.1 h
  gone_soon b e false true q u h = data_soon now.cycle (latency e.item.kind d) e.addr_due e.state q u.0 h
  gone_soon b e false false q u h = h

  issue_soon : Each (IsPending d now.cycle now.cycle) now.misses → (b : List Entry) (e : Entry) → PartsDue now.cycle e → IsDue d now.cycle now.cycle e → IsDue d now.cycle now.cycle (issue_entry d now b e).entry
  issue_soon p b e u h = by_issue d now b e (IsDue d now.cycle now.cycle) h (λ s m.
      let r = (begin_as e.item.kind d now b e).entry in
      subst (λ (j : Item). DueSoon now.cycle now.cycle (latency j.kind d) r.state) (sym (begin_goes e.item.kind d now b e).item) (begin_soon e.item.kind b e (looks_soon d now i sets p b e) h)) (λ s a c g k. gone_soon b e a c (one_cycle e.item.kind s) u h)

  pub dues_issued : Each (IsPending d now.cycle now.cycle) now.misses → (b es : List Entry) → Each (PartsDue now.cycle) es → Each (IsDue d now.cycle now.cycle) es → Each (IsDue d now.cycle now.cycle) (map (λ (t : Begun). t.entry) (each_from (issue_entry d now) b es))
  dues_issued p b [] u h = tt
  dues_issued p b (e ∷ es) u h = (issue_soon p b e u.0 h.0, dues_issued p (e ∷ b) es u.1 h.1)

-- ---- parts that have issued

part_later : (cycle : ℕ) (o : Option ℕ) → PartDue cycle o → PartDue (cycle + 1) o
part_later cycle None h = tt
part_later cycle (Some due) h = omega (arith, h)

-- a part that is known in the next cycle at the latest is so a cycle later, too
pub parts_later : (cycle : ℕ) (w : List Entry) → Each (PartsDue cycle) w → Each (PartsDue (cycle + 1)) w
parts_later cycle = each_then (PartsDue cycle) (PartsDue (cycle + 1)) (λ e h. (part_later cycle e.addr_due h.0, part_later cycle e.data_due h.1))

completed_parts : (past cycle : ℕ) (e : Entry) → PartsDue past e → PartsDue past (after_completion cycle e)
completed_parts past cycle e h = by_due (completes cycle e)
  where
    by_due : (b : Bool) → PartsDue past (if b then record e { state = Done } else e)
    by_due true = h
    by_due false = h

-- an entry that becomes Done keeps when its parts are known
pub parts_left : (past cycle : ℕ) (w : List Entry) → Each (PartsDue past) w → Each (PartsDue past) (map (after_completion cycle) w)
parts_left past cycle w h = each_map (PartsDue past) (after_completion cycle) w (each_then (PartsDue past) (λ e. PartsDue past (after_completion cycle e)) (completed_parts past cycle) w h)

-- what begins has the parts that it had
begun_parts : (n : ℕ) (e r : Entry) → Comes e r → PartsDue n e → PartsDue n r
begun_parts n e r (Remains q) h = subst (PartsDue n) (sym q) h
begun_parts n e r (Begins cycle due o q) h = subst (PartsDue n) (sym q) h

gone_parts_due : (now : Around) (b : List Entry) (e : Entry) (a c : Bool) → PartsDue now.cycle e → PartsDue now.cycle (gone_parts now b a c e)
gone_parts_due now b e true true h = (omega arith, omega arith)
gone_parts_due now b e true false h = (omega arith, h.1)
gone_parts_due now b e false true h = (h.0, omega arith)
gone_parts_due now b e false false h = h

-- a part that Issue begins is known in the next cycle at the latest
pub parts_issued : (d : Desc) (now : Around) (b es : List Entry) → Each (PartsDue now.cycle) es → Each (PartsDue now.cycle) (map (λ (t : Begun). t.entry) (each_from (issue_entry d now) b es))
parts_issued d now b [] h = tt
parts_issued d now b (e ∷ es) h =
    (by_issue d now b e (PartsDue now.cycle) h.0 (λ s m. begun_parts now.cycle e _ (begin_comes e.item.kind d now b e) h.0) (λ s a c g k. gone_parts_due now b e a c h.0), parts_issued d now (e ∷ b) es h.1)

-- ---- what starts cleared is cleared

completed_cleared : (d : Desc) (cycle : ℕ) (e : Entry) → StaysCleared d e → StaysCleared d (after_completion cycle e)
completed_cleared d cycle e h = by_due (completes cycle e)
  where
    by_due : (b : Bool) → StaysCleared d (if b then record e { state = Done } else e)
    by_due true = h
    by_due false = h

-- an entry that becomes Done stays cleared where it needs no clearing
pub cleared_left : (d : Desc) (cycle : ℕ) (w : List Entry) → Each (StaysCleared d) w → Each (StaysCleared d) (map (after_completion cycle) w)
cleared_left d cycle w h = each_map (StaysCleared d) (after_completion cycle) w (each_then (StaysCleared d) (λ e. StaysCleared d (after_completion cycle e)) (completed_cleared d cycle) w h)

-- what issues is cleared where it was
begun_cleared : (d : Desc) (e r : Entry) → Comes e r → StaysCleared d e → StaysCleared d r
begun_cleared d e r (Remains q) h = subst (StaysCleared d) (sym q) h
begun_cleared d e r (Begins cycle due o q) h = subst (StaysCleared d) (sym q) h

gone_cleared : (d : Desc) (now : Around) (b : List Entry) (e : Entry) (a c : Bool) → StaysCleared d e → StaysCleared d (gone_parts now b a c e)
gone_cleared d now b e true true h = h
gone_cleared d now b e true false h = h
gone_cleared d now b e false true h = h
gone_cleared d now b e false false h = h

-- an entry that issues stays cleared where it needs no clearing
pub cleared_issued : (d : Desc) (now : Around) (b es : List Entry) → Each (StaysCleared d) es → Each (StaysCleared d) (map (λ (t : Begun). t.entry) (each_from (issue_entry d now) b es))
cleared_issued d now b [] h = tt
cleared_issued d now b (e ∷ es) h =
    (by_issue d now b e (StaysCleared d) h.0 (λ s m. begun_cleared d e _ (begin_comes e.item.kind d now b e) h.0) (λ s a c g k. gone_cleared d now b e a c h.0), cleared_issued d now (e ∷ b) es h.1)

-- the divider is free within the longest division, whichever division begins
pub divider_soon : (x : Machine) (o : Option Place) → x.divider.free_from ≤ x.cycle + longest_division → (divider_after x o).free_from ≤ x.cycle + longest_division
divider_soon x None h = h
divider_soon x (Some p) h = let n = time_in x.regs p.before p.entry in omega (arith, n.1)

-- ---- new entries end soon

-- a renamed entry isn't busy
pub due_new : (d : Desc) (past cycle serial : ℕ) (i : Item) → IsDue d past cycle (entry_of_item d serial i)
due_new d past cycle serial i = by_kind (at_once i.kind)
  where
    by_kind : (b : Bool) → DueSoon past cycle (latency i.kind d) (if b then Done else Waiting)
    by_kind true = tt
    by_kind false = tt

-- ---- lines of the miss registers

apart_if : (b : Bool) (m : Miss) (ms : List Miss) → Each (λ (n : Miss). m.line ≢ n.line) ms → Apart ms → Apart (cond b (m ∷ ms) ms)
apart_if true m ms p q = (p, q)
apart_if false m ms p q = q

-- the misses that a test leaves have still a register each for a line
pub apart_filter : (t : Miss → Bool) (ms : List Miss) → Apart ms → Apart (filter t ms)
apart_filter t [] h = tt
apart_filter t (m ∷ ms) h = apart_if (t m) m (filter t ms) (each_filter (λ (n : Miss). m.line ≢ n.line) t ms h.0) (apart_filter t ms h.1)

other_if : (m : Miss) (line : ℕ) (b : Bool) (o : Option Miss) → (m.line == line) ≡ b → (if b then Some m else o) ≡ None → (m.line ≢ line) × (o ≡ None)
other_if m line true o h k = absurd (cc)
other_if m line false o h k = (grind (arith, nat_tests), k)

none_found : (ms : List Miss) (line : ℕ) → find (λ m. m.line == line) ms ≡ None → Each (λ (m : Miss). m.line ≢ line) ms
none_found [] line h = tt
none_found (m ∷ ms) line h =
    let o = other_if m line (m.line == line) (find (λ m. m.line == line) ms) refl h in
    (o.0, none_found ms line o.1)

-- no line has two miss registers where more are taken, none of which has the line of one that was
apart_join : (ms ns : List Miss) → Apart ms → Apart ns → Each (λ (n : Miss). Each (λ (m : Miss). m.line ≢ n.line) ms) ns → Apart (ms ++ ns)
apart_join [] ns p q h = q
apart_join (m ∷ ms) ns p q h =
    (each_join (λ (n : Miss). m.line ≢ n.line) ms ns p.0 (each_then _ _ (λ n k. k.0) ns h), apart_join ms ns p.1 q (each_then _ _ (λ n k. k.1) ns h))

-- the miss registers that an access takes: each comes soon, and no line has two
module _ (d : Desc) (now : Around) where
  abbrev taken : List Request → List Miss
  taken rs = map (register d now.cycle) rs

  taken_others : (line low : ℕ) (rs : List Request) → line < low → AllFresh d now low rs → Each (λ (n : Miss). line ≢ n.line) (taken rs)
  taken_others line low [] l h = tt
  taken_others line low (r ∷ rs) l h = (omega (arith, l, h.0), taken_others line (suc r.line) rs (omega (arith, l, h.0)) h.2)

  taken_apart : (low : ℕ) (rs : List Request) → AllFresh d now low rs → Apart (taken rs)
  taken_apart low [] h = tt
  taken_apart low (r ∷ rs) h = (taken_others r.line (suc r.line) rs (omega arith) h.2, taken_apart (suc r.line) rs h.2)

  taken_fresh : (low : ℕ) (rs : List Request) → AllFresh d now low rs → Each (λ (n : Miss). Each (λ (m : Miss). m.line ≢ n.line) now.misses) (taken rs)
  taken_fresh low [] h = tt
  taken_fresh low (r ∷ rs) h = (none_found now.misses r.line h.1.fresh, taken_fresh (suc r.line) rs h.2)

  taken_pending : IsDesc d → length now.second ≡ d.cache_second_sets → (low : ℕ) (rs : List Request) → AllFresh d now low rs → Each (IsPending d now.cycle now.cycle) (taken rs)
  taken_pending i sets low [] h = tt
  taken_pending i sets low (r ∷ rs) h =
      (subst (λ r. IsPending d now.cycle now.cycle (register d now.cycle r)) (sym h.1.own) (register_soon d now i sets r.line), taken_pending i sets (suc r.line) rs h.2)

-- what holds of the miss registers after an access: each comes soon, and no line has two
pub record MissesSoon (d : Desc) (cycle : ℕ) (ms : List Miss) : Type 0 where
  pub misses : Each (IsPending d cycle cycle) ms
  pub lines : Apart ms

-- behind an access each miss ends soon, and no line has two
pub taken_soon : (d : Desc) (now : Around) → IsDesc d → length now.second ≡ d.cache_second_sets → MissesSoon d now.cycle now.misses → (b : List Entry) (e : Entry) →
    MissesSoon d now.cycle (misses_after (access_of d now b e) d now.cycle now.misses)
taken_soon d now i sets h =
    by_load d now (λ a. MissesSoon d now.cycle (misses_after a d now.cycle now.misses)) h
    (λ a n some room.
    let found = looked_up d now a n in
    let rs = all_requests found (prefetch_request d now found) in
    let fresh = all_fresh d now a n some in
    record {
      misses = each_join (IsPending d now.cycle now.cycle) now.misses (taken d now rs) h.misses (taken_pending d now i sets 0 rs fresh);
      lines = apart_join now.misses (taken d now rs) h.lines (taken_apart d now 0 rs fresh) (taken_fresh d now 0 rs fresh);
    })
    (λ a n some r. h) (λ c. h)
