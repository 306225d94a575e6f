-- The oldest entry: it looks back on nothing, and Resolve and Clear leave it, free to go where it is done.
use Rattle.std.proofs.Common.{◌≡◌, ℕ, ◌+◌, ◌≤◌, Bool, true, false, not, ◌&&◌, ◌||◌, List, [], ◌∷◌, ◌++◌, Option, Some, None, refl, ap, sym, ◌∙◌, arith}
use Rattle.std.specs.Prelude.{if◌then◌else◌, reverse}
use Rattle.std.specs.Cmp.Derive.{both_true}
use Rattle.std.specs.List.{list_all}
use Rattle.std.proofs.lemmas.List.{reverse-reverse}
use Rattle.machine_desc.specs.declared.Desc.{Desc}
use Rattle.window_model.specs.Delay.{delays, may_show}
use Rattle.window_model.specs.declared.Entry.{Entry}
use Rattle.window_model.specs.declared.Divider.{Divider}
use Rattle.window_model.specs.declared.Item.{Item}
use Rattle.window_model.specs.State.{Machine, nothing}
use Rattle.window_model.specs.Order.{Place, first, first_from, is_done, is_control, is_store, has_address, has_data, base_of, sources}
use Rattle.window_model.specs.Taint.{any_tainted, address_tainted, tainted}
use Rattle.window_model.specs.Ready.{is_known, all_known, ready}
use Rattle.window_model.specs.Resolve.{resolve, resolve_at, may_resolve, learn, squash, keep, squashes, is_from, with_predictor}
use Rattle.machine_desc.specs.Questions.{loads_pass}
use Rattle.window_model.specs.Clear.{clear, clear_at, clear_with, cleared_one, may_clear, violated_by}
use Rattle.window_model.specs.Retire.{may_leave}
use Rattle.window_model.proofs.Booleans.{both, done_waits, or_true}
use Rattle.window_model.proofs.Clearing.{clear_keep}
use Rattle.window_model.proofs.Places.{found}
use Rattle.window_model.proofs.Placing.{resolve_keep}
use Rattle.window_model.proofs.Taints.{none_any}
use Rattle.machine_facts.specs.Sized.{HasParts}
use Rattle.machine_facts.specs.Timely.{StaysCleared}
use Rattle.progress.proofs.Stops.{may_go}

-- ---- nothing is before it

all_of : (f : ℕ → Bool) (rs : List ℕ) → ((r : ℕ) → f r ≡ true) → list_all f rs ≡ true
all_of f [] h = refl
all_of f (r ∷ rs) h = ap (λ b. b && list_all f rs) (h r) ∙ all_of f rs h

-- the oldest entry's operands are known, since nothing is older
pub oldest_known : (d : Desc) (rs : List ℕ) → all_known d [] rs ≡ true
oldest_known d rs = all_of (is_known d []) rs (λ r. refl)

pub oldest_ready : (d : Desc) (e : Entry) → ready d [] e ≡ true
oldest_ready d e = oldest_known d (sources e)

-- no operand of the oldest entry is tainted
pub oldest_untainted : (d : Desc) (e : Entry) → any_tainted d.stt_model [] e ≡ false
oldest_untainted d e = none_any (tainted d.stt_model []) (sources e) (λ r. refl)

pub oldest_address : (d : Desc) (e : Entry) → address_tainted d.stt_model [] e ≡ false
oldest_address d e = none_any (tainted d.stt_model []) (base_of (sources e)) (λ r. refl)

-- ---- Resolve leaves the oldest

-- the oldest entry stays the oldest, and may leave if it is done
pub record StaysOldest (h : Entry) (w : List Entry) : Type 0 where
  pub entry : Entry
  pub rest : List Entry
  pub shape : w ≡ entry ∷ rest
  pub state : entry.state ≡ h.state
  pub item : entry.item ≡ h.item
  pub leaves : is_done h.state ≡ true → may_leave entry ≡ true

-- after a place is resolved, its entry and the older ones are still there
window_after : (d : Desc) (b : Bool) (p : Place) (x : Machine) → (r : List Entry) × ((if b then squash d p x else keep p x).machine.window ≡ reverse p.before ++ record (p.entry) { resolved = true } ∷ r)
window_after d true p x = ([], refl)
window_after d false p x = (p.younger, refl)

resolved_leaves : (t c : Bool) → t ≡ true → (t && (not c || true)) ≡ true
resolved_leaves true true h = refl
resolved_leaves true false h = refl
resolved_leaves false c h = absurd (cc)

unresolved_leaves : (c t r a : Bool) → (c && t && not r && not a) ≡ false → a ≡ false → t ≡ true → (t && (not c || r)) ≡ true
unresolved_leaves false true r a h p q = refl
unresolved_leaves true true true a h p q = refl
unresolved_leaves true true false true h p q = absurd (cc)
unresolved_leaves true true false false h p q = absurd (cc)
unresolved_leaves c false r a h p q = absurd (cc)

-- the oldest may show its operands
pub shown_first : (d : Desc) → may_show d [] ≡ true
shown_first d = or_true (not (delays d.stt_defence)) true refl

shown_so : (a t s : Bool) → s ≡ true → (a && (t && s)) ≡ false → (a && t) ≡ false
shown_so true true true q n = n
shown_so true true false q n = absurd (cc)
shown_so true false s q n = refl
shown_so false t s q n = refl

module _ (d : Desc) (h : Entry) (younger : List Entry) (x : Machine) where
  -- the oldest entry stays the oldest where a younger one is resolved, or none
  behind_it : (o : Option Place) → may_resolve d [] h ≡ false → first_from (may_resolve d) (h ∷ []) younger ≡ o → StaysOldest h (resolve_at d o (record x { window = h ∷ younger })).machine.window
  behind_it None n q = record {
    entry = h;
    rest = younger;
    shape = refl;
    state = refl;
    item = refl;
    leaves = unresolved_leaves (is_control h.item.kind) (is_done h.state) h.resolved (any_tainted d.stt_model [] h) (shown_so _ (not (any_tainted d.stt_model [] h)) (may_show d []) (shown_first d) n) (oldest_untainted d h);
  }
  behind_it (Some p) n q =
      let whole : Machine = record x { window = h ∷ younger } in
      let l = learn d p.entry x.counters x.targets in
      let f = found (may_resolve d) (h ∷ []) younger p q in
      let a = window_after d (squashes p.entry) p (with_predictor whole l.counters l.targets) in
      let older : reverse p.before ≡ h ∷ f.older = ap reverse f.back ∙ reverse-reverse (h ∷ f.older) in
      record {
        entry = h;
        rest = f.older ++ record (p.entry) { resolved = true } ∷ a.0;
        shape = a.1 ∙ ap (λ v. v ++ record (p.entry) { resolved = true } ∷ a.0) older;
        state = refl;
        item = refl;
        leaves = unresolved_leaves (is_control h.item.kind) (is_done h.state) h.resolved (any_tainted d.stt_model [] h) (shown_so _ (not (any_tainted d.stt_model [] h)) (may_show d []) (shown_first d) n) (oldest_untainted d h);
      }

  by_may : (b : Bool) → may_resolve d [] h ≡ b → StaysOldest h (resolve_at d (if b then Some (record { before = []; entry = h; younger = younger }) else first_from (may_resolve d) (h ∷ []) younger) (record x { window = h ∷ younger })).machine.window
  by_may false n = behind_it (first_from (may_resolve d) (h ∷ []) younger) n refl
  by_may true n =
      let p : Place = record { before = []; entry = h; younger = younger } in
      let l = learn d h x.counters x.targets in
      let whole : Machine = record x { window = h ∷ younger } in
      let a = window_after d (squashes h) p (with_predictor whole l.counters l.targets) in
      record { entry = record h { resolved = true }; rest = a.0; shape = a.1; state = refl; item = refl; leaves = resolved_leaves (is_done h.state) (is_control h.item.kind) }

  pub resolve_oldest : StaysOldest h (resolve d (record x { window = h ∷ younger })).machine.window
  resolve_oldest = by_may (may_resolve d [] h) refl

-- ---- Clear leaves the oldest

-- the oldest entry stays the oldest, but that a store of known address is cleared
pub record GetsCleared (h : Entry) (w : List Entry) : Type 0 where
  pub entry : Entry
  pub rest : List Entry
  pub shape : w ≡ entry ∷ rest
  pub state : entry.state ≡ h.state
  pub item : entry.item ≡ h.item
  pub resolved : entry.resolved ≡ h.resolved
  pub cleared : is_store h.item.kind ≡ true → has_address h ≡ true → entry.cleared ≡ true

-- after a store is cleared, it and the older entries are still there
window_with : (d : Desc) (p : Place) (o : Option Place) (x : Machine) → (r : List Entry) × ((clear_with d p o x).machine.window ≡ reverse p.before ++ cleared_one p.entry ∷ r)
window_with d p None x = (p.younger, refl)
window_with d p (Some q) x = (reverse q.before, refl)

-- an oldest store that may not be cleared is cleared, or its address isn't known
not_now : (s c a t : Bool) → (s && not c && a && not t) ≡ false → t ≡ false → s ≡ true → a ≡ true → c ≡ true
not_now true true true false h n p q = refl
not_now true false true false h n p q = absurd (cc)
not_now s c a true h n p q = absurd (cc)
not_now false c a t h n p q = absurd (cc)
not_now s c false t h n p q = absurd (cc)

-- where no load passes a store, no entry needs clearing
needs_none : (p s : Bool) → p ≡ false → (p && s) ≡ false
needs_none false s h = refl
needs_none true s h = absurd (cc)

module _ (d : Desc) (h : Entry) (younger : List Entry) (x : Machine) where
  abbrev whole : Machine
  whole = record x { window = h ∷ younger }

  as_it_is : (is_store h.item.kind ≡ true → has_address h ≡ true → h.cleared ≡ true) → GetsCleared h (h ∷ younger)
  as_it_is c = record { entry = h; rest = younger; shape = refl; state = refl; item = refl; resolved = refl; cleared = c }

  -- the oldest entry stays the oldest where a younger store is cleared, or none
  clears_behind : (o : Option Place) → may_clear d [] h ≡ false → first_from (may_clear d) (h ∷ []) younger ≡ o → GetsCleared h (clear_at d o whole).machine.window
  clears_behind None n q = as_it_is (not_now (is_store h.item.kind) h.cleared (has_address h) (address_tainted d.stt_model [] h) n (oldest_address d h))
  clears_behind (Some p) n q =
      let f = found (may_clear d) (h ∷ []) younger p q in
      let a = window_with d p (violated_by p) whole in
      let older : reverse p.before ≡ h ∷ f.older = ap reverse f.back ∙ reverse-reverse (h ∷ f.older) in
      record {
        entry = h;
        rest = f.older ++ cleared_one p.entry ∷ a.0;
        shape = a.1 ∙ ap (λ v. v ++ cleared_one p.entry ∷ a.0) older;
        state = refl;
        item = refl;
        resolved = refl;
        cleared = not_now (is_store h.item.kind) h.cleared (has_address h) (address_tainted d.stt_model [] h) n (oldest_address d h);
      }

  clears_first : (b : Bool) → may_clear d [] h ≡ b → GetsCleared h (clear_at d (if b then Some (record { before = []; entry = h; younger = younger }) else first_from (may_clear d) (h ∷ []) younger) whole).machine.window
  clears_first false n = clears_behind (first_from (may_clear d) (h ∷ []) younger) n refl
  clears_first true n =
      let p : Place = record { before = []; entry = h; younger = younger } in
      let a = window_with d p (violated_by p) whole in
      record { entry = cleared_one h; rest = a.0; shape = a.1; state = refl; item = refl; resolved = refl; cleared = λ s k. refl }

  clear_oldest : StaysCleared d h → GetsCleared h (clear d whole).machine.window
  clear_oldest s = by_passing (loads_pass d) refl
    where
      by_passing : (b : Bool) → loads_pass d ≡ b → GetsCleared h (if b then clear_at d (first (may_clear d) (h ∷ younger)) whole else nothing whole).machine.window
      by_passing true q = clears_first (may_clear d [] h) refl
      by_passing false q = as_it_is (λ k a. s (needs_none (loads_pass d) (is_store h.item.kind) q))

-- ---- Resolve and Clear together

-- the oldest entry stays the oldest, and may go if it is done
pub record GoesOldest (h : Entry) (w : List Entry) : Type 0 where
  pub entry : Entry
  pub rest : List Entry
  pub shape : w ≡ entry ∷ rest
  pub state : entry.state ≡ h.state
  pub item : entry.item ≡ h.item
  pub goes : is_done h.state ≡ true → may_go entry ≡ true

-- a store that is cleared doesn't wait as the first of a cycle
no_wait : (s c : Bool) → (s ≡ true → c ≡ true) → not (s && (false || not c)) ≡ true
no_wait true true h = refl
no_wait true false h = absurd (let q = h refl in cc)
no_wait false c h = refl

leaves_as : (e h : Entry) → e.state ≡ h.state → e.item ≡ h.item → e.resolved ≡ h.resolved → may_leave h ≡ true → may_leave e ≡ true
leaves_as e h s i r l =
    ap (λ t. is_done t && (not (is_control e.item.kind) || e.resolved)) s
    ∙ ap (λ (j : Item). is_done h.state && (not (is_control j.kind) || e.resolved)) i
    ∙ ap (λ b. is_done h.state && (not (is_control h.item.kind) || b)) r
    ∙ l

pub clear_goes : (d : Desc) (h : Entry) (y : Machine) (o : StaysOldest h y.window) → HasParts o.entry → StaysCleared d o.entry → GoesOldest h (clear d y).machine.window
clear_goes d h y o p s =
    let same : y ≡ record y { window = o.entry ∷ o.rest } = ap (λ w. let m : Machine = record y { window = w } in m) o.shape in
    let g = clear_oldest d o.entry o.rest y s in
    record {
      entry = g.entry;
      rest = g.rest;
      shape = ap (λ (m : Machine). (clear d m).machine.window) same ∙ g.shape;
      state = g.state ∙ o.state;
      item = g.item ∙ o.item;
      goes = λ q.
          let done : is_done o.entry.state ≡ true = ap is_done o.state ∙ q in
          let known : is_store o.entry.item.kind ≡ true → has_address o.entry ≡ true = λ k. (both (has_address o.entry) (has_data o.entry) (p k ∙ ap not (done_waits o.entry.state done))).0 in
          let wait : is_store g.entry.item.kind ≡ true → g.entry.cleared ≡ true = λ k. let j : is_store o.entry.item.kind ≡ true = sym (ap (λ (i : Item). is_store i.kind) g.item) ∙ k in g.cleared j (known j) in
          both_true (leaves_as g.entry o.entry g.state g.item g.resolved (o.leaves q)) (no_wait (is_store g.entry.item.kind) g.entry.cleared wait);
    }

-- where there is no entry there is nothing to clear
pub clear_empty : (d : Desc) (x : Machine) → (clear d (record x { window = [] })).machine ≡ record x { window = [] }
clear_empty d x = by_passing (loads_pass d)
  where
    by_passing : (b : Bool) → (if b then nothing (record x { window = [] }) else nothing (record x { window = [] })).machine ≡ record x { window = [] }
    by_passing true = refl
    by_passing false = refl

-- ---- what else Resolve and Clear leave; the divider is free no later
pub record Resolves (x y : Machine) : Type 0 where
  pub cycle : y.cycle ≡ x.cycle
  pub misses : y.misses ≡ x.misses
  pub divider : y.divider.free_from ≤ x.divider.free_from

freed_no_later : (v : Divider) (b : Bool) → (if b then record { free_from = 0; user = None } else v).free_from ≤ v.free_from
freed_no_later v true = omega arith
freed_no_later v false = omega arith

pub resolve_resolves : (d : Desc) (x : Machine) → Resolves x (resolve d x).machine
resolve_resolves d x =
    resolve_keep d (Resolves x)
    (λ y p t q k. record { cycle = k.cycle; misses = k.misses; divider = let f = freed_no_later y.divider (is_from (p.entry.serial + 1) y.divider.user) in omega (arith, f, k.divider) })
    (λ y p t q k. record { cycle = k.cycle; misses = k.misses; divider = k.divider })
    x (record { cycle = refl; misses = refl; divider = omega arith })

pub clear_resolves : (d : Desc) (x y : Machine) → Resolves x y → Resolves x (clear d y).machine
clear_resolves d x =
    clear_keep d (Resolves x) (λ y p t k. record { cycle = k.cycle; misses = k.misses; divider = k.divider })
    (λ y p q t v k. record { cycle = k.cycle; misses = k.misses; divider = let f = freed_no_later y.divider (is_from q.entry.serial y.divider.user) in omega (arith, f, k.divider) })
