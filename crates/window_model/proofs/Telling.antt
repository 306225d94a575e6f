-- How many events Retire has: one for each entry that retires, and two more for the one store; a call has two, and is
-- alone.
use Rattle.std.proofs.Common.{◌≡◌, ℕ, zero, suc, ◌+◌, ◌-◌, ◌*◌, ◌≤◌, Bool, true, false, ◌&&◌, ◌||◌, cond, List, ◌∷◌, ◌++◌, length, Some, None, refl, ap, subst, ◌∙◌, arith, length-append}
use Rattle.std.proofs.lemmas.List.{length-map}
use Rattle.std.specs.Option.{option_to_list}
use Rattle.std.specs.Prelude.{if◌then◌else◌, ◌==◌, count_by}
use Rattle.rv_types.specs.Isa.{Step, Goes, Exits, Traps, call}
use Rattle.rv_types.specs.declared.Kind.{Kind}
use Rattle.rv_types.specs.declared.Kind.TheVariants.{Store, Call}
use Rattle.machine_desc.specs.declared.Desc.{Desc}
use Rattle.window_model.specs.declared.Entry.{Entry}
use Rattle.window_model.specs.declared.Event.{Event}
use Rattle.window_model.specs.declared.Event.TheVariants as event
use Rattle.window_model.specs.State.{Machine, line_of, lines_of}
use Rattle.window_model.specs.Order.{is_store}
use Rattle.window_model.specs.Retire.{Retired, retire, turns, head_leaves, call_leaves, hart_of, has_line, lines_in, addr_of, byte_count}
use Rattle.window_model.specs.Rename.{CallAlone, calls, is_call}
use Rattle.window_model.proofs.Calls.{CallDoes, call_does}
use Rattle.window_model.proofs.Counts.{count, count_is}
use Rattle.window_model.proofs.Leaving.{is_first}
use Rattle.window_model.proofs.Walks.{retire_by}

-- an access has at most two lines
pub lines_few : (d : Desc) (a n : ℕ) → length (lines_of d a n) ≤ 2
lines_few d a n = by_same (line_of d a == line_of d (a + n - 1))
  where
    by_same : (b : Bool) → length (line_of d a ∷ option_to_list (if b then None else Some (line_of d (a + n - 1)))) ≤ 2
    by_same true = omega arith
    by_same false = omega arith

-- the most events of a head of this kind
abbrev pub told_by : Kind → ℕ
told_by Store = 3
told_by Call = 2
told_by _ = 1

one_of_one : 1 ≤ 1
one_of_one = omega arith

one_of_three : 1 ≤ 3
one_of_three = omega arith

-- a head leaves the rest of the window, with few events
pub record Leaves (most : ℕ) (rest : List Entry) (r : Retired) : Type 0 where
  pub events : length r.events ≤ most
  pub window : r.machine.window ≡ rest

call_tells : (e : Entry) (rest : List Entry) (x : Machine) (t : Step) → CallDoes (hart_of x) t → Leaves 2 rest (call_leaves e rest x t)
call_tells e rest x (Goes s piece) c = record { events = omega arith; window = refl }
call_tells e rest x (Exits v s) c = record { events = omega arith; window = refl }
call_tells e rest x (Traps cause) c = absurd c

-- a head of any kind leaves the rest of the window, with no more events than its kind may have
pub head_tells : (k : Kind) (d : Desc) (e : Entry) (rest : List Entry) (x : Machine) → Leaves (told_by k) rest (head_leaves k d e rest x)
head_tells Store d e rest x = record {
  events =
      let lines = lines_in d e in
      let m = length-map lines (λ line. event.St e.serial line (has_line d x.cache line)) in
      let n = lines_few d (addr_of e.outcome) (byte_count e) in
      omega (arith, m, n);
  window = refl;
}
head_tells Call d e rest x = call_tells e rest x (call (hart_of x)) (call_does (hart_of x))
head_tells _ d e rest x = record { events = one_of_one; window = refl }

told_most : (k : Kind) → told_by k ≤ 3
told_most Store = omega arith
told_most Call = omega arith
told_most _ = one_of_three

then_tells : (a c : List Event) (m n : ℕ) → length a ≤ m → length c ≤ n → length (a ++ c) ≤ m + n
then_tells a c m n p q = let l = length-append a c in omega (arith, l, p, q)

-- the turns that follow on a head, on what it leaves
abbrev behind : Desc → ℕ → Bool → Machine → Entry → List Entry → Retired
behind d n stored x e rest = turns d n (stored || is_store e.item.kind) (head_leaves e.item.kind d e rest x).machine

-- the turns of Retire have at most three events for each entry of the window
by_window : (d : Desc) (x : Machine) → length (retire d x).events ≤ 3 * length x.window
by_window d x =
    retire_by d (λ n stored x r. length r.events ≤ 3 * length x.window) (λ n stored x s. omega arith)
    (λ n stored x e rest u q l t w more.
    let h = head_tells e.item.kind d e rest x in
    let m = told_most e.item.kind in
    let c = then_tells (head_leaves e.item.kind d e rest x).events (behind d n stored x e rest).events 3 (3 * length (head_leaves e.item.kind d e rest x).machine.window) (omega (arith, m, h.events)) more in
    let left = ap length h.window in
    let all = ap length q in
    omega (arith, c, left, all))
    (λ n stored x e rest cause u q l t. omega arith) x

-- the most events of n turns of Retire without a call: one for each, and two more until a store has retired
abbrev left_by : ℕ → Bool → ℕ
left_by n stored = if stored then n else n + 2

no_call : (e : Entry) (rest : List Entry) → count calls (e ∷ rest) ≡ 0 → (calls e ≡ false) × (count calls rest ≡ 0)
no_call e rest h = by_call (calls e) refl h
  where
    by_call : (b : Bool) → calls e ≡ b → cond b 1 0 + count calls rest ≡ 0 → (calls e ≡ false) × (count calls rest ≡ 0)
    by_call true q h = absurd (omega (arith, h))
    by_call false q h = (q, omega (arith, h))

one_more : (n m : ℕ) → 1 + (n + m) ≤ suc n + m
one_more n m = omega arith

only_one : (n : ℕ) → 1 + n ≤ suc n
only_one n = omega arith

one_turn : (k : Kind) (n : ℕ) (stored : Bool) → is_call k ≡ false → (stored && is_store k) ≡ false → told_by k + left_by n (stored || is_store k) ≤ left_by (suc n) stored
one_turn Store n true c w = absurd (cc)
one_turn Store n false c w = omega arith
one_turn Call n stored c w = absurd (cc)
one_turn _ n true c w = only_one n
one_turn _ n false c w = one_more n 2

without_calls : (d : Desc) (x : Machine) → count calls x.window ≡ 0 → length (retire d x).events ≤ d.core_retire_width + 2
without_calls d x =
    retire_by d (λ n stored x r. count calls x.window ≡ 0 → length r.events ≤ left_by n stored) (λ n stored x s h. omega arith)
    (λ n stored x e rest u q l t w more h.
    let o = no_call e rest (subst (λ w. count calls w ≡ 0) q h) in
    let t = head_tells e.item.kind d e rest x in
    let m = more (ap (count calls) t.window ∙ o.1) in
    let c = then_tells (head_leaves e.item.kind d e rest x).events (behind d n stored x e rest).events (told_by e.item.kind) (left_by n (stored || is_store e.item.kind)) t.events m in
    let k = one_turn e.item.kind n stored o.0 (is_first stored e w) in
    omega (arith, c, k))
    (λ n stored x e rest cause u q l t h. omega arith) x

-- Retire has at most one event for each turn, and two more
pub retire_few : (d : Desc) (x : Machine) → CallAlone x.window → length (retire d x).events ≤ d.core_retire_width + 2
retire_few d x alone = by_calls (count_by calls x.window) refl
  where
    by_calls : (n : ℕ) → count_by calls x.window ≡ n → length (retire d x).events ≤ d.core_retire_width + 2
    by_calls zero h = without_calls d x (count_is calls x.window ∙ h)
    by_calls (suc n) h = let w = by_window d x in let a = alone (omega (arith, h)) in omega (arith, w, a, d.stands.retire_width.0)
