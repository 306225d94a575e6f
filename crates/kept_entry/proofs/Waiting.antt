-- The entries that wait, by what the stations hold of them.
use mathlib.Core.List.{reverse_aux}
use Rattle.std.proofs.Common.{◌≡◌, ℕ, zero, suc, ◌+◌, Bool, true, false, cond, is_none, List, [], ◌∷◌, length, map, take, Option, Some, None, slice_get, refl, ap, sym, arith}
use Rattle.std.specs.Prelude.{if◌then◌else◌}
use Rattle.std.specs.List.{cons_option, list_all}
use Rattle.rv_types.specs.Regs.{two}
use Rattle.window_model.specs.declared.Entry.{Entry}
use Rattle.window_model.specs.Order.{is_waiting}
use Rattle.window_model.proofs.Booleans.{some_of}
use Rattle.window_model.proofs.Counts.{count, count_is}
use Rattle.stations.specs.Stations.{able_as}
use Rattle.stations.specs.declared.wants.Wants.{Wants}
use Rattle.stations.specs.declared.wants.Wants.TheVariants.{Whole, Either, Address, Data}
use Rattle.refinement.specs.Stations.{station_of}
use Rattle.refinement.specs.Waiters.{Hold, Waiter, awaits_of, waiter_of, waiters_from}

module _ (v : ℕ) (h : Hold) where
  -- there are as many waiters as entries that wait
  pub many_wait : (before es : List Entry) → length (waiters_from v h before es) ≡ count (λ e. is_waiting e.state) es
  many_wait before [] = refl
  many_wait before (e ∷ es) = by_wait (is_waiting e.state) (many_wait (e ∷ before) es)
    where
      by_wait : (b : Bool) → length (waiters_from v h (e ∷ before) es) ≡ count (λ e. is_waiting e.state) es →
          length (cons_option (if b then Some (waiter_of v (awaits_of h before e) e) else None) (waiters_from v h (e ∷ before) es)) ≡ cond b 1 0 + count (λ e. is_waiting e.state) es
      by_wait true k = omega (arith, k)
      by_wait false k = omega (arith, k)

  -- this is the waiter of an entry that waits, with so many before it that wait
  pub record Stood (before es : List Entry) (k : ℕ) (w : Waiter) : Type 0 where
    pub position : ℕ
    pub entry : Entry
    pub at : slice_get es position ≡ Some entry
    pub waits : is_waiting entry.state ≡ true
    pub station : station_of position es ≡ k
    pub is : w ≡ waiter_of v (awaits_of h (reverse_aux (take position es) before) entry) entry

  stood_on : (before : List Entry) (e : Entry) (es : List Entry) (b : Bool) (k n : ℕ) (w : Waiter) → is_waiting e.state ≡ b → n ≡ cond b 1 0 + k → Stood (e ∷ before) es k w → Stood before (e ∷ es) n w
  stood_on before e es b k n w t q s =
      let all = count_is (λ e. is_waiting e.state) (e ∷ take s.position es) in
      let first : cond (is_waiting e.state) 1 0 ≡ cond b 1 0 = ap (λ (b : Bool). cond {A = ℕ} b 1 0) t in
      let rest = count_is (λ e. is_waiting e.state) (take s.position es) in
      let older = s.station in
      record { position = suc s.position; entry = s.entry; at = s.at; waits = s.waits; station = omega (arith, all, first, rest, older, q); is = s.is }

  -- each waiter is that of an entry that waits
  pub stood : (before es : List Entry) (k : ℕ) (w : Waiter) → slice_get (waiters_from v h before es) k ≡ Some w → Stood before es k w
  stood before [] k w q = absurd (cc)
  stood before (e ∷ es) k w q = by_wait (is_waiting e.state) refl (λ k q. stood (e ∷ before) es k w q) k q
    where
      by_wait : (b : Bool) → is_waiting e.state ≡ b → ((k : ℕ) → slice_get (waiters_from v h (e ∷ before) es) k ≡ Some w → Stood (e ∷ before) es k w) →
          (k : ℕ) → slice_get (cons_option (if b then Some (waiter_of v (awaits_of h before e) e) else None) (waiters_from v h (e ∷ before) es)) k ≡ Some w → Stood before (e ∷ es) k w
      by_wait true t rest zero q = record { position = 0; entry = e; at = refl; waits = t; station = refl; is = sym (some_of _ _ q) }
      by_wait true t rest (suc k) q = stood_on before e es true k (suc k) w t (omega arith) (rest k q)
      by_wait false t rest k q = stood_on before e es false k k w t (omega arith) (rest k q)

two_nothing : (w : Wants) (a b : Option ℕ) → list_all is_none (a ∷ b ∷ []) ≡ true → able_as w (a ∷ b ∷ []) ≡ true
two_nothing Whole a b h = h
two_nothing Either None b h = refl
two_nothing Address None b h = refl
two_nothing Data None None h = refl
two_nothing _ (Some a) b h = absurd (cc)
two_nothing _ None (Some b) h = absurd (cc)

-- what awaits nothing has what it wants
pub wants_nothing : (w : Wants) (f : Option ℕ → Option ℕ) (rs : List ℕ) → list_all is_none (map f (two rs)) ≡ true → able_as w (map f (two rs)) ≡ true
wants_nothing w f [] h = two_nothing w (f None) (f None) h
wants_nothing w f (a ∷ []) h = two_nothing w (f (Some a)) (f None) h
wants_nothing w f (a ∷ b ∷ rs) h = two_nothing w (f (Some a)) (f (Some b)) h
