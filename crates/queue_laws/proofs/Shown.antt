-- What is shown of stores that are computed.
use Rattle.std.proofs.Common.{◌≡◌, ℕ, Bool, true, false, cond, not, ◌&&◌, ◌||◌, List, [], ◌∷◌, ◌++◌, Option, Some, None, refl, ap, sym, ◌∙◌}
use Rattle.std.specs.Prelude.{map, is_some, nat_le, nat_lt, ◌+◌, if◌then◌else◌}
use Rattle.std.specs.List.{list_all}
use Rattle.window_model.specs.declared.Entry.{Entry}
use Rattle.window_model.specs.declared.Outcome.{Outcome}
use Rattle.window_model.specs.Order.{fault_of, has_address, has_data, is_store}
use Rattle.window_model.specs.Access.{covers, reaches}
use Rattle.window_model.specs.Retire.{addr_of, byte_count}
use Rattle.window_model.proofs.Booleans.{both}
use Rattle.lsq.specs.declared.store.Store.{Store}
use Rattle.queue_laws.specs.Window.{Area, Shown, StoresStandFor, area_in, shown_entry, shown_store, stores_in}

-- each of these stores has no part or has its outcome
abbrev pub all_computed : List Shown → Bool
all_computed ss = list_all (λ s. s.computed) ss

queue_computed : (ss : List Store) → all_computed (map shown_store ss) ≡ true
queue_computed [] = refl
queue_computed (s ∷ ss) = queue_computed ss

-- the stores of a window for which the queue stands are computed
pub all_have : (ss : List Store) (es : List Entry) → StoresStandFor ss es → all_computed (stores_in es) ≡ true
all_have ss es h = ap all_computed (sym h) ∙ queue_computed ss

-- the entry's own store is computed, and those behind it
pub computed_one : (b : Bool) (e : Entry) (f : List Entry) → all_computed (map shown_entry (cond b (e ∷ f) f)) ≡ true → (b ≡ true → (shown_entry e).computed ≡ true) × (all_computed (map shown_entry f) ≡ true)
computed_one true e f h = let p = both (shown_entry e).computed (all_computed (map shown_entry f)) h in (λ b. p.0, p.1)
computed_one false e f h = (λ b. absurd (cc), h)

-- a store among others is computed
pub computed_in : (old young : List Shown) (s : Shown) → all_computed (old ++ (s ∷ young)) ≡ true → s.computed ≡ true
computed_in [] young s h = (both s.computed (all_computed young) h).0
computed_in (x ∷ old) young s h = computed_in old young s (both x.computed (all_computed (old ++ (s ∷ young))) h).1

-- one with an address has its outcome
pub has_outcome : (a d o : Bool) → (not (a || d) || o) ≡ true → a ≡ true → o ≡ true
has_outcome true d o h k = h
has_outcome false d o h k = absurd (cc)

-- what is shown reaches an address
abbrev pub reaches_shown : ℕ → Option Area → Bool
reaches_shown a None = false
reaches_shown a (Some k) = not (is_some k.fault) && nat_le k.addr a && nat_lt a (k.addr + k.bytes)

-- an outcome reaches a byte where its access without fault has it
reach_of : (a n : ℕ) (o : Option Outcome) → is_some o ≡ true → (not (is_some (fault_of o)) && nat_le (addr_of o) a && nat_lt a (addr_of o + n)) ≡ reaches a n o
reach_of a n (Some o) h = refl
reach_of a n None h = absurd (cc)

reach_by : (a : ℕ) (e : Entry) (p : Bool) → (p ≡ true → is_some e.outcome ≡ true) → reaches_shown a (if p then Some (area_in e) else None) ≡ (p && reaches a (byte_count e) e.outcome)
reach_by a e true h = reach_of a (byte_count e) e.outcome (h refl)
reach_by a e false h = refl

-- a store that is computed shows the bytes that it covers
pub covers_shown : (a : ℕ) (e : Entry) → is_store e.item.kind ≡ true → (shown_entry e).computed ≡ true → reaches_shown a (shown_entry e).span ≡ covers a e
covers_shown a e s u =
    reach_by a e (has_address e) (has_outcome (has_address e) (has_data e) (is_some e.outcome) u)
    ∙ ap (λ b. b && has_address e && reaches a (byte_count e) e.outcome) (sym s)
