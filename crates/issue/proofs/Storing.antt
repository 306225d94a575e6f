-- A store's turn, once each of its parts has asked for its port.
use Rattle.std.proofs.Common.{◌≡◌, ◌≤◌, ◌+◌, Bool, true, false, ◌&&◌, List, ◌∷◌, ◌++◌, length, Some, refl, ap, ap₂, sym, subst, ◌∙◌, inl, inr, arith, append-nil}
use Rattle.std.specs.Prelude.{◌||◌, ◌==◌, ◌⊎◌, nat_lt}
use Rattle.rv_types.specs.Value.{one_if}
use Rattle.machine_desc.specs.declared.Desc.{Desc}
use Rattle.window_model.specs.declared.Entry.{Entry}
use Rattle.window_model.specs.Around.{Around}
use Rattle.window_model.specs.Ports.{AddressPort, DataPort}
use Rattle.window_model.specs.Issue.{Begun, issue_entry, waits}
use Rattle.window_model.specs.Order.{is_store}
use Rattle.window_model.specs.Row.{Row}
use Rattle.window_model.specs.inner.Row.{with_events}
use Rattle.rob_ring.specs.Issued.{issued_of}
use Rattle.rob_ring.specs.declared.issued.Issued.{Issued}
use Rattle.unit_ports.specs.Laws.{LeftAfter, if_asked}
use Rattle.unit_ports.specs.Ports.{Ports, left_at}
use Rattle.unit_ports.proofs.Granting.{granted_is, left_by_store}
use Rattle.core_parts.specs.declared.decided.Decided.{Decided}
use Rattle.issue.specs.declared.candidate.Candidate.{Candidate}
use Rattle.issue.specs.declared.seen.Seen.{Seen}
use Rattle.issue.specs.Decisions.{HadTurn}
use Rattle.issue.specs.Ports.{LeftBehind, LeftFor, OnlyPorts, events_left, granted_at, left_in_all, may_here}
use Rattle.issue.specs.State.{around_of, before_of, here}
use Rattle.issue.specs.Turns.{Goes, after_of, divider_by, load_by, parts_by, puts_by, puts_of}
use Rattle.issue.proofs.Choosing.{no_division, no_load}
use Rattle.issue.proofs.Noting.{few_puts, only_both, same_row}
use Rattle.issue.proofs.Testing.{asked_address_load, asked_data_load, asked_divider, asked_less, asked_only, data_left}
use Rattle.issue.proofs.Turning.{few_parts, not_alone, parts_here, parts_put, store_turn}

-- a part of a store issues, where the address part does, or the data part alone
pub some_part : (a c : Bool) → (a ≡ true) ⊎ ((a ≡ false) × (c ≡ true)) → (a || c) ≡ true
some_part a c (inl h) = ap (λ a. a || c) h
some_part a c (inr h) = ap₂ (λ a c. a || c) h.0 h.1

one_at_least : (a c : Bool) → (a || c) ≡ true → 1 ≤ one_if a + one_if c
one_at_least true true h = omega arith
one_at_least true false h = omega arith
one_at_least false true h = omega arith
one_at_least false false h = absurd (cc)

-- what is made of an entry, part by part
same_parts : (a c : Bool) (s : Seen) (p : Candidate) → parts_by a c s p ≡ parts_here a c s.desc.now (around_of s) (before_of s p) p.entry.now
same_parts true true s p = refl
same_parts true false s p = refl
same_parts false true s p = refl
same_parts false false s p = refl

module _ (s : Seen) (p : Candidate) (ports first new : Ports) (address stored : Bool) (store : is_store p.entry.now.item.kind ≡ true) (left : LeftFor s p ports)
    (g : address ≡ granted_at AddressPort s p) (a : first ≡ if_asked (may_here AddressPort s p) AddressPort ports)
    (g2 : stored ≡ granted_at DataPort s p) (a2 : new ≡ if_asked (may_here DataPort s p) DataPort first) where
  abbrev d : Desc
  d = s.desc.now

  abbrev now : Around
  now = around_of s

  abbrev before : List Entry
  before = before_of s p

  abbrev e : Entry
  e = p.entry.now

  turn_is : here issue_entry s p ≡ parts_here address stored d now before e
  turn_is = store_turn address stored d now before e store (sym g) (sym g2)

  -- ---- the ports that a store takes

  left_new : LeftBehind s p new
  left_new = subst (LeftAfter d now (e ∷ before)) (sym (a2 ∙ ap (if_asked (may_here DataPort s p) DataPort) a)) (left_by_store d now before e ports store left)

  taken_first : left_in_all first + one_if address ≡ left_in_all ports
  taken_first =
      let less = asked_less (may_here AddressPort s p) AddressPort ports in
      let one = ap one_if (granted_is d now AddressPort before e ports left ∙ sym g) in
      let is = ap left_in_all a in
      omega (arith, less, one, is)

  taken_second : left_in_all new + one_if stored ≡ left_in_all first
  taken_second =
      let same = ap (left_at DataPort) a ∙ data_left (may_here AddressPort s p) ports in
      let less = asked_less (may_here DataPort s p) DataPort first in
      let one = ap one_if (ap (λ n. may_here DataPort s p && nat_lt 0 n) same ∙ granted_is d now DataPort before e ports left ∙ sym g2) in
      let is = ap left_in_all a2 in
      omega (arith, less, one, is)

  only : OnlyPorts ports new
  only =
      only_both ports first new (subst (OnlyPorts ports) (sym a) (asked_only (may_here AddressPort s p) AddressPort ports))
      (subst (OnlyPorts first) (sym a2) (asked_only (may_here DataPort s p) DataPort first))

  same_divider : new.divider ≡ ports.divider
  same_divider =
      ap (λ (p : Ports). p.divider) a2 ∙ asked_divider (may_here DataPort s p) DataPort first
      ∙ ap (λ (p : Ports). p.divider) a ∙ asked_divider (may_here AddressPort s p) AddressPort ports

  -- a part that is granted its port leaves one fewer
  pub some_left : (address || stored) ≡ true → 1 ≤ left_in_all ports
  some_left h =
      let x = taken_first in
      let y = taken_second in
      let one = one_at_least address stored h in
      omega (arith, x, y, one)

  pub room_left : one_if address + one_if stored ≤ left_in_all ports
  room_left = let x = taken_first in let y = taken_second in omega (arith, x, y)

  one_each : length (here issue_entry s p).events + left_in_all new ≤ left_in_all ports
  one_each =
      let x = taken_first in
      let y = taken_second in
      let is = ap (λ (b : Begun). length b.events) turn_is in
      let few = few_parts address stored d now before e in
      omega (arith, x, y, is, few)

  fewer : length (puts_of p.position p.station (here issue_entry s p)) + left_in_all new ≤ left_in_all ports
  fewer = let one = one_each in let few = few_puts p.position p.station (here issue_entry s p) in omega (arith, one, few)

  same_load : new.load ≡ ports.load
  same_load =
      ap (λ (p : Ports). p.load) a2 ∙ asked_data_load (may_here DataPort s p) first
      ∙ ap (λ (p : Ports). p.load) a ∙ asked_address_load (may_here AddressPort s p) ports

  events : length (here issue_entry s p).events + events_left new ≤ events_left ports
  events = let one = one_each in let same = same_load in omega (arith, one, same)

  -- ---- the turn of a store

  -- the turn of a store of which a part issues
  pub went : (decided new_decided : Decided) (row new_row : Row) (after : Issued) → (address || stored) ≡ true → Goes (parts_by address stored s p) after row new_row →
      new_decided.puts.items ≡ decided.puts.items ++ puts_by p.position p.station (Some after) → new_decided.load ≡ decided.load → HadTurn s p ports decided row new new_decided new_row
  went decided new_decided row new_row after h goes puts load =
      let same = same_parts address stored s p in
      let put = parts_put address stored d now before e h (λ x y. not_alone d now before e (d.version == 1) refl (sym g ∙ x) (sym g2 ∙ y)) in
      record {
        puts = puts ∙ ap (λ o. decided.puts.items ++ puts_by p.position p.station o)
            (ap Some (goes.issued ∙ ap (λ (b : Begun). issued_of b.entry) same) ∙ sym put ∙ ap after_of (sym turn_is));
        row_is = goes.row ∙ ap (λ (b : Begun). with_events row b.events) (same ∙ sym turn_is);
        load = load ∙ sym (ap (λ b. load_by b s p decided.load) (no_load d now before e store));
        divider = same_divider ∙ sym (ap (λ b. divider_by b s p ports.divider) (no_division d now before e store));
        left = left_new;
        fewer = fewer;
        events = events;
        only = only;
      }

  -- the turn of a store of which no part issues
  pub stayed : (decided : Decided) (row : Row) → address ≡ false → stored ≡ false → HadTurn s p ports decided row new decided row
  stayed decided row x y =
      let stays : here issue_entry s p ≡ waits e = turn_is ∙ ap₂ (λ a c. parts_here a c d now before e) x y in
      record {
        puts = sym (ap (λ b. decided.puts.items ++ puts_of p.position p.station b) stays ∙ append-nil decided.puts.items);
        row_is = sym (ap (λ b. with_events row b.events) stays ∙ same_row row);
        load = sym (ap (λ b. load_by b s p decided.load) (no_load d now before e store));
        divider = same_divider ∙ sym (ap (λ b. divider_by b s p ports.divider) (no_division d now before e store));
        left = left_new;
        fewer = fewer;
        events = events;
        only = only;
      }
