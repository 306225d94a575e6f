-- How a load that has issued sees an older entry that goes on, and a store that is cleared.
use Rattle.std.proofs.Common.{◌≡◌, ℕ, zero, suc, ◌+◌, ◌-◌, ◌<◌, ◌≤◌, Bool, true, false, not, ◌&&◌, ◌||◌, Option, Some, None, refl, ap, sym, ◌∙◌, arith}
use Rattle.std.specs.Prelude.{if◌then◌else◌, is_some, nat_lt, slice_index}
use Rattle.std.proofs.lemmas.Bool.Decides.{nat_tests}
use Rattle.std.specs.List.{list_any}
use Rattle.rv_types.specs.Word.{to_le}
use Rattle.rv_types.specs.Memory.{Ram, range}
use Rattle.window_model.specs.declared.Entry.{Entry}
use Rattle.window_model.specs.declared.Item.{Item}
use Rattle.window_model.specs.declared.Outcome.{Outcome}
use Rattle.window_model.specs.Order.{is_done, is_load, is_store, is_faulty, has_address, has_data}
use Rattle.window_model.specs.Access.{reaches, covers, byte_of, byte_from}
use Rattle.window_model.specs.Clear.{cleared_one, is_before, is_violated, is_passed_by, shares}
use Rattle.window_model.specs.Retire.{addr_of, stored_of, width_in, byte_count}
use Rattle.window_model.proofs.Booleans.{or_true}
use Rattle.window_model.proofs.Taints.{any_agree}
use Rattle.committed_state.specs.Computed.{finds, left_out}
use Rattle.committed_state.specs.Consistent.{stands_before}

-- ---- entries that go on

-- the address and fault of an outcome, without its other fields
abbrev pub located : Option Outcome → Option Outcome
located None = None
located (Some o) = Some (record { value = 0; next = 0; addr = o.addr; stored = 0; fault = o.fault })

-- the instruction stays, and whether it is cleared; what is Done stays so with its outcome; a store's part that has
-- issued stays as it is, and an address that comes is known from this cycle on
pub record Moves (now : ℕ) (e e2 : Entry) : Type 0 where
  pub item : e2.item ≡ e.item
  pub cleared : e2.cleared ≡ e.cleared
  pub done : is_done e.state ≡ true → (is_done e2.state ≡ true) × (e2.outcome ≡ e.outcome)
  pub address : has_address e ≡ true → (e2.addr_due ≡ e.addr_due) × (located e2.outcome ≡ located e.outcome)
  pub fresh : has_address e ≡ false → has_address e2 ≡ true → e2.addr_due ≡ Some now
  pub stored : has_data e ≡ true → (has_data e2 ≡ true) × (stored_of e2.outcome ≡ stored_of e.outcome)

-- an entry that stays as it is has gone on
pub moves_same : (now : ℕ) (e : Entry) → Moves now e e
moves_same now e = record { item = refl; cleared = refl; done = λ h. (h, refl); address = λ h. (refl, refl); fresh = λ h k. absurd (cc); stored = λ h. (h, refl) }

-- an entry that goes on twice has gone on
pub moves_then : (now : ℕ) (e e1 e2 : Entry) → Moves now e e1 → Moves now e1 e2 → Moves now e e2
moves_then now e e1 e2 p q = record {
  item = q.item ∙ p.item;
  cleared = q.cleared ∙ p.cleared;
  done = λ h. (let d = p.done h in let d2 = q.done d.0 in (d2.0, d2.1 ∙ d.1));
  address = λ h. (let a = p.address h in let a2 = q.address (ap is_some a.0 ∙ h) in (a2.0 ∙ a.0, a2.1 ∙ a.1));
  fresh = λ h k. by_first (has_address e1) refl h k;
  stored = λ h. (let d = p.stored h in let d2 = q.stored d.0 in (d2.0, d2.1 ∙ d.1));
}
  where
    by_first : (a : Bool) → has_address e1 ≡ a → has_address e ≡ false → has_address e2 ≡ true → e2.addr_due ≡ Some now
    by_first true r h k = (q.address r).0 ∙ p.fresh h r
    by_first false r h k = q.fresh r k

-- ---- a byte of a load

-- the byte that a load finds at an entry, else this one
abbrev pub byte_else : Entry → ℕ → Entry → ℕ → ℕ
byte_else l a e v = if finds l a e then byte_from a e else v

-- a byte is that of an entry, or an older one's
pub byte_pick : (c : Bool) (ram : Ram) (a : ℕ) (e : Entry) (o : Option Entry) → byte_of ram a (if c then Some e else o) ≡ (if c then byte_from a e else byte_of ram a o)
byte_pick true ram a e o = refl
byte_pick false ram a e o = refl

-- a byte of a load without fault
pub record InLoad (load : Entry) (a : ℕ) : Type 0 where
  pub faultless : is_faulty load ≡ false
  pub from : addr_of load.outcome ≤ a
  pub to : a < addr_of load.outcome + byte_count load

-- a byte of the range is among those that are looked at
among : (p : ℕ → Bool) (a n x : ℕ) → a ≤ x → x < a + n → p x ≡ true → list_any p (range a n) ≡ true
among p a zero x le lt h = absurd (omega (arith, le, lt))
among p a (suc n) x le lt h = by_lt (nat_lt a x) refl (λ l. among p (a + 1) n x (omega (arith, l)) (omega (arith, lt)) h)
  where
    by_lt : (c : Bool) → nat_lt a x ≡ c → (a < x → list_any p (range (a + 1) n) ≡ true) → (p a || list_any p (range (a + 1) n)) ≡ true
    by_lt true q more = or_true (p a) _ (more (grind (arith, nat_tests)))
    by_lt false q more = let g : x ≤ a = grind (arith, nat_tests) in let e : x ≡ a = omega (arith, g, le) in ap (λ c. c || list_any p (range (a + 1) n)) (ap p (sym e) ∙ h)

-- the load shares a byte with a store that covers one of its bytes
pub shares_byte : (l e : Entry) (a : ℕ) → InLoad l a → covers a e ≡ true → shares e l ≡ true
shares_byte l e a i h = ap (λ f. not f && list_any (λ a. covers a e) (range (addr_of l.outcome) (byte_count l))) i.faultless ∙ among (λ a. covers a e) (addr_of l.outcome) (byte_count l) a i.from i.to h

-- ---- how a store stands before a load, by whether it is one, its address, whether it was passed, whether it is cleared, whether they
-- share a byte, and its data

-- a store keeps out of a load: it is passed and not cleared, shares no byte, or has its data and isn't passed
abbrev pub apart_of : Bool → Bool → Bool → Bool → Bool
apart_of p c sh d = (p && not c) || not sh || (d && not p)

-- what stands before a load is no store, or keeps out where its address is known, or isn't cleared
abbrev pub before_of : Bool → Bool → Bool → Bool → Bool → Bool → Bool
before_of st h p c sh d = not st || (if h then apart_of p c sh d else not c)

-- a store still stands before the load as it has to, once its data has come
more_data : (st h p c sh d d2 : Bool) → (d ≡ true → d2 ≡ true) → before_of st h p c sh d ≡ true → before_of st h p c sh d2 ≡ true
more_data false h p c sh d d2 m b = refl
more_data true false p c sh d d2 m b = b
more_data true true true false sh d d2 m b = refl
more_data true true true true false d d2 m b = refl
more_data true true true true true true d2 m b = absurd (cc)
more_data true true true true true false d2 m b = absurd (cc)
more_data true true false c false d d2 m b = refl
more_data true true false c true true d2 m b = let e = m refl in rw e refl
more_data true true false c true false d2 m b = absurd (cc)

-- a store before the load of unknown address isn't cleared
unknown_uncleared : (st h p c sh d : Bool) → st ≡ true → h ≡ false → before_of st h p c sh d ≡ true → c ≡ false
unknown_uncleared true false p false sh d q r b = refl
unknown_uncleared true false p true sh d q r b = absurd (cc)
unknown_uncleared true true p c sh d q r b = absurd (cc)
unknown_uncleared false h p c sh d q r b = absurd (cc)

-- a store's data is known where the load finds it and shares a byte with it
pub found_data : (st h p c sh d : Bool) → st ≡ true → h ≡ true → (p && not c) ≡ false → sh ≡ true → before_of st h p c sh d ≡ true → d ≡ true
found_data true true p c sh true q r n m b = refl
found_data true true true false true false q r n m b = absurd (cc)
found_data true true true true true false q r n m b = absurd (cc)
found_data true true false c true false q r n m b = absurd (cc)
found_data true true p c false false q r n m b = absurd (cc)
found_data true false p c sh d q r n m b = absurd (cc)
found_data false h p c sh d q r n m b = absurd (cc)

not_found : (lo co : Bool) (x v : ℕ) → co ≡ false → (if not lo && co then x else v) ≡ v
not_found true co x v q = refl
not_found false co x v q = rw q refl

not_looked : (lo co : Bool) (x v : ℕ) → lo ≡ true → (if not lo && co then x else v) ≡ v
not_looked true co x v q = refl
not_looked false co x v q = absurd (cc)

same2 : {A B C : Type 0} (g : A → B → C) (a a2 : A) (b b2 : B) → a2 ≡ a → b2 ≡ b → g a2 b2 ≡ g a b
same2 g a a2 b b2 p q = cc

same3 : {A B C D : Type 0} (g : A → B → C → D) (a a2 : A) (b b2 : B) (c c2 : C) → a2 ≡ a → b2 ≡ b → c2 ≡ c → g a2 b2 c2 ≡ g a b c
same3 g a a2 b b2 c c2 p q r = cc

same5 : {A B C D E F : Type 0} (g : A → B → C → D → E → F) (a a2 : A) (b b2 : B) (c c2 : C) (d d2 : D) (e e2 : E) → a2 ≡ a → b2 ≡ b → c2 ≡ c → d2 ≡ d → e2 ≡ e → g a2 b2 c2 d2 e2 ≡ g a b c d e
same5 g a a2 b b2 c c2 d d2 e e2 p q r s t = cc

-- which bytes an access reaches is told by where it stands
reaches_located : (a n : ℕ) (o : Option Outcome) → reaches a n (located o) ≡ reaches a n o
reaches_located a n None = refl
reaches_located a n (Some o) = refl

addr_located : (o : Option Outcome) → addr_of (located o) ≡ addr_of o
addr_located None = refl
addr_located (Some o) = refl

-- what of a store decides which bytes it covers
abbrev covers_as : ℕ → Item → Bool → Option Outcome → Bool
covers_as a i h o = is_store i.kind && h && reaches a (width_in i.instr) o

abbrev byte_at : ℕ → Item → ℕ → ℕ → ℕ
byte_at a i ad v = slice_index (to_le (width_in i.instr) v) (a - ad)

-- an older entry stands before the load as it has to, and the load finds the same byte at it
abbrev pub Seen : Entry → Entry → Entry → Type 0
Seen l e e2 = (stands_before l e2 ≡ true) × ((a v : ℕ) → InLoad l a → byte_else l a e2 v ≡ byte_else l a e v)

-- ---- a load that has issued before this cycle, and an older entry that goes on

module _ (now : ℕ) (l e e2 : Entry) (m : Moves now e e2) (load : is_load l.item.kind ≡ true) (earlier : is_before l.issued (Some now) ≡ true) where
  same_store : is_store e2.item.kind ≡ is_store e.item.kind
  same_store = ap (λ (i : Item). is_store i.kind) m.item

  no_store : (x : Entry) (a v : ℕ) → is_store x.item.kind ≡ false → byte_else l a x v ≡ v
  no_store x a v q = not_found (left_out l x) (covers a x) _ v (rw q refl)

  no_address : (x : Entry) (a v : ℕ) → is_store x.item.kind ≡ true → has_address x ≡ false → byte_else l a x v ≡ v
  no_address x a v q h = not_found (left_out l x) (covers a x) _ v (rw q (rw h refl))

  -- an older entry that is no store is seen as before
  by_none : is_store e.item.kind ≡ false → Seen l e e2
  by_none q = let q2 = same_store ∙ q in (rw q2 refl, λ a v i. no_store e2 a v q2 ∙ sym (no_store e a v q))

  -- what the load sees of an older store of known address
  module _ (q : is_store e.item.kind ≡ true) (h : has_address e ≡ true) (s : stands_before l e ≡ true) where
    same_due : e2.addr_due ≡ e.addr_due
    same_due = (m.address h).0

    same_address : has_address e2 ≡ has_address e
    same_address = ap is_some same_due

    same_passed : is_passed_by e2 l ≡ is_passed_by e l
    same_passed = ap (λ due. is_load l.item.kind && is_before l.issued due) same_due

    covers_same : (a : ℕ) → covers a e2 ≡ covers a e
    covers_same a =
        ap (λ r. is_store e2.item.kind && has_address e2 && r) (sym (reaches_located a (byte_count e2) e2.outcome))
        ∙ same3 (covers_as a) _ _ _ _ _ _ m.item same_address (m.address h).1
        ∙ ap (λ r. is_store e.item.kind && has_address e && r) (reaches_located a (byte_count e) e.outcome)

    same_shares : shares e2 l ≡ shares e l
    same_shares = ap (λ c. not (is_faulty l) && c) (any_agree _ _ (range (addr_of l.outcome) (byte_count l)) covers_same)

    same_finds : (a : ℕ) → finds l a e2 ≡ finds l a e
    same_finds a = same3 (λ p c co. not (p && not c) && co) _ _ _ _ _ _ same_passed m.cleared (covers_same a)

    -- where the load finds the store its data is known, and stays as it is
    same_byte : (a v : ℕ) → InLoad l a → (f : Bool) → finds l a e ≡ f → (if f then byte_from a e2 else v) ≡ (if f then byte_from a e else v)
    same_byte a v i false g = refl
    same_byte a v i true g =
        let f = found_parts (left_out l e) (covers a e) g in
        let d = found_data (is_store e.item.kind) (has_address e) (is_passed_by e l) e.cleared (shares e l) (has_data e) q h f.0 (shares_byte l e a i f.1) s in
        same3 (byte_at a) _ _ _ _ _ _ m.item (sym (addr_located e2.outcome) ∙ ap addr_of (m.address h).1 ∙ addr_located e.outcome) (m.stored d).1
      where
        found_parts : (lo co : Bool) → (not lo && co) ≡ true → (lo ≡ false) × (co ≡ true)
        found_parts false co g = (refl, g)
        found_parts true co g = absurd (cc)

    by_known : Seen l e e2
    by_known = (
      same5 (λ st h p c sh. before_of st h p c sh (has_data e2)) _ _ _ _ _ _ _ _ _ _ same_store same_address same_passed m.cleared same_shares
          ∙ more_data (is_store e.item.kind) (has_address e) (is_passed_by e l) e.cleared (shares e l) (has_data e) (has_data e2) (λ d. (m.stored d).0) s,
      λ a v i. ap (λ f. if f then byte_from a e2 else v) (same_finds a) ∙ same_byte a v i (finds l a e) refl,
    )

  -- a store of unknown address isn't cleared; where its address comes now the load passed it, and leaves it out
  by_unknown : is_store e.item.kind ≡ true → has_address e ≡ false → stands_before l e ≡ true → Seen l e e2
  by_unknown q h s = by_new (has_address e2) refl
    where
      uncleared : e2.cleared ≡ false
      uncleared = m.cleared ∙ unknown_uncleared (is_store e.item.kind) (has_address e) (is_passed_by e l) e.cleared (shares e l) (has_data e) q h s

      by_new : (h2 : Bool) → has_address e2 ≡ h2 → Seen l e e2
      by_new false k = (
        same3 (λ st h c. before_of st h (is_passed_by e2 l) c (shares e2 l) (has_data e2)) true _ false _ false _ (same_store ∙ q) k uncleared,
        λ a v i. no_address e2 a v (same_store ∙ q) k ∙ sym (no_address e a v q h),
      )
      by_new true k =
          let p : is_passed_by e2 l ≡ true = same2 (λ t due. t && is_before l.issued due) true _ (Some now) _ load (m.fresh h k) ∙ earlier in (
            same5 (λ st h p c d. before_of st h p c (shares e2 l) d) true _ true _ true _ false _ (has_data e2) (has_data e2) (same_store ∙ q) k p uncleared refl,
            λ a v i. not_looked (left_out l e2) (covers a e2) (byte_from a e2) v (same2 (λ p c. p && not c) true _ false _ p uncleared) ∙ sym (no_address e a v q h),
          )

  pub seen : stands_before l e ≡ true → Seen l e e2
  seen s = by_tests (is_store e.item.kind) (has_address e) refl refl
    where
      by_tests : (st h : Bool) → is_store e.item.kind ≡ st → has_address e ≡ h → Seen l e e2
      by_tests false h q k = by_none q
      by_tests true true q k = by_known q k s
      by_tests true false q k = by_unknown q k s

-- an entry sees another as before it changed: the instruction, what is Done with its outcome, and where it is a load
-- that has issued before this cycle, how it stands before it and its bytes
pub record Sees (now : ℕ) (l e e2 : Entry) : Type 0 where
  pub item : e2.item ≡ e.item
  pub done : is_done e.state ≡ true → (is_done e2.state ≡ true) × (e2.outcome ≡ e.outcome)
  pub load : is_load l.item.kind ≡ true → is_before l.issued (Some now) ≡ true → stands_before l e ≡ true → Seen l e e2

-- an entry sees one that goes on as before
pub sees_moves : (now : ℕ) (l e e2 : Entry) → Moves now e e2 → Sees now l e e2
sees_moves now l e e2 m = record { item = m.item; done = m.done; load = λ k i s. seen now l e e2 m k i s }

-- ---- a store that is cleared, and a load that isn't violated

clear_stands : (st h p c sh d : Bool) → (p && sh) ≡ false → h ≡ true → before_of st h p c sh d ≡ true → before_of st h p true sh d ≡ true
clear_stands false h p c sh d n k b = refl
clear_stands true true true c false d n k b = refl
clear_stands true true true c true d n k b = absurd (cc)
clear_stands true true false c sh d n k b = b
clear_stands true false p c sh d n k b = absurd (cc)

clear_finds : (co p c sh : Bool) → (p && sh) ≡ false → (co ≡ true → sh ≡ true) → (not (p && not true) && co) ≡ (not (p && not c) && co)
clear_finds co false c sh n m = refl
clear_finds co true true sh n m = refl
clear_finds false true false sh n m = refl
clear_finds true true false sh n m = absurd (let e = m refl in cc)

-- an entry sees a store that is cleared as before, unless it is violated
pub sees_clear : (now : ℕ) (l e : Entry) → has_address e ≡ true → is_violated e l ≡ false → Sees now l e (cleared_one e)
sees_clear now l e h n = record {
  item = refl;
  done = λ d. (d, refl);
  load = λ k i s. (
    clear_stands (is_store e.item.kind) (has_address e) (is_passed_by e l) e.cleared (shares e l) (has_data e) n h s,
    λ a v i. ap (λ f. if f then byte_from a e else v) (clear_finds (covers a e) (is_passed_by e l) e.cleared (shares e l) n (shares_byte l e a i)),
  );
}
