-- What Issue makes of an entry: it remains, or it begins, or a store's parts go; and what a load's access comes to.
use Rattle.std.proofs.Common.{◌≡◌, ℕ, ◌+◌, ◌-◌, ◌<◌, ◌≤◌, Bool, true, false, not, ◌&&◌, List, [], ◌∷◌, ◌++◌, length, Option, Some, None, refl, sym, subst, ◌∙◌, arith, length-append}
use Rattle.std.proofs.Math.Nat.{div-mul-le_self, mul-le-mul_right}
use Rattle.std.proofs.lemmas.Nat.{le-div}
use Rattle.std.proofs.lemmas.Bool.Decides.{nat_tests}
use Rattle.std.specs.List.{find}
use Rattle.std.specs.Option.{option_and_then, option_map, option_to_list}
use Rattle.std.specs.Prelude.{if◌then◌else◌, nat_le, nat_lt, ◌/◌, ◌==◌, map}
use Rattle.rv_types.specs.Isa.{Effect}
use Rattle.rv_types.specs.Memory.{load_fault}
use Rattle.rv_types.specs.declared.Cause.{Cause}
use Rattle.rv_types.specs.Value.{size_of}
use Rattle.rv_types.specs.declared.Op.{Op}
use Rattle.rv_types.specs.declared.Op.TheVariants.{Lw, Sw, Lh, Lhu, Sh}
use Rattle.rv_types.specs.declared.Kind.{Kind}
use Rattle.rv_types.specs.declared.Kind.TheVariants.{Load, Div}
use Rattle.machine_desc.specs.declared.Desc.{Desc}
use Rattle.window_model.specs.declared.Entry.{Entry}
use Rattle.window_model.specs.declared.Progress.{Progress}
use Rattle.window_model.specs.declared.Outcome.{Outcome}
use Rattle.window_model.specs.declared.Miss.{Miss}
use Rattle.window_model.specs.Around.{Around}
use Rattle.window_model.specs.Retire.{has_line, op_of, byte_count}
use Rattle.window_model.specs.Order.{Place, each_from, is_waiting, is_load, is_store, has_address, has_data, sources, base_of, others_of}
use Rattle.window_model.specs.State.{Machine, line_of, lines_of, upper_line}
use Rattle.window_model.specs.Taint.{any_tainted, address_tainted}
use Rattle.window_model.specs.Delay.{may_show}
use Rattle.window_model.specs.Ready.{is_known, all_known, ready}
use Rattle.window_model.specs.declared.lookup.Line.{Line}
use Rattle.window_model.specs.declared.lookup.Lines.{Lines}
use Rattle.window_model.specs.declared.lookup.Line.TheVariants.{Hits, Joins, Takes}
use Rattle.window_model.specs.declared.lookup.Request.{Request}
use Rattle.window_model.specs.declared.lookup.Access.{Access}
use Rattle.window_model.specs.declared.lookup.Access.TheVariants.{Faults, Forwards, Looks, Waits}
use Rattle.window_model.specs.Access.{access_at, in_order, look_up, looked_up, line_on_miss, request, request_by, requests, line_behind, prefetches, prefetch_request, unless_lacking, all_covered, any_store_hidden}
use Rattle.window_model.specs.MayIssue.{may_issue, may_issue_as, goes_behind, effect_of}
use Rattle.window_model.specs.Ports.{Port, AluPort, AddressPort, DataPort, DivPort, LoadPort, part_may, is_granted, may_at, port_of, same_port}
use Rattle.window_model.specs.Issue.{Begun, issue_entry, issue_whole, begin_as, executing_until, busy_until_both, with_address, with_data, load_as, access_of, waits, is_division, after_load}
use Rattle.window_model.specs.inner.Issue.{parts_as}
use Rattle.window_model.proofs.Together.{address_part, data_part, entry_parts, is_whole, issue_parts, ready_part}
use Rattle.window_model.proofs.Booleans.{both, not_true}
use Rattle.window_model.proofs.Counts.{Goes, goes_same, goes_then, Evolves}

-- ---- what entries that may issue are

-- what an entry that may issue is: it waits, its operands are there, and its kind lets it go
pub record MayIssue (d : Desc) (now : Around) (b : List Entry) (e : Entry) : Type 0 where
  pub waits : is_waiting e.state ≡ true
  pub ready : ready d b e ≡ true
  pub kind : may_issue_as e.item.kind d now b e ≡ true

-- an entry that may issue waits, is ready, and its kind lets it go
pub may_parts : (d : Desc) (now : Around) (b : List Entry) (e : Entry) → may_issue d now b e ≡ true → MayIssue d now b e
may_parts d now b e h =
    let p = both (is_waiting e.state && ready d b e) _ h in
    let q = both (is_waiting e.state) (ready d b e) p.0 in
    record { waits = q.0; ready = q.1; kind = p.1 }

-- a load that may issue has an untainted address
pub load_clean : (k : Kind) (d : Desc) (now : Around) (b : List Entry) (e : Entry) → may_issue_as k d now b e ≡ true → is_load k ≡ true → address_tainted d.stt_model b e ≡ false
load_clean Load d now b e h l = not_true _ (both (not (address_tainted d.stt_model b e)) (may_show d b) (both _ _ h).0).0
load_clean _ d now b e h l = absurd (cc)

-- what a load asks of the older stores
pub load_behind : (k : Kind) (d : Desc) (now : Around) (b : List Entry) (e : Entry) → may_issue_as k d now b e ≡ true → is_load k ≡ true → goes_behind d now b e ≡ true
load_behind Load d now b e h l = (both _ _ h).1
load_behind _ d now b e h l = absurd (cc)

-- a division that may issue has no tainted operand
pub division_clean : (k : Kind) (d : Desc) (now : Around) (b : List Entry) (e : Entry) → may_issue_as k d now b e ≡ true → is_division k ≡ true → any_tainted d.stt_model b e ≡ false
division_clean Div d now b e h l = not_true _ (both (not (any_tainted d.stt_model b e)) (may_show d b) (both _ _ h).0).0
division_clean _ d now b e h l = absurd (cc)

-- ---- what asks for which port

pub same_self : (p : Port) → same_port p p ≡ true
same_self AluPort = refl
same_self _ = refl

-- only loads ask for the loads' port, and only divisions for the divider's
pub at_load_port : (k : Kind) → same_port (port_of k) LoadPort ≡ true → k ≡ Load
at_load_port Load h = refl
at_load_port _ h = absurd (cc)

pub at_division_port : (k : Kind) → same_port (port_of k) DivPort ≡ true → k ≡ Div
at_division_port Div h = refl
at_division_port _ h = absurd (cc)

-- an entry in one piece may issue at its own port where it may issue
pub may_own : (d : Desc) (now : Around) (b : List Entry) (e : Entry) → is_store e.item.kind ≡ false → may_at d now (port_of e.item.kind) b e ≡ may_issue d now b e
may_own d now b e q = own (is_store e.item.kind) _ (may_issue d now b e) _ q (same_self (port_of e.item.kind))
  where
    own : (s p m q : Bool) → s ≡ false → q ≡ true → (if s then p else m && q) ≡ m
    own false p true q z h = h
    own false p false q z h = refl
    own true p m q z h = absurd (cc)

-- what asks for the loads' port or the divider's is in one piece, may issue, and has that port
pub record AsksWhole (d : Desc) (now : Around) (port : Port) (b : List Entry) (e : Entry) : Type 0 where
  pub may : may_issue d now b e ≡ true
  pub own : same_port (port_of e.item.kind) port ≡ true

asks_whole : (d : Desc) (now : Around) (port : Port) (b : List Entry) (e : Entry) → part_may port d b e ≡ false → may_at d now port b e ≡ true → AsksWhole d now port b e
asks_whole d now port b e n h = by_kind (is_store e.item.kind) _ n h
  where
    by_kind : (s p : Bool) → p ≡ false → (if s then p else may_issue d now b e && same_port (port_of e.item.kind) port) ≡ true → AsksWhole d now port b e
    by_kind false p z h = let q = both (may_issue d now b e) _ h in record { may = q.0; own = q.1 }
    by_kind true p z h = absurd (cc)

-- an entry that asks for the loads' port is a load that may issue
pub asks_load : (d : Desc) (now : Around) (b : List Entry) (e : Entry) → may_at d now LoadPort b e ≡ true → (may_issue d now b e ≡ true) × (e.item.kind ≡ Load)
asks_load d now b e h = let a = asks_whole d now LoadPort b e refl h in (a.may, at_load_port e.item.kind a.own)

-- an entry that asks for the divider is a division that may issue
pub asks_division : (d : Desc) (now : Around) (b : List Entry) (e : Entry) → may_at d now DivPort b e ≡ true → (may_issue d now b e ≡ true) × (e.item.kind ≡ Div)
asks_division d now b e h = let a = asks_whole d now DivPort b e refl h in (a.may, at_division_port e.item.kind a.own)

-- ---- the parts of a store

-- a part of a store may issue: it hasn't yet, and its own source is there
pub record MayGo (d : Desc) (has : Bool) (own : List ℕ) (b : List Entry) : Type 0 where
  pub fresh : has ≡ false
  pub known : all_known d b own ≡ true

known_base : (d : Desc) (b : List Entry) (rs : List ℕ) → all_known d b rs ≡ true → all_known d b (base_of rs) ≡ true
known_base d b [] h = refl
known_base d b (r ∷ rs) h = let q = (both (is_known d b r) (all_known d b rs) h).0 in rw q refl

known_others : (d : Desc) (b : List Entry) (rs : List ℕ) → all_known d b rs ≡ true → all_known d b (others_of rs) ≡ true
known_others d b [] h = refl
known_others d b (r ∷ rs) h = (both (is_known d b r) (all_known d b rs) h).1

own_ready : (d : Desc) (v : Bool) (own : List ℕ) (shows : Bool) (b : List Entry) (e : Entry) → (ready d b e ≡ true → all_known d b own ≡ true) → (if v then ready d b e && is_whole e && may_show d b else shows && all_known d b own) ≡ true → all_known d b own ≡ true
own_ready d true own shows b e f h = f (both (ready d b e) _ (both (ready d b e && is_whole e) _ h).0).0
own_ready d false own shows b e f h = (both shows _ h).1

go_of : (has : Bool) (d : Desc) (own : List ℕ) (shows : Bool) (b : List Entry) (e : Entry) → (ready d b e ≡ true → all_known d b own ≡ true) → (not has && ready_part d own shows b e) ≡ true → MayGo d has own b
go_of has d own shows b e f h =
    let p = both (not has) _ h in record { fresh = not_true has p.0; known = own_ready d (d.version == 1) own shows b e f p.1 }

-- ---- what becomes of it

-- the store once its address part, its data part or both have issued, as two tests say
abbrev pub gone_parts : Around → List Entry → Bool → Bool → Entry → Entry
gone_parts now b address data_ e =
    let f = effect_of now.regs b e in
    let a = (if address then with_address now f e else e) in
    if data_ then with_data now f a else a

-- what Issue makes of an entry that is no store: it remains as it is, or begins
pub data Comes (e r : Entry) : Type 0 where
  Remains : r ≡ e → Comes e r
  Begins : (cycle due : ℕ) (o : Outcome) → r ≡ executing_until cycle e due o → Comes e r

load_comes : (a : Access) (d : Desc) (now : Around) (e : Entry) (f : Effect) (v : ℕ) → Comes e (load_as a d now e f v).entry
load_comes (Faults c) d now e f v = Begins _ _ _ refl
load_comes Forwards d now e f v = Begins _ _ _ refl
load_comes (Looks found ahead) d now e f v = Begins _ _ _ refl
load_comes Waits d now e f v = Remains refl

-- as it begins, an entry of any kind remains as it is, or is busy with an outcome
pub begin_comes : (k : Kind) (d : Desc) (now : Around) (b : List Entry) (e : Entry) → Comes e (begin_as k d now b e).entry
begin_comes Load d now b e = load_comes (access_of d now b e) d now e _ _
begin_comes _ d now b e = Begins _ _ _ refl

-- what holds of an entry that remains, of one that begins and of a store whose parts go holds of what Issue makes of it
module _ (d : Desc) (now : Around) (b : List Entry) (e : Entry) (P : Entry → Type 0) (remains : P e)
    (begins : is_store e.item.kind ≡ false → MayIssue d now b e → P (begin_as e.item.kind d now b e).entry)
    (parts : is_store e.item.kind ≡ true → (a c : Bool) → (a ≡ true → MayGo d (has_address e) (base_of (sources e)) b) → (c ≡ true → MayGo d (has_data e) (others_of (sources e)) b) → P (gone_parts now b a c e)) where
  granted_if : (a c : Bool) → P (gone_parts now b a c e) → P (parts_as a c d now (effect_of now.regs b e) e).entry
  granted_if true true h = h
  granted_if true false h = h
  granted_if false true h = h
  granted_if false false h = h

  by_store : is_store e.item.kind ≡ true → P (issue_parts d now b e).entry
  by_store s =
      granted_if (is_granted d now AddressPort b e) (is_granted d now DataPort b e)
      (parts s _ _
      (λ g. go_of (has_address e) d (base_of (sources e)) (may_show d b) b e (known_base d b (sources e)) (sym (address_part d b e) ∙ may_go (is_store e.item.kind) s _ _ (both (may_at d now AddressPort b e) _ g).0))
      (λ g. go_of (has_data e) d (others_of (sources e)) true b e (known_others d b (sources e)) (sym (data_part d b e) ∙ may_go (is_store e.item.kind) s _ _ (both (may_at d now DataPort b e) _ g).0)))
    where
      may_go : (s : Bool) → s ≡ true → (p m : Bool) → (if s then p else m) ≡ true → p ≡ true
      may_go true q p m h = h
      may_go false q p m h = absurd (cc)

  by_whole : is_store e.item.kind ≡ false → P (issue_whole d now b e).entry
  by_whole s = by_grant (is_granted d now (port_of e.item.kind) b e) refl
    where
      by_grant : (g : Bool) → is_granted d now (port_of e.item.kind) b e ≡ g → P (if g then begin_as e.item.kind d now b e else waits e).entry
      by_grant true q = begins s (may_parts d now b e (sym (may_own d now b e s) ∙ (both (may_at d now (port_of e.item.kind) b e) _ q).0))
      by_grant false q = remains

  -- what holds of an entry that remains, that begins whole and of which parts go holds of what Issue makes of it
  pub by_issue : P (issue_entry d now b e).entry
  by_issue = subst (λ (t : Begun). P t.entry) (sym (entry_parts d now b e)) (by_kind (is_store e.item.kind) refl)
    where
      by_kind : (s : Bool) → is_store e.item.kind ≡ s → P (if s then issue_parts d now b e else issue_whole d now b e).entry
      by_kind true q = by_store q
      by_kind false q = by_whole q

-- ---- what issues goes on as entries may

comes_goes : (e r : Entry) → Comes e r → Goes e r
comes_goes e r (Remains q) = subst (Goes e) (sym q) (goes_same e)
comes_goes e r (Begins cycle due o q) = subst (Goes e) (sym q) (record { item = refl; serial = refl; waits = λ h. absurd (cc) })

-- as it begins, an entry of any kind keeps its item and serial, and doesn't come to wait
pub begin_goes : (k : Kind) (d : Desc) (now : Around) (b : List Entry) (e : Entry) → Goes e (begin_as k d now b e).entry
begin_goes k d now b e = comes_goes e _ (begin_comes k d now b e)

-- a store waits once a part issues only where it waited before
pub both_goes : (a c : Option ℕ) (s : Progress) → is_waiting (busy_until_both a c s) ≡ true → is_waiting s ≡ true
both_goes (Some a) (Some c) s h = absurd (cc)
both_goes (Some a) None s h = h
both_goes None c s h = h

-- a store of which a part issues keeps its item and serial, and doesn't wait again
pub address_goes : (now : Around) (f : Effect) (e : Entry) → Goes e (with_address now f e)
address_goes now f e = record { item = refl; serial = refl; waits = both_goes (Some (now.cycle + 1)) e.data_due e.state }

pub data_goes : (now : Around) (f : Effect) (e : Entry) → Goes e (with_data now f e)
data_goes now f e = record { item = refl; serial = refl; waits = both_goes e.addr_due (Some (now.cycle + 1)) e.state }

pub parts_go : (now : Around) (b : List Entry) (e : Entry) (a c : Bool) → Goes e (gone_parts now b a c e)
parts_go now b e true true =
    let f = effect_of now.regs b e in goes_then e (with_address now f e) _ (address_goes now f e) (data_goes now f (with_address now f e))
parts_go now b e true false = address_goes now (effect_of now.regs b e) e
parts_go now b e false true = data_goes now (effect_of now.regs b e) e
parts_go now b e false false = goes_same e

-- what Issue makes of an entry has its item and serial, and doesn't come to wait
pub issue_goes : (d : Desc) (now : Around) (b : List Entry) (e : Entry) → Goes e (issue_entry d now b e).entry
issue_goes d now b e = by_issue d now b e (Goes e) (goes_same e) (λ s m. begin_goes e.item.kind d now b e) (λ s a c g h. parts_go now b e a c)

-- the window that Issue leaves has evolved from the one before
pub issue_evolves : (d : Desc) (now : Around) (b es : List Entry) → Evolves es (map (λ (t : Begun). t.entry) (each_from (issue_entry d now) b es))
issue_evolves d now b [] = tt
issue_evolves d now b (e ∷ es) = (issue_goes d now b e, issue_evolves d now (e ∷ b) es)

-- ---- what an access comes to

-- what holds in each case of a line holds of it: a load joins a register that was found, and takes one where none was
-- found
module _ (d : Desc) (now : Around) (line : ℕ) (L : Line → Type 0)
    (hits : has_line d now.cache line ≡ true → L (Hits line))
    (joins : (m : Miss) → find (λ m. m.line == line) now.misses ≡ Some m → L (Joins line m.due))
    (takes : find (λ m. m.line == line) now.misses ≡ None → L (Takes (request d now line))) where
  by_register : (o : Option Miss) → find (λ m. m.line == line) now.misses ≡ o → L (line_on_miss d now line o)
  by_register (Some m) h = joins m h
  by_register None h = takes h

  -- what holds of a line that hits, that joins a register and that takes one holds of each line looked up
  pub by_line : L (look_up d now line)
  by_line = by_cache (has_line d now.cache line) refl
    where
      by_cache : (b : Bool) → has_line d now.cache line ≡ b → L (if b then Hits line else line_on_miss d now line (find (λ m. m.line == line) now.misses))
      by_cache true h = hits h
      by_cache false h = by_register _ refl

-- an access has one line, or a lower and a higher one
pub data OneOrTwo : ℕ → Option ℕ → Type 0 where
  One : (line : ℕ) → OneOrTwo line None
  Two : (low high : ℕ) → low < high → OneOrTwo low (Some high)

-- an access of at least one byte has one line, or a lower and a higher one
pub lines_are : (d : Desc) (a n : ℕ) → 0 < n → OneOrTwo (line_of d a) (upper_line d a n)
lines_are d a n some = by_same (line_of d a == line_of d (a + n - 1)) refl
  where
    first : a / d.cache_line ≤ (a + n - 1) / d.cache_line
    first = let l = div-mul-le_self a d.cache_line in le-div (a / d.cache_line) (a + n - 1) d.cache_line (omega (arith, d.stands.line.0)) (omega (arith, l, some))

    up : line_of d a ≤ line_of d (a + n - 1)
    up = mul-le-mul_right d.cache_line first

    by_same : (b : Bool) → (line_of d a == line_of d (a + n - 1)) ≡ b → OneOrTwo (line_of d a) (if b then None else Some (line_of d (a + n - 1)))
    by_same true h = One _
    by_same false h = Two _ _ (grind (arith, nat_tests, up))

-- at most one line is prefetched
pub one_at_most : {A : Type 0} (o : Option A) → length (option_to_list o) ≤ 1
one_at_most None = omega arith
one_at_most (Some x) = omega arith

-- lines that are looked up take at most one miss register each
pub requests_few : (found : Lines) → length (requests found) ≤ length (in_order found)
requests_few found = by_upper found.lower found.upper
  where
    by_upper : (l : Line) (o : Option Line) → length (option_to_list (request_by l) ++ option_to_list (option_and_then request_by o)) ≤ length (l ∷ option_to_list o)
    by_upper l None = let a = length-append (option_to_list (request_by l)) [] in let r = one_at_most (request_by l) in omega (arith, a, r)
    by_upper l (Some u) =
        let a = length-append (option_to_list (request_by l)) (option_to_list (request_by u)) in
        let r = one_at_most (request_by l) in
        let q = one_at_most (request_by u) in
        omega (arith, a, r, q)

-- as many lines are looked up as an access has
pub as_many : (d : Desc) (now : Around) (a n : ℕ) → length (in_order (looked_up d now a n)) ≡ length (lines_of d a n)
as_many d now a n = by_upper (upper_line d a n)
  where
    by_upper : (o : Option ℕ) → length (look_up d now (line_of d a) ∷ option_to_list (option_map (look_up d now) o)) ≡ length (line_of d a ∷ option_to_list o)
    by_upper None = refl
    by_upper (Some line) = refl

-- what holds of nothing holds of what is prefetched, if it holds of one line that lies in memory, for which no register
-- waits and one is left
pub by_prefetched : (d : Desc) (now : Around) (found : Lines) (P : Option Request → Type 0) → P None →
    (line_behind d found < now.ram.base + length now.ram.bytes → length now.misses + length (requests found) < d.cache_mshrs →
    find (λ m. m.line == line_behind d found) now.misses ≡ None → P (Some (request d now (line_behind d found)))) → P (prefetch_request d now found)
by_prefetched d now found P none one = by_test (prefetches d now found) refl
  where
    by_test : (b : Bool) → prefetches d now found ≡ b → P (if b then request_by (look_up d now (line_behind d found)) else None)
    by_test false h = none
    by_test true h =
        let p = both (d.cache_prefetch == 1 && nat_lt 0 (length (requests found)) && nat_lt (line_behind d found) (now.ram.base + length now.ram.bytes)) _ h in
        let q = both (d.cache_prefetch == 1 && nat_lt 0 (length (requests found))) _ p.0 in
        by_line d now (line_behind d found) (λ l. P (request_by l)) (λ c. none) (λ m c. none) (λ c. one (grind (arith, nat_tests, q)) (grind (arith, nat_tests, p)) c)

-- an access has some bytes
pub some_bytes : (op : Op) → 0 < size_of op
some_bytes Lw = omega arith
some_bytes Sw = omega arith
some_bytes Lh = omega arith
some_bytes Lhu = omega arith
some_bytes Sh = omega arith
some_bytes _ = omega arith

-- what holds of forwarded bytes, of lines that there are miss registers enough for, and of waiting, holds of every
-- access without fault
module _ (d : Desc) (now : Around) (P : Access → Type 0) (forwards : P Forwards)
    (looks : (a n : ℕ) → 0 < n → let found = looked_up d now a n in length now.misses + length (requests found) ≤ d.cache_mshrs → P (Looks found (prefetch_request d now found)))
    (waits : (a n : ℕ) → 0 < n → d.cache_mshrs < length now.misses + length (requests (looked_up d now a n)) → P Waits) where
  by_lacking : (a n : ℕ) → 0 < n → P (unless_lacking d now (looked_up d now a n))
  by_lacking a n some = by_room (nat_le (length now.misses + length (requests (looked_up d now a n))) d.cache_mshrs) refl
    where
      by_room : (b : Bool) → nat_le (length now.misses + length (requests (looked_up d now a n))) d.cache_mshrs ≡ b → P (if b then Looks (looked_up d now a n) (prefetch_request d now (looked_up d now a n)) else Waits)
      by_room true h = looks a n some (grind (arith, nat_tests))
      by_room false h = waits a n some (grind (arith, nat_tests))

  -- what holds in each case of an access without fault holds of each access without fault
  pub by_served : (b : List Entry) (a n : ℕ) → 0 < n → P (access_at d now b a n None)
  by_served b a n some = if_then (all_covered b a n && not (any_store_hidden d.stt_model b))
    where
      if_then : (c : Bool) → P (if c then Forwards else unless_lacking d now (looked_up d now a n))
      if_then true = forwards
      if_then false = by_lacking a n some

  -- what holds of a fault, too, holds of every access of a load
  module _ (faults : (c : Cause) → P (Faults c)) where
    by_fault : (b : List Entry) (a n : ℕ) (o : Option Cause) → 0 < n → P (access_at d now b a n o)
    by_fault b a n (Some c) some = faults c
    by_fault b a n None some = by_served b a n some

    -- what holds in each case of an access, a fault among them, holds of the access of a load
    pub by_load : (b : List Entry) (e : Entry) → P (access_of d now b e)
    by_load b e =
        let a = (effect_of now.regs b e).addr in
        by_fault b a (byte_count e) (load_fault now.ram a (byte_count e)) (some_bytes (op_of e.item.instr))

-- ---- what a load leaves

-- what holds whatever the cache, the second level and the miss registers holds after the one load that is tried
pub by_after_load : (d : Desc) (x : Machine) (P : Machine → Type 0) → ((cache second : List (List ℕ)) (misses : List Miss) → P (record x { cache = cache; second = second; misses = misses })) → (o : Option Place) → P (after_load d o x)
by_after_load d x P h None = h x.cache x.second x.misses
by_after_load d x P h (Some p) = h _ _ _
