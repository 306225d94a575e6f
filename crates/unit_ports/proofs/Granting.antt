-- What is left of each port as entries ask, one after the other.
use Rattle.std.proofs.Common.{◌≡◌, ℕ, ◌+◌, ◌-◌, Bool, true, false, ◌&&◌, List, refl, sym, subst, ap, ◌∙◌, arith}
use Rattle.std.proofs.lemmas.Bool.Decides.{nat_tests}
use Rattle.std.specs.Prelude.{if◌then◌else◌, nat_lt}
use Rattle.rv_types.specs.Value.{one_if}
use Rattle.rv_types.specs.declared.Kind.{Kind}
use Rattle.rv_types.specs.declared.Kind.TheVariants.{Mul, Div, Load, Store}
use Rattle.machine_desc.specs.declared.Desc.{Desc}
use Rattle.window_model.specs.declared.Entry.{Entry}
use Rattle.window_model.specs.Order.{is_store}
use Rattle.window_model.specs.MayIssue.{may_issue}
use Rattle.window_model.specs.Ports.{Port, AluPort, MulPort, DivPort, AddressPort, DataPort, LoadPort, asking, may_at, part_may, port_of, ports, same_port}
use Rattle.unit_ports.specs.Ports.{Ports, begun_at, left_at, port_for, taken_at}
use Rattle.unit_ports.specs.Laws.{OpensWithAll, LeavesAsCounted, StoresAskAtBoth, GrantsAsCounted, if_asked}

-- a port that is taken, seen at a port
taken : (p q : Port) (l : Ports) → left_at q (taken_at p l) ≡ (if same_port p q then left_at q l - 1 else left_at q l)
taken AluPort AluPort l = refl
taken AluPort _ l = refl
taken MulPort MulPort l = refl
taken MulPort _ l = refl
taken DivPort DivPort l = refl
taken DivPort _ l = refl
taken AddressPort AddressPort l = refl
taken AddressPort _ l = refl
taken DataPort DataPort l = refl
taken DataPort _ l = refl
taken LoadPort LoadPort l = refl
taken LoadPort _ l = refl

if_taken : (m : Bool) (p q : Port) (l : Ports) → left_at q (if_asked m p l) ≡ (if m then (if same_port p q then left_at q l - 1 else left_at q l) else left_at q l)
if_taken true p q l = taken p q l
if_taken false p q l = refl

and_true : (m : Bool) → m ≡ (m && true)
and_true true = refl
and_true false = refl

-- an entry that is no store may issue at no port but its own
own : (k : Kind) (q : Port) (d : Desc) (b : List Entry) (e : Entry) (m : Bool) → is_store k ≡ false
    → (if is_store k then part_may q d b e else m && same_port (port_of k) q)
    ≡ ((if is_store k then part_may (port_for k) d b e else m && same_port (port_of k) (port_for k)) && same_port (port_for k) q)
own Store q d b e m h = absurd (cc)
own Mul q d b e m h = ap (λ n. n && same_port MulPort q) (and_true m)
own Div q d b e m h = ap (λ n. n && same_port DivPort q) (and_true m)
own Load q d b e m h = ap (λ n. n && same_port LoadPort q) (and_true m)
own _ q d b e m h = ap (λ n. n && same_port AluPort q) (and_true m)

-- the ports that are left of a kind, once one entry more has asked for its own
fewer : (m s t : Bool) (l n a : ℕ) → t ≡ (m && s) → l ≡ n - a → (if m then (if s then l - 1 else l) else l) ≡ n - (one_if t + a)
fewer true true t l n a p h = subst (λ t. l - 1 ≡ n - (one_if t + a)) (sym p) (omega arith)
fewer true false t l n a p h = subst (λ t. l ≡ n - (one_if t + a)) (sym p) (omega arith)
fewer false s t l n a p h = subst (λ t. l ≡ n - (one_if t + a)) (sym p) (omega arith)

-- the ports that are left of a kind, once one entry more has asked at this kind alone
fewer_one : (t : Bool) (l n a : ℕ) → l ≡ n - a → (if t then l - 1 else l) ≡ n - (one_if t + a)
fewer_one true l n a h = omega (arith, h)
fewer_one false l n a h = omega (arith, h)

-- a store's two parts, where each may issue or not
abbrev part : Bool → Bool → Port → Bool
part a b AddressPort = a
part a b DataPort = b
part a b _ = false

parted : (k : Kind) (q : Port) (d : Desc) (b : List Entry) (e : Entry) (m : Bool) → is_store k ≡ true
    → (if is_store k then part_may q d b e else m && same_port (port_of k) q)
    ≡ part (if is_store k then part_may AddressPort d b e else m && same_port (port_of k) AddressPort) (if is_store k then part_may DataPort d b e else m && same_port (port_of k) DataPort) q
parted Store AddressPort d b e m h = refl
parted Store DataPort d b e m h = refl
parted Store _ d b e m h = refl
parted _ q d b e m h = absurd (cc)

-- what the two parts of a store leave of each port
both_left : (a b : Bool) (q : Port) (l : Ports) → left_at q (if_asked b DataPort (if_asked a AddressPort l)) ≡ (if part a b q then left_at q l - 1 else left_at q l)
both_left true true q l = both q
  where
    both : (q : Port) → left_at q (taken_at DataPort (taken_at AddressPort l)) ≡ (if part true true q then left_at q l - 1 else left_at q l)
    both AddressPort = refl
    both DataPort = refl
    both _ = refl
both_left false true q l = taken DataPort q l ∙ same q
  where
    same : (q : Port) → (if same_port DataPort q then left_at q l - 1 else left_at q l) ≡ (if part false true q then left_at q l - 1 else left_at q l)
    same AddressPort = refl
    same DataPort = refl
    same _ = refl
both_left true false q l = taken AddressPort q l ∙ same q
  where
    same : (q : Port) → (if same_port AddressPort q then left_at q l - 1 else left_at q l) ≡ (if part true false q then left_at q l - 1 else left_at q l)
    same AddressPort = refl
    same DataPort = refl
    same _ = refl
both_left false false q l = same q
  where
    same : (q : Port) → left_at q l ≡ (if part false false q then left_at q l - 1 else left_at q l)
    same AddressPort = refl
    same DataPort = refl
    same _ = refl

some_left : (l n a : ℕ) → l ≡ n - a → nat_lt 0 l ≡ nat_lt a n
some_left l n a h = grind (arith, nat_tests)

-- every port is left as a cycle begins
pub left_first : OpensWithAll
left_first d now cycle l h = record { each_port = each }
  where
    each : (q : Port) → left_at q (begun_at cycle l) ≡ ports d q - 0
    each AluPort = omega (arith, h)
    each MulPort = refl
    each DivPort = refl
    each AddressPort = refl
    each DataPort = refl
    each LoadPort = refl

-- an entry that is no store asks at the port of its kind where it may issue
pub left_more : LeavesAsCounted
left_more d now before e l h s =
    let p = port_for e.item.kind in
    let m = may_at d now p before e in
    record {
      each_port = λ q. if_taken m p q l
          ∙ fewer m (same_port p q) (may_at d now q before e) (left_at q l) (ports d q) (asking d now q before)
          (own e.item.kind q d before e (may_issue d now before e) h) (s.each_port q);
    }

-- a store asks at two ports, for each of its parts where that may issue
pub left_by_store : StoresAskAtBoth
left_by_store d now before e l h s =
    let a = may_at d now AddressPort before e in
    let b = may_at d now DataPort before e in
    record {
      each_port = λ q.
          let t : may_at d now q before e ≡ part a b q = parted e.item.kind q d before e (may_issue d now before e) h in
          both_left a b q l ∙ subst (λ t. (if t then left_at q l - 1 else left_at q l) ≡ ports d q - (one_if (may_at d now q before e) + asking d now q before)) t
          (fewer_one (may_at d now q before e) (left_at q l) (ports d q) (asking d now q before) (s.each_port q));
    }

-- an entry that may issue at a port gets one exactly where the definition grants it
pub granted_is : GrantsAsCounted
granted_is d now port before e l s =
    let t = some_left (left_at port l) (ports d port) (asking d now port before) (s.each_port port) in
    ap (λ b. may_at d now port before e && b) t
