-- Which ports an entry asks for: one in one piece for its own, where it may issue; a store for that of each part, where
-- the part may.
use Rattle.std.proofs.Common.{◌≡◌, ℕ, zero, suc, Bool, true, false, not, ◌&&◌, ◌||◌, List, [], ◌∷◌, Some, refl, ap, ap₂, sym, subst, ◌∙◌, slice_get, eqb-true}
use Rattle.std.specs.Prelude.{◌==◌, if◌then◌else◌, nat_lt}
use Rattle.std.specs.List.{AllByRecursion as Each}
use Rattle.std.proofs.Math.Bool.{and-false, and-true}
use Rattle.rv_types.specs.declared.Kind.{Kind}
use Rattle.rv_types.specs.declared.Kind.TheVariants.{Div, Load, Mul, Store}
use Rattle.machine_desc.specs.declared.Desc.{Desc}
use Rattle.machine_desc.specs.Questions.{stores_in_one}
use Rattle.window_model.specs.declared.Entry.{Entry}
use Rattle.window_model.specs.Around.{Around}
use Rattle.window_model.specs.Along.{Fact}
use Rattle.window_model.specs.Delay.{may_show}
use Rattle.window_model.specs.MayIssue.{may_issue, may_issue_as}
use Rattle.window_model.specs.Ports.{Port, AddressPort, DataPort, asking, is_granted, may_at, part_may, port_of, ports, same_port}
use Rattle.window_model.proofs.Together.{address_part, data_part, is_whole, ready_part}
use Rattle.window_model.proofs.Booleans.{both, neither}
use Rattle.window_model.specs.Order.{base_of, has_address, has_data, is_store, is_waiting, others_of, sources}
use Rattle.window_model.specs.Ready.{all_known, ready}
use Rattle.machine_facts.specs.Sized.{HasParts, Together}
use Rattle.unit_ports.specs.Ports.{port_for}
use Rattle.stations.specs.declared.wants.Part.{Part}
use Rattle.stations.specs.declared.wants.Part.TheVariants as part
use Rattle.stations.specs.declared.wants.Wants.TheVariants as wants
use Rattle.refinement.specs.Waiters.{wants_by, wants_of}
use Rattle.refinement.specs.Telling.{has_sources, own_of}
use Rattle.issue.specs.Ports.{has_issued, part_port, part_shows}
use Rattle.issue.specs.declared.seen.Seen.{Seen}
use Rattle.issue.specs.State.{IssueInvariant, StandsAt}

-- the entry may issue at no port
abbrev pub AsksNone : Desc → Around → Fact
AsksNone d now before e = (port : Port) → may_at d now port before e ≡ false

-- what holds of each holds of the one at a position
each_here : {X : Type 0} (P : X → Type 0) (xs : List X) (i : ℕ) (x : X) → Each P xs → slice_get xs i ≡ Some x → P x
each_here P [] i x a h = absurd (cc)
each_here P (y ∷ xs) zero x a h = let same : y ≡ x = cc in subst P same a.0
each_here P (y ∷ xs) (suc i) x a h = each_here P xs i x a.1 h

-- what is known of the parts of a store: one that waits lacks one, any other has both; in version 1 they go together
pub record InStep (d : Desc) (e : Entry) : Type 0 where
  pub parts : HasParts e
  pub together : Together d e

-- an entry at a position of the window is within a step, where each entry has its parts and they go together
pub step_at : (d : Desc) (es : List Entry) (i : ℕ) (e : Entry) → Each HasParts es → Each (Together d) es → slice_get es i ≡ Some e → InStep d e
step_at d es i e p t h = record { parts = each_here HasParts es i e p h; together = each_here (Together d) es i e t h }

pub in_step : (s : Seen) (i : ℕ) (e : Entry) → IssueInvariant s → StandsAt s i e → InStep s.desc.now e
in_step s i e t h = step_at s.desc.now s.rob.now.entries i e t.store_parts t.together h

-- ---- an entry in one piece

own_as : (k : Kind) (p m : Bool) → is_store k ≡ false → (if is_store k then p else m && same_port (port_of k) (port_for k)) ≡ m
own_as Store p m h = absurd (cc)
own_as Mul p m h = and-true m
own_as Div p m h = and-true m
own_as Load p m h = and-true m
own_as _ p m h = and-true m

module _ (d : Desc) (now : Around) (before : List Entry) (e : Entry) where
  -- an entry that is no store may issue at the port of its kind exactly where it may issue at all
  pub asks_own : is_store e.item.kind ≡ false → may_at d now (port_for e.item.kind) before e ≡ may_issue d now before e
  asks_own s = own_as e.item.kind (part_may (port_for e.item.kind) d before e) (may_issue d now before e) s

  -- an entry that is granted the port of its kind may issue
  pub granted_may : is_store e.item.kind ≡ false → is_granted d now (port_for e.item.kind) before e ≡ true → may_issue d now before e ≡ true
  granted_may s g = sym (asks_own s) ∙ (both (may_at d now (port_for e.item.kind) before e) _ g).0

  whole_none : is_store e.item.kind ≡ false → may_issue d now before e ≡ false → AsksNone d now before e
  whole_none s n port =
      ap (λ t. if t then part_may port d before e else may_issue d now before e && same_port (port_of e.item.kind) port) s
      ∙ ap (λ m. m && same_port (port_of e.item.kind) port) n

  -- ---- a store, which asks for two ports

  -- a part of it asks at its port where it may issue
  pub part_asks : (port : Port) → is_store e.item.kind ≡ true → may_at d now port before e ≡ part_may port d before e
  part_asks port s = ap (λ t. if t then part_may port d before e else may_issue d now before e && same_port (port_of e.item.kind) port) s

  -- a store whose address part is granted its port has issued no address
  pub fresh_address : is_store e.item.kind ≡ true → is_granted d now AddressPort before e ≡ true → has_address e ≡ false
  fresh_address s g = lacks (has_address e) (both (not (has_address e)) _ (sym (address_part d before e) ∙ sym (part_asks AddressPort s) ∙ (both (may_at d now AddressPort before e) _ g).0)).0
    where
      lacks : (b : Bool) → not b ≡ true → b ≡ false
      lacks true h = absurd (cc)
      lacks false h = refl

  pub fresh_data : is_store e.item.kind ≡ true → is_granted d now DataPort before e ≡ true → has_data e ≡ false
  fresh_data s g = lacks (has_data e) (both (not (has_data e)) _ (sym (data_part d before e) ∙ sym (part_asks DataPort s) ∙ (both (may_at d now DataPort before e) _ g).0)).0
    where
      lacks : (b : Bool) → not b ≡ true → b ≡ false
      lacks true h = absurd (cc)
      lacks false h = refl

  store_none : is_store e.item.kind ≡ true → part_may AddressPort d before e ≡ false → part_may DataPort d before e ≡ false → AsksNone d now before e
  store_none s a c port = part_asks port s ∙ by_port port
    where
      by_port : (port : Port) → part_may port d before e ≡ false
      by_port AddressPort = a
      by_port DataPort = c
      by_port _ = refl

  address_gone : has_address e ≡ true → part_may AddressPort d before e ≡ false
  address_gone h = address_part d before e ∙ ap (λ a. not a && ready_part d (base_of (sources e)) (may_show d before) before e) h

  data_gone : has_data e ≡ true → part_may DataPort d before e ≡ false
  data_gone h = data_part d before e ∙ ap (λ a. not a && ready_part d (others_of (sources e)) true before e) h

  address_waits : ready_part d (base_of (sources e)) (may_show d before) before e ≡ false → part_may AddressPort d before e ≡ false
  address_waits h = address_part d before e ∙ ap (λ r. not (has_address e) && r) h ∙ and-false (not (has_address e))

  data_waits : ready_part d (others_of (sources e)) true before e ≡ false → part_may DataPort d before e ≡ false
  data_waits h = data_part d before e ∙ ap (λ r. not (has_data e) && r) h ∙ and-false (not (has_data e))

  -- ---- who asks for none

  -- an entry that doesn't wait asks for no port
  pub not_waiting : InStep d e → is_waiting e.state ≡ false → AsksNone d now before e
  not_waiting t w = by_store (is_store e.item.kind) refl
    where
      by_store : (s : Bool) → is_store e.item.kind ≡ s → AsksNone d now before e
      by_store false s = whole_none s (ap (λ w. w && ready d before e && may_issue_as e.item.kind d now before e) w)
      by_store true s = let p = both (has_address e) (has_data e) (t.parts s ∙ ap not w) in store_none s (address_gone p.0) (data_gone p.1)

  -- in version 1 a part asks for both sources and that the entry may show them, in version 2 for its own, which it may
  -- have to show
  ready_in : (v : Bool) (own : List ℕ) (shows r : Bool) → (d.version == 1) ≡ v →
      (if v then ready d before e && is_whole e && may_show d before else shows && all_known d before own) ≡ r → ready_part d own shows before e ≡ r
  ready_in v own shows r q h = ap (λ v. if v then ready d before e && is_whole e && may_show d before else shows && all_known d before own) q ∙ h

  -- the address part waits for its base, the data part for its register
  base_lacks : (d.version == 1) ≡ false → all_known d before (base_of (sources e)) ≡ false → part_may AddressPort d before e ≡ false
  base_lacks v h = address_waits (ready_in false (base_of (sources e)) (may_show d before) false v (ap (λ k. may_show d before && k) h ∙ and-false (may_show d before)))

  other_lacks : (d.version == 1) ≡ false → all_known d before (others_of (sources e)) ≡ false → part_may DataPort d before e ≡ false
  other_lacks v h = data_waits (ready_in false (others_of (sources e)) true false v h)

  parts_none : (a c : Bool) → (d.version == 1) ≡ false → is_store e.item.kind ≡ true → has_address e ≡ a → has_data e ≡ c → has_sources (wants_by a c) d before e ≡ false → AsksNone d now before e
  parts_none false false v s a c h =
      let n = neither (all_known d before (base_of (sources e))) (all_known d before (others_of (sources e))) h in store_none s (base_lacks v n.0) (other_lacks v n.1)
  parts_none false true v s a c h = store_none s (base_lacks v h) (data_gone c)
  parts_none true c v s a q h = store_none s (address_gone a) (other_lacks v h)

  by_wants : (s v : Bool) → is_store e.item.kind ≡ s → (d.version == 1) ≡ v → is_waiting e.state ≡ true →
      has_sources (if s && not v then wants_by (has_address e) (has_data e) else wants.Whole) d before e ≡ false → AsksNone d now before e
  by_wants false v s q w h =
      whole_none s (ap (λ r. is_waiting e.state && r && may_issue_as e.item.kind d now before e) h
      ∙ ap (λ w. w && may_issue_as e.item.kind d now before e) (and-false (is_waiting e.state)))
  by_wants true true s q w h =
      let none : (ready d before e && is_whole e && may_show d before) ≡ false = ap (λ r. r && is_whole e && may_show d before) h in
      store_none s (address_waits (ready_in true (base_of (sources e)) (may_show d before) false q none)) (data_waits (ready_in true (others_of (sources e)) true false q none))
  by_wants true false s q w h = parts_none (has_address e) (has_data e) q s refl refl h

  -- an entry that waits and lacks what it wants asks for no port
  pub not_able : is_waiting e.state ≡ true → has_sources (wants_of d.version e) d before e ≡ false → AsksNone d now before e
  not_able w h = by_wants (is_store e.item.kind) (d.version == 1) refl refl w h

-- ---- what it is granted

-- an entry that asks for no port is granted none
pub grants_none : (d : Desc) (now : Around) (port : Port) (before : List Entry) (e : Entry) → AsksNone d now before e → is_granted d now port before e ≡ false
grants_none d now port before e h = ap (λ m. m && nat_lt (asking d now port before) (ports d port)) (h port)

-- ---- what is there where an entry is able

-- an entry that issues in one piece has all its sources where it has what it wants
pub whole_ready : (d : Desc) (before : List Entry) (e : Entry) → is_store e.item.kind ≡ false → has_sources (wants_of d.version e) d before e ≡ true → ready d before e ≡ true
whole_ready d before e s h = sym (ap (λ s. has_sources (if s && not (d.version == 1) then wants_by (has_address e) (has_data e) else wants.Whole) d before e) s) ∙ h

-- a store in version 1 that waits has issued neither part, since both issue together
whole_by : (a b w : Bool) → (a && b) ≡ not w → a ≡ b → w ≡ true → not (a || b) ≡ true
whole_by true true true h q p = absurd (cc)
whole_by false false true h q p = refl
whole_by true false w h q p = absurd (cc)
whole_by false true w h q p = absurd (cc)
whole_by a b false h q p = absurd (cc)

-- in version 1 a part of a store that has its turn may issue where the store may show its operands
pub first_ready : (d : Desc) (before : List Entry) (e : Entry) (own : List ℕ) (shows : Bool) → InStep d e → stores_in_one d ≡ true → is_store e.item.kind ≡ true → is_waiting e.state ≡ true →
    has_sources (wants_of d.version e) d before e ≡ true → ready_part d own shows before e ≡ may_show d before
first_ready d before e own shows t one s w h =
    let all : ready d before e ≡ true = sym (ap₂ (λ s v. has_sources (if s && not v then wants_by (has_address e) (has_data e) else wants.Whole) d before e) s one) ∙ h in
    ap (λ v. if v then ready d before e && is_whole e && may_show d before else shows && all_known d before own) one
    ∙ ap₂ (λ r w. r && w && may_show d before) all (whole_by (has_address e) (has_data e) (is_waiting e.state) (t.parts s) (t.together (eqb-true _ _ one) s) w)

-- in version 2 a part asks for its own sources alone, where it may show them
pub second_ready : (d : Desc) (before : List Entry) (e : Entry) (own : List ℕ) (shows : Bool) → stores_in_one d ≡ false → ready_part d own shows before e ≡ (shows && all_known d before own)
second_ready d before e own shows apart = ap (λ v. if v then ready d before e && is_whole e && may_show d before else shows && all_known d before own) apart

-- a part that hasn't issued may where it is ready
pub part_may_by : (part : Part) (d : Desc) (before : List Entry) (e : Entry) (r : Bool) → has_issued part e ≡ false →
    ready_part d (own_of part (sources e)) (part_shows part (may_show d before)) before e ≡ r → part_may (part_port part) d before e ≡ r
part_may_by part.Address d before e r f h = address_part d before e ∙ ap₂ (λ a r. not a && r) f h
part_may_by part.Data d before e r f h = data_part d before e ∙ ap₂ (λ a r. not a && r) f h

-- a part of a store that has issued may not issue again
pub part_gone : (part : Part) (d : Desc) (before : List Entry) (e : Entry) → has_issued part e ≡ true → part_may (part_port part) d before e ≡ false
part_gone part.Address d before e h = address_part d before e ∙ ap (λ a. not a && ready_part d (base_of (sources e)) (may_show d before) before e) h
part_gone part.Data d before e h = data_part d before e ∙ ap (λ a. not a && ready_part d (others_of (sources e)) true before e) h
