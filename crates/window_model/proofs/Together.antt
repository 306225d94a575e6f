-- A store of either version said by its parts, so that no law on stores has two cases: in version 1 each part waits for
-- what the whole store waits for. So both ask for their ports together and are granted them together, in every state.
use Rattle.std.proofs.Common.{◌≡◌, ℕ, ◌+◌, ◌≤◌, Bool, true, false, not, ◌&&◌, ◌||◌, List, [], ◌∷◌, length, refl, ap, ap₂, arith, eqb-true}
use Rattle.std.specs.Prelude.{if◌then◌else◌, nat_lt, ◌==◌}
use Rattle.rv_types.specs.Isa.{Effect}
use Rattle.rv_types.specs.Value.{one_if}
use Rattle.rv_types.specs.declared.Kind.{Kind}
use Rattle.rv_types.specs.declared.Kind.TheVariants.{Mul, Div, Load}
use Rattle.machine_desc.specs.declared.Desc.{Desc}
use Rattle.machine_desc.specs.Questions.{stores_in_one}
use Rattle.window_model.specs.declared.Entry.{Entry}
use Rattle.window_model.specs.declared.Event.TheVariants as event
use Rattle.window_model.specs.Around.{Around}
use Rattle.window_model.specs.Order.{is_store, has_address, has_data, sources, base_of, others_of}
use Rattle.window_model.specs.Delay.{may_show}
use Rattle.window_model.specs.Ready.{ready, all_known}
use Rattle.window_model.specs.MayIssue.{Asks, asks_by_parts, effect_of, may_issue}
use Rattle.window_model.specs.Ports.{AddressPort, DataPort, asking, is_granted, may_at, part_may, port_of, same_port}
use Rattle.window_model.specs.Issue.{Begun, if_granted, issue_entry, issue_store, issue_whole, parts_with, with_address, with_data}
use Rattle.window_model.specs.inner.Issue.{data_events, parts_as}

-- ---- what a part asks for

-- neither part of a store has issued
abbrev pub is_whole : Entry → Bool
is_whole e = not (has_address e || has_data e)

-- what a part of a store waits for besides not having issued: its own register, and whether it may show it; in version
-- 1 what the store waits for
abbrev pub ready_part : Desc → List ℕ → Bool → List Entry → Entry → Bool
ready_part d own shows before e = if d.version == 1 then ready d before e && is_whole e && may_show d before else shows && all_known d before own

-- a store that goes in one piece has issued neither part
not_gone : (a c r g : Bool) → (r && not (a || c) && g) ≡ (not a && (r && not (a || c) && g))
not_gone false c r g = refl
not_gone true c true g = refl
not_gone true c false g = refl

not_stored : (a c r g : Bool) → (r && not (a || c) && g) ≡ (not c && (r && not (a || c) && g))
not_stored a false r g = refl
not_stored true true true g = refl
not_stored false true true g = refl
not_stored a true false g = refl

address_as : (v m k a : Bool) (p : Asks) → m ≡ (not a && m) → p.address ≡ (not a && k) →
    (let w : Asks = record { address = m; stored = m } in if v then w else p).address ≡ (not a && (if v then m else k))
address_as true m k a p h q = h
address_as false m k a p h q = q

stored_as : (v m k c : Bool) (p : Asks) → m ≡ (not c && m) → p.stored ≡ (not c && k) →
    (let w : Asks = record { address = m; stored = m } in if v then w else p).stored ≡ (not c && (if v then m else k))
stored_as true m k c p h q = h
stored_as false m k c p h q = q

-- the address part may issue where it hasn't, and what it waits for is there
pub address_part : (d : Desc) (b : List Entry) (e : Entry) → part_may AddressPort d b e ≡ (not (has_address e) && ready_part d (base_of (sources e)) (may_show d b) b e)
address_part d b e =
    address_as (d.version == 1) (ready d b e && is_whole e && may_show d b) (may_show d b && all_known d b (base_of (sources e))) (has_address e) (asks_by_parts d b e)
    (not_gone (has_address e) (has_data e) (ready d b e) (may_show d b)) refl

-- the data part may issue where it hasn't, and what it waits for is there
pub data_part : (d : Desc) (b : List Entry) (e : Entry) → part_may DataPort d b e ≡ (not (has_data e) && ready_part d (others_of (sources e)) true b e)
data_part d b e =
    stored_as (d.version == 1) (ready d b e && is_whole e && may_show d b) (all_known d b (others_of (sources e))) (has_data e) (asks_by_parts d b e)
    (not_stored (has_address e) (has_data e) (ready d b e) (may_show d b)) refl

-- ---- in version 1 the parts go together

-- nothing in one piece asks for a port of stores
no_store_port : (k : Kind) → (same_port (port_of k) AddressPort ≡ false) × (same_port (port_of k) DataPort ≡ false)
no_store_port Mul = (refl, refl)
no_store_port Div = (refl, refl)
no_store_port Load = (refl, refl)
no_store_port _ = (refl, refl)

asks_neither : (m a b : Bool) → a ≡ false → b ≡ false → (m && b) ≡ (m && a)
asks_neither true a b p q = cc
asks_neither false a b p q = refl

-- a store in one piece asks for both ports or for neither
asks_both : (v : ℕ) (m : Bool) (p : Asks) → v ≡ 1 →
    (let w : Asks = record { address = m; stored = m } in if v == 1 then w else p).stored ≡ (let w : Asks = record { address = m; stored = m } in if v == 1 then w else p).address
asks_both v m p q = rw q refl

module _ (d : Desc) (now : Around) (first : d.version ≡ 1) where
  ask_together : (b : List Entry) (e : Entry) → may_at d now DataPort b e ≡ may_at d now AddressPort b e
  ask_together b e = by_kind (is_store e.item.kind)
    where
      by_kind : (s : Bool) → (if s then part_may DataPort d b e else may_issue d now b e && same_port (port_of e.item.kind) DataPort) ≡ (if s then part_may AddressPort d b e else may_issue d now b e && same_port (port_of e.item.kind) AddressPort)
      by_kind true = asks_both d.version (ready d b e && is_whole e && may_show d b) (asks_by_parts d b e) first
      by_kind false = let n = no_store_port e.item.kind in asks_neither (may_issue d now b e) _ _ n.0 n.1

  asking_together : (b : List Entry) → asking d now DataPort b ≡ asking d now AddressPort b
  asking_together [] = refl
  asking_together (e ∷ b) = ap₂ (λ m n. one_if m + n) (ask_together b e) (asking_together b)

  -- in version 1 a store's data part is granted its port where the address part is
  pub granted_together : (b : List Entry) (e : Entry) → is_granted d now DataPort b e ≡ is_granted d now AddressPort b e
  granted_together b e = ap₂ (λ m n. m && nat_lt n 1) (ask_together b e) (asking_together b)

-- ---- what a store does, by its parts

-- what a store becomes of which the parts that are granted their ports issue
abbrev pub issue_parts : Desc → Around → List Entry → Entry → Begun
issue_parts d now before e =
    parts_as (is_granted d now AddressPort before e) (is_granted d now DataPort before e) d now (effect_of now.regs before e) e

-- the data part of a store has at most one event
pub data_few : (d : Desc) (e : Entry) → length (data_events d e) ≤ 1
data_few d e = by_version (stores_in_one d)
  where
    by_version : (v : Bool) → length (if v then [] else event.Std e.serial ∷ []) ≤ 1
    by_version true = omega arith
    by_version false = omega arith

store_as : (v a c : Bool) (now : Around) (f : Effect) (e : Entry) → (v ≡ true → c ≡ a) →
    (if v then if_granted (a && c) (λ e. with_data now f (with_address now f e)) (event.Agu e.serial ∷ []) e else parts_with a c (event.Std e.serial ∷ []) now f e)
    ≡ parts_with a c (if v then [] else event.Std e.serial ∷ []) now f e
store_as false a c now f e h = refl
store_as true true true now f e h = refl
store_as true false false now f e h = refl
store_as true true false now f e h = absurd (let q = h refl in cc)
store_as true false true now f e h = absurd (let q = h refl in cc)

module _ (d : Desc) (now : Around) (b : List Entry) (e : Entry) where
  -- what a store becomes is what its parts make of it, in both versions
  pub store_parts : issue_store d now b e ≡ issue_parts d now b e
  store_parts =
      store_as (d.version == 1) (is_granted d now AddressPort b e) (is_granted d now DataPort b e) now (effect_of now.regs b e) e
      (λ v. granted_together d now (eqb-true _ _ v) b e)

  -- what an entry becomes in Issue, with a store by its parts
  pub entry_parts : issue_entry d now b e ≡ (if is_store e.item.kind then issue_parts d now b e else issue_whole d now b e)
  entry_parts = ap (λ t. if is_store e.item.kind then t else issue_whole d now b e) store_parts
