-- A load that begins: it has passed no store of known address, so its bytes are those of the youngest, and the stores
-- before it stand as a load that has issued asks.
use Rattle.std.proofs.Common.{◌≡◌, ℕ, zero, suc, ◌+◌, Bool, true, false, not, ◌&&◌, ◌||◌, List, [], ◌∷◌, Option, Some, None, refl, ap, ◌∙◌, arith}
use Rattle.std.proofs.lemmas.Bool.Decides.{nat_tests}
use Rattle.std.specs.Prelude.{if◌then◌else◌, is_some, ◌==◌}
use Rattle.std.specs.List.{find, list_all, list_any}
use Rattle.rv_types.specs.Memory.{Code, load_fault, range}
use Rattle.rv_types.specs.Path.{unless_fault}
use Rattle.rv_types.specs.declared.Cause.{Cause}
use Rattle.rv_types.specs.declared.Kind.{Kind}
use Rattle.rv_types.specs.declared.Kind.TheVariants.{Store}
use Rattle.machine_desc.specs.declared.Desc.{Desc}
use Rattle.window_model.specs.declared.Entry.{Entry}
use Rattle.window_model.specs.Access.{byte_of, covers, load_bytes}
use Rattle.window_model.specs.Clear.{is_before, is_passed_by, shares}
use Rattle.machine_desc.specs.Questions.{loads_pass}
use Rattle.window_model.specs.Dependence.{waits_for_stores}
use Rattle.window_model.specs.Along.{Behind, Fact}
use Rattle.window_model.specs.Around.{Around}
use Rattle.window_model.specs.MayIssue.{address_of, bytes_of, goes_behind, lets, passes_stores, stores_done, stores_let}
use Rattle.window_model.specs.Order.{fault_of, has_address, has_data, is_done, is_load, is_store}
use Rattle.window_model.specs.Rename.{at_once}
use Rattle.window_model.specs.Retire.{addr_of, byte_count}
use Rattle.window_model.specs.Taint.{address_tainted}
use Rattle.window_model.proofs.Booleans.{and_no, both}
use Rattle.committed_state.specs.Computed.{Bank, bytes_found, finds}
use Rattle.committed_state.specs.Consistent.{FitsClearing, IsDueBy, EntryInvariant, is_issued, stands_before}
use Rattle.committed_state.proofs.Known.{both_parts, done_has}
use Rattle.committed_state.proofs.Sees.{before_of}

-- ---- one store before a load that hasn't passed it

-- a store with both parts stands before a load that hasn't passed it as it has to
with_both : (s a p c sh d : Bool) → p ≡ false → (s ≡ true → (a ≡ true) × (d ≡ true)) → before_of s a p c sh d ≡ true
with_both false a p c sh d n h = refl
with_both true true false c true true n h = refl
with_both true true false c false true n h = refl
with_both true true false c sh false n h = absurd (let q = h refl in let q1 = q.1 in cc)
with_both true false false c sh d n h = absurd (let q = h refl in let q0 = q.0 in cc)
with_both s a true c sh d n h = absurd (cc)

-- a store that lets the load go stands before it as it has to
let_so : (s a p c sh d lets t any : Bool) → p ≡ false → (not s || ((a || lets) && (d || (not t && not any)))) ≡ true → (any ≡ false → sh ≡ false) → (lets ≡ true → s ≡ true → a ≡ false → c ≡ false) → before_of s a p c sh d ≡ true
let_so false a p c sh d lets t any n h m w = refl
let_so true true false c true true lets t any n h m w = refl
let_so true true false c false true lets t any n h m w = refl
let_so true true false c sh false lets t false n h m w = let e = m refl in rw e refl
let_so true true false c sh false lets true true n h m w = absurd (cc)
let_so true true false c sh false lets false true n h m w = absurd (cc)
let_so true false p c sh d true t any n h m w = let e = w refl refl refl in rw e refl
let_so true false p c sh d false t any n h m w = absurd (cc)
let_so true true true c sh d lets t any n h m w = absurd (cc)

-- a store among what is Done or no store
done_if : (s d : Bool) → s ≡ true → (not s || d) ≡ true → d ≡ true
done_if true d p h = h
done_if false d p h = absurd (cc)

-- a store isn't Done at once, but executed
store_goes_on : (k : Kind) → is_store k ≡ true → at_once k ≡ false
store_goes_on Store q = refl
store_goes_on _ q = absurd (cc)

-- a load's bytes, none where it faults
unshared : (p : ℕ → Bool) (c : Option Cause) (a n : ℕ) → list_any p (unless_fault c (range a n)) ≡ false → (not (is_some c) && list_any p (range a n)) ≡ false
unshared p None a n h = h
unshared p (Some c) a n h = refl

-- a store of unknown address isn't cleared where loads pass stores
not_cleared : (p : Bool) (e : Entry) → FitsClearing p e → p ≡ true → is_store e.item.kind ≡ true → has_address e ≡ false → e.cleared ≡ false
not_cleared true e c h = c
not_cleared false e c h = absurd (cc)

-- ---- a load that begins now has passed no store of known address

not_after : (n : ℕ) (a : Option ℕ) → IsDueBy n a → is_before (Some n) a ≡ false
not_after n None h = refl
not_after n (Some a) h = grind (arith, nat_tests, h)

found_so : (p c co : Bool) → p ≡ false → (not (p && c) && co) ≡ co
found_so false c co h = refl
found_so true c co h = absurd (cc)

module _ (d : Desc) (code : Code) (s : Bank) (now : ℕ) (l : Entry) (begins : l.issued ≡ Some now) where
  abbrev S : Fact
  S = EntryInvariant d code s now

  not_passed : (b : List Entry) (e : Entry) → S b e → is_passed_by e l ≡ false
  not_passed b e st = and_no (is_load l.item.kind) (is_before l.issued e.addr_due) (ap (λ i. is_before i e.addr_due) begins ∙ not_after now e.addr_due st.due)

  find_now : (b : List Entry) (a : ℕ) → Behind S b → find (finds l a) b ≡ find (covers a) b
  find_now [] a h = refl
  find_now (e ∷ b) a h =
      ap (λ c. if c then Some e else find (finds l a) b) (found_so (is_passed_by e l) (not e.cleared) (covers a e) (not_passed b e h.0)) ∙ ap (λ o. if covers a e then Some e else o) (find_now b a h.1)

  -- the bytes that a load finds as it begins are those that Issue finds
  pub bytes_now : (b : List Entry) (a n : ℕ) → Behind S b → bytes_found s.ram b l a n ≡ load_bytes s.ram b a n
  bytes_now b a zero h = refl
  bytes_now b a (suc n) h =
      ap (λ o. byte_of s.ram a o ∷ bytes_found s.ram b l (a + 1) n) (find_now b a h) ∙ ap (λ (vs : List ℕ). byte_of s.ram a (find (covers a) b) ∷ vs) (bytes_now b (a + 1) n h)

  -- ---- the stores before a load that begins

  -- in version 1 older stores are Done, so they stand before the load as they have to
  by_done : (b : List Entry) → Behind S b → stores_done b ≡ true → list_all (stands_before l) b ≡ true
  by_done [] h q = refl
  by_done (e ∷ b) h q =
      let qs = both (not (is_store e.item.kind) || is_done e.state) _ q in
      ap (λ c. c && list_all (stands_before l) b) (with_both (is_store e.item.kind) (has_address e) (is_passed_by e l) e.cleared (shares e l) (has_data e) (not_passed b e h.0) (parts qs.0)) ∙ by_done b h.1 qs.1
    where
      parts : (not (is_store e.item.kind) || is_done e.state) ≡ true → is_store e.item.kind ≡ true → (has_address e ≡ true) × (has_data e ≡ true)
      parts f t =
          both_parts e.item.kind (has_address e) (has_data e) (is_issued e) t
          ((done_has e.state e h.0.state (done_if (is_store e.item.kind) (is_done e.state) t f)).0 ∙ ap not (store_goes_on e.item.kind t))

  -- in version 2 older stores let the load go, so they stand before it as they have to
  by_let : (bytes : List ℕ) → ((e : Entry) → list_any (λ a. covers a e) bytes ≡ false → shares e l ≡ false) → (p : Bool) → (p ≡ true → loads_pass d ≡ true) → (b : List Entry) → Behind S b → stores_let d.stt_model p bytes b ≡ true →
      list_all (stands_before l) b ≡ true
  by_let bytes m p pd [] h q = refl
  by_let bytes m p pd (e ∷ b) h q =
      let qs = both (not (is_store e.item.kind) || lets d.stt_model p bytes b e) _ q in
      ap (λ c. c && list_all (stands_before l) b)
      (let_so (is_store e.item.kind) (has_address e) (is_passed_by e l) e.cleared (shares e l) (has_data e) p (address_tainted d.stt_model b e) (list_any (λ a. covers a e) bytes) (not_passed b e h.0) qs.0 (m e)
      (λ t. not_cleared (loads_pass d) e h.0.clearing (pd t)))
      ∙ by_let bytes m p pd b h.1 qs.1

  -- the older stores stand before a load as they have to, where its address and fault are those for which Issue asked
  -- them
  pub stands_behind : (x : Around) (b : List Entry) (e : Entry) → l.item ≡ e.item → (addr_of l.outcome ≡ address_of x.regs b e) → (fault_of l.outcome ≡ load_fault x.ram (address_of x.regs b e) (byte_count e)) →
      Behind S b → goes_behind d x b e ≡ true → list_all (stands_before l) b ≡ true
  stands_behind x b e item at fault h q = by_version (d.version == 1) q
    where
      unseen : (y : Entry) → list_any (λ a. covers a y) (bytes_of x b e) ≡ false → shares y l ≡ false
      unseen y v =
          let A = address_of x.regs b e in
          let w : byte_count l ≡ byte_count e = ap (λ i. byte_count (record e { item = i })) item in
          ap (λ g. not (is_some g) && list_any (λ a. covers a y) (range (addr_of l.outcome) (byte_count l))) fault
          ∙ ap (λ g. not (is_some (load_fault x.ram A (byte_count e))) && list_any (λ a. covers a y) (range g (byte_count l))) at
          ∙ ap (λ n. not (is_some (load_fault x.ram A (byte_count e))) && list_any (λ a. covers a y) (range A n)) w
          ∙ unshared (λ a. covers a y) (load_fault x.ram A (byte_count e)) A (byte_count e) v

      by_version : (v : Bool) → (if v then stores_done b else stores_let d.stt_model (passes_stores d x e) (bytes_of x b e) b) ≡ true → list_all (stands_before l) b ≡ true
      by_version true q = by_done b h q
      by_version false q = by_let (bytes_of x b e) unseen (passes_stores d x e) (λ p. (both (loads_pass d) (not (waits_for_stores d x.dependence e.item.pc)) p).0) b h q
