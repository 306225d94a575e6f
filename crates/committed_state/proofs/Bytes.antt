-- A load's bytes are those of the replay's memory.
use Rattle.std.proofs.Common.{◌≡◌, ℕ, zero, suc, ◌+◌, ◌-◌, ◌<◌, ◌≤◌, Bool, true, false, not, ◌&&◌, ◌||◌, List, [], ◌∷◌, length, get_or, take, drop, Option, Some, None, refl, ap, sym, ◌∙◌, subst, arith}
use Rattle.std.proofs.lemmas.List.{drop_more}
use Rattle.std.proofs.lemmas.Bool.Decides.{nat_tests}
use Rattle.std.specs.Prelude.{if◌then◌else◌, is_some, nat_le, nat_lt, slice_index, slice_range}
use Rattle.std.specs.List.{find, list_all}
use Rattle.rv_types.specs.Word.{to_le}
use Rattle.rv_types.specs.Memory.{Code, Ram, with_bytes, store_fault, bytes_at}
use Rattle.rv_types.specs.declared.Cause.{Cause}
use Rattle.rv_types.specs.declared.Kind.{Kind}
use Rattle.rv_types.specs.declared.Kind.TheVariants.{Store}
use Rattle.machine_desc.specs.declared.Desc.{Desc}
use Rattle.window_model.specs.declared.Entry.{Entry}
use Rattle.window_model.specs.declared.Outcome.{Outcome}
use Rattle.window_model.specs.Along.{Behind}
use Rattle.window_model.specs.Order.{is_store, has_address, has_data}
use Rattle.window_model.specs.Retire.{addr_of, stored_of, byte_count}
use Rattle.window_model.specs.Access.{reaches, covers, byte_of, byte_from}
use Rattle.committed_state.specs.Replay.{Bank, bank, bank_after, is_clear, replay_outcome, replayed_as, FollowsReplay, ram_after, stored_unless}
use Rattle.committed_state.specs.Computed.{ComesTo, as_known, as_known_by, bytes_found, finds, known_of, left_out}
use Rattle.window_model.specs.Clear.{is_passed_by, shares}
use Rattle.committed_state.specs.Consistent.{FitsParts, EntryInvariant, is_issued, stands_before}
use Rattle.window_model.proofs.Booleans.{and_not, both}
use Rattle.window_model.specs.Shape.{SameShape}
use Rattle.window_model.proofs.Memory.{length_to_le, inside, read_before, read_within, read_after, same_shape, shape_then, store_keeps}
use Rattle.committed_state.proofs.Sees.{InLoad, before_of, byte_pick, found_data, shares_byte}

stored_keeps : (c : Option Cause) (ram : Ram) (a n v : ℕ) → store_fault ram a n ≡ c → SameShape ram (stored_unless c ram a (to_le n v))
stored_keeps (Some c) ram a n v h = same_shape ram
stored_keeps None ram a n v h = store_keeps ram a n v h

keeps_as : (k : Kind) (s : Bank) (e : Entry) → SameShape s.ram (ram_after k s.ram e.item.instr (replayed_as k s e))
keeps_as Store s e = stored_keeps _ s.ram _ (byte_count e) _ refl
keeps_as _ s e = same_shape s.ram

-- the replay keeps memory's place and size
pub keeps_bank : (s : Bank) (before : List Entry) → SameShape s.ram (bank s before).ram
keeps_bank s [] = same_shape s.ram
keeps_bank s (e ∷ before) =
    let k = keeps_as e.item.kind (bank s before) e in
    let r = keeps_bank s before in
    shape_then s.ram (bank s before).ram (bank s (e ∷ before)).ram r k

-- the byte of memory at an address
abbrev pub Byte : Ram → ℕ → ℕ
Byte ram a = slice_index ram.bytes (a - ram.base)

-- a byte after a store without fault: the store's where it covers it
one_store : (ram : Ram) (a n v b x : ℕ) (o : ℕ) → store_fault ram a n ≡ None → ram.base ≤ b →
    (y z : Bool) → nat_le a b ≡ y → nat_lt b (a + n) ≡ z → o ≡ Byte ram b →
    (if y && z then slice_index (to_le n v) (b - a) else o) ≡ Byte (with_bytes ram a (to_le n v)) b
one_store ram a n v b x o h le true true p q e =
    let r = inside _ _ ram a n h in
    let l = length_to_le n v in
    let le2 : a ≤ b = grind (arith, nat_tests) in
    let lt : b < a + n = grind (arith, nat_tests) in
    let i : b - ram.base - (a - ram.base) ≡ b - a = omega (arith, r.0) in
    sym (read_within ram.bytes (to_le n v) (a - ram.base) (omega (arith, r.0, r.1)) (b - ram.base) (omega (arith, r.0)) (omega (arith, r.0)) ∙ ap (λ j. get_or (to_le n v) j 0) i)
one_store ram a n v b x o h le true false p q e =
    let r = inside _ _ ram a n h in
    let l = length_to_le n v in
    let lt : a + n ≤ b = grind (arith, nat_tests) in
    e ∙ sym (read_after ram.bytes (to_le n v) (a - ram.base) (omega (arith, r.0, r.1)) (b - ram.base) (omega (arith, r.0)))
one_store ram a n v b x o h le false z p q e =
    let r = inside _ _ ram a n h in
    let l = length_to_le n v in
    let lt : b < a = grind (arith, nat_tests) in
    e ∙ sym (read_before ram.bytes (to_le n v) (a - ram.base) (omega (arith, r.0, r.1)) (b - ram.base) (omega (arith, r.0)))

-- memory's byte after a store: the store's where it has no fault and reaches the byte
by_fault : (m : Ram) (f : Option Cause) (a n v b o : ℕ) → store_fault m a n ≡ f → m.base ≤ b → o ≡ Byte m b →
    (if not (is_some f) && nat_le a b && nat_lt b (a + n) then slice_index (to_le n v) (b - a) else o) ≡ Byte (stored_unless f m a (to_le n v)) b
by_fault m (Some c) a n v b o h le e = e
by_fault m None a n v b o h le e = one_store m a n v b b o h le (nat_le a b) (nat_lt b (a + n)) refl refl e

-- an outcome that is there
pub some_is : (c : Option Outcome) (v : Outcome) → ComesTo c v → is_some c ≡ true → c ≡ Some v
some_is None v r h = absurd (cc)
some_is (Some o) v r h = ap Some r

-- ---- a byte after one entry more

if_same : (c : Bool) (x y o : ℕ) → (c ≡ true → x ≡ y) → (if c then x else o) ≡ (if c then y else o)
if_same true x y o h = h refl
if_same false x y o h = refl

-- a store of known address, whose data is known where it covers the byte
store_byte : (m : Bank) (e : Entry) (b v : ℕ) → ComesTo e.outcome (known_of true (has_data e) (replayed_as Store m e)) → is_some e.outcome ≡ true → (reaches b (byte_count e) e.outcome ≡ true → has_data e ≡ true) → m.ram.base ≤ b → v ≡ Byte m.ram b →
    (if reaches b (byte_count e) e.outcome then byte_from b e else v) ≡ Byte (ram_after Store m.ram e.item.instr (replayed_as Store m e)) b
store_byte m e b v c i d le h =
    let r = replayed_as Store m e in
    let done : e.outcome ≡ Some (known_of true (has_data e) r) = some_is e.outcome _ c i in
    let F : Option Outcome → ℕ = λ c.
    if reaches b (byte_count e) c then slice_index (to_le (byte_count e) (stored_of c)) (b - addr_of c) else v in
    ap F done
    ∙ if_same _ _ _ v (λ t. ap (λ h. slice_index (to_le (byte_count e) (if h then r.stored else 0)) (b - r.addr)) (d (ap (reaches b (byte_count e)) done ∙ t)))
    ∙ by_fault m.ram r.fault r.addr (byte_count e) r.stored b v refl le h

-- ---- at a store that no load has passed wrongly

reached : (lo s h r : Bool) → lo ≡ false → s ≡ true → h ≡ true → (not lo && (s && h && r)) ≡ r
reached false true true r n p q = refl
reached false true false r n p q = absurd (cc)
reached false false h r n p q = absurd (cc)
reached true s h r n p q = absurd (cc)

none_found : (lo co : Bool) (x v : ℕ) → co ≡ false → (if not lo && co then x else v) ≡ v
none_found true co x v q = refl
none_found false co x v q = rw q refl

-- what a byte of the load needs of an older store: it is cleared, its address is known, and its data is where it covers
-- the byte
pub record Covering (l e : Entry) (b : ℕ) : Type 0 where
  pub address : has_address e ≡ true
  pub issued : is_some e.outcome ≡ true
  pub cleared : e.cleared ≡ true
  pub datum : covers b e ≡ true → has_data e ≡ true

-- the byte that a load finds behind an entry is that of the replay after it
pub one_byte : (l : Entry) (ram : Ram) (m : Bank) (e : Entry) (b : ℕ) (o : Option Entry) → (is_store e.item.kind ≡ true → Covering l e b) → ComesTo e.outcome (as_known e (replay_outcome m e)) → m.ram.base ≤ b → byte_of ram b o ≡ Byte m.ram b →
    byte_of ram b (if finds l b e then Some e else o) ≡ Byte (bank_after e m).ram b
one_byte l ram m e b o st r le h = by_kind e.item.kind refl r
  where
    by_kind : (k : Kind) → e.item.kind ≡ k → ComesTo e.outcome (as_known_by k (has_address e) (has_data e) (replayed_as k m e)) → byte_of ram b (if finds l b e then Some e else o) ≡ Byte (ram_after k m.ram e.item.instr (replayed_as k m e)) b
    by_kind Store q r =
        let t : is_store e.item.kind ≡ true = ap is_store q in
        let c = st t in
        let R : Bool = reaches b (byte_count e) e.outcome in
        let found : finds l b e ≡ R = reached (left_out l e) (is_store e.item.kind) (has_address e) R (and_not (is_passed_by e l) e.cleared c.cleared) t c.address in
        let covered : covers b e ≡ R = reached false (is_store e.item.kind) (has_address e) R refl t c.address in
        byte_pick (finds l b e) ram b e o ∙ ap (λ f. if f then byte_from b e else byte_of ram b o) found
        ∙ store_byte m e b (byte_of ram b o) (subst (λ h. ComesTo e.outcome (known_of h (has_data e) (replayed_as Store m e))) c.address r) c.issued (λ t. c.datum (covered ∙ t)) le h
    by_kind _ q r = let n : is_store e.item.kind ≡ false = ap is_store q in byte_pick (finds l b e) ram b e o ∙ none_found (left_out l e) (covers b e) (byte_from b e) (byte_of ram b o) (rw n refl) ∙ h

-- the n + 1 bytes from a place on are the byte there and the n bytes behind it
pub slice_step : (bytes : List ℕ) (k n : ℕ) → k < length bytes → slice_range bytes k (k + suc n) ≡ get_or bytes k 0 ∷ slice_range bytes (k + 1) (k + 1 + n)
slice_step bytes k n lt =
    let a : k + suc n - k ≡ suc n = omega arith in
    let b : k + 1 + n - (k + 1) ≡ n = omega arith in
    rw (a, b) (rw (drop_more bytes k 0 lt) refl)

-- ---- a load behind stores that let it go

-- a store with its address has issued
pub store_issued : (k : Kind) (a c i : Bool) → is_store k ≡ true → FitsParts k a c i → a ≡ true → i ≡ true
store_issued Store true c i q p h = p
store_issued Store false c i q p h = absurd (cc)
store_issued _ a c i q p h = absurd (cc)

-- a cleared store has its address
cleared_address : (st h p c sh d : Bool) → st ≡ true → c ≡ true → before_of st h p c sh d ≡ true → h ≡ true
cleared_address true true p c sh d q r b = refl
cleared_address true false p true sh d q r b = absurd (cc)
cleared_address true false p false sh d q r b = absurd (cc)
cleared_address false h p c sh d q r b = absurd (cc)

is_cleared : (s c : Bool) → s ≡ true → (not s || c) ≡ true → c ≡ true
is_cleared true c q h = h
is_cleared false c q h = absurd (cc)

module _ (d : Desc) (code : Code) (s : Bank) (now : ℕ) (l : Entry) where
  -- an older store that is cleared, and stands before the load as it has to, has what a byte of the load needs of it
  covering : (before : List Entry) (e : Entry) (b : ℕ) → InLoad l b → EntryInvariant d code s now before e → stands_before l e ≡ true → is_clear e ≡ true → is_store e.item.kind ≡ true → Covering l e b
  covering before e b i st sb cl q =
      let c = is_cleared (is_store e.item.kind) e.cleared q cl in
      let address = cleared_address (is_store e.item.kind) (has_address e) (is_passed_by e l) e.cleared (shares e l) (has_data e) q c sb in
      record {
        address = address;
        issued = store_issued e.item.kind (has_address e) (has_data e) (is_issued e) q st.parts address;
        cleared = c;
        datum = λ t. found_data (is_store e.item.kind) (has_address e) (is_passed_by e l) e.cleared (shares e l) (has_data e) q address (and_not (is_passed_by e l) e.cleared c) (shares_byte l e b i t) sb;
      }

  -- a byte of the load, where each older store is cleared
  byte_is : (before : List Entry) (b : ℕ) → s.ram.base ≤ b → InLoad l b → Behind (EntryInvariant d code s now) before → list_all (stands_before l) before ≡ true → list_all is_clear before ≡ true → FollowsReplay s before →
      byte_of s.ram b (find (finds l b) before) ≡ Byte (bank s before).ram b
  byte_is [] b le i st sb cl r = refl
  byte_is (e ∷ before) b le i st sb cl r =
      let k = keeps_bank s before in
      let ss = both (stands_before l e) _ sb in
      let cs = both (is_clear e) _ cl in
      one_byte l s.ram (bank s before) e b (find (finds l b) before) (covering before e b i st.0 ss.0 cs.0) (r.0 cs.1) (rw k.base le) (byte_is before b le i st.1 ss.1 cs.1 r.1)

  -- the bytes of a load are the replay's
  pub load_bytes_are : (before : List Entry) (a n : ℕ) → s.ram.base ≤ a → a + n ≤ s.ram.base + length s.ram.bytes → ((x : ℕ) → a ≤ x → x < a + n → InLoad l x) →
      Behind (EntryInvariant d code s now) before → list_all (stands_before l) before ≡ true → list_all is_clear before ≡ true → FollowsReplay s before → bytes_found s.ram before l a n ≡ bytes_at (bank s before).ram a n
  load_bytes_are before a zero le fits i st sb cl r =
      let m = (bank s before).ram in
      let z : a - m.base + 0 - (a - m.base) ≡ 0 = omega arith in
      sym (ap (λ j. take j (drop (a - m.base) m.bytes)) z)
  load_bytes_are before a (suc n) le fits i st sb cl r =
      let m = (bank s before).ram in
      let k = keeps_bank s before in
      let shift : a + 1 - m.base ≡ a - m.base + 1 = omega (arith, k.base) in
      let lt : a - m.base < length m.bytes = omega (arith, k.base, k.size) in
      let one = byte_is before a le (i a (omega arith) (omega arith)) st sb cl r in
      let rest = load_bytes_are before (a + 1) n (omega arith) (omega arith) (λ x le lt. i x (omega (arith, le)) (omega (arith, lt))) st sb cl r in
      let step = slice_step m.bytes (a - m.base) n lt in
      ap (λ (b : ℕ). b ∷ bytes_found s.ram before l (a + 1) n) one
      ∙ ap (λ (bs : List ℕ). Byte m a ∷ bs) (rest ∙ ap (λ j. slice_range m.bytes j (j + n)) shift)
      ∙ sym step
