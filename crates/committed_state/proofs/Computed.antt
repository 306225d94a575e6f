-- What makes two outcomes equal: equal effects, memory in one place, and for a load equal bytes.
use Rattle.std.proofs.Common.{◌≡◌, ℕ, zero, suc, ◌+◌, ◌<◌, ◌≤◌, Bool, true, false, ◌||◌, List, [], ◌∷◌, Option, Some, None, refl, ap, sym, ◌∙◌, arith}
use Rattle.std.specs.Prelude.{◌==◌, ◌%◌}
use Rattle.std.specs.List.{find, list_all}
use Rattle.rv_types.specs.Word.{word}
use Rattle.rv_types.specs.Decode.{decode}
use Rattle.rv_types.specs.Kind.{kind_of}
use Rattle.rv_types.specs.Memory.{Code, Ram, load_fault, store_fault}
use Rattle.rv_types.specs.Causes.{jump_misaligned, load_misaligned, load_outside, store_misaligned, store_outside}
use Rattle.rv_types.specs.Isa.{Effect, effect, first_of, second_of}
use Rattle.rv_types.specs.Regs.{reads_of}
use Rattle.rv_types.specs.declared.Cause.{Cause}
use Rattle.rv_types.specs.declared.Instr.{Instr}
use Rattle.rv_types.specs.declared.Instr.TheVariants as instr
use Rattle.rv_types.specs.declared.Kind.{Kind}
use Rattle.rv_types.specs.declared.Kind.TheVariants.{Load, Store}
use Rattle.window_model.specs.declared.Entry.{Entry}
use Rattle.window_model.specs.declared.Outcome.{Outcome}
use Rattle.window_model.specs.Fetch.{instr_at, kind_at}
use Rattle.window_model.specs.Order.{is_load, is_store, sources, operand, base_of, others_of, has_address, has_data}
use Rattle.window_model.specs.Access.{byte_of}
use Rattle.window_model.specs.Retire.{width_in}
use Rattle.window_model.specs.MayIssue.{address_of, effect_of, first_operand, second_operand}
use Rattle.window_model.specs.Issue.{outcome}
use Rattle.window_model.specs.Shape.{SameShape}
use Rattle.window_model.proofs.Booleans.{both}
use Rattle.window_model.proofs.KindTests.{jal_kind, op_is}
use Rattle.window_model.proofs.Memory.{same_fault}
use Rattle.window_model.proofs.Taints.{AllBelow}
use Rattle.committed_state.specs.Computed.{Bank, as_known_by, bytes_found, bytes_over, outcome_behind, finds, known_of, loaded_or, outcome_as}
use Rattle.committed_state.specs.Consistent.{HasOperands, IsItem, executed, is_issued}
use Rattle.committed_state.specs.Replay.{effect_on}

-- ---- outcomes, and what is known of them

loaded_same : (c : Option Cause) (i : Instr) (bytes bytes2 : List ℕ) → (c ≡ None → bytes2 ≡ bytes) → loaded_or c i bytes2 ≡ loaded_or c i bytes
loaded_same (Some c) i bytes bytes2 h = refl
loaded_same None i bytes bytes2 h = ap (loaded_or None i) (h refl)

-- what is known of two outcomes is equal where value, next address and the known parts are
known_same : (address datum : Bool) (o o2 : Outcome) → o2.value ≡ o.value → o2.next ≡ o.next → (address ≡ true → (o2.addr ≡ o.addr) × (o2.fault ≡ o.fault)) → (datum ≡ true → o2.stored ≡ o.stored) → known_of address datum o2 ≡ known_of address datum o
known_same true true o o2 v n a d = let x = a refl in let x0 = x.0 in let x1 = x.1 in let y = d refl in cc
known_same true false o o2 v n a d = let x = a refl in let x0 = x.0 in let x1 = x.1 in cc
known_same false true o o2 v n a d = let y = d refl in cc
known_same false false o o2 v n a d = cc

module _ (ram ram2 : Ram) (i : Instr) (p : SameShape ram ram2) where
  outcome_of : (k : Kind) (f : Effect) (bytes bytes2 : List ℕ) → (is_load k ≡ true → load_fault ram f.addr (width_in i) ≡ None → bytes2 ≡ bytes) → outcome_as k ram2 i f bytes2 ≡ outcome_as k ram i f bytes
  outcome_of Load f bytes bytes2 h =
      ap (λ c. outcome f (loaded_or c i bytes2) c) (same_fault load_misaligned load_outside ram ram2 f.addr (width_in i) p)
      ∙ ap (λ v. outcome f v (load_fault ram f.addr (width_in i))) (loaded_same _ i bytes bytes2 (h refl))
  outcome_of Store f bytes bytes2 h = ap (outcome f 0) (same_fault store_misaligned store_outside ram ram2 f.addr (width_in i) p)
  outcome_of _ f bytes bytes2 h = refl

  -- an instruction's outcome stays with its effect and, of a load without fault, with the bytes that it loads
  pub outcome_same : (k : Kind) (f f2 : Effect) (bytes bytes2 : List ℕ) → f2 ≡ f → (is_load k ≡ true → load_fault ram f.addr (width_in i) ≡ None → bytes2 ≡ bytes) → outcome_as k ram2 i f2 bytes2 ≡ outcome_as k ram i f bytes
  outcome_same k f f2 bytes bytes2 e h = ap (λ f. outcome_as k ram2 i f bytes2) e ∙ outcome_of k f bytes bytes2 h

  -- what is known of a store's outcome is equal where next address, known address and known data are
  pub store_same : (address datum : Bool) (f f2 : Effect) (bytes bytes2 : List ℕ) → f2.next ≡ f.next → (address ≡ true → f2.addr ≡ f.addr) → (datum ≡ true → f2.stored ≡ f.stored) →
      known_of address datum (outcome_as Store ram2 i f2 bytes2) ≡ known_of address datum (outcome_as Store ram i f bytes)
  store_same address datum f f2 bytes bytes2 n a d =
      known_same address datum (outcome_as Store ram i f bytes) (outcome_as Store ram2 i f2 bytes2) refl n
      (λ h. (a h, ap (λ x. store_fault ram2 x (width_in i)) (a h) ∙ same_fault store_misaligned store_outside ram ram2 f.addr (width_in i) p)) d

-- ---- what a load or store makes of its operands

-- the kind is a load's or a store's
abbrev pub is_access : Kind → Bool
is_access k = is_load k || is_store k

-- the address of a load or store comes from its first operand, what it stores from its second, its next address from
-- neither
pub record AccessEffect (i : Instr) : Type 0 where
  pub next : (pc a b a2 b2 : ℕ) → (effect pc i a2 b2).next ≡ (effect pc i a b).next
  pub addr : (pc a b b2 : ℕ) → (effect pc i a b2).addr ≡ (effect pc i a b).addr
  pub stored : (pc a a2 b : ℕ) → (effect pc i a2 b).stored ≡ (effect pc i a b).stored

-- every load and store takes its address from its first operand, and what it stores from its second
effect_of_access : (i : Instr) → is_access (kind_of i) ≡ true → AccessEffect i
effect_of_access (instr.Load o rd rs1 imm) h = record { next = λ pc a b a2 b2. refl; addr = λ pc a b b2. refl; stored = λ pc a a2 b. refl }
effect_of_access (instr.Store o rs1 rs2 imm) h = record { next = λ pc a b a2 b2. refl; addr = λ pc a b b2. refl; stored = λ pc a a2 b. refl }
effect_of_access (instr.Jal rd imm) h = absurd (let n = jal_kind is_access (word imm % 4 == 0) jump_misaligned refl refl in cc)
effect_of_access (instr.OpReg o rd rs1 rs2) h = absurd (let n = op_is is_access o refl refl refl in cc)
effect_of_access _ h = absurd (cc)

-- every entry that is a load or store of the program takes its address from its first operand, and what it stores from
-- its second
pub access_effect : (code : Code) (e : Entry) → IsItem code e.item → is_access e.item.kind ≡ true → AccessEffect e.item.instr
access_effect code e item h = by_word (code e.item.pc) item.instr item.kind
  where
    by_word : (o : Option ℕ) → e.item.instr ≡ instr_at o → e.item.kind ≡ kind_at o → AccessEffect e.item.instr
    by_word None q k = absurd (let t = sym (ap is_access k) ∙ h in cc)
    by_word (Some w) q k = rw q (effect_of_access (decode w) (sym (ap is_access k) ∙ h))

-- the address of a load or store is that of its base alone
pub address_is : (code : Code) (regs : List ℕ) (b : List Entry) (e : Entry) → IsItem code e.item → is_access e.item.kind ≡ true → (effect_of regs b e).addr ≡ address_of regs b e
address_is code regs b e item h = (access_effect code e item h).addr e.item.pc (first_operand regs b (sources e)) 0 (second_operand regs b (sources e))

-- ---- operands of two windows

-- an instruction reads registers below 32 alone
reads_below : (i : Instr) → AllBelow 32 (reads_of i)
reads_below (instr.Jalr rd rs1 imm) = (rs1.in_range, tt)
reads_below (instr.Branch op rs1 rs2 imm) = (rs1.in_range, (rs2.in_range, tt))
reads_below (instr.Load op rd rs1 imm) = (rs1.in_range, tt)
reads_below (instr.Store op rs1 rs2 imm) = (rs1.in_range, (rs2.in_range, tt))
reads_below (instr.OpImm op rd rs1 imm) = (rs1.in_range, tt)
reads_below (instr.OpReg op rd rs1 rs2) = (rs1.in_range, (rs2.in_range, tt))
reads_below _ = tt

-- operands that are equal wherever a test holds
module _ (regs regs2 : List ℕ) (b b2 : List Entry) (t : ℕ → Bool) (same : (r : ℕ) → r < 32 → t r ≡ true → operand regs2 b2 r ≡ operand regs b r) where
  first_same : (rs : List ℕ) → AllBelow 32 rs → list_all t (base_of rs) ≡ true → first_operand regs2 b2 rs ≡ first_operand regs b rs
  first_same [] lt h = refl
  first_same (r ∷ rs) lt h = same r lt.0 (both _ _ h).0

  second_same : (rs : List ℕ) → AllBelow 32 rs → list_all t (others_of rs) ≡ true → second_operand regs2 b2 rs ≡ second_operand regs b rs
  second_same [] lt h = refl
  second_same (r ∷ []) lt h = refl
  second_same (r ∷ q ∷ rs) lt h = same q lt.1.0 (both _ _ h).0

  base_holds : (rs : List ℕ) → list_all t rs ≡ true → list_all t (base_of rs) ≡ true
  base_holds [] h = refl
  base_holds (r ∷ rs) h = let q = (both (t r) (list_all t rs) h).0 in rw q refl

  others_hold : (rs : List ℕ) → list_all t rs ≡ true → list_all t (others_of rs) ≡ true
  others_hold [] h = refl
  others_hold (r ∷ rs) h = (both (t r) (list_all t rs) h).1

  -- operands that are equal where the test holds of every source make one effect
  pub effect_same : (e : Entry) → list_all t (sources e) ≡ true → effect_of regs2 b2 e ≡ effect_of regs b e
  effect_same e h =
      let lt = reads_below e.item.instr in
      ap (λ u. effect e.item.pc e.item.instr u (second_operand regs2 b2 (sources e))) (first_same (sources e) lt (base_holds (sources e) h))
      ∙ ap (effect e.item.pc e.item.instr (first_operand regs b (sources e))) (second_same (sources e) lt (others_hold (sources e) h))

  -- an access has one address where the test holds of its base
  address_same : (e : Entry) → AccessEffect e.item.instr → list_all t (base_of (sources e)) ≡ true → (effect_of regs2 b2 e).addr ≡ (effect_of regs b e).addr
  address_same e f h =
      ap (λ u. (effect e.item.pc e.item.instr u (second_operand regs2 b2 (sources e))).addr) (first_same (sources e) (reads_below e.item.instr) h)
      ∙ f.addr e.item.pc (first_operand regs b (sources e)) (second_operand regs b (sources e)) (second_operand regs2 b2 (sources e))

  datumsame : (e : Entry) → AccessEffect e.item.instr → list_all t (others_of (sources e)) ≡ true → (effect_of regs2 b2 e).stored ≡ (effect_of regs b e).stored
  datumsame e f h =
      ap (λ u. (effect e.item.pc e.item.instr (first_operand regs2 b2 (sources e)) u).stored) (second_same (sources e) (reads_below e.item.instr) h)
      ∙ f.stored e.item.pc (first_operand regs b (sources e)) (first_operand regs2 b2 (sources e)) (second_operand regs b (sources e))

-- with nothing before it an entry reads the registers
pub effect_alone : (s : Bank) (e : Entry) → effect_of s.regs [] e ≡ effect_on s e
effect_alone s e = by_sources (sources e)
  where
    by_sources : (rs : List ℕ) → effect e.item.pc e.item.instr (first_operand s.regs [] rs) (second_operand s.regs [] rs) ≡ effect e.item.pc e.item.instr (first_of rs s.regs) (second_of rs s.regs)
    by_sources [] = refl
    by_sources (r ∷ []) = refl
    by_sources (r ∷ q ∷ rs) = refl

-- ---- what an entry computes, as far as it is known, stays where its known operands and a load's bytes do

module _ (code : Code) (s s2 : Bank) (b b2 : List Entry) (e : Entry) (item : IsItem code e.item) (p : SameShape s.ram s2.ram)
    (same : (r : ℕ) → r < 32 → executed b r ≡ true → operand s2.regs b2 r ≡ operand s.regs b r)
    (bytes2 : ℕ → List ℕ) (bytes : is_load e.item.kind ≡ true → load_fault s.ram (effect_of s.regs b e).addr (width_in e.item.instr) ≡ None → bytes2 (effect_of s.regs b e).addr ≡ bytes_over s b e (effect_of s.regs b e).addr)
    (issued : is_issued e ≡ true) where
  abbrev F : Effect
  F = effect_of s.regs b e

  abbrev F2 : Effect
  F2 = effect_of s2.regs b2 e

  abbrev t : ℕ → Bool
  t r = executed b r

  -- what an entry in one piece computes is the same in both
  whole : (k : Kind) → e.item.kind ≡ k → list_all t (sources e) ≡ true → outcome_as k s2.ram e.item.instr F2 (bytes2 F2.addr) ≡ outcome_as k s.ram e.item.instr F (bytes_over s b e F.addr)
  whole k q o = let f = effect_same s.regs s2.regs b b2 t same e o in outcome_same s.ram s2.ram e.item.instr p k F F2 _ _ f (λ l n. ap (λ (f : Effect). bytes2 f.addr) f ∙ bytes (ap is_load q ∙ l) n)

  alike_as : (k : Kind) → e.item.kind ≡ k → HasOperands k (has_address e) (has_data e) (is_issued e) b (sources e) → as_known_by k (has_address e) (has_data e) (outcome_as k s2.ram e.item.instr F2 (bytes2 F2.addr)) ≡ as_known_by k (has_address e) (has_data e) (outcome_as k s.ram e.item.instr F (bytes_over s b e F.addr))
  alike_as Store q o =
      let f = access_effect code e item (ap is_access q) in
      store_same s.ram s2.ram e.item.instr p (has_address e) (has_data e) F F2 (bytes_over s b e F.addr) (bytes2 F2.addr)
      (f.next e.item.pc (first_operand s.regs b (sources e)) (second_operand s.regs b (sources e)) (first_operand s2.regs b2 (sources e)) (second_operand s2.regs b2 (sources e)))
      (λ h. address_same s.regs s2.regs b b2 t same e f (o.0 h)) (λ h. datumsame s.regs s2.regs b b2 t same e f (o.1 h))
  alike_as k q o = whole k q (o issued)

  -- what an entry of any kind computes is the same in both, as far as it is known
  pub alike : HasOperands e.item.kind (has_address e) (has_data e) (is_issued e) b (sources e) → as_known_by e.item.kind (has_address e) (has_data e) (outcome_as e.item.kind s2.ram e.item.instr F2 (bytes2 F2.addr)) ≡ as_known_by e.item.kind (has_address e) (has_data e) (outcome_behind s b e)
  alike o = alike_as e.item.kind refl o

-- ---- the bytes of a load

-- a load finds the same bytes, where each byte of its range is the same
pub bytes_same : (ram ram2 : Ram) (b b2 : List Entry) (e : Entry) (a n : ℕ) → ((x : ℕ) → a ≤ x → x < a + n → byte_of ram2 x (find (finds e x) b2) ≡ byte_of ram x (find (finds e x) b)) → bytes_found ram2 b2 e a n ≡ bytes_found ram b e a n
bytes_same ram ram2 b b2 e a zero h = refl
bytes_same ram ram2 b b2 e a (suc n) h =
    ap (λ (v : ℕ). v ∷ bytes_found ram2 b2 e (a + 1) n) (h a (omega arith) (omega arith))
    ∙ ap (λ (vs : List ℕ). byte_of ram a (find (finds e a) b) ∷ vs) (bytes_same ram ram2 b b2 e (a + 1) n (λ x le lt. h x (omega (arith, le)) (omega (arith, lt))))
