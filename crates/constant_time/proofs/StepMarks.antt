-- One step of the path with marks beside it: states that are equal but where marks stand lead to such states.
use Rattle.std.proofs.Common.{◌≡◌, ℕ, ◌+◌, ◌-◌, Bool, true, false, List, [], ◌∷◌, ◌++◌, length, map, take, ◌⊎◌, inl, inr, drop, get_or, Option, Some, None, refl, ap, ap₂, sym, ◌∙◌, subst}
use Rattle.std.specs.Prelude.{if◌then◌else◌, slice_index, slice_set, nat_le}
use Rattle.rv_types.specs.Word.{from_le, to_le, word_add}
use Rattle.rv_types.specs.Decode.{decode}
use Rattle.rv_types.specs.Causes.{breakpoint, illegal, jump_misaligned, load_misaligned, load_outside, store_misaligned, store_outside, outside_code}
use Rattle.rv_types.specs.Kind.{kind_of}
use Rattle.rv_types.specs.Memory.{Code, Ram, load_fault, range, store_fault, with_bytes}
use Rattle.rv_types.specs.Path.{pass_at, pass_fault, pass_step, state_past_access}
use Rattle.rv_types.specs.Regs.{reads_of, unless_zero, writes_of}
use Rattle.rv_types.specs.Value.{extend, size_of}
use Rattle.rv_types.specs.Isa.{Effect, Hart, Step, Goes, Exits, Traps, call, effect, effect_in, first_of, isa_step, load_value, or_trap, reg, second_of, step_at, step_of, with_reg}
use Rattle.rv_types.specs.declared.Cause.{Cause}
use Rattle.rv_types.specs.declared.Instr.{Instr}
use Rattle.rv_types.specs.declared.Instr.TheVariants as instr
use Rattle.rv_types.specs.declared.Kind.{Kind}
use Rattle.rv_types.specs.declared.Kind.TheVariants.{Load, Store, Div, Branch, Jalr, Call}
use Rattle.rv_types.specs.declared.Op.{Op}
use Rattle.machine_desc.specs.declared.SttModel.{SttModel}
use Rattle.machine_desc.specs.declared.SttModel.TheVariants.{Spectre, Futuristic, Off}
use Rattle.window_model.specs.Fetch.{instr_at, kind_at}
use Rattle.window_model.specs.Order.{is_register}
use Rattle.window_model.specs.Path.{path}
use Rattle.window_model.specs.Shape.{SameShape}
use Rattle.window_model.specs.State.{Machine, opening}
use Rattle.window_model.proofs.Memory.{inside, length_to_le, same_fault}
use Rattle.window_model.proofs.Registers.{read_other, writes_not_zero}
use Rattle.secret_marks.specs.declared.WordMarks.{WordMarks}
use Rattle.secret_marks.specs.Words.{SameWord, any_byte, either, in_order, unmarked}
use Rattle.secret_marks.specs.Results.{loaded_marks, result_marks}
use Rattle.secret_marks.specs.Marks.{Marks, with_byte_marks, with_marks}
use Rattle.secret_marks.specs.Alike.{AlikeBut, Beside, SameByte, SameRegisters, without_data}
use Rattle.secret_marks.proofs.Access.{no_byte}
use Rattle.secret_marks.proofs.Calls.{CallsAlike, calls_alike, same_reg}
use Rattle.secret_marks.proofs.Publish.{empty_of, asked_same as asked_same_call}
use Rattle.secret_marks.proofs.Puts.{CallPuts, Writes, call_puts}
use Rattle.constant_time.proofs.Pieces.{GoesWith, PiecesAlike, Silent, both_silent, silent_or, silent_other, silent_passed, with_or, with_other}
use Rattle.constant_time.proofs.Sources.{StatesAlike, asked_same, bytes_map, first_equal, first_same, second_equal, second_same, size_le}
use Rattle.machine_desc.specs.Example.{example}
use Rattle.secret_marks.proofs.Constants.{same_result}
use Rattle.secret_marks.proofs.Lists.{beside_at, beside_drop, beside_join, beside_set, beside_take, values_length}
use Rattle.secret_marks.proofs.Loads.{same_loaded}
use Rattle.secret_marks.proofs.Results.{neither_marked}
use Rattle.secret_marks.proofs.Words.{bytes_beside}
use Rattle.constant_time.specs.Leaks.{BothGo, goes_so, leak_as}
use Rattle.constant_time.specs.PathMarks.{PathMarks, after_instr, asks_marked, first_mark, load_marks, second_mark, shows_as, store_marks}

-- ---- one step

module _ (m : PathMarks) (s s2 : Hart) (h : StatesAlike m s s2) where
  abbrev A : Instr → ℕ
  A i = first_of (reads_of i) s.regs

  abbrev A2 : Instr → ℕ
  A2 i = first_of (reads_of i) s2.regs

  abbrev B : Instr → ℕ
  B i = second_of (reads_of i) s.regs

  abbrev B2 : Instr → ℕ
  B2 i = second_of (reads_of i) s2.regs

  -- an instruction makes the same of equal operands
  same_effect : (i : Instr) → A i ≡ A2 i → B i ≡ B2 i → effect_in s i ≡ effect_in s2 i
  same_effect i a b = ap (λ p. effect p i (A i) (B i)) h.pc ∙ ap₂ (λ a b. effect s2.pc i a b) a b

  -- ---- what leaks

  by_either : (i : Instr) → any_byte (either (first_mark (reads_of i) m.regs) (second_mark (reads_of i) m.regs)) ≡ false → effect_in s i ≡ effect_in s2 i
  by_either i n =
      let p = neither_marked (first_mark (reads_of i) m.regs) (second_mark (reads_of i) m.regs) n in
      same_effect i (first_equal m.regs s.regs s2.regs h.regs.words (reads_of i) p.0) (second_equal m.regs s.regs s2.regs h.regs.words (reads_of i) p.1)

  -- what an instruction leaks is equal where it is unmarked
  pub leaks_same : (k : Kind) (i : Instr) → shows_as k s i m.regs ≡ false → leak_as k s i ≡ leak_as k s2 i
  leaks_same Load i n = ap (λ v. v ∷ []) (first_equal m.regs s.regs s2.regs h.regs.words (reads_of i) n)
  leaks_same Store i n = ap (λ v. v ∷ []) (first_equal m.regs s.regs s2.regs h.regs.words (reads_of i) n)
  leaks_same Div i n = ap (λ v. v ∷ []) (first_equal m.regs s.regs s2.regs h.regs.words (reads_of i) n)
  leaks_same Branch i n = ap goes_so (by_either i n)
  leaks_same Jalr i n = ap goes_so (by_either i n)
  leaks_same Call i n = asked_same m.regs s.regs s2.regs h.regs.words n
  leaks_same _ i n = refl

  -- ---- where the step goes

  abbrev G : Instr → Step → Step → Type 0
  G i t t2 = BothGo t t2 (λ t t2. StatesAlike (after_instr s i m) t t2)

  -- registers with one written are equal but where marks stand
  regs_out : (i : Instr) (o : Option ℕ) (w : WordMarks) (v v2 : ℕ) → writes_of i ≡ o → SameWord w v v2 → SameRegisters (with_marks m.regs o w) (with_reg s.regs o v) (with_reg s2.regs o v2)
  regs_out i o w v v2 q e = record {
    words = words o;
    zero = read_other s.regs o 0 v (ap (λ o. is_register 0 o) (sym q) ∙ writes_not_zero i) ∙ h.regs.zero;
    zero2 = read_other s2.regs o 0 v2 (ap (λ o. is_register 0 o) (sym q) ∙ writes_not_zero i) ∙ h.regs.zero2;
  }
    where
      words : (o : Option ℕ) → Beside SameWord (with_marks m.regs o w) (with_reg s.regs o v) (with_reg s2.regs o v2)
      words None = h.regs.words
      words (Some r) = beside_set SameWord m.regs s.regs s2.regs r w v v2 h.regs.words e

  -- the value of an instruction that is no load, by the marks of its sources
  value_same : (i : Instr) → SameWord (result_marks i (first_mark (reads_of i) m.regs) (second_mark (reads_of i) m.regs)) (effect_in s i).value (effect_in s2 i).value
  value_same i =
      subst (λ p. SameWord (result_marks i (first_mark (reads_of i) m.regs) (second_mark (reads_of i) m.regs)) (effect_in s i).value (effect p i (A2 i) (B2 i)).value) h.pc
      (same_result (first_mark (reads_of i) m.regs) (second_mark (reads_of i) m.regs) (A i) (A2 i) (B i) (B2 i) (first_same m.regs s.regs s2.regs h.regs.words (reads_of i)) (second_same m.regs s.regs s2.regs h.regs.words (reads_of i)) s.pc i
      (λ r q. (twice s.regs r q, twice s2.regs r q)) (λ r q. (zeroth s.regs h.regs.zero r q, zeroth s2.regs h.regs.zero2 r q)) (λ r q. (zero_first s.regs h.regs.zero r q, zero_first s2.regs h.regs.zero2 r q)))
    where
      twice : (g : List ℕ) (r : ℕ) → reads_of i ≡ r ∷ r ∷ [] → first_of (reads_of i) g ≡ second_of (reads_of i) g
      twice g r q = rw q refl

      zeroth : (g : List ℕ) → reg g 0 ≡ 0 → (r : ℕ) → reads_of i ≡ r ∷ 0 ∷ [] → second_of (reads_of i) g ≡ 0
      zeroth g z r q = rw q z

      zero_first : (g : List ℕ) → reg g 0 ≡ 0 → (r : ℕ) → reads_of i ≡ 0 ∷ r ∷ [] → first_of (reads_of i) g ≡ 0
      zero_first g z r q = rw q z

  -- marks of the registers behind an instruction that is no load, store or call
  abbrev plain : Instr → PathMarks
  plain i = record m { regs = with_marks m.regs (writes_of i) (result_marks i (first_mark (reads_of i) m.regs) (second_mark (reads_of i) m.regs)) }

  goes_same : (i : Instr) (n n2 : ℕ) → n ≡ n2 → StatesAlike (plain i) (record s { pc = n; regs = with_reg s.regs (writes_of i) (effect_in s i).value }) (record s2 { pc = n2; regs = with_reg s2.regs (writes_of i) (effect_in s2 i).value })
  goes_same i n n2 q = record { pc = q; regs = regs_out i (writes_of i) _ _ _ refl (value_same i); place = h.place; bytes = h.bytes }

  -- a step that jumps to a multiple of 4 alone
  jumps : (i : Instr) (c c2 : Bool) (n n2 : ℕ) → c ≡ c2 → n ≡ n2 →
      BothGo (if c then Traps jump_misaligned else Goes (record s { pc = n; regs = with_reg s.regs (writes_of i) (effect_in s i).value }) [])
      (if c2 then Traps jump_misaligned else Goes (record s2 { pc = n2; regs = with_reg s2.regs (writes_of i) (effect_in s2 i).value }) []) (λ t t2. StatesAlike (plain i) t t2)
  jumps i true true n n2 q e = tt
  jumps i false false n n2 q e = goes_same i n n2 e
  jumps i true false n n2 q e = absurd (cc)
  jumps i false true n n2 q e = absurd (cc)

  byte_same : (a : ℕ) → SameByte (get_or m.bytes (a - s.ram.base) false) (slice_index s.ram.bytes (a - s.ram.base)) (slice_index s2.ram.bytes (a - s2.ram.base))
  byte_same a =
      subst (λ b. SameByte (get_or m.bytes (a - s.ram.base) false) (slice_index s.ram.bytes (a - s.ram.base)) (slice_index s2.ram.bytes (a - b))) (sym h.place.base)
      (beside_at SameByte m.bytes s.ram.bytes s2.ram.bytes (a - s.ram.base) false 0 0 h.bytes no_byte)

  -- what is loaded from one address, where both loads are without fault
  loaded_same : (o : Op) (a : ℕ) → load_fault s.ram a (size_of o) ≡ None → load_fault s2.ram a (size_of o) ≡ None → SameWord (loaded_marks o (λ b. get_or m.bytes (b - s.ram.base) false) a) (load_value s o a) (load_value s2 o a)
  loaded_same o a f f2 =
      let r = inside _ _ s.ram a (size_of o) f in
      let r2 = inside _ _ s2.ram a (size_of o) f2 in
      let w = loaded_marks o (λ b. get_or m.bytes (b - s.ram.base) false) a in
      let e = bytes_map s.ram a (size_of o) r.0 r.1 in
      let e2 = bytes_map s2.ram a (size_of o) r2.0 r2.1 in
      subst (λ bs. SameWord w (extend o (from_le bs)) (load_value s2 o a)) (sym e)
      (subst (λ bs. SameWord w (extend o (from_le (map (λ b. slice_index s.ram.bytes (b - s.ram.base)) (range a (size_of o))))) (extend o (from_le bs))) (sym e2)
      (same_loaded o (λ b. get_or m.bytes (b - s.ram.base) false) (λ b. slice_index s.ram.bytes (b - s.ram.base)) (λ b. slice_index s2.ram.bytes (b - s2.ram.base)) a byte_same))

  -- ---- by instruction, on both paths: b tells that faulting accesses are passed over

  abbrev Way : Bool → Hart → Instr → Step → Step
  Way b t i step = if b then pass_fault t i step else step

  abbrev Goal : Bool → Instr → Step → Step → Type 0
  Goal b i t t2 = G i (Way b s i t) (Way b s2 i t2)

  -- what is no load, store or call goes on alike, where it jumps alike
  other_go : (b : Bool) (i : Instr) (c c2 : Bool) (n n2 : ℕ) → c ≡ c2 → n ≡ n2 →
      BothGo (Way b s i (if c then Traps jump_misaligned else Goes (record s { pc = n; regs = with_reg s.regs (writes_of i) (effect_in s i).value }) []))
      (Way b s2 i (if c2 then Traps jump_misaligned else Goes (record s2 { pc = n2; regs = with_reg s2.regs (writes_of i) (effect_in s2 i).value }) [])) (λ t t2. StatesAlike (plain i) t t2)
  other_go true i true true n n2 q e = tt
  other_go false i true true n n2 q e = tt
  other_go true i false false n n2 q e = goes_same i n n2 e
  other_go false i false false n n2 q e = goes_same i n n2 e
  other_go b i true false n n2 q e = absurd (cc)
  other_go b i false true n n2 q e = absurd (cc)

  -- a load, by its faults
  module _ (o : Op) (rd : Option ℕ) (i : Instr) (w : writes_of i ≡ rd) (a a2 n n2 : ℕ) (qa : a ≡ a2) (qn : n ≡ n2) where
    abbrev loads : Option Cause → PathMarks
    loads f = record m { regs = with_marks m.regs rd (load_marks f o (λ b. get_or m.bytes (b - s.ram.base) false) a) }

    abbrev to : Hart
    to = record s { pc = n; regs = with_reg s.regs rd (load_value s o a) }

    abbrev to2 : Hart
    to2 = record s2 { pc = n2; regs = with_reg s2.regs rd (load_value s2 o a2) }

    load_by : (b : Bool) (f f2 : Option Cause) → load_fault s.ram a (size_of o) ≡ f → load_fault s2.ram a2 (size_of o) ≡ f2 → f ≡ f2 →
        ((c : Cause) → f ≡ Some c → StatesAlike (loads (Some c)) (state_past_access s i) (state_past_access s2 i)) →
        BothGo (Way b s i (or_trap f (Goes to []))) (Way b s2 i (or_trap f2 (Goes to2 []))) (λ t t2. StatesAlike (loads f) t t2)
    load_by b None None q q2 e p = subst (λ t. t) (sym (both_ways b)) there
      where
        there : StatesAlike (loads None) to to2
        there = record {
          pc = qn;
          regs = regs_out i rd _ _ _ w (subst (λ x. SameWord (loaded_marks o (λ b. get_or m.bytes (b - s.ram.base) false) a) (load_value s o a) (load_value s2 o x)) qa (loaded_same o a q (ap (λ x. load_fault s2.ram x (size_of o)) qa ∙ q2)));
          place = h.place;
          bytes = h.bytes;
        }

        both_ways : (b : Bool) → BothGo (Way b s i (Goes to [])) (Way b s2 i (Goes to2 [])) (λ t t2. StatesAlike (loads None) t t2) ≡ StatesAlike (loads None) to to2
        both_ways true = refl
        both_ways false = refl
    load_by false (Some c) (Some c2) q q2 e p = tt
    load_by true (Some c) (Some c2) q q2 e p = by_cause (nat_le 4 c.number) (nat_le 4 c2.number)
      where
        by_cause : (x y : Bool) → BothGo (if x then Goes (state_past_access s i) [] else Traps c) (if y then Goes (state_past_access s2 i) [] else Traps c2) (λ t t2. StatesAlike (loads (Some c)) t t2)
        by_cause true true = p c refl
        by_cause true false = tt
        by_cause false y = tt
    load_by b None (Some c) q q2 e p = absurd (cc)
    load_by b (Some c) None q q2 e p = absurd (cc)

  -- a store, by its faults
  module _ (o : Op) (i : Instr) (wm : WordMarks) (a a2 n n2 v v2 : ℕ) (qa : a ≡ a2) (qn : n ≡ n2) (qv : SameWord wm v v2) where
    abbrev stores : Option Cause → PathMarks
    stores f = record m { bytes = store_marks f m.bytes (a - s.ram.base) (size_of o) wm }

    abbrev put_to : Hart
    put_to = record s { pc = n; ram = with_bytes s.ram a (to_le (size_of o) v) }

    abbrev put_to2 : Hart
    put_to2 = record s2 { pc = n2; ram = with_bytes s2.ram a2 (to_le (size_of o) v2) }

    put : ℕ → List ℕ → ℕ → List ℕ
    put k bytes x = take k bytes ++ to_le (size_of o) x ++ drop (k + size_of o) bytes

    put_is : (k x : ℕ) (bytes : List ℕ) → take k bytes ++ to_le (size_of o) x ++ drop (k + length (to_le (size_of o) x)) bytes ≡ put k bytes x
    unfolding put
    put_is k x bytes = ap (λ j. take k bytes ++ to_le (size_of o) x ++ drop (k + j) bytes) (length_to_le (size_of o) x)

    put_bytes : Beside SameByte (with_byte_marks m.bytes (a - s.ram.base) (size_of o) wm) (with_bytes s.ram a (to_le (size_of o) v)).bytes (with_bytes s2.ram a2 (to_le (size_of o) v2)).bytes
    unfolding put
    put_bytes =
        let k = a - s.ram.base in
        let k2 : k ≡ a2 - s2.ram.base = ap₂ (λ a b. a - b) qa (sym h.place.base) in
        let z = size_of o in
        let b : Beside SameByte (with_byte_marks m.bytes k z wm) (put k s.ram.bytes v) (put k s2.ram.bytes v2) =
        beside_join SameByte (take k m.bytes ++ take z (in_order wm)) _ _ _ _ _
        (beside_join SameByte (take k m.bytes) (take z (in_order wm)) _ _ _ _ (beside_take SameByte k m.bytes s.ram.bytes s2.ram.bytes h.bytes) (bytes_beside wm z v v2 (size_le o) qv))
        (beside_drop SameByte (k + z) m.bytes s.ram.bytes s2.ram.bytes h.bytes) in
        let q1 = put_is k v s.ram.bytes in
        let q2 = ap (λ k. put k s2.ram.bytes v2) k2 ∙ sym (put_is (a2 - s2.ram.base) v2 s2.ram.bytes) in
        subst (λ vs. Beside SameByte (with_byte_marks m.bytes k z wm) vs (with_bytes s2.ram a2 (to_le z v2)).bytes) (sym q1) (subst (Beside SameByte (with_byte_marks m.bytes k z wm) (put k s.ram.bytes v)) q2 b)

    store_by : (b : Bool) (f f2 : Option Cause) → f ≡ f2 →
        ((c : Cause) → f ≡ Some c → StatesAlike (stores (Some c)) (state_past_access s i) (state_past_access s2 i)) →
        BothGo (Way b s i (or_trap f (Goes put_to []))) (Way b s2 i (or_trap f2 (Goes put_to2 []))) (λ t t2. StatesAlike (stores f) t t2)
    store_by b None None e p = subst (λ t. t) (sym (both_ways b)) there
      where
        there : StatesAlike (stores None) put_to put_to2
        there = record {
          pc = qn;
          regs = h.regs;
          place = record { base = h.place.base; size = sym (values_length SameByte (with_byte_marks m.bytes (a - s.ram.base) (size_of o) wm) put_to.ram.bytes put_to2.ram.bytes put_bytes); misaligned = h.place.misaligned };
          bytes = put_bytes;
        }

        both_ways : (b : Bool) → BothGo (Way b s i (Goes put_to [])) (Way b s2 i (Goes put_to2 [])) (λ t t2. StatesAlike (stores None) t t2) ≡ StatesAlike (stores None) put_to put_to2
        both_ways true = refl
        both_ways false = refl
    store_by false (Some c) (Some c2) e p = tt
    store_by true (Some c) (Some c2) e p = by_cause (nat_le 4 c.number) (nat_le 4 c2.number)
      where
        by_cause : (x y : Bool) → BothGo (if x then Goes (state_past_access s i) [] else Traps c) (if y then Goes (state_past_access s2 i) [] else Traps c2) (λ t t2. StatesAlike (stores (Some c)) t t2)
        by_cause true true = p c refl
        by_cause true false = tt
        by_cause false y = tt
    store_by b None (Some c) e p = absurd (cc)
    store_by b (Some c) None e p = absurd (cc)

  -- ---- a call

  -- a machine that stands in a state; which description it is of doesn't matter
  abbrev still : Hart → Machine
  still t = let x : Machine = record (opening example t.pc t.ram) { regs = t.regs } in x

  abbrev at_rest : Marks
  at_rest = record { regs = m.regs; bytes = m.bytes; window = [] }

  still_alike : AlikeBut at_rest (still s) (still s2)
  still_alike =
      let K : ℕ → ℕ → Bool → Machine = λ p b f. without_data (opening example p (record { base = b; bytes = []; misaligned = f })) in
      record {
        others = ap (λ p. K p s.ram.base s.ram.misaligned) h.pc ∙ ap₂ (λ b f. K s2.pc b f) (sym h.place.base) (sym h.place.misaligned);
        regs = h.regs;
        bytes = h.bytes;
        window = tt;
      }

  abbrev called : PathMarks
  called = record m { regs = slice_set m.regs 10 unmarked }

  call_states : (t t2 : Step) → CallsAlike at_rest (still s) (still s2) t t2 → (b : Bool) → BothGo (Way b s instr.Ecall t) (Way b s2 instr.Ecall t2) (λ t t2. StatesAlike called t t2)
  call_states (Goes t p) (Goes t2 p2) c b = subst (λ t. t) (sym (both_ways b)) there
    where
      there : StatesAlike called t t2
      there = record {
        pc = c.0.pc;
        regs = c.0.regs;
        place = subst (λ r. SameShape r t2.ram) (sym c.0.ram) (subst (SameShape s.ram) (sym c.0.ram2) h.place);
        bytes = subst (λ (r : Ram). Beside SameByte m.bytes r.bytes t2.ram.bytes) (sym c.0.ram) (subst (λ (r : Ram). Beside SameByte m.bytes s.ram.bytes r.bytes) (sym c.0.ram2) h.bytes);
      }

      both_ways : (b : Bool) → BothGo (Way b s instr.Ecall (Goes t p)) (Way b s2 instr.Ecall (Goes t2 p2)) (λ t t2. StatesAlike called t t2) ≡ StatesAlike called t t2
      both_ways true = refl
      both_ways false = refl
  call_states (Exits v t) (Exits v2 t2) c true = tt
  call_states (Exits v t) (Exits v2 t2) c false = tt
  call_states (Traps c) t2 e b = absurd e
  call_states (Goes t p) (Exits v t2) e b = absurd e
  call_states (Goes t p) (Traps c) e b = absurd e
  call_states (Exits v t) (Goes t2 p) e b = absurd e
  call_states (Exits v t) (Traps c) e b = absurd e

  call_go : (b : Bool) → asks_marked s.regs m.regs ≡ false → BothGo (Way b s instr.Ecall (call s)) (Way b s2 instr.Ecall (call s2)) (λ t t2. StatesAlike called t t2)
  call_go b n = call_states (call s) (call s2) (calls_alike at_rest (still s) (still s2) still_alike n) b

  -- a call puts out nothing on both paths, or writes alike
  call_pieces : (t t2 : Step) → CallsAlike at_rest (still s) (still s2) t t2 → CallPuts s t → CallPuts s2 t2 → asks_marked s.regs m.regs ≡ false → (b : Bool) →
      PiecesAlike s s2 (Way b s instr.Ecall t) (Way b s2 instr.Ecall t2)
  call_pieces (Goes t p) (Goes t2 p2) c puts puts2 n b = subst (λ t. t) (sym (both_ways b)) (by_puts puts puts2)
    where
      by_puts : (p ≡ []) ⊎ Writes s p → (p2 ≡ []) ⊎ Writes s2 p2 → PiecesAlike s s2 (Goes t p) (Goes t2 p2)
      by_puts (inl e) q = inl (e, empty_of p2 (sym c.1 ∙ ap length e))
      by_puts q (inl e2) = inl (empty_of p (c.1 ∙ ap length e2), e2)
      by_puts (inr w) (inr w2) =
          let a = asked_same_call at_rest (still s) (still s2) still_alike p w n in
          inr (record {
            stream = same_reg at_rest (still s) (still s2) still_alike 10 a.0;
            place = ap₂ (λ a b. a - b) (same_reg at_rest (still s) (still s2) still_alike 11 a.1) (sym h.place.base);
            size = c.1;
            bytes = ap (λ (r : Ram). take (length p) (drop (reg s.regs 11 - s.ram.base) r.bytes)) c.0.ram ∙ w.bytes;
            bytes2 = ap (λ (r : Ram). take (length p2) (drop (reg s2.regs 11 - s2.ram.base) r.bytes)) c.0.ram2 ∙ w2.bytes;
          })

      both_ways : (b : Bool) → PiecesAlike s s2 (Way b s instr.Ecall (Goes t p)) (Way b s2 instr.Ecall (Goes t2 p2)) ≡ PiecesAlike s s2 (Goes t p) (Goes t2 p2)
      both_ways true = refl
      both_ways false = refl
  call_pieces (Exits v t) (Exits v2 t2) c puts puts2 n true = tt
  call_pieces (Exits v t) (Exits v2 t2) c puts puts2 n false = tt
  call_pieces (Traps c) t2 e puts puts2 n b = absurd e
  call_pieces (Goes t p) (Exits v t2) e puts puts2 n b = absurd e
  call_pieces (Goes t p) (Traps c) e puts puts2 n b = absurd e
  call_pieces (Exits v t) (Goes t2 p) e puts puts2 n b = absurd e
  call_pieces (Exits v t) (Traps c) e puts puts2 n b = absurd e

  -- ---- any instruction

  traps : (b : Bool) (i : Instr) (c : Cause) → nat_le 4 c.number ≡ false → (R : Hart → Hart → Type 0) → BothGo (Way b s i (Traps c)) (Way b s2 i (Traps c)) R
  traps false i c q R = tt
  traps true i c q R = by_cause (nat_le 4 c.number) q
    where
      by_cause : (x : Bool) → x ≡ false → BothGo (if x then Goes (state_past_access s i) [] else Traps c) (if x then Goes (state_past_access s2 i) [] else Traps c) R
      by_cause false q = tt
      by_cause true q = absurd (cc)

  step_go : (b : Bool) (i : Instr) → shows_as (kind_of i) s i m.regs ≡ false → BothGo (Way b s i (step_of s i)) (Way b s2 i (step_of s2 i)) (λ t t2. StatesAlike (after_instr s i m) t t2)
  step_go b (instr.Load o rd rs1 imm) n =
      let i = instr.Load o rd rs1 imm in
      let e = same_effect i (first_equal m.regs s.regs s2.regs h.regs.words (reads_of i) n) refl in
      let qa = ap (λ (f : Effect). f.addr) e in
      let qn = ap (λ (f : Effect). f.next) e in
      let f = load_fault s.ram (effect_in s i).addr (size_of o) in
      let f2 = load_fault s2.ram (effect_in s2 i).addr (size_of o) in
      let qf : f ≡ f2 = sym (same_fault load_misaligned load_outside s.ram s2.ram (effect_in s i).addr (size_of o) h.place) ∙ ap (λ a. load_fault s2.ram a (size_of o)) qa in
      load_by o (unless_zero rd.number) i refl (effect_in s i).addr (effect_in s2 i).addr (effect_in s i).next (effect_in s2 i).next qa qn b f f2 refl refl qf
      (λ c k. record { pc = ap (λ p. word_add p 4) h.pc; regs = regs_out i (unless_zero rd.number) unmarked 0 0 refl refl; place = h.place; bytes = h.bytes })
  step_go b (instr.Store o rs1 rs2 imm) n =
      let i = instr.Store o rs1 rs2 imm in
      let one : first_of (reads_of i) s.regs ≡ first_of (reads_of i) s2.regs = first_equal m.regs s.regs s2.regs h.regs.words (reads_of i) n in
      let qa : (effect_in s i).addr ≡ (effect_in s2 i).addr = ap (λ v. (effect s.pc i v (B i)).addr) one in
      let qn : (effect_in s i).next ≡ (effect_in s2 i).next = ap (λ p. word_add p 4) h.pc in
      let f = store_fault s.ram (effect_in s i).addr (size_of o) in
      let f2 = store_fault s2.ram (effect_in s2 i).addr (size_of o) in
      let qf : f ≡ f2 = sym (same_fault store_misaligned store_outside s.ram s2.ram (effect_in s i).addr (size_of o) h.place) ∙ ap (λ a. store_fault s2.ram a (size_of o)) qa in
      store_by o i (second_mark (reads_of i) m.regs) (effect_in s i).addr (effect_in s2 i).addr (effect_in s i).next (effect_in s2 i).next (effect_in s i).stored (effect_in s2 i).stored qa qn (second_same m.regs s.regs s2.regs h.regs.words (reads_of i)) b f f2 qf
      (λ c k. record { pc = ap (λ p. word_add p 4) h.pc; regs = h.regs; place = h.place; bytes = h.bytes })
  step_go b instr.Ecall n = call_go b n
  step_go b instr.Ebreak n = traps b instr.Ebreak breakpoint refl _
  step_go b (instr.Illegal w) n = traps b (instr.Illegal w) illegal refl _
  step_go b (instr.Branch o rs1 rs2 imm) n =
      let i = instr.Branch o rs1 rs2 imm in
      let e = by_either i n in
      other_go b i (effect_in s i).misaligned (effect_in s2 i).misaligned (effect_in s i).next (effect_in s2 i).next (ap (λ (f : Effect). f.misaligned) e) (ap (λ (f : Effect). f.next) e)
  step_go b (instr.Jalr rd rs1 imm) n =
      let i = instr.Jalr rd rs1 imm in
      let e = by_either i n in
      other_go b i (effect_in s i).misaligned (effect_in s2 i).misaligned (effect_in s i).next (effect_in s2 i).next (ap (λ (f : Effect). f.misaligned) e) (ap (λ (f : Effect). f.next) e)
  step_go b (instr.Lui rd imm) n = let i = instr.Lui rd imm in other_go b i false false (effect_in s i).next (effect_in s2 i).next refl (ap (λ p. (effect p i 0 0).next) h.pc)
  step_go b (instr.Auipc rd imm) n = let i = instr.Auipc rd imm in other_go b i false false (effect_in s i).next (effect_in s2 i).next refl (ap (λ p. (effect p i 0 0).next) h.pc)
  step_go b (instr.Jal rd imm) n =
      let i = instr.Jal rd imm in
      other_go b i (effect_in s i).misaligned (effect_in s2 i).misaligned (effect_in s i).next (effect_in s2 i).next (ap (λ p. (effect p i 0 0).misaligned) h.pc) (ap (λ p. (effect p i 0 0).next) h.pc)
  step_go b (instr.OpImm o rd rs1 imm) n = let i = instr.OpImm o rd rs1 imm in other_go b i false false (effect_in s i).next (effect_in s2 i).next refl (ap (λ p. (effect p i 0 0).next) h.pc)
  step_go b (instr.OpReg o rd rs1 rs2) n = let i = instr.OpReg o rd rs1 rs2 in other_go b i false false (effect_in s i).next (effect_in s2 i).next refl (ap (λ p. (effect p i 0 0).next) h.pc)
  step_go b (instr.Fence w) n = let i = instr.Fence w in other_go b i false false (effect_in s i).next (effect_in s2 i).next refl (ap (λ p. (effect p i 0 0).next) h.pc)

  -- steps put out nothing on both paths, or write alike
  pieces_at : (b : Bool) (i : Instr) → Silent (step_of s i) → Silent (step_of s2 i) → PiecesAlike s s2 (Way b s i (step_of s i)) (Way b s2 i (step_of s2 i))
  pieces_at b i q q2 = both_silent s s2 _ _ (silent_passed b s i (step_of s i) q) (silent_passed b s2 i (step_of s2 i) q2)

  step_pieces : (b : Bool) (i : Instr) → shows_as (kind_of i) s i m.regs ≡ false → PiecesAlike s s2 (Way b s i (step_of s i)) (Way b s2 i (step_of s2 i))
  step_pieces b instr.Ecall n = call_pieces (call s) (call s2) (calls_alike at_rest (still s) (still s2) still_alike n) (call_puts s) (call_puts s2) n b
  step_pieces b (instr.Load o rd rs1 imm) n = pieces_at b (instr.Load o rd rs1 imm) (silent_or _ _) (silent_or _ _)
  step_pieces b (instr.Store o rs1 rs2 imm) n = pieces_at b (instr.Store o rs1 rs2 imm) (silent_or _ _) (silent_or _ _)
  step_pieces b instr.Ebreak n = pieces_at b instr.Ebreak tt tt
  step_pieces b (instr.Illegal w) n = pieces_at b (instr.Illegal w) tt tt
  step_pieces b i n = pieces_at b i (silent_other s (writes_of i) (effect_in s i)) (silent_other s2 (writes_of i) (effect_in s2 i))

  -- a call that goes on does so with both states
  call_goes : (t t2 : Step) → CallsAlike at_rest (still s) (still s2) t t2 → GoesWith t t2
  call_goes (Goes t p) (Goes t2 p2) c = tt
  call_goes (Exits v t) t2 c = tt
  call_goes (Traps c) t2 e = tt
  call_goes (Goes t p) (Exits v t2) e = absurd e
  call_goes (Goes t p) (Traps c) e = absurd e

  -- where an instruction goes on in the first state, so it does in the second
  step_goes : (i : Instr) → shows_as (kind_of i) s i m.regs ≡ false → GoesWith (step_of s i) (step_of s2 i)
  step_goes (instr.Load o rd rs1 imm) n =
      let i = instr.Load o rd rs1 imm in
      let qa = ap (λ (f : Effect). f.addr) (same_effect i (first_equal m.regs s.regs s2.regs h.regs.words (reads_of i) n) refl) in
      let qf : load_fault s.ram (effect_in s i).addr (size_of o) ≡ load_fault s2.ram (effect_in s2 i).addr (size_of o) =
      sym (same_fault load_misaligned load_outside s.ram s2.ram (effect_in s i).addr (size_of o) h.place) ∙ ap (λ a. load_fault s2.ram a (size_of o)) qa in
      with_or _ _ qf _ _ tt
  step_goes (instr.Store o rs1 rs2 imm) n =
      let i = instr.Store o rs1 rs2 imm in
      let one : first_of (reads_of i) s.regs ≡ first_of (reads_of i) s2.regs = first_equal m.regs s.regs s2.regs h.regs.words (reads_of i) n in
      let qa : (effect_in s i).addr ≡ (effect_in s2 i).addr = ap (λ v. (effect s.pc i v (B i)).addr) one in
      let qf : store_fault s.ram (effect_in s i).addr (size_of o) ≡ store_fault s2.ram (effect_in s2 i).addr (size_of o) =
      sym (same_fault store_misaligned store_outside s.ram s2.ram (effect_in s i).addr (size_of o) h.place) ∙ ap (λ a. store_fault s2.ram a (size_of o)) qa in
      with_or _ _ qf _ _ tt
  step_goes instr.Ecall n = call_goes (call s) (call s2) (calls_alike at_rest (still s) (still s2) still_alike n)
  step_goes instr.Ebreak n = tt
  step_goes (instr.Illegal w) n = tt
  step_goes (instr.Branch o rs1 rs2 imm) n = let i = instr.Branch o rs1 rs2 imm in with_other s s2 (writes_of i) (writes_of i) (effect_in s i) (effect_in s2 i) (ap (λ (f : Effect). f.misaligned) (by_either i n))
  step_goes (instr.Jalr rd rs1 imm) n = let i = instr.Jalr rd rs1 imm in with_other s s2 (writes_of i) (writes_of i) (effect_in s i) (effect_in s2 i) (ap (λ (f : Effect). f.misaligned) (by_either i n))
  step_goes (instr.Jal rd imm) n = let i = instr.Jal rd imm in with_other s s2 (writes_of i) (writes_of i) (effect_in s i) (effect_in s2 i) (ap (λ p. (effect p i 0 0).misaligned) h.pc)
  step_goes i n = with_other s s2 (writes_of i) (writes_of i) (effect_in s i) (effect_in s2 i) refl

  word_goes : (o : Option ℕ) → shows_as (kind_at o) s (instr_at o) m.regs ≡ false → GoesWith (step_at o s) (step_at o s2)
  word_goes None n = tt
  word_goes (Some w) n = step_goes (decode w) n

  -- where a step of the instruction set goes on in the first state, so it does in the second
  pub isa_goes : (code : Code) → shows_as (kind_at (code s.pc)) s (instr_at (code s.pc)) m.regs ≡ false → GoesWith (isa_step code s) (isa_step code s2)
  unfolding isa_step
  isa_goes code n = subst (λ o. GoesWith (step_at (code s.pc) s) (step_at o s2)) (ap code h.pc) (word_goes (code s.pc) n)

  -- ---- a step at the pc

  -- two steps lead to states that are alike, and put out nothing or write alike
  abbrev Both : Instr → Step → Step → Type 0
  Both i t t2 = BothGo t t2 (λ t t2. StatesAlike (after_instr s i m) t t2) × PiecesAlike s s2 t t2

  -- the step of the path at a word
  abbrev at_word : Bool → Option ℕ → Hart → Step
  at_word b None t = Traps outside_code
  at_word b (Some w) t = Way b t (decode w) (step_of t (decode w))

  word_go : (b : Bool) (o : Option ℕ) → shows_as (kind_at o) s (instr_at o) m.regs ≡ false → Both (instr_at o) (at_word b o s) (at_word b o s2)
  word_go b None n = (tt, tt)
  word_go b (Some w) n = (step_go b (decode w) n, step_pieces b (decode w) n)

  path_is : (t : Hart) (o : Option ℕ) (b : Bool) → (if b then pass_at o t else step_at o t) ≡ at_word b o t
  path_is t None true = refl
  path_is t None false = refl
  path_is t (Some w) true = refl
  path_is t (Some w) false = refl

  at_same : (b : Bool) (code : Code) → shows_as (kind_at (code s.pc)) s (instr_at (code s.pc)) m.regs ≡ false →
      Both (instr_at (code s.pc)) (if b then pass_at (code s.pc) s else step_at (code s.pc) s) (if b then pass_at (code s2.pc) s2 else step_at (code s2.pc) s2)
  at_same b code n =
      let i = instr_at (code s.pc) in
      let q2 = ap (λ p. if b then pass_at (code p) s2 else step_at (code p) s2) (sym h.pc) ∙ path_is s2 (code s.pc) b in
      subst (λ t. Both i t (if b then pass_at (code s2.pc) s2 else step_at (code s2.pc) s2)) (sym (path_is s (code s.pc) b)) (subst (λ t. Both i (at_word b (code s.pc) s) t) (sym q2) (word_go b (code s.pc) n))

  -- a step of a path in which nothing shows
  pub path_go : (model : SttModel) (code : Code) → shows_as (kind_at (code s.pc)) s (instr_at (code s.pc)) m.regs ≡ false → Both (instr_at (code s.pc)) (path model code s) (path model code s2)
  unfolding isa_step pass_step
  path_go Spectre code n = at_same true code n
  path_go Off code n = at_same true code n
  path_go Futuristic code n = at_same false code n
