-- Marks move alike beside two machines that are equal but where marks stand, and what shows of them is the same.
use Rattle.std.proofs.Common.{◌≡◌, ℕ, zero, suc, ◌+◌, ◌-◌, Bool, true, false, not, ◌&&◌, ◌||◌, List, [], ◌∷◌, length, inl, inr, Option, refl, ap, ap₂, sym, ◌∙◌}
use Rattle.std.specs.Prelude.{if◌then◌else◌, ◌==◌, is_some}
use Rattle.rv_types.specs.Isa.{reg}
use Rattle.rv_types.specs.declared.Kind.{Kind}
use Rattle.rv_types.specs.declared.Kind.TheVariants.{Load, Store, Div, Call}
use Rattle.rv_types.specs.declared.Op.{Op}
use Rattle.rv_types.specs.declared.Op.TheVariants.{Lb, Lbu, Lh, Lhu}
use Rattle.machine_desc.specs.declared.Desc.{Desc}
use Rattle.window_model.specs.declared.Entry.{Entry}
use Rattle.window_model.specs.State.{Machine}
use Rattle.window_model.specs.Order.{base_of, is_control, is_faulty, is_load, is_waiting, sources, writes}
use Rattle.window_model.specs.Ports.{AddressPort}
use Rattle.window_model.specs.Ready.{ready}
use Rattle.window_model.specs.Rename.{is_call}
use Rattle.window_model.specs.Access.{covers}
use Rattle.window_model.specs.Retire.{Retired, addr_of, byte_count, hart_of, op_of}
use Rattle.window_model.specs.Delay.{may_show}
use Rattle.window_model.specs.Taint.{address_tainted, any_tainted}
use Rattle.window_model.proofs.Booleans.{neither}
use Rattle.window_model.proofs.Taints.{any_agree}
use Rattle.secret_marks.specs.declared.EntryMarks.{EntryMarks}
use Rattle.secret_marks.specs.declared.WordMarks.{WordMarks}
use Rattle.secret_marks.specs.Words.{any_byte, either, every_byte, lowest_byte, mark_at, unmarked}
use Rattle.secret_marks.specs.Results.{loaded_marks, result_marks}
use Rattle.secret_marks.specs.Marks.{Marks, after_retire_marks, any_marked, byte_mark, first_marks, goes_mark, is_at, is_by, issued_from, issued_marks, leaves, leaves_as, marks_after_leaving, register_marks, second_marks, value_marks, with_byte_marks}
use Rattle.secret_marks.specs.Shows.{call_shows, decides_as, head_shows, is_marked, operand_shows, operands_show, outcome_marked, resolved_shows}
use Rattle.secret_marks.specs.Published.{Public, public_piece, published_marks, unmarked_at}
use Rattle.secret_marks.specs.Alike.{AlikeBut, Beside, SameEntry, is_unresolved}
use Rattle.secret_marks.proofs.Calls.{same_reg}
use Rattle.secret_marks.proofs.Masks.{load_closed}
use Rattle.secret_marks.proofs.Kept.{same_addr, same_covers, same_fault_of}
use Rattle.secret_marks.proofs.Lists.{values_length}
use Rattle.secret_marks.proofs.Looking.{seen_by_marks}
use Rattle.secret_marks.proofs.May.{beside}
use Rattle.secret_marks.proofs.Outputs.{of_nothing}
use Rattle.secret_marks.proofs.Publish.{PutAlike}
use Rattle.two_runs.specs.Seen.{SeenEntries, SeenMachine, without_outcome}
use Rattle.two_runs.proofs.Looking.{same_address, same_any}
use Rattle.two_runs.proofs.May.{part_alike, ready_alike, show_alike, waits_alike}

-- ---- marks of operands

register_alike : (regs : List WordMarks) (ms ns : List EntryMarks) (b b2 : List Entry) (r : ℕ) → Beside SameEntry ns b b2 →
    register_marks regs b ms r ≡ register_marks regs b2 ms r
register_alike regs [] [] [] [] r s = refl
register_alike regs (m ∷ ms) [] [] [] r s = refl
register_alike regs [] (n ∷ ns) (e ∷ b) (e2 ∷ b2) r s = refl
register_alike regs (m ∷ ms) (n ∷ ns) (e ∷ b) (e2 ∷ b2) r s = ap₂ (λ w rest. if w then m.result else rest) (ap (writes r) s.0) (register_alike regs ms ns b b2 r s.1)
register_alike regs _ _ _ _ r s = absurd s

byte_alike : (cycle base : ℕ) (bytes : List Bool) (ms ns : List EntryMarks) (b b2 : List Entry) (a : ℕ) → Beside SameEntry ns b b2 →
    byte_mark cycle base bytes b ms a ≡ byte_mark cycle base bytes b2 ms a
byte_alike cycle base bytes [] [] [] [] a s = refl
byte_alike cycle base bytes (m ∷ ms) [] [] [] a s = refl
byte_alike cycle base bytes [] (n ∷ ns) (e ∷ b) (e2 ∷ b2) a s = refl
byte_alike cycle base bytes (m ∷ ms) (n ∷ ns) (e ∷ b) (e2 ∷ b2) a s =
    ap₂ (λ c d. if c && d then mark_at m.stored (a - addr_of e.outcome) else byte_mark cycle base bytes b ms a) (same_covers n e e2 s.0 a) (ap (λ (t : Entry). is_by cycle t.addr_due) s.0)
    ∙ ap₂ (λ p rest. if covers a e2 && is_by cycle e2.addr_due then mark_at m.stored (a - p) else rest) (same_addr n e e2 s.0) (byte_alike cycle base bytes ms ns b b2 a s.1)
byte_alike cycle base bytes _ _ _ _ a s = absurd s

four_bytes : Bool → Bool → Bool → Bool → WordMarks
four_bytes p q r t = record { byte0 = p; byte1 = q; byte2 = r; byte3 = t }

loaded_alike : (o : Op) (f g : ℕ → Bool) (a : ℕ) → ((i : ℕ) → f i ≡ g i) → loaded_marks o f a ≡ loaded_marks o g a
unfolding four_bytes
loaded_alike Lb f g a h = ap every_byte (h a)
loaded_alike Lbu f g a h = ap lowest_byte (h a)
loaded_alike Lh f g a h = ap₂ (λ p q. four_bytes p q q q) (h a) (h (a + 1))
loaded_alike Lhu f g a h = ap₂ (λ p q. four_bytes p q false false) (h a) (h (a + 1))
loaded_alike _ f g a h = ap₂ (λ p q. four_bytes p q (f (a + 2)) (f (a + 3))) (h a) (h (a + 1)) ∙ ap₂ (four_bytes (g a) (g (a + 1))) (h (a + 2)) (h (a + 3))

module _ (m : Marks) (ms ns : List EntryMarks) (b b2 : List Entry) (s : Beside SameEntry ns b b2) where
  first_alike : (rs : List ℕ) → first_marks m.regs b ms rs ≡ first_marks m.regs b2 ms rs
  first_alike [] = refl
  first_alike (r ∷ rs) = register_alike m.regs ms ns b b2 r s

  second_alike : (rs : List ℕ) → second_marks m.regs b ms rs ≡ second_marks m.regs b2 ms rs
  second_alike [] = refl
  second_alike (r ∷ rs) = first_alike rs

  any_alike : (rs : List ℕ) → any_marked m.regs b ms rs ≡ any_marked m.regs b2 ms rs
  any_alike rs =
      any_agree (λ r. any_byte (register_marks m.regs b ms r)) (λ r. any_byte (register_marks m.regs b2 ms r)) rs (λ r. ap any_byte (register_alike m.regs ms ns b b2 r s))

  -- ---- marks of an entry that issues

  module _ (cycle base : ℕ) (n : EntryMarks) (e e2 : Entry) (t : SameEntry n e e2) where
    loads_alike : loaded_marks (op_of e.item.instr) (byte_mark cycle base m.bytes b ms) (addr_of e.outcome)
        ≡ loaded_marks (op_of e2.item.instr) (byte_mark cycle base m.bytes b2 ms) (addr_of e2.outcome)
    loads_alike =
        loaded_alike (op_of e.item.instr) _ _ (addr_of e.outcome) (λ a. byte_alike cycle base m.bytes ms ns b b2 a s)
        ∙ ap (loaded_marks (op_of e.item.instr) (byte_mark cycle base m.bytes b2 ms)) (same_addr n e e2 t)
        ∙ ap (λ (u : Entry). loaded_marks (op_of u.item.instr) (byte_mark cycle base m.bytes b2 ms) (addr_of e2.outcome)) t

    computed_alike : result_marks e.item.instr (first_marks m.regs b ms (sources e)) (second_marks m.regs b ms (sources e))
        ≡ result_marks e2.item.instr (first_marks m.regs b2 ms (sources e2)) (second_marks m.regs b2 ms (sources e2))
    computed_alike =
        ap₂ (result_marks e.item.instr) (first_alike (sources e)) (second_alike (sources e))
        ∙ ap (λ (u : Entry). result_marks u.item.instr (first_marks m.regs b2 ms (sources u)) (second_marks m.regs b2 ms (sources u))) t

    value_alike : (k : Kind) → e.item.kind ≡ k → value_marks k cycle base m b ms e ≡ value_marks k cycle base m b2 ms e2
    value_alike Load q =
        let closed : is_unresolved e ≡ false = load_closed e.item.kind e.resolved (ap is_load q) in
        let faults : is_faulty e ≡ is_faulty e2 = ap is_some (same_fault_of n e e2 t closed) in
        ap₂ (λ c w. if c then unmarked else w) faults loads_alike
    value_alike _ q = computed_alike

    goes_alike : goes_mark m b ms e ≡ goes_mark m b2 ms e2
    goes_alike =
        ap (λ c. is_control e.item.kind && c) (any_alike (sources e)) ∙ ap (λ (u : Entry). is_control u.item.kind && any_marked m.regs b2 ms (sources u)) t

    -- the marks of an entry by what is known of it and by those of its value, its way and its data
    made : EntryMarks → Option ℕ → Option ℕ → WordMarks → Bool → WordMarks → EntryMarks
    made own issued data_due value goes stored = record {
      result = if is_at cycle issued then either own.result value else own.result;
      goes = own.goes || is_at cycle issued && goes;
      stored = if is_at (cycle + 1) data_due then either own.stored stored else own.stored;
    }

    issued_alike : (own : EntryMarks) → issued_marks cycle base m b ms e own ≡ issued_marks cycle base m b2 ms e2 own
    unfolding made
    issued_alike own =
        let value = value_alike e.item.kind refl ∙ ap (λ (u : Entry). value_marks u.item.kind cycle base m b2 ms e2) t in
        let stored = second_alike (sources e) ∙ ap (λ (u : Entry). second_marks m.regs b2 ms (sources u)) t in
        ap₂ (λ v g. made own e.issued e.data_due v g (second_marks m.regs b ms (sources e))) value goes_alike
        ∙ ap (made own e.issued e.data_due (value_marks e2.item.kind cycle base m b2 ms e2) (goes_mark m b2 ms e2)) stored
        ∙ ap (λ (u : Entry). made own u.issued u.data_due (value_marks e2.item.kind cycle base m b2 ms e2) (goes_mark m b2 ms e2) (second_marks m.regs b2 ms (sources e2))) t

-- the marks that Issue leaves are the same beside two windows that are equal but for marks
pub marks_issued : (cycle base : ℕ) (m : Marks) (ms ns : List EntryMarks) (b b2 : List Entry) → Beside SameEntry ns b b2 →
    (owns ks : List EntryMarks) (w w2 : List Entry) → Beside SameEntry ks w w2 →
    issued_from cycle base m b ms w owns ≡ issued_from cycle base m b2 ms w2 owns
marks_issued cycle base m ms ns b b2 s [] [] [] [] t = refl
marks_issued cycle base m ms ns b b2 s (own ∷ owns) [] [] [] t = refl
marks_issued cycle base m ms ns b b2 s [] (k ∷ ks) (e ∷ w) (e2 ∷ w2) t = refl
marks_issued cycle base m ms ns b b2 s (own ∷ owns) (k ∷ ks) (e ∷ w) (e2 ∷ w2) t =
    ap₂ (λ a rest. a ∷ rest) (issued_alike m ms ns b b2 s cycle base k e e2 t.0 own)
    (marks_issued cycle base m (own ∷ ms) (k ∷ ns) (e ∷ b) (e2 ∷ b2) (t.0, s) owns ks w w2 t.1)
marks_issued cycle base m ms ns b b2 s _ _ _ _ t = absurd t

-- ---- what shows of operands

module _ (d : Desc) (m : Marks) (x x2 : Machine) (h : AlikeBut m x x2) where
  module _ (ms : List EntryMarks) (b b2 : List Entry) (s : Beside SameEntry ms b b2) (k : EntryMarks) (e e2 : Entry) (t : SameEntry k e e2) where
    -- what two runs see alike of both machines, of older entries and of this one
    seen : SeenMachine x x2
    seen = beside d m x x2 h

    older : SeenEntries d.stt_model b b2
    older = seen_by_marks d.stt_model ms b b2 s

    others : without_outcome e ≡ without_outcome e2
    others = ap without_outcome t

    decides_alike : (j : Kind) → decides_as j d b e ≡ decides_as j d b2 e2
    decides_alike Load =
        ap₂ (λ w r. w && r && (not (address_tainted d.stt_model b e) && may_show d b)) (waits_alike d x x2 seen b b2 older e e2 others) (ready_alike d x x2 seen b b2 older e e2 others)
        ∙ ap₂ (λ c v. is_waiting e2.state && ready d b2 e2 && (not c && v)) (same_address d.stt_model b b2 older e e2 others) (show_alike d b b2 older)
    decides_alike Div =
        ap₂ (λ w r. w && r && (not (any_tainted d.stt_model b e) && may_show d b)) (waits_alike d x x2 seen b b2 older e e2 others) (ready_alike d x x2 seen b b2 older e e2 others)
        ∙ ap₂ (λ c v. is_waiting e2.state && ready d b2 e2 && (not c && v)) (same_any d.stt_model b b2 older e e2 others) (show_alike d b b2 older)
    decides_alike Store = part_alike d x x2 seen b b2 older e e2 others AddressPort
    decides_alike _ = refl

    operand_alike : operand_shows d m b ms e ≡ operand_shows d m b2 ms e2
    operand_alike =
        ap₂ (λ p q. p && q) (decides_alike e.item.kind) (any_alike m ms ms b b2 s (base_of (sources e)))
        ∙ ap (λ (u : Entry). decides_as u.item.kind d b2 e2 && any_marked m.regs b2 ms (base_of (sources u))) t

  -- operands show alike of two windows that are equal but for marks
  pub operands_alike : (ms : List EntryMarks) (b b2 : List Entry) → Beside SameEntry ms b b2 → (ks : List EntryMarks) (w w2 : List Entry) → Beside SameEntry ks w w2 →
      operands_show d m b ms w ks ≡ operands_show d m b2 ms w2 ks
  operands_alike ms b b2 s [] [] [] t = refl
  operands_alike ms b b2 s (k ∷ ks) (e ∷ w) (e2 ∷ w2) t =
      ap₂ (λ p q. p || q) (operand_alike ms b b2 s k e e2 t.0) (operands_alike (k ∷ ms) (e ∷ b) (e2 ∷ b2) (t.0, s) ks w w2 t.1)
  operands_alike ms b b2 s _ _ _ t = absurd t

-- ---- Resolve and Retire

-- whether what is resolved shows is equal beside two windows that are equal but where marks stand
pub resolved_alike : (ks : List EntryMarks) (w w2 : List Entry) → Beside SameEntry ks w w2 → resolved_shows w ks ≡ resolved_shows w2 ks
resolved_alike [] [] [] s = refl
resolved_alike (k ∷ ks) (e ∷ w) (e2 ∷ w2) s =
    ap₂ (λ r rest. r && outcome_marked k || rest) (ap (λ (t : Entry). t.resolved) s.0) (resolved_alike ks w w2 s.1)
resolved_alike _ _ _ s = absurd s

module _ (base : ℕ) (mark : EntryMarks) (rest : List EntryMarks) (m : Marks) (k : EntryMarks) (e e2 : Entry) (t : SameEntry k e e2) where
  stores_to : Entry → ℕ → ℕ → Marks
  stores_to v a n = record (leaves v mark rest m) { bytes = with_byte_marks m.bytes (a - base) n mark.stored }

  by_kind : (j : Kind) → leaves_as j base e mark rest m ≡ leaves_as j base e2 mark rest m
  unfolding stores_to
  by_kind Store =
      ap₂ (stores_to e) (same_addr k e e2 t) (ap byte_count t) ∙ ap (λ (v : Entry). stores_to v (addr_of e2.outcome) (byte_count e2)) t
  by_kind Call = refl
  by_kind _ = ap (λ (v : Entry). leaves v mark rest m) t

  leaves_alike : leaves_as e.item.kind base e mark rest m ≡ leaves_as e2.item.kind base e2 mark rest m
  leaves_alike = by_kind e.item.kind ∙ ap (λ (v : Entry). leaves_as v.item.kind base e2 mark rest m) t

left_alike : (base n : ℕ) (ks : List EntryMarks) (w w2 : List Entry) → Beside SameEntry ks w w2 → (m : Marks) (marks : List EntryMarks) →
    marks_after_leaving base n w m marks ≡ marks_after_leaving base n w2 m marks
left_alike base zero ks w w2 s m marks = refl
left_alike base (suc n) [] [] [] s m marks = refl
left_alike base (suc n) (k ∷ ks) (e ∷ w) (e2 ∷ w2) s m [] = refl
left_alike base (suc n) (k ∷ ks) (e ∷ w) (e2 ∷ w2) s m (mark ∷ marks) =
    ap (λ m. marks_after_leaving base n w m marks) (leaves_alike base mark marks m k e e2 s.0)
    ∙ left_alike base n ks w w2 s.1 (leaves_as e2.item.kind base e2 mark marks m) marks
left_alike base (suc n) _ _ _ s m marks = absurd s

module _ (m : Marks) (x x2 : Machine) (h : AlikeBut m x x2) where
  -- the marks that Retire leaves are the same beside two machines that are equal but where marks stand, and stay so
  pub marks_retired : (k : Marks) (y y2 : Machine) → AlikeBut k y y2 → after_retire_marks x.window y m ≡ after_retire_marks x2.window y2 m
  marks_retired k y y2 g =
      let own = values_length SameEntry m.window x.window x2.window h.window in
      let others = values_length SameEntry k.window y.window y2.window g.window in
      ap₂ (λ base n. marks_after_leaving base n x.window m m.window) (ap (λ (t : Machine). t.ram.base) g.others) (ap₂ (λ a b. a - b) own others)
      ∙ left_alike y2.ram.base (length x2.window - length y2.window) m.window x.window x2.window h.window m m.window

  called_alike : call_shows x m ≡ false → call_shows x2 m ≡ false
  called_alike n =
      let a7 = neither (is_marked m 17) _ n in
      ap (λ a7. is_marked m 17 || (if a7 == 93 || a7 == 94 then is_marked m 10 else a7 == 64 && (is_marked m 10 || is_marked m 11 || is_marked m 12))) (sym (same_reg m x x2 h 17 a7.0))
      ∙ n

  -- where the call at the head doesn't show in one of them, it doesn't in the other
  pub head_alike : head_shows x.window x m ≡ false → head_shows x2.window x2 m ≡ false
  head_alike n = by_window m.window x.window x2.window h.window n
    where
      by_call : (c c2 : Bool) → c ≡ c2 → (c && call_shows x m) ≡ false → (c2 && call_shows x2 m) ≡ false
      by_call true true q n = called_alike n
      by_call false false q n = refl
      by_call true false q n = refl
      by_call false true q n = absurd (cc)

      by_window : (ks : List EntryMarks) (w w2 : List Entry) → Beside SameEntry ks w w2 → head_shows w x m ≡ false → head_shows w2 x2 m ≡ false
      by_window [] [] [] s n = refl
      by_window (k ∷ ks) (e ∷ w) (e2 ∷ w2) s n = by_call (is_call e.item.kind) (is_call e2.item.kind) (ap (λ (t : Entry). is_call t.item.kind) s.0) n
      by_window _ _ _ s n = absurd s

-- what is published is unmarked alike
pub marks_published : (public : Public) (x x2 : Machine) (r r2 : Retired) (m : Marks) → PutAlike x x2 r r2 →
    public_piece public (hart_of x) r.piece ≡ public_piece public (hart_of x2) r2.piece → published_marks public x r.piece m ≡ published_marks public x2 r2.piece m
marks_published public x x2 r r2 m p q = by_puts p
  where
    by_puts : PutAlike x x2 r r2 → published_marks public x r.piece m ≡ published_marks public x2 r2.piece m
    by_puts (inl e) =
        ap (λ piece. let u : Marks = record m { bytes = unmarked_at (reg x.regs 11 - x.ram.base) piece m.bytes } in u) (of_nothing public (hart_of x) r.piece e.0)
        ∙ ap (λ piece. let u : Marks = record m { bytes = unmarked_at (reg x2.regs 11 - x2.ram.base) piece m.bytes } in u) (sym (of_nothing public (hart_of x2) r2.piece e.1))
    by_puts (inr w) = ap₂ (λ i piece. let u : Marks = record m { bytes = unmarked_at i piece m.bytes } in u) w.place q
