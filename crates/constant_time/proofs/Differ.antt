-- Marks where two machines differ: machines that are alike under any marks are alike under these.
use Rattle.std.proofs.Common.{◌≡◌, ℕ, zero, suc, Bool, true, false, not, List, [], ◌∷◌, Option, Some, None, refl, ap, ap₂, sym, ◌∙◌, arith}
use Rattle.std.specs.Prelude.{if◌then◌else◌, ◌==◌, get_or}
use Rattle.std.specs.Option.{option_map}
use Rattle.std.specs.List.{find}
use Rattle.std.proofs.lemmas.Bool.Decides.{nat_tests}
use Rattle.rv_types.specs.Isa.{reg}
use Rattle.rv_types.specs.declared.Cause.{Cause}
use Rattle.window_model.specs.declared.Entry.{Entry}
use Rattle.window_model.specs.declared.Outcome.{Outcome}
use Rattle.window_model.specs.State.{Machine}
use Rattle.window_model.specs.Order.{fault_of, from_writer, operand, value_of, writes}
use Rattle.window_model.specs.Resolve.{next_of}
use Rattle.window_model.specs.Retire.{stored_of}
use Rattle.secret_marks.specs.declared.EntryMarks.{EntryMarks}
use Rattle.secret_marks.specs.declared.WordMarks.{WordMarks}
use Rattle.secret_marks.specs.Words.{SameWord, any_byte, zero_where_marked, every_byte, unmarked}
use Rattle.secret_marks.specs.Marks.{Marks, register_marks}
use Rattle.secret_marks.specs.Alike.{AlikeBut, Beside, SameEntry, but_marked, hidden, is_unresolved}
use Rattle.secret_marks.proofs.Kept.{same_more}

-- ---- words

-- every byte is marked where the words differ, and none where they are equal
abbrev pub differs : ℕ → ℕ → WordMarks
differs v v2 = every_byte (not (v == v2))

nothing_left : (v v2 : ℕ) → zero_where_marked (every_byte true) v ≡ zero_where_marked (every_byte true) v2
unfolding zero_where_marked
nothing_left v v2 = refl

-- two words are equal but for all bytes marked where they differ
pub same_but : (v v2 : ℕ) → SameWord (differs v v2) v v2
same_but v v2 = by_test (v == v2) refl
  where
    by_test : (b : Bool) → (v == v2) ≡ b → zero_where_marked (every_byte (not b)) v ≡ zero_where_marked (every_byte (not b)) v2
    by_test true q = let e : v ≡ v2 = grind (arith, nat_tests) in ap (zero_where_marked unmarked) e
    by_test false q = nothing_left v v2

is_itself : (v : ℕ) → (v == v) ≡ true
is_itself v = by_test (v == v) refl
  where
    by_test : (b : Bool) → (v == v) ≡ b → b ≡ true
    by_test true q = refl
    by_test false q = absurd (grind (arith, nat_tests))

-- words that are equal are unmarked
pub equal_unmarked : (v v2 : ℕ) → v ≡ v2 → any_byte (differs v v2) ≡ false
equal_unmarked v v2 e = ap (λ u. any_byte (differs v u)) (sym e) ∙ ap (λ b. any_byte (every_byte (not b))) (is_itself v)

-- ---- registers

-- the marks of registers: every byte of those that differ
abbrev pub regs_differ : List ℕ → List ℕ → List WordMarks
regs_differ (v ∷ vs) (v2 ∷ vs2) = differs v v2 ∷ regs_differ vs vs2
regs_differ _ _ = []

-- registers that are equal but for some marks are so but for the marks where they differ
pub regs_again : (ms : List WordMarks) (vs vs2 : List ℕ) → Beside SameWord ms vs vs2 → Beside SameWord (regs_differ vs vs2) vs vs2
regs_again [] [] [] s = tt
regs_again (m ∷ ms) (v ∷ vs) (v2 ∷ vs2) s = (same_but v v2, regs_again ms vs vs2 s.1)
regs_again _ _ _ s = absurd s

-- ---- entries

-- all of an entry is marked
abbrev everything : EntryMarks
everything = record { result = every_byte true; goes = true; stored = every_byte true }

-- the marks of an entry where its values differ; where it goes is marked
abbrev pub loose : Entry → Entry → EntryMarks
loose e e2 = record { result = differs (value_of e.outcome) (value_of e2.outcome); goes = true; stored = differs (stored_of e.outcome) (stored_of e2.outcome) }

-- the marks of an entry where its values differ; where it goes isn't marked
abbrev pub firm : Entry → Entry → EntryMarks
firm e e2 = record { result = differs (value_of e.outcome) (value_of e2.outcome); goes = false; stored = differs (stored_of e.outcome) (stored_of e2.outcome) }

-- an outcome with another value and other data
abbrev with_data : ℕ → ℕ → Entry → Entry
with_data v s t = record t { outcome = option_map (λ (o : Outcome). record o { value = v; stored = s }) t.outcome }

-- an outcome with another value and other data, that goes on elsewhere
abbrev with_all : ℕ → ℕ → ℕ → Option Cause → Entry → Entry
with_all v s n f t = record t { outcome = option_map (λ (o : Outcome). record o { value = v; stored = s; next = n; fault = f }) t.outcome }

loose_is : (r w : WordMarks) (u : Bool) (o : Option Outcome) →
    option_map (but_marked (record { result = r; goes = true; stored = w }) u) o
    ≡ option_map (λ (p : Outcome). record p { value = zero_where_marked r (value_of o); stored = zero_where_marked w (stored_of o) }) (option_map (but_marked everything u) o)
loose_is r w u None = refl
loose_is r w u (Some o) = refl

firm_is : (r w : WordMarks) (u : Bool) (o : Option Outcome) →
    option_map (but_marked (record { result = r; goes = false; stored = w }) u) o
    ≡ option_map (λ (p : Outcome). record p { value = zero_where_marked r (value_of o); stored = zero_where_marked w (stored_of o); next = next_of o; fault = fault_of o }) (option_map (but_marked everything u) o)
firm_is r w u None = refl
firm_is r w u (Some o) = refl

of_outcome : (e : Entry) (o : Option Outcome) → Entry
of_outcome e o = record e { outcome = o }

module _ (m : EntryMarks) (e e2 : Entry) (h : SameEntry m e e2) where
  all_hidden : hidden everything e ≡ hidden everything e2
  all_hidden = same_more m everything e e2 (record {
    result = record { in0 = λ t. absurd (cc); in1 = λ t. absurd (cc); in2 = λ t. absurd (cc); in3 = λ t. absurd (cc) };
    goes = λ t. refl;
    stored = record { in0 = λ t. absurd (cc); in1 = λ t. absurd (cc); in2 = λ t. absurd (cc); in3 = λ t. absurd (cc) };
  }) h

  -- entries that are equal but for some marks are so but for marks of what of their outcomes differs
  pub loose_again : SameEntry (loose e e2) e e2
  unfolding of_outcome
  loose_again =
      let r = (loose e e2).result in
      let w = (loose e e2).stored in
      ap (of_outcome e) (loose_is r w (is_unresolved e) e.outcome)
      ∙ ap₂ (λ v t. with_data v (zero_where_marked w (stored_of e.outcome)) t) (same_but (value_of e.outcome) (value_of e2.outcome)) all_hidden
      ∙ ap (λ s. with_data (zero_where_marked r (value_of e2.outcome)) s (hidden everything e2)) (same_but (stored_of e.outcome) (stored_of e2.outcome))
      ∙ sym (ap (of_outcome e2) (loose_is r w (is_unresolved e2) e2.outcome))

  -- entries that are equal but for some marks, and go on alike, are so but for marks of values that differ
  pub firm_again : next_of e.outcome ≡ next_of e2.outcome → fault_of e.outcome ≡ fault_of e2.outcome → SameEntry (firm e e2) e e2
  unfolding of_outcome
  firm_again n f =
      let r = (firm e e2).result in
      let w = (firm e e2).stored in
      ap (of_outcome e) (firm_is r w (is_unresolved e) e.outcome)
      ∙ ap₂ (λ v t. with_all v (zero_where_marked w (stored_of e.outcome)) (next_of e.outcome) (fault_of e.outcome) t) (same_but (value_of e.outcome) (value_of e2.outcome)) all_hidden
      ∙ ap (λ s. with_all (zero_where_marked r (value_of e2.outcome)) s (next_of e.outcome) (fault_of e.outcome) (hidden everything e2)) (same_but (stored_of e.outcome) (stored_of e2.outcome))
      ∙ ap₂ (λ n f. with_all (zero_where_marked r (value_of e2.outcome)) (zero_where_marked w (stored_of e2.outcome)) n f (hidden everything e2)) n f
      ∙ sym (ap (of_outcome e2) (firm_is r w (is_unresolved e2) e2.outcome))

-- the marks of a window: of each entry what of its outcomes differs
abbrev pub all_loose : List Entry → List Entry → List EntryMarks
all_loose (e ∷ es) (e2 ∷ es2) = loose e e2 ∷ all_loose es es2
all_loose _ _ = []

-- windows that are equal but for some marks are so but for marks of what of their outcomes differs
pub window_again : (ms : List EntryMarks) (es es2 : List Entry) → Beside SameEntry ms es es2 → Beside SameEntry (all_loose es es2) es es2
window_again [] [] [] s = tt
window_again (m ∷ ms) (e ∷ es) (e2 ∷ es2) s = (loose_again m e e2 s.0, window_again ms es es2 s.1)
window_again _ _ _ s = absurd s

-- ---- machines

-- the marks where registers and values in flight differ, with these marks of memory
abbrev pub loosened : Marks → Machine → Machine → Marks
loosened m x x2 = record { regs = regs_differ x.regs x2.regs; bytes = m.bytes; window = all_loose x.window x2.window }

-- machines that are alike but for some marks are so but for marks where registers and outcomes differ
pub again : (m : Marks) (x x2 : Machine) → AlikeBut m x x2 → AlikeBut (loosened m x x2) x x2
again m x x2 h = record {
  others = h.others;
  regs = record { words = regs_again m.regs x.regs x2.regs h.regs.words; zero = h.regs.zero; zero2 = h.regs.zero2 };
  bytes = h.bytes;
  window = window_again m.window x.window x2.window h.window;
}

-- ---- operands

-- a register that is equal in both machines has no mark where registers differ
pub reg_unmarked : (vs vs2 : List ℕ) (r : ℕ) → reg vs r ≡ reg vs2 r → any_byte (get_or (regs_differ vs vs2) r unmarked) ≡ false
reg_unmarked (v ∷ vs) (v2 ∷ vs2) zero h = equal_unmarked v v2 h
reg_unmarked (v ∷ vs) (v2 ∷ vs2) (suc r) h = reg_unmarked vs vs2 r h
reg_unmarked [] _ r h = refl
reg_unmarked (v ∷ vs) [] r h = refl

-- an operand that is equal in both machines is unmarked
pub operand_unmarked : (vs vs2 : List ℕ) (ms : List EntryMarks) (b b2 : List Entry) (r : ℕ) → Beside SameEntry ms b b2 →
    operand vs b r ≡ operand vs2 b2 r → any_byte (register_marks (regs_differ vs vs2) b (all_loose b b2) r) ≡ false
operand_unmarked vs vs2 [] [] [] r s h = reg_unmarked vs vs2 r h
operand_unmarked vs vs2 (m ∷ ms) (e ∷ b) (e2 ∷ b2) r s h = by_writes (writes r e) (writes r e2) refl (ap (writes r) s.0) h (λ k. operand_unmarked vs vs2 ms b b2 r s.1 k)
  where
    by_writes : (w w2 : Bool) → writes r e ≡ w → w ≡ w2 →
        from_writer (if w then Some e else find (writes r) b) (reg vs r) ≡ from_writer (if w2 then Some e2 else find (writes r) b2) (reg vs2 r) →
        (operand vs b r ≡ operand vs2 b2 r → any_byte (register_marks (regs_differ vs vs2) b (all_loose b b2) r) ≡ false) →
        any_byte (if w then (loose e e2).result else register_marks (regs_differ vs vs2) b (all_loose b b2) r) ≡ false
    by_writes true true q p k more = equal_unmarked (value_of e.outcome) (value_of e2.outcome) k
    by_writes false false q p k more = more k
    by_writes true false q p k more = absurd (cc)
    by_writes false true q p k more = absurd (cc)
operand_unmarked vs vs2 _ _ _ r s h = absurd s
