-- Once the oldest has taken effect, what stood over it stands over the new retired state.
use Rattle.std.proofs.Common.{◌≡◌, ℕ, ◌<◌, ◌≤◌, Bool, true, false, List, [], ◌∷◌, ◌++◌, length, Option, Some, None, refl, ap, sym, ◌∙◌, subst, arith}
use Rattle.std.specs.Prelude.{if◌then◌else◌, is_some}
use Rattle.std.specs.List.{find, list_all}
use Rattle.rv_types.specs.Isa.{Effect, reg}
use Rattle.rv_types.specs.Memory.{Code}
use Rattle.rv_types.specs.Regs.{writes_of}
use Rattle.rv_types.specs.declared.Kind.{Kind}
use Rattle.rv_types.specs.declared.Kind.TheVariants.{Store}
use Rattle.machine_desc.specs.declared.Desc.{Desc}
use Rattle.window_model.specs.declared.Entry.{Entry}
use Rattle.window_model.specs.Access.{byte_of}
use Rattle.window_model.specs.Along.{Along}
use Rattle.window_model.specs.Order.{writes, operand, from_writer, is_done, is_store, has_address, has_data, sources}
use Rattle.window_model.proofs.Booleans.{both_then}
use Rattle.window_model.proofs.EntryByEntry.{along_drops}
use Rattle.window_model.proofs.Memory.{inside}
use Rattle.window_model.proofs.Registers.{read_same, read_other}
use Rattle.window_model.specs.MayIssue.{effect_of}
use Rattle.window_model.specs.Retire.{width_in}
use Rattle.committed_state.specs.Computed.{Bank, ComesTo, as_known, as_known_by, bytes_over, outcome_behind, finds, known_of}
use Rattle.committed_state.specs.Consistent.{EntryInvariant, executed, goes_through, is_issued, stands_before}
use Rattle.committed_state.specs.Replay.{bank_after, replay_outcome}
use Rattle.committed_state.proofs.Bytes.{keeps_bank, one_byte}
use Rattle.committed_state.proofs.Computed.{alike, bytes_same}
use Rattle.committed_state.proofs.Onward.{comes_to, operands_then}
use Rattle.committed_state.proofs.Sees.{byte_else, byte_pick}
use Rattle.committed_state.proofs.Operands.{value_is}

known_if : (w d k k2 : Bool) → (k ≡ true → k2 ≡ true) → (if w then d else k) ≡ true → (if w then d else k2) ≡ true
known_if true d k k2 h t = t
known_if false d k k2 h t = h t

-- a writer that is known stays so without the oldest
known_shift : (b : List Entry) (head : Entry) (r : ℕ) → executed (b ++ head ∷ []) r ≡ true → executed b r ≡ true
known_shift [] head r h = refl
known_shift (e ∷ b) head r h = known_if (writes r e) (is_done e.state) (executed (b ++ head ∷ []) r) (executed b r) (known_shift b head r) h

-- a test that holds of every entry holds of every one but the oldest
pub all_but : (p : Entry → Bool) (b : List Entry) (head : Entry) → list_all p (b ++ head ∷ []) ≡ true → list_all p b ≡ true
all_but p [] head h = refl
all_but p (e ∷ b) head h = both_then (p e) (p e) _ _ (λ q. q) (all_but p b head) h

not_empty : (b : List Entry) (head : Entry) → b ++ head ∷ [] ≡ [] → ⊥
not_empty [] head h = absurd (cc)
not_empty (e ∷ b) head h = absurd (cc)

-- ---- what an entry reads of the oldest, it then reads of the retired state

module _ (s : Bank) (head : Entry) (r : ComesTo head.outcome (replay_outcome s head)) (issued : is_some head.outcome ≡ true)
    (parts : is_store head.item.kind ≡ true → (has_address head ≡ true) × (has_data head ≡ true) × (head.cleared ≡ true)) where
  abbrev S : Bank
  S = bank_after head s

  -- what the oldest entry has is as much as is known of its replay
  known : ComesTo head.outcome (as_known head (replay_outcome s head))
  known = by_kind head.item.kind refl
    where
      by_kind : (k : Kind) → head.item.kind ≡ k → ComesTo head.outcome (as_known_by k (has_address head) (has_data head) (replay_outcome s head))
      by_kind Store q = let p = parts (ap is_store q) in subst (λ a. ComesTo head.outcome (known_of a (has_data head) (replay_outcome s head))) (sym p.0) (subst (λ c. ComesTo head.outcome (known_of true c (replay_outcome s head))) (sym p.1) r)
      by_kind _ q = r

  operand_if : (w : Bool) (e : Entry) (o o2 : Option Entry) (v v2 : ℕ) → from_writer o v ≡ from_writer o2 v2 → from_writer (if w then Some e else o) v ≡ from_writer (if w then Some e else o2) v2
  operand_if true e o o2 v v2 h = refl
  operand_if false e o o2 v v2 h = h

  operand_shift : (b : List Entry) (q : ℕ) → q < length s.regs → operand s.regs (b ++ head ∷ []) q ≡ operand S.regs b q
  operand_shift [] q lt = by_head (writes q head) refl
    where
      by_head : (w : Bool) → writes q head ≡ w → from_writer (if w then Some head else None) (reg s.regs q) ≡ reg S.regs q
      by_head true h = value_is head.outcome head (replay_outcome s head) known issued ∙ sym (read_same s.regs (writes_of head.item.instr) q _ lt h)
      by_head false h = sym (read_other s.regs (writes_of head.item.instr) q _ h)
  operand_shift (e ∷ b) q lt = operand_if (writes q e) e (find (writes q) (b ++ head ∷ [])) (find (writes q) b) (reg s.regs q) (reg S.regs q) (operand_shift b q lt)

  byte_shift : (l : Entry) (b : List Entry) (a : ℕ) → s.ram.base ≤ a → byte_of S.ram a (find (finds l a) b) ≡ byte_of s.ram a (find (finds l a) (b ++ head ∷ []))
  byte_shift l [] a le = sym (one_byte l s.ram s head a None (λ q. let p = parts q in record { address = p.0; issued = issued; cleared = p.2; datum = λ c. p.1 }) known le refl)
  byte_shift l (e ∷ b) a le =
      byte_pick (finds l a e) S.ram a e (find (finds l a) b) ∙ ap (byte_else l a e) (byte_shift l b a le) ∙ sym (byte_pick (finds l a e) s.ram a e (find (finds l a) (b ++ head ∷ [])))

  stands_shift : length s.regs ≡ 32 → (d : Desc) (code : Code) (now : ℕ) (b : List Entry) (e : Entry) → EntryInvariant d code s now (b ++ head ∷ []) e → EntryInvariant d code S now b e
  stands_shift n d code now b e k = record {
    item = k.item;
    parts = k.parts;
    state = k.state;
    computed = comes_to e.outcome _ _ same k.computed;
    operands = operands_then e.item.kind (has_address e) (has_data e) (is_issued e) (b ++ head ∷ []) b (sources e) (known_shift b head) k.operands;
    stores = λ i l. all_but (stands_before e) b head (k.stores i l);
    clearing = k.clearing;
    issued = k.issued;
    due = k.due;
    through = all_but goes_through b head k.through;
    alone = λ c. absurd (not_empty b head (k.alone c));
  }
    where
      same : is_issued e ≡ true → as_known e (outcome_behind S b e) ≡ as_known e (outcome_behind s (b ++ head ∷ []) e)
      same i =
          let old = b ++ head ∷ [] in
          let F : Effect = effect_of s.regs old e in
          alike code s S old b e k.item (keeps_bank s (head ∷ [])) (λ q lt z. sym (operand_shift b q (omega (arith, n)))) (bytes_over S b e)
          (λ l f. let j = inside _ _ s.ram F.addr (width_in e.item.instr) f in bytes_same s.ram S.ram old b e F.addr (width_in e.item.instr) (λ a le lt. byte_shift e b a (omega (arith, j.0, le)))) i k.operands

  pub along_shift : length s.regs ≡ 32 → (d : Desc) (code : Code) (now : ℕ) (es : List Entry) → Along (EntryInvariant d code s now) (head ∷ []) es → Along (EntryInvariant d code S now) [] es
  along_shift n d code now es k = along_drops (EntryInvariant d code s now) (EntryInvariant d code S now) head (stands_shift n d code now) [] es k
