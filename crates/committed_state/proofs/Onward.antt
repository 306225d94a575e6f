-- What holds of an entry holds over older entries that it sees alike.
use Rattle.std.proofs.Common.{◌≡◌, ℕ, ◌+◌, ◌<◌, ◌≤◌, Bool, true, false, List, [], ◌∷◌, Option, Some, None, refl, ap, sym, ◌∙◌}
use Rattle.std.specs.Prelude.{if◌then◌else◌, is_some}
use Rattle.std.specs.List.{find, list_all, AllZip}
use Rattle.rv_types.specs.Isa.{Effect, reg}
use Rattle.rv_types.specs.Memory.{Code, Ram, load_fault}
use Rattle.rv_types.specs.declared.Kind.{Kind}
use Rattle.rv_types.specs.declared.Kind.TheVariants.{Load, Store}
use Rattle.machine_desc.specs.declared.Desc.{Desc}
use Rattle.window_model.specs.declared.Entry.{Entry}
use Rattle.window_model.specs.declared.Item.{Item}
use Rattle.window_model.specs.declared.Outcome.{Outcome}
use Rattle.window_model.specs.declared.Progress.TheVariants.{Waiting}
use Rattle.window_model.specs.Order.{writes, writer, from_writer, value_of, is_done, is_load, has_address, has_data, fault_of, sources, base_of, others_of}
use Rattle.window_model.specs.Access.{byte_of}
use Rattle.window_model.specs.Clear.{is_before}
use Rattle.window_model.specs.MayIssue.{effect_of}
use Rattle.window_model.specs.Retire.{addr_of, width_in}
use Rattle.committed_state.specs.Computed.{Bank, ComesTo, as_known, as_known_by, bytes_over, outcome_behind, finds, outcome_as}
use Rattle.committed_state.specs.Consistent.{HasOperands, EntryInvariant, executed, goes_through, is_issued, stands_before}
use Rattle.committed_state.proofs.Computed.{alike, bytes_same}
use Rattle.committed_state.proofs.Sees.{InLoad, Moves, Sees, byte_else, byte_pick, sees_moves}
use Rattle.window_model.proofs.Booleans.{both, both_then}
use Rattle.window_model.proofs.Memory.{same_shape}

-- an entry of which only the instruction is looked at
abbrev pub of_item : Item → Entry
of_item i = record { serial = 0; item = i; state = Waiting; outcome = None; resolved = false; issued = None; addr_due = None; data_due = None; cleared = false }

-- two lists of older entries are seen alike, entry by entry, by the entry l
abbrev pub AllSeen : ℕ → Entry → List Entry → List Entry → Type 0
AllSeen now l b b2 = AllZip (Sees now l) b b2

-- the entries of the second list are those of the first, gone on where they stand
abbrev pub Onward : ℕ → List Entry → List Entry → Type 0
Onward now b b2 = AllZip (Moves now) b b2

-- ---- outcomes that are the same

-- an outcome, where there is one, is the same
pub comes_to : (o : Option Outcome) (v v2 : Outcome) → (is_some o ≡ true → v2 ≡ v) → ComesTo o v → ComesTo o v2
comes_to None v v2 h k = tt
comes_to (Some o) v v2 h k = k ∙ sym (h refl)

-- a load's address and fault are those that it computes
pub load_out : (k : Kind) (ram : Ram) (l : Entry) (f : Effect) (bytes : List ℕ) (o : Option Outcome) → is_load k ≡ true → ComesTo o (as_known_by k (has_address l) (has_data l) (outcome_as k ram l.item.instr f bytes)) → is_some o ≡ true →
    (addr_of o ≡ f.addr) × (fault_of o ≡ load_fault ram f.addr (width_in l.item.instr))
load_out Load ram l f bytes (Some o) k c h = (ap (λ (o : Outcome). o.addr) c, ap (λ (o : Outcome). o.fault) c)
load_out Load ram l f bytes None k c h = absurd (cc)
load_out _ ram l f bytes o k c h = absurd (cc)

-- a byte of a load without fault, by the address that it computes
pub in_load : (d : Desc) (code : Code) (s : Bank) (now : ℕ) (b : List Entry) (l : Entry) → EntryInvariant d code s now b l → is_issued l ≡ true → is_load l.item.kind ≡ true →
    load_fault s.ram (effect_of s.regs b l).addr (width_in l.item.instr) ≡ None → (a : ℕ) → (effect_of s.regs b l).addr ≤ a → a < (effect_of s.regs b l).addr + width_in l.item.instr → InLoad l a
in_load d code s now b l st i q n a le lt =
    let o = load_out l.item.kind s.ram l (effect_of s.regs b l) (bytes_over s b l (effect_of s.regs b l).addr) l.outcome q st.computed i in
    record { faultless = ap is_some (o.1 ∙ n); from = rw o.0 le; to = rw o.0 lt }

-- ---- writers that have executed, with their values

writer_if : (w w2 k k2 : Bool) (e e2 : Entry) (o o2 : Option Entry) (v : ℕ) → w2 ≡ w → (is_done e.state ≡ true → (is_done e2.state ≡ true) × (e2.outcome ≡ e.outcome)) → (k ≡ true → (k2 ≡ true) × (from_writer o2 v ≡ from_writer o v)) →
    (if w then is_done e.state else k) ≡ true → ((if w2 then is_done e2.state else k2) ≡ true) × (from_writer (if w2 then Some e2 else o2) v ≡ from_writer (if w then Some e else o) v)
writer_if true true k k2 e e2 o o2 v h p q t = let d = p t in (d.0, ap value_of d.1)
writer_if false false k k2 e e2 o o2 v h p q t = q t
writer_if true false k k2 e e2 o o2 v h p q t = absurd (cc)
writer_if false true k k2 e e2 o o2 v h p q t = absurd (cc)

-- a test that each register which passes another passes
pub all_onward : (f g : ℕ → Bool) (rs : List ℕ) → ((r : ℕ) → f r ≡ true → g r ≡ true) → list_all f rs ≡ true → list_all g rs ≡ true
all_onward f g [] h k = refl
all_onward f g (r ∷ rs) h k = both_then (f r) (g r) _ _ (h r) (all_onward f g rs h) k

-- operands that are there over some entries are there over others, where each register whose writer has executed has
-- one that has
pub operands_then : (k : Kind) (a c i : Bool) (b b2 : List Entry) (rs : List ℕ) → ((r : ℕ) → executed b r ≡ true → executed b2 r ≡ true) → HasOperands k a c i b rs → HasOperands k a c i b2 rs
operands_then Store a c i b b2 rs h o = (λ k. all_onward _ _ (base_of rs) h (o.0 k), λ k. all_onward _ _ (others_of rs) h (o.1 k))
operands_then _ a c i b b2 rs h o = λ k. all_onward _ _ rs h (o k)

-- ---- what an entry sees alike

module _ (now : ℕ) (l : Entry) where
  writer_seen : (b b2 : List Entry) (r v : ℕ) → AllSeen now l b b2 → executed b r ≡ true → (executed b2 r ≡ true) × (from_writer (writer b2 r) v ≡ from_writer (writer b r) v)
  writer_seen [] [] r v h k = (refl, refl)
  writer_seen (e ∷ b) (e2 ∷ b2) r v h k =
      writer_if (writes r e) (writes r e2) (executed b r) (executed b2 r) e e2 (find (writes r) b) (find (writes r) b2) v (ap (λ i. writes r (of_item i)) h.0.item) h.0.done (writer_seen b b2 r v h.1) k
  writer_seen [] (e2 ∷ b2) r v h k = absurd h
  writer_seen (e ∷ b) [] r v h k = absurd h

  -- older stores that a load sees alike still stand before it as they have to, and it finds the same bytes
  module _ (load : is_load l.item.kind ≡ true) (issued : is_before l.issued (Some now) ≡ true) where
    stores_seen : (b b2 : List Entry) → AllSeen now l b b2 → list_all (stands_before l) b ≡ true → list_all (stands_before l) b2 ≡ true
    stores_seen [] [] h k = refl
    stores_seen (e ∷ b) (e2 ∷ b2) h k = both_then (stands_before l e) (stands_before l e2) _ _ (λ s. (h.0.load load issued s).0) (stores_seen b b2 h.1) k
    stores_seen [] (e2 ∷ b2) h k = absurd h
    stores_seen (e ∷ b) [] h k = absurd h

    byte_seen : (ram : Ram) (a : ℕ) (b b2 : List Entry) → InLoad l a → AllSeen now l b b2 → list_all (stands_before l) b ≡ true → byte_of ram a (find (finds l a) b2) ≡ byte_of ram a (find (finds l a) b)
    byte_seen ram a [] [] i h s = refl
    byte_seen ram a (e ∷ b) (e2 ∷ b2) i h s =
        let ss = both (stands_before l e) _ s in
        byte_pick (finds l a e2) ram a e2 (find (finds l a) b2) ∙ ap (byte_else l a e2) (byte_seen ram a b b2 i h.1 ss.1) ∙ (h.0.load load issued ss.0).1 a _ i
        ∙ sym (byte_pick (finds l a e) ram a e (find (finds l a) b))
    byte_seen ram a [] (e2 ∷ b2) i h s = absurd h
    byte_seen ram a (e ∷ b) [] i h s = absurd h

  through_seen : (b b2 : List Entry) → AllSeen now l b b2 → list_all goes_through b2 ≡ list_all goes_through b
  through_seen [] [] h = refl
  through_seen (e ∷ b) (e2 ∷ b2) h =
      let one = ap (λ i. goes_through (of_item i)) h.0.item in
      let rest = through_seen b b2 h.1 in
      cc
  through_seen [] (e2 ∷ b2) h = absurd h
  through_seen (e ∷ b) [] h = absurd h

  empty_seen : (b b2 : List Entry) → AllSeen now l b b2 → b ≡ [] → b2 ≡ []
  empty_seen [] [] h k = refl
  empty_seen [] (e2 ∷ b2) h k = absurd h
  empty_seen (e ∷ b) b2 h k = absurd (cc)

  -- an entry stands over older entries that it sees alike as it did
  pub stands_seen : (d : Desc) (code : Code) (s : Bank) (b b2 : List Entry) → AllSeen now l b b2 → EntryInvariant d code s now b l → EntryInvariant d code s now b2 l
  stands_seen d code s b b2 h k = record {
    item = k.item;
    parts = k.parts;
    state = k.state;
    computed = comes_to l.outcome _ _ same k.computed;
    operands = operands_then l.item.kind (has_address l) (has_data l) (is_issued l) b b2 (sources l) (λ r q. (writer_seen b b2 r 0 h q).0) k.operands;
    stores = λ i q. stores_seen q (k.issued i q) b b2 h (k.stores i q);
    clearing = k.clearing;
    issued = k.issued;
    due = k.due;
    through = through_seen b b2 h ∙ k.through;
    alone = λ c. empty_seen b b2 h (k.alone c);
  }
    where
      same : is_issued l ≡ true → as_known l (outcome_behind s b2 l) ≡ as_known l (outcome_behind s b l)
      same i =
          alike code s s b b2 l k.item (same_shape s.ram) (λ r lt q. (writer_seen b b2 r (reg s.regs r) h q).1) (bytes_over s b2 l)
          (λ q n. bytes_same s.ram s.ram b b2 l (effect_of s.regs b l).addr (width_in l.item.instr) (λ a le lt. byte_seen q (k.issued i q) s.ram a b b2 (in_load d code s now b l k i q n a le lt) h (k.stores i q)))
          i k.operands

-- older entries that go on are seen alike
all_seen : (now : ℕ) (l : Entry) (b b2 : List Entry) → Onward now b b2 → AllSeen now l b b2
all_seen now l [] [] h = tt
all_seen now l (e ∷ b) (e2 ∷ b2) h = (sees_moves now l e e2 h.0, all_seen now l b b2 h.1)
all_seen now l [] (e2 ∷ b2) h = absurd h
all_seen now l (e ∷ b) [] h = absurd h

-- an entry stands over older entries that went on as it did
pub stands_onward : (d : Desc) (code : Code) (s : Bank) (now : ℕ) (b b2 : List Entry) (e : Entry) → Onward now b b2 → EntryInvariant d code s now b e → EntryInvariant d code s now b2 e
stands_onward d code s now b b2 e h k = stands_seen now e d code s b b2 (all_seen now e b b2 h) k
