-- Clear: a store that is cleared shares no byte with a load that passed it and stays; the load that it is violated by
-- goes, with all that is younger.
use Rattle.std.proofs.Common.{◌≡◌, ℕ, Bool, true, false, List, [], ◌∷◌, ◌++◌, Option, Some, refl, ap, sym, ◌∙◌, subst, append_assoc}
use Rattle.std.specs.Prelude.{map, reverse}
use Rattle.std.specs.List.{AllZip}
use Rattle.rv_types.specs.Memory.{Code}
use Rattle.machine_desc.specs.declared.Desc.{Desc}
use Rattle.window_model.specs.declared.Entry.{Entry}
use Rattle.window_model.specs.declared.Item.{Item}
use Rattle.window_model.specs.declared.Progress.{Progress}
use Rattle.window_model.specs.declared.Progress.TheVariants.{Waiting, Busy, Done}
use Rattle.window_model.specs.State.{Machine}
use Rattle.window_model.specs.Along.{Along, Fact}
use Rattle.window_model.specs.Clear.{clear, cleared_one, is_violated}
use Rattle.machine_desc.specs.Questions.{loads_pass}
use Rattle.window_model.specs.Order.{Place, has_address}
use Rattle.window_model.specs.Retire.{hart_of}
use Rattle.window_model.proofs.Clearing.{Cleared, NoneHas, Violated, clear_spares}
use Rattle.window_model.proofs.EntryByEntry.{along_front}
use Rattle.committed_state.specs.Computed.{Bank}
use Rattle.committed_state.specs.Consistent.{EntryInvariant, Holds, ConsistentIn, FitsClearing, FitsState, bank_in}
use Rattle.committed_state.specs.Links.{Chain, links, entry_link, item_link}
use Rattle.committed_state.proofs.Onward.{AllSeen, stands_seen}
use Rattle.committed_state.proofs.Sees.{Sees, moves_same, sees_clear, sees_moves}

-- ---- entries beside a store that is cleared

-- an older entry is as it was, or it is the store that is cleared
data Changes (e : Entry) (x x2 : Entry) : Type 0 where
  Stays : x2 ≡ x → Changes e x x2
  Clears : x ≡ e → x2 ≡ cleared_one e → Changes e x x2

same_changes : (e : Entry) (b : List Entry) → AllZip (Changes e) b b
same_changes e [] = tt
same_changes e (x ∷ b) = (Stays refl, same_changes e b)

module _ (d : Desc) (code : Code) (s : Bank) (now : ℕ) (e : Entry) (address : has_address e ≡ true) where
  abbrev P : Fact
  P = EntryInvariant d code s now

  sees_change : (l x x2 : Entry) → is_violated e l ≡ false → Changes e x x2 → Sees now l x x2
  sees_change l x x2 n (Stays q) = subst (Sees now l x) (sym q) (sees_moves now l x x (moves_same now x))
  sees_change l x x2 n (Clears p q) = subst (λ x. Sees now l x x2) (sym p) (subst (Sees now l e) (sym q) (sees_clear now l e address n))

  all_changes : (l : Entry) (b b2 : List Entry) → is_violated e l ≡ false → AllZip (Changes e) b b2 → AllSeen now l b b2
  all_changes l [] [] n h = tt
  all_changes l (x ∷ b) (x2 ∷ b2) n h = (sees_change l x x2 n h.0, all_changes l b b2 n h.1)
  all_changes l [] (x2 ∷ b2) n h = absurd h
  all_changes l (x ∷ b) [] n h = absurd h

  -- entries that aren't violated stand over the store once that is cleared
  younger_stand : (b b2 ys : List Entry) → NoneHas (is_violated e) ys → AllZip (Changes e) b b2 → Along P b ys → Along P b2 ys
  younger_stand b b2 [] n h k = tt
  younger_stand b b2 (y ∷ ys) n h k = (stands_seen now y d code s b b2 (all_changes y b b2 n.0 h) k.0, younger_stand (y ∷ b) (y ∷ b2) ys n.1 (Stays refl, h) k.1)

  fits_cleared : (t : Progress) → FitsState t e → FitsState t (cleared_one e)
  fits_cleared Waiting h = h
  fits_cleared (Busy due) h = h
  fits_cleared Done h = h

  clearing_cleared : (p : Bool) → FitsClearing p (cleared_one e)
  clearing_cleared true = λ q n. absurd (cc)
  clearing_cleared false = refl

  stands_cleared : (b : List Entry) → P b e → P b (cleared_one e)
  stands_cleared b st = record {
    item = st.item;
    parts = st.parts;
    state = fits_cleared e.state st.state;
    computed = st.computed;
    operands = st.operands;
    stores = st.stores;
    clearing = clearing_cleared (loads_pass d);
    issued = st.issued;
    due = st.due;
    through = st.through;
    alone = st.alone;
  }

  pub place_cleared : (b older ys : List Entry) → NoneHas (is_violated e) ys → Along P b (older ++ e ∷ ys) → Along P b (older ++ cleared_one e ∷ ys)
  place_cleared b [] ys n k = (stands_cleared b k.0, younger_stand (e ∷ b) (cleared_one e ∷ b) ys n (Clears refl refl, same_changes e b) k.1)
  place_cleared b (o ∷ older) ys n k = (k.0, place_cleared (o ∷ b) older ys n k.1)

-- ---- where entries and items go on

links_cleared : (older ys : List Entry) (e : Entry) → map entry_link (older ++ cleared_one e ∷ ys) ≡ map entry_link (older ++ e ∷ ys)
links_cleared [] ys e = refl
links_cleared (x ∷ older) ys e = ap (λ ls. entry_link x ∷ ls) (links_cleared older ys e)

-- the chain ends where an entry stands that goes
chain_before : (from to : Option ℕ) (older ys : List Entry) (queue : List Item) (e : Entry) → Chain from (links (older ++ e ∷ ys) queue) to → Chain from (links older []) (Some e.item.pc)
chain_before from to [] ys queue e k = k.0
chain_before from to (x ∷ older) ys queue e k = (k.0, chain_before (entry_link x).next to older ys queue e k.1)

-- ---- Clear as a whole

module _ (now : ℕ) (code : Code) (d : Desc) where
  abbrev S : Machine → Fact
  S x = EntryInvariant d code (bank_in (hart_of x)) now

  none_violated : (x : Machine) (p : Place) → Cleared d x p → (ys : List Entry) → NoneHas (is_violated p.entry) ys → Along (S x) [] (reverse p.before ++ p.entry ∷ ys) → Along (S x) [] (reverse p.before ++ cleared_one p.entry ∷ ys)
  none_violated x p t ys n k = place_cleared d code (bank_in (hart_of x)) now p.entry t.parts.known [] (reverse p.before) ys n k

  kept : (x : Machine) (p : Place) → Cleared d x p → NoneHas (is_violated p.entry) p.younger → ConsistentIn now d code x → Holds d code (hart_of x) now (reverse p.before ++ cleared_one p.entry ∷ p.younger) x.queue x.fetch_pc
  kept x p t n h =
      let here = subst (λ w. Holds d code (hart_of x) now w x.queue x.fetch_pc) t.window h in
      record {
        entries = none_violated x p t p.younger n here.entries;
        items = h.items;
        chain = subst (λ ls. Chain (Some x.pc) (ls ++ map item_link x.queue) x.fetch_pc) (sym (links_cleared (reverse p.before) p.younger p.entry)) here.chain;
        registers = h.registers;
      }

  cut : (x : Machine) (p q : Place) → Cleared d x p → Violated p q → NoneHas (is_violated p.entry) (reverse q.before) → ConsistentIn now d code x →
      Holds d code (hart_of x) now (reverse p.before ++ cleared_one p.entry ∷ reverse q.before) [] (Some q.entry.item.pc)
  cut x p q t u n h =
      let older = reverse p.before in
      let front = reverse q.before in
      let whole = t.window ∙ ap (λ ys. older ++ p.entry ∷ ys) u.younger ∙ sym (append_assoc older (p.entry ∷ front) (q.entry ∷ q.younger)) in
      let here = subst (λ w. Holds d code (hart_of x) now w x.queue x.fetch_pc) whole h in
      record {
        entries = none_violated x p t front n (along_front (S x) [] (older ++ p.entry ∷ front) (q.entry ∷ q.younger) here.entries);
        items = tt;
        chain = subst (λ ls. Chain (Some x.pc) (ls ++ []) (Some q.entry.item.pc)) (sym (links_cleared older front p.entry)) (chain_before (Some x.pc) x.fetch_pc (older ++ p.entry ∷ front) q.younger x.queue q.entry here.chain);
        registers = h.registers;
      }

  -- Clear keeps a state consistent
  pub consistent_clear : (x : Machine) → ConsistentIn now d code x → ConsistentIn now d code (clear d x).machine
  consistent_clear = clear_spares d (ConsistentIn now d code) (λ x p t n h. kept x p t n h) (λ x p q t u n h. cut x p q t u n h)
