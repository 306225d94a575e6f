-- Resolve: a branch or JALR that was rightly predicted goes on as before, and else what follows it goes.
use Rattle.std.proofs.Common.{◌≡◌, ℕ, Bool, true, false, not, ◌||◌, List, [], ◌∷◌, ◌++◌, Option, Some, None, refl, ap, sym, ◌∙◌, subst, arith}
use Rattle.std.specs.Prelude.{if◌then◌else◌, map, reverse, ◌==◌}
use Rattle.std.proofs.lemmas.Bool.Decides.{nat_tests}
use Rattle.rv_types.specs.Memory.{Code}
use Rattle.machine_desc.specs.declared.Desc.{Desc}
use Rattle.window_model.specs.declared.Entry.{Entry}
use Rattle.window_model.specs.declared.Item.{Item}
use Rattle.window_model.specs.declared.Progress.{Progress}
use Rattle.window_model.specs.declared.Progress.TheVariants.{Waiting, Busy, Done}
use Rattle.window_model.specs.State.{Machine}
use Rattle.window_model.specs.Order.{Place, is_done, is_control, is_faulty}
use Rattle.window_model.specs.Retire.{hart_of}
use Rattle.window_model.specs.Resolve.{resolve, squashes, is_next, next_of}
use Rattle.committed_state.specs.Computed.{Bank}
use Rattle.window_model.specs.Along.{Along}
use Rattle.committed_state.specs.Links.{Link, Chain, links, entry_link, item_link, true_next}
use Rattle.committed_state.specs.Consistent.{EntryInvariant, Holds, ConsistentIn, FitsClearing, FitsState, bank_in}
use Rattle.machine_desc.specs.Questions.{loads_pass}
use Rattle.committed_state.proofs.Onward.{stands_onward}
use Rattle.committed_state.proofs.Sees.{Moves, moves_same}
use Rattle.window_model.proofs.Placing.{Taken, resolve_keep}
use Rattle.window_model.proofs.EntryByEntry.{along_cut, place_on}
use Rattle.window_model.proofs.Resolving.{resolved_one}

-- ---- entries and links up to that place, and what follows it

-- the chain ends with an entry whose next is given
chain_cut : (from to : Option ℕ) (older ys : List Entry) (queue : List Item) (e e2 : Entry) → e2.item.pc ≡ e.item.pc → Chain from (links (older ++ e ∷ ys) queue) to → Chain from (links (older ++ e2 ∷ []) []) (entry_link e2).next
chain_cut from to [] ys queue e e2 h k = (k.0 ∙ ap Some (sym h), refl)
chain_cut from to (x ∷ older) ys queue e e2 h k = (k.0, chain_cut (entry_link x).next to older ys queue e e2 h k.1)

same_links : (older ys : List Entry) (e e2 : Entry) → entry_link e2 ≡ entry_link e → map entry_link (older ++ e2 ∷ ys) ≡ map entry_link (older ++ e ∷ ys)
same_links [] ys e e2 h = ap (λ l. l ∷ map entry_link ys) h
same_links (x ∷ older) ys e e2 h = ap (λ ls. entry_link x ∷ ls) (same_links older ys e e2 h)

-- ---- the entry that is resolved

fits_resolved : (t : Progress) (e : Entry) → is_done t ≡ true → is_control e.item.kind ≡ true → FitsState t e → FitsState t (resolved_one e)
fits_resolved Done e d c h = (h.0, λ r. c)
fits_resolved Waiting e d c h = absurd (cc)
fits_resolved (Busy due) e d c h = absurd (cc)

clearing_resolved : (p : Bool) (e : Entry) → FitsClearing p e → FitsClearing p (resolved_one e)
clearing_resolved true e c = c
clearing_resolved false e c = c

stands_resolved : (d : Desc) (code : Code) (s : Bank) (now : ℕ) (e : Entry) → is_done e.state ≡ true → is_control e.item.kind ≡ true → (b : List Entry) → EntryInvariant d code s now b e → EntryInvariant d code s now b (resolved_one e)
stands_resolved d code s now e is c b st = record {
  item = st.item;
  parts = st.parts;
  state = fits_resolved e.state e is c st.state;
  computed = st.computed;
  operands = st.operands;
  stores = st.stores;
  clearing = clearing_resolved (loads_pass d) e st.clearing;
  issued = st.issued;
  due = st.due;
  through = st.through;
  alone = st.alone;
}

-- what was rightly predicted goes on as predicted
rightly : (f : Bool) (p : Option ℕ) (n : ℕ) → (f || not (is_next p n)) ≡ false → (if f then None else Some n) ≡ p
rightly true p n h = absurd (cc)
rightly false None n h = absurd (cc)
rightly false (Some m) n h = ap Some (equal (m == n) refl h)
  where
    equal : (b : Bool) → (m == n) ≡ b → (not b) ≡ false → n ≡ m
    equal true q k = grind (arith, nat_tests)
    equal false q k = absurd (cc)

if_not : {A : Type 0} (r : Bool) (a b : A) → r ≡ false → (if r then a else b) ≡ b
if_not false a b h = refl
if_not true a b h = absurd (cc)

right_link : (e : Entry) → e.resolved ≡ false → squashes e ≡ false → entry_link (resolved_one e) ≡ entry_link e
right_link e r q =
    let n = rightly (is_faulty e) e.item.predicted (next_of e.outcome) q ∙ sym (if_not e.resolved (true_next e) e.item.predicted r) in
    ap (λ n. let l : Link = record { pc = e.item.pc; next = n } in l) n

-- ---- Resolve as a whole

module _ (now : ℕ) (code : Code) (d : Desc) where
  module _ (x : Machine) (p : Place) (t : Taken d x p) (h : ConsistentIn now d code x) where
    abbrev e : Entry
    e = p.entry

    abbrev older : List Entry
    older = reverse p.before

    here : Holds d code (hart_of x) now (older ++ e ∷ p.younger) x.queue x.fetch_pc
    here = subst (λ w. Holds d code (hart_of x) now w x.queue x.fetch_pc) t.window h

    entries : Along (EntryInvariant d code (bank_in (hart_of x)) now) [] (older ++ resolved_one e ∷ p.younger)
    entries =
        let bank = bank_in (hart_of x) in
        place_on (EntryInvariant d code bank now) (Moves now) (moves_same now) (stands_onward d code bank now) e (resolved_one e)
        (record { item = refl; cleared = refl; done = λ q. (q, refl); address = λ q. (refl, refl); fresh = λ q k. absurd (cc); stored = λ q. (q, refl) })
        (stands_resolved d code bank now e t.parts.done t.parts.control) [] older p.younger here.entries

    kept : squashes e ≡ false → Holds d code (hart_of x) now (older ++ resolved_one e ∷ p.younger) x.queue x.fetch_pc
    kept q = record {
      entries = entries;
      items = h.items;
      chain = subst (λ ls. Chain (Some x.pc) (ls ++ map item_link x.queue) x.fetch_pc) (sym (same_links older p.younger e (resolved_one e) (right_link e t.parts.fresh q))) here.chain;
      registers = h.registers;
    }

    cut : Holds d code (hart_of x) now (older ++ resolved_one e ∷ []) [] (true_next e)
    cut = record {
      entries = along_cut (EntryInvariant d code (bank_in (hart_of x)) now) [] older p.younger (resolved_one e) entries;
      items = tt;
      chain = chain_cut (Some x.pc) x.fetch_pc older p.younger x.queue e (resolved_one e) refl here.chain;
      registers = h.registers;
    }

  -- Resolve keeps a state consistent
  pub consistent_resolve : (x : Machine) → ConsistentIn now d code x → ConsistentIn now d code (resolve d x).machine
  consistent_resolve = resolve_keep d (ConsistentIn now d code) (λ x p t q h. cut x p t h) (λ x p t q h. kept x p t h q)
