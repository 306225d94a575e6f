-- Rename and Fetch: an item goes on into the window where it stood, and fetch goes on where it is predicted.
use Rattle.std.proofs.Common.{◌≡◌, ℕ, Bool, true, false, not, ◌&&◌, List, [], ◌∷◌, ◌++◌, length, Option, Some, None, refl, ap, sym, ◌∙◌, subst}
use Rattle.std.specs.Prelude.{if◌then◌else◌, map, reverse, is_some, nat_lt}
use Rattle.std.specs.List.{list_all, list_any}
use Rattle.rv_types.specs.Memory.{Code}
use Rattle.rv_types.specs.Isa.{Hart}
use Rattle.rv_types.specs.declared.Kind.{Kind}
use Rattle.rv_types.specs.declared.Kind.TheVariants.{Store, Branch, Jalr, Jal, Call, Stop}
use Rattle.machine_desc.specs.declared.Desc.{Desc}
use Rattle.window_model.specs.declared.Entry.{Entry}
use Rattle.window_model.specs.declared.Item.{Item}
use Rattle.window_model.specs.declared.Checkpoint.{Checkpoint}
use Rattle.window_model.specs.declared.Progress.TheVariants.{Waiting, Done}
use Rattle.window_model.specs.State.{Machine}
use Rattle.window_model.specs.declared.Target.{Target}
use Rattle.machine_desc.specs.Questions.{loads_pass}
use Rattle.window_model.specs.Order.{is_control, is_store, sources}
use Rattle.committed_state.proofs.Onward.{of_item}
use Rattle.window_model.specs.Retire.{hart_of}
use Rattle.window_model.specs.Rename.{rename, entry_of_item, fits, fits_as, at_once, is_call}
use Rattle.window_model.specs.Fetch.{fetch, fetch_one, guess, item_at, kind_at, predicted_pc}
use Rattle.window_model.proofs.Before.{all_reverse}
use Rattle.window_model.proofs.Walks.{rename_keep, fetch_keep}
use Rattle.committed_state.specs.Computed.{Bank}
use Rattle.window_model.specs.Along.{Along}
use Rattle.committed_state.specs.Links.{Chain, links, entry_link, item_link, true_next}
use Rattle.committed_state.specs.Consistent.{EntryInvariant, Holds, ConsistentIn, FitsClearing, FitsParts, FitsState, HasOperands, all_issued_by, IsItem, Predicts, goes_through, bank_in}
use Rattle.window_model.proofs.Booleans.{both, neither, not_true}
use Rattle.window_model.proofs.EntryByEntry.{along_push}
use Rattle.window_model.proofs.Lists.{each_push}

-- ---- a window with one entry more

same_links : (d : Desc) (w : List Entry) (rest : List Item) (i : Item) (serial : ℕ) → links (w ++ entry_of_item d serial i ∷ []) rest ≡ links w (i ∷ rest)
same_links d [] rest i serial = refl
same_links d (e ∷ w) rest i serial = ap (λ ls. entry_link e ∷ ls) (same_links d w rest i serial)

-- what is followed by something is no stop
has_next : (from to : Option ℕ) (w : List Entry) (i : Item) (rest : List Item) → Chain from (links w (i ∷ rest)) to → is_some from ≡ true
has_next from to [] i rest k = ap is_some k.0
has_next from to (e ∷ w) i rest k = ap is_some k.0

no_link : (r : Bool) (p n : Option ℕ) → r ≡ false → p ≡ None → is_some (if r then n else p) ≡ true → ⊥
no_link false p n h q k = absurd (let z = sym (ap is_some q) in cc)
no_link true p n h q k = absurd (cc)

false_unless : (b : Bool) → (b ≡ true → ⊥) → b ≡ false
false_unless true h = absurd (h refl)
false_unless false h = refl

goes_as : (k : Kind) (e : Entry) → e.item.kind ≡ k → (e.resolved ≡ true → is_control k ≡ true) → Predicts k e.item → is_some (entry_link e).next ≡ true → is_call k ≡ false → (not (at_once k)) ≡ true
goes_as Call e q r p l c = absurd (cc)
goes_as (Stop a) e q r p l c = absurd (no_link e.resolved e.item.predicted (true_next e) (false_unless e.resolved (λ t. let u = r t in cc)) p l)
goes_as _ e q r p l c = refl

-- only what is Done is resolved
resolved_control : (t : _) (e : Entry) → FitsState t e → e.resolved ≡ true → is_control e.item.kind ≡ true
resolved_control Done e h r = h.1 r
resolved_control Waiting e h r = absurd (let q = h.1 in cc)
resolved_control _ e h r = absurd (let q = h.1 in cc)

through_chain : (d : Desc) (code : Code) (s : Bank) (now : ℕ) (b : List Entry) (from to : Option ℕ) (w : List Entry) (i : Item) (rest : List Item) → Along (EntryInvariant d code s now) b w → Chain from (links w (i ∷ rest)) to → list_any (λ e. is_call e.item.kind) w ≡ false → list_all goes_through w ≡ true
through_chain d code s now b from to [] i rest h k c = refl
through_chain d code s now b from to (e ∷ w) i rest h k c =
    let cs = neither (is_call e.item.kind) _ c in
    let one = goes_as e.item.kind e refl (resolved_control e.state e h.0.state) h.0.item.next (has_next (entry_link e).next to w i rest k.1) cs.0 in
    let more = through_chain d code s now (e ∷ b) (entry_link e).next to w i rest h.1 k.1 cs.1 in
    ap (λ t. t && list_all goes_through w) one ∙ more

-- ---- Rename as a whole

alone_as : (k : Kind) (d : Desc) (w : List Entry) → fits_as k d w ≡ true → is_call k ≡ true → reverse w ≡ []
alone_as Call d [] h c = refl
alone_as Call d (e ∷ w) h c = absurd (cc)
alone_as _ d w h c = absurd (cc)

-- nothing of a new entry has issued
not_issued : (k : Kind) → all_issued_by k false false false ≡ false
not_issued Store = refl
not_issued _ = refl

fits_new : (d : Desc) (c : Bool) (serial : ℕ) (i : Item) → at_once i.kind ≡ c → FitsState (if c then Done else Waiting) (entry_of_item d serial i)
fits_new d true serial i h = (not_issued i.kind ∙ sym (ap not h), λ r. absurd (cc))
fits_new d false serial i h = (not_issued i.kind, refl, h)

parts_new : (k : Kind) → FitsParts k false false false
parts_new Store = refl
parts_new _ = (refl, refl)

operands_new : (k : Kind) (b : List Entry) (rs : List ℕ) → HasOperands k false false false b rs
operands_new Store b rs = (λ h. absurd (cc), λ h. absurd (cc))
operands_new _ b rs = λ h. absurd (cc)

-- a new store isn't cleared where loads pass stores, and all else is
clearing_new : (p : Bool) (d : Desc) (serial : ℕ) (i : Item) → loads_pass d ≡ p → FitsClearing p (entry_of_item d serial i)
clearing_new true d serial i h = λ q n. ap (λ p. not (p && is_store i.kind)) h ∙ ap not q
clearing_new false d serial i h = ap (λ p. not (p && is_store i.kind)) h

module _ (now : ℕ) (code : Code) (d : Desc) where
  rename_holds : (s : Hart) (w : List Entry) (i : Item) (rest : List Item) (fetch_pc : Option ℕ) (serial : ℕ) → fits d w i ≡ true → Holds d code s now w (i ∷ rest) fetch_pc → Holds d code s now (w ++ entry_of_item d serial i ∷ []) rest fetch_pc
  rename_holds s w i rest fetch_pc serial f h =
      let f1 = both (nat_lt (length w) d.core_rob && not (list_any (λ e. is_call e.item.kind) w) && fits_as i.kind d w) _ f in
      let f2 = both (nat_lt (length w) d.core_rob && not (list_any (λ e. is_call e.item.kind) w)) _ f1.0 in
      let f3 = both (nat_lt (length w) d.core_rob) _ f2.0 in
      let made : EntryInvariant d code (bank_in s) now (reverse w) (entry_of_item d serial i) = record {
        item = h.items.0;
        parts = parts_new i.kind;
        state = fits_new d (at_once i.kind) serial i refl;
        computed = tt;
        operands = operands_new i.kind (reverse w) (sources (of_item i));
        stores = λ q l. absurd (cc);
        clearing = clearing_new (loads_pass d) d serial i refl;
        issued = λ q l. absurd (cc);
        due = tt;
        through = all_reverse goes_through w ∙ through_chain d code (bank_in s) now [] (Some s.pc) fetch_pc w i rest h.entries h.chain (not_true _ f3.1);
        alone = alone_as i.kind d w f2.1;
      } in
      record {
        entries = along_push (EntryInvariant d code (bank_in s) now) [] w (entry_of_item d serial i) h.entries made;
        items = h.items.1;
        chain = subst (λ ls. Chain (Some s.pc) ls fetch_pc) (sym (same_links d w rest i serial)) h.chain;
        registers = h.registers;
      }

  -- Rename keeps a state consistent
  pub consistent_rename : (x : Machine) → ConsistentIn now d code x → ConsistentIn now d code (rename d x).machine
  consistent_rename = rename_keep d (ConsistentIn now d code)
      (λ x i rest q f h. rename_holds (hart_of x) x.window i rest x.fetch_pc x.next_serial f (subst (λ q. Holds d code (hart_of x) now x.window q x.fetch_pc) q h))

-- ---- Fetch as a whole

predicts : (k : Kind) (d : Desc) (t : List (Option Target)) (m : Checkpoint) (way : Bool) (i : Item) → i.predicted ≡ predicted_pc k d t m way i.pc i.instr → Predicts k i
predicts (Stop a) d t m way i h = h
predicts Jal d t m way i h = h
predicts Branch d t m way i h = ap is_some h
predicts Jalr d t m way i h = ap is_some h
predicts _ d t m way i h = h

chain_items : (from : Option ℕ) (q : List Item) (i : Item) → Chain from (map item_link q) (Some i.pc) → Chain from (map item_link (q ++ i ∷ [])) i.predicted
chain_items from [] i k = (k, refl)
chain_items from (x ∷ q) i k = (k.0, chain_items x.predicted q i k.1)

chain_push : (from : Option ℕ) (w : List Entry) (q : List Item) (i : Item) → Chain from (links w q) (Some i.pc) → Chain from (links w (q ++ i ∷ [])) i.predicted
chain_push from [] q i k = chain_items from q i k
chain_push from (e ∷ w) q i k = (k.0, chain_push (entry_link e).next w q i k.1)

module _ (now : ℕ) (code : Code) (d : Desc) where
  fetch_item : (x : Machine) (pc : ℕ) → x.fetch_pc ≡ Some pc → nat_lt (length x.queue) d.core_queue ≡ true → ConsistentIn now d code x → ConsistentIn now d code (fetch_one d (item_at d code x pc) x).machine
  fetch_item x pc q r h =
      let i = item_at d code x pc in
      let c = subst (Chain (Some x.pc) (links x.window x.queue)) q h.chain in
      let made : IsItem code i = record { instr = refl; kind = refl; next = predicts (kind_at (code pc)) d x.targets x.checkpoint (guess (kind_at (code pc)) d x.counters x.checkpoint pc) i refl } in
      record { entries = h.entries; items = each_push (IsItem code) x.queue i h.items made; chain = chain_push (Some x.pc) x.window x.queue i c; registers = h.registers }

  -- Fetch keeps a state consistent
  pub consistent_fetch : (x : Machine) → ConsistentIn now d code x → ConsistentIn now d code (fetch d code x).machine
  consistent_fetch = fetch_keep d (ConsistentIn now d code) code fetch_item
