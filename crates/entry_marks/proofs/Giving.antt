-- The mark of a byte that a load reads, by the store that the queue names as the one that gives it.
use Rattle.std.proofs.Common.{◌≡◌, ℕ, zero, suc, ◌-◌, ◌≤◌, Bool, true, false, cond, ◌&&◌, List, [], ◌∷◌, length, Option, Some, None, slice_get, refl, ap, ap₂, sym, ◌∙◌, arith}
use Rattle.std.specs.Prelude.{map, slice_index_or, ◌==◌, if◌then◌else◌}
use Rattle.std.specs.List.{filter}
use Rattle.std.specs.Option.{option_map}
use Rattle.std.proofs.lemmas.Bool.Decides.{nat_tests}
use Rattle.std.proofs.lemmas.Option.{slice_get_within}
use Rattle.window_model.specs.declared.Entry.{Entry}
use Rattle.window_model.specs.Access.{covers, reaches}
use Rattle.window_model.specs.Order.{before_at, has_address, is_store}
use Rattle.window_model.specs.Retire.{addr_of, byte_count}
use Rattle.window_model.proofs.Serials.{place_of}
use Rattle.lsq.specs.declared.store.Span.{Span}
use Rattle.lsq.specs.declared.store.Store.{Store}
use Rattle.lsq.specs.Merging.{giver, reaches_by}
use Rattle.lsq.specs.Queues.{older}
use Rattle.queue_laws.specs.Window.{Shown, area_of, shown_entry, shown_store, stores_in}
use Rattle.queue_laws.proofs.Shown.{all_computed, all_have, computed_one, covers_shown, reaches_shown}
use Rattle.refinement.specs.InFlight.{InFlight}
use Rattle.refinement.specs.Refines.{Refines}
use Rattle.refinement.specs.Writers.{if_serial}
use Rattle.refinement.proofs.Queues.{queues_stand, stores_before}
use Rattle.secret_marks.specs.declared.EntryMarks.{EntryMarks}
use Rattle.secret_marks.specs.Words.{mark_at}
use Rattle.secret_marks.specs.Marks.{byte_mark, is_by}
use Rattle.entry_marks.specs.Beside.{given_by, marks_before, stored_at}
use Rattle.entry_marks.proofs.Before.{before_step, found_at}

module _ (cycle a : ℕ) where
  -- the serial of the first of these stores that by what is shown of it writes the byte, as is known by the cycle
  abbrev giver_shown : List Shown → Option ℕ
  giver_shown [] = None
  giver_shown (s ∷ ss) = if reaches_shown a s.span && is_by cycle s.known_from then Some s.serial else giver_shown ss

  gives_known : (k : Option Span) → reaches_by cycle a k ≡ (reaches_shown a (option_map area_of k) && is_by cycle (option_map (λ (k : Span). k.known_from) k))
  gives_known None = refl
  gives_known (Some k) = refl

  of_queue : (ss : List Store) → giver cycle ss a ≡ giver_shown (map shown_store ss)
  of_queue [] = refl
  of_queue (s ∷ ss) = ap₂ (λ b o. if b then Some s.serial else o) (gives_known s.span) (of_queue ss)

  module _ (p : InFlight) (r : Refines p) (base : ℕ) (bytes : List Bool) (marks : List EntryMarks) (step : length marks ≡ length p.window) where
    -- the byte's mark as an entry at this position would read it
    abbrev at : ℕ → Bool
    at n = byte_mark cycle base bytes (before_at p.window n) (marks_before marks n) a

    -- the mark of the byte by the serial of the store that gives it
    abbrev by : Option ℕ → Bool
    by o = given_by p.window marks (slice_index_or bytes (a - base) false) a o

    module _ (n : ℕ) (e : Entry) (mark : EntryMarks) (here : slice_get p.window n ≡ Some e) (here2 : slice_get marks n ≡ Some mark) where
      abbrev own : Bool
      own = mark_at mark.stored (a - addr_of e.outcome)

      own_is : by (Some e.serial) ≡ own
      own_is =
          let place = place_of p.window n e r.rise here in
          let same : (e.serial == e.serial) ≡ true = grind (arith, nat_tests) in
          ap₂ (λ o m. stored_at a (if_serial e.serial o) m) (ap (slice_get p.window) place ∙ here) (ap (slice_get marks) place ∙ here2)
          ∙ ap (λ b. stored_at a (if b then Some e else None) (Some mark)) same

      by_test : (b : Bool) (o : Option ℕ) (rest : Bool) → by o ≡ rest → by (if b then Some e.serial else o) ≡ (if b then own else rest)
      by_test true o rest h = own_is
      by_test false o rest h = h

      -- the entry gives the byte where it is a store that covers it
      by_entry : (s : Bool) (f : List Entry) (rest : Bool) → is_store e.item.kind ≡ s → (s ≡ true → (shown_entry e).computed ≡ true) → by (giver_shown (map shown_entry f)) ≡ rest →
          by (giver_shown (map shown_entry (cond s (e ∷ f) f))) ≡ (if covers a e && is_by cycle e.addr_due then own else rest)
      by_entry true f rest q u h =
          ap (λ b. by (if b && is_by cycle e.addr_due then Some e.serial else giver_shown (map shown_entry f))) (covers_shown a e q (u refl))
          ∙ by_test (covers a e && is_by cycle e.addr_due) (giver_shown (map shown_entry f)) rest h
      by_entry false f rest q u h = h ∙ ap (λ b. if (b && has_address e && reaches a (byte_count e) e.outcome) && is_by cycle e.addr_due then own else rest) (sym q)

    by_window : (n : ℕ) → n ≤ length p.window → all_computed (stores_in (before_at p.window n)) ≡ true → by (giver_shown (stores_in (before_at p.window n))) ≡ at n
    by_window zero le u = refl
    by_window (suc n) le u =
        let (e, here) = found_at p.window n (omega (arith, le)) in
        let (mark, here2) = found_at marks n (omega (arith, le, step)) in
        let es = before_step p.window (suc n) n e (omega arith) here in
        let ms = before_step marks (suc n) n mark (omega arith) here2 in
        let stores = filter (λ (e : Entry). is_store e.item.kind) (before_at p.window n) in
        let us = computed_one (is_store e.item.kind) e stores (ap (λ es. all_computed (stores_in es)) (sym es) ∙ u) in
        ap (λ es. by (giver_shown (stores_in es))) es
        ∙ by_entry n e mark here here2 (is_store e.item.kind) stores (at n) refl us.0 (by_window n (omega (arith, le)) us.1)
        ∙ sym (ap₂ (λ es ms. byte_mark cycle base bytes es ms a) es ms)

    -- the byte's mark is that of what the store writes that the queue names
    pub mark_is : (i : ℕ) (e : Entry) (o : Option ℕ) → slice_get p.window i ≡ Some e → o ≡ giver cycle (older e.serial p.queues.stores) a → by o ≡ at i
    mark_is i e o h named =
        let within = slice_get_within p.window i e h in
        let stand = stores_before p.queues p.window i e (queues_stand p r) r.rise h in
        ap by (named ∙ of_queue (older e.serial p.queues.stores) ∙ ap giver_shown stand) ∙ by_window i (omega (arith, within)) (all_have (older e.serial p.queues.stores) (before_at p.window i) stand)
