-- Serials, times and the reason why nothing is fetched are kept by each phase.
use Rattle.std.proofs.Common.{◌≡◌, ℕ, suc, ◌+◌, ◌≤◌, Bool, true, false, not, ◌&&◌, ◌||◌, List, [], ◌∷◌, ◌++◌, length, Option, Some, None, refl, ap, sym, ◌∙◌, subst, arith}
use Rattle.std.specs.Prelude.{if◌then◌else◌, reverse, is_some, nat_lt}
use Rattle.std.specs.List.{AllByRecursion as Each}
use Rattle.rv_types.specs.Memory.{Code, Ram}
use Rattle.rv_types.specs.Isa.{reg}
use Rattle.rv_types.specs.Regs.{writes_of}
use Rattle.rv_types.specs.declared.End.{End}
use Rattle.machine_desc.specs.declared.Desc.{Desc}
use Rattle.machine_desc.specs.Ranges.{IsDesc}
use Rattle.window_model.specs.declared.Divider.{Divider}
use Rattle.window_model.specs.declared.Entry.{Entry}
use Rattle.window_model.specs.declared.Item.{Item}
use Rattle.window_model.specs.State.{Machine, opening}
use Rattle.window_model.specs.Order.{Place, first, is_done, is_faulty, value_of}
use Rattle.window_model.specs.Fill.{fill, complete, after_completion, is_due}
use Rattle.window_model.specs.Resolve.{resolve, squash, keep, is_from, next_of}
use Rattle.window_model.specs.Retire.{retire, head_leaves, trap_of}
use Rattle.window_model.specs.Around.{around}
use Rattle.window_model.specs.Ports.{DivPort, LoadPort, may_at}
use Rattle.window_model.specs.Issue.{issue, after_load}
use Rattle.window_model.specs.Rename.{rename, rename_one, entry_of_item, fits, is_stop}
use Rattle.window_model.specs.Fetch.{fetch, fetch_one, guess, item_at, instr_at, kind_at}
use Rattle.window_model.proofs.Lists.{each_join, each_left, each_right, each_push}
use Rattle.window_model.proofs.Placing.{Taken, resolve_keep, taught}
use Rattle.window_model.proofs.Registers.{read_other, writes_not_zero}
use Rattle.window_model.proofs.Counts.{Evolves, evolves_same, map_evolves, place_evolves, completed_goes}
use Rattle.window_model.proofs.Walks.{heads_keep, rename_keep, fetch_keep}
use Rattle.machine_facts.specs.Sized.{HasParts}
use Rattle.machine_facts.specs.Timely.{Rises, IsDue, PartsDue, StaysCleared, longest_division, last_from, last_item_from, TimelyFrom, Timely}
use Rattle.machine_facts.proofs.Serials.{rises_from, rises_on, rises_push}
use Rattle.machine_facts.proofs.Dues.{dues_later, misses_later, misses_left, dues_left, dues_issued, parts_later, parts_left, parts_issued, cleared_left, cleared_issued, divider_soon, due_new, apart_filter, MissesSoon, taken_soon}
use Rattle.machine_facts.proofs.Reasons.{last_map, items_more, last_more, last_join, last_push, last_item_push, last_completed, last_issued, last_rest, last_new, stop_predicts}
use Rattle.window_model.proofs.Resolving.{resolved_one, resolved_goes}
use Rattle.window_model.proofs.Leaving.{gone, head_by}
use Rattle.window_model.proofs.Issuing.{by_after_load, issue_evolves}

-- ---- the first state, and the next cycle

-- as a run begins all that is under way ends in a later cycle
pub timely_opening : (d : Desc) (entry : ℕ) (ram : Ram) → IsDesc d → Timely d (opening d entry ram)
timely_opening d entry ram i = record { serials = omega arith; dues = tt; parts = tt; cleared = tt; misses = tt; lines = tt; divider = omega arith; fetches = λ h. absurd (cc); zero = refl }

-- what was due later than the last cycle still is, as the cycle's number rises
pub timely_begin : (d : Desc) (x : Machine) → IsDesc d → Timely d x → TimelyFrom x.cycle x.cycle d (record x { cycle = x.cycle + 1 })
timely_begin d x i h = record {
  serials = h.serials;
  dues = dues_later d x.cycle x.cycle x.window h.dues;
  parts = parts_later x.cycle x.window h.parts;
  cleared = h.cleared;
  misses = misses_later d x.cycle x.cycle x.misses h.misses;
  lines = h.lines;
  divider = omega (arith, h.divider);
  fetches = h.fetches;
  zero = h.zero;
}

-- ---- lines arrive, and entries become done

-- behind Fill misses end in a later cycle, if before it they ended in this one at the earliest
pub timely_fill : (past_misses past : ℕ) (d : Desc) (x : Machine) → IsDesc d → x.cycle ≡ past_misses + 1 → TimelyFrom past_misses past d x → TimelyFrom x.cycle past d (fill d x).machine
timely_fill past_misses past d x i q h = record {
  serials = h.serials;
  dues = h.dues;
  parts = h.parts;
  cleared = h.cleared;
  misses = misses_left d past_misses x.cycle x.misses q h.misses;
  lines = apart_filter (λ m. not (is_due x.cycle m)) x.misses h.lines;
  divider = h.divider;
  fetches = h.fetches;
  zero = h.zero;
}

-- behind Complete all that is under way ends in a later cycle, if before it entries ended in this one at the earliest
pub timely_complete : (past : ℕ) (d : Desc) (x : Machine) → IsDesc d → x.cycle ≡ past + 1 → TimelyFrom x.cycle past d x → Timely d (complete x).machine
timely_complete past d x i q h = record {
  serials = rises_on 0 x.next_serial x.window _ (map_evolves (after_completion x.cycle) (completed_goes x.cycle) x.window) h.serials;
  dues = dues_left d past x.cycle x.window q h.dues;
  parts = parts_left x.cycle x.cycle x.window h.parts;
  cleared = cleared_left d x.cycle x.window h.cleared;
  misses = h.misses;
  lines = h.lines;
  divider = h.divider;
  fetches = λ n. items_more _ _ (last_map (after_completion x.cycle) (last_completed x.cycle) (is_some x.end) (is_some x.end) (λ h. h) x.window) x.queue (h.fetches n);
  zero = h.zero;
}

-- ---- Resolve keeps serials and times

module _ (d : Desc) where
  freed_in : (b : Bool) (v : Divider) (n : ℕ) → v.free_from ≤ n → (if b then (let f : Divider = record { free_from = 0; user = None } in f) else v).free_from ≤ n
  freed_in true v n h = omega arith
  freed_in false v n h = h

  nowhere_after : (b : Bool) (n : ℕ) → (if b then None else Some n) ≡ None → b ≡ true
  nowhere_after true n h = refl
  nowhere_after false n h = absurd (cc)

  last_resolved : (s t f : Bool) → t ≡ true → f ≡ true → (s || t && f) ≡ true
  last_resolved true t f p q = refl
  last_resolved false true f p q = q
  last_resolved false false f p q = absurd (cc)

  module _ (x : Machine) (h : Timely d x) (p : Place) (t : Taken d x p) where
    abbrev Marked : List Entry → List Entry
    Marked zs = reverse p.before ++ resolved_one p.entry ∷ zs

    serials : (zs : List Entry) → Evolves p.younger zs → Rises 0 (Marked zs) x.next_serial
    serials zs v = rises_on 0 x.next_serial x.window _ (subst (λ w. Evolves w (Marked zs)) (sym t.window) (place_evolves (reverse p.before) p.entry (resolved_one p.entry) p.younger zs (resolved_goes p.entry) v)) h.serials

    -- what holds of each entry, and doesn't ask whether it is resolved, still does with one resolved and what is left
    -- of the younger ones
    marked : (P : Entry → Type 0) → (P p.entry → P (resolved_one p.entry)) → Each P x.window → (zs : List Entry) → (Each P p.younger → Each P zs) → Each P (Marked zs)
    marked P f k zs v =
        let all = subst (Each P) t.window k in
        let behind = each_right P (reverse p.before) _ all in
        each_join P (reverse p.before) _ (each_left P (reverse p.before) _ all) (f behind.0, v behind.1)

    dues : (zs : List Entry) → (Each (IsDue d x.cycle x.cycle) p.younger → Each (IsDue d x.cycle x.cycle) zs) → Each (IsDue d x.cycle x.cycle) (Marked zs)
    dues = marked (IsDue d x.cycle x.cycle) (λ k. k) h.dues

    parts : (zs : List Entry) → (Each (PartsDue x.cycle) p.younger → Each (PartsDue x.cycle) zs) → Each (PartsDue x.cycle) (Marked zs)
    parts = marked (PartsDue x.cycle) (λ k. k) h.parts

    cleared : (zs : List Entry) → (Each (StaysCleared d) p.younger → Each (StaysCleared d) zs) → Each (StaysCleared d) (Marked zs)
    cleared = marked (StaysCleared d) (λ k. k) h.cleared

    squashed : Timely d (squash d p (taught d p x)).machine
    squashed = record {
      serials = serials [] tt;
      dues = dues [] (λ k. tt);
      parts = parts [] (λ k. tt);
      cleared = cleared [] (λ k. tt);
      misses = h.misses;
      lines = h.lines;
      divider = freed_in (is_from (p.entry.serial + 1) x.divider.user) x.divider (x.cycle + longest_division) h.divider;
      fetches = λ n.
          last_join (is_some x.end) (reverse p.before) (resolved_one p.entry ∷ [])
          ∙ last_resolved (is_stop p.entry.item.kind) (is_done p.entry.state) (is_faulty p.entry) t.parts.done (nowhere_after (is_faulty p.entry) (next_of p.entry.outcome) n);
      zero = h.zero;
    }

    kept : Timely d (keep p (taught d p x)).machine
    kept = record {
      serials = serials p.younger (evolves_same p.younger);
      dues = dues p.younger (λ k. k);
      parts = parts p.younger (λ k. k);
      cleared = cleared p.younger (λ k. k);
      misses = h.misses;
      lines = h.lines;
      divider = h.divider;
      fetches = λ n.
          ap (λ b. last_item_from b x.queue)
          (last_join (is_some x.end) (reverse p.before) (resolved_one p.entry ∷ p.younger)
          ∙ sym (last_join (is_some x.end) (reverse p.before) (p.entry ∷ p.younger))
          ∙ ap (last_from (is_some x.end)) (sym t.window))
          ∙ h.fetches n;
      zero = h.zero;
    }

-- Resolve keeps that all that is under way ends in a later cycle
pub timely_resolve : (d : Desc) (x : Machine) → IsDesc d → Timely d x → Timely d (resolve d x).machine
timely_resolve d x i = resolve_keep d (Timely d) (λ x p t q h. squashed d x h p t) (λ x p t q h. kept d x h p t) x

-- ---- Retire keeps serials and times

module _ (d : Desc) where
  timely_gone : (x : Machine) (e : Entry) (rest : List Entry) (regs : List ℕ) (pc : ℕ) (ram : Ram) (cache : List (List ℕ)) (retired : ℕ) (end : Option End) → x.window ≡ e ∷ rest → trap_of e ≡ None → reg regs 0 ≡ reg x.regs 0 → Timely d x →
      Timely d (gone x rest regs pc ram cache retired end)
  timely_gone x e rest regs pc ram cache retired end w t z h = record {
    serials = rises_from (suc e.serial) 0 x.next_serial rest (omega arith) (subst (λ w. Rises 0 w x.next_serial) w h.serials).1;
    dues = (subst (Each (IsDue d x.cycle x.cycle)) w h.dues).1;
    parts = (subst (Each (PartsDue x.cycle)) w h.parts).1;
    cleared = (subst (Each (StaysCleared d)) w h.cleared).1;
    misses = h.misses;
    lines = h.lines;
    divider = h.divider;
    fetches = λ n. last_rest e rest x.queue (is_some end) t (ap (λ v. last_item_from (last_from (is_some x.end) v) x.queue) (sym w) ∙ h.fetches n);
    zero = z ∙ h.zero;
  }

  leaves : (x : Machine) (e : Entry) (rest : List Entry) → x.window ≡ e ∷ rest → trap_of e ≡ None → Timely d x → Timely d (head_leaves e.item.kind d e rest x).machine
  leaves x e rest w t h =
      let zero = read_other x.regs (writes_of e.item.instr) 0 (value_of e.outcome) (writes_not_zero e.item.instr) in
      head_by d e rest x (Timely d) h (λ s end f. timely_gone x e rest s.regs s.pc s.ram x.cache _ end w t f.zero h) (timely_gone x e rest _ _ _ _ _ _ w t zero h)
      e.item.kind (λ q. timely_gone x e rest _ _ _ _ _ _ w t zero h)

  ends : (x : Machine) (end : End) → Timely d x → Timely d (record x { end = Some end })
  ends x end h = record {
    serials = h.serials;
    dues = h.dues;
    parts = h.parts;
    cleared = h.cleared;
    misses = h.misses;
    lines = h.lines;
    divider = h.divider;
    fetches = λ n. items_more _ _ (last_more (is_some x.end) true (λ b. refl) x.window) x.queue (h.fetches n);
    zero = h.zero;
  }

-- Retire keeps that all under way ends soon
pub timely_retire : (d : Desc) (x : Machine) → IsDesc d → Timely d x → Timely d (retire d x).machine
timely_retire d x i h = heads_keep d (Timely d) (λ x e rest w l t k. leaves d x e rest w t k) (ends d) x h

-- ---- Issue keeps serials and times

after_soon : (d : Desc) (x : Machine) (o : Option Place) → IsDesc d → length x.second ≡ d.cache_second_sets → Timely d x → MissesSoon d x.cycle (after_load d o x).misses
after_soon d x None i z h = record { misses = h.misses; lines = h.lines }
after_soon d x (Some p) i z h = taken_soon d (around x) i z (record { misses = h.misses; lines = h.lines }) p.before p.entry

issue_done : (d : Desc) (x : Machine) (o : Option Place) (w : List Entry) (v : Divider) → IsDesc d → length x.second ≡ d.cache_second_sets → Rises 0 w x.next_serial → Each (IsDue d x.cycle x.cycle) w → Each (PartsDue x.cycle) w → Each (StaysCleared d) w → v.free_from ≤ x.cycle + longest_division →
    (x.fetch_pc ≡ None → last_item_from (last_from (is_some x.end) w) x.queue ≡ true) → Timely d x → Timely d (record (after_load d o x) { window = w; divider = v })
issue_done d x o w v i z r u p k f n h =
    let soon = after_soon d x o i z h in
    by_after_load d x (λ y. MissesSoon d x.cycle y.misses → Timely d (record y { window = w; divider = v }))
    (λ c l m s. record { serials = r; dues = u; parts = p; cleared = k; misses = s.misses; lines = s.lines; divider = f; fetches = n; zero = h.zero }) o soon

-- Issue keeps times: a store that lacks a part waits, so no fault that is known is lost
pub timely_issue : (d : Desc) (x : Machine) → IsDesc d → length x.second ≡ d.cache_second_sets → Each HasParts x.window → Timely d x → Timely d (issue d x).machine
timely_issue d x i z k h =
    let now = around x in
    issue_done d x (first (may_at d now LoadPort) x.window) _ _ i z
    (rises_on 0 x.next_serial x.window _ (issue_evolves d now [] x.window) h.serials)
    (dues_issued d now i z h.misses [] x.window h.parts h.dues)
    (parts_issued d now [] x.window h.parts)
    (cleared_issued d now [] x.window h.cleared)
    (divider_soon x (first (may_at d now DivPort) x.window) h.divider)
    (λ n. items_more _ _ (last_issued d now [] (is_some x.end) (is_some x.end) (λ h. h) x.window k) x.queue (h.fetches n)) h

-- ---- Rename and Fetch keep serials and times

rename_item : (d : Desc) (x : Machine) (j : Item) (rest : List Item) → x.queue ≡ j ∷ rest → fits d x.window j ≡ true → Timely d x → Timely d (rename_one d j rest x).machine
rename_item d x j rest q f h = record {
  serials = rises_push 0 x.next_serial x.window (entry_of_item d x.next_serial j) refl h.serials;
  dues = each_push (IsDue d x.cycle x.cycle) x.window (entry_of_item d x.next_serial j) h.dues (due_new d x.cycle x.cycle x.next_serial j);
  parts = each_push (PartsDue x.cycle) x.window (entry_of_item d x.next_serial j) h.parts (tt, tt);
  cleared = each_push (StaysCleared d) x.window (entry_of_item d x.next_serial j) h.cleared (λ s. ap not s);
  misses = h.misses;
  lines = h.lines;
  divider = h.divider;
  fetches = λ n.
      let before : last_item_from (last_from (is_some x.end) x.window) (j ∷ rest) ≡ true = ap (last_item_from (last_from (is_some x.end) x.window)) (sym q) ∙ h.fetches n in
      ap (λ b. last_item_from b rest) (last_push (is_some x.end) x.window (entry_of_item d x.next_serial j) ∙ last_new d x.next_serial j) ∙ before;
  zero = h.zero;
}

-- Rename keeps that all under way ends soon
pub timely_rename : (d : Desc) (x : Machine) → IsDesc d → Timely d x → Timely d (rename d x).machine
timely_rename d x i h = rename_keep d (Timely d) (rename_item d) x h

fetch_item : (d : Desc) (code : Code) (x : Machine) (pc : ℕ) → x.fetch_pc ≡ Some pc → nat_lt (length x.queue) d.core_queue ≡ true → Timely d x → Timely d (fetch_one d (item_at d code x pc) x).machine
fetch_item d code x pc q r h = record {
  serials = h.serials;
  dues = h.dues;
  parts = h.parts;
  cleared = h.cleared;
  misses = h.misses;
  lines = h.lines;
  divider = h.divider;
  fetches = λ n. last_item_push (last_from (is_some x.end) x.window) x.queue (item_at d code x pc) ∙ stop_predicts (kind_at (code pc)) d x.targets x.checkpoint (guess (kind_at (code pc)) d x.counters x.checkpoint pc) pc (instr_at (code pc)) n;
  zero = h.zero;
}

-- Fetch keeps that all under way ends soon
pub timely_fetch : (d : Desc) (code : Code) (x : Machine) → IsDesc d → Timely d x → Timely d (fetch d code x).machine
timely_fetch d code x i h = fetch_keep d (Timely d) code (fetch_item d code) x h
