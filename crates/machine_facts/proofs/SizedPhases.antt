-- Sizes and entries are kept by each phase but Retire.
use Rattle.std.proofs.Common.{◌≡◌, ℕ, ◌+◌, ◌≤◌, Bool, true, false, not, List, [], ◌∷◌, ◌++◌, length, Option, Some, None, refl, ap, ◌∙◌, subst, arith, length-append}
use Rattle.std.proofs.lemmas.List.{length-map, length-set, length-replicate}
use Rattle.std.specs.Prelude.{if◌then◌else◌, map, nat_lt, reverse}
use Rattle.std.specs.List.{filter, AllByRecursion as Each}
use Rattle.rv_types.specs.Decode.{decode}
use Rattle.rv_types.specs.Kind.{kind_of}
use Rattle.rv_types.specs.Memory.{Code, Ram}
use Rattle.rv_types.specs.declared.Kind.{Kind}
use Rattle.rv_types.specs.declared.Kind.TheVariants.{Store, Branch, Stop}
use Rattle.machine_desc.specs.declared.Desc.{Desc}
use Rattle.machine_desc.specs.Ranges.{IsDesc}
use Rattle.window_model.specs.declared.Divider.{Divider}
use Rattle.window_model.specs.declared.Entry.{Entry}
use Rattle.window_model.specs.declared.Item.{Item}
use Rattle.window_model.specs.declared.Checkpoint.{Checkpoint}
use Rattle.window_model.specs.declared.Miss.{Miss}
use Rattle.window_model.specs.declared.Progress.TheVariants.{Waiting, Done}
use Rattle.window_model.specs.declared.Target.{Target}
use Rattle.window_model.specs.State.{Machine, opening}
use Rattle.window_model.specs.Order.{Place, first, each_from, is_waiting, is_faulty, is_store}
use Rattle.window_model.specs.Fill.{fill, complete, after_completion, completes, is_due, lines}
use Rattle.window_model.specs.Resolve.{resolve, Learnt, learn, learn_as, squash, keep}
use Rattle.window_model.specs.Around.{Around, around}
use Rattle.window_model.specs.declared.lookup.Request.{Request}
use Rattle.window_model.specs.Access.{all_requests, cache_after, in_order, line_at, looked_up, misses_after, prefetch_request, register, second_after}
use Rattle.window_model.specs.Ports.{LoadPort, may_at}
use Rattle.window_model.specs.Issue.{Begun, issue, issue_entry, access_of, after_load}
use Rattle.window_model.specs.Rename.{rename, rename_one, entry_of_item, fits, at_once}
use Rattle.window_model.specs.Fetch.{fetch, fetch_one, item_at, instr_at, kind_at}
use Rattle.window_model.proofs.Booleans.{below, completes_waits}
use Rattle.window_model.proofs.Lists.{each_then, each_map, each_join, each_left, each_right, each_push, each_replicate, filter_shortens}
use Rattle.window_model.proofs.Placing.{Taken, resolve_keep, taught}
use Rattle.window_model.proofs.Counts.{Evolves, evolves_same, evolves_thins, map_evolves, place_evolves, completed_goes}
use Rattle.window_model.proofs.Issuing.{issue_evolves, by_after_load, by_load}
use Rattle.window_model.proofs.Walks.{rename_keep, fetch_keep}
use Rattle.machine_facts.specs.Sized.{Sized, HasKind, FitsKind}
use Rattle.machine_facts.proofs.Parts.{WindowFits, IsEntry, PredictorFits, CacheFits, SecondFits, Fits, parts, whole}
use Rattle.machine_facts.proofs.Caches.{filled_fits, lines_fit, second_filled_fits, second_lines_fit}
use Rattle.machine_facts.proofs.Requests.{room_ahead}
use Rattle.machine_facts.proofs.SizedWindow.{thinner, renamed_fits}
use Rattle.machine_facts.proofs.StoreParts.{issue_sizes}
use Rattle.window_model.proofs.Resolving.{resolved_one, resolved_goes}

-- ---- the first state of a run

-- a run begins with a machine of these sizes
pub sized_opening : (d : Desc) (entry : ℕ) (ram : Ram) → IsDesc d → Sized d (opening d entry ram)
sized_opening d entry ram i = whole d (opening d entry ram) (record {
  window = record { entries = omega arith; loads_fit = omega arith; stores_fit = omega arith; waiting_fit = omega arith; call_alone = λ h. omega arith };
  entries = tt;
  queue = record { queue = omega arith; item_kinds = tt };
  predictor = record { counters = length-replicate d.predictor_counters _; targets = length-replicate d.predictor_btb _ };
  cache = record { sets = length-replicate d.cache_sets _; ways = each_replicate (λ (lines : List ℕ). length lines ≤ d.cache_ways) d.cache_sets [] (omega arith) };
  second = record { sets = length-replicate d.cache_second_sets _; ways = each_replicate (λ (lines : List ℕ). length lines ≤ d.cache_second_ways) d.cache_second_sets [] (omega arith) };
  misses = omega arith;
  dependence = length-replicate d.predictor_depend _;
  registers = refl;
})

-- ---- the cycle begins, lines arrive, entries become done

-- a machine keeps its sizes as a cycle begins
pub sized_begin : (d : Desc) (x : Machine) → IsDesc d → Sized d x → Sized d (record x { cycle = x.cycle + 1 })
sized_begin d x i s =
    let f = parts d x s in
    whole d (record x { cycle = x.cycle + 1 }) (record { window = f.window; entries = f.entries; queue = f.queue; predictor = f.predictor; cache = f.cache; second = f.second; misses = f.misses; dependence = f.dependence; registers = f.registers })

-- a machine keeps its sizes over Fill
pub sized_fill : (d : Desc) (x : Machine) → IsDesc d → Sized d x → Sized d (fill d x).machine
sized_fill d x i s =
    let f = parts d x s in
    let n = filter_shortens (λ m. not (is_due x.cycle m)) x.misses in
    whole d (fill d x).machine (record {
      window = f.window;
      entries = f.entries;
      queue = f.queue;
      predictor = f.predictor;
      cache = filled_fits d (lines (filter (is_due x.cycle) x.misses)) x.cache f.cache;
      second = second_filled_fits d (lines (filter (λ (m : Miss). m.from_memory) (filter (is_due x.cycle) x.misses))) x.second f.second;
      misses = omega (arith, n, f.misses);
      dependence = f.dependence;
      registers = f.registers;
    })

complete_entry : (d : Desc) (ram : Ram) (cycle : ℕ) (e : Entry) → IsEntry d ram e → IsEntry d ram (after_completion cycle e)
complete_entry d ram cycle e h = by_due (completes cycle e) refl
  where
    by_due : (b : Bool) → completes cycle e ≡ b → IsEntry d ram (if b then record e { state = Done } else e)
    by_due false q = h
    by_due true q = record { kind = h.kind; memory = h.memory; outcome = h.outcome; parts = λ st. h.parts st ∙ ap not (completes_waits e.state cycle q); together = h.together }

-- a machine keeps its sizes over Complete
pub sized_complete : (d : Desc) (x : Machine) → IsDesc d → Sized d x → Sized d (complete x).machine
sized_complete d x i s =
    let f = parts d x s in
    whole d (complete x).machine (record {
      window = thinner d x.window _ (evolves_thins x.window _ (map_evolves (after_completion x.cycle) (completed_goes x.cycle) x.window)) f.window;
      entries = each_map (IsEntry d x.ram) (after_completion x.cycle) x.window (each_then (IsEntry d x.ram) (λ e. IsEntry d x.ram (after_completion x.cycle e)) (complete_entry d x.ram x.cycle) x.window f.entries);
      queue = f.queue;
      predictor = f.predictor;
      cache = f.cache;
      second = f.second;
      misses = f.misses;
      dependence = f.dependence;
      registers = f.registers;
    })

-- ---- Resolve keeps sizes and entries

module _ (d : Desc) where
  predictor_if : (b : Bool) (a c : Learnt) → PredictorFits d a.counters a.targets → PredictorFits d c.counters c.targets → PredictorFits d (if b then a else c).counters (if b then a else c).targets
  predictor_if true a c p q = p
  predictor_if false a c p q = q

  -- what the predictor learns of an entry leaves its sizes and ranges
  pub learns_in : (k : Kind) (e : Entry) (c : List ℕ) (t : List (Option Target)) → PredictorFits d c t → PredictorFits d (learn_as k d e c t).counters (learn_as k d e c t).targets
  learns_in Branch e c t h = record { counters = length-set c _ _ ∙ h.counters; targets = h.targets }
  learns_in _ e c t h = predictor_if (is_faulty e) _ _ h (record { counters = h.counters; targets = length-set t _ _ ∙ h.targets })

  module _ (x : Machine) (f : Fits d x) (p : Place) (t : Taken d x p) where
    window : (zs : List Entry) → Evolves p.younger zs → WindowFits d (reverse p.before ++ resolved_one p.entry ∷ zs)
    window zs v =
        let here = subst (WindowFits d) t.window f.window in
        let on = place_evolves (reverse p.before) p.entry (resolved_one p.entry) p.younger zs (resolved_goes p.entry) v in
        thinner d _ (reverse p.before ++ resolved_one p.entry ∷ zs) (evolves_thins _ _ on) here

    entries : (zs : List Entry) → (Each (IsEntry d x.ram) p.younger → Each (IsEntry d x.ram) zs) → Each (IsEntry d x.ram) (reverse p.before ++ resolved_one p.entry ∷ zs)
    entries zs v =
        let all = subst (Each (IsEntry d x.ram)) t.window f.entries in
        let behind = each_right (IsEntry d x.ram) (reverse p.before) _ all in
        let e = behind.0 in
        each_join (IsEntry d x.ram) (reverse p.before) _ (each_left (IsEntry d x.ram) (reverse p.before) _ all) (record { kind = e.kind; memory = e.memory; outcome = e.outcome; parts = e.parts; together = e.together }, v behind.1)

    predictor : let l = learn d p.entry x.counters x.targets in PredictorFits d l.counters l.targets
    predictor = learns_in p.entry.item.kind p.entry x.counters x.targets f.predictor

    squashed : Sized d (squash d p (taught d p x)).machine
    squashed = whole d _ (record {
      window = window [] tt;
      entries = entries [] (λ k. tt);
      queue = record { queue = omega arith; item_kinds = tt };
      predictor = predictor;
      cache = f.cache;
      second = f.second;
      misses = f.misses;
      dependence = f.dependence;
      registers = f.registers;
    })

    kept : Sized d (keep p (taught d p x)).machine
    kept = whole d _ (record {
      window = window p.younger (evolves_same p.younger);
      entries = entries p.younger (λ k. k);
      queue = f.queue;
      predictor = predictor;
      cache = f.cache;
      second = f.second;
      misses = f.misses;
      dependence = f.dependence;
      registers = f.registers;
    })

-- a machine keeps its sizes over Resolve
pub sized_resolve : (d : Desc) (x : Machine) → IsDesc d → Sized d x → Sized d (resolve d x).machine
sized_resolve d x i = resolve_keep d (Sized d) (λ x p t q s. squashed d x (parts d x s) p t) (λ x p t q s. kept d x (parts d x s) p t) x

-- ---- Issue keeps sizes and entries

issue_entries : (d : Desc) (now : Around) (b es : List Entry) → Each (IsEntry d now.ram) es → Each (IsEntry d now.ram) (map (λ (t : Begun). t.entry) (each_from (issue_entry d now) b es))
issue_entries d now b [] h = tt
issue_entries d now b (e ∷ es) h = (issue_sizes d now b e h.0, issue_entries d now (e ∷ b) es h.1)

-- what a load changes besides its entry has its sizes: both levels of the cache and the miss registers
record SharedFits (d : Desc) (lines lower : List (List ℕ)) (taken : List Miss) : Type 0 where
  cache : CacheFits d lines
  second : SecondFits d lower
  misses : length taken ≤ d.cache_mshrs

load_shares : (d : Desc) (now : Around) → SharedFits d now.cache now.second now.misses → (b : List Entry) (e : Entry) →
    let a = access_of d now b e in SharedFits d (cache_after a d now.cache) (second_after a d now.second) (misses_after a d now.cycle now.misses)
load_shares d now s =
    by_load d now (λ a. SharedFits d (cache_after a d now.cache) (second_after a d now.second) (misses_after a d now.cycle now.misses)) s
    (λ a n some room.
    let found = looked_up d now a n in
    let asked = all_requests found (prefetch_request d now found) in
    let taken = map (register d now.cycle) asked in
    let more = length-append now.misses taken in
    let as_many = length-map asked (register d now.cycle) in
    let fits = room_ahead d now a n room in
    record {
      cache = lines_fit d (map line_at (in_order found)) now.cache s.cache;
      second = second_lines_fit d (map (λ (r : Request). r.line) asked) now.second s.second;
      misses = omega (arith, more, as_many, fits);
    })
    (λ a n some r. s) (λ cause. s)

after_shares : (d : Desc) (x : Machine) (o : Option Place) → SharedFits d x.cache x.second x.misses → let y = after_load d o x in SharedFits d y.cache y.second y.misses
after_shares d x None s = s
after_shares d x (Some p) s = load_shares d (around x) s p.before p.entry

after_same : (d : Desc) (x : Machine) (o : Option Place) (w : List Entry) (v : Divider) → WindowFits d w → Each (IsEntry d x.ram) w → Fits d x → Sized d (record (after_load d o x) { window = w; divider = v })
after_same d x o w v f e g =
    let s = after_shares d x o (record { cache = g.cache; second = g.second; misses = g.misses }) in
    by_after_load d x (λ y. SharedFits d y.cache y.second y.misses → Sized d (record y { window = w; divider = v }))
    (λ cache second misses s. whole d _ (record { window = f; entries = e; queue = g.queue; predictor = g.predictor; cache = s.cache; second = s.second; misses = s.misses; dependence = g.dependence; registers = g.registers })) o s

-- a machine keeps its sizes over Issue
pub sized_issue : (d : Desc) (x : Machine) → IsDesc d → Sized d x → Sized d (issue d x).machine
sized_issue d x i s =
    let f = parts d x s in
    let now = around x in
    after_same d x (first (may_at d now LoadPort) x.window) _ _ (thinner d x.window _ (evolves_thins x.window _ (issue_evolves d now [] x.window)) f.window) (issue_entries d now [] x.window f.entries) f

-- ---- Rename and Fetch keep sizes and entries

-- a store that is renamed waits
store_waits : (k : Kind) → is_store k ≡ true → false ≡ not (is_waiting (if at_once k then Done else Waiting))
store_waits Store h = refl
store_waits _ h = absurd (cc)

renamed_entry : (d : Desc) (ram : Ram) (i : Item) (serial : ℕ) → HasKind i → IsEntry d ram (entry_of_item d serial i)
renamed_entry d ram i serial h = record { kind = h; memory = λ s a. tt; outcome = λ s a. absurd (cc); parts = store_waits i.kind; together = λ v s. refl }

-- an item that fits is renamed
pub rename_item : (d : Desc) (x : Machine) (i : Item) (rest : List Item) → x.queue ≡ i ∷ rest → fits d x.window i ≡ true → Sized d x → Sized d (rename_one d i rest x).machine
rename_item d x i rest q r s =
    let f = parts d x s in
    let n = ap length q in
    let items = subst (Each HasKind) q f.queue.item_kinds in
    whole d (rename_one d i rest x).machine (record {
      window = renamed_fits d x.window i x.next_serial r f.window;
      entries = each_push (IsEntry d x.ram) x.window (entry_of_item d x.next_serial i) f.entries (renamed_entry d x.ram i x.next_serial items.0);
      queue = record { queue = omega (arith, n, f.queue.queue); item_kinds = items.1 };
      predictor = f.predictor;
      cache = f.cache;
      second = f.second;
      misses = f.misses;
      dependence = f.dependence;
      registers = f.registers;
    })

-- Rename keeps the sizes of the state
pub sized_rename : (d : Desc) (x : Machine) → IsDesc d → Sized d x → Sized d (rename d x).machine
sized_rename d x i s = rename_keep d (Sized d) (rename_item d) x s

own_kind : (k : Kind) (i : Item) → i.kind ≡ k → k ≡ kind_of i.instr → FitsKind k i
own_kind (Stop c) i q h = tt
own_kind _ i q h = h

fetched_kind : (w : Option ℕ) (pc : ℕ) (p : Option ℕ) (m : Checkpoint) → HasKind (record { pc = pc; instr = instr_at w; kind = kind_at w; predicted = p; checkpoint = m })
fetched_kind None pc p m = tt
fetched_kind (Some w) pc p m = own_kind (kind_of (decode w)) (record { pc = pc; instr = decode w; kind = kind_of (decode w); predicted = p; checkpoint = m }) refl refl

-- an item for which there is room is fetched
pub fetch_item : (d : Desc) (code : Code) (x : Machine) (pc : ℕ) → x.fetch_pc ≡ Some pc → nat_lt (length x.queue) d.core_queue ≡ true → Sized d x → Sized d (fetch_one d (item_at d code x pc) x).machine
fetch_item d code x pc q r s =
    let f = parts d x s in
    let i = item_at d code x pc in
    let b = below (length x.queue) d.core_queue r in
    let l = length-append x.queue (i ∷ []) in
    whole d (fetch_one d i x).machine (record {
      window = f.window;
      entries = f.entries;
      queue = record { queue = omega (arith, b, l); item_kinds = each_push HasKind x.queue i f.queue.item_kinds (fetched_kind (code pc) pc i.predicted i.checkpoint) };
      predictor = f.predictor;
      cache = f.cache;
      second = f.second;
      misses = f.misses;
      dependence = f.dependence;
      registers = f.registers;
    })

-- a machine keeps its sizes over Fetch
pub sized_fetch : (d : Desc) (code : Code) (x : Machine) → IsDesc d → Sized d x → Sized d (fetch d code x).machine
sized_fetch d code x i s = fetch_keep d (Sized d) code (fetch_item d code) x s
