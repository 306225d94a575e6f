-- In a cycle in which nothing retires and the run doesn't end the measure falls.
use Rattle.std.proofs.Common.{◌≡◌, ℕ, ◌+◌, ◌-◌, ◌≤◌, ◌<◌, Bool, true, false, List, [], ◌∷◌, ◌++◌, Option, Some, None, refl, ap, sym, ◌∙◌, subst, arith}
use Rattle.std.specs.Prelude.{if◌then◌else◌}
use Rattle.std.specs.List.{AllByRecursion as Each}
use Rattle.rv_types.specs.Isa.{Hart}
use Rattle.rv_types.specs.Memory.{Code}
use Rattle.rv_types.specs.declared.Kind.{Kind}
use Rattle.machine_desc.specs.declared.Desc.{Desc}
use Rattle.machine_desc.specs.Ranges.{IsDesc, bound}
use Rattle.window_model.specs.declared.Divider.{Divider}
use Rattle.window_model.specs.declared.Entry.{Entry}
use Rattle.window_model.specs.declared.Item.{Item}
use Rattle.window_model.specs.declared.Miss.{Miss}
use Rattle.window_model.specs.declared.Progress.TheVariants.{Waiting, Done}
use Rattle.window_model.specs.State.{Machine}
use Rattle.window_model.specs.Order.{is_done}
use Rattle.window_model.specs.Fill.{after_completion, completes}
use Rattle.window_model.specs.Issue.{issue}
use Rattle.window_model.specs.Rename.{rename, at_once, rename_one}
use Rattle.window_model.specs.Fetch.{fetch, item_at}
use Rattle.window_model.specs.Cycle.{cycle}
use Rattle.window_model.proofs.Quiet.{at_retire, before_quiet}
use Rattle.machine_facts.specs.Sized.{Sized, HasParts}
use Rattle.machine_facts.specs.Timely.{Timely, StaysCleared}
use Rattle.progress.specs.Laws.{Allows}
use Rattle.progress.specs.Measure.{takes, until_renamed, time_left, measure}
use Rattle.progress.proofs.Bounds.{waiting_at_most, miss_takes_time}
use Rattle.progress.proofs.RenameFetch.{Appends, appends_then, rename_appends, rename_none, rename_first, fetch_fetches, fetch_some}
use Rattle.progress.proofs.Stops.{Stuck, may_go}
use Rattle.progress.proofs.Oldest.{resolve_oldest, resolve_resolves, clear_empty, clear_goes, clear_resolves}
use Rattle.progress.proofs.IssueOldest.{needs, Began, Served, oldest_nearer}
use Rattle.progress.proofs.Idle.{Idle, idle, before_clear, before_resolve, after_fetch, sized_before_clear, timely_at_retire, timely_before_clear}
use Rattle.machine_facts.proofs.SizedRun.{sized_at_retire}

-- the measure falls from x, whose window and queue the lemmas below take apart
abbrev FallsAt : Desc → Code → Machine → Type 0
FallsAt d code x = IsDesc d → Allows d x.ram → Sized d x → Timely d x → Idle d code x → measure d (after_fetch d code (at_retire d x)) < measure d x

same_left : (d : Desc) (c c2 : ℕ) (ms ms2 : List Miss) (v v2 : Divider) (q : List Item) (w : List Entry) → c ≡ c2 → ms ≡ ms2 → v ≡ v2 → time_left d c ms v.free_from q w ≡ time_left d c2 ms2 v2.free_from q w
same_left d c c2 ms ms2 v v2 q w p r t = rw p (rw r (rw t refl))

-- the measure where the window has only grown
measure_appended : (d : Desc) (x y : Machine) (p : Appends x y) → measure d y ≡ time_left d x.cycle x.misses x.divider.free_from y.queue (x.window ++ p.window.0)
measure_appended d x y p =
    ap (time_left d y.cycle y.misses y.divider.free_from y.queue) p.window.1
    ∙ same_left d y.cycle x.cycle y.misses x.misses y.divider x.divider y.queue (x.window ++ p.window.0) p.cycle p.misses p.divider

-- ---- no entry and no item: something is fetched

shorter : (d : Desc) (y : Machine) (j : Item) (r : List Item) → y.window ≡ [] → y.queue ≡ j ∷ r → measure d y < bound d
shorter d y j r w q =
    let m : measure d y ≡ bound d - 1 = ap (time_left d y.cycle y.misses y.divider.free_from y.queue) w ∙ ap (until_renamed d) q in
    omega arith

nothing_there : (d : Desc) (code : Code) (o : Option ℕ) (x : Machine) → FallsAt d code (record x { window = []; queue = []; fetch_pc = o })
nothing_there d code None x i l s t h = let f = t.fetches refl in let e = h.end in absurd (cc)
nothing_there d code (Some pc) x i l s t h =
    let b = before_clear d (record x { window = []; queue = []; fetch_pc = Some pc }) in
    let f = fetch_some d code pc b i in
    let y = (fetch d code b).machine in
    subst (λ (m : Machine). measure d (after_fetch d code m) < bound d) (sym (clear_empty d b))
    (subst (λ (m : Machine). measure d (fetch d code m).machine < bound d) (sym (rename_none d b)) (shorter d y (item_at d code b pc) f.queue.0 f.window f.queue.1))

-- ---- no entry: the first item is renamed

new_takes : (b : Bool) (k : Kind) (d : Desc) (c : ℕ) (ms : List Miss) (f : ℕ) → takes Waiting k d c ms f + 2 ≤ bound d → takes (if b then Done else Waiting) k d c ms f + 2 ≤ bound d
new_takes true k d c ms f h = omega arith
new_takes false k d c ms f h = h

item_there : (d : Desc) (code : Code) (j : Item) (rest : List Item) (x : Machine) → FallsAt d code (record x { window = []; queue = j ∷ rest })
item_there d code j rest x i l s t h =
    let x0 : Machine = record x { window = []; queue = j ∷ rest } in
    let b = before_clear d x0 in
    let r = (rename_one d j rest b).machine in
    let z = (rename d b).machine in
    let y = (fetch d code z).machine in
    let p = appends_then r z y (rename_first d i j rest b) (fetch_fetches d code z).appends in
    let u = timely_before_clear d x0 i t in
    let l = new_takes (at_once j.kind) j.kind d b.cycle b.misses b.divider.free_from (waiting_at_most d b.cycle b.misses b.divider.free_from j.kind (miss_takes_time d i) u.misses u.divider) in
    let m : measure d y ≡ takes (if at_once j.kind then Done else Waiting) j.kind d b.cycle b.misses b.divider.free_from = measure_appended d r y p in
    subst (λ (m : Machine). measure d (after_fetch d code m) < bound d - 1) (sym (clear_empty d b)) (omega arith)

-- ---- an oldest entry, which may not go

not_done : (b : Bool) → (b ≡ true → true ≡ false) → b ≡ false
not_done false h = refl
not_done true h = absurd (let e = h refl in cc)

spared : (b : Bool) (e : Entry) → is_done (if b then record e { state = Done } else e).state ≡ false → (if b then record e { state = Done } else e) ≡ e
spared true e h = absurd (cc)
spared false e h = refl

less : (m l n k : ℕ) → m ≡ l → l < n → n ≡ k → m < k
less m l n k e h f = omega arith

entry_there : (d : Desc) (code : Code) (e : Entry) (es : List Entry) (x : Machine) → FallsAt d code (record x { window = e ∷ es })
entry_there d code e es x i l s t h =
    let x0 : Machine = record x { window = e ∷ es } in
    let a = before_resolve d x0 in
    let c = x.cycle + 1 in
    let r = resolve_oldest d (after_completion c e) _ a in
    let parts : HasParts r.entry = (subst (Each HasParts) r.shape (sized_before_clear d x0 i s).parts).0 in
    let cleared : StaysCleared d r.entry = (subst (Each (StaysCleared d)) r.shape (timely_before_clear d x0 i t).cleared).0 in
    let o = clear_goes d (after_completion c e) (before_clear d x0) r parts cleared in
    let b = at_retire d x0 in
    let b2 : Machine = record b { window = o.entry ∷ o.rest } in
    let same : b ≡ b2 = ap (λ w. let m : Machine = record b { window = w } in m) o.shape in
    let u : Timely d b2 = subst (Timely d) same (timely_at_retire d x0 i t) in
    let stuck : may_go o.entry ≡ false = subst Stuck o.shape h.stuck in
    let waits : is_done (after_completion c e).state ≡ false = not_done (is_done (after_completion c e).state) (λ p. sym (o.goes p) ∙ stuck) in
    let spare : after_completion c e ≡ e = spared (completes c e) e waits in
    let f = clear_resolves d a (before_clear d x0) (resolve_resolves d a) in
    let began : Began d x0 b2 = record { cycle = f.cycle; misses = f.misses; divider = f.divider } in
    let sizes : Sized d b2 = subst (Sized d) same (sized_at_retire d x0 i s) in
    let served : Served d b2 = record { allows = λ m. l (ap (λ (s : Hart). s.ram.misaligned) (sym (before_quiet d x0).hart) ∙ m); second = sizes.second_sets } in
    let nearer = oldest_nearer d x0 b2 o.entry o.rest (ap is_done o.state ∙ waits) sizes.parts.0 sizes.together.0 served i u began in
    let y1 = (issue d b2).machine in
    let z = (rename d y1).machine in
    let y = (fetch d code z).machine in
    let p = appends_then y1 z y (rename_appends d y1) (fetch_fetches d code z).appends in
    let m : measure d y ≡ time_left d y1.cycle y1.misses y1.divider.free_from y.queue y1.window = measure_appended d y1 y p in
    let n : needs o.entry d x.cycle x.misses x.divider.free_from ≡ needs e d x.cycle x.misses x.divider.free_from =
    ap (λ v. takes v o.entry.item.kind d x.cycle x.misses x.divider.free_from) (o.state ∙ ap (λ (e : Entry). e.state) spare)
    ∙ ap (λ (v : Item). takes e.state v.kind d x.cycle x.misses x.divider.free_from) (o.item ∙ ap (λ (e : Entry). e.item) spare) in
    let g : measure d y < measure d x0 = less (measure d y) _ _ (measure d x0) m nearer n in
    subst (λ (m : Machine). measure d (after_fetch d code m) < measure d x0) (sym same) g

by_window : (d : Desc) (code : Code) (w : List Entry) (q : List Item) (x : Machine) → FallsAt d code (record x { window = w; queue = q })
by_window d code [] [] x = nothing_there d code x.fetch_pc x
by_window d code [] (j ∷ rest) x = item_there d code j rest x
by_window d code (e ∷ es) q x = entry_there d code e es (record x { queue = q })

pub measure_falls : (d : Desc) (code : Code) (x : Machine) → IsDesc d → Allows d x.ram → Sized d x → Timely d x → (cycle d code x).machine.end ≡ None → (cycle d code x).machine.retired ≡ x.retired → measure d (cycle d code x).machine < measure d x
measure_falls d code x i l s t p q =
    let h = idle d code x i p q in
    rw h.after (by_window d code x.window x.queue x i l s t h)
