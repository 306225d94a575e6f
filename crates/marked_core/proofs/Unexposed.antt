-- Where nothing resolved is marked as Resolve leaves it, nothing resolved is at the end of the cycle.
use Rattle.std.proofs.Common.{◌≡◌, ℕ, zero, suc, ◌-◌, Bool, true, false, not, ◌&&◌, ◌||◌, List, [], ◌∷◌, ◌++◌, length, map, take, replicate, Option, Some, None, refl, ap, sym, ◌∙◌, subst, arith, length-append}
use Rattle.std.specs.Prelude.{if◌then◌else◌, reverse, is_some}
use Rattle.std.specs.List.{AllByRecursion as Each}
use Rattle.rv_types.specs.Memory.{Code}
use Rattle.rv_types.specs.declared.End.{End}
use Rattle.machine_desc.specs.declared.Desc.{Desc}
use Rattle.window_model.specs.declared.Entry.{Entry}
use Rattle.window_model.specs.declared.Progress.{Progress}
use Rattle.window_model.specs.declared.Progress.TheVariants.{Busy, Done, Waiting}
use Rattle.window_model.specs.Along.{Along}
use Rattle.window_model.specs.Around.{Around, around}
use Rattle.window_model.specs.Clear.{clear, cleared_one}
use Rattle.window_model.specs.Cycle.{begins_cycle, cycle}
use Rattle.window_model.specs.Fetch.{fetch}
use Rattle.window_model.specs.Fill.{complete, after_completion, completes}
use Rattle.window_model.specs.Issue.{Begun, after_load, begin_as, issue, issue_entry}
use Rattle.window_model.specs.Order.{Place, each_from, is_waiting}
use Rattle.window_model.specs.Rename.{rename, entry_of_item}
use Rattle.window_model.specs.Retire.{retire, unless_ended}
use Rattle.window_model.specs.State.{Machine, nothing, then_does}
use Rattle.window_model.proofs.Clearing.{clear_keep}
use Rattle.window_model.proofs.Issuing.{Begins, Comes, Remains, begin_comes, by_issue, gone_parts}
use Rattle.window_model.proofs.Quiet.{at_retire, cycle_is}
use Rattle.window_model.proofs.Walks.{fetch_keep, rename_keep}
use Rattle.window_model.proofs.Booleans.{done_waits}
use Rattle.machine_facts.specs.Timely.{PartsDue}
use Rattle.committed_state.specs.Computed.{Bank}
use Rattle.committed_state.specs.Consistent.{FitsState, EntryInvariant}
use Rattle.secret_marks.specs.declared.EntryMarks.{EntryMarks}
use Rattle.secret_marks.specs.declared.Shown.{Shown}
use Rattle.secret_marks.specs.declared.WordMarks.{WordMarks}
use Rattle.secret_marks.specs.Words.{any_byte, either}
use Rattle.secret_marks.specs.Marks.{Marks, goes_mark, is_at, issued_from, issued_marks, leaves_as, marks_after_leaving, new_entry, value_marks}
use Rattle.secret_marks.specs.Published.{Public}
use Rattle.secret_marks.specs.Shown.{resolved_shown, shown_by}
use Rattle.secret_marks.specs.Shows.{outcome_marked}
use Rattle.secret_marks.specs.Watch.{Watched, then_watches, watch_cycle, watch_fetch, watch_issue, watch_retire}
use Rattle.secret_marks.proofs.Retire.{marks_place}
use Rattle.entry_marks.proofs.Copies.{none_leaves}
use Rattle.entry_marks.proofs.Fitting.{retire_went}
use Rattle.marked_core.specs.InStep.{IssuedBy, NotYet}
use Rattle.marked_core.specs.Watched.{shown_to_clear, to_clear, to_resolve}
use Rattle.marked_core.proofs.Stamps.{found_by_issue, found_not_yet}
use Rattle.marked_core.proofs.Watching.{halves}

-- ---- entry by entry

-- no entry that is resolved is marked
abbrev pub Unexposed : List Entry → List EntryMarks → Type 0
Unexposed (e ∷ window) (mark ∷ marks) = ((e.resolved && outcome_marked mark) ≡ false) × Unexposed window marks
Unexposed _ _ = Unit {0}

no_entry : (marks : List EntryMarks) → Unexposed [] marks
no_entry [] = tt
no_entry (mark ∷ marks) = tt

no_mark : (window : List Entry) → Unexposed window []
no_mark [] = tt
no_mark (e ∷ window) = tt

neither_shows : (b : Bool) (s : Shown) (later : Option Shown) → (if b then Some s else later) ≡ None → (b ≡ false) × (later ≡ None)
neither_shows true s later h = absurd (cc)
neither_shows false s later h = (refl, h)

each_unexposed : (window : List Entry) (marks : List EntryMarks) → resolved_shown window marks ≡ None → Unexposed window marks
each_unexposed [] marks h = no_entry marks
each_unexposed (e ∷ window) [] h = tt
each_unexposed (e ∷ window) (mark ∷ marks) h =
    let p = neither_shows (e.resolved && outcome_marked mark) (shown_by e) (resolved_shown window marks) h in
    (p.0, each_unexposed window marks p.1)

none_shown : (window : List Entry) (marks : List EntryMarks) → Unexposed window marks → resolved_shown window marks ≡ None
none_shown [] [] h = refl
none_shown [] (mark ∷ marks) h = refl
none_shown (e ∷ window) [] h = refl
none_shown (e ∷ window) (mark ∷ marks) h =
    ap (λ b. if b then Some (shown_by e) else resolved_shown window marks) h.0 ∙ none_shown window marks h.1

-- with no entry in flight nothing resolved shows
pub none_in_flight : (marks : List EntryMarks) → resolved_shown [] marks ≡ None
none_in_flight marks = none_shown [] marks (no_entry marks)

-- where the phase tells that nothing showed, it answers nothing
pub none_told : (told : Option Shown) (none : Bool) → is_some told ≡ not none → none ≡ true → told ≡ None
none_told None none q h = refl
none_told (Some s) none q h = absurd (cc)

-- ---- Complete, and Resolve where nothing is resolved

one_completed : (b : Bool) (e : Entry) → (if b then record e { state = Done } else e).resolved ≡ e.resolved
one_completed true e = refl
one_completed false e = refl

shown_of_completed : (cycle : ℕ) (window : List Entry) (marks : List EntryMarks) → Unexposed window marks → Unexposed (map (after_completion cycle) window) marks
shown_of_completed cycle [] marks h = no_entry marks
shown_of_completed cycle (e ∷ window) [] h = tt
shown_of_completed cycle (e ∷ window) (mark ∷ marks) h =
    (ap (λ b. b && outcome_marked mark) (one_completed (completes cycle e) e) ∙ h.0, shown_of_completed cycle window marks h.1)

pub complete_unexposed : (x : Machine) (marks : List EntryMarks) → resolved_shown x.window marks ≡ None → resolved_shown (complete x).machine.window marks ≡ None
complete_unexposed x marks h =
    none_shown (complete x).machine.window marks (shown_of_completed x.cycle x.window marks (each_unexposed x.window marks h))

-- ---- Clear

swapped : (b : List Entry) (e e2 : Entry) (ys zs : List Entry) → e2.resolved ≡ e.resolved → ((ms : List EntryMarks) → Unexposed ys ms → Unexposed zs ms) → (marks : List EntryMarks) →
    Unexposed (b ++ e ∷ ys) marks → Unexposed (b ++ e2 ∷ zs) marks
swapped [] e e2 ys zs q f [] h = tt
swapped [] e e2 ys zs q f (mark ∷ marks) h = (ap (λ b. b && outcome_marked mark) q ∙ h.0, f marks h.1)
swapped (y ∷ b) e e2 ys zs q f [] h = tt
swapped (y ∷ b) e e2 ys zs q f (mark ∷ marks) h = (h.0, swapped b e e2 ys zs q f marks h.1)

front_unexposed : (front back : List Entry) (marks : List EntryMarks) → Unexposed (front ++ back) marks → Unexposed front marks
front_unexposed [] back marks h = no_entry marks
front_unexposed (e ∷ front) back [] h = tt
front_unexposed (e ∷ front) back (mark ∷ marks) h = (h.0, front_unexposed front back marks h.1)

clear_unexposed : (d : Desc) (x : Machine) (marks : List EntryMarks) → Unexposed x.window marks → Unexposed (clear d x).machine.window marks
clear_unexposed d x marks h =
    clear_keep d (λ y. Unexposed y.window marks)
    (λ y p c h. swapped (reverse p.before) p.entry (cleared_one p.entry) p.younger p.younger refl (λ ms k. k) marks (subst (λ w. Unexposed w marks) c.window h))
    (λ y p q c v h.
    swapped (reverse p.before) p.entry (cleared_one p.entry) p.younger (reverse q.before) refl
    (λ ms k. front_unexposed (reverse q.before) (q.entry ∷ q.younger) ms (subst (λ w. Unexposed w ms) v.younger k)) marks (subst (λ w. Unexposed w marks) c.window h))
    x h

-- marks beyond the window are left out
cut_unexposed : (n : ℕ) (window : List Entry) (marks : List EntryMarks) → Unexposed window marks → Unexposed window (take n marks)
cut_unexposed n [] marks h = no_entry (take n marks)
cut_unexposed zero (e ∷ window) [] h = tt
cut_unexposed (suc n) (e ∷ window) [] h = tt
cut_unexposed zero (e ∷ window) (mark ∷ marks) h = tt
cut_unexposed (suc n) (e ∷ window) (mark ∷ marks) h = (h.0, cut_unexposed n window marks h.1)

-- ---- Retire

left_unexposed : (base : ℕ) (gone rest : List Entry) (m : Marks) (marks : List EntryMarks) → m.window ≡ marks → Unexposed (gone ++ rest) marks →
    Unexposed rest (marks_after_leaving base (length gone) (gone ++ rest) m marks).window
left_unexposed base [] rest m marks e h =
    subst (λ (n : Marks). Unexposed rest n.window) (sym (none_leaves base 0 rest m marks refl)) (subst (Unexposed rest) (sym e) h)
left_unexposed base (y ∷ gone) rest m [] e h = subst (Unexposed rest) (sym e) (no_mark rest)
left_unexposed base (y ∷ gone) rest m (mark ∷ marks) e h =
    left_unexposed base gone rest (leaves_as y.item.kind base y mark marks m) marks (marks_place y.item.kind base y mark marks m) h.1

retire_unexposed : (public : Public) (d : Desc) (x : Machine) (m : Marks) → Unexposed x.window m.window → let t = watch_retire public d x m in Unexposed t.machine.window t.marks.window
retire_unexposed public d x m h =
    let y = (retire d x).machine in
    let w = retire_went d x in
    let all = ap (λ es. length es) w.is in
    let both = length-append w.gone y.window in
    let count : length w.gone ≡ length x.window - length y.window = omega (arith, all, both) in
    subst (λ n. Unexposed y.window (marks_after_leaving y.ram.base n x.window m m.window).window) count
    (subst (λ es. Unexposed y.window (marks_after_leaving y.ram.base (length w.gone) es m m.window).window) (sym w.is)
    (left_unexposed y.ram.base w.gone y.window m m.window refl (subst (λ es. Unexposed es m.window) w.is h)))

-- ---- Issue: what is resolved doesn't wait, so it has issued before

-- the entry doesn't wait, if it is resolved
abbrev pub NoWait : Entry → Type 0
NoWait e = e.resolved ≡ true → is_waiting e.state ≡ false

fits_no_wait : (s : Progress) (e : Entry) → FitsState s e → e.resolved ≡ true → is_waiting s ≡ false
fits_no_wait Waiting e f h = absurd (let g = f.1 in cc)
fits_no_wait (Busy due) e f h = refl
fits_no_wait Done e f h = refl

pub none_waits : (d : Desc) (code : Code) (s : Bank) (now : ℕ) (b es : List Entry) → Along (EntryInvariant d code s now) b es → Each NoWait es
none_waits d code s now b [] h = tt
none_waits d code s now b (e ∷ es) h = (fits_no_wait e.state e h.0.state, none_waits d code s now (e ∷ b) es h.1)

-- what Issue makes of an entry is resolved where the entry is, and has then issued when that has
abbrev Stays : Entry → Entry → Type 0
Stays e r = (r.resolved ≡ e.resolved) × (e.resolved ≡ true → r.issued ≡ e.issued)

comes_stays : (e r : Entry) → NoWait e → is_waiting e.state ≡ true → Comes e r → Stays e r
comes_stays e r n w (Remains q) = subst (Stays e) (sym q) (refl, λ h. refl)
comes_stays e r n w (Begins cycle due o q) = subst (Stays e) (sym q) (refl, λ h. absurd (let s = n h in cc))

parts_stay : (now : Around) (b : List Entry) (e : Entry) (a c : Bool) → Stays e (gone_parts now b a c e)
parts_stay now b e true true = (refl, λ h. refl)
parts_stay now b e true false = (refl, λ h. refl)
parts_stay now b e false true = (refl, λ h. refl)
parts_stay now b e false false = (refl, λ h. refl)

entry_stays : (d : Desc) (now : Around) (b : List Entry) (e : Entry) → NoWait e → Stays e (issue_entry d now b e).entry
entry_stays d now b e n =
    by_issue d now b e (Stays e) (refl, λ h. refl) (λ s m. comes_stays e (begin_as e.item.kind d now b e).entry n m.waits (begin_comes e.item.kind d now b e))
    (λ s a c g k. parts_stay now b e a c)

-- an entry that hasn't issued in this cycle keeps the marks of its outcome
outcome_stays : (b goes more : Bool) (new own : WordMarks) → b ≡ false → ((goes || b && more) || any_byte (if b then new else own)) ≡ (goes || any_byte own)
outcome_stays true goes more new own h = absurd (cc)
outcome_stays false true more new own h = refl
outcome_stays false false more new own h = refl

same_outcome : (cycle base : ℕ) (m : Marks) (before : List Entry) (marks : List EntryMarks) (e : Entry) (own : EntryMarks) → is_at cycle e.issued ≡ false →
    outcome_marked (issued_marks cycle base m before marks e own) ≡ outcome_marked own
same_outcome cycle base m before marks e own h =
    outcome_stays (is_at cycle e.issued) own.goes (goes_mark m before marks e) (either own.result (value_marks e.item.kind cycle base m before marks e)) own.result h

unmarked_yet : (resolved marked : Bool) → (resolved ≡ true → marked ≡ false) → (resolved && marked) ≡ false
unmarked_yet true marked f = f refl
unmarked_yet false marked f = refl

marked_not : (resolved marked : Bool) → (resolved && marked) ≡ false → resolved ≡ true → marked ≡ false
marked_not true marked h r = h
marked_not false marked h r = absurd (cc)

one_issued : (cycle base : ℕ) (m : Marks) (before : List Entry) (marks : List EntryMarks) (e r : Entry) (own : EntryMarks) → Stays e r → NotYet cycle e →
    (e.resolved && outcome_marked own) ≡ false → (r.resolved && outcome_marked (issued_marks cycle base m before marks r own)) ≡ false
one_issued cycle base m before marks e r own s n h =
    unmarked_yet r.resolved _ (λ q.
    let was = sym s.0 ∙ q in
    same_outcome cycle base m before marks r own (ap (is_at cycle) (s.1 was) ∙ n.0) ∙ marked_not e.resolved (outcome_marked own) h was)

issued_unexposed : (cycle base : ℕ) (m : Marks) (d : Desc) (now : Around) (b before : List Entry) (marks : List EntryMarks) (es : List Entry) (owns : List EntryMarks) →
    Each NoWait es → Each (NotYet cycle) es → Unexposed es owns →
    let rs = map (λ (t : Begun). t.entry) (each_from (issue_entry d now) b es) in Unexposed rs (issued_from cycle base m before marks rs owns)
issued_unexposed cycle base m d now b before marks [] [] w n h = tt
issued_unexposed cycle base m d now b before marks [] (own ∷ owns) w n h = tt
issued_unexposed cycle base m d now b before marks (e ∷ es) [] w n h = tt
issued_unexposed cycle base m d now b before marks (e ∷ es) (own ∷ owns) w n h =
    let r = (issue_entry d now b e).entry in (
      one_issued cycle base m before marks e r own (entry_stays d now b e w.0) n.0 h.0,
      issued_unexposed cycle base m d now (e ∷ b) (r ∷ before) (own ∷ marks) es owns w.1 n.1 h.1,
    )

-- the number of the cycle stays
load_cycle : (d : Desc) (o : Option Place) (x : Machine) → (after_load d o x).cycle ≡ x.cycle
load_cycle d None x = refl
load_cycle d (Some p) x = refl

issue_unexposed : (d : Desc) (x : Machine) (m : Marks) → Each NoWait x.window → Each (NotYet x.cycle) x.window → Unexposed x.window m.window →
    let i = watch_issue d x m in Unexposed i.machine.window i.marks.window
issue_unexposed d x m w n h =
    let y = (issue d x).machine in
    issued_unexposed y.cycle y.ram.base m d (around x) [] [] [] x.window m.window w (subst (λ c. Each (NotYet c) x.window) (sym (load_cycle d _ x)) n) h

-- ---- Rename and Fetch

not_marked : (resolved : Bool) → (resolved && outcome_marked new_entry) ≡ false
not_marked true = refl
not_marked false = refl

only_new : (n : ℕ) (window : List Entry) → Unexposed window (replicate n new_entry)
only_new zero window = no_mark window
only_new (suc n) [] = tt
only_new (suc n) (e ∷ window) = (not_marked e.resolved, only_new n window)

more_marks : (n : ℕ) (window : List Entry) (marks : List EntryMarks) → Unexposed window marks → Unexposed window (marks ++ replicate n new_entry)
more_marks n window [] h = only_new n window
more_marks n [] (mark ∷ marks) h = tt
more_marks n (e ∷ window) (mark ∷ marks) h = (h.0, more_marks n window marks h.1)

one_more : (window : List Entry) (e : Entry) (marks : List EntryMarks) → e.resolved ≡ false → Unexposed window marks → Unexposed (window ++ e ∷ []) marks
one_more [] e [] q h = tt
one_more [] e (mark ∷ marks) q h = (ap (λ b. b && outcome_marked mark) q, no_entry marks)
one_more (y ∷ window) e [] q h = tt
one_more (y ∷ window) e (mark ∷ marks) q h = (h.0, one_more window e marks q h.1)

fetch_unexposed : (d : Desc) (code : Code) (x : Machine) (m : Marks) → Unexposed x.window m.window → let f = watch_fetch d code x m in Unexposed f.machine.window f.marks.window
fetch_unexposed d code x m h =
    let y = (rename d x).machine in
    let marks = m.window ++ replicate (length y.window - length m.window) new_entry in
    fetch_keep d (λ z. Unexposed z.window marks) code (λ z pc q r k. k) y
    (rename_keep d (λ z. Unexposed z.window marks) (λ z i rest q f k. one_more z.window (entry_of_item d z.next_serial i) marks refl k) x
    (more_marks (length y.window - length m.window) x.window m.window h))

-- ---- the cycle

module _ (public : Public) (d : Desc) (code : Code) (x : Machine) (m : Marks) where
  abbrev found : Watched
  found = let l = to_clear d (begins_cycle x) m in watch_retire public d l.machine l.marks

  -- Issue finds no exposed entry where nothing has shown up to Clear
  found_unexposed : shown_to_clear d (begins_cycle x) m ≡ None → Unexposed found.machine.window found.marks.window
  found_unexposed h =
      let r = to_resolve d (begins_cycle x) m in
      let l = to_clear d (begins_cycle x) m in
      retire_unexposed public d l.machine l.marks
      (cut_unexposed (length l.machine.window) l.machine.window r.marks.window
      (clear_unexposed d r.machine r.marks.window (each_unexposed r.machine.window r.marks.window h)))

  by_end : (o : Option End) (y : Machine) (k : Marks) → Each NoWait y.window → Each (NotYet y.cycle) y.window → Unexposed y.window k.window →
      Unexposed (unless_ended o (nothing y) (then_does (issue d y) (λ z. then_does (rename d z) (fetch d code)))).machine.window
      (unless_ended o (record { machine = y; marks = k; shows = false }) (then_watches (watch_issue d y k) (watch_fetch d code))).marks.window
  by_end (Some e) y k w n h = h
  by_end None y k w n h = let i = watch_issue d y k in fetch_unexposed d code i.machine i.marks (issue_unexposed d y k w n h)

  pub cycle_unexposed : Each NoWait x.window → Each (IssuedBy x.cycle) x.window → Each (PartsDue x.cycle) x.window → shown_to_clear d (begins_cycle x) m ≡ None →
      resolved_shown (cycle d code x).machine.window (watch_cycle public d code x m).marks.window ≡ None
  cycle_unexposed w i p h =
      let y = (retire d (at_retire d x)).machine in
      let rest = found_by_issue NoWait (λ e h k. refl) (λ d b e may h k. done_waits e.state may.done) (λ e h. h) d x w in
      let u : Unexposed (cycle d code x).machine.window (watch_cycle public d code x m).marks.window =
      subst (λ (z : Machine). Unexposed z.window (watch_cycle public d code x m).marks.window) (sym (cycle_is d code x))
      (subst (λ (k : Marks). Unexposed (unless_ended y.end (nothing y) (then_does (issue d y) (λ z. then_does (rename d z) (fetch d code)))).machine.window k.window) (halves public d code x m)
      (by_end y.end y found.marks rest (found_not_yet d x i p) (found_unexposed h))) in
      none_shown (cycle d code x).machine.window (watch_cycle public d code x m).marks.window u
