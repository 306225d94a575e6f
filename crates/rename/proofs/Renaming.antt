-- Renaming item by item: what is left makes the whole.
use Rattle.std.proofs.Common.{◌≡◌, ℕ, zero, suc, ◌+◌, ◌-◌, ◌<◌, ◌≤◌, Bool, true, false, List, [], ◌∷◌, ◌++◌, length, Some, None, refl, ap, sym, ◌∙◌, arith}
use Rattle.std.specs.Prelude.{if◌then◌else◌, drop, slice_get}
use Rattle.std.proofs.lemmas.List.{append-nil, append_assoc, length-append}
use Rattle.machine_desc.specs.declared.Desc.{Desc}
use Rattle.window_model.specs.declared.Event.TheVariants as event
use Rattle.window_model.specs.declared.Item.{Item}
use Rattle.window_model.specs.Rename.{rename, rename_up_to, rename_from, rename_one, fits}
use Rattle.window_model.specs.Row.{Row}
use Rattle.window_model.specs.State.{Machine, After, then_does, nothing}
use Rattle.core_parts.specs.Described.{Described}
use Rattle.rename.specs.Fitting.{fitting, with_oldest}
use Rattle.rename.proofs.Fitting.{fitting_is}
use Rattle.rename.proofs.Standing.{first_rest}

-- what follows, behind the events so far
abbrev pub behind : Row → After → After
behind row a = record { machine = a.machine; events = row.events ++ a.events }

-- at most n items more make the whole phase
pub record RenamesOn (s0 : Described) (row0 : Row) (n : ℕ) (s : Described) (row : Row) : Type 0 where
  pub left : behind row (rename_up_to s0.desc n s.machine) ≡ behind row0 (rename s0.desc s0.machine)
  pub same : s ≡ record s0 { machine = s.machine }
  pub cycle : row.cycle ≡ row0.cycle
  pub serials : s.machine.next_serial + n ≤ s0.machine.next_serial + s0.desc.core_fetch_width
  pub few : length row.events + n ≤ length row0.events + s0.desc.core_fetch_width

pub renames_start : (s : Described) (row : Row) → RenamesOn s row (s.desc.core_fetch_width - 0) s row
unfolding rename
renames_start s row =
    let e : s.desc.core_fetch_width - 0 ≡ s.desc.core_fetch_width = omega arith in
    record { left = ap (λ n. behind row (rename_up_to s.desc n s.machine)) e; same = refl; cycle = refl; serials = omega arith; few = omega arith }

-- ---- one item that is renamed

one_more : (d : Desc) (n : ℕ) (x : Machine) (item : Item) (rest : List Item) → x.queue ≡ item ∷ rest → fits d x.window item ≡ true →
    rename_up_to d (suc n) x ≡ then_does (rename_one d item rest x) (rename_up_to d n)
one_more d n x item rest q f =
    ap (λ q. rename_from d q x (rename_up_to d n)) q
    ∙ ap (λ b. if b then then_does (rename_one d item rest x) (rename_up_to d n) else nothing x) f

pub renames_more : (s0 : Described) (row0 : Row) (i : ℕ) (s : Described) (row : Row) (item : Item) (s2 : Described) (row2 : Row) → RenamesOn s0 row0 (s0.desc.core_fetch_width - i) s row → i < s0.desc.core_fetch_width →
    fitting s.desc s.machine.window (slice_get s.machine.queue 0) ≡ Some item → s2 ≡ record s { machine = with_oldest s.desc item s.machine } →
    row2 ≡ record row { events = row.events ++ event.Ren s.machine.next_serial item.pc ∷ [] } → RenamesOn s0 row0 (s0.desc.core_fetch_width - (i + 1)) s2 row2
renames_more s0 row0 i s row item s2 row2 h lt q g r =
    let d = s0.desc in
    let k = d.core_fetch_width - (i + 1) in
    let n : d.core_fetch_width - i ≡ suc k = omega (arith, lt) in
    let found = fitting_is d s.machine.window (slice_get s.machine.queue 0) item (ap (λ d. fitting d s.machine.window (slice_get s.machine.queue 0)) (sym (ap (λ (s : Described). s.desc) h.same)) ∙ q) in
    let y = s.machine in
    let rest = drop 1 y.queue in
    let more = rename_up_to d k (rename_one d item rest y).machine in
    let es : row2.events ≡ row.events ++ event.Ren y.next_serial item.pc ∷ [] = ap (λ (r : Row). r.events) r in
    let here = ap (λ (s : Described). s.desc) h.same in
    let entered : s2 ≡ record s { machine = (rename_one d item rest y).machine } = g ∙ ap (λ d. record s { machine = (rename_one d item rest y).machine }) here in
    let machine : s2.machine ≡ (rename_one d item rest y).machine = ap (λ (s : Described). s.machine) entered in
    let next = ap (λ (x : Machine). x.next_serial) machine in
    record {
      left =
          ap (λ y. behind row2 (rename_up_to d k y)) machine
          ∙ ap (λ es. record { machine = more.machine; events = es }) (ap (λ es. es ++ more.events) es ∙ append_assoc row.events (event.Ren y.next_serial item.pc ∷ []) more.events)
          ∙ sym (ap (behind row) (one_more d k y item rest (first_rest y.queue item found.0) found.1))
          ∙ sym (ap (λ n. behind row (rename_up_to d n y)) n)
          ∙ h.left;
      same = entered ∙ ap (λ (s : Described). record s { machine = (rename_one d item rest y).machine }) h.same ∙ ap (λ x. record s0 { machine = x }) (sym machine);
      cycle = ap (λ (r : Row). r.cycle) r ∙ h.cycle;
      serials = omega (arith, next, h.serials, n);
      few = (let l = ap length es in let l2 = length-append row.events (event.Ren y.next_serial item.pc ∷ []) in omega (arith, l, l2, h.few, n));
    }

-- ---- when no item more fits

no_more : (d : Desc) (n : ℕ) (x : Machine) → fitting d x.window (slice_get x.queue 0) ≡ None → rename_up_to d n x ≡ nothing x
no_more d zero x h = refl
no_more d (suc n) x h = by_queue d n x x.queue h
  where
    by_fit : (d : Desc) (n : ℕ) (x : Machine) (item : Item) (rest : List Item) (b : Bool) → (if b then Some item else None) ≡ None →
        (if b then then_does (rename_one d item rest x) (rename_up_to d n) else nothing x) ≡ nothing x
    by_fit d n x item rest true h = absurd (cc)
    by_fit d n x item rest false h = refl

    by_queue : (d : Desc) (n : ℕ) (x : Machine) (q : List Item) → fitting d x.window (slice_get q 0) ≡ None → rename_from d q x (rename_up_to d n) ≡ nothing x
    by_queue d n x [] h = refl
    by_queue d n x (item ∷ rest) h = by_fit d n x item rest (fits d x.window item) h

-- nothing is left to rename
pub record Over (s0 : Described) (row0 : Row) (s : Described) (row : Row) : Type 0 where
  pub machine : s ≡ record s0 { machine = (rename s0.desc s0.machine).machine }
  pub row_is : row ≡ record row0 { events = row0.events ++ (rename s0.desc s0.machine).events }

over : (s0 : Described) (row0 : Row) (n : ℕ) (s : Described) (row : Row) → rename_up_to s0.desc n s.machine ≡ nothing s.machine → RenamesOn s0 row0 n s row → Over s0 row0 s row
over s0 row0 n s row none h =
    let both : record { machine = s.machine; events = row.events } ≡ behind row0 (rename s0.desc s0.machine) =
    ap (λ es. record { machine = s.machine; events = es }) (sym (append-nil row.events)) ∙ sym (ap (behind row) none) ∙ h.left in
    record {
      machine = h.same ∙ ap (λ (a : After). record s0 { machine = a.machine }) both;
      row_is = ap (λ c. record { cycle = c; events = row.events }) h.cycle ∙ ap (λ (a : After). record { cycle = row0.cycle; events = a.events }) both;
    }

-- the oldest item can't go, or there is none
pub over_early : (s0 : Described) (row0 : Row) (n : ℕ) (s : Described) (row : Row) → RenamesOn s0 row0 n s row → fitting s.desc s.machine.window (slice_get s.machine.queue 0) ≡ None → Over s0 row0 s row
over_early s0 row0 n s row h q =
    let same = ap (λ (s : Described). s.desc) h.same in
    over s0 row0 n s row (no_more s0.desc n s.machine (ap (λ d. fitting d s.machine.window (slice_get s.machine.queue 0)) (sym same) ∙ q)) h
