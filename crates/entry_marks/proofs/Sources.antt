-- The marks of an entry's sources, by the serials of the writers that stand at its position.
use Rattle.std.proofs.Common.{◌≡◌, ℕ, zero, suc, ◌≤◌, Bool, true, false, List, [], ◌∷◌, length, Option, Some, None, refl, ap, ap₂, sym, ◌∙◌, arith, get_or, slice_get}
use Rattle.std.specs.Prelude.{if◌then◌else◌, map, ◌==◌}
use Rattle.std.specs.Option.{option_map}
use Rattle.std.proofs.lemmas.Bool.Decides.{nat_tests}
use Rattle.rv_types.specs.declared.Reg.{Reg}
use Rattle.rv_types.specs.Regs.{two}
use Rattle.window_model.specs.declared.Entry.{Entry}
use Rattle.window_model.specs.Order.{before_at, writer, writes}
use Rattle.window_model.specs.Serials.{Rise, below}
use Rattle.window_model.proofs.Serials.{place_of}
use Rattle.refinement.specs.Writers.{if_serial, in_flight, writer_of}
use Rattle.secret_marks.specs.declared.EntryMarks.{EntryMarks}
use Rattle.secret_marks.specs.declared.WordMarks.{WordMarks}
use Rattle.secret_marks.specs.Words.{unmarked}
use Rattle.secret_marks.specs.Marks.{first_marks, register_marks, second_marks}
use Rattle.entry_marks.specs.Beside.{if_entry, mark_of, marks_before, marks_by, result_or}
use Rattle.entry_marks.proofs.Before.{before_step, found_at}

-- the marks of an entry in the window, found by its serial; none of none
abbrev of_entry : List Entry → List EntryMarks → Option Entry → Option EntryMarks
of_entry window marks None = None
of_entry window marks (Some e) = slice_get marks (length (below e.serial window))

-- the marks of a register are those of this entry where it writes it, else those found before it
one_writer : (b : Bool) (window : List Entry) (marks : List EntryMarks) (e : Entry) (mark : EntryMarks) (rest : WordMarks) (found : Option Entry) (retired : WordMarks) →
    slice_get marks (length (below e.serial window)) ≡ Some mark → rest ≡ result_or (of_entry window marks found) retired →
    (if b then mark.result else rest) ≡ result_or (of_entry window marks (if b then Some e else found)) retired
one_writer true window marks e mark rest found retired at h = ap (λ m. result_or m retired) (sym at)
one_writer false window marks e mark rest found retired at h = h

module _ (regs : List WordMarks) (window : List Entry) (marks : List EntryMarks) (rise : Rise window) (step : length marks ≡ length window) (r : ℕ) where
  -- the marks of a register are those of its writer
  by_writer : (i : ℕ) → i ≤ length window → register_marks regs (before_at window i) (marks_before marks i) r ≡ result_or (of_entry window marks (writer (before_at window i) r)) (get_or regs r unmarked)
  by_writer zero le = refl
  by_writer (suc i) le =
      let (e, here) = found_at window i (omega (arith, le)) in
      let (mark, here2) = found_at marks i (omega (arith, le, step)) in
      let es = before_step window (suc i) i e (omega arith) here in
      let ms = before_step marks (suc i) i mark (omega arith) here2 in
      ap₂ (λ es ms. register_marks regs es ms r) es ms
      ∙ one_writer (writes r e) window marks e mark _ (writer (before_at window i) r) (get_or regs r unmarked) (ap (slice_get marks) (place_of window i e rise here) ∙ here2) (by_writer i (omega (arith, le)))
      ∙ ap (λ es. result_or (of_entry window marks (writer es r)) (get_or regs r unmarked)) (sym es)

-- an entry with this serial, if there is one, has its marks where it stands
same_entry : (window : List Entry) (marks : List EntryMarks) (serial : ℕ) (e : Entry) (b : Bool) → (b ≡ true → e.serial ≡ serial) →
    if_entry (if b then Some e else None) (slice_get marks (length (below serial window))) ≡ of_entry window marks (if b then Some e else None)
same_entry window marks serial e true h = ap (λ n. slice_get marks (length (below n window))) (sym (h refl))
same_entry window marks serial e false h = refl

as_serial : (window : List Entry) (marks : List EntryMarks) (serial : ℕ) (found : Option Entry) →
    if_entry (if_serial serial found) (slice_get marks (length (below serial window))) ≡ of_entry window marks (if_serial serial found)
as_serial window marks serial None = refl
as_serial window marks serial (Some e) = same_entry window marks serial e (e.serial == serial) (λ q. grind (arith, nat_tests))

mark_is : (window : List Entry) (marks : List EntryMarks) (w : Option ℕ) → mark_of window marks w ≡ of_entry window marks (in_flight window w)
mark_is window marks None = refl
mark_is window marks (Some serial) = as_serial window marks serial (slice_get window (length (below serial window)))

-- a list of two values that are made from a list has one from each of its first two elements
of_two : {X Y : Type 0} (f : X → Y) (xs : List X) (a b : Y) (d : X) → map f xs ≡ a ∷ b ∷ [] → (f (get_or xs 0 d) ≡ a) × (f (get_or xs 1 d) ≡ b)
of_two f (x ∷ y ∷ []) a b d h = (cc, cc)
of_two f _ a b d h = absurd (cc)

module _ (regs : List WordMarks) (window : List Entry) (marks : List EntryMarks) (rise : Rise window) (step : length marks ≡ length window) (i : ℕ) (le : i ≤ length window) where
  -- the marks of a source, none where there is none
  abbrev source : Option ℕ → WordMarks
  source None = unmarked
  source (Some r) = register_marks regs (before_at window i) (marks_before marks i) r

  -- the marks of a source are those of the writer that is found
  source_is : (o r w : Option ℕ) → r ≡ o → in_flight window w ≡ writer_of (before_at window i) o → marks_by regs window marks r w ≡ source o
  source_is None r w n h = ap (λ r. marks_by regs window marks r w) n
  source_is (Some o) r w n h =
      ap (λ r. marks_by regs window marks r w) n
      ∙ ap (λ m. result_or m (get_or regs o unmarked)) (mark_is window marks w ∙ ap (of_entry window marks) h)
      ∙ sym (by_writer regs window marks rise step o i le)

  -- the sources and writers as the code has them, as arrays of two
  module _ (reads : List (Option Reg)) (ws : List (Option ℕ)) (d : Option Reg) (u : Option ℕ) where
    abbrev value : ℕ → WordMarks
    value k = marks_by regs window marks (option_map (λ r. r.number) (get_or reads k d)) (get_or ws k u)

    values : (a b : Option ℕ) → map (option_map (λ r. r.number)) reads ≡ a ∷ b ∷ [] → map (in_flight window) ws ≡ map (writer_of (before_at window i)) (a ∷ b ∷ []) →
        (value 0 ≡ source a) × (value 1 ≡ source b)
    values a b r w =
        let read = of_two (option_map (λ (r : Reg). r.number)) reads a b d r in
        let found = of_two (in_flight window) ws (writer_of (before_at window i) a) (writer_of (before_at window i) b) u w in
        (source_is a _ _ read.0 found.0, source_is b _ _ read.1 found.1)

    pub sources_are : (rs : List ℕ) → map (option_map (λ r. r.number)) reads ≡ two rs → map (in_flight window) ws ≡ map (writer_of (before_at window i)) (two rs) →
        (value 0 ≡ first_marks regs (before_at window i) (marks_before marks i) rs) × (value 1 ≡ second_marks regs (before_at window i) (marks_before marks i) rs)
    sources_are [] r w = values None None r w
    sources_are (a ∷ []) r w = values (Some a) None r w
    sources_are (a ∷ b ∷ rs) r w = values (Some a) (Some b) r w
