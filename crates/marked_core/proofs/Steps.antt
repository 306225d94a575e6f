-- Marks stay in step with the entries in flight, phase by phase.
use Rattle.std.proofs.Common.{◌≡◌, ℕ, ◌+◌, ◌-◌, ◌≤◌, ◌++◌, length, take, drop, replicate, ap, sym, ◌∙◌, subst, arith}
use Rattle.std.proofs.lemmas.List.{length-drop}
use Rattle.circular_buffer.specs.Buffer.{Buffer, buffer}
use Rattle.visibility.specs.Point.{Point}
use Rattle.window_model.specs.State.{Machine}
use Rattle.core_parts.specs.Described.{Described}
use Rattle.secret_marks.specs.declared.EntryMarks.{EntryMarks}
use Rattle.secret_marks.specs.Marks.{cut, with_new_entries, new_entry}
use Rattle.entry_marks.specs.declared.marks.Marks.{Marks}
use Rattle.entry_marks.specs.Walk.{marks_of, marks_with}
use Rattle.marked_core.specs.InStep.{InStep}
use Rattle.marked_core.proofs.Lengths.{cut_length, extended_length}

-- ---- where no mark moves

-- marks stay in step as the visibility point moves
pub over_point : (s s2 : Described) (p : Point) (m : Marks) → s2 ≡ record s { point = p } → InStep s m → InStep s2 m
over_point s s2 p m e h = subst (λ (s : Described). InStep s m) (sym e) (record { entries = h.entries; room = h.room })

-- marks stay in step in a phase that leaves as many entries
pub over_phase : (s s2 : Described) (x : Machine) (m : Marks) → s2 ≡ record s { machine = x } → length x.window ≡ length s.machine.window → InStep s m → InStep s2 m
over_phase s s2 x m e same h = subst (λ (s : Described). InStep s m) (sym e) (record { entries = h.entries ∙ sym same; room = h.room })

-- ---- where marks go or come

module _ (s s2 : Described) (x : Machine) (m m2 : Marks) (e : s2 ≡ record s { machine = x }) (h : InStep s m) (n : ℕ) (count : n ≡ length s2.machine.window) where
  -- marks stay in step as entries go from the young end
  pub step_cut : length x.window ≤ length s.machine.window → m2.window ≡ buffer (take n m.window.items) m.window.capacity → InStep s2 m2
  step_cut short w =
      let all = h.entries in
      let window = ap (λ (s : Described). length s.machine.window) e in
      record {
        entries = ap (λ (b : Buffer EntryMarks). length b.items) w ∙ cut_length n m.window.items (omega (arith, all, window, count, short)) ∙ count;
        room = ap (λ (b : Buffer EntryMarks). b.capacity) w ∙ h.room ∙ ap (λ (s : Described). s.desc.core_rob) (sym e);
      }

  -- marks stay in step as entries come at the young end
  pub step_extended : length s.machine.window ≤ length x.window → m2.window ≡ buffer (m.window.items ++ replicate (n - length m.window.items) new_entry) m.window.capacity → InStep s2 m2
  step_extended long w =
      let all = h.entries in
      let window = ap (λ (s : Described). length s.machine.window) e in
      record {
        entries = ap (λ (b : Buffer EntryMarks). length b.items) w ∙ extended_length n m.window.items (omega (arith, all, window, count, long)) ∙ count;
        room = ap (λ (b : Buffer EntryMarks). b.capacity) w ∙ h.room ∙ ap (λ (s : Described). s.desc.core_rob) (sym e);
      }

-- marks stay in step as entries go from the old end
pub step_left : (s s2 : Described) (x : Machine) (m m2 : Marks) (n : ℕ) → s2 ≡ record s { machine = x } → InStep s m → length s.machine.window ≡ n + length s2.machine.window →
    m2.window ≡ buffer (drop n m.window.items) m.window.capacity → InStep s2 m2
step_left s s2 x m m2 n e h count w =
    let all = h.entries in
    let drops = length-drop n m.window.items in
    let left : length (drop n m.window.items) ≡ length s2.machine.window = omega (arith, drops, all, count) in
    record {
      entries = ap (λ (b : Buffer EntryMarks). length b.items) w ∙ left;
      room = ap (λ (b : Buffer EntryMarks). b.capacity) w ∙ h.room ∙ ap (λ (s : Described). s.desc.core_rob) (sym e);
    }

-- ---- the marks of a window that is cut or extended

pub marks_cut : (m : Marks) (w : Buffer EntryMarks) (n : ℕ) (s : Described) → n ≡ length s.machine.window → w ≡ buffer (take n m.window.items) m.window.capacity →
    marks_with m w.items ≡ cut s.machine.window (marks_of m)
marks_cut m w n s count e = ap (λ (b : Buffer EntryMarks). marks_with m b.items) e ∙ ap (λ n. marks_with m (take n m.window.items)) count

pub marks_extended : (m : Marks) (w : Buffer EntryMarks) (n : ℕ) (s : Described) → n ≡ length s.machine.window →
    w ≡ buffer (m.window.items ++ replicate (n - length m.window.items) new_entry) m.window.capacity → marks_with m w.items ≡ with_new_entries s.machine.window (marks_of m)
marks_extended m w n s count e =
    ap (λ (b : Buffer EntryMarks). marks_with m b.items) e
    ∙ ap (λ n. marks_with m (m.window.items ++ replicate (n - length m.window.items) new_entry)) count
