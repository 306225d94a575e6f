-- How marks move in a cycle, and what shows in it, half by half.
use Rattle.std.proofs.Common.{◌≡◌, ℕ, List, false, length, Option, Some, None, refl, ap, ap₂, sym, ◌∙◌}
use Rattle.rv_types.specs.Isa.{Hart}
use Rattle.rv_types.specs.Memory.{Code}
use Rattle.rv_types.specs.declared.End.{End}
use Rattle.elf_loader.specs.inner.Code.{word_at}
use Rattle.machine_desc.specs.declared.Desc.{Desc}
use Rattle.window_model.specs.State.{After, Machine}
use Rattle.window_model.specs.Clear.{clear}
use Rattle.window_model.specs.Cycle.{begins_cycle}
use Rattle.window_model.specs.Retire.{retire, unless_ended}
use Rattle.window_model.proofs.Quiet.{after_quiet, at_retire, before_quiet}
use Rattle.core_parts.specs.Described.{Described}
use Rattle.core_cycle.proofs.Cycling.{Backs, Fronts, Leaves, code_left, desc_left, machine_fronted, machine_left}
use Rattle.core_cycle.proofs.Fronts.{Resolved, clears, resolves}
use Rattle.secret_marks.specs.declared.Shown.{Shown}
use Rattle.secret_marks.specs.Marks.{Marks, after_retire_marks, cut}
use Rattle.secret_marks.specs.Published.{Public, published_marks}
use Rattle.secret_marks.specs.Shown.{head_shown, or_else, resolved_shown, shown_cycle}
use Rattle.secret_marks.specs.Watch.{Watched, then_watches, watch_before, watch_cycle, watch_fetch, watch_issue, watch_retire}
use Rattle.entry_marks.specs.declared.marks.Marks.{Marks as Beside}
use Rattle.entry_marks.specs.Walk.{marks_of}
use Rattle.marked_core.specs.Watched.{from_issue, shown_from_issue, shown_to_clear, to_clear, to_resolve}

-- ---- the watched phases before Retire

module _ (s s1 s2 s3 s4 s5 : Described) (e : Resolved s s1 s2 s3 s4 s5) (m m1 : Marks) (left : m1 ≡ cut s4.machine.window m) where
  resolved_window : s4.machine.window ≡ (to_resolve s.desc s.machine m).machine.window
  resolved_window = ap (λ (s : Described). s.machine.window) e.resolved ∙ ap (λ (a : After). a.machine.window) (resolves s s1 s2 s3 s4 s5 e)

  resolved_marks : m1 ≡ (to_resolve s.desc s.machine m).marks
  resolved_marks = left ∙ ap (λ w. cut w m) resolved_window

  pub front_shows : (t : Option Shown) → t ≡ resolved_shown s4.machine.window m1.window → t ≡ shown_to_clear s.desc s.machine m
  front_shows t h = h ∙ ap₂ (λ w (m : Marks). resolved_shown w m.window) resolved_window resolved_marks

  pub front_marks : (s6 : Described) → s6 ≡ record s5 { machine = (clear s5.desc s5.machine).machine } → (m2 : Marks) → m2 ≡ cut s6.machine.window m1 → m2 ≡ (to_clear s.desc s.machine m).marks
  front_marks s6 e6 m2 h =
      h ∙ ap₂ cut (ap (λ (s : Described). s.machine.window) e6 ∙ ap (λ (a : After). a.machine.window) (clears s s1 s2 s3 s4 s5 e)) resolved_marks

-- ---- each byte of memory has its mark

pub bytes_fronted : (s s1 s2 : Described) (p : Fronts s s1 s2) (m m1 : Beside) → marks_of m1 ≡ (to_clear s1.desc s1.machine (marks_of m)).marks →
    length m.bytes.items ≡ length s.machine.ram.bytes → length m1.bytes.items ≡ length s2.machine.ram.bytes
bytes_fronted s s1 s2 p m m1 e h =
    ap (λ (m : Marks). length m.bytes) e
    ∙ h
    ∙ sym (ap (λ (x : Machine). length x.ram.bytes) (machine_fronted s s1 s2 p) ∙ ap (λ (h : Hart). length h.ram.bytes) (before_quiet s.desc s.machine).hart)

from_bytes : (d : Desc) (code : Code) (o : Option End) (x : Machine) (m : Marks) →
    (unless_ended o (record { machine = x; marks = m; shows = false }) (then_watches (watch_issue d x m) (watch_fetch d code))).marks.bytes ≡ m.bytes
from_bytes d code None x m = refl
from_bytes d code (Some e) x m = refl

pub bytes_backed : (s3 s4 : Described) (k : Backs s3 s4) (m m2 : Beside) → marks_of m2 ≡ (from_issue s3.desc (word_at s3.code) s3.machine (marks_of m)).marks →
    length m.bytes.items ≡ length s3.machine.ram.bytes → length m2.bytes.items ≡ length s4.machine.ram.bytes
bytes_backed s3 s4 k m m2 e h =
    ap (λ (m : Marks). length m.bytes) e
    ∙ ap length (from_bytes s3.desc (word_at s3.code) s3.machine.end s3.machine (marks_of m))
    ∙ h
    ∙ sym (ap (λ (s : Described). length s.machine.ram.bytes) k ∙ ap (λ (h : Hart). length h.ram.bytes) (after_quiet s3.desc (word_at s3.code) s3.machine).hart)

-- ---- a whole cycle as it is watched

-- what is watched behind Retire is watched from the machine and the marks that it leaves
by_end : (d : Desc) (code : Code) (r : Watched) (o : Option End) →
    (unless_ended o r (then_watches (then_watches r (watch_issue d)) (watch_fetch d code))).marks
    ≡ (unless_ended o (record { machine = r.machine; marks = r.marks; shows = false }) (then_watches (watch_issue d r.machine r.marks) (watch_fetch d code))).marks
by_end d code r None = refl
by_end d code r (Some e) = refl

pub halves : (public : Public) (d : Desc) (code : Code) (x : Machine) (m : Marks) →
    (let l = to_clear d (begins_cycle x) m in let t = watch_retire public d l.machine l.marks in (from_issue d code t.machine t.marks).marks) ≡ (watch_cycle public d code x m).marks
halves public d code x m = let r = watch_before public d x m in sym (by_end d code r r.machine.end)

module _ (public : Public) (s s1 s2 : Described) (p : Fronts s s1 s2) (m m1 : Marks) (front : m1 ≡ (to_clear s1.desc s1.machine m).marks) where
  abbrev x : Machine
  x = begins_cycle s.machine

  fronted : m1 ≡ (to_clear s.desc x m).marks
  fronted = front ∙ ap (λ (s : Described). (to_clear s.desc s.machine m).marks) p.begins

  module _ (s3 : Described) (q : Leaves s2 s3) (piece : List ℕ) (out : piece ≡ (retire s2.desc s2.machine).piece) (m2 : Marks) (left : m2 ≡ published_marks public s2.machine piece (after_retire_marks s2.machine.window s3.machine m1)) where
    abbrev y : Machine
    y = at_retire s.desc s.machine

    abbrev z : Machine
    z = (retire s.desc y).machine

    -- the piece is that of Retire of this machine
    put_out : piece ≡ (retire s.desc y).piece
    put_out = out ∙ ap₂ (λ d (x : Machine). (retire d x).piece) (ap (λ (s : Described). s.desc) p.goes ∙ ap (λ (s : Described). s.desc) p.begins) (machine_fronted s s1 s2 p)

    retired : m2 ≡ published_marks public y (retire s.desc y).piece (after_retire_marks y.window z (to_clear s.desc x m).marks)
    retired =
        left
        ∙ ap₂ (λ (y : Machine) piece. published_marks public y piece (after_retire_marks y.window s3.machine m1)) (machine_fronted s s1 s2 p) put_out
        ∙ ap₂ (λ z m. published_marks public y (retire s.desc y).piece (after_retire_marks y.window z m)) (machine_left s s1 s2 p s3 q) fronted

    pub cycle_marks : (m3 : Marks) → m3 ≡ (from_issue s3.desc (word_at s3.code) s3.machine m2).marks → m3 ≡ (watch_cycle public s.desc (word_at s.code) s.machine m).marks
    cycle_marks m3 back =
        back
        ∙ ap (λ d. (from_issue d (word_at s3.code) s3.machine m2).marks) (desc_left s s1 s2 p s3 q)
        ∙ ap (λ code. (from_issue s.desc (word_at code) s3.machine m2).marks) (code_left s s1 s2 p s3 q)
        ∙ ap₂ (λ z m. (from_issue s.desc (word_at s.code) z m).marks) (machine_left s s1 s2 p s3 q) retired
        ∙ halves public s.desc (word_at s.code) s.machine m

    pub cycle_shows : (a b c : Option Shown) → a ≡ shown_to_clear s1.desc s1.machine m → b ≡ head_shown s2.machine.window s2.machine m1 → c ≡ shown_from_issue s3.desc s3.machine m2 →
        or_else a (or_else b c) ≡ shown_cycle public s.desc s.machine m
    cycle_shows a b c ea eb ec =
        let first = ea ∙ ap (λ (s : Described). shown_to_clear s.desc s.machine m) p.begins in
        let second = eb ∙ ap₂ (λ (y : Machine) m. head_shown y.window y m) (machine_fronted s s1 s2 p) fronted in
        let third =
        ec
        ∙ ap (λ d. shown_from_issue d s3.machine m2) (desc_left s s1 s2 p s3 q)
        ∙ ap₂ (shown_from_issue s.desc) (machine_left s s1 s2 p s3 q) retired in
        ap₂ (λ a r. or_else a r) first (ap₂ or_else second third)
