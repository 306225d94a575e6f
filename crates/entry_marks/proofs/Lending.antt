-- What the parts of a core tell of the machine that they hold, where they are lent to be looked at.
use Rattle.std.proofs.Common.{◌≡◌, ℕ, List, length, Some, slice_get, ap, sym, ◌∙◌}
use Rattle.window_model.specs.declared.Entry.{Entry}
use Rattle.window_model.specs.Order.{before_at}
use Rattle.core_parts.specs.Described.{Described}
use Rattle.core_parts.specs.Held.{Held, Whole, described_of, in_flight}
use Rattle.secret_marks.specs.declared.EntryMarks.{EntryMarks}
use Rattle.secret_marks.specs.Marks.{Marks, issued_marks}
use Rattle.entry_marks.specs.Walk.{RefinesBeside}

module _ (h : Held) (v : Described) (w : Whole h) (s : described_of h ≡ v) where
  -- the parts that are lent refine the window, and each entry has its marks
  pub lent_beside : (marks : List EntryMarks) → length marks ≡ length v.machine.window → RefinesBeside h.rob.entries h.sources.items h.queues marks
  lent_beside marks e = record { rest = in_flight h; refines = w.refines; step = e ∙ sym (ap (λ (v : Described). length v.machine.window) s) }

  -- the entry that is lent has the marks with which Issue leaves that of the machine
  pub lent_issued : (m : Marks) (before : List EntryMarks) (i : ℕ) (x e : Entry) (own mark new : EntryMarks) → slice_get h.rob.entries i ≡ Some x → slice_get v.machine.window i ≡ Some e → Some own ≡ Some mark →
      new ≡ issued_marks h.cycle h.ram.base m (before_at h.rob.entries i) before x own → new ≡ issued_marks v.machine.cycle v.machine.ram.base m (before_at v.machine.window i) before e mark
  lent_issued m before i x e own mark new at here same is =
      let window = ap (λ (v : Described). slice_get v.machine.window i) s in
      let entry : Some x ≡ Some e = sym at ∙ window ∙ here in
      let all = ap (λ (v : Described). issued_marks v.machine.cycle v.machine.ram.base m (before_at v.machine.window i) before e mark) s in
      cc
