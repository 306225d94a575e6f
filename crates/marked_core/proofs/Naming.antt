-- The entries that Issue names are those that issue in its cycle, where none had before.
use Rattle.std.proofs.Common.{◌≡◌, ℕ, ◌<◌, true, ◌||◌, List, length, get_or, slice_get, ap, ap₂, sym, subst, ◌∙◌, inl, inr, arith}
use Rattle.std.specs.List.{AllByRecursion as Each}
use Rattle.std.proofs.lemmas.Bool.{cases_lt}
use Rattle.std.proofs.lemmas.Option.{slice_get_past}
use Rattle.window_model.specs.declared.Entry.{Entry}
use Rattle.window_model.specs.Issue.{issue}
use Rattle.window_model.specs.State.{Machine}
use Rattle.machine_facts.proofs.Ports.{issue_adds}
use Rattle.core_parts.specs.Described.{Described}
use Rattle.issue.specs.Named.{NamesIssued}
use Rattle.entry_marks.specs.IssuedNow.{NamesEachIssued, has_issued}
use Rattle.entry_marks.proofs.Fitting.{each_at}
use Rattle.marked_core.specs.InStep.{NotYet}
use Rattle.marked_core.proofs.Lengths.{issue_keeps}

not_issued : (cycle : ℕ) (e : Entry) → NotYet cycle e → has_issued cycle e ≡ true → ⊥
not_issued cycle e n h = let none = ap₂ (λ a b. a || b) n.0 n.1 in absurd (cc)

module _ (cycle : ℕ) (old new : List Entry) (positions : List ℕ) (names : NamesIssued old new positions) where
  -- where the window isn't as it was an entry stands
  stands : length new ≡ length old → (i : ℕ) → (slice_get new i ≡ slice_get old i → ⊥) → i < length new
  stands same i h = elim (cases_lt i (length new)) [
    | inl lt ↦ lt
    | inr le ↦ absurd (h (slice_get_past new i le ∙ sym (slice_get_past old i (omega (arith, le, same)))))
  ]

  -- an entry that has issued in this cycle is named, where none had before
  names_each : length new ≡ length old → Each (NotYet cycle) old → NamesEachIssued cycle new positions
  names_each same fresh = record {
    by_age = names.by_age;
    within = λ k d lt. stands same (get_or positions k d) (names.each k d lt);
    each = λ i e here h. elim (names.others i) [
      | inl as_was ↦ absurd (not_issued cycle e (each_at (NotYet cycle) old fresh i e (sym as_was ∙ here)) h)
      | inr found ↦ found
    ];
  }

-- what Issue names is each entry that has issued in its cycle
pub issue_names : (s s2 : Described) (positions : List ℕ) → s2 ≡ record s { machine = (issue s.desc s.machine).machine } → Each (NotYet s.machine.cycle) s.machine.window →
    NamesIssued s.machine.window s2.machine.window positions → NamesEachIssued s2.machine.cycle s2.machine.window positions
issue_names s s2 positions e fresh names =
    let machine = ap (λ (s : Described). s.machine) e in
    let cycle : s2.machine.cycle ≡ s.machine.cycle = ap (λ (x : Machine). x.cycle) machine ∙ (issue_adds s.desc s.machine).cycle in
    let same : length s2.machine.window ≡ length s.machine.window = ap (λ (x : Machine). length x.window) machine ∙ issue_keeps s.desc s.machine in
    subst (λ n. NamesEachIssued n s2.machine.window positions) (sym cycle) (names_each s.machine.cycle s.machine.window s2.machine.window positions names same fresh)
