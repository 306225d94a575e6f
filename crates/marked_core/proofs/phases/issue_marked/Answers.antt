use Rattle.std.proofs.Common.{subst, sym, ◌∙◌}
use Rattle.issue.specs.Named.{NamesIssued}
use Rattle.marked_core.proofs.Naming.{issue_names}
use Rattle.marked_core.proofs.Lengths.{issue_keeps}
use Rattle.marked_core.proofs.Steps.{over_phase}
use Rattle.marked_core.proofs.phases.issue_marked.Goals as goal

pub mark_issued-requires : goal.mark_issued-requires
mark_issued-requires g c = record {
  step = (over_phase c.args.parts.now c.issue-issued.new.parts _ c.args.marks.now c.issue-issued.ensures.machine (issue_keeps c.args.parts.now.desc c.args.parts.now.machine) c.requires.step).entries;
  named = issue_names c.args.parts.now c.issue-issued.new.parts _ c.issue-issued.ensures.machine c.requires.fresh
      (subst (NamesIssued c.args.parts.now.machine.window c.issue-issued.new.parts.machine.window) (sym c.as_slice.ensures.value) c.issue-issued.ensures.named);
}

pub returns-clause-step : goal.returns-clause-step
returns-clause-step g c =
    let kept = over_phase c.args.parts.now c.issue-issued.new.parts _ c.args.marks.now c.issue-issued.ensures.machine (issue_keeps c.args.parts.now.desc c.args.parts.now.machine) c.requires.step in
    record { entries = c.mark_issued.ensures.step ∙ kept.entries; room = c.mark_issued.ensures.room ∙ kept.room }
