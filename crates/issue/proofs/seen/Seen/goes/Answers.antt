use Rattle.std.proofs.Common.{◌∙◌, ap₂, sym}
use Rattle.rv_types.specs.Memory.{load_fault}
use Rattle.window_model.specs.MayIssue.{address_of}
use Rattle.window_model.specs.Retire.{byte_count}
use Rattle.issue.specs.Pending.{lets_by, passes_here}
use Rattle.issue.specs.State.{before_of}
use Rattle.issue.proofs.Behind.{goes_is, goes_known}
use Rattle.issue.proofs.Bytes.{let_is}
use Rattle.issue.proofs.Kept.{all_known_in_one, refused_by_data}
use Rattle.issue.proofs.seen.Seen.goes.Goals as goal

pub returns-then-stores_in_one : goal.returns-then-stores_in_one
returns-then-stores_in_one c =
    let t = c.requires.turn in
    sym (goes_known c.args.self.now _ _ t.stands t.candidate.at (all_known_in_one c.args.self.now c.args.candidate.now (sym c.stores_in_one.ensures ∙ c.if-stores_in_one.true) c.requires.open))

pub returns-then-all_older_known : goal.returns-then-all_older_known
returns-then-all_older_known c =
    let t = c.requires.turn in
    sym (goes_known c.args.self.now _ _ t.stands t.candidate.at (sym c.all_older_known.ensures ∙ c.if-all_older_known.true))

pub returns-then-awaits_data : goal.returns-then-awaits_data
returns-then-awaits_data c =
    sym (refused_by_data c.args.self.now c.args.candidate.now c.requires.turn (sym c.awaits_data.ensures ∙ c.if-awaits_data.true))

pub returns : goal.returns
returns c =
    let s = c.args.self.now in
    let t = c.requires.turn in
    let e = c.args.candidate.now.entry.now in
    let a = address_of s.regs.now (before_of s c.args.candidate.now) e in
    c.is_let.ensures ∙ ap₂ (λ passes p. lets_by passes s.point.now.serial p) c.passes.ensures c.pending.ensures
    ∙ sym (goes_is s _ e t.stands t.candidate.at ∙ let_is s _ e t.stands t.candidate.at (passes_here s c.args.candidate.now) (load_fault s.ram.now a (byte_count e)) a (byte_count e))
