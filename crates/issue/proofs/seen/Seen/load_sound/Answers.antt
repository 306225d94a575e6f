use Rattle.std.proofs.Common.{◌∙◌, ap, ap₂, arith}
use Rattle.rv_types.specs.Value.{extend}
use Rattle.visibility.specs.Point.{is_hidden}
use Rattle.window_model.specs.Access.{unless_forwarded}
use Rattle.window_model.proofs.Memory.{inside}
use Rattle.issue.specs.Pending.{passes_here}
use Rattle.issue.specs.State.{around_of}
use Rattle.issue.proofs.Bytes.{forwarded_is, number_is}
use Rattle.issue.proofs.seen.Seen.load_sound.Goals as goal

pub find-requires-clause-within : goal.find-requires-clause-within
find-requires-clause-within c =
    let s = c.args.self.now in
    let t = c.requires.turn.stands in
    let within = (inside _ _ s.ram.now c.args.request.now.addr _ c.requires.sound).1 in
    let bytes = c.bytes.ensures.value in
    let end = t.memory in
    let low = t.low in
    omega (arith, within, bytes, end, low)

pub returns-clause-access : goal.returns-clause-access
returns-clause-access c =
    let s = c.args.self.now in
    let t = c.requires.turn in
    let forwarded = forwarded_is s _ _ t.stands t.candidate.at (passes_here s c.args.candidate.now) c.args.request.now.addr _ _ _ c.requires.size c.requires.lets
    c.merge-merged.ensures.covered (ap (is_hidden s.point.now.serial) c.merge-merged.ensures.root) in
    c.find.ensures ∙ ap₂ (λ b n. unless_forwarded s.desc.now (around_of s) b c.args.request.now.addr n) (c.is_forwarded-forwarded.ensures ∙ forwarded) c.bytes.ensures.value

pub returns-clause-value : goal.returns-clause-value
returns-clause-value c =
    let t = c.requires.turn in
    let number = number_is c.args.self.now _ _ t.stands t.candidate.at (passes_here c.args.self.now c.args.candidate.now) c.args.request.now.addr _ c.requires.size c.requires.lets in
    c.extend.ensures ∙ ap₂ extend c.op.ensures (c.merge-merged.ensures.value ∙ number)
