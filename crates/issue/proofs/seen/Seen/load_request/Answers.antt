use Rattle.std.proofs.Common.{◌∙◌, ap}
use Rattle.rv_types.specs.Isa.{Effect}
use Rattle.issue.specs.State.{before_of}
use Rattle.issue.proofs.Behind.{address_is}
use Rattle.issue.proofs.seen.Seen.load_request.Goals as goal

pub request_at-requires : goal.request_at-requires
request_at-requires c =
    let s = c.args.self.now in
    let p = c.args.candidate.now in
    ap (λ (f : Effect). f.addr) c.requires.effect ∙ address_is s.regs.now (before_of s p) p.entry.now
