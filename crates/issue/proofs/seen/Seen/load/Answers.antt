use Rattle.std.proofs.Common.{◌∙◌, ap, sym}
use Rattle.rv_types.specs.Isa.{Effect}
use Rattle.rv_types.specs.Memory.{load_fault}
use Rattle.window_model.specs.Retire.{byte_count}
use Rattle.issue.proofs.Behind.{lets_sound}
use Rattle.issue.proofs.seen.Seen.load.Goals as goal

pub load_sound-requires-clause-lets : goal.load_sound-requires-clause-lets
load_sound-requires-clause-lets c =
    let s = c.args.self.now in
    let t = c.requires.turn in
    let addr = c.load_request-request.ensures.addr in
    let sound = ap (λ a. load_fault s.ram.now a (byte_count c.args.candidate.now.entry.now)) addr ∙ sym c.load_request-request.ensures.fault ∙ c.in-None.is in
    lets_sound s _ _ t.stands t.candidate.at c.load_request-request.result.addr (addr ∙ ap (λ (f : Effect). f.addr) c.requires.effect) sound c.requires.goes
