use Rattle.std.proofs.Common.{◌∙◌, ap₂}
use Rattle.rv_types.specs.Memory.{load_fault, range}
use Rattle.rv_types.specs.Path.{unless_fault}
use Rattle.issue.proofs.seen.Seen.request_at.Goals as goal

pub returns-clause-bytes : goal.returns-clause-bytes
returns-clause-bytes c =
    let a = c.requires in
    ap₂ unless_fault (c.load_fault.ensures ∙ ap₂ (load_fault c.args.self.now.ram.now) a (c.bytes.ensures.value ∙ c.width-width.ensures)) (ap₂ range a c.width-width.ensures)
