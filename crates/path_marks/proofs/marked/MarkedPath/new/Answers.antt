use Rattle.std.proofs.Common.{ap, length, sym, ◌∙◌}
use Rattle.isa_step.specs.State.{IsaState}
use Rattle.mark_words.proofs.Secrets.{marks_length}
use Rattle.path_marks.proofs.marked.MarkedPath.new.Goals as goal

-- there are as many marks as bytes
pub invariant_of-result : goal.invariant_of-result
invariant_of-result c =
    ap length c.in_ok-bytes.ensures
    ∙ marks_length _ c.base.result c.size.result
    ∙ c.size.ensures.value
    ∙ sym (ap (λ (s : IsaState). length s.hart.ram.bytes) c.new.ensures)
