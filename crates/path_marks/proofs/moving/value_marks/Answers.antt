use Rattle.std.proofs.Common.{ap₂, sym, ◌∙◌}
use Rattle.std.specs.Prelude.{◌||◌}
use Rattle.path_marks.proofs.Unmarked.{unmarked_value}
use Rattle.path_marks.proofs.moving.value_marks.Goals as goal

pub returns-else-any_byte : goal.returns-else-any_byte
returns-else-any_byte c =
    unmarked_value c.args.instr.now c.args.first c.args.second (ap₂ (λ x y. x || y) (sym c.any_byte.ensures) (sym c.any_byte-2.ensures) ∙ c.if-any_byte.false)
