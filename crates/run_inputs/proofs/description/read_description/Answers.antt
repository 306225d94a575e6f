-- The text that was read is described.
use Rattle.std.proofs.Common.{ℕ, List, refl, subst}
use Rattle.machine_desc.specs.Description.{Describes}
use Rattle.run_inputs.proofs.description.read_description.Goals as goal

pub returns-in-Ok-desc_in-clause-answer : goal.returns-in-Ok-desc_in-clause-answer
returns-in-Ok-desc_in-clause-answer g c =
    let P : List ℕ → Type 0 = λ x. Describes x c.in-Ok-desc_in.desc in
    ((c.in-Ok.text, c.in-Ok-desc_in.desc, c.in-Ok.ensures.answer.0, subst P c.as_slice.ensures c.in-Ok-desc_in.ensures, refl), c.in-Ok.ensures.answer.1)
