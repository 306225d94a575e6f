-- The description is refused, or the image behind it, or both are read.
use Rattle.std.proofs.Common.{[], ◌∷◌, Some, refl}
use Rattle.run_inputs.specs.declared.refusal.Which.TheVariants.{First}
use Rattle.run_inputs.specs.Loaded.{image_text}
use Rattle.run_inputs.specs.inner.Input.{image_from}
use Rattle.run_inputs.proofs.InTurn.{description_refused, image_refused, one_read}
use Rattle.run_inputs.proofs.Exits.{at_err}
use Rattle.run_inputs.proofs.described.read_described.Goals as goal

pub returns-in-Err-clause-answer : goal.returns-in-Err-clause-answer
returns-in-Err-clause-answer g c = description_refused _ _ _ _ _ c.in-Err.ensures.answer

pub returns-in_err-image-clause-answer : goal.returns-in_err-image-clause-answer
returns-in_err-image-clause-answer g c =
    let desc = c.in-Ok.ensures in
    at_err _ _ _ _ c.from_residual.ensures.1
    (image_refused (g.F.Files.shelf c.args.files.now) (g.F.Files.shelf c.read_description.new.files) (g.F.Files.shelf c.read_image.new.files)
    (Some c.args.description.now) (image_from c.args.source ∷ []) First (Some c.in-Ok.desc) (image_from c.args.source) c.in_err-image.field-0.0
    (record { described = desc.answer.0; earlier = []; are_images = tt; counts = desc.answer.1; contents = desc.stays }) refl c.in_err-image.ensures.answer)

pub returns-clause-answer : goal.returns-clause-answer
returns-clause-answer g c =
    let desc = c.in-Ok.ensures in
    let image = c.in_ok-image.ensures in
    one_read (g.F.Files.shelf c.args.files.now) (g.F.Files.shelf c.read_description.new.files) (g.F.Files.shelf c.read_image.new.files)
    (Some c.args.description.now) (Some c.in-Ok.desc) (image_from c.args.source) (image_text c.in_ok-image.image)
    desc.answer.0 desc.answer.1 desc.stays image.answer.0 image.bytes image.answer.1
