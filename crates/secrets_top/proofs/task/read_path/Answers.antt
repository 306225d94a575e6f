-- The description is refused, or the image behind it, or both are read.
use Rattle.std.proofs.Common.{[], ◌∷◌, option_map, refl}
use Rattle.run_inputs.specs.declared.refusal.Which.TheVariants.{First}
use Rattle.run_inputs.specs.Loaded.{image_text}
use Rattle.run_inputs.specs.Input.{from_file}
use Rattle.run_inputs.proofs.InTurn.{named_refused, image_refused, one_read}
use Rattle.run_inputs.proofs.Exits.{at_err}
use Rattle.secrets_top.proofs.task.read_path.Goals as goal

pub returns-in_err-desc-clause-answer : goal.returns-in_err-desc-clause-answer
returns-in_err-desc-clause-answer g c = at_err _ _ _ _ c.from_residual.ensures.1 (named_refused _ _ _ _ _ c.in_err-desc.ensures.answer)

pub returns-in_err-image-clause-answer : goal.returns-in_err-image-clause-answer
returns-in_err-image-clause-answer g c =
    let desc = c.in_ok-desc.ensures in
    at_err _ _ _ _ c.from_residual-in_err-image.ensures.1
    (image_refused (g.F.Files.shelf c.args.files.now) (g.F.Files.shelf c.read_named.new.files) (g.F.Files.shelf c.read_image.new.files)
    (option_map (λ t. t.now) c.args.description) (from_file c.args.image.now ∷ []) First c.in_ok-desc.desc (from_file c.args.image.now) c.in_err-image.field-0.0
    (record { described = desc.answer.0; earlier = []; are_images = tt; counts = desc.answer.1; contents = desc.stays }) refl c.in_err-image.ensures.answer)

pub returns-clause-answer : goal.returns-clause-answer
returns-clause-answer g c =
    let desc = c.in_ok-desc.ensures in
    let image = c.in_ok-image.ensures in
    record {
      desc = c.in_ok-desc.desc;
      read = one_read (g.F.Files.shelf c.args.files.now) (g.F.Files.shelf c.read_named.new.files) (g.F.Files.shelf c.read_image.new.files)
          (option_map (λ t. t.now) c.args.description) c.in_ok-desc.desc (from_file c.args.image.now) (image_text c.in_ok-image.image)
          desc.answer.0 desc.answer.1 desc.stays image.answer.0 image.bytes image.answer.1;
      told = λ secret public. refl;
    }
