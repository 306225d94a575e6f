-- The description is refused, or either image at its place, or all are read.
use Rattle.std.proofs.Common.{[], ◌∷◌, Some, refl}
use Rattle.run_inputs.specs.declared.refusal.Which.TheVariants.{First, Second}
use Rattle.run_inputs.specs.Loaded.{image_text}
use Rattle.run_inputs.specs.Input.{from_file}
use Rattle.run_inputs.proofs.InTurn.{description_refused, image_refused, one_read, two_read, contents_after}
use Rattle.run_inputs.proofs.Exits.{at_err}
use Rattle.stt_top.proofs.task.read_pair.Goals as goal

pub returns-in_err-desc-clause-answer : goal.returns-in_err-desc-clause-answer
returns-in_err-desc-clause-answer g c = at_err _ _ _ _ c.from_residual.ensures.1 (description_refused _ _ _ _ _ c.in_err-desc.ensures.answer)

pub returns-in_err-one-clause-answer : goal.returns-in_err-one-clause-answer
returns-in_err-one-clause-answer g c =
    let desc = c.in_ok-desc.ensures in
    at_err _ _ _ _ c.from_residual-in_err-one.ensures.1
    (image_refused (g.F.Files.shelf c.args.files.now) (g.F.Files.shelf c.read_description.new.files) (g.F.Files.shelf c.read_image.new.files)
    (Some c.args.description.now) (from_file c.args.image.now ∷ from_file c.args.image2.now ∷ []) First (Some c.in_ok-desc.desc) (from_file c.args.image.now)
    c.in_err-one.field-0.0
    (record { described = desc.answer.0; earlier = []; are_images = tt; counts = desc.answer.1; contents = desc.stays }) refl c.in_err-one.ensures.answer)

pub returns-in_err-two-clause-answer : goal.returns-in_err-two-clause-answer
returns-in_err-two-clause-answer g c =
    let old = g.F.Files.shelf c.args.files.now in
    let mid = g.F.Files.shelf c.read_description.new.files in
    let mid2 = g.F.Files.shelf c.read_image.new.files in
    let desc = c.in_ok-desc.ensures in
    let one = c.in_ok-one.ensures in
    let r = one_read old mid mid2 (Some c.args.description.now) (Some c.in_ok-desc.desc) (from_file c.args.image.now) (image_text c.in_ok-one.one)
    desc.answer.0 desc.answer.1 desc.stays one.answer.0 one.bytes one.answer.1 in
    at_err _ _ _ _ c.from_residual-in_err-two.ensures.1
    (image_refused old mid2 (g.F.Files.shelf c.read_image-2.new.files)
    (Some c.args.description.now) (from_file c.args.image.now ∷ from_file c.args.image2.now ∷ []) Second (Some c.in_ok-desc.desc) (from_file c.args.image2.now)
    c.in_err-two.field-0.0
    (record { described = r.described; earlier = image_text c.in_ok-one.one ∷ []; are_images = r.are_images; counts = r.counts; contents = contents_after old mid mid2 desc.stays one.stays })
    refl c.in_err-two.ensures.answer)

pub returns-clause-answer : goal.returns-clause-answer
returns-clause-answer g c =
    let old = g.F.Files.shelf c.args.files.now in
    let mid = g.F.Files.shelf c.read_description.new.files in
    let mid2 = g.F.Files.shelf c.read_image.new.files in
    let desc = c.in_ok-desc.ensures in
    let one = c.in_ok-one.ensures in
    let two = c.in_ok-two.ensures in
    let r = one_read old mid mid2 (Some c.args.description.now) (Some c.in_ok-desc.desc) (from_file c.args.image.now) (image_text c.in_ok-one.one)
    desc.answer.0 desc.answer.1 desc.stays one.answer.0 one.bytes one.answer.1 in
    record {
      desc = Some c.in_ok-desc.desc;
      images = image_text c.in_ok-one.one ∷ image_text c.in_ok-two.two ∷ [];
      read = two_read old mid2 (g.F.Files.shelf c.read_image-2.new.files) (Some c.args.description.now) (Some c.in_ok-desc.desc)
          (from_file c.args.image.now) (from_file c.args.image2.now) (image_text c.in_ok-one.one) (image_text c.in_ok-two.two)
          r (contents_after old mid mid2 desc.stays one.stays) two.answer.0 two.bytes two.answer.1;
      asks = refl;
    }
