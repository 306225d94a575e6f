-- An image lies in the memory of its description.
use Rattle.run_inputs.specs.Input.{base_of, size_of, misaligned_of}
use Rattle.run_inputs.specs.inner.Input.{LoadRefused}
use Rattle.run_inputs.proofs.Images.{loaded_base, loaded_size}
use Rattle.run_inputs.proofs.sources.read_image.Goals as goal

pub returns-clause-base : goal.returns-clause-base
returns-clause-base g c =
    let base = base_of c.args.desc in
    let size = size_of c.args.desc in
    let misaligned = misaligned_of c.args.desc in
    loaded_base c.as_slice.result.now base size misaligned c.load_image.result (λ e. LoadRefused c.args.which c.as_slice.result.now base size misaligned e) c.load_image.ensures.loads

pub returns-clause-size : goal.returns-clause-size
returns-clause-size g c =
    let base = base_of c.args.desc in
    let size = size_of c.args.desc in
    let misaligned = misaligned_of c.args.desc in
    loaded_size c.as_slice.result.now base size misaligned c.load_image.result (λ e. LoadRefused c.args.which c.as_slice.result.now base size misaligned e) c.load_image.ensures.loads
