-- What is loaded is the file's image, and what is refused is its first fault.
use Rattle.std.proofs.Common.{refl}
use Rattle.elf_loader.proofs.Images.{image_headers}
use Rattle.run_inputs.proofs.Images.{load_refused, loads}
use Rattle.run_inputs.proofs.sources.image_in.Goals as goal

pub returns-in-Err : goal.returns-in-Err
returns-in-Err c = (refl, image_headers _ _ _ _ _ c.in-Err.ensures)

pub returns-in-Ok-load : goal.returns-in-Ok-load
returns-in-Ok-load c =
    loads _ _ _ _ _ _ _ c.in-Ok.ensures.0 c.in-Ok.ensures.1 c.in-Ok-new.ensures (c.in-Ok-load.ensures.fits refl)
    c.in-Ok-load.ensures.memory c.in-Ok-load.ensures.entry c.in-Ok-load.ensures.code

pub returns-in-Err-load : goal.returns-in-Err-load
returns-in-Err-load c =
    rw c.refusal_of.ensures (load_refused _ _ _ _ _ _ _ _ c.in-Ok.ensures.0 c.in-Ok.ensures.1 c.in-Ok-new.ensures c.in-Err-load.ensures.err)
