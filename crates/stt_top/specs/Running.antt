-- What the code holds of a run, and what of its text is written.
use Rattle.elf_loader.specs.Image.{ImageText}
use Rattle.machine_desc.specs.declared.Desc.{Desc}
use Rattle.window_model.specs.State.{Machine, opening}

-- the machine of a description where an image begins
abbrev pub opening_of : Desc → ImageText → Machine
opening_of d image = opening d image.entry image.ram
