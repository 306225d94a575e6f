use Rattle.elf_loader.proofs.Faultless.{header_inside}
use Rattle.elf_loader.proofs.parts.Segments.count.Goals as goal

pub header_of-requires : goal.header_of-requires
header_of-requires c = header_inside c.self.inside.file.now c.self.invariant
