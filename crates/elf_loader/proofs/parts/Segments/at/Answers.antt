use Rattle.std.proofs.Common.{◌≡◌, ◌<◌, sym, ap, ◌∙◌, arith}
use Rattle.elf_loader.specs.Fields.{count_of, program_header}
use Rattle.elf_loader.specs.declared.fields.ProgramHeader.{ProgramHeader}
use Rattle.elf_loader.proofs.Faultless.{header_inside, entry_inside, bytes_inside}
use Rattle.elf_loader.proofs.parts.Segments.at.Goals as goal

pub program_header-header-requires-clause-header : goal.program_header-header-requires-clause-header
program_header-header-requires-clause-header c = header_inside c.self.inside.file.now c.self.invariant

pub program_header-header-requires-clause-inside : goal.program_header-header-requires-clause-inside
program_header-header-requires-clause-inside c =
    let below : c.args.i < count_of c.self.inside.file.now = omega (arith, c.count.ensures.value, ap count_of c.self.view_is) in
    entry_inside c.self.inside.file.now c.args.i c.self.invariant below

pub part-requires : goal.part-requires
part-requires c =
    let file = c.self.inside.file.now in
    let below : c.args.i < count_of file = omega (arith, c.count.ensures.value, ap count_of c.self.view_is) in
    let e = c.program_header-header.ensures in
    let kind : (program_header file c.args.i).kind ≡ 1 = ap (λ (p : ProgramHeader). p.kind) (sym e) ∙ c.if-header-ne-LOAD.false in
    rw e (λ some. bytes_inside file c.args.i c.self.invariant below kind some)
