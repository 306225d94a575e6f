use Rattle.std.proofs.Common.{arith}
use Rattle.elf_loader.proofs.Loads.{inside_of}
use Rattle.elf_loader.proofs.PartLoaded.{all_inside}
use Rattle.elf_loader.proofs.span.span_of.Goals as goal

pub with_segment-span-requires-clause-inside : goal.with_segment-span-requires-clause-inside
with_segment-span-requires-clause-inside c = inside_of c.args.segments.now c.args.ram.now c.loop-i.i c.count-i-end.ensures.faultless c.requires

pub returns-clause-all : goal.returns-clause-all
returns-clause-all c =
    let e = c.at_least_a_row.ensures in
    all_inside c.args.segments.now c.args.ram.now.base c.loop-i.span.from c.loop-i.span.to c.at_least_a_row.result.from c.at_least_a_row.result.to c.count-i-end.ensures.faultless
    (λ i l. c.loop-i.invariant.1 i (omega (arith, l, c.loop-i-test.false, c.count-i-end.ensures.value))) e.from e.to (omega (arith, e.some))
