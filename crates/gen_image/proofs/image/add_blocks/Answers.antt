use Rattle.std.proofs.Common.{◌++◌, ◌∙◌, ap, arith}
use Rattle.gen_image.proofs.Words.{block_has_words}
use Rattle.gen_image.proofs.Concat.{one_more, all_there}
use Rattle.gen_image.specs.Generated.{bytes_of}
use Rattle.gen_image.proofs.image.add_blocks.Goals as goal

pub add_instrs-requires : goal.add_instrs-requires
add_instrs-requires c = block_has_words c.loop.draws.state _ c.block.ensures.instrs

pub loop-preserved : goal.loop-preserved
loop-preserved c =
    let there = c.in_ok-add_instrs.ensures ∙ ap (λ is. c.loop.file.items ++ bytes_of is) c.block.ensures.instrs in
    let s = c.block.ensures.state in
    let more = one_more c.loop.file.items c.add_instrs.new.file.items _ c.args.blocks c.loop.counter c.loop.draws.state c.loop-test.true there c.loop.invariant in
    rw s more

pub returns : goal.returns
returns c = all_there c.loop.file.items _ c.args.blocks c.loop.counter c.loop.draws.state (omega (arith, c.loop-test.false)) c.loop.invariant
