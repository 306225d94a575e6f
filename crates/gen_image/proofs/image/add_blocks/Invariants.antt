use Rattle.std.proofs.Common.{◌≡◌, ◌++◌, ◌-◌}
use Rattle.gen_image.specs.Generated.{bytes_of, blocks_from}
use Rattle.gen_image.proofs.image.add_blocks.Given as goal

-- the bytes that are there and the blocks that are left make the whole
abbrev pub invariant-loop : goal.invariant-loop
invariant-loop l =
    l.file.items ++ bytes_of (blocks_from (l.blocks - l.counter) l.draws.state)
    ≡ l.initial.file.items ++ bytes_of (blocks_from l.blocks l.initial.draws.state)
