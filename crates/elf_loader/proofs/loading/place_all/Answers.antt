use Rattle.std.proofs.Common.{◌≡◌, ◌+◌, ◌-◌, ◌<◌, ℕ, subst, arith}
use Rattle.elf_loader.specs.Fields.{count_of}
use Rattle.elf_loader.proofs.Loads.{loads_from, inside_of}
use Rattle.elf_loader.proofs.Placed.{Placed, placed_next, placed_end, inside_still}
use Rattle.elf_loader.proofs.loading.place_all.Goals as goal

pub place_segment-requires-clause-inside : goal.place_segment-requires-clause-inside
place_segment-requires-clause-inside c =
    let file = c.args.segments.now in
    inside_still _ c.args.ram.now c.loop-i.ram c.loop-i.left _ c.loop-i.invariant (inside_of file c.args.ram.now (c.loop-i.i - 1) c.count-i.ensures.faultless c.requires.inside)

pub loop-i-preserved : goal.loop-i-preserved
loop-i-preserved c =
    let file = c.args.segments.now in
    let i = c.loop-i.i - 1 in
    let below : i < count_of file = omega (arith, c.loop-i-test.true, c.count-i.ensures.value, c.loop-i.auto.i) in
    let next : c.loop-i.i ≡ i + 1 = omega (arith, c.loop-i-test.true) in
    let P : ℕ → Type 0 = λ n. Placed (loads_from file n) c.args.ram.now c.loop-i.ram c.loop-i.left in
    placed_next file i c.args.ram.now c.loop-i.ram c.place_segment.new.ram c.loop-i.left c.place_segment.new.left below (subst P next c.loop-i.invariant) c.place_segment.ensures

pub returns : goal.returns
returns c =
    let file = c.args.segments.now in
    let zero : c.loop-i.i ≡ 0 = omega (arith, c.loop-i-test.false) in
    let P : ℕ → Type 0 = λ n. Placed (loads_from file n) c.args.ram.now c.loop-i.ram c.loop-i.left in
    placed_end file c.args.ram.now c.loop-i.ram c.loop-i.left (subst P zero c.loop-i.invariant)
