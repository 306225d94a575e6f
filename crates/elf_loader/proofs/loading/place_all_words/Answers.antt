use Rattle.std.proofs.Common.{◌≡◌, ◌+◌, ◌-◌, ◌<◌, ℕ, subst, arith}
use Rattle.elf_loader.specs.Fields.{count_of}
use Rattle.elf_loader.proofs.Loads.{loads_from, inside_of}
use Rattle.elf_loader.proofs.Marked.{Marked, marked_first, marked_next, marked_end}
use Rattle.elf_loader.proofs.loading.place_all_words.Goals as goal

pub place_words-requires-clause-inside : goal.place_words-requires-clause-inside
place_words-requires-clause-inside c = inside_of c.args.segments.now c.args.ram.now (c.loop-number.number - 1) c.count-number.ensures.faultless c.requires.inside

pub loop-number-init : goal.loop-number-init
loop-number-init c = marked_first c.args.segments.now c.count-number.result c.args.ram.now c.args.words.now.items c.args.left.now c.count-number.ensures.value c.requires.words c.requires.left

pub loop-number-preserved : goal.loop-number-preserved
loop-number-preserved c =
    let file = c.args.segments.now in
    let ram = c.args.ram.now in
    let i = c.loop-number.number - 1 in
    let below : i < count_of file = omega (arith, c.loop-number-test.true, c.count-number.ensures.value, c.loop-number.auto.number) in
    let next : c.loop-number.number ≡ i + 1 = omega (arith, c.loop-number-test.true) in
    let P : ℕ → Type 0 = λ n. Marked (loads_from file n) ram c.loop-number.words.items c.loop-number.left in
    marked_next file i ram c.loop-number.words.items c.place_words.new.words.items c.loop-number.left c.place_words.new.left below (subst P next c.loop-number.invariant) c.place_words.ensures

pub returns-clause-code : goal.returns-clause-code
returns-clause-code c =
    let file = c.args.segments.now in
    let ram = c.args.ram.now in
    let zero : c.loop-number.number ≡ 0 = omega (arith, c.loop-number-test.false) in
    let P : ℕ → Type 0 = λ n. Marked (loads_from file n) ram c.loop-number.words.items c.loop-number.left in
    marked_end file ram c.loop-number.words.items c.loop-number.left c.count-number.ensures.faultless c.requires.inside c.requires.aligned c.requires.whole (subst P zero c.loop-number.invariant)
