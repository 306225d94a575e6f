use Rattle.std.proofs.Common.{◌≡◌, ◌<◌, ◌-◌, ◌+◌, ◌*◌, ◌/◌, ℕ, List, Some, length, set, ap, refl, sym, ◌∙◌, arith, vec_len}
use Rattle.std.specs.Prelude.{slice_range}
use Rattle.rv_types.specs.Word.{from_le}
use Rattle.elf_loader.specs.Fields.{word}
use Rattle.elf_loader.specs.inner.Image.{segment_text}
use Rattle.elf_loader.proofs.Placing.{GoesOn, goes_on, words_step}
use Rattle.elf_loader.proofs.loading.fill_words.Goals as goal

-- the definition's word is the number of four bytes
word_there : (bytes : List ℕ) (at : ℕ) → from_le (slice_range bytes at (at + 4)) ≡ word bytes at
unfolding word
word_there bytes at = refl

pub loop-place-preserved : goal.loop-place-preserved
loop-place-preserved c =
    let s = segment_text c.args.segment.now in
    let ram = c.args.ram.now in
    let at = c.loop-place.place in
    let i = c.loop-place.invariant in
    let n = c.next-place-in-loop-place in
    let on : GoesOn at n.result c.take.new.self n.new.self = goes_on at n.result _ _ n.ensures.from n.ensures.within n.ensures.left n.ensures.same in
    let room : length c.loop-place.left ≡ length c.args.left.now = i.0.room in
    let items : length c.args.words.now.items ≡ vec_len c.args.words.now = omega (arith, c.args.words.now.ok.0) in
    let below : at < (s.vaddr - ram.base + length s.bytes) / 4 = omega (arith, c.loop-place-test.true, c.base.ensures.value) in
    let inside : at < length c.args.left.now =
    omega (arith, c.requires.room, c.requires.size, c.requires.whole, c.requires.inside.high, c.requires.inside.low, c.requires.inside.bytes) in
    let word_is : c.word_at.result ≡ word ram.bytes (4 * at) = c.word_at.ensures ∙ word_there _ _ ∙ ap (λ (v : List ℕ). word v (4 * at)) c.bytes.ensures in (
      words_step s at n.result ram c.args.words.now.items c.loop-place.words.items _ c.args.left.now c.loop-place.left c.take.new.self n.new.self i.0
          inside (c.requires.room ∙ sym items) c.requires.inside.low c.requires.executable i.3 below (i.1 (omega arith))
          (ap (λ (w : ℕ). set c.loop-place.words.items at (Some w)) word_is) c.take.ensures n.ensures.same n.ensures.from n.ensures.taken,
      on.here,
      on.within,
      omega (arith, i.3, on.up),
    )
