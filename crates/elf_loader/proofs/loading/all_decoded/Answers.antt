use Rattle.std.proofs.Common.{refl}
use Rattle.elf_loader.proofs.Decoding.{decoded_more}
use Rattle.elf_loader.proofs.loading.all_decoded.Goals as goal

pub loop-word-preserved : goal.loop-word-preserved
loop-word-preserved c =
    decoded_more c.args.words.now c.loop-word.word-index _ c.loop-word.decoded.items c.push.new.self.items c.decoded_word.result
    c.loop-word-test.true refl c.loop-word.invariant c.decoded_word.ensures c.in_ok-push.ensures.items
