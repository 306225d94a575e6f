use Rattle.gen_image.proofs.Words.{beginning_has_words, ending_has_words}
use Rattle.gen_image.proofs.image.generate.Goals as goal

pub add_instrs-requires : goal.add_instrs-requires
add_instrs-requires c = beginning_has_words _ c.beginning.ensures

pub add_instrs-requires-2 : goal.add_instrs-requires-2
add_instrs-requires-2 c = ending_has_words c.args.blocks _ c.requires.few c.ending.ensures
