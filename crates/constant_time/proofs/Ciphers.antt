-- One run of the instruction set with one key, and what it tells of every key on every core.
use Rattle.std.proofs.Common.{◌≡◌, false, refl}
use Rattle.std.specs.Int.Count.{count_leading_zeros}
use Rattle.rv_types.specs.Decode.{decode}
use Rattle.rv_types.specs.Isa.{isa_step, start}
use Rattle.rv_types.specs.Path.{pass_step}
use Rattle.window_model.proofs.Worked.{aligned_words, code_of}
use Rattle.secret_marks.specs.Cipher.{cipher, memory_with_key, no_key, the_key}
use Rattle.secret_marks.proofs.EveryKey.{agree_but}
use Rattle.secret_marks.specs.Published.{no_stream}
use Rattle.constant_time.specs.PathMarks.{first_marks, path_shows}
use Rattle.constant_time.specs.Worked.{CipherEnds, CipherOnEveryCore, TableShows}
use Rattle.constant_time.proofs.BothModels.{every_core_of_both}
use Rattle.constant_time.proofs.PathMarks.{nothing_published}

ends : CipherEnds
unfolding decode pass_step count_leading_zeros memory_with_key code_of
ends = refl

hides : path_shows no_stream pass_step (code_of cipher) 60 (start 0x10000 (memory_with_key no_key)) (first_marks the_key (memory_with_key no_key)) ≡ false
unfolding decode pass_step count_leading_zeros memory_with_key code_of
hides = refl

-- the cipher has one trace for all keys on every core that protects with the defence `delay`
pub cipher_on_every_core : CipherOnEveryCore
cipher_on_every_core d n protected delayed key l b =
    every_core_of_both no_stream (code_of cipher) 0x10000 the_key (memory_with_key no_key) (memory_with_key key) 60 (aligned_words cipher) (agree_but key l b) ends hides
    (nothing_published pass_step (code_of cipher) 60 0x10000 (memory_with_key no_key) (memory_with_key key)) d n protected delayed

-- a look-up by a byte of the key shows in the fourth step
pub table_shows : TableShows
unfolding decode isa_step count_leading_zeros memory_with_key code_of
table_shows = refl
