use Rattle.secret_words.proofs.Reading.{number_read, number_not_read}
use Rattle.secret_words.proofs.ranges.number_of.Goals as goal

pub returns-in-Ok : goal.returns-in-Ok
returns-in-Ok c = number_read _ _ c.from_str_radix.result _ c.from_str_radix.ensures.value c.in-Ok.is

pub returns-in-Err : goal.returns-in-Err
returns-in-Err c = number_not_read _ _ c.from_str_radix.result _ c.from_str_radix.ensures.value c.in-Err.is
