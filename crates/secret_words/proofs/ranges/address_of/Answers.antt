use Rattle.std.proofs.Common.{Some, None, codes}
use Rattle.secret_words.proofs.Reading.{stripped, address_hexadecimal, address_decimal}
use Rattle.secret_words.proofs.ranges.address_of.Goals as goal

pub returns-in-Some : goal.returns-in-Some
returns-in-Some c = let cut = stripped (codes "0x") c.args.text.now (Some c.in-Some.digits) c.in-Some.ensures.cases in address_hexadecimal _ _ _ cut.0 cut.1 c.number_of.ensures

pub returns-in-None : goal.returns-in-None
returns-in-None c = address_decimal _ _ (stripped (codes "0x") c.args.text.now None c.in-None.ensures.cases) c.number_of-in-None.ensures
