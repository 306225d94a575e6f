use Rattle.std.proofs.Common.{◌++◌, take, ap, sym, ◌∙◌, arith}
use Rattle.std.proofs.lemmas.Fmt.{decimal_digit}
use Rattle.itoa.proofs.Decimal.{decimal_two, length_one, length_two}
use Rattle.line_text.proofs.draft.Draft.put_up_to_two.Goals as goal

pub put-requires : goal.put-requires
put-requires c = omega (arith, length_one c.args.n c.if-n-lt10.true, c.requires.room)

pub returns-then-n-lt10-clause-text : goal.returns-then-n-lt10-clause-text
returns-then-n-lt10-clause-text c = c.put.ensures.text ∙ ap (λ d. take c.args.at c.args.self.now ++ d) (sym (decimal_digit c.args.n c.if-n-lt10.true))

pub returns-then-n-lt10-clause-end : goal.returns-then-n-lt10-clause-end
returns-then-n-lt10-clause-end c = omega (arith, length_one c.args.n c.if-n-lt10.true, c.put.ensures.end)

pub put_pair-requires-clause-room : goal.put_pair-requires-clause-room
put_pair-requires-clause-room c = omega (arith, length_two c.args.n c.if-n-lt10.false c.requires.few, c.requires.room)

pub returns-clause-text : goal.returns-clause-text
returns-clause-text c = c.put_pair.ensures.text ∙ ap (λ d. take c.args.at c.args.self.now ++ d) (sym (decimal_two c.args.n c.if-n-lt10.false c.requires.few))

pub returns-clause-end : goal.returns-clause-end
returns-clause-end c = omega (arith, length_two c.args.n c.if-n-lt10.false c.requires.few, c.put_pair.ensures.end)
