use Rattle.std.proofs.Common.{sym, arith}
use Rattle.rv_decode.proofs.Rows.{decode_none, differ}
use Rattle.rv_decode.proofs.decoding.decode.Goals as goal

pub returns-in_default : goal.returns-in_default
returns-in_default c =
    sym (decode_none c.args.word c.field.result (sym c.field.ensures)
    (differ _ _ (omega arith)) (differ _ _ (omega arith)) (differ _ _ (omega arith)) (differ _ _ (omega arith))
    (differ _ _ (omega arith)) (differ _ _ (omega arith)) (differ _ _ (omega arith)) (differ _ _ (omega arith))
    (differ _ _ (omega arith)) (differ _ _ (omega arith)) (differ _ _ (omega arith)))
