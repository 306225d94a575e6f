use Rattle.std.proofs.Common.{sym, arith}
use Rattle.rv_decode.proofs.Rows.{decode_op_other_none, differ}
use Rattle.rv_decode.proofs.decoding.op_other.Goals as goal

pub returns-in_default : goal.returns-in_default
returns-in_default c =
    sym (decode_op_other_none c.args.word c.funct3.result c.requires.opcode (sym c.funct3.ensures) c.requires.funct7 (differ _ _ (omega arith)) (differ _ _ (omega arith)))
