use Rattle.std.proofs.Common.{◌≡◌, refl, sym, ◌∙◌, arith}
use Rattle.rv_decode.proofs.Rows.{decode_row}
use Rattle.rv_decode.proofs.decoding.op_muldiv.Goals as goal

pub returns-in_default : goal.returns-in_default
returns-in_default c =
    let last : c.funct3.result ≡ 7 = omega arith in
    c.op_reg_with-in_default.ensures ∙ sym (decode_row _ 0b0110011 7 1 c.requires.opcode (sym c.funct3.ensures ∙ last) c.requires.funct7 refl)
