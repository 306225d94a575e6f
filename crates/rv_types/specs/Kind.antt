-- The kinds of instructions, as the pipeline tells them apart (docs/machine.md, "Kinds").
use Rattle.std.specs.Prelude.{◌%◌, ◌==◌, if◌then◌else◌}
use Rattle.rv_types.specs.Word.{word}
use Rattle.rv_types.specs.Causes.{jump_misaligned, illegal, breakpoint}
use Rattle.rv_types.specs.declared.Instr.{Instr}
use Rattle.rv_types.specs.declared.Instr.TheVariants as instr
use Rattle.rv_types.specs.declared.Op.{Op}
use Rattle.rv_types.specs.declared.Op.TheVariants as op
use Rattle.rv_types.specs.declared.Kind.{Kind}
use Rattle.rv_types.specs.declared.Kind.TheVariants.{Alu, Mul, Div, Load, Store, Branch, Jalr, Jal, Call, Stop}

-- multiply and divide forms have units of their own
abbrev pub op_kind : Op → Kind
op_kind op.Mul = Mul
op_kind op.Mulh = Mul
op_kind op.Mulhsu = Mul
op_kind op.Mulhu = Mul
op_kind op.Div = Div
op_kind op.Divu = Div
op_kind op.Rem = Div
op_kind op.Remu = Div
op_kind _ = Alu

-- a JAL whose target is no multiple of 4 can only trap
abbrev pub kind_of : Instr → Kind
kind_of (instr.Jal rd imm) = if word imm % 4 == 0 then Jal else Stop jump_misaligned
kind_of (instr.Jalr rd rs1 imm) = Jalr
kind_of (instr.Branch op rs1 rs2 imm) = Branch
kind_of (instr.Load op rd rs1 imm) = Load
kind_of (instr.Store op rs1 rs2 imm) = Store
kind_of (instr.OpReg op rd rs1 rs2) = op_kind op
kind_of instr.Ecall = Call
kind_of instr.Ebreak = Stop breakpoint
kind_of (instr.Illegal w) = Stop illegal
kind_of _ = Alu
