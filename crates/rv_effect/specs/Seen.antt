-- The effect that a program computes, as the definitions have it.
use Rattle.rv_types.specs.Isa as isa
use Rattle.rv_effect.specs.declared.fields.Effect.{Effect}

-- an effect as the instruction set's definition has it, field by field
abbrev pub isa_effect : Effect → isa.Effect
isa_effect f = record { value = f.value; next = f.next; addr = f.addr; stored = f.stored; misaligned = f.misaligned }
