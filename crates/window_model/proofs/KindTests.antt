-- Tests of kinds, by instructions whose kind isn't known without their operands.
use Rattle.std.proofs.Common.{◌≡◌, Bool, true, false, refl}
use Rattle.std.specs.Prelude.{if◌then◌else◌}
use Rattle.rv_types.specs.Kind.{op_kind}
use Rattle.rv_types.specs.declared.Cause.{Cause}
use Rattle.rv_types.specs.declared.Kind.{Kind}
use Rattle.rv_types.specs.declared.Kind.TheVariants.{Alu, Mul, Div, Store, Jal, Stop}
use Rattle.rv_types.specs.declared.Op.{Op}
use Rattle.rv_types.specs.declared.Op.TheVariants as op
use Rattle.window_model.specs.Order.{is_store}

-- a test that neither a JAL nor a stop meets isn't met where a JAL may jump, nor where it may not
pub jal_kind : (f : Kind → Bool) (b : Bool) (c : Cause) → f Jal ≡ false → f (Stop c) ≡ false → f (if b then Jal else Stop c) ≡ false
jal_kind f true c j t = j
jal_kind f false c j t = t

-- a test that no arithmetic meets isn't met by any operation on two registers
pub op_is : (f : Kind → Bool) (o : Op) → f Mul ≡ false → f Div ≡ false → f Alu ≡ false → f (op_kind o) ≡ false
op_is f op.Mul m d a = m
op_is f op.Mulh m d a = m
op_is f op.Mulhsu m d a = m
op_is f op.Mulhu m d a = m
op_is f op.Div m d a = d
op_is f op.Divu m d a = d
op_is f op.Rem m d a = d
op_is f op.Remu m d a = d
op_is f _ m d a = a

-- a kind that is a store's is this one
pub store_kind : (k : Kind) → is_store k ≡ true → k ≡ Store
store_kind Store h = refl
store_kind _ h = absurd (cc)
