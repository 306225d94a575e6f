-- What the operations compute (RISC-V unprivileged manual, RV32I and M).
use Rattle.std.specs.Prelude.{ℕ, ◌+◌, ◌-◌, ◌*◌, ◌/◌, ◌%◌, ◌^◌, Bool, false, not, ◌==◌, nat_lt, if◌then◌else◌, pos, ◌*ℤ◌, int_lt, int_div, int_rem, bit_and, bit_or, bit_xor, unsigned_abs}
use Rattle.std.specs.Int.Signed.{shr_z}
use Rattle.std.specs.Int.Count.{count_leading_zeros}
use Rattle.rv_types.specs.Word.{word_add, word_sub, signed, word}
use Rattle.rv_types.specs.declared.Op.{Op}
use Rattle.rv_types.specs.declared.Width.{Width}
use Rattle.rv_types.specs.declared.Width.TheVariants.{B, H, W}
use Rattle.rv_types.specs.declared.Op.TheVariants.{Beq, Bne, Blt, Bge, Bltu, Bgeu, Lb, Lh, Lw, Lhu, Sh, Sw, Add, Sub, Sll, Slt, Sltu, Xor, Srl, Sra, Or, And, Mul, Mulh, Mulhsu, Mulhu, Div, Divu, Rem, Remu}

-- a test as a number
abbrev pub one_if : Bool → ℕ
one_if b = if b then 1 else 0

-- the result of an arithmetic operation on a and b: sums, differences and MUL modulo 2 ^ 32; shifts by the low five
-- bits of b; MULH, MULHSU and MULHU the high 32 bits of the product; division rounds towards zero, by 0 it gives
-- 2 ^ 32 - 1 (as a signed number -1) and as remainder the dividend, and -2 ^ 31 by -1 gives -2 ^ 31, remainder 0
abbrev pub value : Op → ℕ → ℕ → ℕ
value Add a b = word_add a b
value Sub a b = word_sub a b
value Sll a b = a * 2 ^ (b % 32) % 2 ^ 32
value Slt a b = one_if (int_lt (signed a) (signed b))
value Sltu a b = one_if (nat_lt a b)
value Xor a b = bit_xor a b
value Srl a b = a / 2 ^ (b % 32)
value Sra a b = word (shr_z (signed a) (2 ^ (b % 32)))
value Or a b = bit_or a b
value And a b = bit_and a b
value Mul a b = a * b % 2 ^ 32
value Mulh a b = word (shr_z (signed a *ℤ signed b) (2 ^ 32))
value Mulhsu a b = word (shr_z (signed a *ℤ pos b) (2 ^ 32))
value Mulhu a b = a * b / 2 ^ 32
value Div a b = if b == 0 then 2 ^ 32 - 1 else word (int_div (signed a) (signed b))
value Divu a b = if b == 0 then 2 ^ 32 - 1 else a / b
value Rem a b = if b == 0 then a else word (int_rem (signed a) (signed b))
value Remu a b = if b == 0 then a else a % b
value _ a b = 0

-- whether a branch is taken
abbrev pub taken : Op → ℕ → ℕ → Bool
taken Beq a b = a == b
taken Bne a b = not (a == b)
taken Blt a b = int_lt (signed a) (signed b)
taken Bge a b = not (int_lt (signed a) (signed b))
taken Bltu a b = nat_lt a b
taken Bgeu a b = not (nat_lt a b)
taken _ a b = false

-- the magnitude of a division's dividend, which is signed for DIV and REM
abbrev pub magnitude : Op → ℕ → ℕ
magnitude Div a = unsigned_abs (signed a)
magnitude Rem a = unsigned_abs (signed a)
magnitude _ a = a

-- the time of a division in cycles: 3, and one for each binary digit of the dividend's magnitude (0 has none)
abbrev pub div_time : Op → ℕ → ℕ
div_time op a = 3 + (32 - count_leading_zeros 32 (magnitude op a))

-- how many bytes an access has
abbrev pub bytes_in : Width → ℕ
bytes_in B = 1
bytes_in H = 2
bytes_in W = 4

-- how many bytes a load or store moves
abbrev pub size_of : Op → ℕ
size_of Lw = 4
size_of Sw = 4
size_of Lh = 2
size_of Lhu = 2
size_of Sh = 2
size_of _ = 1

-- what a load makes of the number of its bytes: LB and LH sign-extend, the others zero-extend
abbrev pub extend : Op → ℕ → ℕ
extend Lb v = if nat_lt v 128 then v else v + (2 ^ 32 - 256)
extend Lh v = if nat_lt v 32768 then v else v + (2 ^ 32 - 65536)
extend _ v = v
