-- A word from its fields, form by form.
use Rattle.std.proofs.Common.{◌≡◌, ℕ, ◌+◌, ◌-◌, ◌*◌, ◌<◌, ◌^◌, ◌/◌, refl, ap, ◌∙◌, Bool, true, false, arith}
use Rattle.std.specs.Prelude.{nat_lt, if◌then◌else◌, pos, negsuc}
use Rattle.std.specs.Int.{w32}
use Rattle.std.proofs.lemmas.Int.{of_z-to_z}
use Rattle.rv_types.specs.Word.{field, word, word_add}
use Rattle.rv_types.specs.Decode.{imm_i, imm_s, imm_b, imm_u, imm_j}
use Rattle.rv_decode.specs.Forms.{r_form, i_form, s_form, b_form, u_form, j_form}

-- a word is its fields
pub six : (w : ℕ) → r_form (field w 0 7) (field w 7 5) (field w 12 3) (field w 15 5) (field w 20 5) (w / 2 ^ 25) ≡ w
six w =
    let a : w ≡ field w 0 7 + w / 2 ^ 7 * 2 ^ 7 = omega arith in
    let b : w / 2 ^ 7 ≡ field w 7 5 + w / 2 ^ 12 * 2 ^ 5 = omega arith in
    let c : w / 2 ^ 12 ≡ field w 12 3 + w / 2 ^ 15 * 2 ^ 3 = omega arith in
    let d : w / 2 ^ 15 ≡ field w 15 5 + w / 2 ^ 20 * 2 ^ 5 = omega arith in
    let e : w / 2 ^ 20 ≡ field w 20 5 + w / 2 ^ 25 * 2 ^ 5 = omega arith in
    omega arith

-- the word of a number of 12, 13 or 21 bits, sign-extended, has these bits lowest
by_sign_12 : (b : Bool) (n : ℕ) → nat_lt n 2048 ≡ b → n < 4096 → (m : ℕ) × (word (if b then pos n else negsuc (4095 - n)) ≡ n + m * 4096)
by_sign_12 true n e lt = (0, omega arith)
by_sign_12 false n e lt = (2 ^ 20 - 1, omega arith)

by_sign_13 : (b : Bool) (n : ℕ) → nat_lt n 4096 ≡ b → n < 8192 → (m : ℕ) × (word (if b then pos n else negsuc (8191 - n)) ≡ n + m * 8192)
by_sign_13 true n e lt = (0, omega arith)
by_sign_13 false n e lt = (2 ^ 19 - 1, omega arith)

by_sign_21 : (b : Bool) (n : ℕ) → nat_lt n 1048576 ≡ b → n < 2097152 → (m : ℕ) × (word (if b then pos n else negsuc (2097151 - n)) ≡ n + m * 2097152)
by_sign_21 true n e lt = (0, omega arith)
by_sign_21 false n e lt = (2 ^ 11 - 1, omega arith)

-- the parts of an immediate's word
i_part : (n m : ℕ) → n < 4096 → field (n + m * 4096) 0 12 ≡ n
i_part n m lt = omega arith

pub record SParts (a b x : ℕ) : Type 0 where
  pub low : field x 0 5 ≡ b
  pub high : field x 5 7 ≡ a

s_parts : (a b m x : ℕ) → a < 128 → b < 32 → x ≡ a * 32 + b + m * 4096 → SParts a b x
s_parts a b m x la lb e = record { low = omega arith; high = omega arith }

pub record BParts (a b c d x : ℕ) : Type 0 where
  pub bit_12 : field x 12 1 ≡ a
  pub bit_11 : field x 11 1 ≡ b
  pub high : field x 5 6 ≡ c
  pub low : field x 1 4 ≡ d

b_parts : (a b c d m x : ℕ) → a < 2 → b < 2 → c < 64 → d < 16 → x ≡ a * 4096 + b * 2048 + c * 32 + d * 2 + m * 8192 → BParts a b c d x
b_parts a b c d m x la lb lc ld e = record { bit_12 = omega arith; bit_11 = omega arith; high = omega arith; low = omega arith }

pub record JParts (a b c d x : ℕ) : Type 0 where
  pub bit_20 : field x 20 1 ≡ a
  pub high : field x 12 8 ≡ b
  pub bit_11 : field x 11 1 ≡ c
  pub low : field x 1 10 ≡ d

j_parts : (a b c d m x : ℕ) → a < 2 → b < 256 → c < 2 → d < 1024 → x ≡ a * 1048576 + b * 4096 + c * 2048 + d * 2 + m * 2097152 → JParts a b c d x
j_parts a b c d m x la lb lc ld e = record { bit_20 = omega arith; high = omega arith; bit_11 = omega arith; low = omega arith }

-- the fields of a word that immediates put together otherwise
b_low : (w : ℕ) → field w 7 1 + field w 8 4 * 2 ≡ field w 7 5
b_low w = omega arith

b_high : (w : ℕ) → field w 25 6 + field w 31 1 * 2 ^ 6 ≡ field w 25 7
b_high w = omega arith

u_sum : (w op : ℕ) → w < 2 ^ 32 → field w 0 7 ≡ op → op + field w 7 5 * 2 ^ 7 + field w 12 20 * 2 ^ 12 ≡ w
u_sum w op lt e =
    let a : w ≡ field w 0 7 + w / 2 ^ 7 * 2 ^ 7 = omega arith in
    let b : w / 2 ^ 7 ≡ field w 7 5 + w / 2 ^ 12 * 2 ^ 5 = omega arith in
    let c : w / 2 ^ 12 ≡ field w 12 20 = omega arith in
    omega arith

j_with : (imm a b c d op r : ℕ) → JParts a b c d imm → j_form op r imm ≡ op + r * 2 ^ 7 + b * 2 ^ 12 + c * 2 ^ 20 + d * 2 ^ 21 + a * 2 ^ 31
j_with imm a b c d op r parts =
    ap (λ v. op + r * 2 ^ 7 + v * 2 ^ 12 + field imm 11 1 * 2 ^ 20 + field imm 1 10 * 2 ^ 21 + field imm 20 1 * 2 ^ 31) parts.high
    ∙ ap (λ v. op + r * 2 ^ 7 + b * 2 ^ 12 + v * 2 ^ 20 + field imm 1 10 * 2 ^ 21 + field imm 20 1 * 2 ^ 31) parts.bit_11
    ∙ ap (λ v. op + r * 2 ^ 7 + b * 2 ^ 12 + c * 2 ^ 20 + v * 2 ^ 21 + field imm 20 1 * 2 ^ 31) parts.low
    ∙ ap (λ v. op + r * 2 ^ 7 + b * 2 ^ 12 + c * 2 ^ 20 + d * 2 ^ 21 + v * 2 ^ 31) parts.bit_20

j_sum : (w op : ℕ) → w < 2 ^ 32 → field w 0 7 ≡ op → op + field w 7 5 * 2 ^ 7 + field w 12 8 * 2 ^ 12 + field w 20 1 * 2 ^ 20 + field w 21 10 * 2 ^ 21 + field w 31 1 * 2 ^ 31 ≡ w
j_sum w op lt e =
    let a : w ≡ field w 0 7 + w / 2 ^ 7 * 2 ^ 7 = omega arith in
    let b : w / 2 ^ 7 ≡ field w 7 5 + w / 2 ^ 12 * 2 ^ 5 = omega arith in
    let c : w / 2 ^ 12 ≡ field w 12 8 + w / 2 ^ 20 * 2 ^ 8 = omega arith in
    let d : w / 2 ^ 20 ≡ field w 20 1 + w / 2 ^ 21 * 2 = omega arith in
    let f : w / 2 ^ 21 ≡ field w 21 10 + w / 2 ^ 31 * 2 ^ 10 = omega arith in
    let g : w / 2 ^ 31 ≡ field w 31 1 = omega arith in
    omega arith

-- the word again, from the fields and the immediate of its form
pub r_back : (w op f3 f7 : ℕ) → w < 2 ^ 32 → field w 0 7 ≡ op → field w 12 3 ≡ f3 → field w 25 7 ≡ f7 → r_form op (field w 7 5) f3 (field w 15 5) (field w 20 5) f7 ≡ w
r_back w op f3 f7 lt e e3 e7 =
    let top : w / 2 ^ 25 ≡ f7 = omega arith in
    let all = six w in
    omega arith

-- the form R but for its registers, with the part above bit 20
twelve : (w op f3 : ℕ) → field w 0 7 ≡ op → field w 12 3 ≡ f3 → op + field w 7 5 * 2 ^ 7 + f3 * 2 ^ 12 + field w 15 5 * 2 ^ 15 + w / 2 ^ 20 * 2 ^ 20 ≡ w
twelve w op f3 e e3 =
    let all = six w in
    let top : w / 2 ^ 20 ≡ field w 20 5 + w / 2 ^ 25 * 2 ^ 5 = omega arith in
    omega arith

pub i_back : (w op f3 : ℕ) → w < 2 ^ 32 → field w 0 7 ≡ op → field w 12 3 ≡ f3 → i_form op (field w 7 5) f3 (field w 15 5) (word (imm_i w)) ≡ w
i_back w op f3 lt e e3 =
    let few : field w 20 12 < 4096 = omega arith in
    let x = by_sign_12 (nat_lt (field w 20 12) 2048) (field w 20 12) refl few in
    let part : field (word (imm_i w)) 0 12 ≡ field w 20 12 = ap (λ v. field v 0 12) x.1 ∙ i_part (field w 20 12) x.0 few in
    let top : field w 20 12 ≡ w / 2 ^ 20 = omega arith in
    ap (λ v. op + field w 7 5 * 2 ^ 7 + f3 * 2 ^ 12 + field w 15 5 * 2 ^ 15 + v * 2 ^ 20) (part ∙ top) ∙ twelve w op f3 e e3

-- a shift by an immediate: funct7 is 0, or 32 for SRAI
pub shift_back : (w op f3 : ℕ) → w < 2 ^ 32 → field w 0 7 ≡ op → field w 12 3 ≡ f3 → field w 25 7 ≡ 0 → i_form op (field w 7 5) f3 (field w 15 5) (field w 20 5) ≡ w
shift_back w op f3 lt e e3 e7 =
    let top : field (field w 20 5) 0 12 ≡ w / 2 ^ 20 = omega arith in
    ap (λ v. op + field w 7 5 * 2 ^ 7 + f3 * 2 ^ 12 + field w 15 5 * 2 ^ 15 + v * 2 ^ 20) top ∙ twelve w op f3 e e3

pub sra_back : (w op f3 : ℕ) → w < 2 ^ 32 → field w 0 7 ≡ op → field w 12 3 ≡ f3 → field w 25 7 ≡ 32 → i_form op (field w 7 5) f3 (field w 15 5) (word_add (field w 20 5) (2 ^ 10)) ≡ w
sra_back w op f3 lt e e3 e7 =
    let top : field (word_add (field w 20 5) (2 ^ 10)) 0 12 ≡ w / 2 ^ 20 = omega arith in
    ap (λ v. op + field w 7 5 * 2 ^ 7 + f3 * 2 ^ 12 + field w 15 5 * 2 ^ 15 + v * 2 ^ 20) top ∙ twelve w op f3 e e3

pub s_back : (w op f3 : ℕ) → w < 2 ^ 32 → field w 0 7 ≡ op → field w 12 3 ≡ f3 → s_form op f3 (field w 15 5) (field w 20 5) (word (imm_s w)) ≡ w
s_back w op f3 lt e e3 =
    let n = field w 25 7 * 32 + field w 7 5 in
    let x = by_sign_12 (nat_lt n 2048) n refl (omega arith) in
    let parts = s_parts (field w 25 7) (field w 7 5) x.0 (word (imm_s w)) (omega arith) (omega arith) x.1 in
    ap (λ v. r_form op v f3 (field w 15 5) (field w 20 5) (field (word (imm_s w)) 5 7)) parts.low
    ∙ ap (λ v. r_form op (field w 7 5) f3 (field w 15 5) (field w 20 5) v) parts.high
    ∙ r_back w op f3 (field w 25 7) lt e e3 refl

pub b_back : (w op f3 : ℕ) → w < 2 ^ 32 → field w 0 7 ≡ op → field w 12 3 ≡ f3 → b_form op f3 (field w 15 5) (field w 20 5) (word (imm_b w)) ≡ w
b_back w op f3 lt e e3 =
    let n = field w 31 1 * 4096 + field w 7 1 * 2048 + field w 25 6 * 32 + field w 8 4 * 2 in
    let x = by_sign_13 (nat_lt n 4096) n refl (omega arith) in
    let parts = b_parts (field w 31 1) (field w 7 1) (field w 25 6) (field w 8 4) x.0 (word (imm_b w)) (omega arith) (omega arith) (omega arith) (omega arith) x.1 in
    let imm = word (imm_b w) in
    let low : field imm 11 1 + field imm 1 4 * 2 ≡ field w 7 5 =
    ap (λ v. v + field imm 1 4 * 2) parts.bit_11 ∙ ap (λ v. field w 7 1 + v * 2) parts.low ∙ b_low w in
    let high : field imm 5 6 + field imm 12 1 * 2 ^ 6 ≡ field w 25 7 =
    ap (λ v. v + field imm 12 1 * 2 ^ 6) parts.high ∙ ap (λ v. field w 25 6 + v * 2 ^ 6) parts.bit_12 ∙ b_high w in
    ap (λ v. r_form op v f3 (field w 15 5) (field w 20 5) (field imm 5 6 + field imm 12 1 * 2 ^ 6)) low
    ∙ ap (λ v. r_form op (field w 7 5) f3 (field w 15 5) (field w 20 5) v) high
    ∙ r_back w op f3 (field w 25 7) lt e e3 refl

pub u_back : (w op : ℕ) → w < 2 ^ 32 → field w 0 7 ≡ op → u_form op (field w 7 5) (word (imm_u w)) ≡ w
u_back w op lt e =
    let part : field (word (imm_u w)) 12 20 ≡ field w 12 20 = ap (λ v. field v 12 20) (of_z-to_z w32 (field w 12 20 * 2 ^ 12) (omega arith)) ∙ omega arith in
    ap (λ v. op + field w 7 5 * 2 ^ 7 + v * 2 ^ 12) part ∙ u_sum w op lt e

pub j_back : (w op : ℕ) → w < 2 ^ 32 → field w 0 7 ≡ op → j_form op (field w 7 5) (word (imm_j w)) ≡ w
j_back w op lt e =
    let a = field w 31 1 in
    let b = field w 12 8 in
    let c = field w 20 1 in
    let d = field w 21 10 in
    let n = a * 1048576 + b * 4096 + c * 2048 + d * 2 in
    let x = by_sign_21 (nat_lt n 1048576) n refl (omega arith) in
    let parts = j_parts a b c d x.0 (word (imm_j w)) (omega arith) (omega arith) (omega arith) (omega arith) x.1 in
    j_with (word (imm_j w)) a b c d op (field w 7 5) parts ∙ j_sum w op lt e
