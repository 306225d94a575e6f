-- Small programs that load a secret byte, at 0x1fff8: 8(x2), since x2 begins at 0x1fff0. Where a program exits it ends
-- with addi x10,x0,0; addi x17,x0,93; ecall
use Rattle.std.specs.Prelude.{ℕ, List, [], ◌∷◌}

-- a look-up by the secret: lbu x7,8(x2); add x7,x7,x2; lbu x8,-256(x7); exit
abbrev pub lookup : List ℕ
lookup = 0x00814383 ∷ 0x002383b3 ∷ 0xf003c403 ∷ 0x00000513 ∷ 0x05d00893 ∷ 0x00000073 ∷ []

-- one of two public words by a mask made of the secret's lowest bit: lbu x6,8(x2); andi x6,x6,1; sub x6,x0,x6; lw
-- x7,0(x2); lw x8,4(x2); xor x9,x7,x8; and x9,x9,x6; xor x7,x7,x9; sw x7,4(x2); exit
abbrev pub select : List ℕ
select =
    0x00814303 ∷ 0x00137313 ∷ 0x40600333 ∷ 0x00012383 ∷ 0x00412403 ∷ 0x0083c4b3 ∷ 0x0064f4b3 ∷ 0x0093c3b3 ∷ 0x00712223 ∷
    0x00000513 ∷ 0x05d00893 ∷ 0x00000073 ∷ []

-- behind a slow division the secret is stored, loaded back from the store in flight, and looked up by: div x9,x2,x2;
-- lbu x6,8(x2); sb x6,4(x2); lbu x7,4(x2); add x7,x7,x2; lbu x8,-256(x7); exit
abbrev pub forwarded : List ℕ
forwarded = 0x022144b3 ∷ 0x00814303 ∷ 0x00610223 ∷ 0x00414383 ∷ 0x002383b3 ∷ 0xf003c403 ∷ 0x00000513 ∷ 0x05d00893 ∷ 0x00000073 ∷ []

-- the secret is stored, and once memory has it loaded by a pointer that a division makes: lbu x6,8(x2); sb x6,4(x2);
-- addi x9,x0,1; div x5,x2,x9; lbu x7,4(x5); add x7,x7,x2; lbu x8,-256(x7); exit
abbrev pub stored : List ℕ
stored =
    0x00814303 ∷ 0x00610223 ∷ 0x00100493 ∷ 0x029142b3 ∷ 0x0042c383 ∷ 0x002383b3 ∷ 0xf003c403 ∷ 0x00000513 ∷ 0x05d00893 ∷
    0x00000073 ∷ []

-- behind a slow division the secret is byte 2 of a word in flight to memory, and its upper half is looked up by: div
-- x9,x2,x2; lbu x6,8(x2); slli x6,x6,16; sw x6,4(x2); lhu x7,6(x2); add x7,x7,x2; lbu x8,-256(x7); exit
abbrev pub upper_half : List ℕ
upper_half =
    0x022144b3 ∷ 0x00814303 ∷ 0x01031313 ∷ 0x00612223 ∷ 0x00615383 ∷ 0x002383b3 ∷ 0xf003c403 ∷ 0x00000513 ∷ 0x05d00893 ∷
    0x00000073 ∷ []

-- the lower half is looked up by of a word whose byte 2 is the secret: div x9,x2,x2; lbu x6,8(x2); slli x6,x6,16; sw
-- x6,4(x2); lhu x7,4(x2); add x7,x7,x2; lbu x8,-256(x7); exit
abbrev pub lower_half : List ℕ
lower_half =
    0x022144b3 ∷ 0x00814303 ∷ 0x01031313 ∷ 0x00612223 ∷ 0x00415383 ∷ 0x002383b3 ∷ 0xf003c403 ∷ 0x00000513 ∷ 0x05d00893 ∷
    0x00000073 ∷ []

-- the secret is the upper byte of a half word that is stored, and looked up by once memory has it: lbu x6,8(x2); slli
-- x6,x6,8; sh x6,4(x2); addi x9,x0,1; div x5,x2,x9; lbu x7,5(x5); add x7,x7,x2; lbu x8,-256(x7); exit
abbrev pub half_stored : List ℕ
half_stored =
    0x00814303 ∷ 0x00831313 ∷ 0x00611223 ∷ 0x00100493 ∷ 0x029142b3 ∷ 0x0052c383 ∷ 0x002383b3 ∷ 0xf003c403 ∷ 0x00000513 ∷
    0x05d00893 ∷ 0x00000073 ∷ []

-- the secret is in flight, behind a slow division, as a branch that was wrongly predicted drops what is younger: div
-- x9,x2,x2; lbu x7,8(x2); lw x5,0(x2); beq x5,x0,+8; addi x7,x0,0; add x7,x7,x2; lbu x8,-256(x7); exit
abbrev pub squashed : List ℕ
squashed =
    0x022144b3 ∷ 0x00814383 ∷ 0x00012283 ∷ 0x00028463 ∷ 0x00000393 ∷ 0x002383b3 ∷ 0xf003c403 ∷ 0x00000513 ∷ 0x05d00893 ∷
    0x00000073 ∷ []

-- the secret is looked up by behind a call of an unknown number: lbu x7,8(x2); addi x17,x0,1; ecall; add x7,x7,x2; lbu
-- x8,-256(x7); exit
abbrev pub called : List ℕ
called = 0x00814383 ∷ 0x00100893 ∷ 0x00000073 ∷ 0x002383b3 ∷ 0xf003c403 ∷ 0x00000513 ∷ 0x05d00893 ∷ 0x00000073 ∷ []

-- a call of an unknown number answers in a0, where the secret was, and its answer is looked up by: lbu x10,8(x2); addi
-- x17,x0,1; ecall; addi x7,x10,64; add x7,x7,x2; lbu x8,-256(x7); exit
abbrev pub answered : List ℕ
answered = 0x00814503 ∷ 0x00100893 ∷ 0x00000073 ∷ 0x04050393 ∷ 0x002383b3 ∷ 0xf003c403 ∷ 0x00000513 ∷ 0x05d00893 ∷ 0x00000073 ∷ []

-- the secret is the second source of a difference that is looked up by: lbu x6,8(x2); sub x7,x0,x6; add x7,x7,x2; lbu
-- x8,-256(x7); exit
abbrev pub second : List ℕ
second = 0x00814303 ∷ 0x406003b3 ∷ 0x002383b3 ∷ 0xf003c403 ∷ 0x00000513 ∷ 0x05d00893 ∷ 0x00000073 ∷ []

-- a store at an address made of the secret: lbu x7,8(x2); add x7,x7,x2; sb x0,-256(x7); exit
abbrev pub address : List ℕ
address = 0x00814383 ∷ 0x002383b3 ∷ 0xf0038023 ∷ 0x00000513 ∷ 0x05d00893 ∷ 0x00000073 ∷ []

-- a signed byte is loaded, and a copy of its sign is looked up by: lb x6,8(x2); srli x6,x6,24; andi x7,x6,16; add
-- x7,x7,x2; lbu x8,-256(x7); exit
abbrev pub sign : List ℕ
sign = 0x00810303 ∷ 0x01835313 ∷ 0x01037393 ∷ 0x002383b3 ∷ 0xf003c403 ∷ 0x00000513 ∷ 0x05d00893 ∷ 0x00000073 ∷ []

-- a sum is looked up by above the secret byte, which carries: lbu x6,8(x2); addi x6,x6,250; srli x7,x6,8; add x7,x7,x2;
-- lbu x8,-256(x7); exit
abbrev pub carry : List ℕ
carry = 0x00814303 ∷ 0x0fa30313 ∷ 0x00835393 ∷ 0x002383b3 ∷ 0xf003c403 ∷ 0x00000513 ∷ 0x05d00893 ∷ 0x00000073 ∷ []

-- a word is loaded of which the secret is the lowest byte, and its other bytes are looked up by: lw x6,8(x2); srli
-- x7,x6,8; add x7,x7,x2; lbu x8,-256(x7); exit
abbrev pub public_byte : List ℕ
public_byte = 0x00812303 ∷ 0x00835393 ∷ 0x002383b3 ∷ 0xf003c403 ∷ 0x00000513 ∷ 0x05d00893 ∷ 0x00000073 ∷ []

-- the secret is the lowest byte of a word and masked off, and the others are looked up by: lw x6,8(x2); andi
-- x7,x6,-256; add x7,x7,x2; lbu x8,-256(x7); exit
abbrev pub masked : List ℕ
masked = 0x00812303 ∷ 0xf0037393 ∷ 0x002383b3 ∷ 0xf003c403 ∷ 0x00000513 ∷ 0x05d00893 ∷ 0x00000073 ∷ []

-- a sum is looked up by below its secret byte: lbu x6,8(x2); slli x6,x6,16; addi x6,x6,5; andi x7,x6,255; add x7,x7,x2;
-- lbu x8,-256(x7); exit
abbrev pub carried : List ℕ
carried = 0x00814303 ∷ 0x01031313 ∷ 0x00530313 ∷ 0x0ff37393 ∷ 0x002383b3 ∷ 0xf003c403 ∷ 0x00000513 ∷ 0x05d00893 ∷ 0x00000073 ∷ []

-- what the secret and itself make is looked up by: lbu x6,8(x2); xor x7,x6,x6; add x7,x7,x2; lbu x8,-256(x7); exit
abbrev pub zeroed : List ℕ
zeroed = 0x00814303 ∷ 0x006343b3 ∷ 0x002383b3 ∷ 0xf003c403 ∷ 0x00000513 ∷ 0x05d00893 ∷ 0x00000073 ∷ []

-- a difference of the secret and itself: lbu x6,8(x2); sub x7,x6,x6; add x7,x7,x2; lbu x8,-256(x7); exit
abbrev pub subtracted_from_itself : List ℕ
subtracted_from_itself = 0x00814303 ∷ 0x406303b3 ∷ 0x002383b3 ∷ 0xf003c403 ∷ 0x00000513 ∷ 0x05d00893 ∷ 0x00000073 ∷ []

-- the secret times register 0 is looked up by: lbu x6,8(x2); mul x7,x6,x0; add x7,x7,x2; lbu x8,-256(x7); exit
abbrev pub times_zero : List ℕ
times_zero = 0x00814303 ∷ 0x020303b3 ∷ 0x002383b3 ∷ 0xf003c403 ∷ 0x00000513 ∷ 0x05d00893 ∷ 0x00000073 ∷ []

-- register 0 before the secret, and what its AND and its product with it make is looked up by: lbu x6,8(x2); and
-- x7,x0,x6; mul x8,x0,x6; or x7,x7,x8; add x7,x7,x2; lbu x8,-256(x7); exit
abbrev pub zero_first : List ℕ
zero_first =
    0x00814303 ∷ 0x006073b3 ∷ 0x02600433 ∷ 0x0083e3b3 ∷ 0x002383b3 ∷ 0xf003c403 ∷ 0x00000513 ∷ 0x05d00893 ∷ 0x00000073 ∷
    []

-- of every operation that keeps bytes apart the bytes that stay public are collected in x9, and looked up by: lbu
-- x5,8(x2); slli x8,x5,16; slt x6,x5,x17; srli x6,x6,8; or x9,x9,x6; slt x6,x5,x5; or x9,x9,x6; sltu x6,x5,x5; or
-- x9,x9,x6; sll x6,x8,x17; slli x6,x6,16; or x9,x9,x6; srl x6,x5,x17; srli x6,x6,8; or x9,x9,x6; slli x6,x5,8; andi
-- x7,x6,255; or x9,x9,x7; srli x6,x6,16; or x9,x9,x6; slli x6,x5,24; slli x6,x6,8; or x9,x9,x6; slli x6,x8,4; slli
-- x6,x6,16; or x9,x9,x6; srli x6,x5,16; or x9,x9,x6; srli x6,x5,24; or x9,x9,x6; srli x6,x5,4; srli x6,x6,8; or
-- x9,x9,x6; mul x6,x8,x17; slli x6,x6,16; or x9,x9,x6; lhu x6,8(x2); srli x6,x6,8; or x9,x9,x6; sb x5,11(x2); lh
-- x6,10(x2); andi x6,x6,255; or x9,x9,x6; add x7,x9,x2; lbu x8,-256(x7); exit
abbrev pub kept_apart : List ℕ
kept_apart =
    0x00814283 ∷ 0x01029413 ∷ 0x0112a333 ∷ 0x00835313 ∷ 0x0064e4b3 ∷ 0x0052a333 ∷ 0x0064e4b3 ∷ 0x0052b333 ∷ 0x0064e4b3 ∷
    0x01141333 ∷ 0x01031313 ∷ 0x0064e4b3 ∷ 0x0112d333 ∷ 0x00835313 ∷ 0x0064e4b3 ∷ 0x00829313 ∷ 0x0ff37393 ∷ 0x0074e4b3 ∷
    0x01035313 ∷ 0x0064e4b3 ∷ 0x01829313 ∷ 0x00831313 ∷ 0x0064e4b3 ∷ 0x00441313 ∷ 0x01031313 ∷ 0x0064e4b3 ∷ 0x0102d313 ∷
    0x0064e4b3 ∷ 0x0182d313 ∷ 0x0064e4b3 ∷ 0x0042d313 ∷ 0x00835313 ∷ 0x0064e4b3 ∷ 0x03140333 ∷ 0x01031313 ∷ 0x0064e4b3 ∷
    0x00815303 ∷ 0x00835313 ∷ 0x0064e4b3 ∷ 0x005105a3 ∷ 0x00a11303 ∷ 0x0ff37313 ∷ 0x0064e4b3 ∷ 0x002483b3 ∷ 0xf003c403 ∷
    0x00000513 ∷ 0x05d00893 ∷ 0x00000073 ∷ []

-- the secret is compared, and the bytes above the 0 or 1 are looked up by: lbu x6,8(x2); sltu x6,x0,x6; srli x7,x6,8;
-- add x7,x7,x2; lbu x8,-256(x7); exit
abbrev pub compared : List ℕ
compared = 0x00814303 ∷ 0x00603333 ∷ 0x00835393 ∷ 0x002383b3 ∷ 0xf003c403 ∷ 0x00000513 ∷ 0x05d00893 ∷ 0x00000073 ∷ []

-- a word whose lowest byte is the secret is copied, and its public bytes are looked up by: lw x6,8(x2); addi x6,x6,0;
-- srli x7,x6,8; add x7,x7,x2; lbu x8,-256(x7); exit
abbrev pub moved : List ℕ
moved = 0x00812303 ∷ 0x00030313 ∷ 0x00835393 ∷ 0x002383b3 ∷ 0xf003c403 ∷ 0x00000513 ∷ 0x05d00893 ∷ 0x00000073 ∷ []

-- a public number is taken from a word whose byte 2 is the secret, and the bytes below are looked up by: lbu x6,8(x2);
-- slli x6,x6,16; sub x6,x6,x17; andi x7,x6,255; add x7,x7,x2; lbu x8,-256(x7); exit
abbrev pub subtracted : List ℕ
subtracted = 0x00814303 ∷ 0x01031313 ∷ 0x41130333 ∷ 0x0ff37393 ∷ 0x002383b3 ∷ 0xf003c403 ∷ 0x00000513 ∷ 0x05d00893 ∷ 0x00000073 ∷ []

-- the secret is mixed, stored, loaded back by forwarding, multiplied and written over itself, and what was stored is
-- overwritten: lbu x6,8(x2); xori x7,x6,0x5a; sw x7,4(x2); lw x8,4(x2); mul x9,x8,x6; sb x9,8(x2); sw x0,4(x2); lw
-- x10,4(x2); addi x17,x0,93; ecall
abbrev pub mixes : List ℕ
mixes =
    0x00814303 ∷ 0x05a34393 ∷ 0x00712223 ∷ 0x00412403 ∷ 0x026404b3 ∷ 0x00910423 ∷ 0x00012223 ∷ 0x00412503 ∷ 0x05d00893 ∷
    0x00000073 ∷ []

-- the secret is the value of the exit: lbu x10,8(x2); addi x17,x0,93; ecall
abbrev pub exits : List ℕ
exits = 0x00814503 ∷ 0x05d00893 ∷ 0x00000073 ∷ []

-- ---- what shows, although the trace is one for all secrets

-- the secret is masked off by a register: lbu x6,8(x2); addi x5,x0,-256; and x7,x6,x5; add x7,x7,x2; lbu x8,-256(x7);
-- exit
abbrev pub masked_by_register : List ℕ
masked_by_register = 0x00814303 ∷ 0xf0000293 ∷ 0x005373b3 ∷ 0x002383b3 ∷ 0xf003c403 ∷ 0x00000513 ∷ 0x05d00893 ∷ 0x00000073 ∷ []

-- ones cover the secret: lbu x6,8(x2); ori x7,x6,255; add x7,x7,x2; lbu x8,-256(x7); exit
abbrev pub filled_by_ones : List ℕ
filled_by_ones = 0x00814303 ∷ 0x0ff36393 ∷ 0x002383b3 ∷ 0xf003c403 ∷ 0x00000513 ∷ 0x05d00893 ∷ 0x00000073 ∷ []

-- a shift brings in zeros above the secret: lbu x6,8(x2); slli x6,x6,24; srli x6,x6,24; andi x7,x6,256; add x7,x7,x2;
-- lbu x8,-256(x7); exit
abbrev pub filled_by_zeros : List ℕ
filled_by_zeros =
    0x00814303 ∷ 0x01831313 ∷ 0x01835313 ∷ 0x10037393 ∷ 0x002383b3 ∷ 0xf003c403 ∷ 0x00000513 ∷ 0x05d00893 ∷ 0x00000073 ∷
    []

-- public bytes are shifted down with their sign: lw x6,8(x2); srai x7,x6,8; add x7,x7,x2; lbu x8,-256(x7); exit
abbrev pub shifted_with_sign : List ℕ
shifted_with_sign = 0x00812303 ∷ 0x40835393 ∷ 0x002383b3 ∷ 0xf003c403 ∷ 0x00000513 ∷ 0x05d00893 ∷ 0x00000073 ∷ []

-- a branch on the secret that is always taken: lbu x6,8(x2); bgeu x6,x0,+8; addi x5,x0,1; exit
abbrev pub one_way : List ℕ
one_way = 0x00814303 ∷ 0x00037463 ∷ 0x00100293 ∷ 0x00000513 ∷ 0x05d00893 ∷ 0x00000073 ∷ []

-- two addresses in one line, by a bit of the secret: lbu x6,8(x2); andi x7,x6,4; add x7,x7,x2; lw x8,0(x7); exit
abbrev pub one_line : List ℕ
one_line = 0x00814303 ∷ 0x00437393 ∷ 0x002383b3 ∷ 0x0003a403 ∷ 0x00000513 ∷ 0x05d00893 ∷ 0x00000073 ∷ []

-- a dividend whose length is the same for each secret: lbu x6,8(x2); addi x7,x6,256; divu x8,x7,x2; exit
abbrev pub one_length : List ℕ
one_length = 0x00814303 ∷ 0x10030393 ∷ 0x0223d433 ∷ 0x00000513 ∷ 0x05d00893 ∷ 0x00000073 ∷ []

-- ---- what is published

-- the secret is written to stream 2, loaded anew and looked up by: lbu x5,8(x2); sb x5,12(x2); addi x10,x0,2; addi
-- x11,x2,12; addi x12,x0,1; addi x17,x0,64; ecall; lbu x7,12(x2); add x7,x7,x2; lbu x8,-256(x7); exit
abbrev pub published : List ℕ
published =
    0x00814283 ∷ 0x00510623 ∷ 0x00200513 ∷ 0x00c10593 ∷ 0x00100613 ∷ 0x04000893 ∷ 0x00000073 ∷ 0x00c14383 ∷ 0x002383b3 ∷
    0xf003c403 ∷ 0x00000513 ∷ 0x05d00893 ∷ 0x00000073 ∷ []

-- the secret is written to stream 1, loaded anew and looked up by: lbu x5,8(x2); sb x5,12(x2); addi x10,x0,1; addi
-- x11,x2,12; addi x12,x0,1; addi x17,x0,64; ecall; lbu x7,12(x2); add x7,x7,x2; lbu x8,-256(x7); exit
abbrev pub other_stream : List ℕ
other_stream =
    0x00814283 ∷ 0x00510623 ∷ 0x00100513 ∷ 0x00c10593 ∷ 0x00100613 ∷ 0x04000893 ∷ 0x00000073 ∷ 0x00c14383 ∷ 0x002383b3 ∷
    0xf003c403 ∷ 0x00000513 ∷ 0x05d00893 ∷ 0x00000073 ∷ []

-- the secret is written to stream 2, and a register that has it yet is looked up by: lbu x5,8(x2); sb x5,12(x2); addi
-- x10,x0,2; addi x11,x2,12; addi x12,x0,1; addi x17,x0,64; ecall; add x7,x5,x2; lbu x8,-256(x7); exit
abbrev pub kept : List ℕ
kept =
    0x00814283 ∷ 0x00510623 ∷ 0x00200513 ∷ 0x00c10593 ∷ 0x00100613 ∷ 0x04000893 ∷ 0x00000073 ∷ 0x002283b3 ∷ 0xf003c403 ∷
    0x00000513 ∷ 0x05d00893 ∷ 0x00000073 ∷ []

-- the byte below the secret is written to stream 2, and the word is looked up by: lbu x5,8(x2); slli x5,x5,8; sw
-- x5,12(x2); addi x10,x0,2; addi x11,x2,12; addi x12,x0,1; addi x17,x0,64; ecall; lw x7,12(x2); add x7,x7,x2; lbu
-- x8,-256(x7); exit
abbrev pub in_part : List ℕ
in_part =
    0x00814283 ∷ 0x00829293 ∷ 0x00512623 ∷ 0x00200513 ∷ 0x00c10593 ∷ 0x00100613 ∷ 0x04000893 ∷ 0x00000073 ∷ 0x00c12383 ∷
    0x002383b3 ∷ 0xf003c403 ∷ 0x00000513 ∷ 0x05d00893 ∷ 0x00000073 ∷ []

-- a write of two bytes to stream 2 goes beyond memory, so that nothing is put out, and the first of them is looked up
-- by: lbu x5,8(x2); sb x5,15(x2); addi x10,x0,2; addi x11,x2,15; addi x12,x0,2; addi x17,x0,64; ecall; lbu x7,15(x2);
-- add x7,x7,x2; lbu x8,-256(x7); exit
abbrev pub outside : List ℕ
outside =
    0x00814283 ∷ 0x005107a3 ∷ 0x00200513 ∷ 0x00f10593 ∷ 0x00200613 ∷ 0x04000893 ∷ 0x00000073 ∷ 0x00f14383 ∷ 0x002383b3 ∷
    0xf003c403 ∷ 0x00000513 ∷ 0x05d00893 ∷ 0x00000073 ∷ []

-- whether the secret is below 100 is written to stream 2, loaded anew, branched on and exited with: lbu x5,8(x2); sltiu
-- x5,x5,100; sb x5,12(x2); addi x10,x0,2; addi x11,x2,12; addi x12,x0,1; addi x17,x0,64; ecall; lbu x10,12(x2); beq
-- x10,x0,+8; addi x6,x0,1; addi x17,x0,93; ecall
abbrev pub verdict : List ℕ
verdict =
    0x00814283 ∷ 0x0642b293 ∷ 0x00510623 ∷ 0x00200513 ∷ 0x00c10593 ∷ 0x00100613 ∷ 0x04000893 ∷ 0x00000073 ∷ 0x00c14503 ∷
    0x00050463 ∷ 0x00100313 ∷ 0x05d00893 ∷ 0x00000073 ∷ []

-- a slow branch passes over a look-up by the secret to its write to stream 2, behind which it is looked up by: lw
-- x5,0(x2); mul x5,x5,x5; bgeu x0,x5,+16; lbu x6,8(x2); add x6,x6,x2; lbu x7,-256(x6); addi x10,x0,2; addi x11,x2,8;
-- addi x12,x0,1; addi x17,x0,64; ecall; lbu x6,8(x2); add x6,x6,x2; lbu x7,-256(x6); exit
abbrev pub too_early : List ℕ
too_early =
    0x00012283 ∷ 0x025282b3 ∷ 0x00507863 ∷ 0x00814303 ∷ 0x00230333 ∷ 0xf0034383 ∷ 0x00200513 ∷ 0x00810593 ∷ 0x00100613 ∷
    0x04000893 ∷ 0x00000073 ∷ 0x00814303 ∷ 0x00230333 ∷ 0xf0034383 ∷ 0x00000513 ∷ 0x05d00893 ∷ 0x00000073 ∷ []
