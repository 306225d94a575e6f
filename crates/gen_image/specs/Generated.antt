-- The image of a number (docs/formats.md, "Generated images").
use Rattle.std.specs.Prelude.{ℕ, zero, suc, ◌+◌, ◌*◌, ◌/◌, ◌%◌, ◌^◌, pos, negsuc, List, [], ◌∷◌, ◌++◌, slice_index_or}
use Rattle.std.proofs.Common.{lit<}
use Rattle.std.proofs.lemmas.Nat.{mod_below}
use Rattle.std.specs.List.{flat_map}
use Rattle.rv_types.specs.Word.{to_le}
use Rattle.rv_types.specs.declared.Reg.{Reg}
use Rattle.rv_types.specs.declared.Op.TheVariants.{Beq, Blt, Lw, Sw, Add, Xor, Mul, Div}
use Rattle.rv_types.specs.declared.Instr.{Instr}
use Rattle.rv_types.specs.declared.Instr.TheVariants.{Jal, Branch, Load, Store, OpImm, OpReg, Ecall}
use Rattle.rv_decode.specs.Forms.{word_of}

-- ---- draws of random numbers

-- the state of the draws at first, and the next one: a linear congruence modulo 2 ^ 31
abbrev pub seed_state : ℕ → ℕ
seed_state seed = seed % 2 ^ 31

abbrev pub next : ℕ → ℕ
next s = (1103515245 * s + 12345) % 2 ^ 31

-- what a draw answers once the state is this: all but the lowest 16 bits
abbrev pub draw_answer : ℕ → ℕ
draw_answer s = s / 2 ^ 16

-- ---- blocks of two instructions

-- the register of a number
abbrev pub register : ℕ → Reg
register n = record { number = n % 32; in_range = mod_below n 32 (lit< tt) }

-- the two instructions of each form; x8 is an address in memory
abbrev pub forms : Reg → Reg → ℕ → List (List Instr)
forms d e o =
    (OpImm Add d e (pos o) ∷ OpReg Xor e e d ∷ [])
    ∷ (Store Sw (register 8) d (pos o) ∷ Load Lw e (register 8) (pos o) ∷ [])
    ∷ (Load Lw d (register 8) (pos o) ∷ OpReg Add e e d ∷ [])
    ∷ (OpReg Mul d d e ∷ OpImm Add e e (pos 1) ∷ [])
    ∷ (OpReg Div d d e ∷ OpImm Add d d (pos o) ∷ [])
    ∷ (Branch Blt d e (pos 8) ∷ OpImm Add d d (pos 1) ∷ [])
    ∷ []

-- the block of four draws, the first of which follows this state: its form, its offset in bytes, and its two registers
abbrev pub block_of : ℕ → List Instr
block_of s =
    let a = next s in
    let b = next a in
    let c = next b in
    slice_index_or (forms (register (5 + draw_answer c % 3)) (register (5 + draw_answer (next c) % 3)) (4 * (draw_answer b % 256))) (draw_answer a % 6) []

-- the state after a block
abbrev pub after_block : ℕ → ℕ
after_block s = next (next (next (next s)))

-- the instructions of n blocks
abbrev pub blocks_from : ℕ → ℕ → List Instr
blocks_from zero s = []
blocks_from (suc n) s = block_of s ++ blocks_from n (after_block s)

-- ---- the program of an image

-- x8 is 1,024 bytes below the stack pointer, x9 counts the rounds: four
abbrev pub beginning : List Instr
beginning = OpImm Add (register 8) (register 2) (negsuc 1023) ∷ OpImm Add (register 9) (register 0) (pos 4) ∷ []

-- one round less; after the last the program exits with the value in a0, else it jumps back to the first block
abbrev pub ending : ℕ → List Instr
ending blocks =
    OpImm Add (register 9) (register 9) (negsuc 0)
    ∷ Branch Beq (register 9) (register 0) (pos 8)
    ∷ Jal (register 0) (negsuc (8 * blocks + 7))
    ∷ OpImm Add (register 17) (register 0) (pos 93)
    ∷ Ecall
    ∷ []

-- four rounds of the blocks
abbrev pub program : ℕ → ℕ → List Instr
program seed blocks = beginning ++ blocks_from blocks (seed_state seed) ++ ending blocks

-- ---- the file of a program

-- the bytes of instructions: four each
abbrev pub bytes_of : List Instr → List ℕ
bytes_of instrs = flat_map (λ i. to_le 4 (word_of i)) instrs

-- the bytes of a list of numbers, two for each; below four for each
abbrev pub twos : List ℕ → List ℕ
twos ns = flat_map (to_le 2) ns

abbrev pub fours : List ℕ → List ℕ
fours ns = flat_map (to_le 4) ns

-- the file's header: an ELF file of class, data and version 1, an executable (2) for RISC-V (243) in version 1, entry
-- 0x00010000, its one program header at 52, no section headers, no flags, the sizes of the two headers and their number
abbrev pub file_header : List ℕ
file_header =
    (0x7f ∷ 0x45 ∷ 0x4c ∷ 0x46 ∷ 1 ∷ 1 ∷ 1 ∷ 0 ∷ 0 ∷ 0 ∷ 0 ∷ 0 ∷ 0 ∷ 0 ∷ 0 ∷ 0 ∷ [])
    ++ twos (2 ∷ 243 ∷ [])
    ++ fours (1 ∷ 0x00010000 ∷ 52 ∷ 0 ∷ 0 ∷ [])
    ++ twos (52 ∷ 32 ∷ 1 ∷ 0 ∷ 0 ∷ 0 ∷ [])

-- the header of the one part: a LOAD (1) of the bytes from 84 on, at 0x00010000, so many in the file and in memory, to
-- be read and executed (5), aligned to 4
abbrev pub part_header : ℕ → List ℕ
part_header size = fours (1 ∷ 84 ∷ 0x00010000 ∷ 0x00010000 ∷ size ∷ size ∷ 5 ∷ 4 ∷ [])

-- the words of the program: two a block, and seven
abbrev pub size_of_code : ℕ → ℕ
size_of_code blocks = 4 * (2 * blocks + 7)

-- the file of a seed and a number of blocks
unfoldable pub generated_image : ℕ → ℕ → List ℕ
generated_image seed blocks = file_header ++ part_header (size_of_code blocks) ++ bytes_of (program seed blocks)
