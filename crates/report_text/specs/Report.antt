-- The text of a report (docs/formats.md, "The report").
use Rattle.std.specs.Prelude.{ℕ, ◌+◌, ◌*◌, ◌/◌, Bool, nat_eq, if◌then◌else◌, List, [], ◌∷◌, ◌++◌, length, Option, codes, decimal, flat_map, slice_index, slice_range}
use Rattle.std.specs.Cmp.Lexicographic.{pointwise}
use Rattle.std.specs.List.{range_with_len}
use Rattle.rv_types.specs.declared.Ending.{Ending}
use Rattle.rv_types.specs.Isa.{Hart, Run}
use Rattle.rv_types.specs.Memory.{Ram}
use Rattle.line_text.specs.Digits.{hex2, hex8}
use Rattle.line_text.specs.EndLine.{end_line}

-- the line of a piece of output
unfoldable pub out_line : List ℕ → List ℕ
out_line bytes = codes "out " ++ flat_map hex2 bytes ++ codes "\n"

-- the text of a piece of output: its line, and nothing for an empty piece
abbrev pub piece_text : List ℕ → List ℕ
piece_text [] = []
piece_text (b ∷ bs) = out_line (b ∷ bs)

-- the lines of pieces of output, in turn
unfoldable pub piece_lines : List (List ℕ) → List ℕ
piece_lines pieces = flat_map piece_text pieces

-- the line of a register
unfoldable pub register_line : ℕ → ℕ → List ℕ
register_line number value = codes "x" ++ decimal number ++ codes " " ++ hex8 value ++ codes "\n"

-- the texts of so many numbers from one on, in turn
unfoldable pub each_from : (ℕ → List ℕ) → ℕ → ℕ → List ℕ
each_from text first count = flat_map text (range_with_len first count)

-- the lines of the registers x0 to x31
abbrev pub register_lines : List ℕ → List ℕ
register_lines regs = each_from (λ number. register_line number (slice_index regs number)) 0 32

-- the line of the pc
unfoldable pub pc_line : ℕ → List ℕ
pc_line pc = codes "pc " ++ hex8 pc ++ codes "\n"

-- the 16 bytes of memory's row with this number
abbrev pub row_of : List ℕ → ℕ → List ℕ
row_of bytes row = slice_range bytes (16 * row) (16 * row + 16)

-- the line of a row: the address of its first byte, and its bytes
unfoldable pub row_line : ℕ → List ℕ → List ℕ
row_line addr bytes = codes "mem " ++ hex8 addr ++ codes " " ++ flat_map hex2 bytes ++ codes "\n"

-- two rows hold the same bytes
abbrev pub same_bytes : List ℕ → List ℕ → Bool
same_bytes = pointwise nat_eq

-- the text of the row with this number: its line where it differs from the row before, else nothing
abbrev pub row_text : Ram → Ram → ℕ → List ℕ
row_text before after row =
    if same_bytes (row_of before.bytes row) (row_of after.bytes row) then [] else row_line (after.base + 16 * row) (row_of after.bytes row)

-- the lines of the rows that differ, by rising address
abbrev pub row_lines : Ram → Ram → List ℕ
row_lines before after = each_from (row_text before after) 0 (length after.bytes / 16)

-- the registers, the pc, the rows of memory that differ from memory before, and the last line
unfoldable pub state_text : Hart → Ram → Ending → List ℕ
state_text hart before ending = register_lines hart.regs ++ (pc_line hart.pc ++ (row_lines before hart.ram ++ end_line ending))

-- the whole report of a run from this memory: the lines of its output as it came, and then the state at its end
unfoldable pub report_text : Ram → Run → Option ℕ → List ℕ
report_text before run cycles =
    piece_lines run.pieces ++ state_text run.last before (record { end = run.ended; retired = run.steps; cycles = cycles })
