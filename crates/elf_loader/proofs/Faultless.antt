-- What the headers of a file without fault hold.
use Rattle.std.proofs.Common.{◌≡◌, ℕ, ◌+◌, ◌*◌, ◌<◌, ◌≤◌, ◌==◌, Bool, true, false, not, ◌&&◌, nat_lt, List, length, None, refl, arith}
use Rattle.std.proofs.lemmas.Bool.Decides.{nat_tests}
use Rattle.elf_loader.specs.Fields.{header_of, count_of, program_header}
use Rattle.elf_loader.specs.Faults.{fault_if, header_faults, header_fault, program_header_faults, program_header_fault}
use Rattle.elf_loader.specs.declared.faults.ElfFault.{ElfFault}
use Rattle.elf_loader.specs.declared.faults.ElfFault.TheVariants as fault
use Rattle.elf_loader.proofs.Searching.{none_at, none_below}

-- a test that gives no fault fails
pub failed_test : (b : Bool) (e : ElfFault) → fault_if b e ≡ None → b ≡ false
failed_test true e h = absurd (cc)
failed_test false e h = refl

-- the header lies in the file
pub header_inside : (file : List ℕ) → header_fault file ≡ None → 52 ≤ length file
unfolding header_fault
header_inside file h =
    let e : nat_lt (length file) 52 ≡ false = failed_test _ (fault.Short 52 (length file)) (none_at (header_faults file) 0 h) in
    grind (arith, nat_tests)

-- a table of program headers that gives no fault ends within the file
inside_by : (n count end : ℕ) → fault_if (not (count == 0) && nat_lt n end) (fault.TableOutside end n) ≡ None → 0 < count → end ≤ n
inside_by n count end e l = let f : (not (count == 0) && nat_lt n end) ≡ false = failed_test _ (fault.TableOutside end n) e in grind (arith, nat_tests)

pub table_inside : (file : List ℕ) → header_fault file ≡ None → 0 < count_of file → (header_of file).table + 32 * count_of file ≤ length file
unfolding header_fault
table_inside file h l = inside_by (length file) (count_of file) ((header_of file).table + 32 * count_of file) (none_at (header_faults file) 3 h) l

pub entry_inside : (file : List ℕ) (i : ℕ) → header_fault file ≡ None → i < count_of file → (header_of file).table + 32 * i + 32 ≤ length file
entry_inside file i h l = let t = table_inside file h (omega arith) in omega arith

-- no program header has a fault
pub program_header_good : (file : List ℕ) (i : ℕ) → header_fault file ≡ None → i < count_of file → program_header_fault file i ≡ None
unfolding header_fault
program_header_good file i h l = none_below (program_header_fault file) i (count_of file) (none_at (header_faults file) 4 h) l

-- the bytes of a segment that gives no fault end within the file
bytes_by : (n kind filesz end i : ℕ) → fault_if ((kind == 1) && (not (filesz == 0) && nat_lt n end)) (fault.FileOutside i) ≡ None → kind ≡ 1 → 0 < filesz → end ≤ n
bytes_by n kind filesz end i e k l =
    let f : ((kind == 1) && (not (filesz == 0) && nat_lt n end)) ≡ false = failed_test _ (fault.FileOutside i) e in
    grind (arith, nat_tests)

pub bytes_inside : (file : List ℕ) (i : ℕ) → header_fault file ≡ None → i < count_of file → (program_header file i).kind ≡ 1 → 0 < (program_header file i).filesz
    → (program_header file i).offset + (program_header file i).filesz ≤ length file
bytes_inside file i h l k f =
    let p = program_header file i in
    bytes_by (length file) p.kind p.filesz (p.offset + p.filesz) i (none_at (program_header_faults file i) 2 (program_header_good file i h l)) k f
