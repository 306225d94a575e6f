-- What files in memory hold, and what a read leaves.
use Rattle.std.specs.Prelude.{◌⊎◌, ℕ, List, Option, Some, None, IsNone, Contains, option_map, option_and_then, slice_get, slice_index, slice_set, position, unwrap_or, [], is_none, ◌==◌, ◌||◌, if◌then◌else◌}
use Rattle.std.specs.List.{list_any}
use Rattle.std.specs.Cmp.Lexicographic.{pointwise}
use Rattle.std.specs.Prelude.{nat_eq}
use Rattle.tool_io.specs.declared.mem_files.MemFile.{MemFile}
use Rattle.tool_io.specs.MemorySink.{one_more}
use Rattle.tool_io.specs.Outside.{Shelf}

-- what files in memory hold: the files, the reads that are to fail, the number of reads so far, how many of them failed
-- for each file, and for all other names
pub record FilesState : Type 0 where
  pub files : List MemFile
  pub fails : List ℕ
  pub reads : ℕ
  pub counts : List ℕ
  pub others : ℕ

-- the place of the first file of this name
abbrev pub place_of : List ℕ → List MemFile → Option ℕ
place_of name files = position (λ f. pointwise nat_eq f.name name) files

-- a count by the place of the name
abbrev pub count_at : List ℕ → ℕ → Option ℕ → ℕ
count_at counts others None = others
count_at counts others (Some i) = slice_index counts i

-- what the files in memory tell
abbrev pub shelf_of : FilesState → Shelf
shelf_of s = record {
  content = λ name. option_map (λ f. f.bytes) (option_and_then (λ i. slice_get s.files i) (place_of name s.files));
  faults = λ name. count_at s.counts s.others (place_of name s.files);
}

-- the next read of this name fails
abbrev pub IsFileFault : FilesState → List ℕ → Type 0
IsFileFault s name = Contains s.fails (one_more s.reads) ⊎ IsNone (place_of name s.files)

-- what the files hold under this name, or nothing
abbrev pub held_or_empty : List MemFile → List ℕ → List ℕ
held_or_empty files name = unwrap_or (option_map (λ f. f.bytes) (option_and_then (λ i. slice_get files i) (place_of name files))) []

-- the counts after a fault of the name with this place, or with none
abbrev pub fault_counted : FilesState → Option ℕ → FilesState
fault_counted s None = record s { others = one_more s.others }
fault_counted s (Some i) = record s { counts = slice_set s.counts i (one_more (slice_index s.counts i)) }

-- what the files hold after the next read of this name
abbrev pub files_after : FilesState → List ℕ → FilesState
files_after s name =
    let after = record s { reads = one_more s.reads } in
    if list_any (λ n. n == one_more s.reads) s.fails || is_none (place_of name s.files) then fault_counted after (place_of name s.files) else after
