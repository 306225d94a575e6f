-- What a core with marks beside it holds (docs/theorems.md, "Secrets that are loaded").
use Rattle.std.specs.Prelude.{Bool, List, refl}
use Rattle.std.specs.Coded.{Coded, code_by, coded×, coded_bool, coded_list}
use Rattle.elf_loader.specs.inner.Code.{CodeText}
use Rattle.elf_loader.specs.contracts.fetchable.Code as code
use Rattle.machine_desc.specs.contracts.Desc as desc
use Rattle.machine_desc.specs.declared.Desc.{Desc}
use Rattle.window_model.specs.State.{Machine}
use Rattle.core_parts.specs.Described.{machine_code}
use Rattle.secret_marks.specs.contracts.EntryMarks as entry
use Rattle.secret_marks.specs.contracts.PublicStreams as streams
use Rattle.secret_marks.specs.contracts.WordMarks as word
use Rattle.secret_marks.specs.declared.EntryMarks.{EntryMarks}
use Rattle.secret_marks.specs.declared.PublicStreams.{PublicStreams}
use Rattle.secret_marks.specs.declared.WordMarks.{WordMarks}
use Rattle.secret_marks.specs.Marks.{Marks}

-- a machine, the description that it runs under, the words that it may fetch, the marks beside it, and which streams
-- are public
pub record Marked : Type 0 where
  pub desc : Desc
  pub code : CodeText
  pub machine : Machine
  pub marks : Marks
  pub public : PublicStreams

-- marks are stored as those of registers, of memory's bytes, and of the entries in flight
abbrev pub marks_code : Coded Marks
marks_code =
    code_by (List WordMarks × (List Bool × List EntryMarks)) (coded× (coded_list word.the_row.coded) (coded× (coded_list coded_bool) (coded_list entry.the_row.coded)))
    (λ m. (m.regs, (m.bytes, m.window)))
    (λ p. record { regs = p.0; bytes = p.1.0; window = p.1.1 })
    (λ _. refl)

-- a core with marks is stored as its description, words, machine, marks and public streams
abbrev pub marked_code : Coded Marked
marked_code =
    code_by (Desc × (CodeText × (Machine × (Marks × PublicStreams)))) (coded× desc.the_row.coded (coded× code.the_row.coded (coded× machine_code (coded× marks_code streams.the_row.coded))))
    (λ x. (x.desc, (x.code, (x.machine, (x.marks, x.public)))))
    (λ p. record { desc = p.0; code = p.1.0; machine = p.1.1.0; marks = p.1.1.1.0; public = p.1.1.1.1 })
    (λ _. refl)
