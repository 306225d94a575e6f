-- Why a program that reads a description and images writes no text, or not all of it (docs/formats.md, "Statuses").
use Rattle.std.specs.Prelude.{ℕ}
use Rattle.tool_words.specs.declared.Refused.{Refused}
use Rattle.tool_words.specs.declared.Refused.TheVariants as refused
use Rattle.run_inputs.specs.declared.refusal.Which.{Which}
use Rattle.run_inputs.specs.declared.refusal.Which.TheVariants.{First, Second}
use Rattle.run_inputs.specs.declared.refusal.Refusal.{Refusal}
use Rattle.run_inputs.specs.declared.refusal.Refusal.TheVariants.{Words, ReadDescription, DescriptionTooLong, Description, ReadImage, ImageTooLong, Image, Write, Memory}

-- the place of an image among those of a command
abbrev pub place_of : Which → ℕ
place_of First = 0
place_of Second = 1

-- the refusal of words, by why they gave no command
abbrev pub words_refused : Refused → Refusal
words_refused refused.Words = Words
words_refused refused.Memory = Memory

-- the status of a refusal
abbrev pub status_of : Refusal → ℕ
status_of Words = 2
status_of DescriptionTooLong = 4
status_of (Description fault) = 4
status_of (ImageTooLong which) = 5
status_of (Image which fault) = 5
status_of ReadDescription = 6
status_of (ReadImage which) = 6
status_of Write = 7
status_of Memory = 8
