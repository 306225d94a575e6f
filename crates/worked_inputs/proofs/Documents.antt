-- Documents of descriptions, key by key, and what is told of them. Names stand as docs/formats.md has them, "Machine
-- descriptions".
use Rattle.std.proofs.Common.{List, [], ◌∷◌, Option, Some, Ok, Err}
use Rattle.std.specs.Prelude.{Bool, ℕ, pos, if◌then◌else◌, Result, codes}
use Rattle.std.specs.Ordering.{nat_cmp, match_ordering}
use Rattle.std.specs.Cmp.Lexicographic.{slice_cmp}
use Prim.Native.String.{String}
use Rattle.toml.specs.Data.{Data, integer, string, table, Members, member, no_members, get_member, same_key}
use Rattle.machine_desc.specs.declared.fault.DescFault.{DescFault}
use Rattle.machine_desc.specs.Description.{Contents, document_contents}
use Rattle.run_inputs.specs.Note.{description_fault}
use Rattle.worked_inputs.proofs.Tables.{is_text}

-- a value: a whole number, a text
abbrev pub number : ℕ → Data
number n = integer (pos n)

abbrev pub text : String → Data
text letters = string (codes letters)

-- a member, in its place by the order of names, or in place of the one of its name
abbrev pub with_member : List ℕ → Data → Members → Members
with_member name value no_members = member name value no_members
with_member name value (member other old more) =
    match_ordering (slice_cmp nat_cmp name other) (member name value (member other old more)) (member name value more) (member other old (with_member name value more))

-- all members but that of this name
abbrev pub without_member : List ℕ → Members → Members
without_member name no_members = no_members
without_member name (member other value more) = if same_key name other then more else member other value (without_member name more)

-- the members of a table: none where there is no table
abbrev pub members_of : Option Data → Members
members_of (Some (table members)) = members
members_of _ = no_members

-- the members of the table of this name
abbrev pub members_at : String → Members → Members
members_at section document = members_of (get_member (codes section) document)

-- the document with this value at the top
abbrev pub with_top : String → Data → Members → Members
with_top name value document = with_member (codes name) value document

-- the document with this value at a key of a table, also where the key or the table wasn't there
abbrev pub with_key : String → String → Data → Members → Members
with_key section name value document = with_top section (table (with_member (codes name) value (members_at section document))) document

-- the document without this name at the top, without this key of a table
abbrev pub without_top : String → Members → Members
without_top name document = without_member (codes name) document

abbrev pub without_key : String → String → Members → Members
without_key section name document = with_top section (table (without_member (codes name) (members_at section document))) document

-- members of these names, with whole numbers
abbrev pub numbers : List (String × ℕ) → Members
numbers [] = no_members
numbers (x ∷ more) = member (codes x.0) (number x.1) (numbers more)

-- a table of these names and numbers, and what stands behind it
abbrev pub table_of : String → List (String × ℕ) → Members → Members
table_of name keys more = member (codes name) (table (numbers keys)) more

-- the example of docs/formats.md, which is of version 1, by the order of names
abbrev pub example_1 : Members
example_1 =
    table_of "cache" (("hit_latency", 2) ∷ ("line", 16) ∷ ("miss_latency", 10) ∷ ("mshrs", 2) ∷ ("sets", 2) ∷ ("ways", 2) ∷ []) (
    table_of "core" (("fetch_width", 2) ∷ ("loads", 4) ∷ ("queue", 8) ∷ ("retire_width", 2) ∷ ("rob", 16) ∷ ("stations", 8) ∷ ("stores", 4) ∷ []) (
    table_of "predictor" (("btb", 4) ∷ ("counters", 16) ∷ []) (
    table_of "ram" (("base", 65536) ∷ ("size", 65536) ∷ []) (
    with_key "stt" "model" (text "spectre") (
    table_of "units" (("alus", 2) ∷ ("mul_latency", 3) ∷ []) no_members)))))

-- the example in version 2
abbrev pub example_2 : Members
example_2 = with_top "version" (number 2) example_1

-- what is told of a description: the line of its refusal behind the word "description", or nothing where it is accepted
abbrev pub told : Result Contents DescFault → List ℕ
told (Ok contents) = []
told (Err fault) = description_fault fault

-- this is told of the document
abbrev pub tells : Members → String → Bool
tells document line = is_text (told (document_contents document)) line

-- the document is accepted
abbrev pub accepts : Members → Bool
accepts document = tells document ""
