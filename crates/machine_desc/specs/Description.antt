-- What a text describes: a description, or the first of its faults (docs/formats.md, "Machine descriptions").
use Rattle.std.specs.Prelude.{◌≡◌, ◌+◌, ◌*◌, ◌%◌, ◌^◌, ◌==◌, ◌||◌, Bool, true, ◌&&◌, nat_lt, nat_le, ℕ, ℤ, pos, int_le, nat_abs, if◌then◌else◌, List, [], ◌∷◌, ◌++◌, map, take, codes, Option, Some, None, option_map, option_and_then, Result, Ok, Err}
use Rattle.std.specs.Int.{is_power_of_two}
use Rattle.std.specs.Str.{bytes_eq, is_utf8}
use Rattle.toml.specs.Data.{Data, table, string, integer, Members, no_members, member, get_member, as_table}
use Rattle.toml.specs.Parse.{parse_document}
use Rattle.machine_desc.specs.declared.Desc.{Desc}
use Rattle.machine_desc.specs.declared.SttModel.{SttModel}
use Rattle.machine_desc.specs.declared.SttModel.TheVariants.{Spectre, Futuristic, Off}
use Rattle.machine_desc.specs.declared.Defence.{Defence}
use Rattle.machine_desc.specs.declared.Defence.TheVariants.{Stt as SttDefence, Hold, Delay}
use Rattle.machine_desc.specs.declared.keys.Section.{Section}
use Rattle.machine_desc.specs.declared.keys.Key.{Key}
use Rattle.machine_desc.specs.declared.keys.Key.TheVariants.{CacheHitLatency, CacheMissLatency, CacheMshrs, RamBase, RamSize, SttModel as ModelKey, RamMisaligned, CacheSecondSets, CacheSecondLatency, SttDefence as DefenceKey}
use Rattle.machine_desc.specs.declared.keys.Shape.{Shape}
use Rattle.machine_desc.specs.declared.keys.Shape.TheVariants.{Any, PowerOfTwo, ZeroOrPowerOfTwo, MultipleOf16}
use Rattle.machine_desc.specs.declared.keys.Values.{Values}
use Rattle.machine_desc.specs.declared.keys.Values.TheVariants.{Numbers, Optional, Models, Defences}
use Rattle.machine_desc.specs.declared.fault.Subject.TheVariants.{Version as OfVersion, Table as OfTable, Key as OfKey}
use Rattle.machine_desc.specs.declared.fault.DescFault.{DescFault}
use Rattle.machine_desc.specs.declared.fault.DescFault.TheVariants.{Syntax, Unknown, Missing, Kind, Version, Range, Shape as WrongShape}
use Rattle.machine_desc.specs.Version.{newest, comes_between}
use Rattle.machine_desc.specs.Ranges.{key_number}
use Rattle.machine_desc.specs.Table.{values_of, section_of, name_of, section_name, version_name, sections, keys, some_top, some_key}

-- the first fault of a list of places, if there is one
abbrev pub first : List (Option DescFault) → Option DescFault
first [] = None
first (None ∷ more) = first more
first (Some fault ∷ more) = Some fault

-- ---- the version of a document

-- the version of a value: 1 where there is none, else a whole number, from 1 to the newest
abbrev pub version_in : Option Data → Result ℕ DescFault
version_in None = Ok 1
version_in (Some (integer z)) = if int_le (pos 1) z && int_le z (pos newest) then Ok (nat_abs z) else Err (Version z)
version_in (Some other) = Err (Kind OfVersion)

-- the version of a document, or its fault
abbrev pub version : Members → Result ℕ DescFault
version document = version_in (get_member version_name document)

-- ---- names of tables and keys

-- the first name of a table that isn't known, so the least one: members ascend by the bytes of their names
abbrev pub unknown : (List ℕ → Bool) → Members → Option (List ℕ)
unknown known no_members = None
unknown known (member name value more) = if known name then unknown known more else Some name

-- the first unknown name at the top of a document; the first 64 bytes of it are kept
unfoldable pub top_fault : Members → Option DescFault
top_fault document = option_map (λ name. Unknown (take 64 name)) (unknown (some_top sections) document)

-- the first unknown name of a table, behind the table's name and a dot; the first 64 bytes of it are kept
abbrev pub name_fault : ℕ → Section → Members → Option DescFault
name_fault version section members =
    option_map (λ name. Unknown (section_name section ++ codes "." ++ take 64 name)) (unknown (some_key version keys section) members)

-- what stands at a table's name has to be a table, whose names the version all knows
abbrev pub table_fault : ℕ → Section → Option Data → Option DescFault
table_fault version section None = None
table_fault version section (Some (table members)) = name_fault version section members
table_fault version section (Some other) = Some (Kind (OfTable section))

-- the fault of what a document has at a table's name
abbrev pub section_fault : ℕ → Members → Section → Option DescFault
section_fault version document section = table_fault version section (get_member (section_name section) document)

-- the first fault of the tables, in their order
unfoldable pub sections_fault : ℕ → Members → Option DescFault
sections_fault version document = first (map (section_fault version document) sections)

-- ---- values of a document's keys

-- the value of a key, where it and its table are there
abbrev pub value_at : Members → Key → Option Data
value_at document key = option_and_then (get_member (name_of key)) (option_and_then as_table (get_member (section_name (section_of key)) document))

-- a number has a shape
abbrev pub has_shape : Shape → ℕ → Bool
has_shape Any n = true
has_shape PowerOfTwo n = is_power_of_two n
has_shape ZeroOrPowerOfTwo n = n == 0 || is_power_of_two n
has_shape MultipleOf16 n = n % 16 == 0

-- the number where it is in the range and of the shape; the range is looked at first
abbrev pub whole_in : Key → ℕ → ℕ → Shape → ℤ → Result ℕ DescFault
whole_in key least most shape z =
    if int_le (pos least) z && int_le z (pos most)
    then (if has_shape shape (nat_abs z) then Ok (nat_abs z) else Err (WrongShape key))
    else Err (Range key z)

-- the number of a key: its value has to be there, and a whole number
abbrev pub number_in : Key → ℕ → ℕ → Shape → Option Data → Result ℕ DescFault
number_in key least most shape None = Err (Missing key)
number_in key least most shape (Some (integer z)) = whole_in key least most shape z
number_in key least most shape (Some other) = Err (Kind (OfKey key))

-- the number of a key that may be left out: the least then
abbrev pub number_or_least : Key → ℕ → ℕ → Shape → Option Data → Result ℕ DescFault
number_or_least key least most shape None = Ok least
number_or_least key least most shape (Some value) = number_in key least most shape (Some value)

-- the model of a name; whether the third is one depends on the version
abbrev pub model_named : Key → Bool → List ℕ → Result SttModel DescFault
model_named key off text =
    if bytes_eq text (codes "spectre") then Ok Spectre
    else if bytes_eq text (codes "futuristic") then Ok Futuristic
    else if off && bytes_eq text (codes "off") then Ok Off
    else Err (Kind (OfKey key))

-- the model of a key: its value has to be there, and a text that names one
abbrev pub model_in : Key → Bool → Option Data → Result SttModel DescFault
model_in key off None = Err (Missing key)
model_in key off (Some (string text)) = model_named key off text
model_in key off (Some other) = Err (Kind (OfKey key))

-- the defence of a name: `stt` in every version; whether the others may be named depends on the version
abbrev pub defence_named : Key → Bool → List ℕ → Result Defence DescFault
defence_named key every text =
    if bytes_eq text (codes "stt") then Ok SttDefence
    else if every && bytes_eq text (codes "hold") then Ok Hold
    else if every && bytes_eq text (codes "delay") then Ok Delay
    else Err (Kind (OfKey key))

-- the defence of a key that may be left out: `stt` then, else a text that names one
abbrev pub defence_in : Key → Bool → Option Data → Result Defence DescFault
defence_in key every None = Ok SttDefence
defence_in key every (Some (string text)) = defence_named key every text
defence_in key every (Some other) = Err (Kind (OfKey key))

-- what a key is set to: a number, a model or a defence
pub data Setting : Type 0 where
  OneNumber : ℕ → Setting
  OneModel : SttModel → Setting
  OneDefence : Defence → Setting

-- a setting that is made of an answer, if it is none of a fault
abbrev pub set_to : {A : Type 0} → (A → Setting) → Result A DescFault → Result Setting DescFault
set_to make (Ok x) = Ok (make x)
set_to make (Err fault) = Err fault

-- what a value sets its key to, by what the key may have
abbrev pub setting_in : Key → Values → Option Data → Result Setting DescFault
setting_in key (Numbers least most shape) value = set_to OneNumber (number_in key least most shape value)
setting_in key (Optional least most shape) value = set_to OneNumber (number_or_least key least most shape value)
setting_in key (Models off) value = set_to OneModel (model_in key off value)
setting_in key (Defences every) value = set_to OneDefence (defence_in key every value)

-- what a document of a version sets a key to
abbrev pub setting : ℕ → Members → Key → Result Setting DescFault
setting version document key = setting_in key (values_of version key) (value_at document key)

-- why an answer is none
abbrev pub fault_of : {A : Type 0} → Result A DescFault → Option DescFault
fault_of (Ok _) = None
fault_of (Err fault) = Some fault

-- the fault of a key in a version
unfoldable pub key_fault : ℕ → Members → Key → Option DescFault
key_fault version document key = fault_of (setting version document key)

-- the first fault of the keys' values, in the order of the keys
unfoldable pub keys_fault : ℕ → Members → Option DescFault
keys_fault version document = first (map (key_fault version document) keys)

-- the number that a value gives, by what its key may have: one that has names has none
abbrev pub number_of : Key → Values → Option Data → Result ℕ DescFault
number_of key (Numbers least most shape) value = number_in key least most shape value
number_of key (Optional least most shape) value = number_or_least key least most shape value
number_of key (Models off) value = Err (Kind (OfKey key))
number_of key (Defences every) value = Err (Kind (OfKey key))

-- the number of a key
abbrev pub number : ℕ → Members → Key → Result ℕ DescFault
number version document key = number_of key (values_of version key) (value_at document key)

-- ---- the tests on several numbers

-- the fault of a test on a number; a number that isn't there has its own
abbrev pub with_number : Result ℕ DescFault → (ℕ → Option DescFault) → Option DescFault
with_number (Ok n) test = test n
with_number (Err fault) test = Some fault

-- a miss takes longer than a hit
unfoldable pub latency_fault : ℕ → Members → Option DescFault
latency_fault v document =
    with_number (number v document CacheHitLatency) (λ hit.
    with_number (number v document CacheMissLatency) (λ miss.
    if nat_lt hit miss then None else Some (WrongShape CacheMissLatency)))

-- RAM ends at or below 2^32
unfoldable pub end_fault : ℕ → Members → Option DescFault
end_fault v document =
    with_number (number v document RamBase) (λ base.
    with_number (number v document RamSize) (λ size.
    if nat_le (base + size) (2 ^ 32) then None else Some (WrongShape RamSize)))

-- where an access may lie in two lines there are two miss registers
unfoldable pub registers_fault : ℕ → Members → Option DescFault
registers_fault v document =
    with_number (number v document RamMisaligned) (λ misaligned.
    with_number (number v document CacheMshrs) (λ mshrs.
    if nat_le (2 * misaligned) mshrs then None else Some (WrongShape CacheMshrs)))

-- a line of the second level comes between a hit and a miss
unfoldable pub second_fault : ℕ → Members → Option DescFault
second_fault v document =
    with_number (number v document CacheSecondSets) (λ sets.
    with_number (number v document CacheHitLatency) (λ hit.
    with_number (number v document CacheSecondLatency) (λ second.
    with_number (number v document CacheMissLatency) (λ miss.
    if comes_between sets hit second miss then None else Some (WrongShape CacheSecondLatency)))))

-- ---- the whole of a document

-- the first fault of a document of this version: names at the top, tables, keys, and the four facts on several numbers
unfoldable pub document_fault : ℕ → Members → Option DescFault
document_fault version document = first (
    top_fault document ∷
    sections_fault version document ∷
    keys_fault version document ∷
    latency_fault version document ∷
    end_fault version document ∷
    registers_fault version document ∷
    second_fault version document ∷ [])

-- a setting in front of others, if there is no fault of those
abbrev pub set_before : Setting → Result (List Setting) DescFault → Result (List Setting) DescFault
set_before setting (Ok more) = Ok (setting ∷ more)
set_before setting (Err fault) = Err fault

-- all that a list of answers sets, or the first fault among them
abbrev pub all_set : List (Result Setting DescFault) → Result (List Setting) DescFault
all_set [] = Ok []
all_set (Ok setting ∷ more) = set_before setting (all_set more)
all_set (Err fault ∷ more) = Err fault

-- what a document of a version sets the keys to, in their order
abbrev pub settings : ℕ → Members → Result (List Setting) DescFault
settings version document = all_set (map (setting version document) keys)

-- what a description holds: its version, and what each key is set to, in the order of the keys
pub record Contents : Type 0 where
  pub version : ℕ
  pub settings : List Setting

-- what a key is set to in a description
abbrev pub setting_of : Desc → Key → Setting
setting_of d ModelKey = OneModel d.stt_model
setting_of d DefenceKey = OneDefence d.stt_defence
setting_of d key = OneNumber (key_number d key)

-- the contents of a description
abbrev pub contents : Desc → Contents
contents d = record { version = d.version; settings = map (setting_of d) keys }

-- the contents, unless there is a fault, of which the first is answered
abbrev pub contents_or : Option DescFault → ℕ → Result (List Setting) DescFault → Result Contents DescFault
contents_or (Some fault) version settings = Err fault
contents_or None version (Err fault) = Err fault
contents_or None version (Ok settings) = Ok (record { version = version; settings = settings })

-- the contents of a document by its version, or the first fault
abbrev pub contents_by : Result ℕ DescFault → Members → Result Contents DescFault
contents_by (Err fault) document = Err fault
contents_by (Ok v) document = contents_or (document_fault v document) v (settings v document)

-- the contents of a document, or its first fault: the version is looked at before all else
abbrev pub document_contents : Members → Result Contents DescFault
document_contents document = contents_by (version document) document

-- the contents of what a text is as a TOML document, if it is one
abbrev pub text_contents : Option Members → Result Contents DescFault
text_contents None = Err Syntax
text_contents (Some document) = document_contents document

-- what the bytes describe, or their first fault: they have to be UTF-8, and a TOML document
unfoldable pub description_of : List ℕ → Result Contents DescFault
description_of bytes = if is_utf8 bytes then text_contents (parse_document bytes) else Err Syntax

-- a text describes d: it has no fault, it is of the version of d, and it sets each key to what d has there
abbrev pub Describes : List ℕ → Desc → Type 0
Describes bytes d = description_of bytes ≡ Ok (contents d)
