-- What is told of a text before its keys are looked at: whether it is one, a TOML document, and of which version (docs/formats.md, "Faults
-- of descriptions").
use Rattle.std.proofs.Common.{◌≡◌, List, [], ◌∷◌, refl}
use Rattle.std.specs.Prelude.{Bool, true, ℕ, ◌++◌, codes}
use Rattle.std.specs.Fmt.{digits}
use Rattle.std.specs.Float.Numeral.{scan_numeral}
use Rattle.std.specs.Str.{is_utf8, chars}
use lib.Count.{ones}
use lib.Utf8.{encode}
use Prim.Native.String.{String}
use Rattle.toml_parser.specs.Lexical.{skip_from, skip_ws}
use Rattle.toml_parser.specs.Numbers.{decimal_number, number, plain_number, underscore_fits, unquoted, word_len, word_value}
use Rattle.toml_parser.specs.Strings.{body, key_after, one_line, quoted, simple_key, special}
use Rattle.toml.specs.Parse.{atom, expression, header_key, key_equals, line, lines, parse_document, skip_bom, val}
use Rattle.toml.specs.Tables.{along_dots, along_header, at_key, define}
use Rattle.machine_desc.specs.Description.{description_of, document_fault, end_fault, key_fault, keys_fault, latency_fault, registers_fault, second_fault, sections_fault, top_fault}
use Rattle.worked_inputs.proofs.Tables.{all, is_text}
use Rattle.worked_inputs.proofs.Documents.{told}

-- this is told of these bytes, of this text
abbrev tells_bytes : List ℕ → String → Bool
tells_bytes bytes fault = is_text (told (description_of bytes)) fault

abbrev tells : String → String → Bool
tells text fault = tells_bytes (codes text) fault

texts : all (
    tells "" "K3 core.fetch_width" ∷
    tells "version" "K1" ∷
    tells "version = 2 2" "K1" ∷
    tells "version = 1\nversion = 1" "K1" ∷
    tells "version = 3" "K5 version 3" ∷
    tells "version = 2\n[core]\nfetch_width = 0" "K5 core.fetch_width 0" ∷
    tells_bytes (255 ∷ []) "K1" ∷
    tells_bytes (codes "version = 3 # " ++ 255 ∷ []) "K1" ∷
    tells_bytes (codes "version = 3 # " ++ 195 ∷ 164 ∷ []) "K5 version 3" ∷
    []) ≡ true
unfolding ones encode scan_numeral digits chars is_utf8 skip_from skip_ws decimal_number number plain_number underscore_fits unquoted word_len word_value body key_after one_line quoted simple_key special atom expression header_key key_equals line lines parse_document skip_bom val along_dots along_header at_key define description_of document_fault end_fault key_fault keys_fault latency_fault registers_fault second_fault sections_fault top_fault
texts = refl
