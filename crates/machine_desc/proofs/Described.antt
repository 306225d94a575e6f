-- The text of the example describes the example, by evaluation.
use Rattle.std.proofs.Common.{refl}
use Rattle.std.specs.Str.{is_utf8, chars}
use Rattle.std.specs.Float.Numeral.{scan_numeral}
use lib.Utf8.{encode}
use lib.Count.{ones}
use Rattle.toml.specs.Parse.{key_equals, atom, val, header_key, expression, line, lines, skip_bom, parse_document}
use Rattle.toml.specs.Tables.{along_header, along_dots, at_key, define}
use Rattle.toml_parser.specs.Lexical.{skip_ws, skip_from}
use Rattle.toml_parser.specs.Numbers.{underscore_fits, decimal_number, word_value, plain_number, number, word_len, unquoted}
use Rattle.toml_parser.specs.Strings.{special, body, one_line, quoted, simple_key, key_after}
use Rattle.machine_desc.specs.declared.example.TheConstants.{EXAMPLE}
use Rattle.machine_desc.specs.Description.{top_fault, sections_fault, key_fault, keys_fault, latency_fault, end_fault, registers_fault, second_fault, document_fault, description_of, Describes}
use Rattle.machine_desc.specs.Example.{example}

-- the text of the example describes the example
pub described : Describes EXAMPLE.now example
unfolding underscore_fits decimal_number word_value special is_utf8 chars encode ones scan_numeral key_equals atom val header_key expression line lines skip_bom parse_document along_header along_dots at_key define skip_ws skip_from plain_number number word_len unquoted body one_line quoted simple_key key_after top_fault sections_fault key_fault keys_fault latency_fault end_fault registers_fault second_fault document_fault description_of
described = refl
