use Rattle.std.proofs.Common.{◌≡◌, ◌++◌, ◌+◌, ◌*◌, take, length, flat_map}
use Rattle.line_text.specs.Digits.{hex2}
use Rattle.line_text.proofs.line.Line.add_hex_bytes.Given as goal

abbrev pub invariant-loop-byte : goal.invariant-loop-byte
invariant-loop-byte l = (l.self ≡ l.initial.self ++ flat_map hex2 (take l.byte-index l.bytes)) × (length l.self ≡ length l.initial.self + 2 * l.byte-index)
