-- The instruction at a place is the decoded word there.
use Rattle.std.proofs.Common.{◌≡◌, ℕ, ◌+◌, ◌-◌, ◌/◌, ◌%◌, ◌<◌, ◌≤◌, Bool, true, ◌&&◌, cond, nat_le, List, length, map, take, ◌∷◌, [], ◌++◌, get_or, Option, None, sym, ap, ap₂, ◌∙◌, arith}
use Rattle.std.specs.Prelude.{◌==◌}
use Rattle.std.specs.Option.{option_map}
use Rattle.std.proofs.Math.ListN.{get_or-map}
use Rattle.std.proofs.lemmas.Bool.Decides.{nat_tests}
use Rattle.std.proofs.lemmas.List.{map_more, map-append}
use Rattle.rv_types.specs.Decode.{decode}
use Rattle.rv_types.specs.declared.Instr.{Instr}
use Rattle.rv_decode.specs.declared.operations.Decoded.{Decoded}
use Rattle.elf_loader.specs.inner.Code.{CodeText, word_at, instr_at, decoded_instr, AreDecoded}

decoded_at : (words : List (Option ℕ)) (decoded : List (Option Decoded)) (k : ℕ) → AreDecoded words decoded → decoded_instr (get_or decoded k None) ≡ option_map decode (get_or words k None)
decoded_at words decoded k h =
    sym (get_or-map decoded_instr decoded k None) ∙ ap (λ (v : List (Option Instr)). get_or v k None) h ∙ get_or-map (option_map decode) words k None

word_there : (code : CodeText) (pc : ℕ) → pc % 4 ≡ 0 → code.base ≤ pc → word_at code pc ≡ get_or code.words ((pc - code.base) / 4) None
word_there code pc a l =
    let whole : (pc % 4 == 0) ≡ true = grind (arith, nat_tests) in
    let low : nat_le code.base pc ≡ true = grind (arith, nat_tests) in
    ap₂ (λ (x y : Bool). cond (x && y) (get_or code.words ((pc - code.base) / 4) None) None) whole low

-- at an address where a place begins
pub instr_there : (code : CodeText) (decoded : List (Option Decoded)) (pc : ℕ) → pc % 4 ≡ 0 → code.base ≤ pc → AreDecoded code.words decoded → decoded_instr (get_or decoded ((pc - code.base) / 4) None) ≡ instr_at code pc
instr_there code decoded pc a l h = decoded_at code.words decoded ((pc - code.base) / 4) h ∙ sym (ap (option_map decode) (word_there code pc a l))

-- the words are decoded up to one more, once that one is
pub decoded_more : (words : List (Option ℕ)) (i : ℕ) (word : Option ℕ) (decoded decoded' : List (Option Decoded)) (d : Option Decoded) → i < length words → word ≡ get_or words i None
    → AreDecoded (take i words) decoded → decoded_instr d ≡ option_map decode word → decoded' ≡ decoded ++ d ∷ [] → AreDecoded (take (i + 1) words) decoded'
decoded_more words i word decoded decoded' d l w h e f =
    ap (map decoded_instr) f ∙ map-append decoded_instr decoded (d ∷ []) ∙ ap₂ (λ (xs : List (Option Instr)) (x : Option Instr). xs ++ x ∷ []) h (e ∙ ap (option_map decode) w)
    ∙ sym (map_more (option_map decode) words i None l)
