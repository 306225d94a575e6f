-- The word at an address, by the instruction that is read there, and what shows of it.
use Rattle.std.proofs.Common.{◌≡◌, ℕ, Bool, List, Option, None, Some, refl, ap, ap₂, ◌∙◌}
use Rattle.std.specs.Prelude.{if◌then◌else◌}
use Rattle.std.specs.Option.{option_map}
use Rattle.rv_types.specs.Decode.{decode}
use Rattle.rv_types.specs.Causes.{outside_code}
use Rattle.rv_types.specs.Isa.{Hart, Goes, Traps, isa_step, step_of}
use Rattle.rv_types.specs.Kind.{kind_of}
use Rattle.rv_types.specs.Memory.{Code}
use Rattle.rv_types.specs.declared.Instr.{Instr}
use Rattle.rv_types.specs.declared.Kind.{Kind}
use Rattle.isa_step.proofs.Steps.{nothing_there, plain_there}
use Rattle.window_model.specs.Fetch.{instr_at, kind_at}
use Rattle.secret_marks.specs.declared.WordMarks.{WordMarks}
use Rattle.constant_time.specs.PathMarks.{shows_as}

some_is : (w : ℕ) (i : Instr) → Some i ≡ option_map decode (Some w) → i ≡ decode w
some_is w i e = cc

pub instr_there : (word : Option ℕ) (i : Instr) → Some i ≡ option_map decode word → i ≡ instr_at word
instr_there None i e = absurd (cc)
instr_there (Some w) i e = some_is w i e

kind_there : (word : Option ℕ) (i : Instr) → Some i ≡ option_map decode word → kind_of i ≡ kind_at word
kind_there None i e = absurd (cc)
kind_there (Some w) i e = ap kind_of (some_is w i e)

-- ---- what shows

-- outside code nothing shows
pub nothing_shows : (word : Option ℕ) (s : Hart) (m : List WordMarks) → None ≡ option_map decode word →
    None ≡ (if shows_as (kind_at word) s (instr_at word) m then Some (kind_at word) else None)
nothing_shows None s m e = refl
nothing_shows (Some w) s m e = absurd (cc)

-- of an instruction that is read there shows what its kind leaks
pub shown_there : (word : Option ℕ) (s : Hart) (m : List WordMarks) (i : Instr) (k : Kind) (b : Bool) → Some i ≡ option_map decode word → k ≡ kind_of i →
    b ≡ shows_as k s i m → (if b then Some k else None) ≡ (if shows_as (kind_at word) s (instr_at word) m then Some (kind_at word) else None)
shown_there word s m i k b e ek eb =
    let kind = ek ∙ kind_there word i e in
    ap₂ (λ b k. if b then Some k else None) (eb ∙ ap₂ (λ k i. shows_as k s i m) kind (instr_there word i e)) kind

-- ---- the step

-- a step that goes on is that of the instruction that is read there
pub goes_there : (code : Code) (s t : Hart) (p : List ℕ) (i : Instr) → Some i ≡ option_map decode (code s.pc) → isa_step code s ≡ Goes t p → step_of s i ≡ Goes t p
unfolding isa_step
goes_there code s t p i h e = plain_there (code s.pc) i s h ∙ e

-- no step goes on outside code
never_goes : (code : Code) (s t : Hart) (p : List ℕ) → None ≡ option_map decode (code s.pc) → isa_step code s ≡ Goes t p → ⊥
unfolding isa_step
never_goes code s t p h e =
    let x : Traps outside_code ≡ Goes t p = nothing_there (code s.pc) s h ∙ e in absurd (cc)

some_of : (word : Option ℕ) → (None ≡ option_map decode word → ⊥) → Some (instr_at word) ≡ option_map decode word
some_of None h = absurd (h refl)
some_of (Some w) h = refl

-- a step that goes on is that of an instruction that may be fetched
pub some_there : (code : Code) (s t : Hart) (p : List ℕ) → isa_step code s ≡ Goes t p → Some (instr_at (code s.pc)) ≡ option_map decode (code s.pc)
some_there code s t p e = some_of (code s.pc) (λ h. never_goes code s t p h e)
