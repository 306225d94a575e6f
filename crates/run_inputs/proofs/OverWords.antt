-- How a program ends over its words as they were read.
use Rattle.std.proofs.Common.{◌≡◌, ◌≢◌, ℕ, List, [], ◌∷◌, map, Result, Ok, IfOk, refl, sym, subst}
use Rattle.tool_io.specs.Outside.{Shelf, Told}
use Rattle.tool_words.specs.declared.Refused.{Refused}
use Rattle.tool_words.specs.declared.Refused.TheVariants as refused
use Rattle.run_inputs.specs.declared.refusal.Refusal.{Refusal}
use Rattle.run_inputs.specs.declared.refusal.Refusal.TheVariants.{Memory}
use Rattle.run_inputs.specs.Note.{Tells}
use Rattle.run_inputs.specs.Refused.{words_refused, status_of}
use Rattle.run_inputs.specs.Told.{World, world, RefusedAtOnce}

-- how a program ends: by the words, files and output before and after, the note before and after, and the status
abbrev pub EndsBy : Type 1
EndsBy = List (List ℕ) → World → World → Told → Told → ℕ → Type 0

-- a program may end at once for want of memory, where there are words
abbrev pub MayLackMemory : EndsBy → Type 0
MayLackMemory ends = (words : List (List ℕ)) (old new : World) (note note' : Told) (status : ℕ) → words ≢ [] → RefusedAtOnce Memory old new status → Tells Memory note note' → ends words old new note note' status

none_of : {A : Type 0} (f : A → List ℕ) (ws : List A) → map f ws ≡ [] → ws ≡ []
none_of f [] e = refl
none_of f (w ∷ ws) e = absurd (cc)

-- there was no memory to lend the words
pub wants_memory : {A : Type 0} (ends : EndsBy) → MayLackMemory ends → (f : A → List ℕ) (ws : List A) (files : Shelf) (out note note' : Told) (e : Refused) (r : Refusal) (status : ℕ)
    → (e ≡ refused.Memory) × (ws ≢ []) → r ≡ words_refused e → status ≡ status_of r → Tells r note note'
    → ends (map f ws) (world files out) (world files out) note note' status
wants_memory ends law f ws files out note note' refused.Words r status h q s t = absurd (let k = h.0 in cc)
wants_memory ends law f ws files out note note' refused.Memory r status h q s t =
    law (map f ws) (world files out) (world files out) note note' status (λ e. h.1 (none_of f ws e))
    (record { status_is = subst (λ x. status ≡ status_of x) q s; counts = λ n. refl; out = refl })
    (subst (λ x. Tells x note note') q t)

-- equal words end in one way, with one status
pub same_end : (ends : EndsBy) (words words' : List (List ℕ)) (old new : World) (note note' : Told) (status status' : ℕ) → words ≡ words' → status ≡ status'
    → ends words old new note note' status → ends words' old new note note' status'
same_end ends words words' old new note note' status status' w s e =
    subst (λ x. ends words' old new note note' x) s (subst (λ x. ends x old new note note' status) w e)

-- what holds of the words holds where they were read
pub at_ok : {W E : Type 0} (r : Result W E) (w : W) (P : W → Type 0) → r ≡ Ok w → P w → IfOk r P
at_ok r w P e p = subst (λ x. IfOk x P) (sym e) p

-- what follows from what holds of the words holds of them
pub if_ok : {W E : Type 0} (r : Result W E) (P Q : W → Type 0) → ((w : W) → P w → Q w) → IfOk r P → IfOk r Q
if_ok (Ok w) P Q f h = f w h
if_ok _ P Q f h = h
