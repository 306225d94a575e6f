-- What callers need of images: which one a file is, and where its code may stand.
use Rattle.std.proofs.Common.{◌≡◌, ℕ, ◌+◌, ◌-◌, ◌/◌, ◌%◌, ◌<◌, ◌≤◌, Bool, true, false, ◌&&◌, cond, nat_le, List, [], ◌∷◌, get_or, Option, None, Some, IsSome, Ok, Err, refl, ap, ◌∙◌, ◌⊎◌, inl, inr, arith}
use Rattle.std.specs.Prelude.{◌==◌}
use Rattle.std.specs.List.{list_any}
use Rattle.std.proofs.lemmas.Bool.{false≢true}
use Rattle.std.proofs.lemmas.Bool.Decides.{nat_tests}
use Rattle.rv_types.specs.Memory.{Ram, zeros, bytes_at}
use Rattle.rv_types.specs.Word.{from_le}
use Rattle.elf_loader.specs.declared.faults.ElfFault.{ElfFault}
use Rattle.elf_loader.specs.Faults.{first_some, header_fault}
use Rattle.elf_loader.specs.Image.{ImageText, ram_fault, ram_after, image_in, unless, image_of, code_of, has_code, loads_of}
use Rattle.elf_loader.specs.inner.Code.{CodeText, word_at}

-- a file without fault is its image in this memory
pub image_without : (file : List ℕ) (base size : ℕ) (misaligned : Bool) → header_fault file ≡ None → ram_fault file (record { base = base; bytes = zeros size; misaligned = misaligned }) ≡ None
    → image_of file base size misaligned ≡ Ok (image_in file (record { base = base; bytes = zeros size; misaligned = misaligned }))
unfolding image_of
image_without file base size misaligned h r =
    let ram : Ram = record { base = base; bytes = zeros size; misaligned = misaligned } in
    let e : first_some (header_fault file ∷ ram_fault file ram ∷ []) ≡ None =
    ap (λ (o : Option ElfFault). first_some (o ∷ ram_fault file ram ∷ [])) h ∙ ap (λ (o : Option ElfFault). first_some (o ∷ [])) r in
    ap (λ (o : Option ElfFault). unless o (image_in file ram)) e

-- a file whose headers have a fault loads no image, and is refused for it
pub image_headers : (file : List ℕ) (base size : ℕ) (misaligned : Bool) (e : ElfFault) → header_fault file ≡ Some e → image_of file base size misaligned ≡ Err e
unfolding image_of
image_headers file base size misaligned e h =
    let ram : Ram = record { base = base; bytes = zeros size; misaligned = misaligned } in
    ap (λ (o : Option ElfFault). unless (first_some (o ∷ ram_fault file ram ∷ [])) (image_in file ram)) h

-- a file with good headers and a segment outside memory loads no image, and is refused for that segment
pub image_outside : (file : List ℕ) (base size : ℕ) (misaligned : Bool) (e : ElfFault) → header_fault file ≡ None → ram_fault file (record { base = base; bytes = zeros size; misaligned = misaligned }) ≡ Some e → image_of file base size misaligned ≡ Err e
unfolding image_of
image_outside file base size misaligned e h r =
    let ram : Ram = record { base = base; bytes = zeros size; misaligned = misaligned } in
    ap (λ (o : Option ElfFault). unless (first_some (o ∷ ram_fault file ram ∷ [])) (image_in file ram)) h
    ∙ ap (λ (o : Option ElfFault). unless (first_some (o ∷ [])) (image_in file ram)) r

-- ---- Where code stands in memory

whole_by : (n : ℕ) (b : Bool) (x : Option ℕ) (whole : Bool) → (n == 0) ≡ whole → IsSome (cond (whole && b) x None) → n ≡ 0
whole_by n b x true e h = grind (arith, nat_tests)
whole_by n b x false e h = absurd (false≢true h)

-- the words of code stand at multiples of 4
pub code_aligned : (code : CodeText) (pc : ℕ) → IsSome (word_at code pc) → pc % 4 ≡ 0
code_aligned code pc h = whole_by (pc % 4) (nat_le code.base pc) (get_or code.words ((pc - code.base) / 4) None) (pc % 4 == 0) refl h

pub code_of_aligned : (file : List ℕ) (ram : Ram) (pc : ℕ) → IsSome (code_of file ram pc) → pc % 4 ≡ 0
unfolding code_of
code_of_aligned file ram pc h = whole_by (pc % 4) (list_any (has_code pc) (loads_of file)) (Some (from_le (bytes_at ram pc 4))) (pc % 4 == 0) refl h

by_fault : (o : Option ElfFault) (i x : ImageText) → unless o i ≡ Ok x → i ≡ x
by_fault None i x e = cc
by_fault (Some f) i x e = absurd (cc)

some_is : {T : Type 0} (o : Option T) (t : T) → o ≡ Some t → IsSome o
some_is None t e = absurd (cc)
some_is (Some u) t e = refl

-- an image's instructions stand at multiples of 4
pub at_words : (file : List ℕ) (base size : ℕ) (misaligned : Bool) (image : ImageText) → image_of file base size misaligned ≡ Ok image → (pc word : ℕ) → image.code pc ≡ Some word → pc % 4 ≡ 0
unfolding image_of
at_words file base size misaligned image e pc word h =
    let ram : Ram = record { base = base; bytes = zeros size; misaligned = misaligned } in
    let same : image_in file ram ≡ image = by_fault (first_some (header_fault file ∷ ram_fault file ram ∷ [])) (image_in file ram) image e in
    let code : code_of file (ram_after file ram) pc ≡ image.code pc = ap (λ (x : ImageText). x.code pc) same in
    code_of_aligned file (ram_after file ram) pc (some_is _ word (code ∙ h))

-- an instruction that may be fetched stands in memory
pub inside_by : (low high pc : ℕ) (any : Bool) → any ≡ true → ((pc < low) ⊎ (high < pc + 4) → any ≡ false) → (pc < low) ⊎ (low ≤ pc) → (high < pc + 4) ⊎ (pc + 4 ≤ high) → (low ≤ pc) × (pc + 4 ≤ high)
inside_by low high pc any t none (inl l) b = let f = none (inl l) in absurd (cc)
inside_by low high pc any t none (inr l) (inl u) = let f = none (inr u) in absurd (cc)
inside_by low high pc any t none (inr l) (inr u) = (l, u)
