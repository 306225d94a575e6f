-- What the loader's clauses say of the image of a file.
use Rattle.std.specs.Prelude.{Result, MatchResult, IfOk}
use Rattle.std.proofs.Common.{◌≡◌, ℕ, List, [], ◌∷◌, Bool, Some, None, Ok, Err, Option, length, refl, sym, ap, ap₂, subst, ◌∙◌, ◌⊎◌, inl, inr}
use Rattle.std.proofs.lemmas.List.FromFn.{length-map-range_with_len}
use Rattle.rv_types.specs.Memory.{Ram, Code, zeros}
use Rattle.rv_types.specs.inner.Memory.{length_zeros}
use Rattle.elf_loader.specs.Fields.{entry_of}
use Rattle.elf_loader.specs.Faults.{first_some, header_fault}
use Rattle.elf_loader.specs.Image.{ImageText, image_of, image_in, unless, ram_fault, ram_after, code_of}
use Rattle.elf_loader.proofs.Images.{image_without, image_outside}
use Rattle.elf_loader.specs.declared.faults.ElfFault.{ElfFault}
use Rattle.elf_loader.specs.declared.loading.Image.{Image}
use Rattle.elf_loader.specs.inner.Code.{word_at}
use Rattle.elf_loader.specs.declared.faults.ElfFault.TheVariants as elf
use Rattle.run_inputs.specs.Loaded.{image_text}
use Rattle.run_inputs.specs.declared.refusal.Which.{Which}
use Rattle.run_inputs.specs.declared.refusal.Refusal.{Refusal}
use Rattle.run_inputs.specs.inner.Input.{refusal_of, LoadRefused}

-- memory that is all 0
abbrev pub empty : ℕ → ℕ → Bool → Ram
empty base size misaligned = record { base = base; bytes = zeros size; misaligned = misaligned }

-- where the headers have no fault, a segment outside memory is the file's first
memory_refuses : (file s : List ℕ) (base size : ℕ) (misaligned : Bool) (ram : Ram) (e : ElfFault) → s ≡ file → header_fault file ≡ None
    → ram ≡ empty base size misaligned → ram_fault s ram ≡ Some e → image_of file base size misaligned ≡ Err e
memory_refuses file s base size misaligned ram e q h r f = image_outside file base size misaligned e h (sym (ap₂ ram_fault q r) ∙ f)

image : ℕ → Code → Ram → ImageText
image entry code ram = record { entry = entry; code = code; ram = ram }

same_image : (e e' : ℕ) (c c' : Code) (m m' : Ram) → e ≡ e' → c ≡ c' → m ≡ m' → image e c m ≡ image e' c' m'
same_image e e' c c' m m' p q r = ap (λ x. image x c m) p ∙ (ap (λ x. image e' x m) q ∙ ap (λ x. image e' c' x) r)

-- with no fault, the image is what was loaded
pub loads : (file s : List ℕ) (base size : ℕ) (misaligned : Bool) (ram : Ram) (i : Image) → s ≡ file → header_fault file ≡ None → ram ≡ empty base size misaligned
    → ram_fault s ram ≡ None → i.ram ≡ ram_after s ram → i.entry ≡ entry_of s → word_at i.code ≡ code_of s (ram_after s ram)
    → image_of file base size misaligned ≡ Ok (image_text i)
unfolding image
loads file s base size misaligned ram i q h r f m e c =
    let m' : ram_after file (empty base size misaligned) ≡ i.ram = sym (ap₂ ram_after q r) ∙ sym m in
    let c' : code_of file (ram_after file (empty base size misaligned)) ≡ word_at i.code = sym (ap₂ code_of q (ap₂ ram_after q r)) ∙ sym c in
    let e' : entry_of file ≡ i.entry = sym (e ∙ ap entry_of q) in
    image_without file base size misaligned h (sym (ap₂ ram_fault q r) ∙ f) ∙ ap Ok (same_image _ _ _ _ _ _ e' c' m')

-- a fault of loading is want of memory, or the file's first
pub load_refused : (which : Which) (file s : List ℕ) (base size : ℕ) (misaligned : Bool) (ram : Ram) (e : ElfFault) → s ≡ file → header_fault file ≡ None
    → ram ≡ empty base size misaligned → ((e ≡ elf.NoMemory) × (ram_fault s ram ≡ None)) ⊎ (ram_fault s ram ≡ Some e)
    → LoadRefused which file base size misaligned (refusal_of which e)
load_refused which file s base size misaligned ram elf.NoMemory q h r f = h
load_refused which file s base size misaligned ram e q h r (inl m) = let k = m.0 in absurd (cc)
load_refused which file s base size misaligned ram e q h r (inr f) = (refl, memory_refuses file s base size misaligned ram _ q h r f)

-- ---- Where an image lies

by_fault : (o : Option ElfFault) (i x : ImageText) → unless o i ≡ Ok x → i ≡ x
by_fault None i x e = cc
by_fault (Some f) i x e = absurd (cc)

-- a memory with this base, size and rule for addresses
pub record LiesAt (base size : ℕ) (misaligned : Bool) (ram : Ram) : Type 0 where
  pub base_is : ram.base ≡ base
  pub size_is : length ram.bytes ≡ size
  pub misaligned_is : ram.misaligned ≡ misaligned

-- loading leaves memory in its place, and what it takes of accesses
ram_stays : (file : List ℕ) (ram : Ram) → LiesAt ram.base (length ram.bytes) ram.misaligned (ram_after file ram)
unfolding ram_after
ram_stays file ram = record { base_is = refl; size_is = length-map-range_with_len _ 0 (length ram.bytes); misaligned_is = refl }

-- an image lies in the memory that it was loaded into
pub image_stays : (file : List ℕ) (base size : ℕ) (misaligned : Bool) (i : ImageText) → image_of file base size misaligned ≡ Ok i → LiesAt base size misaligned i.ram
unfolding image_of
image_stays file base size misaligned i e =
    let ram = empty base size misaligned in
    let same : image_in file ram ≡ i = by_fault (first_some (header_fault file ∷ ram_fault file ram ∷ [])) (image_in file ram) i e in
    let stays = ram_stays file ram in
    subst (λ (x : ImageText). LiesAt base size misaligned x.ram) same
    (record { base_is = stays.base_is; size_is = stays.size_is ∙ length_zeros size; misaligned_is = stays.misaligned_is })

-- if an image is loaded, its memory begins at the base that was asked for; below, it has the size
pub loaded_base : (file : List ℕ) (base size : ℕ) (misaligned : Bool) (r : Result Image Refusal) (Q : Refusal → Type 0)
    → MatchResult r (λ i. image_of file base size misaligned ≡ Ok (image_text i)) Q → IfOk r (λ i. i.ram.base ≡ base)
loaded_base file base size misaligned (Ok i) Q h = (image_stays file base size misaligned (image_text i) h).base_is
loaded_base file base size misaligned (Err e) Q h = tt

pub loaded_size : (file : List ℕ) (base size : ℕ) (misaligned : Bool) (r : Result Image Refusal) (Q : Refusal → Type 0)
    → MatchResult r (λ i. image_of file base size misaligned ≡ Ok (image_text i)) Q → IfOk r (λ i. length i.ram.bytes ≡ size)
loaded_size file base size misaligned (Ok i) Q h = (image_stays file base size misaligned (image_text i) h).size_is
loaded_size file base size misaligned (Err e) Q h = tt
