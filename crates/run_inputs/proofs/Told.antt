-- What is told of the files decides what was read.
use Rattle.std.proofs.Common.{◌≡◌, ◌≤◌, ◌<◌, inl, inr, ℕ, zero, suc, List, [], ◌∷◌, length, Option, Some, None, Err, refl, sym, ap, ap₂, ◌∙◌, subst, arith}
use Rattle.std.specs.Prelude.{slice_get}
use Rattle.machine_desc.specs.Description.{description_of, Describes}
use Rattle.machine_desc.specs.declared.Desc.{Desc}
use Rattle.machine_desc.specs.declared.fault.DescFault.{DescFault}
use Rattle.tool_io.specs.declared.Got.{Got}
use Rattle.tool_io.specs.declared.Got.TheVariants.{Bytes, TooLong}
use Rattle.tool_io.specs.Outside.{Shelf, IsGotOf, GetsTold}
use Rattle.machine_desc.proofs.SameDesc.{one_description}
use Rattle.elf_loader.specs.Image.{ImageText, image_of}
use Rattle.elf_loader.specs.declared.faults.ElfFault.{ElfFault}
use Rattle.run_inputs.specs.declared.refusal.Refusal.TheVariants.{DescriptionTooLong, Description}
use Rattle.run_inputs.specs.Input.{description_max, image_max, base_of, size_of, misaligned_of, ImageFrom, from_file, from_seed, MayGive, Gives, HasDesc, IsFaultyDescription, NamedRefused, HasBytes, IsImage, HasTooMany, HasFault, IsFaultyImage, AreImages}

-- one thing is got of contents under a limit
got_once : (content : List ℕ) (max : ℕ) (a b : Got) → IsGotOf content max a → IsGotOf content max b → b ≡ a
got_once content max (Bytes x) (Bytes y) p q = ap Bytes (q.0 ∙ sym p.0)
got_once content max (Bytes x) TooLong p q = let short : length content ≤ max = p.1 in let long : max < length content = q in absurd (omega (arith, short, long))
got_once content max TooLong (Bytes y) p q = let long : max < length content = p in let short : length content ≤ max = q.1 in absurd (omega (arith, long, short))
got_once content max TooLong TooLong p q = refl

-- where the files give something they may give nothing else
given : (shelf : Shelf) (name : List ℕ) (max : ℕ) (a b : Got) → Gives shelf name max a → MayGive shelf name max b → b ≡ a
given shelf name max a b g m = let P : Option (List ℕ) → Type 0 = λ o. GetsTold o max b in got_once g.0 max a b g.2 (subst P g.1 m)

same_text : (shelf : Shelf) (name : List ℕ) (max : ℕ) (x y : List ℕ) → Gives shelf name max (Bytes x) → MayGive shelf name max (Bytes y) → y ≡ x
same_text shelf name max x y g m = let same : Bytes y ≡ Bytes x = given shelf name max (Bytes x) (Bytes y) g m in cc

-- what isn't longer than the limit isn't given as longer, nor the other way around
short_not_long : (shelf : Shelf) (name : List ℕ) (max : ℕ) (x : List ℕ) → Gives shelf name max (Bytes x) → MayGive shelf name max TooLong → ⊥
short_not_long shelf name max x g m = let same : TooLong ≡ Bytes x = given shelf name max (Bytes x) TooLong g m in cc

long_not_short : (shelf : Shelf) (name : List ℕ) (max : ℕ) (y : List ℕ) → Gives shelf name max TooLong → MayGive shelf name max (Bytes y) → ⊥
long_not_short shelf name max y g m = let same : Bytes y ≡ TooLong = given shelf name max TooLong (Bytes y) g m in cc

-- ---- The description of a run

-- the description of a run is the one that is told
pub told_desc : (shelf : Shelf) (description : Option (List ℕ)) (desc desc' : Option Desc) → HasDesc (Gives shelf) description desc → HasDesc (MayGive shelf) description desc' → desc' ≡ desc
told_desc shelf None desc desc' t h = h ∙ sym t
told_desc shelf (Some name) desc desc' t h =
    let P : List ℕ → Type 0 = λ x. Describes x h.1 in
    let one : h.1 ≡ t.1 = one_description t.0 h.1 t.1 (subst P (same_text shelf name description_max t.0 h.0 t.2 h.2) h.3) t.3 in
    h.4 ∙ (ap Some one ∙ sym t.4)

-- a text that is a description has no fault
pub not_both : (text read : List ℕ) (d : Desc) (fault : DescFault) → read ≡ text → Describes read d → description_of text ≡ Err fault → ⊥
not_both text read d fault e h f = let k : description_of read ≡ Err fault = ap description_of e ∙ f in cc

-- a told description is not longer than it may be
pub not_longer : (shelf new : Shelf) (d : Option (List ℕ)) (desc : Option Desc) → HasDesc (Gives shelf) d desc → NamedRefused d shelf new DescriptionTooLong → ⊥
not_longer shelf new None desc t h = h
not_longer shelf new (Some name) desc t h = short_not_long shelf name description_max t.0 t.2 h.0

-- a description that the files tell has no fault
pub not_refused : (shelf new : Shelf) (d : Option (List ℕ)) (desc : Option Desc) (f : DescFault) → HasDesc (Gives shelf) d desc → NamedRefused d shelf new (Description f) → ⊥
not_refused shelf new None desc f t h = h
not_refused shelf new (Some name) desc f t h =
    let r = h.0 in
    not_both r.0 t.0 t.1 f (sym (same_text shelf name description_max t.0 r.0 t.2 r.1)) t.3 r.2

-- what is told to be too long or at fault is no description of a run
pub no_desc : (shelf : Shelf) (d : Option (List ℕ)) (desc : Option Desc) (name : List ℕ) → d ≡ Some name → HasDesc (MayGive shelf) d desc → IsFaultyDescription (Gives shelf) name → ⊥
no_desc shelf d desc name e m (inl longer) =
    let P : Option (List ℕ) → Type 0 = λ x. HasDesc (MayGive shelf) x desc in
    let h : HasDesc (MayGive shelf) (Some name) desc = subst P e m in
    long_not_short shelf name description_max h.0 longer h.2
no_desc shelf d desc name e m (inr f) =
    let P : Option (List ℕ) → Type 0 = λ x. HasDesc (MayGive shelf) x desc in
    let h : HasDesc (MayGive shelf) (Some name) desc = subst P e m in
    let t = f.1 in
    not_both t.0 h.0 h.1 f.0 (same_text shelf name description_max t.0 h.0 t.1 h.2) h.3 t.2

-- ---- An image of a run

-- the bytes that are told are those that a command had
same_bytes : (shelf : Shelf) (from : ImageFrom) (file file' : List ℕ) → HasBytes (Gives shelf) from file → HasBytes (MayGive shelf) from file' → file' ≡ file
same_bytes shelf (from_file name) file file' t h = same_text shelf name image_max file file' t h
same_bytes shelf (from_seed seed blocks) file file' t h = h ∙ sym t

-- bytes that are told to be too many are none that a command had
too_many : (shelf : Shelf) (from : ImageFrom) (file : List ℕ) → HasTooMany (Gives shelf) from → HasBytes (MayGive shelf) from file → ⊥
too_many shelf (from_file name) file t h = long_not_short shelf name image_max file t h
too_many shelf (from_seed seed blocks) file t h = t

-- an image of these bytes in this memory, by those that are told
image_is : (desc desc' : Option Desc) (file file' : List ℕ) → desc' ≡ desc → file' ≡ file → image_of file' (base_of desc') (size_of desc') (misaligned_of desc')
    ≡ image_of file (base_of desc) (size_of desc) (misaligned_of desc)
image_is desc desc' file file' a c =
    ap (λ x. image_of x (base_of desc') (size_of desc') (misaligned_of desc')) c ∙ ap (λ (d : Option Desc). image_of file (base_of d) (size_of d) (misaligned_of d)) a

-- the image that a command had is the one that is told
same_image : (shelf : Shelf) (desc desc' : Option Desc) (from : ImageFrom) (image image' : ImageText) → desc' ≡ desc → IsImage (Gives shelf) desc from image → IsImage (MayGive shelf) desc' from image'
    → image' ≡ image
same_image shelf desc desc' from image image' d t i =
    let e = image_is desc desc' t.file i.file d (same_bytes shelf from t.file i.file t.content i.content) in
    let told = t.loads in
    let had = i.loads in
    cc

-- an image that is told to be too long or at fault is none that a command had
not_faulty : (shelf : Shelf) (desc desc' : Option Desc) (from : ImageFrom) (image : ImageText) → desc' ≡ desc → IsImage (MayGive shelf) desc' from image → IsFaultyImage (Gives shelf) desc from → ⊥
not_faulty shelf desc desc' from image d i (inl longer) = too_many shelf from i.file longer i.content
not_faulty shelf desc desc' from image d i (inr f) =
    let t = f.1 in
    let e = image_is desc desc' t.file i.file d (same_bytes shelf from t.file i.file t.content i.content) in
    let told = t.refused in
    let had = i.loads in
    cc

-- the image that is told has no fault
pub no_fault : (shelf : Shelf) (desc desc' : Option Desc) (from : ImageFrom) (image : ImageText) (fault : ElfFault) → desc' ≡ desc → IsImage (Gives shelf) desc from image
    → HasFault (MayGive shelf) desc' from fault → ⊥
no_fault shelf desc desc' from image fault d t f =
    let e = image_is desc desc' t.file f.file d (same_bytes shelf from t.file f.file t.content f.content) in
    let told = t.loads in
    let had = f.refused in
    cc

-- an image that the files tell has not too many bytes
pub not_too_many : (shelf : Shelf) (desc : Option Desc) (from : ImageFrom) (image : ImageText) → IsImage (Gives shelf) desc from image → HasTooMany (MayGive shelf) from → ⊥
not_too_many shelf desc (from_file name) image t h = short_not_long shelf name image_max t.file t.content h
not_too_many shelf desc (from_seed seed blocks) image t h = h

-- ---- Images of a run

-- where all are told, each is
pub told_at : (shelf : Shelf) (desc : Option Desc) (sources : List ImageFrom) (images : List ImageText) (place : ℕ) (from : ImageFrom) → AreImages (Gives shelf) desc sources images
    → slice_get sources place ≡ Some from → (image : ImageText) × IsImage (Gives shelf) desc from image
told_at shelf desc [] images place from t e = let k : None ≡ Some from = e in absurd (cc)
told_at shelf desc (x ∷ rest) [] place from t e = absurd t
told_at shelf desc (x ∷ rest) (image ∷ images) zero from t e =
    let k : Some x ≡ Some from = e in
    let same : x ≡ from = cc in
    let P : ImageFrom → Type 0 = λ y. IsImage (Gives shelf) desc y image in
    (image, subst P same t.0)
told_at shelf desc (x ∷ rest) (image ∷ images) (suc place) from t e = told_at shelf desc rest images place from t.1 e

-- where all have an image, none is told to be faulty
pub none_faulty : (shelf : Shelf) (desc desc' : Option Desc) (sources : List ImageFrom) (images : List ImageText) (place : ℕ) (from : ImageFrom) → desc' ≡ desc
    → AreImages (MayGive shelf) desc' sources images → slice_get sources place ≡ Some from → IsFaultyImage (Gives shelf) desc from → ⊥
none_faulty shelf desc desc' [] images place from d a e x = let k : None ≡ Some from = e in absurd (cc)
none_faulty shelf desc desc' (y ∷ rest) [] place from d a e x = absurd a
none_faulty shelf desc desc' (y ∷ rest) (image ∷ images) zero from d a e x =
    let k : Some y ≡ Some from = e in
    let same : y ≡ from = cc in
    let P : ImageFrom → Type 0 = λ z. IsImage (MayGive shelf) desc' z image in
    not_faulty shelf desc desc' from image d (subst P same a.0) x
none_faulty shelf desc desc' (y ∷ rest) (image ∷ images) (suc place) from d a e x = none_faulty shelf desc desc' rest images place from d a.1 e x

-- the images that a command had are those that are told
pub same_images : (shelf : Shelf) (desc desc' : Option Desc) (sources : List ImageFrom) (images images' : List ImageText) → desc' ≡ desc → AreImages (Gives shelf) desc sources images
    → AreImages (MayGive shelf) desc' sources images' → images' ≡ images
same_images shelf desc desc' [] [] [] d t a = refl
same_images shelf desc desc' [] [] (y ∷ ys) d t a = absurd a
same_images shelf desc desc' [] (x ∷ xs) images' d t a = absurd t
same_images shelf desc desc' (from ∷ rest) [] images' d t a = absurd t
same_images shelf desc desc' (from ∷ rest) (x ∷ xs) [] d t a = absurd a
same_images shelf desc desc' (from ∷ rest) (x ∷ xs) (y ∷ ys) d t a =
    ap₂ (λ b bs. b ∷ bs) (same_image shelf desc desc' from x y d t.0 a.0) (same_images shelf desc desc' rest xs ys d t.1 a.1)
