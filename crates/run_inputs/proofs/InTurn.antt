-- What is read in turn: a description, and images one after the other.
use Rattle.std.proofs.Common.{◌≡◌, ◌≤◌, ℕ, List, [], ◌∷◌, take, Option, Some, None, refl, subst, sym, ◌∙◌, inl, inr, arith}
use Rattle.std.specs.Prelude.{slice_get}
use Rattle.std.proofs.lemmas.List.Elements.{All-nil, All-cons, All-head}
use Rattle.elf_loader.specs.Image.{ImageText}
use Rattle.machine_desc.specs.declared.Desc.{Desc}
use Rattle.tool_io.specs.declared.Got.{Got}
use Rattle.tool_io.specs.declared.Got.TheVariants.{Bytes, TooLong}
use Rattle.tool_io.specs.Outside.{Shelf, GetsTold, HasToCopy, SameCounts, SameContents, NameFailed, Rose}
use Rattle.run_inputs.specs.declared.refusal.Which.{Which}
use Rattle.run_inputs.specs.declared.refusal.Refusal.{Refusal}
use Rattle.run_inputs.specs.declared.refusal.Refusal.TheVariants.{ReadImage, ImageTooLong, Image, Memory}
use Rattle.run_inputs.specs.Refused.{place_of}
use Rattle.run_inputs.specs.Input.{image_max, ImageFrom, from_file, from_seed, MayGive, HasBytes, BytesWant, ImageWants, HoldsBytes, HasDesc, DescriptionRefused, NamedRefused, IsImage, FailsToRead, HasTooMany, AreImages, IsRead, Refuses}
use Rattle.run_inputs.specs.inner.Input.{ImageRefused}

-- ---- What the files tell before and after

pub counts_after : (old mid new : Shelf) → SameCounts old mid → SameCounts mid new → SameCounts old new
counts_after old mid new s t n = t n ∙ s n

-- files whose contents stay from one time to the next, and from that to a third, have kept them
pub contents_after : (old mid new : Shelf) → SameContents old mid → SameContents mid new → SameContents old new
contents_after old mid new s t n = t n ∙ s n

failed_after : (name : List ℕ) (old mid new : Shelf) → SameCounts old mid → NameFailed name mid new → NameFailed name old new
failed_after name old mid new s f =
    let P : ℕ → Type 0 = λ k. Rose k (new.faults name) in
    record {
      rose = subst P (s name) f.rose;
      later = λ n. let a : mid.faults n ≡ old.faults n = s n in let b : mid.faults n ≤ new.faults n = f.later n in omega (arith, a, b);
    }

-- what the files may give later they may give before
may_before : (old mid : Shelf) (name : List ℕ) (max : ℕ) (got : Got) → SameContents old mid → MayGive mid name max got → MayGive old name max got
may_before old mid name max got s h = let P : Option (List ℕ) → Type 0 = λ o. GetsTold o max got in subst P (s name) h

bytes_before : (old mid : Shelf) (from : ImageFrom) (file : List ℕ) → SameContents old mid → HasBytes (MayGive mid) from file → HasBytes (MayGive old) from file
bytes_before old mid (from_file name) file s h = may_before old mid name image_max (Bytes file) s h
bytes_before old mid (from_seed seed blocks) file s h = h

too_many_before : (old mid : Shelf) (from : ImageFrom) → SameContents old mid → HasTooMany (MayGive mid) from → HasTooMany (MayGive old) from
too_many_before old mid (from_file name) s h = may_before old mid name image_max TooLong s h
too_many_before old mid (from_seed seed blocks) s h = h

fails_before : (old mid new : Shelf) (from : ImageFrom) → SameCounts old mid → FailsToRead mid new from → FailsToRead old new from
fails_before old mid new (from_file name) s h = failed_after name old mid new s h
fails_before old mid new (from_seed seed blocks) s h = h

pub image_before : (old mid : Shelf) (desc : Option Desc) (from : ImageFrom) (image : ImageText) → SameContents old mid → IsImage (MayGive mid) desc from image
    → IsImage (MayGive old) desc from image
image_before old mid desc from image s i = record { file = i.file; content = bytes_before old mid from i.file s i.content; loads = i.loads }

-- what may need memory later may need it before
bytes_want_before : (old mid : Shelf) (from : ImageFrom) → SameContents old mid → BytesWant mid from → BytesWant old from
bytes_want_before old mid (from_file name) s h = let P : Option (List ℕ) → Type 0 = λ o. HasToCopy o image_max in subst P (s name) h
bytes_want_before old mid (from_seed seed blocks) s h = tt

wants_before : (old mid : Shelf) (from : ImageFrom) → SameContents old mid → ImageWants mid from → ImageWants old from
wants_before old mid from s (inl bytes) = inl (bytes_want_before old mid from s bytes)
wants_before old mid from s (inr h) = inr (h.0, bytes_before old mid from h.0 s h.1, h.2)

-- ---- Refusals in their turn

-- a description is refused before any image
pub description_refused : (name : List ℕ) (sources : List ImageFrom) (old new : Shelf) (e : Refusal) → DescriptionRefused name old new e → Refuses (Some name) sources old new e
description_refused name sources old new (ReadImage which) h = absurd h
description_refused name sources old new (ImageTooLong which) h = absurd h
description_refused name sources old new (Image which fault) h = absurd h
description_refused name sources old new Memory h = (inl (name, refl, h.0), h.1)
description_refused name sources old new _ h = h

pub named_refused : (name : Option (List ℕ)) (sources : List ImageFrom) (old new : Shelf) (e : Refusal) → NamedRefused name old new e → Refuses name sources old new e
named_refused None sources old new e h = absurd h
named_refused (Some name) sources old new e h = description_refused name sources old new e h

-- what was read before an image: the description, and the images before it
pub record ReadBefore (old mid : Shelf) (name : Option (List ℕ)) (sources : List ImageFrom) (place : ℕ) (desc : Option Desc) : Type 0 where
  pub described : HasDesc (MayGive old) name desc
  pub earlier : List ImageText
  pub are_images : AreImages (MayGive old) desc (take place sources) earlier
  pub counts : SameCounts old mid
  pub contents : SameContents old mid

-- an image is refused at its place
pub image_refused : (old mid new : Shelf) (name : Option (List ℕ)) (sources : List ImageFrom) (which : Which) (desc : Option Desc) (from : ImageFrom) (e : Refusal)
    → ReadBefore old mid name sources (place_of which) desc → slice_get sources (place_of which) ≡ Some from → ImageRefused which desc from mid new e → Refuses name sources old new e
image_refused old mid new name sources which desc from (ReadImage w) r t h =
    let P : Which → Type 0 = λ w. Refuses name sources old new (ReadImage w) in
    subst P (sym h.0) (record { desc = desc; described = r.described; earlier = r.earlier; are_images = r.are_images; from = from; there = t; cause = fails_before old mid new from r.counts h.1 })
image_refused old mid new name sources which desc from (ImageTooLong w) r t h =
    let P : Which → Type 0 = λ w. Refuses name sources old new (ImageTooLong w) in
    subst P (sym h.0) (
      record { desc = desc; described = r.described; earlier = r.earlier; are_images = r.are_images; from = from; there = t; cause = too_many_before old mid from r.contents h.1 },
      counts_after old mid new r.counts h.2,
    )
image_refused old mid new name sources which desc from (Image w fault) r t h =
    let P : Which → Type 0 = λ w. Refuses name sources old new (Image w fault) in
    let f = h.1 in
    subst P (sym h.0) (
      record {
        desc = desc;
        described = r.described;
        earlier = r.earlier;
        are_images = r.are_images;
        from = from;
        there = t;
        cause = record { file = f.file; content = bytes_before old mid from f.file r.contents f.content; refused = f.refused };
      },
      counts_after old mid new r.counts h.2,
    )
image_refused old mid new name sources which desc from Memory r t h = (
  inr (
    place_of which,
    record { desc = desc; described = r.described; earlier = r.earlier; are_images = r.are_images; from = from; there = t; cause = wants_before old mid from r.contents h.0 },
  ),
  counts_after old mid new r.counts h.1,
)
image_refused old mid new name sources which desc from _ r t h = absurd h

-- ---- What was read before

-- a description was read, and then one image
pub one_read : (old mid new : Shelf) (name : Option (List ℕ)) (desc : Option Desc) (from : ImageFrom) (image : ImageText) → HasDesc (MayGive old) name desc → SameCounts old mid
    → SameContents old mid → IsImage (MayGive mid) desc from image → HoldsBytes image → SameCounts mid new → IsRead old new name (from ∷ []) desc (image ∷ [])
one_read old mid new name desc from image d s c i b t =
    record { described = d; are_images = (image_before old mid desc from image c i, tt); hold_bytes = All-cons HoldsBytes image [] b (All-nil HoldsBytes); counts = counts_after old mid new s t }

-- a description was read, then one image and then a second
pub two_read : (old mid new : Shelf) (name : Option (List ℕ)) (desc : Option Desc) (from from2 : ImageFrom) (one two : ImageText) → IsRead old mid name (from ∷ []) desc (one ∷ [])
    → SameContents old mid → IsImage (MayGive mid) desc from2 two → HoldsBytes two → SameCounts mid new → IsRead old new name (from ∷ from2 ∷ []) desc (one ∷ two ∷ [])
two_read old mid new name desc from from2 one two r c i b t = record {
  described = r.described;
  are_images = (r.are_images.0, (image_before old mid desc from2 two c i, tt));
  hold_bytes = All-cons HoldsBytes one (two ∷ []) (All-head HoldsBytes one [] r.hold_bytes) (All-cons HoldsBytes two [] b (All-nil HoldsBytes));
  counts = counts_after old mid new r.counts t;
}
