-- What each status says follows from how the program ends: by classes of ends. What is told is written whole or in
-- part, the words ask for nothing, memory was wanting, or the description or the image is refused.
use Rattle.std.proofs.Common.{◌≡◌, ◌⊎◌, ℕ, zero, suc, List, [], ◌∷◌, Option, Some, None, Result, Ok, Err, refl, sym, ap, ap₂, ◌∙◌, subst, inl, inr, arith}
use Rattle.rv_types.specs.declared.End.{End}
use Rattle.rv_types.specs.declared.End.TheVariants.{Exit, Trap}
use Rattle.elf_loader.specs.Image.{ImageText}
use Rattle.elf_loader.specs.declared.faults.ElfFault.{ElfFault}
use Rattle.machine_desc.specs.declared.Desc.{Desc}
use Rattle.machine_desc.specs.declared.fault.DescFault.{DescFault}
use Rattle.window_model.specs.Cycle.{Trace}
use Rattle.tool_io.specs.Outside.{Shelf, Told, Wrote, WrotePrefix, SameCounts, NameFailed, Rose}
use Rattle.run_inputs.specs.declared.refusal.Which.{Which}
use Rattle.run_inputs.specs.declared.refusal.Refusal.{Refusal}
use Rattle.run_inputs.specs.declared.refusal.Refusal.TheVariants.{Words, ReadDescription, DescriptionTooLong, Description, ReadImage, ImageTooLong, Image, Write, Memory}
use Rattle.run_inputs.specs.Refused.{place_of}
use Rattle.run_inputs.specs.Input.{MayGive, Gives, HasDesc, IsFaultyDescription, ImageFrom, from_file, IsImage, HasTooMany, HasFault, IsFaultyImage, RefusedAt, FailsToRead}
use Rattle.run_inputs.specs.Told.{World}
use Rattle.run_inputs.proofs.Told.{told_desc, no_desc, not_longer, not_refused, none_faulty, same_images, no_fault, not_too_many}
use Rattle.stats_words.specs.Words.{AskedText, asked_of}
use Rattle.stats_top.specs.Outcome.{end_status, status_of}
use Rattle.stats_top.specs.Top.{Asks, Inputs, RefusedInputs, run_in, told_in, Ends, Statuses, IsTold}
use Rattle.stats_top.proofs.Outcomes.{not_empty}

-- words that ask for something don't ask for nothing
clash : {o : Option AskedText} {w : AskedText} → o ≡ Some w → o ≡ None → ⊥
clash p q = cc

-- what holds of something that the words ask for holds of what they ask for
of_asked : (words : List (List ℕ)) (P : AskedText → Type 0) (asked : AskedText) → asked_of words ≡ Some asked → Asks words P → P asked
of_asked words P asked k a =
    let first : asked_of words ≡ Some a.0 = a.1 in
    let same : a.0 ≡ asked = cc in
    subst P same a.2

-- a run's end has status 0, 1 or 3
told_status : (e : Option End) → IsTold (end_status e)
told_status (Some (Exit value)) = inl refl
told_status (Some (Trap cause pc)) = inr (inl refl)
told_status None = inr (inr refl)

-- it has no other status
other_status : (e : Option End) (n : ℕ) → (IsTold n → ⊥) → end_status e ≡ n → ⊥
other_status e n h q = h (subst IsTold q (told_status e))

-- where there is one image, that one is refused
refused_image : (old : Shelf) (name : Option (List ℕ)) (from : ImageFrom) (place : ℕ) (P : Option Desc → ImageFrom → Type 0) → RefusedAt old name (from ∷ []) place P
    → (desc : Option Desc) × HasDesc (MayGive old) name desc × P desc from
refused_image old name from zero P r =
    let there : Some from ≡ Some r.from = r.there in
    let same : r.from ≡ from = cc in
    (r.desc, r.described, subst (P r.desc) same r.cause)
refused_image old name from (suc n) P r = let none : None ≡ Some r.from = r.there in absurd (cc)

module _ (words : List (List ℕ)) (old new : World) where
  -- the image that is asked for is refused, for each cause
  unread : (asked : AskedText) (which : Which) → RefusedInputs asked old.files new.files (ReadImage which)
      → (desc : Option Desc) × HasDesc (MayGive old.files) (Some asked.description) desc × NameFailed asked.image old.files new.files
  unread asked which r =
      refused_image old.files (Some asked.description) (from_file asked.image) (place_of which) (λ desc from. FailsToRead old.files new.files from) r

  too_long : (asked : AskedText) (which : Which) → RefusedInputs asked old.files new.files (ImageTooLong which)
      → (desc : Option Desc) × HasDesc (MayGive old.files) (Some asked.description) desc × HasTooMany (MayGive old.files) (from_file asked.image)
  too_long asked which r =
      refused_image old.files (Some asked.description) (from_file asked.image) (place_of which) (λ desc from. HasTooMany (MayGive old.files) from) r.0

  at_fault : (asked : AskedText) (which : Which) (f : ElfFault) → RefusedInputs asked old.files new.files (Image which f)
      → (desc : Option Desc) × HasDesc (MayGive old.files) (Some asked.description) desc × HasFault (MayGive old.files) desc (from_file asked.image) f
  at_fault asked which f r =
      refused_image old.files (Some asked.description) (from_file asked.image) (place_of which) (λ desc from. HasFault (MayGive old.files) desc from f) r.0

  -- ---- What comes of each status

  told : (r : Result (Option End) Refusal) → Ends words old new r → IsTold (status_of r)
      → Asks words (λ asked. (i : Inputs asked old.files new.files) × Wrote (told_in asked i.desc i.image) old.out new.out × (status_of r ≡ end_status (run_in asked i.desc i.image).end))
  told (Ok v) e h = (e.0, e.1, (e.2.0, e.2.1, ap end_status e.2.2))
  told (Err Words) e h = absurd (omega arith)
  told (Err _) e h = absurd (omega arith)

  two : (r : Result (Option End) Refusal) → Ends words old new r → status_of r ≡ 2 → asked_of words ≡ None
  two (Ok v) e h = absurd (other_status v 2 (λ k. omega arith) h)
  two (Err Words) e h = e.0
  two (Err _) e h = absurd (omega arith)

  four : (r : Result (Option End) Refusal) → Ends words old new r → status_of r ≡ 4 → Asks words (λ asked. IsFaultyDescription (MayGive old.files) asked.description)
  four (Ok v) e h = absurd (other_status v 4 (λ k. omega arith) h)
  four (Err DescriptionTooLong) e h = (e.0, e.1, inl e.2.0.0)
  four (Err (Description f)) e h = (e.0, e.1, inr (f, e.2.0.0))
  four (Err _) e h = absurd (omega arith)

  five : (r : Result (Option End) Refusal) → Ends words old new r → status_of r ≡ 5
      → Asks words (λ asked. (desc : Option Desc) × HasDesc (MayGive old.files) (Some asked.description) desc × IsFaultyImage (MayGive old.files) desc (from_file asked.image))
  five (Ok v) e h = absurd (other_status v 5 (λ k. omega arith) h)
  five (Err (ImageTooLong which)) e h = let r = too_long e.0 which e.2.0 in (e.0, e.1, (r.0, r.1, inl r.2))
  five (Err (Image which f)) e h = let r = at_fault e.0 which f e.2.0 in (e.0, e.1, (r.0, r.1, inr (f, r.2)))
  five (Err _) e h = absurd (omega arith)

  six : (r : Result (Option End) Refusal) → Ends words old new r → status_of r ≡ 6 → Asks words (λ asked. NameFailed asked.description old.files new.files
      ⊎ ((desc : Option Desc) × HasDesc (MayGive old.files) (Some asked.description) desc × NameFailed asked.image old.files new.files))
  six (Ok v) e h = absurd (other_status v 6 (λ k. omega arith) h)
  six (Err ReadDescription) e h = (e.0, e.1, inl e.2.0)
  six (Err (ReadImage which)) e h = (e.0, e.1, inr (unread e.0 which e.2.0))
  six (Err _) e h = absurd (omega arith)

  seven : (r : Result (Option End) Refusal) → Ends words old new r → status_of r ≡ 7
      → Asks words (λ asked. (i : Inputs asked old.files new.files) × WrotePrefix (told_in asked i.desc i.image) old.out new.out)
  seven (Ok v) e h = absurd (other_status v 7 (λ k. omega arith) h)
  seven (Err Write) e h = e
  seven (Err _) e h = absurd (omega arith)

  -- ---- What each status leaves

  not_six : (r : Result (Option End) Refusal) → Ends words old new r → (status_of r ≡ 6 → ⊥) → SameCounts old.files new.files
  not_six (Ok v) e h = e.2.0.read.counts
  not_six (Err Words) e h = e.1
  not_six (Err ReadDescription) e h = absurd (h refl)
  not_six (Err DescriptionTooLong) e h = e.2.0.1
  not_six (Err (Description f)) e h = e.2.0.1
  not_six (Err (ReadImage which)) e h = absurd (h refl)
  not_six (Err (ImageTooLong which)) e h = e.2.0.1
  not_six (Err (Image which f)) e h = e.2.0.1
  not_six (Err Write) e h = e.2.0.read.counts
  not_six (Err Memory) e h = e.1

  -- no cause but a failed write leaves anything written
  wrote_nothing : (c : Refusal) → Ends words old new (Err c) → (status_of (Err c) ≡ 7 → ⊥) → new.out ≡ old.out
  wrote_nothing Words e h = e.2
  wrote_nothing Write e h = absurd (h refl)
  wrote_nothing Memory e h = e.2
  wrote_nothing _ e h = e.2.1

  not_seven : (r : Result (Option End) Refusal) → Ends words old new r → (status_of r ≡ 7 → ⊥) → new.out.faults ≡ old.out.faults
  not_seven (Ok v) e h = e.2.1.count
  not_seven (Err c) e h = ap (λ (t : Told). t.faults) (wrote_nothing c e h)

  nothing : (r : Result (Option End) Refusal) → Ends words old new r → (IsTold (status_of r) → ⊥) → (status_of r ≡ 7 → ⊥) → new.out ≡ old.out
  nothing (Ok v) e h k = absurd (h (told_status v))
  nothing (Err c) e h k = wrote_nothing c e k

  -- ---- When each status comes

  nothing_asked : (r : Result (Option End) Refusal) → Ends words old new r → asked_of words ≡ None → (status_of r ≡ 2) ⊎ (status_of r ≡ 8)
  nothing_asked (Ok v) e h = absurd (clash e.1 h)
  nothing_asked (Err Words) e h = inl refl
  nothing_asked (Err Write) e h = absurd (clash e.1 h)
  nothing_asked (Err Memory) e h = inr refl
  nothing_asked (Err _) e h = absurd (clash e.1 h)

  -- without words every outcome has status 2
  no_words : (r : Result (Option End) Refusal) → Ends words old new r → words ≡ [] → status_of r ≡ 2
  no_words (Ok v) e h = absurd (not_empty words e.0 e.1 h)
  no_words (Err Words) e h = refl
  no_words (Err Write) e h = absurd (not_empty words e.0 e.1 h)
  no_words (Err Memory) e h = absurd (e.0 h)
  no_words (Err _) e h = absurd (not_empty words e.0 e.1 h)

  -- what each status says of what the words want
  module _ (asked : AskedText) (k : asked_of words ≡ Some asked) where
    whole : (v : Option End) → Ends words old new (Ok v) → (i : Inputs asked old.files new.files) × Wrote (told_in asked i.desc i.image) old.out new.out × (v ≡ (run_in asked i.desc i.image).end)
    whole v e = of_asked words (λ w. (i : Inputs w old.files new.files) × Wrote (told_in w i.desc i.image) old.out new.out × (v ≡ (run_in w i.desc i.image).end)) asked k e

    cut : Ends words old new (Err Write) → (i : Inputs asked old.files new.files) × WrotePrefix (told_in asked i.desc i.image) old.out new.out
    cut e = of_asked words (λ w. (i : Inputs w old.files new.files) × WrotePrefix (told_in w i.desc i.image) old.out new.out) asked k e

    -- the words ask for something of which what is read is refused for this cause, and nothing is written
    abbrev IsRefused : Refusal → Type 0
    IsRefused c = Asks words (λ w. RefusedInputs w old.files new.files c × (new.out ≡ old.out))

    its_refusal : (c : Refusal) → IsRefused c → RefusedInputs asked old.files new.files c
    its_refusal c a = (of_asked words (λ w. RefusedInputs w old.files new.files c × (new.out ≡ old.out)) asked k a).0

    -- what each status says where the description has a fault
    module _ (x : IsFaultyDescription (Gives old.files) asked.description) where
      not_described : (desc : Option Desc) → HasDesc (MayGive old.files) (Some asked.description) desc → ⊥
      not_described desc h = no_desc old.files (Some asked.description) desc asked.description refl h x

      faulty_description : (r : Result (Option End) Refusal) → Ends words old new r → (status_of r ≡ 4) ⊎ ((status_of r ≡ 6) ⊎ (status_of r ≡ 8))
      faulty_description (Ok v) e = let i = (whole v e).0 in absurd (not_described (Some i.desc) i.read.described)
      faulty_description (Err Words) e = absurd (clash k e.0)
      faulty_description (Err ReadDescription) e = inr (inl refl)
      faulty_description (Err DescriptionTooLong) e = inl refl
      faulty_description (Err (Description f)) e = inl refl
      faulty_description (Err (ReadImage which)) e = inr (inl refl)
      faulty_description (Err (ImageTooLong which)) e =
          let r = too_long asked which (its_refusal (ImageTooLong which) e) in absurd (not_described r.0 r.1)
      faulty_description (Err (Image which f)) e =
          let r = at_fault asked which f (its_refusal (Image which f) e) in absurd (not_described r.0 r.1)
      faulty_description (Err Write) e = let i = (cut e).0 in absurd (not_described (Some i.desc) i.read.described)
      faulty_description (Err Memory) e = inr (inr refl)

    -- what each status says where the files tell the description that is asked for
    module _ (desc : Option Desc) (described : HasDesc (Gives old.files) (Some asked.description) desc) where
      same_desc : (desc' : Option Desc) → HasDesc (MayGive old.files) (Some asked.description) desc' → desc' ≡ desc
      same_desc desc' h = told_desc old.files (Some asked.description) desc desc' described h

      described_longer : IsRefused DescriptionTooLong → ⊥
      described_longer a = not_longer old.files new.files (Some asked.description) desc described (its_refusal DescriptionTooLong a)

      described_faulty : (f : DescFault) → IsRefused (Description f) → ⊥
      described_faulty f a = not_refused old.files new.files (Some asked.description) desc f described (its_refusal (Description f) a)

      no_image : (i : Inputs asked old.files new.files) → IsFaultyImage (Gives old.files) desc (from_file asked.image) → ⊥
      no_image i x =
          none_faulty old.files desc (Some i.desc) (from_file asked.image ∷ []) (i.image ∷ []) 0 (from_file asked.image)
          (same_desc (Some i.desc) i.read.described) i.read.are_images refl x

      faulty_image : (r : Result (Option End) Refusal) → Ends words old new r → IsFaultyImage (Gives old.files) desc (from_file asked.image)
          → (status_of r ≡ 5) ⊎ ((status_of r ≡ 6) ⊎ (status_of r ≡ 8))
      faulty_image (Ok v) e x = absurd (no_image (whole v e).0 x)
      faulty_image (Err Words) e x = absurd (clash k e.0)
      faulty_image (Err ReadDescription) e x = inr (inl refl)
      faulty_image (Err DescriptionTooLong) e x = absurd (described_longer e)
      faulty_image (Err (Description f)) e x = absurd (described_faulty f e)
      faulty_image (Err (ReadImage which)) e x = inr (inl refl)
      faulty_image (Err (ImageTooLong which)) e x = inl refl
      faulty_image (Err (Image which f)) e x = inl refl
      faulty_image (Err Write) e x = absurd (no_image (cut e).0 x)
      faulty_image (Err Memory) e x = inr (inr refl)

      -- what each status says where the files tell the image that is asked for, too
      module _ (image : ImageText) (there : IsImage (Gives old.files) desc (from_file asked.image) image) where
        same_image : (i : Inputs asked old.files new.files) → i.image ≡ image
        same_image i =
            let same : (i.image ∷ []) ≡ (image ∷ []) =
            same_images old.files desc (Some i.desc) (from_file asked.image ∷ []) (image ∷ []) (i.image ∷ []) (same_desc (Some i.desc) i.read.described) (there, tt)
            i.read.are_images in
            cc

        not_long : (which : Which) → IsRefused (ImageTooLong which) → ⊥
        not_long which a =
            let r = too_long asked which (its_refusal (ImageTooLong which) a) in
            not_too_many old.files desc (from_file asked.image) image there r.2

        not_at_fault : (which : Which) (f : ElfFault) → IsRefused (Image which f) → ⊥
        not_at_fault which f a =
            let r = at_fault asked which f (its_refusal (Image which f) a) in
            no_fault old.files desc r.0 (from_file asked.image) image f (same_desc r.0 r.1) there r.2

    -- what each status says where the files tell both, and neither has a fault
    module _ (d : Desc) (described : HasDesc (Gives old.files) (Some asked.description) (Some d)) (image : ImageText)
        (there : IsImage (Gives old.files) (Some d) (from_file asked.image) image) where
      -- what is read is what the files tell
      same_read : (i : Inputs asked old.files new.files) → (i.desc ≡ d) × (i.image ≡ image)
      same_read i =
          let one : Some i.desc ≡ Some d = same_desc (Some d) described (Some i.desc) i.read.described in
          let same : i.desc ≡ d = cc in
          (same, same_image (Some d) described image there i)

      complete : (r : Result (Option End) Refusal) → Ends words old new r
          → (Rose (old.files.faults asked.description) (new.files.faults asked.description) → ⊥)
          → (Rose (old.files.faults asked.image) (new.files.faults asked.image) → ⊥) → (Rose old.out.faults new.out.faults → ⊥)
          → ((status_of r ≡ 8) × (new.out ≡ old.out)) ⊎ ((status_of r ≡ end_status (run_in asked d image).end) × Wrote (told_in asked d image) old.out new.out)
      complete (Ok v) e a b c =
          let w = whole v e in
          let same = same_read w.0 in
          let run = ap₂ (run_in asked) same.0 same.1 in
          inr (
            ap end_status (w.2 ∙ ap (λ (t : Trace). t.end) run),
            subst (λ t. Wrote t old.out new.out) (ap₂ (told_in asked) same.0 same.1) w.1,
          )
      complete (Err Words) e a b c = absurd (clash k e.0)
      complete (Err ReadDescription) e a b c = absurd (a (its_refusal ReadDescription e).rose)
      complete (Err DescriptionTooLong) e a b c = absurd (described_longer (Some d) described e)
      complete (Err (Description f)) e a b c = absurd (described_faulty (Some d) described f e)
      complete (Err (ReadImage which)) e a b c = absurd (b (unread asked which (its_refusal (ReadImage which) e)).2.rose)
      complete (Err (ImageTooLong which)) e a b c = absurd (not_long (Some d) described image there which e)
      complete (Err (Image which f)) e a b c = absurd (not_at_fault (Some d) described image there which f e)
      complete (Err Write) e a b c = absurd (c (cut e).1.rose)
      complete (Err Memory) e a b c = inl (refl, e.2)

pub statuses : (words : List (List ℕ)) (old new : World) (r : Result (Option End) Refusal) → Ends words old new r → Statuses words old new (status_of r)
statuses words old new r e = record {
  told = told words old new r e;
  two = two words old new r e;
  nothing_asked = nothing_asked words old new r e;
  no_words = no_words words old new r e;
  four = four words old new r e;
  faulty_description = λ asked k x. faulty_description words old new asked k x r e;
  five = five words old new r e;
  faulty_image = λ asked desc k t x. faulty_image words old new asked k desc t r e x;
  six = six words old new r e;
  not_six = not_six words old new r e;
  seven = seven words old new r e;
  not_seven = not_seven words old new r e;
  nothing = nothing words old new r e;
  complete = λ asked d image k t i a b c. complete words old new asked k d t image i r e a b c;
}

-- the status that is answered says what the status of the outcome says
pub statuses_at : (words : List (List ℕ)) (old new : World) (r : Result (Option End) Refusal) (status : ℕ) → Ends words old new r → status ≡ status_of r → Statuses words old new status
statuses_at words old new r status e s = subst (Statuses words old new) (sym s) (statuses words old new r e)
