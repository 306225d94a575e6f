-- What each status says follows from how the program ends: by classes of ends. What is told is written whole or in
-- part, the words want nothing, memory was wanting, the description or the image is refused, or a range is.
use Rattle.std.proofs.Common.{◌≡◌, ◌⊎◌, ℕ, zero, suc, List, [], ◌∷◌, Option, Some, None, Result, Ok, Err, refl, sym, ap, ap₂, ◌∙◌, subst, inl, inr, arith}
use Rattle.rv_types.specs.declared.End.{End}
use Rattle.elf_loader.specs.Image.{ImageText}
use Rattle.elf_loader.specs.declared.faults.ElfFault.{ElfFault}
use Rattle.machine_desc.specs.declared.Desc.{Desc}
use Rattle.machine_desc.specs.declared.fault.DescFault.{DescFault}
use Rattle.tool_io.specs.Outside.{Shelf, Told, Wrote, WrotePrefix, SameCounts, NameFailed, Rose}
use Rattle.run_inputs.specs.declared.refusal.Which.{Which}
use Rattle.run_inputs.specs.declared.refusal.Refusal.{Refusal}
use Rattle.run_inputs.specs.declared.refusal.Refusal.TheVariants.{Words, ReadDescription, DescriptionTooLong, Description, ReadImage, ImageTooLong, Image, Write, Memory}
use Rattle.run_inputs.specs.Refused.{place_of}
use Rattle.run_inputs.specs.Input.{MayGive, Gives, HasDesc, IsFaultyDescription, DescriptionRefused, NamedRefused, ImageFrom, from_file, IsImage, HasTooMany, HasFault, IsFaultyImage, RefusedAt, FailsToRead}
use Rattle.run_inputs.specs.Told.{World}
use Rattle.run_inputs.proofs.Told.{told_desc, no_desc, not_longer, not_refused, none_faulty, same_images, no_fault, not_too_many}
use Rattle.secret_words.specs.Words.{WantedText, wanted_of}
use Rattle.secrets_top.specs.declared.ranges.FaultyRange.{FaultyRange}
use Rattle.secrets_top.specs.declared.refusal.Unjudged.{Unjudged}
use Rattle.secrets_top.specs.declared.refusal.Unjudged.TheVariants.{Range, Refused}
use Rattle.secrets_top.specs.declared.verdict.Verdict.{Verdict}
use Rattle.secrets_top.specs.declared.verdict.Verdict.TheVariants.{Hidden, Shown, PathShown}
use Rattle.secrets_top.specs.Verdict.{hidden_status, verdict_text, verdict_status}
use Rattle.secrets_top.specs.Refused.{status_of}
use Rattle.secrets_top.proofs.Outcomes.{not_empty}
use Rattle.secrets_top.specs.Top.{Wants, run_description, Inputs, Accepted, RefusedInputs, fault_in, verdict_in, WishEnds, Ends, Statuses, IsTold}

-- words that want something don't want nothing
clash : {o : Option WantedText} {w : WantedText} → o ≡ Some w → o ≡ None → ⊥
clash p q = cc

no_clash : {o : Option FaultyRange} {f : FaultyRange} → o ≡ Some f → o ≡ None → ⊥
no_clash p q = cc

-- what holds of something that the words want holds of what they want
of_wish : (words : List (List ℕ)) (P : WantedText → Type 0) (wanted : WantedText) → wanted_of words ≡ Some wanted → Wants words P → P wanted
of_wish words P wanted k a =
    let first : wanted_of words ≡ Some a.0 = a.1 in
    let same : a.0 ≡ wanted = cc in
    subst P same a.2

-- a verdict has status 0, 1 or 3
hidden_told : (end : Option End) → IsTold (hidden_status end)
hidden_told (Some e) = inl refl
hidden_told None = inr (inr refl)

told_status : (v : Verdict) → IsTold (verdict_status v)
told_status (Hidden ending published) = hidden_told ending.end
told_status (Shown first) = inr (inl refl)
told_status (PathShown first) = inr (inl refl)

-- a verdict has no status but 0, 1 and 3
other_status : (v : Verdict) (n : ℕ) → (IsTold n → ⊥) → verdict_status v ≡ n → ⊥
other_status v n h q = h (subst IsTold q (told_status v))

-- a description that is refused is named
refused_name : (name : Option (List ℕ)) (old new : Shelf) (e : Refusal) → NamedRefused name old new e → (n : List ℕ) × (name ≡ Some n) × DescriptionRefused n old new e
refused_name None old new e h = absurd h
refused_name (Some name) old new e h = (name, refl, h)

-- where there is one image, that one is refused
refused_image : (old : Shelf) (name : Option (List ℕ)) (from : ImageFrom) (place : ℕ) (P : Option Desc → ImageFrom → Type 0) → RefusedAt old name (from ∷ []) place P
    → (desc : Option Desc) × HasDesc (MayGive old) name desc × P desc from
refused_image old name from zero P r =
    let there : Some from ≡ Some r.from = r.there in
    let same : r.from ≡ from = cc in
    (r.desc, r.described, subst (P r.desc) same r.cause)
refused_image old name from (suc n) P r = let none : None ≡ Some r.from = r.there in absurd (cc)

module _ (words : List (List ℕ)) (old new : World) where
  -- the image that is wanted is refused, for each cause
  unread : (wanted : WantedText) (which : Which) → RefusedInputs wanted old.files new.files (ReadImage which)
      → (desc : Option Desc) × HasDesc (MayGive old.files) (run_description wanted.run) desc × NameFailed wanted.image old.files new.files
  unread wanted which r =
      refused_image old.files (run_description wanted.run) (from_file wanted.image) (place_of which) (λ desc from. FailsToRead old.files new.files from) r

  too_long : (wanted : WantedText) (which : Which) → RefusedInputs wanted old.files new.files (ImageTooLong which)
      → (desc : Option Desc) × HasDesc (MayGive old.files) (run_description wanted.run) desc × HasTooMany (MayGive old.files) (from_file wanted.image)
  too_long wanted which r =
      refused_image old.files (run_description wanted.run) (from_file wanted.image) (place_of which) (λ desc from. HasTooMany (MayGive old.files) from) r.0

  at_fault : (wanted : WantedText) (which : Which) (f : ElfFault) → RefusedInputs wanted old.files new.files (Image which f)
      → (desc : Option Desc) × HasDesc (MayGive old.files) (run_description wanted.run) desc × HasFault (MayGive old.files) desc (from_file wanted.image) f
  at_fault wanted which f r =
      refused_image old.files (run_description wanted.run) (from_file wanted.image) (place_of which) (λ desc from. HasFault (MayGive old.files) desc from f) r.0

  -- ---- What comes of each status

  told : (r : Result Verdict Unjudged) → Ends words old new r → IsTold (status_of r)
      → Wants words (λ wanted. (a : Accepted wanted old.files new.files) × Wrote (verdict_text a.verdict) old.out new.out × (status_of r ≡ verdict_status a.verdict))
  told (Ok v) e h = (e.0, e.1, (e.2.0, e.2.1, ap verdict_status e.2.2))
  told (Err (Range f)) e h = absurd (omega arith)
  told (Err (Refused Words)) e h = absurd (omega arith)
  told (Err (Refused _)) e h = absurd (omega arith)

  two : (r : Result Verdict Unjudged) → Ends words old new r → status_of r ≡ 2 → (wanted_of words ≡ None)
      ⊎ Wants words (λ wanted. (inputs : Inputs wanted old.files new.files) × (faulty : FaultyRange) × (fault_in wanted inputs.image ≡ Some faulty))
  two (Ok v) e h = absurd (other_status v 2 (λ k. omega arith) h)
  two (Err (Range f)) e h = inr (e.0, e.1, (e.2.0, f, e.2.1))
  two (Err (Refused Words)) e h = inl e.0
  two (Err (Refused _)) e h = absurd (omega arith)

  four : (r : Result Verdict Unjudged) → Ends words old new r → status_of r ≡ 4
      → Wants words (λ wanted. (name : List ℕ) × (run_description wanted.run ≡ Some name) × IsFaultyDescription (MayGive old.files) name)
  four (Ok v) e h = absurd (other_status v 4 (λ k. omega arith) h)
  four (Err (Range f)) e h = absurd (omega arith)
  four (Err (Refused DescriptionTooLong)) e h =
      let n = refused_name (run_description e.0.run) old.files new.files DescriptionTooLong e.2.0 in
      (e.0, e.1, (n.0, n.1, inl n.2.0))
  four (Err (Refused (Description f))) e h =
      let n = refused_name (run_description e.0.run) old.files new.files (Description f) e.2.0 in
      (e.0, e.1, (n.0, n.1, inr (f, n.2.0)))
  four (Err (Refused _)) e h = absurd (omega arith)

  five : (r : Result Verdict Unjudged) → Ends words old new r → status_of r ≡ 5
      → Wants words (λ wanted. (desc : Option Desc) × HasDesc (MayGive old.files) (run_description wanted.run) desc × IsFaultyImage (MayGive old.files) desc (from_file wanted.image))
  five (Ok v) e h = absurd (other_status v 5 (λ k. omega arith) h)
  five (Err (Range f)) e h = absurd (omega arith)
  five (Err (Refused (ImageTooLong which))) e h = let r = too_long e.0 which e.2.0 in (e.0, e.1, (r.0, r.1, inl r.2))
  five (Err (Refused (Image which f))) e h = let r = at_fault e.0 which f e.2.0 in (e.0, e.1, (r.0, r.1, inr (f, r.2)))
  five (Err (Refused _)) e h = absurd (omega arith)

  six : (r : Result Verdict Unjudged) → Ends words old new r → status_of r ≡ 6
      → Wants words (λ wanted. ((name : List ℕ) × (run_description wanted.run ≡ Some name) × NameFailed name old.files new.files)
      ⊎ ((desc : Option Desc) × HasDesc (MayGive old.files) (run_description wanted.run) desc × NameFailed wanted.image old.files new.files))
  six (Ok v) e h = absurd (other_status v 6 (λ k. omega arith) h)
  six (Err (Range f)) e h = absurd (omega arith)
  six (Err (Refused ReadDescription)) e h = (e.0, e.1, inl (refused_name (run_description e.0.run) old.files new.files ReadDescription e.2.0))
  six (Err (Refused (ReadImage which))) e h = (e.0, e.1, inr (unread e.0 which e.2.0))
  six (Err (Refused _)) e h = absurd (omega arith)

  seven : (r : Result Verdict Unjudged) → Ends words old new r → status_of r ≡ 7
      → Wants words (λ wanted. (a : Accepted wanted old.files new.files) × WrotePrefix (verdict_text a.verdict) old.out new.out)
  seven (Ok v) e h = absurd (other_status v 7 (λ k. omega arith) h)
  seven (Err (Range f)) e h = absurd (omega arith)
  seven (Err (Refused Write)) e h = e
  seven (Err (Refused _)) e h = absurd (omega arith)

  -- ---- What each status leaves

  not_six : (r : Result Verdict Unjudged) → Ends words old new r → (status_of r ≡ 6 → ⊥) → SameCounts old.files new.files
  not_six (Ok v) e h = e.2.0.inputs.read.counts
  not_six (Err (Range f)) e h = e.2.0.read.counts
  not_six (Err (Refused Words)) e h = e.1
  not_six (Err (Refused ReadDescription)) e h = absurd (h refl)
  not_six (Err (Refused DescriptionTooLong)) e h = (refused_name (run_description e.0.run) old.files new.files DescriptionTooLong e.2.0).2.1
  not_six (Err (Refused (Description f))) e h = (refused_name (run_description e.0.run) old.files new.files (Description f) e.2.0).2.1
  not_six (Err (Refused (ReadImage which))) e h = absurd (h refl)
  not_six (Err (Refused (ImageTooLong which))) e h = e.2.0.1
  not_six (Err (Refused (Image which f))) e h = e.2.0.1
  not_six (Err (Refused Write)) e h = e.2.0.inputs.read.counts
  not_six (Err (Refused Memory)) e h = e.1

  -- no cause but a failed write leaves anything written
  wrote_nothing : (c : Unjudged) → Ends words old new (Err c) → (status_of (Err c) ≡ 7 → ⊥) → new.out ≡ old.out
  wrote_nothing (Range f) e h = e.2.2
  wrote_nothing (Refused Words) e h = e.2
  wrote_nothing (Refused Write) e h = absurd (h refl)
  wrote_nothing (Refused Memory) e h = e.2
  wrote_nothing (Refused _) e h = e.2.1

  not_seven : (r : Result Verdict Unjudged) → Ends words old new r → (status_of r ≡ 7 → ⊥) → new.out.faults ≡ old.out.faults
  not_seven (Ok v) e h = e.2.1.count
  not_seven (Err c) e h = ap (λ (t : Told). t.faults) (wrote_nothing c e h)

  nothing : (r : Result Verdict Unjudged) → Ends words old new r → (IsTold (status_of r) → ⊥) → (status_of r ≡ 7 → ⊥) → new.out ≡ old.out
  nothing (Ok v) e h k = absurd (h (told_status v))
  nothing (Err c) e h k = wrote_nothing c e k

  -- ---- When each status comes

  no_wish : (r : Result Verdict Unjudged) → Ends words old new r → wanted_of words ≡ None → (status_of r ≡ 2) ⊎ (status_of r ≡ 8)
  no_wish (Ok v) e h = absurd (clash e.1 h)
  no_wish (Err (Range f)) e h = inl refl
  no_wish (Err (Refused Words)) e h = inl refl
  no_wish (Err (Refused Write)) e h = absurd (clash e.1 h)
  no_wish (Err (Refused Memory)) e h = inr refl
  no_wish (Err (Refused _)) e h = absurd (clash e.1 h)

  -- without words every outcome has status 2
  no_words : (r : Result Verdict Unjudged) → Ends words old new r → words ≡ [] → status_of r ≡ 2
  no_words (Ok v) e h = absurd (not_empty words e.0 e.1 h)
  no_words (Err (Range f)) e h = refl
  no_words (Err (Refused Words)) e h = refl
  no_words (Err (Refused Write)) e h = absurd (not_empty words e.0 e.1 h)
  no_words (Err (Refused Memory)) e h = absurd (e.0 h)
  no_words (Err (Refused _)) e h = absurd (not_empty words e.0 e.1 h)

  -- what each status says of what the words want
  module _ (wanted : WantedText) (k : wanted_of words ≡ Some wanted) where
    whole : (v : Verdict) → Ends words old new (Ok v) → (a : Accepted wanted old.files new.files) × Wrote (verdict_text a.verdict) old.out new.out × (v ≡ a.verdict)
    whole v e = of_wish words (λ w. (a : Accepted w old.files new.files) × Wrote (verdict_text a.verdict) old.out new.out × (v ≡ a.verdict)) wanted k e

    cut : Ends words old new (Err (Refused Write)) → (a : Accepted wanted old.files new.files) × WrotePrefix (verdict_text a.verdict) old.out new.out
    cut e = of_wish words (λ w. (a : Accepted w old.files new.files) × WrotePrefix (verdict_text a.verdict) old.out new.out) wanted k e

    its_fault : (f : FaultyRange) → Ends words old new (Err (Range f)) → (inputs : Inputs wanted old.files new.files) × (fault_in wanted inputs.image ≡ Some f)
    its_fault f e = let r = of_wish words (λ w. WishEnds w old new (Err (Range f))) wanted k e in (r.0, r.1)

    -- the words want something of which what is read is refused for this cause, and nothing is written
    abbrev IsRefused : Refusal → Type 0
    IsRefused c = Wants words (λ w. RefusedInputs w old.files new.files c × (new.out ≡ old.out))

    its_refusal : (c : Refusal) → IsRefused c → RefusedInputs wanted old.files new.files c
    its_refusal c a = (of_wish words (λ w. RefusedInputs w old.files new.files c × (new.out ≡ old.out)) wanted k a).0

    -- what each status says where a description is wanted that has a fault
    module _ (name : List ℕ) (is : run_description wanted.run ≡ Some name) (x : IsFaultyDescription (Gives old.files) name) where
      not_described : (desc : Option Desc) → HasDesc (MayGive old.files) (run_description wanted.run) desc → ⊥
      not_described desc h = no_desc old.files (run_description wanted.run) desc name is h x

      faulty_description : (r : Result Verdict Unjudged) → Ends words old new r
          → (status_of r ≡ 4) ⊎ ((status_of r ≡ 6) ⊎ (status_of r ≡ 8))
      faulty_description (Ok v) e = let i = (whole v e).0.inputs in absurd (not_described i.desc i.read.described)
      faulty_description (Err (Range f)) e = let i = (its_fault f e).0 in absurd (not_described i.desc i.read.described)
      faulty_description (Err (Refused Words)) e = absurd (clash k e.0)
      faulty_description (Err (Refused ReadDescription)) e = inr (inl refl)
      faulty_description (Err (Refused DescriptionTooLong)) e = inl refl
      faulty_description (Err (Refused (Description f))) e = inl refl
      faulty_description (Err (Refused (ReadImage which))) e = inr (inl refl)
      faulty_description (Err (Refused (ImageTooLong which))) e =
          let r = too_long wanted which (its_refusal (ImageTooLong which) e) in absurd (not_described r.0 r.1)
      faulty_description (Err (Refused (Image which f))) e =
          let r = at_fault wanted which f (its_refusal (Image which f) e) in absurd (not_described r.0 r.1)
      faulty_description (Err (Refused Write)) e = let i = (cut e).0.inputs in absurd (not_described i.desc i.read.described)
      faulty_description (Err (Refused Memory)) e = inr (inr refl)

    -- what each status says where the files tell the description that is wanted
    module _ (desc : Option Desc) (described : HasDesc (Gives old.files) (run_description wanted.run) desc) where
      same_desc : (desc' : Option Desc) → HasDesc (MayGive old.files) (run_description wanted.run) desc' → desc' ≡ desc
      same_desc desc' h = told_desc old.files (run_description wanted.run) desc desc' described h

      described_longer : IsRefused DescriptionTooLong → ⊥
      described_longer a = not_longer old.files new.files (run_description wanted.run) desc described (its_refusal DescriptionTooLong a)

      described_faulty : (f : DescFault) → IsRefused (Description f) → ⊥
      described_faulty f a = not_refused old.files new.files (run_description wanted.run) desc f described (its_refusal (Description f) a)

      no_image : (i : Inputs wanted old.files new.files) → IsFaultyImage (Gives old.files) desc (from_file wanted.image) → ⊥
      no_image i x =
          none_faulty old.files desc i.desc (from_file wanted.image ∷ []) (i.image ∷ []) 0 (from_file wanted.image)
          (same_desc i.desc i.read.described) i.read.are_images refl x

      faulty_image : (r : Result Verdict Unjudged) → Ends words old new r → IsFaultyImage (Gives old.files) desc (from_file wanted.image)
          → (status_of r ≡ 5) ⊎ ((status_of r ≡ 6) ⊎ (status_of r ≡ 8))
      faulty_image (Ok v) e x = absurd (no_image (whole v e).0.inputs x)
      faulty_image (Err (Range f)) e x = absurd (no_image (its_fault f e).0 x)
      faulty_image (Err (Refused Words)) e x = absurd (clash k e.0)
      faulty_image (Err (Refused ReadDescription)) e x = inr (inl refl)
      faulty_image (Err (Refused DescriptionTooLong)) e x = absurd (described_longer e)
      faulty_image (Err (Refused (Description f))) e x = absurd (described_faulty f e)
      faulty_image (Err (Refused (ReadImage which))) e x = inr (inl refl)
      faulty_image (Err (Refused (ImageTooLong which))) e x = inl refl
      faulty_image (Err (Refused (Image which f))) e x = inl refl
      faulty_image (Err (Refused Write)) e x = absurd (no_image (cut e).0.inputs x)
      faulty_image (Err (Refused Memory)) e x = inr (inr refl)

      -- what each status says where the files tell the image that is wanted, too
      module _ (image : ImageText) (there : IsImage (Gives old.files) desc (from_file wanted.image) image) where
        same_image : (i : Inputs wanted old.files new.files) → i.image ≡ image
        same_image i =
            let same : (i.image ∷ []) ≡ (image ∷ []) =
            same_images old.files desc i.desc (from_file wanted.image ∷ []) (image ∷ []) (i.image ∷ []) (same_desc i.desc i.read.described) (there, tt)
            i.read.are_images in
            cc

        same_fault : (i : Inputs wanted old.files new.files) (o : Option FaultyRange) → fault_in wanted i.image ≡ o → fault_in wanted image ≡ o
        same_fault i o e = ap (fault_in wanted) (sym (same_image i)) ∙ e

        not_long : (which : Which) → IsRefused (ImageTooLong which) → ⊥
        not_long which a =
            let r = too_long wanted which (its_refusal (ImageTooLong which) a) in
            not_too_many old.files desc (from_file wanted.image) image there r.2

        not_at_fault : (which : Which) (f : ElfFault) → IsRefused (Image which f) → ⊥
        not_at_fault which f a =
            let r = at_fault wanted which f (its_refusal (Image which f) a) in
            no_fault old.files desc r.0 (from_file wanted.image) image f (same_desc r.0 r.1) there r.2

        faulty_range : (r : Result Verdict Unjudged) → Ends words old new r → (faulty : FaultyRange) → fault_in wanted image ≡ Some faulty
            → (status_of r ≡ 2) ⊎ ((status_of r ≡ 6) ⊎ (status_of r ≡ 8))
        faulty_range (Ok v) e faulty x = let a = (whole v e).0 in absurd (no_clash x (same_fault a.inputs None a.ranges))
        faulty_range (Err (Range f)) e faulty x = inl refl
        faulty_range (Err (Refused Words)) e faulty x = inl refl
        faulty_range (Err (Refused ReadDescription)) e faulty x = inr (inl refl)
        faulty_range (Err (Refused DescriptionTooLong)) e faulty x = absurd (described_longer e)
        faulty_range (Err (Refused (Description f))) e faulty x = absurd (described_faulty f e)
        faulty_range (Err (Refused (ReadImage which))) e faulty x = inr (inl refl)
        faulty_range (Err (Refused (ImageTooLong which))) e faulty x = absurd (not_long which e)
        faulty_range (Err (Refused (Image which f))) e faulty x = absurd (not_at_fault which f e)
        faulty_range (Err (Refused Write)) e faulty x = let a = (cut e).0 in absurd (no_clash x (same_fault a.inputs None a.ranges))
        faulty_range (Err (Refused Memory)) e faulty x = inr (inr refl)

        -- one verdict is told of what is accepted
        same_verdict : (verdict : Verdict) → verdict_in wanted desc image ≡ Some verdict → (a : Accepted wanted old.files new.files) → a.verdict ≡ verdict
        same_verdict verdict is a =
            let told : Some a.verdict ≡ Some verdict =
            sym a.told ∙ ap₂ (verdict_in wanted) (same_desc a.inputs.desc a.inputs.read.described) (same_image a.inputs) ∙ is in
            cc

        complete : (r : Result Verdict Unjudged) → Ends words old new r → (verdict : Verdict) → verdict_in wanted desc image ≡ Some verdict → fault_in wanted image ≡ None
            → ((name : List ℕ) → run_description wanted.run ≡ Some name → Rose (old.files.faults name) (new.files.faults name) → ⊥)
            → (Rose (old.files.faults wanted.image) (new.files.faults wanted.image) → ⊥) → (Rose old.out.faults new.out.faults → ⊥)
            → ((status_of r ≡ 8) × (new.out ≡ old.out)) ⊎ ((status_of r ≡ verdict_status verdict) × Wrote (verdict_text verdict) old.out new.out)
        complete (Ok v) e verdict is none a b c =
            let w = whole v e in
            let same = same_verdict verdict is w.0 in
            inr (ap verdict_status (w.2 ∙ same), subst (λ v. Wrote (verdict_text v) old.out new.out) same w.1)
        complete (Err (Range f)) e verdict is none a b c = let i = its_fault f e in absurd (no_clash (same_fault i.0 (Some f) i.1) none)
        complete (Err (Refused Words)) e verdict is none a b c = absurd (clash k e.0)
        complete (Err (Refused ReadDescription)) e verdict is none a b c =
            let n = refused_name (run_description wanted.run) old.files new.files ReadDescription (its_refusal ReadDescription e) in
            absurd (a n.0 n.1 n.2.rose)
        complete (Err (Refused DescriptionTooLong)) e verdict is none a b c = absurd (described_longer e)
        complete (Err (Refused (Description f))) e verdict is none a b c = absurd (described_faulty f e)
        complete (Err (Refused (ReadImage which))) e verdict is none a b c = absurd (b (unread wanted which (its_refusal (ReadImage which) e)).2.rose)
        complete (Err (Refused (ImageTooLong which))) e verdict is none a b c = absurd (not_long which e)
        complete (Err (Refused (Image which f))) e verdict is none a b c = absurd (not_at_fault which f e)
        complete (Err (Refused Write)) e verdict is none a b c = absurd (c (cut e).1.rose)
        complete (Err (Refused Memory)) e verdict is none a b c = inl (refl, e.2)

pub statuses : (words : List (List ℕ)) (old new : World) (r : Result Verdict Unjudged) → Ends words old new r → Statuses words old new (status_of r)
statuses words old new r e = record {
  told = told words old new r e;
  two = two words old new r e;
  no_wish = no_wish words old new r e;
  no_words = no_words words old new r e;
  faulty_range = λ wanted desc image faulty k t i x. faulty_range words old new wanted k desc t image i r e faulty x;
  four = four words old new r e;
  faulty_description = λ wanted name k is x. faulty_description words old new wanted k name is x r e;
  five = five words old new r e;
  faulty_image = λ wanted desc k t x. faulty_image words old new wanted k desc t r e x;
  six = six words old new r e;
  not_six = not_six words old new r e;
  seven = seven words old new r e;
  not_seven = not_seven words old new r e;
  nothing = nothing words old new r e;
  complete = λ wanted desc image verdict k t i none is a b c. complete words old new wanted k desc t image i r e verdict is none a b c;
}

-- the status that is answered says what the status of the outcome says
pub statuses_at : (words : List (List ℕ)) (old new : World) (r : Result Verdict Unjudged) (status : ℕ) → Ends words old new r → status ≡ status_of r → Statuses words old new status
statuses_at words old new r status e s = subst (Statuses words old new) (sym s) (statuses words old new r e)
