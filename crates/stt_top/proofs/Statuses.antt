-- What each status says follows from how the program ends: by classes of ends. A text is written whole or in part, the
-- words are no command, memory was wanting, or the description or an image is refused.
use Rattle.std.proofs.Common.{◌≡◌, ◌⊎◌, ℕ, List, [], Option, Some, None, Result, Ok, Err, refl, sym, ap, ◌∙◌, subst, inl, inr, arith}
use Rattle.elf_loader.specs.Image.{ImageText}
use Rattle.elf_loader.specs.declared.faults.ElfFault.{ElfFault}
use Rattle.machine_desc.specs.declared.Desc.{Desc}
use Rattle.tool_io.specs.Outside.{Shelf, Told, Wrote, WrotePrefix, SameCounts, NameFailed, Rose}
use Rattle.tool_words.specs.Words.{CommandText, command_of}
use Rattle.run_inputs.specs.declared.refusal.Which.{Which}
use Rattle.stt_top.specs.declared.outcome.Ended.{Ended}
use Rattle.stt_top.specs.declared.outcome.Ended.TheVariants.{Exit, Trap, Budget, Alike, Unlike}
use Rattle.run_inputs.specs.declared.refusal.Refusal.{Refusal}
use Rattle.run_inputs.specs.declared.refusal.Refusal.TheVariants.{Words, ReadDescription, DescriptionTooLong, Description, ReadImage, ImageTooLong, Image, Write, Memory}
use Rattle.stt_top.specs.Outcome.{status_of}
use Rattle.run_inputs.specs.Refused.{place_of}
use Rattle.run_inputs.specs.Input.{MayGive, Gives, ImageFrom, from_file, from_seed, HasDesc, IsFaultyDescription, DescriptionRefused, NamedRefused, HasTooMany, HasFault, IsFaultyImage, AreImages, RefusedAt, FailsToRead}
use Rattle.stt_top.specs.Work.{TaskText, task_of, Work, ComesTo}
use Rattle.stt_top.specs.Top.{Asks, Done, CommandRefused, Ends, Statuses, sources, description_name, IsAt, Names, ImageRefusedAt, IsRun}
use Rattle.run_inputs.specs.Told.{World}
use Rattle.stt_top.proofs.Outcomes.{not_empty}
use Rattle.run_inputs.proofs.Told.{told_desc, no_desc, not_longer, not_refused, told_at, none_faulty, same_images, no_fault, not_too_many}

-- where there is a command, it isn't none
clash : {o : Option CommandText} {c : CommandText} → o ≡ Some c → o ≡ None → ⊥
clash p q = cc

-- the command of which something holds is the one that the words give
of_command : (words : List (List ℕ)) (P : CommandText → Type 0) (command : CommandText) → command_of words ≡ Some command → Asks words P → P command
of_command words P command k a =
    let first : command_of words ≡ Some a.0 = a.1 in
    let same : a.0 ≡ command = cc in
    subst P same a.2

-- a text that is written whole has the status of one
run_status : (e : Ended) → IsRun (status_of (Ok e))
run_status Exit = inl refl
run_status Trap = inr (inl refl)
run_status Budget = inr (inr refl)
run_status Alike = inl refl
run_status Unlike = inr (inl refl)

-- a status that is no run's isn't the status of a command whose text is written whole
other_status : (e : Ended) (n : ℕ) → (IsRun n → ⊥) → status_of (Ok e) ≡ n → ⊥
other_status e n h q = h (subst IsRun q (run_status e))

-- a description that is refused is named
named : (name : Option (List ℕ)) (old new : Shelf) (e : Refusal) → NamedRefused name old new e → (n : List ℕ) × (name ≡ Some n) × DescriptionRefused n old new e
named None old new e h = absurd h
named (Some name) old new e h = (name, refl, h)

-- an image that fails to be read is that of a file
filed : (old new : Shelf) (from : ImageFrom) → FailsToRead old new from → (name : List ℕ) × (from ≡ from_file name) × NameFailed name old new
filed old new (from_file name) h = (name, refl, h)
filed old new (from_seed seed blocks) h = absurd h

-- the cause of a refusal, as a wider one
refused_for : (old : Shelf) (name : Option (List ℕ)) (froms : List ImageFrom) (place : ℕ) (P Q : Option Desc → ImageFrom → Type 0)
    → ((desc : Option Desc) (from : ImageFrom) → P desc from → Q desc from) → RefusedAt old name froms place P → RefusedAt old name froms place Q
refused_for old name froms place P Q f r = record {
  desc = r.desc;
  described = r.described;
  earlier = r.earlier;
  are_images = r.are_images;
  from = r.from;
  there = r.there;
  cause = f r.desc r.from r.cause;
}

module _ (words : List (List ℕ)) (old new : World) where
  -- ---- What comes of each status

  ran : (r : Result Ended Refusal) → Ends words old new r → IsRun (status_of r)
      → Asks words (λ command. (done : Done command old new) × Wrote done.work.text old.out new.out × (status_of r ≡ status_of (Ok done.work.ended)))
  ran (Ok ended) e h = (e.0, e.1, (e.2.0, e.2.1, ap (λ x. status_of (Ok x)) e.2.2))
  ran (Err Words) e h = absurd (omega arith)
  ran (Err _) e h = absurd (omega arith)

  two : (r : Result Ended Refusal) → Ends words old new r → status_of r ≡ 2 → command_of words ≡ None
  two (Ok ended) e h = absurd (other_status ended 2 (λ k. omega arith) h)
  two (Err Words) e h = e.0
  two (Err _) e h = absurd (omega arith)

  four : (r : Result Ended Refusal) → Ends words old new r → status_of r ≡ 4
      → Asks words (λ command. (name : List ℕ) × (description_name command ≡ Some name) × IsFaultyDescription (MayGive old.files) name)
  four (Ok ended) e h = absurd (other_status ended 4 (λ k. omega arith) h)
  four (Err DescriptionTooLong) e h =
      let n = named (description_name e.0) old.files new.files DescriptionTooLong e.2.0 in
      (e.0, e.1, (n.0, n.1, inl n.2.0))
  four (Err (Description f)) e h =
      let n = named (description_name e.0) old.files new.files (Description f) e.2.0 in
      (e.0, e.1, (n.0, n.1, inr (f, n.2.0)))
  four (Err _) e h = absurd (omega arith)

  five : (r : Result Ended Refusal) → Ends words old new r → status_of r ≡ 5
      → Asks words (λ command. (which : Which) × ImageRefusedAt command old.files (place_of which) (IsFaultyImage (MayGive old.files)))
  five (Ok ended) e h = absurd (other_status ended 5 (λ k. omega arith) h)
  five (Err (ImageTooLong which)) e h =
      let wider = refused_for old.files (description_name e.0) (sources e.0) (place_of which) (λ desc from. HasTooMany (MayGive old.files) from) (IsFaultyImage (MayGive old.files)) (λ desc from m. inl m) e.2.0.0 in
      (e.0, e.1, (which, wider))
  five (Err (Image which f)) e h =
      let wider = refused_for old.files (description_name e.0) (sources e.0) (place_of which) (λ desc from. HasFault (MayGive old.files) desc from f) (IsFaultyImage (MayGive old.files)) (λ desc from m. inr (f, m)) e.2.0.0 in
      (e.0, e.1, (which, wider))
  five (Err _) e h = absurd (omega arith)

  six : (r : Result Ended Refusal) → Ends words old new r → status_of r ≡ 6
      → Asks words (λ command. ((name : List ℕ) × (description_name command ≡ Some name) × NameFailed name old.files new.files)
      ⊎ ((which : Which) × ImageRefusedAt command old.files (place_of which) (λ desc from. FailsToRead old.files new.files from)))
  six (Ok ended) e h = absurd (other_status ended 6 (λ k. omega arith) h)
  six (Err ReadDescription) e h = (e.0, e.1, inl (named (description_name e.0) old.files new.files ReadDescription e.2.0))
  six (Err (ReadImage which)) e h = (e.0, e.1, inr (which, e.2.0))
  six (Err _) e h = absurd (omega arith)

  seven : (r : Result Ended Refusal) → Ends words old new r → status_of r ≡ 7
      → Asks words (λ command. (done : Done command old new) × WrotePrefix done.work.text old.out new.out)
  seven (Ok ended) e h = absurd (other_status ended 7 (λ k. omega arith) h)
  seven (Err Write) e h = e
  seven (Err _) e h = absurd (omega arith)

  -- ---- What each status leaves

  not_six : (r : Result Ended Refusal) → Ends words old new r → (status_of r ≡ 6 → ⊥) → SameCounts old.files new.files
  not_six (Ok ended) e h = e.2.0.runs.read.counts
  not_six (Err Words) e h = e.1
  not_six (Err ReadDescription) e h = absurd (h refl)
  not_six (Err DescriptionTooLong) e h = (named (description_name e.0) old.files new.files DescriptionTooLong e.2.0).2.1
  not_six (Err (Description f)) e h = (named (description_name e.0) old.files new.files (Description f) e.2.0).2.1
  not_six (Err (ReadImage which)) e h = absurd (h refl)
  not_six (Err (ImageTooLong which)) e h = e.2.0.1
  not_six (Err (Image which f)) e h = e.2.0.1
  not_six (Err Write) e h = e.2.0.runs.read.counts
  not_six (Err Memory) e h = e.1

  -- every refusal but that of a write wrote nothing
  wrote_nothing : (e : Refusal) → Ends words old new (Err e) → (status_of (Err e) ≡ 7 → ⊥) → new.out ≡ old.out
  wrote_nothing Words e h = e.2
  wrote_nothing Write e h = absurd (h refl)
  wrote_nothing Memory e h = e.2
  wrote_nothing _ e h = e.2.1

  not_seven : (r : Result Ended Refusal) → Ends words old new r → (status_of r ≡ 7 → ⊥) → new.out.faults ≡ old.out.faults
  not_seven (Ok ended) e h = e.2.1.count
  not_seven (Err refusal) e h = ap (λ (t : Told). t.faults) (wrote_nothing refusal e h)

  nothing : (r : Result Ended Refusal) → Ends words old new r → (IsRun (status_of r) → ⊥) → (status_of r ≡ 7 → ⊥) → new.out ≡ old.out
  nothing (Ok ended) e h k = absurd (h (run_status ended))
  nothing (Err refusal) e h k = wrote_nothing refusal e k

  -- ---- When each status comes

  no_command : (r : Result Ended Refusal) → Ends words old new r → command_of words ≡ None → (status_of r ≡ 2) ⊎ (status_of r ≡ 8)
  no_command (Ok ended) e h = absurd (clash e.1 h)
  no_command (Err Words) e h = inl refl
  no_command (Err Write) e h = absurd (clash e.1 h)
  no_command (Err Memory) e h = inr refl
  no_command (Err _) e h = absurd (clash e.1 h)

  -- without words every outcome has status 2
  no_words : (r : Result Ended Refusal) → Ends words old new r → words ≡ [] → status_of r ≡ 2
  no_words (Ok ended) e h = absurd (not_empty words e.0 e.1 h)
  no_words (Err Words) e h = refl
  no_words (Err Write) e h = absurd (not_empty words e.0 e.1 h)
  no_words (Err Memory) e h = absurd (e.0 h)
  no_words (Err _) e h = absurd (not_empty words e.0 e.1 h)

  -- what an outcome says of the command that the words give
  module _ (command : CommandText) (k : command_of words ≡ Some command) where
    whole : (ended : Ended) → Ends words old new (Ok ended) → (done : Done command old new) × Wrote done.work.text old.out new.out × (ended ≡ done.work.ended)
    whole ended a = of_command words (λ c. (done : Done c old new) × Wrote done.work.text old.out new.out × (ended ≡ done.work.ended)) command k a

    cut : Ends words old new (Err Write) → (done : Done command old new) × WrotePrefix done.work.text old.out new.out
    cut a = of_command words (λ c. (done : Done c old new) × WrotePrefix done.work.text old.out new.out) command k a

    its_refusal : (e : Refusal) → Asks words (λ c. CommandRefused c old.files new.files e × (new.out ≡ old.out)) → CommandRefused command old.files new.files e
    its_refusal e a = (of_command words (λ c. CommandRefused c old.files new.files e × (new.out ≡ old.out)) command k a).0

    faulty_description : (r : Result Ended Refusal) → Ends words old new r → (name : List ℕ) → description_name command ≡ Some name
        → IsFaultyDescription (Gives old.files) name → (status_of r ≡ 4) ⊎ ((status_of r ≡ 6) ⊎ (status_of r ≡ 8))
    faulty_description (Ok ended) e name m x =
        let d = (whole ended e).0 in
        absurd (no_desc old.files (description_name command) d.runs.desc name m d.runs.read.described x)
    faulty_description (Err Words) e name m x = absurd (clash k e.0)
    faulty_description (Err ReadDescription) e name m x = inr (inl refl)
    faulty_description (Err DescriptionTooLong) e name m x = inl refl
    faulty_description (Err (Description f)) e name m x = inl refl
    faulty_description (Err (ReadImage which)) e name m x = inr (inl refl)
    faulty_description (Err (ImageTooLong which)) e name m x =
        let r = its_refusal (ImageTooLong which) e in
        absurd (no_desc old.files (description_name command) r.0.desc name m r.0.described x)
    faulty_description (Err (Image which f)) e name m x =
        let r = its_refusal (Image which f) e in
        absurd (no_desc old.files (description_name command) r.0.desc name m r.0.described x)
    faulty_description (Err Write) e name m x =
        let d = (cut e).0 in
        absurd (no_desc old.files (description_name command) d.runs.desc name m d.runs.read.described x)
    faulty_description (Err Memory) e name m x = inr (inr refl)

    -- what an outcome says where the files tell the command's description
    module _ (desc : Option Desc) (told : HasDesc (Gives old.files) (description_name command) desc) where
      -- a command that is done had that description
      done_desc : (d : Done command old new) → d.runs.desc ≡ desc
      done_desc d = told_desc old.files (description_name command) desc d.runs.desc told d.runs.read.described

      done_faulty : (d : Done command old new) (place : ℕ) (from : ImageFrom) → IsAt command place from → IsFaultyImage (Gives old.files) desc from → ⊥
      done_faulty d place from a x = none_faulty old.files desc d.runs.desc (sources command) d.runs.images place from (done_desc d) d.runs.read.are_images a x

      faulty_image : (r : Result Ended Refusal) → Ends words old new r → (place : ℕ) (from : ImageFrom) → IsAt command place from
          → IsFaultyImage (Gives old.files) desc from → (status_of r ≡ 5) ⊎ ((status_of r ≡ 6) ⊎ (status_of r ≡ 8))
      faulty_image (Ok ended) e place from a x = absurd (done_faulty (whole ended e).0 place from a x)
      faulty_image (Err Words) e place from a x = absurd (clash k e.0)
      faulty_image (Err ReadDescription) e place from a x = inr (inl refl)
      faulty_image (Err DescriptionTooLong) e place from a x =
          absurd (not_longer old.files new.files (description_name command) desc told (its_refusal DescriptionTooLong e))
      faulty_image (Err (Description f)) e place from a x =
          absurd (not_refused old.files new.files (description_name command) desc f told (its_refusal (Description f) e))
      faulty_image (Err (ReadImage which)) e place from a x = inr (inl refl)
      faulty_image (Err (ImageTooLong which)) e place from a x = inl refl
      faulty_image (Err (Image which f)) e place from a x = inl refl
      faulty_image (Err Write) e place from a x = absurd (done_faulty (cut e).0 place from a x)
      faulty_image (Err Memory) e place from a x = inr (inr refl)

      -- what an outcome says where the files tell the command's images too
      module _ (images : List ImageText) (all : AreImages (Gives old.files) desc (sources command) images) where
        same_task : (d : Done command old new) (task : TaskText) → task_of command desc images ≡ Some task → d.task ≡ task
        same_task d task m =
            let a : d.runs.images ≡ images = same_images old.files desc d.runs.desc (sources command) images d.runs.images (done_desc d) all d.runs.read.are_images in
            let b : task_of command d.runs.desc d.runs.images ≡ task_of command desc images =
            ap (λ x. task_of command x d.runs.images) (done_desc d) ∙ ap (task_of command desc) a in
            let had : task_of command d.runs.desc d.runs.images ≡ Some d.task = d.runs.asks in
            cc

        no_faulty : (which : Which) (f : ElfFault) → ImageRefusedAt command old.files (place_of which) (λ desc from. HasFault (MayGive old.files) desc from f) → ⊥
        no_faulty which f r =
            let t = told_at old.files desc (sources command) images (place_of which) r.from all r.there in
            no_fault old.files desc r.desc r.from t.0 f (told_desc old.files (description_name command) desc r.desc told r.described) t.1 r.cause

        none_too_long : (which : Which) → ImageRefusedAt command old.files (place_of which) (λ desc from. HasTooMany (MayGive old.files) from) → ⊥
        none_too_long which r =
            let t = told_at old.files desc (sources command) images (place_of which) r.from all r.there in
            not_too_many old.files desc r.from t.0 t.1 r.cause

        complete : (r : Result Ended Refusal) → Ends words old new r → (task : TaskText) → task_of command desc images ≡ Some task
            → ((name : List ℕ) → Names command name → Rose (old.files.faults name) (new.files.faults name) → ⊥) → (Rose old.out.faults new.out.faults → ⊥)
            → ((status_of r ≡ 8) × (new.out ≡ old.out))
            ⊎ ((work : Work) × ComesTo task work × (status_of r ≡ status_of (Ok work.ended)) × Wrote work.text old.out new.out)
        complete (Ok ended) e task m files sink =
            let d = whole ended e in
            let c : ComesTo task d.0.work = subst (λ t. ComesTo t d.0.work) (same_task d.0 task m) d.0.comes_to in
            inr (d.0.work, c, ap (λ x. status_of (Ok x)) d.2, d.1)
        complete (Err Words) e task m files sink = absurd (clash k e.0)
        complete (Err ReadDescription) e task m files sink =
            let n = named (description_name command) old.files new.files ReadDescription (its_refusal ReadDescription e) in
            absurd (files n.0 (inl n.1) n.2.rose)
        complete (Err DescriptionTooLong) e task m files sink =
            absurd (not_longer old.files new.files (description_name command) desc told (its_refusal DescriptionTooLong e))
        complete (Err (Description f)) e task m files sink =
            absurd (not_refused old.files new.files (description_name command) desc f told (its_refusal (Description f) e))
        complete (Err (ReadImage which)) e task m files sink =
            let r = its_refusal (ReadImage which) e in
            let n = filed old.files new.files r.from r.cause in
            absurd (files n.0 (inr (place_of which, r.there ∙ ap Some n.1)) n.2.rose)
        complete (Err (ImageTooLong which)) e task m files sink = absurd (none_too_long which (its_refusal (ImageTooLong which) e).0)
        complete (Err (Image which f)) e task m files sink = absurd (no_faulty which f (its_refusal (Image which f) e).0)
        complete (Err Write) e task m files sink = absurd (sink (cut e).1.rose)
        complete (Err Memory) e task m files sink = inl (refl, e.2)

pub statuses : (words : List (List ℕ)) (old new : World) (r : Result Ended Refusal) → Ends words old new r → Statuses words old new (status_of r)
statuses words old new r e = record {
  ran = ran words old new r e;
  two = two words old new r e;
  no_command = no_command words old new r e;
  no_words = no_words words old new r e;
  four = four words old new r e;
  faulty_description = λ command name k m x. faulty_description words old new command k r e name m x;
  five = five words old new r e;
  faulty_image = λ command desc place from k t a x. faulty_image words old new command k desc t r e place from a x;
  six = six words old new r e;
  not_six = not_six words old new r e;
  seven = seven words old new r e;
  not_seven = not_seven words old new r e;
  nothing = nothing words old new r e;
  complete = λ command desc images task k t a m files sink. complete words old new command k desc t images a r e task m files sink;
}

-- what is said of an outcome is said of the status that is answered
pub statuses_at : (words : List (List ℕ)) (old new : World) (r : Result Ended Refusal) (status : ℕ) → Ends words old new r → status ≡ status_of r → Statuses words old new status
statuses_at words old new r status e s = subst (Statuses words old new) (sym s) (statuses words old new r e)
