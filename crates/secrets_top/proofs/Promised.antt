-- A run in which nothing shows gives the trace of every secret: of a core by the law of one run for all, and of the
-- path by that of one run for every core.
use Rattle.std.proofs.Common.{◌≡◌, ◌⊎◌, ◌≤◌, ◌==◌, ◌||◌, Bool, ℕ, List, [], length, true, false, Option, Some, None, Result, refl, sym, ap, ◌∙◌, inl, inr, subst, arith}
use Rattle.std.specs.Option.{option_map, is_some}
use Rattle.std.proofs.lemmas.List.Elements.{All-head}
use Rattle.std.specs.Prelude.{if◌then◌else◌}
use Rattle.rv_types.specs.Isa.{isa_step, start}
use Rattle.rv_types.specs.Memory.{Code, Ram}
use Rattle.rv_types.specs.declared.End.{End}
use Rattle.elf_loader.specs.Image.{ImageText}
use Rattle.elf_loader.proofs.Images.{at_words}
use Rattle.machine_desc.specs.declared.Desc.{Desc}
use Rattle.window_model.specs.Committed.{Aligned}
use Rattle.window_model.specs.State.{Machine, opening}
use Rattle.pair_run.specs.Starts.{trace_of}
use Rattle.trace_text.specs.TraceText.{ending_of}
use Rattle.tool_io.specs.Outside.{Shelf, Told, Wrote}
use Rattle.secret_marks.specs.declared.FirstShown.{FirstShown}
use Rattle.secret_marks.specs.declared.PublicStreams.{PublicStreams}
use Rattle.secret_marks.specs.declared.SecretRange.{SecretRange}
use Rattle.secret_marks.specs.Alike.{AgreeBut}
use Rattle.secret_marks.specs.Laws.{PublishesSame}
use Rattle.secret_marks.specs.Marks.{Marks}
use Rattle.secret_marks.specs.Published.{Public, published_by, published_in}
use Rattle.secret_marks.specs.Ranges.{secret_in}
use Rattle.secret_marks.specs.Shown.{first_shown}
use Rattle.secret_marks.specs.Streams.{public_in}
use Rattle.secret_marks.specs.Watch.{first_show, shows_within, secret_shows}
use Rattle.secret_marks.proofs.Counted.{cycles_publish}
use Rattle.secret_marks.proofs.FirstCycle.{told_first}
use Rattle.secret_marks.proofs.Longer.{ended_output, first_shows}
use Rattle.secret_marks.proofs.Outputs.{none_published}
use Rattle.secret_marks.proofs.Trace.{one_output}
use Rattle.constant_time.specs.Certified.{ends_plainly}
use Rattle.constant_time.specs.declared.FirstStep.{FirstStep}
use Rattle.constant_time.specs.PathMarks.{first_marks, path_shows}
use Rattle.constant_time.proofs.PathMarks.{first_shows as first_step_shows}
use Rattle.constant_time.proofs.PlainEnds.{one_run_for_every_core}
use Rattle.run_inputs.specs.Input.{HoldsBytes}
use Rattle.run_inputs.specs.Told.{World}
use Rattle.secret_words.specs.Words.{RunText, WantedText, core_run, path_run}
use Rattle.secrets_top.specs.declared.refusal.Unjudged.{Unjudged}
use Rattle.secrets_top.specs.declared.verdict.Verdict.{Verdict}
use Rattle.secrets_top.specs.Verdict.{is_any_public, told_of, verdict, path_verdict, path_of, ending_in, verdict_text, hidden_text, hidden_status, verdict_status, first_of_run, first_on_path}
use Rattle.secrets_top.specs.Refused.{status_of}
use Rattle.secrets_top.specs.Top.{Inputs, Ends, Statuses, verdict_on_run}
use Rattle.secrets_top.specs.Promises.{HasOtherSecret, OneTrace, Hides, Tells, Promises, PublishesAlike, published_of, StepsPublishAlike, OneTraceOnEveryCore, Certifies, TellsStep, HidesIn, TellsIn, path_published_of}
use Rattle.secrets_top.proofs.OtherSecrets.{agree_but}
use Rattle.secrets_top.proofs.Statuses.{statuses_at}

-- ---- Images and other secrets

-- what is known of an image that is read: its instructions stand at multiples of 4, and its memory holds bytes
record IsLoaded (image : ImageText) : Type 0 where
  aligned : Aligned image.code
  bytes : HoldsBytes image

-- a memory with another secret is equal to the image's but for secret bytes
differs : (image : ImageText) (secret : List SecretRange) (m : Ram) → IsLoaded image → HasOtherSecret image secret m → AgreeBut (secret_in secret) image.ram m
differs image secret m l other = agree_but (secret_in secret) image.ram m other l.bytes

-- ---- One run in which nothing shows

-- where nothing is told to show, nothing shows
nothing_shows : (public : Public) (d : Desc) (code : Code) (n : ℕ) (x : Machine) (m : Marks) → first_shown public d code n x m ≡ None → shows_within public d code n x m ≡ false
nothing_shows public d code n x m e =
    let first : first_show public d code n x m ≡ None = sym (told_first public d code n x m) ∙ ap (option_map (λ (s : FirstShown). s.cycle)) e in
    sym (first_shows public d code n x m) ∙ ap is_some first

no_secret : (public : PublicStreams) (d : Desc) (image : ImageText) (secret : List SecretRange) (n : ℕ) → first_of_run d image secret public n ≡ None
    → secret_shows (public_in public) d image.code image.entry (secret_in secret) image.ram n ≡ false
no_secret public d image secret n e = nothing_shows (public_in public) d image.code n _ _ e

-- where no stream is public the code's test of a stream says so
none_of : (first second : Bool) → (first || second) ≡ false → (stream : ℕ) → public_in (record { first = first; second = second }) stream ≡ false
none_of false false e stream = by_number (stream == 1) (stream == 2)
  where
    by_number : (a b : Bool) → (if a then false else if b then false else false) ≡ false
    by_number true b = refl
    by_number false true = refl
    by_number false false = refl
none_of true second e stream = absurd (cc)
none_of false true e stream = absurd (cc)

-- two memories publish the same, where that is asked or no stream is public
publishes : (public : PublicStreams) (d : Desc) (image : ImageText) (n : ℕ) (m : Ram) → PublishesAlike public d image n m
    → PublishesSame (public_in public) d image.code image.entry image.ram m n
publishes public d image n m h = by_any (is_any_public public) refl
  where
    by_any : (b : Bool) → is_any_public public ≡ b → PublishesSame (public_in public) d image.code image.entry image.ram m n
    by_any true e = h e
    by_any false e =
        let none = none_of public.first public.second e in
        let k = (trace_of d image n).retired in
        none_published (public_in public) image.code k (start image.entry m) none ∙ sym (none_published (public_in public) image.code k (start image.entry image.ram) none)

one_trace : (public : PublicStreams) (d : Desc) (image : ImageText) (secret : List SecretRange) (n k : ℕ) → IsLoaded image → first_of_run d image secret public n ≡ None → k ≤ n
    → OneTrace public d image secret n k
one_trace public d image secret n k l e le =
    λ m other alike. one_output (public_in public) d image.code image.entry (secret_in secret) image.ram m n k l.aligned (differs image secret m l other) (no_secret public d image secret n e) (publishes public d image n m alike) le

longer : (public : PublicStreams) (d : Desc) (image : ImageText) (secret : List SecretRange) (n k : ℕ) (end : End) → IsLoaded image → first_of_run d image secret public n ≡ None
    → (trace_of d image n).end ≡ Some end → n ≤ k → OneTrace public d image secret n k
longer public d image secret n k end l e f le =
    λ m other alike. ended_output (public_in public) d image.code image.entry (secret_in secret) image.ram m n k end l.aligned (differs image secret m l other) (no_secret public d image secret n e) (publishes public d image n m alike) f le

-- ---- One path on which nothing shows

-- where nothing is told to show on the path, nothing shows
no_step : (public : PublicStreams) (image : ImageText) (secret : List SecretRange) (n : ℕ) → first_on_path image secret public n ≡ None
    → path_shows (public_in public) isa_step image.code n (start image.entry image.ram) (first_marks (secret_in secret) image.ram) ≡ false
no_step public image secret n e =
    sym (first_step_shows (public_in public) isa_step image.code n 1 (start image.entry image.ram) (first_marks (secret_in secret) image.ram)) ∙ ap is_some e

-- steps publish the same with two memories, where that is asked or no stream is public
steps_publish : (public : PublicStreams) (image : ImageText) (n : ℕ) (m : Ram) → StepsPublishAlike public image n m
    → published_in (public_in public) image.code n (start image.entry m) ≡ published_in (public_in public) image.code n (start image.entry image.ram)
steps_publish public image n m h = by_any (is_any_public public) refl
  where
    by_any : (b : Bool) → is_any_public public ≡ b
        → published_in (public_in public) image.code n (start image.entry m) ≡ published_in (public_in public) image.code n (start image.entry image.ram)
    by_any true e = h e
    by_any false e =
        let none = none_of public.first public.second e in
        none_published (public_in public) image.code n (start image.entry m) none ∙ sym (none_published (public_in public) image.code n (start image.entry image.ram) none)

every_core : (public : PublicStreams) (image : ImageText) (secret : List SecretRange) (n : ℕ) → IsLoaded image → first_on_path image secret public n ≡ None
    → ends_plainly (path_of image n).ended ≡ true → OneTraceOnEveryCore public image secret n
every_core public image secret n l e plain =
    λ m other alike d k protected delayed. one_run_for_every_core (public_in public) image.code image.entry (secret_in secret) image.ram m n l.aligned (differs image secret m l other) plain
    (no_step public image secret n e) (steps_publish public image n m alike) d k protected delayed

-- ---- How many bytes are published

-- how many bytes the cycles of a run publish, as it is told
counted : PublicStreams → Desc → ImageText → ℕ → Option ℕ
counted public d image n = told_of public (length (published_by (public_in public) d image.code n (opening d image.entry image.ram)))

-- the cycles publish what the steps of the instruction set do
same_count : (public : PublicStreams) (d : Desc) (image : ImageText) (n : ℕ) → Aligned image.code → counted public d image n ≡ published_of public d image n
unfolding counted
same_count public d image n al = ap (λ p. told_of public (length p)) (cycles_publish (public_in public) d image.code image.entry image.ram n al)

-- ---- What each status says of secrets

-- where nothing shows status 0 says that the run ended
ended : (end : Option End) (status : ℕ) → status ≡ hidden_status end → status ≡ 0 → (e : End) × (end ≡ Some e)
ended (Some e) status s z = (e, refl)
ended None status s z = let three : status ≡ 3 = s in absurd (omega (arith, three, z))

-- where nothing shows the status isn't 1
hidden_other : (end : Option End) (status : ℕ) → status ≡ hidden_status end → status ≡ 1 → ⊥
hidden_other (Some e) status s z = let zero : status ≡ 0 = s in omega (arith, zero, z)
hidden_other None status s z = let three : status ≡ 3 = s in omega (arith, three, z)

module _ (public : PublicStreams) (d : Desc) (image : ImageText) (secret : List SecretRange) (n : ℕ) (out out' : Told) (status : ℕ) where
  -- the verdict where this shows first
  abbrev told : Option FirstShown → Verdict
  told o = verdict (ending_of (trace_of d image n)) (told_of public (length (published_by (public_in public) d image.code n (opening d image.entry image.ram)))) o

  hides : (o : Option FirstShown) → first_of_run d image secret public n ≡ o → IsLoaded image → (status ≡ 0) ⊎ (status ≡ 3)
      → status ≡ verdict_status (told o) → Wrote (verdict_text (told o)) out out' → Hides public d image secret n status out out'
  unfolding counted
  hides None e l h s w = record {
    text = subst (λ p. Wrote (hidden_text (ending_of (trace_of d image n)) p) out out') (same_count public d image n l.aligned) w;
    one_trace = λ k le. one_trace public d image secret n k l e le;
    longer = λ z k le. let f = ended (trace_of d image n).end status s z in longer public d image secret n k f.0 l e f.1 le;
  }
  hides (Some first) e l h s w = let one : status ≡ 1 = s in absurd (omega (arith, h, one))

  tells : (o : Option FirstShown) → first_of_run d image secret public n ≡ o → status ≡ 1
      → status ≡ verdict_status (told o) → Wrote (verdict_text (told o)) out out' → Tells public d image secret n out out'
  tells None e h s w = absurd (hidden_other (trace_of d image n).end status s h)
  tells (Some first) e h s w = record { first = first; shows = e; text = w }

module _ (public : PublicStreams) (image : ImageText) (secret : List SecretRange) (n : ℕ) (out out' : Told) (status : ℕ) where
  -- the verdict where this shows first on the path
  abbrev told_step : Option FirstStep → Verdict
  told_step o = path_verdict (ending_in (path_of image n)) (path_published_of public image n) o

  certifies : (o : Option FirstStep) → first_on_path image secret public n ≡ o → IsLoaded image → (status ≡ 0) ⊎ (status ≡ 3)
      → status ≡ verdict_status (told_step o) → Wrote (verdict_text (told_step o)) out out' → Certifies public image secret n out out'
  certifies None e l h s w = record { text = w; every_core = every_core public image secret n l e }
  certifies (Some first) e l h s w = let one : status ≡ 1 = s in absurd (omega (arith, h, one))

  tells_step : (o : Option FirstStep) → first_on_path image secret public n ≡ o → status ≡ 1
      → status ≡ verdict_status (told_step o) → Wrote (verdict_text (told_step o)) out out' → TellsStep public image secret n out out'
  tells_step None e h s w = absurd (hidden_other (path_of image n).ended status s h)
  tells_step (Some first) e h s w = record { first = first; shows = e; text = w }

-- ---- The promises of the program

-- what is told of a run is one verdict
one_verdict : {o : Option Verdict} {v w : Verdict} → o ≡ Some v → o ≡ Some w → v ≡ w
one_verdict p q = cc

no_verdict : {v : Verdict} → None ≡ Some v → ⊥
no_verdict p = cc

module _ (image : ImageText) (secret : List SecretRange) (public : PublicStreams) (status : ℕ) (out out' : Told) (v : Verdict) (w : Wrote (verdict_text v) out out') (s : status ≡ verdict_status v) where
  hides_in : (run : RunText) (desc : Option Desc) → verdict_on_run run desc image secret public ≡ Some v → IsLoaded image → (status ≡ 0) ⊎ (status ≡ 3)
      → HidesIn run desc image secret public status out out'
  hides_in (core_run name n) (Some d) e l h =
      let same = one_verdict e refl in (
        d,
        refl,
        hides public d image secret n out out' status (first_of_run d image secret public n) refl l h (s ∙ ap verdict_status same) (subst (λ t. Wrote (verdict_text t) out out') same w),
      )
  hides_in (core_run name n) None e l h = absurd (no_verdict e)
  hides_in (path_run name n) desc e l h =
      let same = one_verdict e refl in
      certifies public image secret n out out' status (first_on_path image secret public n) refl l h (s ∙ ap verdict_status same) (subst (λ t. Wrote (verdict_text t) out out') same w)

  tells_in : (run : RunText) (desc : Option Desc) → verdict_on_run run desc image secret public ≡ Some v → status ≡ 1 → TellsIn run desc image secret public out out'
  tells_in (core_run name n) (Some d) e h =
      let same = one_verdict e refl in (
        d,
        refl,
        tells public d image secret n out out' status (first_of_run d image secret public n) refl h (s ∙ ap verdict_status same) (subst (λ t. Wrote (verdict_text t) out out') same w),
      )
  tells_in (core_run name n) None e h = absurd (no_verdict e)
  tells_in (path_run name n) desc e h =
      let same = one_verdict e refl in
      tells_step public image secret n out out' status (first_on_path image secret public n) refl h (s ∙ ap verdict_status same) (subst (λ t. Wrote (verdict_text t) out out') same w)

-- an image that is read has its instructions at multiples of 4, and bytes in its memory
loaded : (wanted : WantedText) (old new : Shelf) (i : Inputs wanted old new) → IsLoaded i.image
loaded wanted old new i = record {
  aligned = at_words i.read.are_images.0.file _ _ _ i.image i.read.are_images.0.loads;
  bytes = All-head HoldsBytes i.image [] i.read.hold_bytes;
}

hidden_status_is : (status : ℕ) → (status ≡ 0) ⊎ (status ≡ 3) → (status ≡ 0) ⊎ (status ≡ 1) ⊎ (status ≡ 3)
hidden_status_is status h = elim h [ inl a ↦ inl a | inr a ↦ inr (inr a) ]

-- the promises follow from what each status says of a text that is written whole
pub promises : (words : List (List ℕ)) (old new : World) (status : ℕ) → Statuses words old new status → Promises words old new status
promises words old new status s = record {
  hidden = λ h. let t = s.told (hidden_status_is status h) in let a = t.2.0 in (
    t.0,
    t.1,
    (
      a,
      hides_in a.inputs.image t.0.secret t.0.public status old.out new.out a.verdict t.2.1 t.2.2 t.0.run a.inputs.desc a.told
          (loaded t.0 old.files new.files a.inputs) h,
    ),
  );
  shown = λ h. let t = s.told (inr (inl h)) in let a = t.2.0 in (
    t.0,
    t.1,
    (a, tells_in a.inputs.image t.0.secret t.0.public status old.out new.out a.verdict t.2.1 t.2.2 t.0.run a.inputs.desc a.told h),
  );
}

-- the program keeps its promises with the status of how it ended
pub promises_at : (words : List (List ℕ)) (old new : World) (r : Result Verdict Unjudged) (status : ℕ) → Ends words old new r → status ≡ status_of r → Promises words old new status
promises_at words old new r status e s = promises words old new status (statuses_at words old new r status e s)
