-- A run until something shows, step by step.
use Rattle.std.proofs.Common.{◌≡◌, ℕ, suc, ◌+◌, ◌-◌, ◌*◌, ◌<◌, ◌≤◌, Bool, true, false, List, [], length, Option, Some, None, refl, ap, ap₂, sym, ◌∙◌, subst, arith}
use Rattle.std.specs.Prelude.{if◌then◌else◌}
use Rattle.std.proofs.lemmas.List.{length-append}
use Rattle.rv_types.specs.Isa.{Hart, Step, Goes, Exits, Traps, isa, isa_step, reg}
use Rattle.rv_types.specs.Memory.{Code}
use Rattle.rv_types.specs.declared.Cause.{Cause}
use Rattle.rv_types.specs.declared.End.TheVariants.{Exit as EndExit, Trap as EndTrap}
use Rattle.rv_types.specs.declared.Kind.{Kind}
use Rattle.elf_loader.specs.inner.Code.{CodeText, word_at}
use Rattle.isa_step.specs.Outcome.{outcome}
use Rattle.isa_step.specs.declared.stepped.Stepped.TheVariants.{Next, Exit, Trap}
use Rattle.isa_step.proofs.Runs.{Rest, at_end, at_exit, at_next, at_start, at_trap, exits, goes, traps}
use Rattle.window_model.specs.Fetch.{instr_at, kind_at}
use Rattle.secret_marks.specs.declared.PublicStreams.{PublicStreams}
use Rattle.secret_marks.specs.Published.{Public, public_piece, published_in, then_published}
use Rattle.secret_marks.specs.Streams.{public_in}
use Rattle.constant_time.specs.declared.FirstStep.{FirstStep}
use Rattle.constant_time.specs.PathMarks.{PathMarks, after_step, first_behind, first_shown, shows}
use Rattle.path_marks.specs.State.{MarkedState, next_shown}
use Rattle.path_marks.specs.Walked.{Tells, published_of, run_of, shown_in}
use Rattle.path_marks.specs.declared.walking.Walked.TheVariants.{Shown, Hidden}

-- ---- one step

module _ (public : Public) (code : Code) (n k : ℕ) (s : Hart) (m : PathMarks) where
  abbrev first : FirstStep
  first = record { step = k; kind = kind_at (code s.pc); pc = s.pc }

  abbrev later : Step → Option FirstStep
  later x = first_behind x (λ t p. first_shown public isa_step code n (k + 1) t (after_step public s (instr_at (code s.pc)) p m))

  step_shown : shows code s m ≡ true → first_shown public isa_step code (suc n) k s m ≡ Some first
  step_shown h = ap (λ b. if b then Some first else later (isa_step code s)) h

  step_hidden : (x : Step) → shows code s m ≡ false → isa_step code s ≡ x → first_shown public isa_step code (suc n) k s m ≡ later x
  step_hidden x h e = ap₂ (λ b x. if b then Some first else later x) h e

  step_publishes : (x : Step) → isa_step code s ≡ x → published_in public code (suc n) s ≡ then_published public s x (published_in public code n)
  step_publishes x e = ap (λ x. then_published public s x (published_in public code n)) e

-- ---- what is told of the next step

shown_is : (b : Bool) (k kind : Kind) → Some k ≡ (if b then Some kind else None) → (b ≡ true) × (k ≡ kind)
shown_is true k kind e = (refl, cc)
shown_is false k kind e = absurd (cc)

hidden_is : (b : Bool) (kind : Kind) → None ≡ (if b then Some kind else None) → b ≡ false
hidden_is true kind e = absurd (cc)
hidden_is false kind e = refl

-- how many bytes are published of a piece, by equal streams
pub count_is : (p p2 : PublicStreams) (s : Hart) (stream : ℕ) (piece piece2 : List ℕ) (count : ℕ) → count ≡ length (if public_in p stream then piece else []) →
    p ≡ p2 → stream ≡ reg s.regs 10 → piece ≡ piece2 → count ≡ length (public_piece (public_in p2) s piece2)
count_is p p2 s stream piece piece2 count h ep es eq =
    h
    ∙ ap (λ p. length (if public_in p stream then piece else [])) ep
    ∙ ap (λ t. length (if public_in p2 t then piece else [])) es
    ∙ ap (λ q. length (public_piece (public_in p2) s q)) eq

-- ---- a loop of n steps, behind i of them

-- the run stands after i of n steps, in which nothing has shown and which published so many bytes: the other steps
-- show, end and publish what is left of all n
pub record Left (n i : ℕ) (begin now : MarkedState) (count : ℕ) : Type 0 where
  pub shown : shown_in (n - i) (i + 1) now ≡ shown_in n 1 begin
  pub rest : Rest (run_of n begin) (run_of (n - i) now) i
  pub all : count + published_of (n - i) now ≡ published_of n begin
  pub few : count ≤ i * 1024

one_more : (n i : ℕ) → i < n → n - i ≡ suc (n - (i + 1))
one_more n i h = omega arith

over : (n i : ℕ) → n ≤ i → n - i ≡ 0
over n i h = omega arith

pub left_first : (n : ℕ) (s : MarkedState) → Left n 0 s s 0
left_first n s =
    let z : n - 0 ≡ n = omega arith in
    let all : published_of (n - 0) s ≡ published_of n s = ap (λ n. published_of n s) z in
    record {
      shown = ap (λ n. shown_in n 1 s) z;
      rest = at_start (word_at s.code) s.hart n;
      all = omega (arith, all);
      few = omega arith;
    }

module _ (n i : ℕ) (begin now : MarkedState) (count : ℕ) (l : Left n i begin now count) where
  abbrev code : Code
  code = word_at now.code

  abbrev public : Public
  public = public_in now.public

  -- where all steps are over nothing has shown, and all is counted
  pub left_over : i ≤ n → n ≤ i → Tells n begin (Hidden (record { taken = n; ended = None }) count)
  left_over le h =
      let r = at_end code now.hart (run_of n begin) n i le h l.rest in
      let none : published_of (n - i) now ≡ 0 = ap (λ n. published_of n now) (over n i h) in
      let all = l.all in
      (sym l.shown ∙ ap (λ n. shown_in n (i + 1) now) (over n i h), r.taken_is, r.ended_is, omega (arith, all, none))

  abbrev told : Kind → ℕ → FirstStep
  told k pc = record { step = i + 1; kind = k; pc = pc }

  module _ (h : i < n) where
    -- what shows in the next step is told with its number and address
    pub left_shows : (k : Kind) (pc : ℕ) → Some k ≡ next_shown now → pc ≡ now.hart.pc → Tells n begin (Shown (record { step = i + 1; kind = k; pc = pc }))
    left_shows k pc e ep =
        let b = shown_is (shows code now.hart now.marks) k (kind_at (code now.hart.pc)) e in
        sym l.shown
        ∙ ap (λ n. shown_in n (i + 1) now) (one_more n i h)
        ∙ step_shown public code (n - (i + 1)) (i + 1) now.hart now.marks b.0
        ∙ sym (ap₂ (λ k pc. Some (told k pc)) b.1 ep)

    module _ (e : None ≡ next_shown now) where
      hides : shows code now.hart now.marks ≡ false
      hides = hidden_is (shows code now.hart now.marks) (kind_at (code now.hart.pc)) e

      shown_by : (x : Step) → isa_step code now.hart ≡ x → later public code (n - (i + 1)) (i + 1) now.hart now.marks x ≡ shown_in n 1 begin
      shown_by x ex =
          sym (ap (λ n. shown_in n (i + 1) now) (one_more n i h) ∙ step_hidden public code (n - (i + 1)) (i + 1) now.hart now.marks x hides ex) ∙ l.shown

      all_by : (x : Step) → isa_step code now.hart ≡ x → count + length (then_published public now.hart x (published_in public code (n - (i + 1)))) ≡ published_of n begin
      all_by x ex =
          let steps : published_of (n - i) now ≡ length (then_published public now.hart x (published_in public code (n - (i + 1)))) =
          ap (λ n. published_of n now) (one_more n i h) ∙ ap length (step_publishes public code (n - (i + 1)) (i + 1) now.hart now.marks x ex) in
          let all = l.all in
          omega (arith, steps, all)

      -- a step that goes on leaves one step less
      pub left_next : (next : MarkedState) (p : List ℕ) → record { hart = next.hart; piece = p; stepped = Next } ≡ outcome now.hart (isa_step code now.hart) →
          next.marks ≡ after_step public now.hart (instr_at (code now.hart.pc)) p now.marks → next.code ≡ now.code → next.public ≡ now.public →
          (more : ℕ) → more ≡ length (public_piece public now.hart p) → more ≤ 1024 → (sum : ℕ) → sum ≡ count + more → Left n (i + 1) begin next sum
      left_next next p eo em ec ep more is most sum es =
          let eg = goes now.hart next.hart p (isa_step code now.hart) eo in
          let same : next ≡ record { code = now.code; hart = next.hart; marks = after_step public now.hart (instr_at (code now.hart.pc)) p now.marks; public = now.public } =
          ap₂ (λ c q. record { code = c; hart = next.hart; marks = next.marks; public = q }) ec ep ∙ ap (λ m. record { code = now.code; hart = next.hart; marks = m; public = now.public }) em in
          let P : CodeText → Type 0 = λ c. Rest (run_of n begin) (isa (word_at c) next.hart (n - (i + 1))) (i + 1) in
          let rest = published_in public code (n - (i + 1)) next.hart in
          let split = length-append (public_piece public now.hart p) rest in
          let all = all_by (Goes next.hart p) eg in
          let others : published_of (n - (i + 1)) next ≡ length rest = ap (published_of (n - (i + 1))) same in
          let few = l.few in
          record {
            shown = ap (shown_in (n - (i + 1)) (i + 1 + 1)) same ∙ shown_by (Goes next.hart p) eg;
            rest = subst P (sym ec) (at_next code now.hart next.hart p (run_of n begin) n i h eo l.rest);
            all = omega (arith, split, all, others, is, es);
            few = omega (arith, few, most, es);
          }

      -- an exit ends the run, and counts
      pub left_exits : (s' : Hart) (p : List ℕ) (v : ℕ) → record { hart = s'; piece = p; stepped = Exit v } ≡ outcome now.hart (isa_step code now.hart) →
          Tells n begin (Hidden (record { taken = i + 1; ended = Some (EndExit v) }) count)
      left_exits s' p v eo =
          let x = (exits now.hart s' p v (isa_step code now.hart) eo).0 in
          let r = at_exit code now.hart s' p v (run_of n begin) n i h eo l.rest in
          let all = all_by (Exits v s') x in
          (sym (shown_by (Exits v s') x), r.taken_is, r.ended_is, omega (arith, all))

      -- a trap ends it, and doesn't count
      pub left_traps : (s' : Hart) (p : List ℕ) (cause : Cause) → record { hart = s'; piece = p; stepped = Trap cause } ≡ outcome now.hart (isa_step code now.hart) →
          (pc : ℕ) → pc ≡ s'.pc → Tells n begin (Hidden (record { taken = i; ended = Some (EndTrap cause pc) }) count)
      left_traps s' p cause eo pc ep =
          let x = (traps now.hart s' p cause (isa_step code now.hart) eo).0 in
          let r = at_trap code now.hart s' p cause (run_of n begin) n i h eo l.rest in
          let all = all_by (Traps cause) x in
          (sym (shown_by (Traps cause) x), r.taken_is, ap (λ pc. Some (EndTrap cause pc)) ep ∙ r.ended_is, omega (arith, all))
