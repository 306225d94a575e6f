-- What two runs come to from where two images begin, and that they are the same where the premise holds and the model
-- protects.
use Rattle.std.proofs.Common.{◌≡◌, ◌↔◌, Bool, true, IsTrue, ℕ, ◌+◌, ◌-◌, ap, sym, subst, refl, ◌∙◌, Option}
use Rattle.std.specs.Prelude.{slice_get, IsSome}
use Rattle.rv_types.specs.Memory.{Code, Agree}
use Rattle.rv_types.specs.Isa.{start}
use Rattle.rv_types.specs.Path.{reads}
use Rattle.elf_loader.specs.inner.Code.{CodeText, word_at}
use Rattle.elf_loader.specs.Image.{ImageText}
use Rattle.elf_loader.specs.declared.loading.Image.{Image}
use Rattle.elf_loader.proofs.Images.{code_aligned}
use Rattle.machine_desc.specs.declared.Desc.{Desc}
use Rattle.machine_desc.proofs.EveryDesc.{every_desc}
use Rattle.machine_facts.specs.Timely.{Counted}
use Rattle.machine_facts.proofs.FewEvents.{counts_at}
use Rattle.window_model.specs.State.{Machine}
use Rattle.window_model.specs.Cycle.{Trace, trace, trace_from, at, after_cycles}
use Rattle.window_model.specs.Committed.{Aligned}
use Rattle.window_model.specs.Path.{path as path_of}
use Rattle.window_model.specs.Taint.{protects}
use Rattle.noninterference.proofs.Runs.{same_trace}
use Rattle.run_inputs.specs.Loaded.{image_text}
use Rattle.pair_run.specs.Starts.{trace_of}
use Rattle.core_cycle.specs.Programmed.{Programmed}
use Rattle.pair_run.specs.inner.Images.{CoreStarts, Opened, image_at}
use Rattle.pair_run.specs.Answer.{Answers, Differs, Premise}
use Rattle.isa_step.specs.State.{IsaState}
use Rattle.pair_run.specs.inner.Loaded.{StartsAgree}
use Rattle.pair_run.specs.declared.starting.Start.{Start}
use Rattle.pair_run.specs.declared.answer.Differ.{Differ}
use Rattle.pair_run.specs.declared.answer.Differ.TheVariants.{Same, Cycle, End}

-- ---- A run from where an image begins

module _ (d : Desc) (image : Image) (core : Programmed) (n : ℕ) (s : CoreStarts d image core) where
  pub at_end : (y : Machine) → y ≡ after_cycles core.desc (word_at core.code) n core.machine → y ≡ at d (word_at image.code) image.entry image.ram n
  at_end y e = e ∙ ap (λ (c : Programmed). after_cycles c.desc (word_at c.code) n c.machine) s

  pub counted_at_end : (y : Machine) → y ≡ after_cycles core.desc (word_at core.code) n core.machine → Counted y
  counted_at_end y e = subst Counted (sym (at_end y e)) (counts_at d (word_at image.code) image.entry image.ram n (every_desc d))

  pub its_trace : trace_from core.desc (word_at core.code) n core.machine ≡ trace_of d (image_text image) n
  its_trace = ap (λ (c : Programmed). trace_from c.desc (word_at c.code) n c.machine) s

-- ---- Where the premise holds

-- runs with one trace don't differ
pub one_trace : (t t2 : Trace) (r : Differ) → t2 ≡ t → Differs t t2 r → r ≡ Same
one_trace t t2 Same e h = refl
one_trace t t2 End e h = absurd (h.1 e)
one_trace t t2 (Cycle k) e h = absurd (h.there (ap (λ (t : Trace). slice_get t.rows (k - 1)) (sym e)))

aligned : (code : CodeText) → Aligned (word_at code)
aligned code pc w e = code_aligned code pc (subst (λ (o : Option ℕ). IsSome o) (sym e) refl)

-- images that agree on what the path of the first loads have one trace, where the model protects
pub premise_traces : (d : Desc) (one two : ImageText) (n : ℕ) → protects d.stt_model ≡ true → Aligned one.code → Premise d one two n → trace_of d two n ≡ trace_of d one n
premise_traces d one two n protected al p =
    ap (λ (k : Code). trace d k two.entry two.ram n) p.code
    ∙ ap (λ (k : ℕ). trace d one.code k two.ram n) p.entry
    ∙ same_trace d one.code one.entry one.ram two.ram n protected al p.agree

pub hidden : (d : Desc) (one two : Image) (core core2 : Programmed) (n : ℕ) (r : Differ)
    → protects d.stt_model ≡ true → CoreStarts d one core → CoreStarts d two core2 → Premise d (image_text one) (image_text two) n
    → Differs (trace_from core.desc (word_at core.code) n core.machine) (trace_from core2.desc (word_at core2.code) n core2.machine) r → r ≡ Same
hidden d one two core core2 n r protected s s2 p h =
    one_trace _ _ r (its_trace d two core2 n s2 ∙ premise_traces d (image_text one) (image_text two) n protected (aligned one.code) p ∙ sym (its_trace d one core n s)) h

-- the test of codes and of starts answers whether the premise holds
module _ (d : Desc) (one two : Start) (same_code : Bool) (first second : Programmed) (path : IsaState) (n steps : ℕ) (o : Opened d one two same_code first second path)
    (e : steps ≡ (trace_of d (image_text (image_at one first.code)) n).retired + d.core_rob) where
  pub is_premise : StartsAgree d.stt_model same_code (word_at path.code) one two steps → Premise d (image_text (image_at one first.code)) (image_text (image_at two second.code)) n
  is_premise a = record {
    entry = a.entry;
    code = o.code.0 a.same;
    agree = subst (λ k. Agree one.ram two.ram (reads (path_of d.stt_model) (word_at first.code) (start one.entry one.ram) k)) e
        (subst (λ code. Agree one.ram two.ram (reads (path_of d.stt_model) (word_at code) (start one.entry one.ram) steps)) o.path_is.code a.agree);
  }

  pub asked : Premise d (image_text (image_at one first.code)) (image_text (image_at two second.code)) n → StartsAgree d.stt_model same_code (word_at path.code) one two steps
  asked p = record {
    same = o.code.1 p.code;
    entry = p.entry;
    agree = subst (λ code. Agree one.ram two.ram (reads (path_of d.stt_model) (word_at code) (start one.entry one.ram) steps)) (sym o.path_is.code)
        (subst (λ k. Agree one.ram two.ram (reads (path_of d.stt_model) (word_at first.code) (start one.entry one.ram) k)) (sym e) p.agree);
  }

  -- what the two runs come to is the answer on the two images
  pub answers : (premise : Bool) (differ : Differ) (last : Machine) (retired cycles : ℕ) → last ≡ at d (word_at first.code) one.entry one.ram n
      → IsTrue premise ↔ StartsAgree d.stt_model same_code (word_at path.code) one two steps
      → Differs (trace_from first.desc (word_at first.code) n first.machine) (trace_from second.desc (word_at second.code) n second.machine) differ
      → retired ≡ last.retired → cycles ≡ last.cycle
      → Answers d (image_text (image_at one first.code)) (image_text (image_at two second.code)) n (record { premise = premise; first = differ; retired = retired; cycles = cycles })
  answers premise differ last retired cycles l p h r c = record {
    premise = (λ t. is_premise (p.0 t), λ q. p.1 (asked q));
    first = subst (λ (t : Trace). Differs t (trace_of d (image_text (image_at two second.code)) n) differ) (its_trace d (image_at one first.code) first n o.first_is)
        (subst (λ (t : Trace). Differs (trace_from first.desc (word_at first.code) n first.machine) t differ) (its_trace d (image_at two second.code) second n o.second_is) h);
    retired = r ∙ ap (λ (m : Machine). m.retired) l;
    cycles = c ∙ ap (λ (m : Machine). m.cycle) l;
  }
