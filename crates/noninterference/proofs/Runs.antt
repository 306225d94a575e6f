-- Whole runs: what the path doesn't load leaves no mark in the trace.
use Rattle.std.proofs.Common.{◌≡◌, ℕ, zero, suc, ◌+◌, ◌-◌, ◌≤◌, true, List, [], ◌∷◌, Option, Some, None, refl, ap, ap₂, sym, ◌∙◌, arith}
use Rattle.std.specs.Prelude.{slice_index}
use Rattle.std.specs.List.{AllByRecursion as Each}
use Rattle.std.proofs.lemmas.List.Elements.{recursion_from_All}
use Rattle.rv_types.specs.Memory.{Code, Ram, Agree}
use Rattle.rv_types.specs.Path.{reads, loads_at, then_reads}
use Rattle.rv_types.specs.Isa.{Hart, Step, Goes, Exits, Traps, start}
use Rattle.rv_types.specs.declared.End.{End}
use Rattle.machine_desc.specs.declared.Desc.{Desc}
use Rattle.window_model.specs.State.{Machine, opening}
use Rattle.window_model.specs.Taint.{protects}
use Rattle.window_model.specs.Retire.{unless_ended}
use Rattle.window_model.specs.Cycle.{cycle, rows, after_cycles}
use Rattle.window_model.specs.Committed.{Aligned}
use Rattle.window_model.specs.Path.{path}
use Rattle.window_model.proofs.Lists.{each_join, each_left, each_right, each_then}
use Rattle.two_runs.proofs.Rows.{with_end}
use Rattle.committed_state.specs.Consistent.{Consistent}
use Rattle.committed_state.proofs.Cycle.{cycle_commits, consistent_cycle}
use Rattle.noninterference.specs.Alike.{Alike}
use Rattle.noninterference.specs.InStep.{byte, InStepUpTo}
use Rattle.noninterference.specs.Together.{Together}
use Rattle.noninterference.specs.Laws.{Noninterference}
use Rattle.noninterference.proofs.Facts.{facts_opening}
use Rattle.noninterference.proofs.Cycle.{cycle_tells_nothing}

module _ (d : Desc) (code : Code) (total : ℕ) (protected : protects d.stt_model ≡ true) (aligned : Aligned code) where
  -- the number of the retired doesn't fall in a run
  retired_stays : (n : ℕ) (x : Machine) → (x.end ≡ None → Consistent d code x) → x.retired ≤ (after_cycles d code n x).retired
  retired_stays zero x f = omega arith
  retired_stays (suc n) x f = by_end x.end refl (λ g. retired_stays n (cycle d code x).machine g)
    where
      c : Machine
      c = (cycle d code x).machine

      by_end : (o : Option End) → x.end ≡ o → ((c.end ≡ None → Consistent d code c) → c.retired ≤ (after_cycles d code n c).retired) → x.retired ≤ (unless_ended o x (after_cycles d code n c)).retired
      by_end (Some e) q more = omega arith
      by_end None q more =
          let up = (cycle_commits d code x aligned (f q) q).rises in
          let m = more (λ z. consistent_cycle d code x aligned (f q) q) in
          omega (arith, up, m)

  -- two runs that are together have the same rows and show the same after them
  runs_alike : (n : ℕ) (x x2 : Machine) → Alike x x2 → (x.end ≡ None → Together d code total x x2) → (after_cycles d code n x).retired + d.core_rob ≤ total →
      (rows d code n x ≡ rows d code n x2) × Alike (after_cycles d code n x) (after_cycles d code n x2)
  runs_alike zero x x2 r p le = (refl, r)
  runs_alike (suc n) x x2 r p le = by_end x.end x2.end refl (ap (λ (m : Machine). m.end) r) le (λ a b e. runs_alike n (cycle d code x).machine (cycle d code x2).machine a b e)
    where
      c : Machine
      c = (cycle d code x).machine

      c2 : Machine
      c2 = (cycle d code x2).machine

      by_end : (o o2 : Option End) → x.end ≡ o → o ≡ o2 → (unless_ended o x (after_cycles d code n c)).retired + d.core_rob ≤ total →
          (Alike c c2 → (c.end ≡ None → Together d code total c c2) → (after_cycles d code n c).retired + d.core_rob ≤ total → (rows d code n c ≡ rows d code n c2) × Alike (after_cycles d code n c) (after_cycles d code n c2)) →
          (unless_ended o [] ((cycle d code x).row ∷ rows d code n c) ≡ unless_ended o2 [] ((cycle d code x2).row ∷ rows d code n c2)) × Alike (unless_ended o x (after_cycles d code n c)) (unless_ended o2 x2 (after_cycles d code n c2))
      by_end (Some e) (Some e2) q z le more = (refl, r)
      by_end None None q z le more =
          let f = consistent_cycle d code x aligned (p q).facts.consistent q in
          let m = retired_stays n c (λ z. f) in
          let t = cycle_tells_nothing d code total x x2 protected aligned q (p q) (omega (arith, m, le)) in
          let rest = more t.alike t.together le in
          (ap (λ w. w ∷ rows d code n c) t.row ∙ ap (λ ws. (cycle d code x2).row ∷ ws) rest.0, rest.1)
      by_end _ _ q z le more = absurd (cc)

-- ---- what is loaded in fewer steps

then_fewer : (P : ℕ → Type 0) (t : Step) (f g : Hart → List ℕ) → ((s : Hart) → Each P (f s) → Each P (g s)) → Each P (then_reads t f) → Each P (then_reads t g)
then_fewer P (Goes s p) f g h a = h s a
then_fewer P (Exits v s) f g h a = a
then_fewer P (Traps c) f g h a = a

-- what is so of all bytes that n steps load is so of those that fewer steps load
pub fewer : (P : ℕ → Type 0) (step : Code → Hart → Step) (code : Code) (k n : ℕ) (s : Hart) → k ≤ n → Each P (reads step code s n) → Each P (reads step code s k)
fewer P step code zero n s le a = tt
fewer P step code (suc k) zero s le a = absurd (omega (arith, le))
fewer P step code (suc k) (suc n) s le a =
    let now = loads_at (code s.pc) s in
    let lower : k ≤ n = omega (arith, le) in
    each_join P now _ (each_left P now _ a)
    (then_fewer P (step code s) (λ t. reads step code t n) (λ t. reads step code t k) (λ t h. fewer P step code k n t lower h) (each_right P now _ a))

-- ---- from the first state on

module _ (d : Desc) (code : Code) (entry : ℕ) (m m2 : Ram) (total : ℕ) (agree : Agree m m2 (reads (path d.stt_model) code (start entry m) total)) where
  same_registers : (start entry m).regs ≡ (start entry m2).regs
  same_registers =
      let b = agree.base in
      let z = agree.size in
      cc

  opening_alike : Alike (opening d entry m) (opening d entry m2)
  opening_alike =
      let b = agree.base in
      let g = same_registers in
      cc

  same_byte : (a : ℕ) → slice_index m2.bytes (a - m.base) ≡ slice_index m.bytes (a - m.base) → byte m a ≡ byte m2 a
  same_byte a h = sym h ∙ ap (λ j. slice_index m2.bytes (a - j)) (sym agree.base)

  opening_in_step : InStepUpTo d.stt_model code total (opening d entry m) (opening d entry m2)
  opening_in_step k le =
      let loaded = reads (path d.stt_model) code (start entry m) total in
      let all = recursion_from_All _ loaded agree.same in
      record {
        pc = refl;
        regs = same_registers;
        place = record { base = agree.base; size = agree.size; misaligned = agree.misaligned };
        bytes = fewer _ (path d.stt_model) code k total (start entry m) (omega (arith, le)) (each_then _ _ same_byte loaded all);
      }

-- under a model that protects, each memory that agrees on the bytes that the path loads gives one trace
pub same_trace : Noninterference
same_trace d code entry m m2 n protected aligned agree =
    let x = opening d entry m in
    let x2 = opening d entry m2 in
    let total = (after_cycles d code n x).retired + d.core_rob in
    let al = opening_alike d code entry m m2 total agree in
    let p : Together d code total x x2 = record { alike = al; facts = facts_opening d code entry m; facts2 = facts_opening d code entry m2; in_step = opening_in_step d code entry m m2 total agree } in
    let r = runs_alike d code total protected aligned n x x2 al (λ z. p) (omega arith) in
    sym (ap₂ with_end r.0 r.1)
