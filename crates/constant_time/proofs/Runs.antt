-- Whole runs: what leaks alike on the path gives one trace.
use Rattle.std.proofs.Common.{◌≡◌, ℕ, zero, suc, ◌+◌, ◌≤◌, true, [], ◌∷◌, Option, Some, None, refl, ap, ap₂, sym, arith}
use Rattle.rv_types.specs.Memory.{Code, Ram}
use Rattle.rv_types.specs.Isa.{Hart, Step, Goes, Exits, Traps, start}
use Rattle.rv_types.specs.declared.End.{End}
use Rattle.machine_desc.specs.declared.Desc.{Desc}
use Rattle.window_model.specs.State.{Machine, opening}
use Rattle.window_model.specs.Taint.{protects}
use Rattle.window_model.specs.Retire.{unless_ended}
use Rattle.window_model.specs.Cycle.{after_cycles, cycle, rows}
use Rattle.window_model.specs.Committed.{Aligned}
use Rattle.window_model.specs.Path.{path}
use Rattle.two_runs.proofs.Rows.{with_end}
use Rattle.committed_state.proofs.Cycle.{consistent_cycle}
use Rattle.noninterference.proofs.Facts.{facts_opening}
use Rattle.secret_marks.specs.Marks.{Secret, opening_marks}
use Rattle.secret_marks.specs.Alike.{AgreeBut, without_data}
use Rattle.secret_marks.proofs.Outputs.{rises}
use Rattle.secret_marks.proofs.Trace.{opening_alike}
use Rattle.constant_time.specs.Leaks.{BothGo, LeakAlike, LeakUpTo}
use Rattle.constant_time.specs.Laws.{Alike, ContractWhereShownIsVisible, any_byte_at}
use Rattle.constant_time.specs.Waits.{RunWaits}
use Rattle.constant_time.proofs.Cycle.{Together, cycle_alike}

module _ (d : Desc) (code : Code) (total : ℕ) (protected : protects d.stt_model ≡ true) (aligned : Aligned code) where
  -- two runs have the same rows, and leave machines that are equal but for data
  record RunsAlike (n : ℕ) (x x2 : Machine) : Type 0 where
    rows : rows d code n x ≡ rows d code n x2
    others : without_data (after_cycles d code n x) ≡ without_data (after_cycles d code n x2)

  runs_alike : (n : ℕ) (x x2 : Machine) → Alike x x2 → (x.end ≡ None → Together d code total x x2) → (after_cycles d code n x).retired + d.core_rob ≤ total → RunWaits d code n x → RunsAlike n x x2
  runs_alike zero x x2 r p le wait = record { rows = refl; others = r.1.others }
  runs_alike (suc n) x x2 r p le wait =
      let g = by_end x.end x2.end refl (ap (λ (m : Machine). m.end) r.1.others) le (λ a b e w. runs_alike n (cycle d code x).machine (cycle d code x2).machine a b e w) in record { rows = g.0; others = g.1 }
    where
      c : Machine
      c = (cycle d code x).machine

      c2 : Machine
      c2 = (cycle d code x2).machine

      by_end : (o o2 : Option End) → x.end ≡ o → o ≡ o2 → (unless_ended o x (after_cycles d code n c)).retired + d.core_rob ≤ total →
          (Alike c c2 → (c.end ≡ None → Together d code total c c2) → (after_cycles d code n c).retired + d.core_rob ≤ total → RunWaits d code n c → RunsAlike n c c2) →
          (unless_ended o [] ((cycle d code x).row ∷ rows d code n c) ≡ unless_ended o2 [] ((cycle d code x2).row ∷ rows d code n c2))
          × (without_data (unless_ended o x (after_cycles d code n c)) ≡ without_data (unless_ended o2 x2 (after_cycles d code n c2)))
      by_end (Some e) (Some e2) q z le more = (refl, r.1.others)
      by_end None None q z le more =
          let f = consistent_cycle d code x aligned (p q).facts.consistent q in
          let m = rises d code aligned n c (λ z. f) in
          let w = wait q in
          let t = cycle_alike d code total protected aligned x x2 q (p q) (omega (arith, m, le)) w.0 in
          let rest = more t.alike t.together le w.1 in
          (ap₂ (λ w ws. w ∷ ws) t.row rest.rows, rest.others)
      by_end None (Some e) q z le more = absurd (cc)
      by_end (Some e) None q z le more = absurd (cc)

-- ---- fewer steps

both_fewer : (t t2 : Step) (R Q : Hart → Hart → Type 0) → ((s s2 : Hart) → R s s2 → Q s s2) → BothGo t t2 R → BothGo t t2 Q
both_fewer (Goes s p) (Goes s2 p2) R Q h a = h s s2 a
both_fewer (Goes s p) (Exits v s2) R Q h a = tt
both_fewer (Goes s p) (Traps c) R Q h a = tt
both_fewer (Exits v s) t2 R Q h a = tt
both_fewer (Traps c) t2 R Q h a = tt

fewer : (step : Code → Hart → Step) (code : Code) (k n : ℕ) (s s2 : Hart) → k ≤ n → LeakAlike step code n s s2 → LeakAlike step code k s s2
fewer step code zero n s s2 le a = tt
fewer step code (suc k) zero s s2 le a = absurd (omega (arith, le))
fewer step code (suc k) (suc n) s s2 le a =
    let lower : k ≤ n = omega (arith, le) in
    (a.0, a.1, both_fewer (step code s) (step code s2) (λ t t2. LeakAlike step code n t t2) (λ t t2. LeakAlike step code k t t2) (λ t t2 h. fewer step code k n t t2 lower h) a.2)

-- ---- from the first states on

-- memories that agree but for some bytes agree but for all
pub any_secret : (secret : Secret) (m m2 : Ram) → AgreeBut secret m m2 → AgreeBut any_byte_at m m2
any_secret secret m m2 a = record { base = a.base; size = a.size; misaligned = a.misaligned; bytes = a.bytes; bytes2 = a.bytes2; same = λ i z. absurd (cc) }

-- two memories whose paths leak alike give one trace, where the model protects and what shows is visible
pub contract : ContractWhereShownIsVisible
contract d code entry m m2 n protected aligned agree wait leaks =
    let x = opening d entry m in
    let x2 = opening d entry m2 in
    let total = (after_cycles d code n x).retired + d.core_rob in
    let al : Alike x x2 = (opening_marks any_byte_at m, opening_alike d entry any_byte_at m m2 agree) in
    let up : LeakUpTo d.stt_model code total x x2 = λ k le. fewer (path d.stt_model) code k total (start entry m) (start entry m2) (omega (arith, le)) leaks in
    let p : Together d code total x x2 = record { alike = al; facts = facts_opening d code entry m; facts2 = facts_opening d code entry m2; leaks = up } in
    let r = runs_alike d code total protected aligned n x x2 al (λ z. p) (omega arith) wait in
    sym (ap₂ with_end r.rows r.others)
