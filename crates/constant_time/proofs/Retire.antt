-- Retire: what a call is asked for is equal in both runs, and their paths go on leaking alike.
use Rattle.std.proofs.Common.{◌≡◌, ℕ, zero, suc, ◌+◌, ◌≤◌, Bool, true, false, ◌&&◌, ◌||◌, List, [], ◌∷◌, length, Some, None, refl, ap, ap₂, sym, ◌∙◌, subst, arith}
use Rattle.std.specs.Prelude.{if◌then◌else◌, ◌==◌, get_or}
use Rattle.rv_types.specs.Memory.{Code}
use Rattle.rv_types.specs.Isa.{Hart, Step, Goes, Exits, Traps, Run, after, isa, isa_step, reg, run, with_piece}
use Rattle.rv_types.specs.declared.Kind.TheVariants.{Call}
use Rattle.machine_desc.specs.declared.Desc.{Desc}
use Rattle.machine_desc.specs.declared.SttModel.{SttModel}
use Rattle.window_model.specs.declared.Entry.{Entry}
use Rattle.window_model.specs.State.{Machine}
use Rattle.window_model.specs.Along.{Along}
use Rattle.window_model.specs.Committed.{exit_of}
use Rattle.window_model.specs.Fetch.{instr_at, kind_at}
use Rattle.window_model.specs.Path.{path}
use Rattle.window_model.specs.Rename.{is_call}
use Rattle.window_model.specs.Retire.{hart_of, retire}
use Rattle.window_model.proofs.Booleans.{some_of}
use Rattle.committed_state.specs.Consistent.{EntryInvariant, bank_in}
use Rattle.committed_state.specs.Links.{Chain, links}
use Rattle.committed_state.proofs.Retire.{call_kind, retire_commits}
use Rattle.noninterference.proofs.Paths.{path_goes}
use Rattle.secret_marks.specs.Marks.{Marks}
use Rattle.secret_marks.specs.Words.{any_byte, unmarked}
use Rattle.secret_marks.specs.Shows.{call_shows, head_shows}
use Rattle.secret_marks.proofs.Retire.{retire_keeps}
use Rattle.constant_time.specs.Leaks.{LeakAlike, call_arguments, leak, leak_as}
use Rattle.constant_time.specs.Laws.{RetireLeaksAlike}
use Rattle.constant_time.proofs.Differ.{again, loosened, reg_unmarked, regs_differ}
use Rattle.constant_time.proofs.Onward.{goes_on}

-- ---- what a call is asked for

-- what a call of this number is asked for
abbrev asked_by : ℕ → List ℕ → List ℕ
asked_by a7 regs = if a7 == 93 || a7 == 94 then reg regs 10 ∷ [] else if a7 == 64 then reg regs 10 ∷ reg regs 11 ∷ reg regs 12 ∷ [] else []

module _ (g g2 : List ℕ) where
  Marked : ℕ → Bool
  Marked r = any_byte (get_or (regs_differ g g2) r unmarked)

  -- the registers that a call of this number is asked by are unmarked, where they are equal
  asked_quiet : (a b : Bool) → (if a then reg g 10 ∷ [] else if b then reg g 10 ∷ reg g 11 ∷ reg g 12 ∷ [] else []) ≡ (if a then reg g2 10 ∷ [] else if b then reg g2 10 ∷ reg g2 11 ∷ reg g2 12 ∷ [] else []) →
      (if a then Marked 10 else (b && (Marked 10 || Marked 11 || Marked 12))) ≡ false
  unfolding Marked
  asked_quiet true b q = let e : reg g 10 ≡ reg g2 10 = cc in reg_unmarked g g2 10 e
  asked_quiet false true q =
      let e : reg g 10 ≡ reg g2 10 = cc in
      let f : reg g 11 ≡ reg g2 11 = cc in
      let h : reg g 12 ≡ reg g2 12 = cc in
      ap₂ (λ a b. a || b) (ap₂ (λ a b. a || b) (reg_unmarked g g2 10 e) (reg_unmarked g g2 11 f)) (reg_unmarked g g2 12 h)
  asked_quiet false false q = refl

call_quiet : (m : Marks) (x x2 : Machine) → call_arguments x.regs ≡ call_arguments x2.regs → call_shows x (loosened m x x2) ≡ false
unfolding Marked
call_quiet m x x2 h =
    let e : reg x.regs 17 ≡ reg x2.regs 17 = cc in
    let r : asked_by (reg x.regs 17) x.regs ≡ asked_by (reg x2.regs 17) x2.regs = cc in
    let r2 : asked_by (reg x.regs 17) x.regs ≡ asked_by (reg x.regs 17) x2.regs = r ∙ ap (λ a. asked_by a x2.regs) (sym e) in
    ap₂ (λ a b. a || b) (reg_unmarked x.regs x2.regs 17 e) (asked_quiet x.regs x2.regs (reg x.regs 17 == 93 || reg x.regs 17 == 94) (reg x.regs 17 == 64) r2)

call_asks : (code : Code) (s : Hart) → kind_at (code s.pc) ≡ Call → leak code s ≡ call_arguments s.regs
call_asks code s k = ap (λ k. leak_as k s (instr_at (code s.pc))) k

head_quiet : (now : ℕ) (d : Desc) (code : Code) (m : Marks) (x x2 : Machine) (w : List Entry) → Along (EntryInvariant d code (bank_in (hart_of x)) now) [] w → Chain (Some x.pc) (links w x.queue) x.fetch_pc → x.pc ≡ x2.pc →
    (1 ≤ length w → leak code (hart_of x) ≡ leak code (hart_of x2)) → head_shows w x (loosened m x x2) ≡ false
head_quiet now d code m x x2 [] a c p l = refl
head_quiet now d code m x x2 (e ∷ w) a c p l = by_call (is_call e.item.kind) refl
  where
    by_call : (b : Bool) → is_call e.item.kind ≡ b → (b && call_shows x (loosened m x x2)) ≡ false
    by_call false q = refl
    by_call true q =
        let k : kind_at (code x.pc) ≡ Call = ap (λ a. kind_at (code a)) (some_of _ _ c.0) ∙ sym a.0.item.kind ∙ call_kind e.item.kind q in
        let k2 : kind_at (code x2.pc) ≡ Call = ap (λ a. kind_at (code a)) (sym p) ∙ k in
        call_quiet m x x2 (sym (call_asks code (hart_of x) k) ∙ l (omega arith) ∙ call_asks code (hart_of x2) k2)

-- ---- the paths go on

module _ (model : SttModel) (code : Code) where
  behind_run : (k n : ℕ) (s s2 : Hart) → (isa code s k).steps ≡ k → (isa code s2 k).steps ≡ k → (isa code s k).ended ≡ None → (isa code s2 k).ended ≡ None →
      LeakAlike (path model) code (k + n) s s2 → LeakAlike (path model) code n (isa code s k).last (isa code s2 k).last
  behind_run zero n s s2 q q2 e e2 h = let z : zero + n ≡ n = omega arith in subst (λ j. LeakAlike (path model) code j s s2) z h
  behind_run (suc k) n s s2 q q2 e e2 h =
      let z : suc k + n ≡ suc (k + n) = omega arith in
      by_steps (isa_step code s) (isa_step code s2) refl refl q q2 e e2 (λ t t2 a a2 b b2 l. behind_run k n t t2 a a2 b b2 l) (subst (λ j. LeakAlike (path model) code j s s2) z h)
    where
      by_steps : (t t2 : Step) → isa_step code s ≡ t → isa_step code s2 ≡ t2 →
          (after s t (run (isa_step code) k)).steps ≡ suc k → (after s2 t2 (run (isa_step code) k)).steps ≡ suc k → (after s t (run (isa_step code) k)).ended ≡ None → (after s2 t2 (run (isa_step code) k)).ended ≡ None →
          ((t t2 : Hart) → (isa code t k).steps ≡ k → (isa code t2 k).steps ≡ k → (isa code t k).ended ≡ None → (isa code t2 k).ended ≡ None → LeakAlike (path model) code (k + n) t t2 → LeakAlike (path model) code n (isa code t k).last (isa code t2 k).last) →
          LeakAlike (path model) code (suc (k + n)) s s2 → LeakAlike (path model) code n (after s t (run (isa_step code) k)).last (after s2 t2 (run (isa_step code) k)).last
      by_steps (Goes t p) (Goes t2 p2) g g2 q q2 e e2 more h =
          more t t2 (omega (arith, q)) (omega (arith, q2)) e e2 (goes_on (path model) code (k + n) s s2 t t2 p p2 h (path_goes model code s t p g) (path_goes model code s2 t2 p2 g2))
      by_steps (Exits v t) t2 g g2 q q2 e e2 more h = absurd (cc)
      by_steps (Traps c) t2 g g2 q q2 e e2 more h = absurd (cc)
      by_steps (Goes t p) (Exits v t2) g g2 q q2 e e2 more h = absurd (cc)
      by_steps (Goes t p) (Traps c) g g2 q q2 e e2 more h = absurd (cc)

-- Retire has the same events in two machines whose paths leak alike
pub retire_alike : RetireLeaksAlike
retire_alike now d code total x x2 aligned ne c c2 le leaks h =
    let m = loosened h.0 x x2 in
    let p : x.pc ≡ x2.pc = ap (λ (t : Machine). t.pc) h.1.others in
    let quiet = head_quiet now d code h.0 x x2 x.window c.entries c.chain p (λ lt. (leaks 1 (omega (arith, lt, le))).1) in
    let s = retire_keeps now d code m x x2 c (again h.0 x x2 h.1) quiet in
    let ne2 : x2.end ≡ None = sym (ap (λ (t : Machine). t.end) h.1.others) ∙ ne in
    let r = (retire d x).machine in
    let r2 = (retire d x2).machine in
    let w = (retire_commits now code aligned d x c ne).committed in
    let w2 = (retire_commits now code aligned d x2 c2 ne2).committed in
    let n1 = w.counted in
    let n2 = w2.counted in
    let o1 : x.retired ≡ x2.retired = ap (λ (t : Machine). t.retired) h.1.others in
    let o2 : r.retired ≡ r2.retired = ap (λ (t : Machine). t.retired) s.alike.others in
    let k : w2.steps ≡ w.steps = omega (arith, n1, n2, o1, o2) in
    let re : r.end ≡ r2.end = ap (λ (t : Machine). t.end) s.alike.others in
    record {
      events = s.events;
      alike = (_, s.alike);
      leaks = λ z n lt.
          let R = isa code (hart_of x) w.steps in
          let R2 = isa code (hart_of x2) w.steps in
          let runs2 = subst (λ j. isa code (hart_of x2) j ≡ record { last = hart_of r2; pieces = with_piece (retire d x2).piece []; steps = j; ended = exit_of r2.end }) k w2.runs in
          let last : R.last ≡ hart_of r = ap (λ (t : Run). t.last) w.runs in
          let last2 : R2.last ≡ hart_of r2 = ap (λ (t : Run). t.last) runs2 in
          let st : R.steps ≡ w.steps = ap (λ (t : Run). t.steps) w.runs in
          let st2 : R2.steps ≡ w.steps = ap (λ (t : Run). t.steps) runs2 in
          let en : R.ended ≡ None = ap (λ (t : Run). t.ended) w.runs ∙ ap exit_of z in
          let en2 : R2.ended ≡ None = ap (λ (t : Run). t.ended) runs2 ∙ ap exit_of (sym re ∙ z) in
          let l = behind_run d.stt_model code w.steps n (hart_of x) (hart_of x2) st st2 en en2 (leaks (w.steps + n) (omega (arith, lt, n1))) in
          subst (λ t. LeakAlike (path d.stt_model) code n t (hart_of r2)) last (subst (λ t. LeakAlike (path d.stt_model) code n R.last t) last2 l);
    }
