-- One run of the instruction set that ends, not at a faulting load or store, proves it for both models that protect.
use Rattle.std.proofs.Common.{◌≡◌, ℕ, zero, suc, true, false, [], Option, Some, None, refl, ap, sym, ◌∙◌, subst}
use Rattle.std.specs.Prelude.{if◌then◌else◌, nat_le}
use Rattle.rv_types.specs.Decode.{decode}
use Rattle.rv_types.specs.Memory.{Code}
use Rattle.rv_types.specs.Isa.{Hart, Step, Goes, Exits, Traps, after, isa, isa_step, run, start, step_at}
use Rattle.rv_types.specs.Path.{pass_at, pass_fault, pass_step, state_past_access}
use Rattle.rv_types.specs.declared.Cause.{Cause}
use Rattle.machine_desc.specs.declared.SttModel.TheVariants.{Spectre, Futuristic}
use Rattle.window_model.specs.Fetch.{instr_at, kind_at}
use Rattle.window_model.proofs.Booleans.{neither, not_true}
use Rattle.noninterference.proofs.Paths.{path_goes}
use Rattle.secret_marks.specs.Published.{Public, public_piece, published_in, then_published}
use Rattle.secret_marks.proofs.Outputs.{split}
use Rattle.constant_time.specs.Certified.{OneRunForEveryCore, ends_plainly}
use Rattle.constant_time.specs.Leaks.{BothGo, LeakAlike, leak, leak_as}
use Rattle.constant_time.specs.PathMarks.{PathMarks, after_instr, after_step, behind, ends_behind, first_marks, path_ends, path_shows, shows_as}
use Rattle.constant_time.proofs.BothModels.{on_path}
use Rattle.constant_time.proofs.Delayed.{contract_under_delay}
use Rattle.constant_time.proofs.PathMarks.{starts_alike}
use Rattle.constant_time.proofs.Pieces.{GoesWith, PiecesAlike, published_alike, published_length}
use Rattle.constant_time.proofs.Runs.{any_secret}
use Rattle.constant_time.proofs.Sources.{StatesAlike}
use Rattle.constant_time.proofs.StepMarks.{isa_goes, leaks_same, path_go}

-- ---- what isn't passed over

exits_at : (o : Option ℕ) (s t : Hart) (v : ℕ) → step_at o s ≡ Exits v t → pass_at o s ≡ Exits v t
exits_at None s t v h = absurd (cc)
exits_at (Some w) s t v h = ap (pass_fault s (decode w)) h

traps_at : (o : Option ℕ) (s : Hart) (c : Cause) → nat_le 4 c.number ≡ false → step_at o s ≡ Traps c → pass_at o s ≡ Traps c
traps_at None s c n h = h
traps_at (Some w) s c n h = ap (pass_fault s (decode w)) h ∙ ap (λ b. if b then Goes (state_past_access s (decode w)) [] else Traps c) n

-- an exit is one on both paths
exits_too : (code : Code) (s t : Hart) (v : ℕ) → isa_step code s ≡ Exits v t → pass_step code s ≡ Exits v t
unfolding isa_step pass_step
exits_too code s t v h = exits_at (code s.pc) s t v h

-- so is a trap that isn't of an access
traps_too : (code : Code) (s : Hart) (c : Cause) → nat_le 4 c.number ≡ false → isa_step code s ≡ Traps c → pass_step code s ≡ Traps c
unfolding isa_step pass_step
traps_too code s c n h = traps_at (code s.pc) s c n h

-- ---- runs

-- where a run of the instruction set ends, not at a faulting access, that which passes faults over ends as well
plain_ends : (code : Code) (k : ℕ) (s : Hart) → ends_plainly (isa code s k).ended ≡ true → path_ends pass_step code k s ≡ true
plain_ends code zero s h = absurd (cc)
plain_ends code (suc k) s h = more (isa_step code s) refl h (λ t a. plain_ends code k t a)
  where
    Ends : Step → Type 0
    Ends t = ends_behind t (path_ends pass_step code k) ≡ true

    more : (t : Step) → isa_step code s ≡ t → ends_plainly (after s t (run (isa_step code) k)).ended ≡ true →
        ((t : Hart) → ends_plainly (isa code t k).ended ≡ true → path_ends pass_step code k t ≡ true) → ends_behind (pass_step code s) (path_ends pass_step code k) ≡ true
    more (Goes t p) g e f = ap (λ u. ends_behind u (path_ends pass_step code k)) (path_goes Spectre code s t p g) ∙ f t e
    more (Exits v t) g e f = ap (λ u. ends_behind u (path_ends pass_step code k)) (exits_too code s t v g)
    more (Traps c) g e f = ap (λ u. ends_behind u (path_ends pass_step code k)) (traps_too code s c (not_true _ e) g)

-- it leaks alike on the run that passes faults over, where nothing shows on it and the same is published
plain_leaks : (public : Public) (code : Code) (k : ℕ) (m : PathMarks) (s s2 : Hart) → StatesAlike m s s2 → ends_plainly (isa code s k).ended ≡ true →
    path_shows public isa_step code k s m ≡ false → published_in public code k s2 ≡ published_in public code k s → LeakAlike pass_step code k s s2
plain_leaks public code zero m s s2 h e q b = tt
plain_leaks public code (suc k) m s s2 h e q b =
    let i = instr_at (code s.pc) in
    let p = neither (shows_as (kind_at (code s.pc)) s i m.regs) (behind (isa_step code s) (λ t o. path_shows public isa_step code k t (after_step public s i o m))) q in
    let l = leaks_same m s s2 h (kind_at (code s.pc)) i p.0 in
    let here : leak code s ≡ leak code s2 = l ∙ ap (λ a. leak_as (kind_at (code a)) s2 (instr_at (code a))) h.pc in
    let g = path_go m s s2 h Futuristic code p.0 in
    (h.pc, here, more (isa_step code s) (isa_step code s2) refl refl g.0 g.1 (isa_goes m s s2 h code p.0) e p.1 b (λ t t2 n a c d r. plain_leaks public code k n t t2 a c d r))
  where
    more : (t t2 : Step) → isa_step code s ≡ t → isa_step code s2 ≡ t2 → BothGo t t2 (λ t t2. StatesAlike (after_instr s (instr_at (code s.pc)) m) t t2) → PiecesAlike s s2 t t2 → GoesWith t t2 →
        ends_plainly (after s t (run (isa_step code) k)).ended ≡ true → behind t (λ t o. path_shows public isa_step code k t (after_step public s (instr_at (code s.pc)) o m)) ≡ false →
        then_published public s2 t2 (published_in public code k) ≡ then_published public s t (published_in public code k) →
        ((t t2 : Hart) (n : PathMarks) → StatesAlike n t t2 → ends_plainly (isa code t k).ended ≡ true → path_shows public isa_step code k t n ≡ false →
        published_in public code k t2 ≡ published_in public code k t → LeakAlike pass_step code k t t2) → BothGo (pass_step code s) (pass_step code s2) (λ t t2. LeakAlike pass_step code k t t2)
    more (Goes t p) (Goes t2 p2) g g2 a o w e q b f =
        let R : Hart → Hart → Type 0 = λ t t2. LeakAlike pass_step code k t t2 in
        let i = instr_at (code s.pc) in
        let c = split (public_piece public s p) (public_piece public s2 p2) (published_in public code k t) (published_in public code k t2) (published_length public s s2 t t2 p p2 o) (sym b) in
        let r = f t t2 (after_step public s i p m) (published_alike public s s2 t t2 p p2 i m a o c.0) e q (sym c.1) in
        subst (λ u. BothGo u (pass_step code s2) R) (sym (path_goes Spectre code s t p g)) (subst (λ u. BothGo (Goes t p) u R) (sym (path_goes Spectre code s2 t2 p2 g2)) r)
    more (Goes t p) (Exits v t2) g g2 a o w e q b f = absurd w
    more (Goes t p) (Traps c) g g2 a o w e q b f = absurd w
    more (Exits v t) t2 g g2 a o w e q b f = subst (λ u. BothGo u (pass_step code s2) (λ t t2. LeakAlike pass_step code k t t2)) (sym (exits_too code s t v g)) tt
    more (Traps c) t2 g g2 a o w e q b f = subst (λ u. BothGo u (pass_step code s2) (λ t t2. LeakAlike pass_step code k t t2)) (sym (traps_too code s c (not_true _ e) g)) tt

-- one run of the instruction set that ends with nothing shown, at no fault, is of every core under both models
pub one_run_for_every_core : OneRunForEveryCore
one_run_for_every_core public code entry secret m m2 k aligned agree ends q b d n protected delayed =
    let leaks = plain_leaks public code k (first_marks secret m) (start entry m) (start entry m2) (starts_alike entry secret m m2 agree) ends q b in
    contract_under_delay d code entry m m2 n protected delayed aligned (any_secret secret m m2 agree)
    (on_path d.stt_model protected code k _ (start entry m) (start entry m2) (plain_ends code k (start entry m) ends) leaks)
