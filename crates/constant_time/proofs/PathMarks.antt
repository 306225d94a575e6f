-- Runs of the path with marks beside them: where nothing marked shows, the path leaks alike.
use Rattle.std.proofs.Common.{◌≡◌, ℕ, zero, suc, ◌+◌, Bool, true, false, ◌||◌, List, [], ◌++◌, Option, Some, refl, ap, sym, ◌∙◌}
use Rattle.std.specs.Prelude.{if◌then◌else◌, is_some}
use Rattle.rv_types.specs.Memory.{Code, Ram}
use Rattle.rv_types.specs.Isa.{Hart, Step, Goes, Exits, Traps, isa_step, start}
use Rattle.machine_desc.specs.Example.{example}
use Rattle.machine_desc.specs.declared.SttModel.{SttModel}
use Rattle.window_model.specs.Fetch.{instr_at, kind_at}
use Rattle.window_model.specs.Path.{path}
use Rattle.window_model.proofs.Booleans.{neither}
use Rattle.secret_marks.specs.Alike.{AgreeBut}
use Rattle.secret_marks.specs.Marks.{Secret}
use Rattle.secret_marks.specs.Published.{Public, no_stream, public_piece, published_in, then_published}
use Rattle.secret_marks.proofs.Outputs.{split}
use Rattle.secret_marks.proofs.Trace.{opening_alike}
use Rattle.constant_time.specs.Certified.{EndedPathLeaksAlike, FirstStepShows, OnePathTellsAll, PathPublishesItsSteps, PublishSame}
use Rattle.constant_time.specs.declared.FirstStep.{FirstStep}
use Rattle.constant_time.specs.Leaks.{BothGo, LeakAlike, leak, leak_as}
use Rattle.constant_time.specs.PathMarks.{PathMarks, after_instr, after_step, behind, ends_behind, first_behind, first_marks, first_shown, path_ends, path_published, path_shows, shows, shows_as}
use Rattle.constant_time.proofs.Pieces.{PiecesAlike, published_alike, published_length}
use Rattle.constant_time.proofs.Sources.{StatesAlike}
use Rattle.constant_time.proofs.StepMarks.{leaks_same, path_go}

-- ---- one memory's path, and every other's

-- what a step publishes from two states, and what follows it, is equal where both together are
behind_published : (public : Public) (step : Code → Hart → Step) (code : Code) (n : ℕ) (s s2 t t2 : Hart) (p p2 : List ℕ) → PiecesAlike s s2 (Goes t p) (Goes t2 p2) →
    then_published public s2 (Goes t2 p2) (path_published public step code n) ≡ then_published public s (Goes t p) (path_published public step code n) →
    (public_piece public s p ≡ public_piece public s2 p2) × (path_published public step code n t2 ≡ path_published public step code n t)
behind_published public step code n s s2 t t2 p p2 a e =
    let q = split (public_piece public s p) (public_piece public s2 p2) (path_published public step code n t) (path_published public step code n t2) (published_length public s s2 t t2 p p2 a) (sym e) in (q.0, sym q.1)

path_leaks : (public : Public) (model : SttModel) (code : Code) (n : ℕ) (m : PathMarks) (s s2 : Hart) → StatesAlike m s s2 → path_shows public (path model) code n s m ≡ false →
    path_published public (path model) code n s2 ≡ path_published public (path model) code n s → LeakAlike (path model) code n s s2
path_leaks public model code zero m s s2 h q e = tt
path_leaks public model code (suc n) m s s2 h q e =
    let i = instr_at (code s.pc) in
    let p = neither (shows_as (kind_at (code s.pc)) s i m.regs) (behind (path model code s) (λ t o. path_shows public (path model) code n t (after_step public s i o m))) q in
    let l = leaks_same m s s2 h (kind_at (code s.pc)) i p.0 in
    let here : leak code s ≡ leak code s2 = l ∙ ap (λ a. leak_as (kind_at (code a)) s2 (instr_at (code a))) h.pc in
    let g = path_go m s s2 h model code p.0 in
    (h.pc, here, more (path model code s) (path model code s2) g.0 g.1 p.1 e (λ t t2 k a b c. path_leaks public model code n k t t2 a b c))
  where
    more : (t t2 : Step) → BothGo t t2 (λ t t2. StatesAlike (after_instr s (instr_at (code s.pc)) m) t t2) → PiecesAlike s s2 t t2 →
        behind t (λ t o. path_shows public (path model) code n t (after_step public s (instr_at (code s.pc)) o m)) ≡ false →
        then_published public s2 t2 (path_published public (path model) code n) ≡ then_published public s t (path_published public (path model) code n) →
        ((t t2 : Hart) (k : PathMarks) → StatesAlike k t t2 → path_shows public (path model) code n t k ≡ false → path_published public (path model) code n t2 ≡ path_published public (path model) code n t →
        LeakAlike (path model) code n t t2) → BothGo t t2 (λ t t2. LeakAlike (path model) code n t t2)
    more (Goes t p) (Goes t2 p2) a o k e f =
        let i = instr_at (code s.pc) in
        let b = behind_published public (path model) code n s s2 t t2 p p2 o e in
        f t t2 (after_step public s i p m) (published_alike public s s2 t t2 p p2 i m a o b.0) k b.1
    more (Goes t p) (Exits v t2) a o k e f = tt
    more (Goes t p) (Traps c) a o k e f = tt
    more (Exits v t) t2 a o k e f = tt
    more (Traps c) t2 a o k e f = tt

-- two memories that agree but for secret bytes begin in states that are equal but where marks stand
pub starts_alike : (entry : ℕ) (secret : Secret) (m m2 : Ram) → AgreeBut secret m m2 → StatesAlike (first_marks secret m) (start entry m) (start entry m2)
starts_alike entry secret m m2 agree =
    let x = opening_alike example entry secret m m2 agree in
    record {
      pc = refl;
      regs = x.regs;
      place = record { base = agree.base; size = agree.size; misaligned = agree.misaligned };
      bytes = x.bytes;
    }

-- where nothing marked shows on one path, those of memories with other secrets that publish the same leak alike
pub path_tells : OnePathTellsAll
path_tells public model code entry secret m m2 n agree q e =
    path_leaks public model code n (first_marks secret m) (start entry m) (start entry m2) (starts_alike entry secret m m2 agree) q e

-- ---- paths that end

-- where a path ends within k steps that leak alike, it leaks alike in any number of steps
pub ended_leaks : EndedPathLeaksAlike
ended_leaks step code k zero s s2 e h = tt
ended_leaks step code zero (suc n) s s2 e h = absurd (cc)
ended_leaks step code (suc k) (suc n) s s2 e h = (h.0, h.1, more (step code s) (step code s2) e h.2 (λ t t2 a b. ended_leaks step code k n t t2 a b))
  where
    more : (t t2 : Step) → ends_behind t (path_ends step code k) ≡ true → BothGo t t2 (λ t t2. LeakAlike step code k t t2) →
        ((t t2 : Hart) → path_ends step code k t ≡ true → LeakAlike step code k t t2 → LeakAlike step code n t t2) → BothGo t t2 (λ t t2. LeakAlike step code n t t2)
    more (Goes t p) (Goes t2 p2) e h f = f t t2 e h
    more (Goes t p) (Exits v t2) e h f = tt
    more (Goes t p) (Traps c) e h f = tt
    more (Exits v t) t2 e h f = tt
    more (Traps c) t2 e h f = tt

-- ---- what is published, and what shows first

-- along its own path the instruction set publishes what its steps do
pub path_publishes : PathPublishesItsSteps
path_publishes public code zero s = refl
path_publishes public code (suc n) s = more (isa_step code s) (λ t. path_publishes public code n t)
  where
    more : (t : Step) → ((t : Hart) → path_published public isa_step code n t ≡ published_in public code n t) →
        then_published public s t (path_published public isa_step code n) ≡ then_published public s t (published_in public code n)
    more (Goes t p) f = ap (λ q. public_piece public s p ++ q) (f t)
    more (Exits v t) f = refl
    more (Traps c) f = refl

-- where no stream is public a path publishes nothing
none_published : (step : Code → Hart → Step) (code : Code) (n : ℕ) (s : Hart) → path_published no_stream step code n s ≡ []
none_published step code zero s = refl
none_published step code (suc n) s = more (step code s) (λ t. none_published step code n t)
  where
    more : (t : Step) → ((t : Hart) → path_published no_stream step code n t ≡ []) → then_published no_stream s t (path_published no_stream step code n) ≡ []
    more (Goes t p) f = f t
    more (Exits v t) f = refl
    more (Traps c) f = refl

-- where no stream is public any two memories publish the same
pub nothing_published : (step : Code → Hart → Step) (code : Code) (n entry : ℕ) (m m2 : Ram) → PublishSame no_stream step code n entry m m2
nothing_published step code n entry m m2 = none_published step code n (start entry m2) ∙ sym (none_published step code n (start entry m))

-- something is found to show first where it shows
pub first_shows : FirstStepShows
first_shows public step code zero k s m = refl
first_shows public step code (suc n) k s m = by_test (shows code s m) _ _ (more (step code s) (λ t o. first_shows public step code n (k + 1) t (after_step public s (instr_at (code s.pc)) o m)))
  where
    by_test : (b : Bool) (o : Option FirstStep) (c : Bool) → is_some o ≡ c → is_some (if b then Some (record { step = k; kind = kind_at (code s.pc); pc = s.pc }) else o) ≡ (b || c)
    by_test true o c q = refl
    by_test false o c q = q

    more : (t : Step) → ((t : Hart) (o : List ℕ) → is_some (first_shown public step code n (k + 1) t (after_step public s (instr_at (code s.pc)) o m)) ≡ path_shows public step code n t (after_step public s (instr_at (code s.pc)) o m)) →
        is_some (first_behind t (λ t o. first_shown public step code n (k + 1) t (after_step public s (instr_at (code s.pc)) o m))) ≡ behind t (λ t o. path_shows public step code n t (after_step public s (instr_at (code s.pc)) o m))
    more (Goes t p) f = f t p
    more (Exits v t) f = refl
    more (Traps c) f = refl
