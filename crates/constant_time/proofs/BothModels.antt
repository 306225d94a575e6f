-- One walk of the run that passes faulting accesses over proves it for both models that protect.
use Rattle.std.proofs.Common.{◌≡◌, ℕ, zero, suc, true, refl, subst}
use Rattle.rv_types.specs.Memory.{Code}
use Rattle.rv_types.specs.Isa.{Hart, Step, Goes, Exits, Traps, isa_step, start}
use Rattle.rv_types.specs.Path.{pass_step}
use Rattle.machine_desc.specs.declared.SttModel.{SttModel}
use Rattle.machine_desc.specs.declared.SttModel.TheVariants.{Spectre, Futuristic, Off}
use Rattle.window_model.specs.Path.{path}
use Rattle.window_model.specs.Taint.{protects}
use Rattle.noninterference.proofs.Paths.{path_goes}
use Rattle.constant_time.specs.Certified.{EveryCoreOfBothModels}
use Rattle.constant_time.specs.Leaks.{BothGo, LeakAlike}
use Rattle.constant_time.specs.PathMarks.{ends_behind, path_ends}
use Rattle.constant_time.proofs.Delayed.{contract_under_delay}
use Rattle.constant_time.proofs.Onward.{goes_on}
use Rattle.constant_time.proofs.PathMarks.{ended_leaks, path_tells}
use Rattle.constant_time.proofs.Runs.{any_secret}

-- the run of the instruction set leaks alike where the run that passes faults over does
isa_leaks : (code : Code) (n : ℕ) (s s2 : Hart) → LeakAlike pass_step code n s s2 → LeakAlike isa_step code n s s2
isa_leaks code zero s s2 h = tt
isa_leaks code (suc n) s s2 h = (h.0, h.1, more (isa_step code s) (isa_step code s2) refl refl (λ t t2 a. isa_leaks code n t t2 a))
  where
    more : (t t2 : Step) → isa_step code s ≡ t → isa_step code s2 ≡ t2 → ((t t2 : Hart) → LeakAlike pass_step code n t t2 → LeakAlike isa_step code n t t2) →
        BothGo t t2 (λ t t2. LeakAlike isa_step code n t t2)
    more (Goes t p) (Goes t2 p2) g g2 f = f t t2 (goes_on pass_step code n s s2 t t2 p p2 h (path_goes Spectre code s t p g) (path_goes Spectre code s2 t2 p2 g2))
    more (Goes t p) (Exits v t2) g g2 f = tt
    more (Goes t p) (Traps c) g g2 f = tt
    more (Exits v t) t2 g g2 f = tt
    more (Traps c) t2 g g2 f = tt

-- it ends where the run that passes faults over does, or sooner
isa_ends : (code : Code) (k : ℕ) (s : Hart) → path_ends pass_step code k s ≡ true → path_ends isa_step code k s ≡ true
isa_ends code zero s h = absurd (cc)
isa_ends code (suc k) s h = more (isa_step code s) refl (λ t a. isa_ends code k t a)
  where
    more : (t : Step) → isa_step code s ≡ t → ((t : Hart) → path_ends pass_step code k t ≡ true → path_ends isa_step code k t ≡ true) → ends_behind t (path_ends isa_step code k) ≡ true
    more (Goes t p) g f = f t (subst (λ u. ends_behind u (path_ends pass_step code k) ≡ true) (path_goes Spectre code s t p g) h)
    more (Exits v t) g f = refl
    more (Traps c) g f = refl

-- a run that passes faults over, ends within k steps and leaks alike in them does so on the path of each model that
-- protects, in any number of steps
pub on_path : (model : SttModel) → protects model ≡ true → (code : Code) (k n : ℕ) (s s2 : Hart) → path_ends pass_step code k s ≡ true → LeakAlike pass_step code k s s2 →
    LeakAlike (path model) code n s s2
on_path Spectre p code k n s s2 e h = ended_leaks pass_step code k n s s2 e h
on_path Futuristic p code k n s s2 e h = ended_leaks isa_step code k n s s2 (isa_ends code k s e) (isa_leaks code k s s2 h)
on_path Off p code k n s s2 e h = absurd (cc)

-- one walk that passes faulting accesses over, and ends with nothing shown, is of every core under both models
pub every_core_of_both : EveryCoreOfBothModels
every_core_of_both public code entry secret m m2 k aligned agree ends q e d n protected delayed =
    let leaks = path_tells public Spectre code entry secret m m2 k agree q e in
    contract_under_delay d code entry m m2 n protected delayed aligned (any_secret secret m m2 agree) (on_path d.stt_model protected code k _ (start entry m) (start entry m2) ends leaks)
