-- What a path leaks, step by step: what the constant-time contract lets be seen (docs/theorems.md, "Constant time on
-- the path").
use Rattle.std.specs.Prelude.{◌≡◌, ℕ, zero, suc, ◌+◌, ◌≤◌, ◌||◌, ◌==◌, if◌then◌else◌, List, [], ◌∷◌}
use Rattle.rv_types.specs.Memory.{Code}
use Rattle.rv_types.specs.Value.{one_if}
use Rattle.rv_types.specs.Isa.{Effect, Hart, Step, Goes, effect_in, first_of, reg}
use Rattle.rv_types.specs.Regs.{reads_of}
use Rattle.rv_types.specs.declared.Instr.{Instr}
use Rattle.rv_types.specs.declared.Kind.{Kind}
use Rattle.rv_types.specs.declared.Kind.TheVariants.{Load, Store, Div, Branch, Jalr, Call}
use Rattle.machine_desc.specs.declared.SttModel.{SttModel}
use Rattle.window_model.specs.Fetch.{instr_at, kind_at}
use Rattle.window_model.specs.Path.{path}
use Rattle.window_model.specs.Retire.{hart_of}
use Rattle.window_model.specs.State.{Machine}

-- where a branch or JALR goes: its value (of a branch 1 where it is taken, else 0), the next address, and 1 where that
-- is misaligned
abbrev pub goes_so : Effect → List ℕ
goes_so f = f.value ∷ f.next ∷ one_if f.misaligned ∷ []

-- what a call is asked for: its number, an exit's value, a write's stream, address and length
abbrev pub call_arguments : List ℕ → List ℕ
call_arguments regs =
    reg regs 17
    ∷ (if reg regs 17 == 93 || reg regs 17 == 94 then reg regs 10 ∷ []
    else if reg regs 17 == 64 then reg regs 10 ∷ reg regs 11 ∷ reg regs 12 ∷ [] else [])

-- what an instruction of a kind leaks in a state: the base of a load or store, the dividend of a division, where a
-- branch or JALR goes, what a call is asked for
abbrev pub leak_as : Kind → Hart → Instr → List ℕ
leak_as Load s i = first_of (reads_of i) s.regs ∷ []
leak_as Store s i = first_of (reads_of i) s.regs ∷ []
leak_as Div s i = first_of (reads_of i) s.regs ∷ []
leak_as Branch s i = goes_so (effect_in s i)
leak_as Jalr s i = goes_so (effect_in s i)
leak_as Call s i = call_arguments s.regs
leak_as _ s i = []

-- what the next step leaks besides its address
abbrev pub leak : Code → Hart → List ℕ
leak code s = leak_as (kind_at (code s.pc)) s (instr_at (code s.pc))

-- a relation of the states behind two steps, if both go on
abbrev pub BothGo : Step → Step → (Hart → Hart → Type 0) → Type 0
BothGo (Goes t p) (Goes t2 p2) R = R t t2
BothGo _ _ R = Unit {0}

-- the next n steps of a path from two states leak alike, as long as both go on: each is at one address, and leaks the
-- same
abbrev pub LeakAlike : (Code → Hart → Step) → Code → ℕ → Hart → Hart → Type 0
LeakAlike step code zero s s2 = Unit {0}
LeakAlike step code (suc n) s s2 =
    (s.pc ≡ s2.pc) × (leak code s ≡ leak code s2) × BothGo (step code s) (step code s2) (λ t t2. LeakAlike step code n t t2)

-- the path from two retired states leaks alike for as many steps as are left up to a total
abbrev pub LeakUpTo : SttModel → Code → ℕ → Machine → Machine → Type 0
LeakUpTo model code total x x2 = (n : ℕ) → n + x.retired ≤ total → LeakAlike (path model) code n (hart_of x) (hart_of x2)
