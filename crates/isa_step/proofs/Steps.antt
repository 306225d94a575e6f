-- The step of the word at an address, by its instruction.
use Rattle.std.proofs.Common.{◌≡◌, ℕ, [], Option, None, Some, refl, ap, sym, ◌∙◌}
use Rattle.std.specs.Option.{option_map}
use Rattle.rv_types.specs.Decode.{decode}
use Rattle.rv_types.specs.Causes.{outside_code}
use Rattle.rv_types.specs.Isa.{Hart, Traps, step_of, step_at}
use Rattle.rv_types.specs.Path.{pass_fault, pass_at, loads_of, loads_at}
use Rattle.rv_types.specs.declared.Instr.{Instr}
use Rattle.rv_decode.specs.declared.operations.Operation.{Operation}
use Rattle.rv_decode.specs.Operations.{instr_of}

some_is : (w : ℕ) (i : Instr) → Some i ≡ option_map decode (Some w) → decode w ≡ i
some_is w i e = cc

-- an instruction there, or an operation that stands for it
pub step_there : (word : Option ℕ) (i : Instr) (o : Operation) (s : Hart) → Some i ≡ option_map decode word → instr_of o i ≡ i → step_of s (instr_of o i) ≡ step_at word s
step_there None i o s e f = absurd (cc)
step_there (Some w) i o s e f = ap (step_of s) (f ∙ sym (some_is w i e))

-- where there is no instruction the step traps
pub nothing_there : (word : Option ℕ) (s : Hart) → None ≡ option_map decode word → Traps outside_code ≡ step_at word s
nothing_there None s e = refl
nothing_there (Some w) s e = absurd (cc)

-- ---- A step that passes faults over

pub plain_there : (word : Option ℕ) (i : Instr) (s : Hart) → Some i ≡ option_map decode word → step_of s i ≡ step_at word s
plain_there None i s e = absurd (cc)
plain_there (Some w) i s e = ap (step_of s) (sym (some_is w i e))

pub pass_there : (word : Option ℕ) (i : Instr) (s : Hart) → Some i ≡ option_map decode word → pass_fault s i (step_of s i) ≡ pass_at word s
pass_there None i s e = absurd (cc)
pass_there (Some w) i s e = ap (λ (j : Instr). pass_fault s j (step_of s j)) (sym (some_is w i e))

pub loads_there : (word : Option ℕ) (i : Instr) (s : Hart) → Some i ≡ option_map decode word → loads_of s i ≡ loads_at word s
loads_there None i s e = absurd (cc)
loads_there (Some w) i s e = ap (loads_of s) (sym (some_is w i e))

pub pass_nothing : (word : Option ℕ) (s : Hart) → None ≡ option_map decode word → Traps outside_code ≡ pass_at word s
pass_nothing None s e = refl
pass_nothing (Some w) s e = absurd (cc)

pub loads_nothing : (word : Option ℕ) (s : Hart) → None ≡ option_map decode word → [] ≡ loads_at word s
loads_nothing None s e = refl
loads_nothing (Some w) s e = absurd (cc)
