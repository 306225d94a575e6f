-- What the theorem on two runs asks for: which loads of a run count (docs/theorems.md, "Noninterference"), and by when
-- the next instruction retires (docs/theorems.md, "Progress").
use Rattle.std.proofs.Common.{◌≡◌, ℕ, List, [], ◌∷◌, ◌++◌, refl}
use Rattle.std.specs.Prelude.{replicate}
use Rattle.rv_types.specs.Decode.{decode}
use Rattle.rv_types.specs.Isa.{isa_step}
use Rattle.rv_types.specs.Path.{pass_step}
use Rattle.machine_desc.specs.Example.{example}
use Rattle.machine_desc.specs.Ranges.{bound}
use Rattle.window_model.specs.Cycle.{cycle}
use Rattle.window_model.specs.Path.{reads_of_trace}
use Rattle.window_model.proofs.Worked.{code_of, memory, futuristic}
use Rattle.worked_runs.proofs.Version2.{unprotected}

-- a load behind so many instructions that do nothing: addi x0,x0,0 .., lw x5,0(x2)
abbrev load_behind : ℕ → List ℕ
load_behind count = replicate count 0x00000013 ++ 0x00012283 ∷ []

-- Before the first cycle nothing has retired, and the window holds 16: a load that is the sixteenth step counts ..
last_step_counts : reads_of_trace example (code_of (load_behind 15)) 0x10000 (memory 0 0) 0 ≡ 0x1fff0 ∷ 0x1fff1 ∷ 0x1fff2 ∷ 0x1fff3 ∷ []
unfolding decode isa_step pass_step cycle code_of memory
last_step_counts = refl

-- .. and one behind it doesn't.
next_step_does_not : reads_of_trace example (code_of (load_behind 16)) 0x10000 (memory 0 0) 0 ≡ []
unfolding decode isa_step pass_step cycle code_of memory
next_step_does_not = refl

-- lw x5,0(x0), which faults; lbu x6,8(x2)
abbrev behind_a_fault : List ℕ
behind_a_fault = 0x00002283 ∷ 0x00814303 ∷ []

-- Under `spectre` what is behind a fault counts, and what faults loads nothing; so it is under `off` ..
fault_is_passed : reads_of_trace example (code_of behind_a_fault) 0x10000 (memory 0 0) 0 ≡ 0x1fff8 ∷ []
unfolding decode isa_step pass_step cycle code_of memory
fault_is_passed = refl

fault_is_passed_unprotected : reads_of_trace unprotected (code_of behind_a_fault) 0x10000 (memory 0 0) 0 ≡ 0x1fff8 ∷ []
unfolding decode isa_step pass_step cycle code_of memory
fault_is_passed_unprotected = refl

-- .. and under `futuristic` nothing behind it does.
fault_ends : reads_of_trace futuristic (code_of behind_a_fault) 0x10000 (memory 0 0) 0 ≡ []
unfolding decode isa_step pass_step cycle code_of memory
fault_ends = refl

-- 96, twice a miss of 10, a hit of 2 and a multiplication of 3
bound_of_the_example : bound example ≡ 121
bound_of_the_example = refl
