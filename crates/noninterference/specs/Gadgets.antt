-- Programs that would show a secret of memory, and what the law says of them (docs/theorems.md, "Noninterference"). All
-- but the store bypass are those of the worked runs. The bound at 0x1fff0 is 0, and the secret byte stands at 0x1fff8.
use Rattle.std.specs.Prelude.{◌≡◌, ◌≢◌, ℕ, ◌<◌, ◌==◌, true, List, [], ◌∷◌}
use Rattle.std.specs.List.{list_any}
use Rattle.rv_types.specs.Memory.{Agree}
use Rattle.machine_desc.specs.declared.Desc.{Desc}
use Rattle.machine_desc.specs.declared.SttModel.TheVariants.{Spectre, Futuristic}
use Rattle.window_model.specs.Cycle.{trace}
use Rattle.window_model.specs.Path.{reads_of_trace}
use Rattle.window_model.specs.Taint.{protects}
use Rattle.window_model.proofs.Worked.{code_of, memory, bounds_check, fault, store, branch, divisor, injection}

-- every secret byte gives the trace of these words that the byte 0 gives, for any number of cycles
abbrev pub HidesSecret : Desc → List ℕ → Type 0
HidesSecret d words = (secret n : ℕ) → secret < 256 → trace d (code_of words) 0x10000 (memory 0 secret) n ≡ trace d (code_of words) 0x10000 (memory 0 0) n

-- the program hides its secret under every description whose model protects
abbrev pub HidesWhereProtected : List ℕ → Type 0
HidesWhereProtected words = (d : Desc) → protects d.stt_model ≡ true → HidesSecret d words

-- no trace shows the secret behind a bounds check that is predicted wrongly, by a load at an address made of it
abbrev pub BoundsCheckBypass : Type 0
BoundsCheckBypass = HidesWhereProtected bounds_check

-- a store at an address made of the secret, and a load that it may cover
abbrev pub TaintedStoreAddress : Type 0
TaintedStoreAddress = HidesWhereProtected store

-- a branch on the secret
abbrev pub TaintedBranch : Type 0
TaintedBranch = HidesWhereProtected branch

-- a division of the secret
abbrev pub TaintedDivisor : Type 0
TaintedDivisor = HidesWhereProtected divisor

-- a jump to an address made of the secret
abbrev pub TargetInjection : Type 0
TargetInjection = HidesWhereProtected injection

-- a store whose address comes from a slow division, a load that passes it and reads an old pointer, a load of the
-- secret by that pointer, and a load at an address made of the secret: addi x8,x0,1; div x5,x2,x8; sw x8,0(x5); lw
-- x6,0(x2); add x6,x6,x2; lbu x7,8(x6); slli x7,x7,4; add x7,x7,x2; lw x9,-2048(x7); addi x17,x0,93; ecall
abbrev pub store_bypass : List ℕ
store_bypass = 0x00100413 ∷ 0x028142b3 ∷ 0x0082a023 ∷ 0x00012303 ∷ 0x00230333 ∷ 0x00834383 ∷ 0x00439393 ∷ 0x002383b3 ∷ 0x8003a483 ∷ 0x05d00893 ∷ 0x00000073 ∷ []

-- no trace shows the secret behind a load that has passed a store
abbrev pub SpeculativeStoreBypass : Type 0
SpeculativeStoreBypass = HidesWhereProtected store_bypass

-- no trace shows the secret behind a load that faults, where the model is the futuristic one
abbrev pub FaultShadow : Type 0
FaultShadow = (d : Desc) → d.stt_model ≡ Futuristic → HidesSecret d fault

-- the bytes that the path of these words loads for a trace of at most n cycles, where the secret is 0
abbrev pub loaded_by : Desc → List ℕ → ℕ → List ℕ
loaded_by d words n = reads_of_trace d (code_of words) 0x10000 (memory 0 0) n

-- the path of these words loads the secret, so no memory with another one agrees on what it loads: of no trace of them,
-- of any number of cycles, does the law say anything
abbrev pub LoadsSecret : Desc → List ℕ → Type 0
LoadsSecret d words = (n : ℕ) →
    (list_any (λ a. a == 0x1fff8) (loaded_by d words n) ≡ true)
    × ((secret : ℕ) → secret ≢ 0 → Agree (memory 0 0) (memory 0 secret) (loaded_by d words n) → ⊥)

-- behind a load that faults the path loads the secret, where the model is the spectre one
abbrev pub FaultShadowSpectre : Type 0
FaultShadowSpectre = (d : Desc) → d.stt_model ≡ Spectre → LoadsSecret d fault
