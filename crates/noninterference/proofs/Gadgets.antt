-- The law at work: no secret byte shows in the trace of a program whose path doesn't load it.
use Rattle.std.proofs.Common.{◌≡◌, ℕ, suc, ◌+◌, ◌<◌, ◌-◌, ◌^◌, true, List, [], ◌∷◌, ◌++◌, refl, ap, ap₂, sym, ◌∙◌, subst, arith, lit<}
use Rattle.std.specs.Prelude.{◌==◌, replicate, slice_index}
use Rattle.std.specs.List.{list_any, AllByRecursion as Each}
use Rattle.std.proofs.lemmas.List.Elements.{All-from_recursion, recursion_from_All, All-append, All-replicate}
use Rattle.rv_types.specs.Decode.{decode}
use Rattle.rv_types.specs.Memory.{Agree}
use Rattle.rv_types.specs.Isa.{Hart, isa_step, start}
use Rattle.rv_types.specs.Path.{pass_step, reads}
use Rattle.machine_desc.specs.declared.Desc.{Desc}
use Rattle.machine_desc.specs.declared.SttModel.{SttModel}
use Rattle.machine_desc.specs.declared.SttModel.TheVariants.{Spectre, Futuristic, Off}
use Rattle.window_model.specs.Cycle.{trace}
use Rattle.window_model.specs.Path.{path}
use Rattle.window_model.specs.Taint.{protects}
use Rattle.window_model.proofs.Worked.{aligned_words, bounds_check, branch, code_of, divisor, fault, injection, memory, store}
use Rattle.noninterference.specs.Gadgets.{loaded_by, HidesSecret, BoundsCheckBypass, TaintedStoreAddress, TaintedBranch, TaintedDivisor, TargetInjection, FaultShadow, FaultShadowSpectre, SpeculativeStoreBypass, store_bypass}
use Rattle.noninterference.proofs.Runs.{same_trace, fewer}

-- ---- the premises of the law

-- the addresses of the bound's bytes
abbrev bound : List ℕ
bound = 0x1fff0 ∷ 0x1fff1 ∷ 0x1fff2 ∷ 0x1fff3 ∷ []

-- the byte of memory at this address doesn't depend on the secret
abbrev SameAt : ℕ → ℕ → Type 0
SameAt secret a = slice_index (memory 0 secret).bytes (a - 0x1f000) ≡ slice_index (memory 0 0).bytes (a - 0x1f000)

-- two memories that differ in the secret agree where it isn't loaded
agree_on : (secret : ℕ) → secret < 256 → (addresses : List ℕ) → Each (SameAt secret) addresses →
    Agree (memory 0 0) (memory 0 secret) addresses
unfolding memory
agree_on secret lt addresses same =
    let Byte : ℕ → Type 0 = λ b. b < 2 ^ 8 in
    let none : 0 < 2 ^ 8 = lit< tt in
    let tail : List ℕ = 0 ∷ 0 ∷ 0 ∷ 0 ∷ 0 ∷ 0 ∷ 0 ∷ 0 ∷ secret ∷ replicate 7 0 in
    let low : Each Byte tail = (none, (none, (none, (none, (none, (none, (none, (none, (lt, (none, (none, (none, (none, (none, (none, (none, tt)))))))))))))))) in
    record { base = refl; size = refl; misaligned = refl; bytes = All-append Byte (replicate 4080 0) tail (All-replicate Byte 4080 0 none) (All-from_recursion Byte tail low); same = All-from_recursion _ addresses same }

-- the bytes that the path of a program loads in these steps, where the secret is 0
abbrev loads : SttModel → List ℕ → ℕ → List ℕ
loads model words steps = reads (path model) (code_of words) (start 0x10000 (memory 0 0)) steps

-- the paths of these programs end within eleven steps
abbrev eleven_more : ℕ → ℕ
eleven_more steps = suc (suc (suc (suc (suc (suc (suc (suc (suc (suc (suc steps))))))))))

-- a program hides the secret whose path loads the same bytes in however many steps, and none that depends on the secret
hides : (d : Desc) (words loaded : List ℕ) → protects d.stt_model ≡ true → ((steps : ℕ) → loads d.stt_model words (eleven_more steps) ≡ loaded) → ((secret : ℕ) → Each (SameAt secret) loaded) → HidesSecret d words
hides d words loaded protected all same secret n lt =
    let run : Hart = start 0x10000 (memory 0 0) in
    let steps = (trace d (code_of words) 0x10000 (memory 0 0) n).retired + d.core_rob in
    let more = subst (Each (SameAt secret)) (sym (all steps)) (same secret) in
    let less = fewer (SameAt secret) (path d.stt_model) (code_of words) steps (eleven_more steps) run (omega arith) more in
    same_trace d (code_of words) 0x10000 (memory 0 0) (memory 0 secret) n protected (aligned_words words) (agree_on secret lt (loads d.stt_model words steps) less)

same_bound : (secret : ℕ) → Each (SameAt secret) bound
unfolding memory
same_bound secret = (refl, (refl, (refl, (refl, tt))))

-- ---- what the paths load: the bound alone

bound_alone : (model : SttModel) (steps : ℕ) →
    let Alone : List ℕ → Type 0 = λ words. loads model words (eleven_more steps) ≡ bound in
    Alone bounds_check × Alone store × Alone branch × Alone divisor × Alone injection
unfolding memory code_of decode isa_step pass_step
bound_alone Spectre steps = (refl, refl, refl, refl, refl)
bound_alone Futuristic steps = (refl, refl, refl, refl, refl)
bound_alone Off steps = (refl, refl, refl, refl, refl)

-- what the path of the store bypass loads: the bound, a byte past the secret, and a word at an address made of that
past_store : List ℕ
past_store = bound ++ 0x1fff9 ∷ 0x1f7f0 ∷ 0x1f7f1 ∷ 0x1f7f2 ∷ 0x1f7f3 ∷ []

store_bypass_loads : (model : SttModel) (steps : ℕ) → loads model store_bypass (eleven_more steps) ≡ past_store
unfolding memory code_of decode isa_step pass_step past_store
store_bypass_loads Spectre steps = refl
store_bypass_loads Futuristic steps = refl
store_bypass_loads Off steps = refl

same_past_store : (secret : ℕ) → Each (SameAt secret) past_store
unfolding memory past_store
same_past_store secret = (refl, (refl, (refl, (refl, (refl, (refl, (refl, (refl, (refl, tt)))))))))

-- the futuristic path ends at the fault, and loads nothing
fault_loads_none : (steps : ℕ) → loads Futuristic fault (eleven_more steps) ≡ []
unfolding memory code_of decode isa_step pass_step
fault_loads_none steps = refl

-- the steps in which the spectre path passes over the fault and loads the secret, and as many more as given
abbrev three_more : ℕ → ℕ
three_more steps = suc (suc (suc steps))

fault_passed : (steps : ℕ) → list_any (λ a. a == 0x1fff8) (loads Spectre fault (three_more steps)) ≡ true
unfolding memory code_of decode isa_step pass_step
fault_passed steps = refl

-- memories that agree on what the spectre path loads behind the fault have one secret
fault_shows : (steps secret : ℕ) → Each (SameAt secret) (loads Spectre fault (three_more steps)) → secret ≡ 0
unfolding memory code_of decode isa_step pass_step
fault_shows steps secret same = same.0

-- ---- what the programs hide

-- no trace shows the secret behind a bounds check that is predicted wrongly
pub bypass_hides : BoundsCheckBypass
bypass_hides d protected = hides d bounds_check bound protected (λ steps. (bound_alone d.stt_model steps).0) same_bound

-- no trace shows the secret of which the address of a store is made
pub store_hides : TaintedStoreAddress
store_hides d protected = hides d store bound protected (λ steps. (bound_alone d.stt_model steps).1) same_bound

-- no trace shows the secret on which a branch is
pub branch_hides : TaintedBranch
branch_hides d protected = hides d branch bound protected (λ steps. (bound_alone d.stt_model steps).2) same_bound

-- no trace shows the secret that is divided
pub divisor_hides : TaintedDivisor
divisor_hides d protected = hides d divisor bound protected (λ steps. (bound_alone d.stt_model steps).3) same_bound

-- no trace shows the secret of which the address of a jump is made
pub injection_hides : TargetInjection
injection_hides d protected = hides d injection bound protected (λ steps. (bound_alone d.stt_model steps).4) same_bound

-- no trace shows the secret behind a load that has passed a store
pub store_bypass_hides : SpeculativeStoreBypass
store_bypass_hides d protected = hides d store_bypass past_store protected (store_bypass_loads d.stt_model) same_past_store

-- no trace shows the secret behind a load that faults, under the futuristic model
pub fault_hides : FaultShadow
fault_hides d futuristic = hides d fault [] (ap protects futuristic) (λ steps. ap (λ m. loads m fault (eleven_more steps)) futuristic ∙ fault_loads_none steps) (λ secret. tt)

-- behind the fault the spectre path loads the secret: it goes on for as many steps as the window has room, at least 4
pub fault_loads_secret : FaultShadowSpectre
unfolding memory
fault_loads_secret d spectre n =
    let retired = (trace d (code_of fault) 0x10000 (memory 0 0) n).retired in
    let more = retired + d.core_rob - 3 in
    let steps : retired + d.core_rob ≡ three_more more = omega (arith, d.stands.rob.0) in
    let loaded = loads Spectre fault (three_more more) in
    let is : loaded_by d fault n ≡ loaded = ap₂ (λ m k. loads m fault k) spectre steps in (
      ap (list_any (λ a. a == 0x1fff8)) is ∙ fault_passed more,
      λ secret other agree. other (fault_shows more secret (recursion_from_All (SameAt secret) loaded (subst (Agree (memory 0 0) (memory 0 secret)) is agree).same)),
    )
