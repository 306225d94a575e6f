-- The item of an address, by the instruction there.
use Rattle.std.proofs.Common.{◌≡◌, ℕ, Option, None, Some, refl, ap, ◌∙◌}
use Rattle.std.specs.Option.{option_map}
use Rattle.rv_types.specs.Memory.{Code}
use Rattle.rv_types.specs.Decode.{decode}
use Rattle.rv_types.specs.Kind.{kind_of}
use Rattle.rv_types.specs.declared.Instr.{Instr}
use Rattle.rv_types.specs.declared.Kind.{Kind}
use Rattle.machine_desc.specs.declared.Desc.{Desc}
use Rattle.window_model.specs.declared.Item.{Item}
use Rattle.window_model.specs.State.{Machine}
use Rattle.window_model.specs.Fetch.{guess, item_at, predicted_pc, instr_at, kind_at}

-- the item of an instruction of this kind
abbrev item_of : Desc → Machine → ℕ → Instr → Kind → Item
item_of d x pc i k = record { pc = pc; instr = i; kind = k; predicted = predicted_pc k d x.targets x.checkpoint (guess k d x.counters x.checkpoint pc) pc i; checkpoint = x.checkpoint }

abbrev item_by : Desc → Machine → ℕ → Option ℕ → Item
item_by d x pc w = record { pc = pc; instr = instr_at w; kind = kind_at w; predicted = predicted_pc (kind_at w) d x.targets x.checkpoint (guess (kind_at w) d x.counters x.checkpoint pc) pc (instr_at w); checkpoint = x.checkpoint }

some_is : (w : ℕ) (i : Instr) → Some i ≡ option_map decode (Some w) → i ≡ decode w
some_is w i e = cc

by_word : (d : Desc) (x : Machine) (pc : ℕ) (i : Instr) (w : Option ℕ) → Some i ≡ option_map decode w → item_of d x pc i (kind_of i) ≡ item_by d x pc w
by_word d x pc i None e = absurd (cc)
by_word d x pc i (Some w) e = ap (λ i. item_of d x pc i (kind_of i)) (some_is w i e)

-- where there is an instruction at the address, the item is its own, by its kind
pub item_there : (d : Desc) (code : Code) (x : Machine) (pc : ℕ) (i : Instr) (k : Kind) → k ≡ kind_of i → Some i ≡ option_map decode (code pc) → item_of d x pc i k ≡ item_at d code x pc
item_there d code x pc i k q e = ap (item_of d x pc i) q ∙ by_word d x pc i (code pc) e

by_none : (d : Desc) (x : Machine) (pc : ℕ) (w : Option ℕ) → None ≡ option_map decode w → item_by d x pc None ≡ item_by d x pc w
by_none d x pc None e = refl
by_none d x pc (Some w) e = absurd (cc)

-- where there is no instruction, the item traps
pub nothing_there : (d : Desc) (code : Code) (x : Machine) (pc : ℕ) → None ≡ option_map decode (code pc) → item_by d x pc None ≡ item_at d code x pc
nothing_there d code x pc e = by_none d x pc (code pc) e
