-- What only a call does as it retires.
use Rattle.std.proofs.Common.{◌≡◌, List, [], refl}
use Rattle.rv_types.specs.declared.Kind.{Kind}
use Rattle.rv_types.specs.declared.Kind.TheVariants.{Alu, Mul, Div, Load, Store, Branch, Jalr, Jal, Call, Stop}
use Rattle.machine_desc.specs.declared.Desc.{Desc}
use Rattle.window_model.specs.declared.Entry.{Entry}
use Rattle.window_model.specs.State.{Machine}
use Rattle.window_model.specs.Retire.{head_leaves}

-- a head that is no call puts nothing out
pub quiet : (k : Kind) (d : Desc) (e : Entry) (rest : List Entry) (x : Machine) → (k ≡ Call → ⊥) → (head_leaves k d e rest x).piece ≡ []
quiet Alu d e rest x h = refl
quiet Mul d e rest x h = refl
quiet Div d e rest x h = refl
quiet Load d e rest x h = refl
quiet Store d e rest x h = refl
quiet Branch d e rest x h = refl
quiet Jalr d e rest x h = refl
quiet Jal d e rest x h = refl
quiet (Stop c) d e rest x h = refl
quiet Call d e rest x h = absurd (h refl)
