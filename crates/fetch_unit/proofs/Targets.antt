-- What the predictor answers for a JALR, or else the address behind, is the target that is stored for it.
use Rattle.std.proofs.Common.{◌≡◌, ℕ, Bool, true, false, Option, Some, None, refl}
use Rattle.std.specs.Prelude.{if◌then◌else◌, unwrap_or, ◌==◌}
use Rattle.rv_types.specs.Word.{word_add}
use Rattle.window_model.specs.declared.Target.{Target}
use Rattle.window_model.specs.Fetch.{stored_target}
use Rattle.predictor.specs.Tables.{target_if}

by_address : (b : Bool) (pc t : ℕ) → unwrap_or (if b then Some t else None) (word_add pc 4) ≡ (if b then t else word_add pc 4)
by_address true pc t = refl
by_address false pc t = refl

pub stored_is : (pc : ℕ) (o : Option Target) → unwrap_or (target_if pc o) (word_add pc 4) ≡ stored_target pc o
stored_is pc None = refl
stored_is pc (Some t) = by_address (t.pc == pc) pc t.target
