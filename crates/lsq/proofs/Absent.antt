-- A load or store that isn't in a queue needn't be taken out of it.
use Rattle.std.proofs.Common.{◌≡◌, ◌∙◌, Bool, false, cond, List, [], ◌∷◌, refl, ap}
use Rattle.std.specs.Prelude.{not}
use Rattle.std.specs.List.{filter, list_any}
use Rattle.window_model.proofs.Booleans.{neither}

pub none_taken : {X : Type 0} (p : X → Bool) (xs : List X) → list_any p xs ≡ false → filter (λ x. not (p x)) xs ≡ xs
none_taken p [] h = refl
none_taken p (x ∷ xs) h =
    let none = neither (p x) (list_any p xs) h in
    ap (λ b. cond (not b) (x ∷ filter (λ x. not (p x)) xs) (filter (λ x. not (p x)) xs)) none.0 ∙ ap (λ xs. x ∷ xs) (none_taken p xs none.1)
