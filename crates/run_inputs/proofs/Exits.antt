-- What a `?` returns where it leaves a function.
use Rattle.std.specs.Prelude.{IsErrAnd, MatchResult}
use Rattle.std.proofs.Common.{◌≡◌, Result, Err, sym, ap, ◌∙◌, subst}
use Rattle.std.proofs.lemmas.Result.{err_from_is_err_and}

-- what the exit of a `?` returns
pub at_exit : {T E : Type 0} (P : Result T E → Type 0) (r : Result T E) (e : E) → IsErrAnd r (λ y. y ≡ e) → P (Err e) → P r
at_exit P r e h p = let q = err_from_is_err_and r h in subst P (sym (q.1 ∙ ap Err q.2)) p

-- what a `?` returns is an error, for which what is said of that error holds
pub at_err : {T E : Type 0} (r : Result T E) (P : T → Type 0) (Q : E → Type 0) (e : E) → IsErrAnd r (λ y. y ≡ e) → Q e → MatchResult r P Q
at_err r P Q e h q = at_exit (λ x. MatchResult x P Q) r e h q
