-- Which loads pass a store wrongly.
use Rattle.std.proofs.Common.{◌≡◌, ℕ, ◌+◌, ◌<◌, not, ◌&&◌, List, [], ◌∷◌, ◌++◌, Option, Some, None, is_some, length, take, get_or, refl, ap, ap₂, sym, ◌∙◌}
use Rattle.std.specs.List.{find, list_any}
use Rattle.std.specs.Option.{option_map, option_or}
use Rattle.std.proofs.lemmas.List.{take_more}
use Rattle.std.proofs.lemmas.List.Folds.{find-append}
use Rattle.rv_types.specs.Memory.{range}
use Rattle.rv_types.specs.declared.Cause.{Cause}
use Rattle.lsq.specs.declared.load.Load.{Load}
use Rattle.lsq.specs.declared.store.Span.{Span}
use Rattle.lsq.specs.declared.store.Store.{Store}
use Rattle.lsq.specs.Clearing.{is_violated, violated_serial}
use Rattle.lsq.specs.Merging.{reaches}
use Rattle.lsq.specs.Pending.{bytes_asked}

-- an access with a fault asks for no byte
pub shared_is : (k : Span) (fault : Option Cause) (a n : ℕ) → list_any (λ a. reaches a k) (bytes_asked fault a n) ≡ (not (is_some fault) && list_any (λ a. reaches a k) (range a n))
shared_is k None a n = refl
shared_is k (Some cause) a n = refl

either_serial : (a b : Option Load) → option_map (λ (l : Load). l.serial) (option_or a b) ≡ option_or (option_map (λ (l : Load). l.serial) a) (option_map (λ (l : Load). l.serial) b)
either_serial None b = refl
either_serial (Some l) b = refl

-- the oldest of some loads, else of those behind them
pub violated_more : (s : Store) (xs ys : List Load) → violated_serial s (xs ++ ys) ≡ option_or (violated_serial s xs) (violated_serial s ys)
violated_more s xs ys = ap (option_map (λ (l : Load). l.serial)) (find-append (is_violated s) xs ys) ∙ either_serial (find (is_violated s) xs) (find (is_violated s) ys)

-- the first violated load is looked for in one load more
pub violated_next : (s : Store) (xs : List Load) (i : ℕ) (x : Load) (o r : Option ℕ) → i < length xs → x ≡ get_or xs i x → o ≡ violated_serial s (take i xs) → r ≡ option_or o (violated_serial s (x ∷ [])) →
    r ≡ violated_serial s (take (i + 1) xs)
violated_next s xs i x o r within at before next =
    next ∙ ap₂ option_or before (ap (λ x. violated_serial s (x ∷ [])) at)
    ∙ sym (ap (violated_serial s) (take_more xs i x within) ∙ violated_more s (take i xs) (get_or xs i x ∷ []))
