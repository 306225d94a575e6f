-- Once the oldest entries have retired, what stands beside the window still stands for it.
use Rattle.std.proofs.Common.{◌≡◌, ℕ, suc, zero, Bool, true, false, List, [], ◌∷◌, ◌++◌, length, drop, refl, ap₂, ◌∙◌, subst}
use Rattle.std.specs.Prelude.{◌&&◌, ◌||◌, not, nat_le}
use Rattle.std.specs.List.{AllByRecursion as Each}
use Rattle.window_model.specs.declared.Entry.{Entry}
use Rattle.window_model.specs.Order.{is_control, is_done, is_load}
use Rattle.window_model.specs.Rename.{CallAlone}
use Rattle.window_model.specs.Retire.{may_leave}
use Rattle.rob_ring.specs.declared.beside.Sources.{Sources}
use Rattle.rename_taint.specs.declared.Write.{Write}
use Rattle.rename_taint.specs.Writes.{without_retired}
use Rattle.lsq.specs.Queues.{Queues, without}
use Rattle.visibility.specs.Point.{HasAdvanced, Point}
use Rattle.refinement.specs.Waiters.{Hold, gives_at}
use Rattle.retire.specs.Gone.{MayRetire, queues_without, without_each}
use Rattle.retire.proofs.Leaving.{alone_rest}
use Rattle.refinement.specs.InFlight.{InFlight, hold_in}
use Rattle.refinement.proofs.Steps.{refines_retired}
use Rattle.core_cycle.proofs.Advanced.{head_gone}
use Rattle.core_cycle.proofs.Tied.{Tied, with_left}

by_parts : (a b : Bool) → a && b ≡ true → a ≡ true
by_parts true b m = refl
by_parts false b m = m

-- an entry that may leave is Done
leaves_done : (e : Entry) → may_leave e ≡ true → is_done e.state ≡ true
leaves_done e m = by_parts (is_done e.state) (not (is_control e.item.kind) || e.resolved) m

-- an entry that is Done and visible gives its value
gives_visible : (h : Hold) (e : Entry) → nat_le e.serial h.point ≡ true → is_done e.state ≡ true → gives_at h e ≡ true
gives_visible h e v d = ap₂ (λ visible done. not (h.holds && is_load e.item.kind && not visible) && done) v d ∙ by_two h.holds (is_load e.item.kind)
  where
    by_two : (a b : Bool) → (not (a && b && false) && true) ≡ true
    by_two true true = refl
    by_two true false = refl
    by_two false b = refl

-- the oldest entry in flight is visible
head_visible : (p : Point) (e : Entry) (es : List Entry) → HasAdvanced p (e ∷ es) → nat_le e.serial p.serial ≡ true
head_visible p e es a = a.each.0

-- once the oldest entry has retired, what stands beside the window stands for the others
one_gone : (p : InFlight) (e : Entry) (es : List Entry) (sources : List Sources) (writes : List Write) (q : Queues) → is_done e.state ≡ true → HasAdvanced p.point (e ∷ es) →
    Tied p (e ∷ es) sources writes q → Tied p es (drop 1 sources) (without_retired e.serial writes) (without e.serial q)
one_gone p e es sources writes q d a t =
    refines_retired (with_left p (e ∷ es) sources writes q) e t refl (gives_visible (hold_in p) e (head_visible p.point e es a) d)

drop_none : (n : ℕ) (xs : List Sources) → xs ≡ [] → drop n xs ≡ xs
drop_none zero xs e = refl
drop_none (suc n) [] e = refl
drop_none (suc n) (x ∷ xs) e = absurd (cc)

drop_more : (n : ℕ) (xs : List Sources) → drop n (drop 1 xs) ≡ drop (suc n) xs
drop_more n [] = drop_none n [] refl
drop_more n (x ∷ xs) = refl

-- the oldest entries go, one after the other
pub all_gone : (p : InFlight) (gone rest : List Entry) (sources : List Sources) (writes : List Write) (q : Queues) → Each MayRetire gone → CallAlone (gone ++ rest) →
    HasAdvanced p.point (gone ++ rest) → Tied p (gone ++ rest) sources writes q → Tied p rest (drop (length gone) sources) (without_each gone writes) (queues_without gone q)
all_gone p [] rest sources writes q m alone a t = t
all_gone p (e ∷ gone) rest sources writes q m alone a t =
    let one = one_gone p e (gone ++ rest) sources writes q (leaves_done e m.0.0) a t in
    let all =
    all_gone p gone rest (drop 1 sources) (without_retired e.serial writes) (without e.serial q) m.1 (alone_rest e (gone ++ rest) alone)
    (head_gone p.point e (gone ++ rest) m.0 alone a) one in
    subst (λ sources. Tied p rest sources (without_each (e ∷ gone) writes) (queues_without (e ∷ gone) q)) (drop_more (length gone) sources) all
