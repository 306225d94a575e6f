-- The search for the entry that is resolved, step by step.
use Rattle.std.proofs.Common.{◌≡◌, ℕ, zero, suc, ◌+◌, ◌<◌, ◌≤◌, Bool, true, false, not, ◌&&◌, if◌then◌else◌, List, [], ◌∷◌, length, drop, Option, Some, None, refl, ap, ap₂, sym, ◌∙◌, arith, slice_get}
use Rattle.std.specs.List.{list_any}
use Rattle.std.specs.Slice.Scan.{HoldsNowhere, holds_at}
use Rattle.std.proofs.lemmas.List.{drop_more}
use Rattle.std.proofs.lemmas.Option.{get_or_from_slice_get, slice_get_within}
use Rattle.rv_types.specs.declared.Kind.{Kind}
use Rattle.rv_types.specs.declared.Kind.TheVariants.{Branch, Jalr}
use Rattle.machine_desc.specs.declared.Desc.{Desc}
use Rattle.window_model.specs.declared.Entry.{Entry}
use Rattle.window_model.specs.Order.{is_control, is_done}
use Rattle.window_model.specs.Taint.{settled_as}
use Rattle.visibility.specs.Gate.{may_show_by}
use Rattle.visibility.specs.Point.{is_hidden}
use Rattle.rob_ring.specs.Ring.{IsNext, is_open}
use Rattle.rob_ring.proofs.Gaps.{to_end, to_next}
use Rattle.visibility.specs.Pick.{pick_from, can_resolve}

-- ---- the search at a position

-- what is left of a list at a position
drop_here : {X : Type 0} (xs : List X) (i : ℕ) (x : X) → slice_get xs i ≡ Some x → drop i xs ≡ x ∷ drop (i + 1) xs
drop_here xs i x h = drop_more xs i x (slice_get_within xs i x h) ∙ ap (λ y. y ∷ drop (i + 1) xs) (get_or_from_slice_get xs i x x h)

module _ (d : Desc) (point i : ℕ) (es : List Entry) (roots : List (List (Option ℕ))) (e : Entry) (rs : List (Option ℕ)) (r : Option ℕ) (b : Bool)
    (entry : slice_get es i ≡ Some e) (pair : slice_get roots i ≡ Some rs) (is : b ≡ can_resolve d point e rs) (h : pick_from d point i (drop i es) (drop i roots) ≡ r) where
  at_place : (if b then Some i else pick_from d point (i + 1) (drop (i + 1) es) (drop (i + 1) roots)) ≡ r
  at_place =
      ap (λ b. if b then Some i else pick_from d point (i + 1) (drop (i + 1) es) (drop (i + 1) roots)) is
      ∙ sym (ap₂ (pick_from d point i) (drop_here es i e entry) (drop_here roots i rs pair)) ∙ h

  pub pick_here : b ≡ true → Some i ≡ r
  pick_here t = let a = at_place in cc

  pub pick_on : b ≡ false → pick_from d point (i + 1) (drop (i + 1) es) (drop (i + 1) roots) ≡ r
  pick_on f = let a = at_place in cc

-- ---- between entries that aren't settled

-- an entry that is settled is no branch or JALR that isn't resolved
is_closed : (k : Kind) (resolved cleared : Bool) → not (settled_as k resolved cleared) ≡ false → (is_control k && not resolved) ≡ false
is_closed Branch r c h = h
is_closed Jalr r c h = h
is_closed _ r c h = refl

-- an entry that is settled can't be resolved any more
closed_stays : (d : Desc) (point : ℕ) (e : Entry) (rs : List (Option ℕ)) → is_open e ≡ false → can_resolve d point e rs ≡ false
closed_stays d point e rs h =
    by_parts (is_control e.item.kind) (is_done e.state) (not e.resolved) (not (list_any (is_hidden point) rs) && may_show_by d point e.serial) (is_closed e.item.kind e.resolved e.cleared h)
  where
    by_parts : (a b c d : Bool) → (a && c) ≡ false → (a && b && c && d) ≡ false
    by_parts false b c d h = refl
    by_parts true false c d h = refl
    by_parts true true false d h = refl
    by_parts true true true d h = absurd (cc)

-- an entry that isn't Done can't be resolved
pub not_done : (d : Desc) (point : ℕ) (e : Entry) (rs : List (Option ℕ)) → is_done e.state ≡ false → can_resolve d point e rs ≡ false
not_done d point e rs h =
    by_parts (is_control e.item.kind) (is_done e.state) (not e.resolved) (not (list_any (is_hidden point) rs) && may_show_by d point e.serial) h
  where
    by_parts : (a b c d : Bool) → b ≡ false → (a && b && c && d) ≡ false
    by_parts false b c d h = refl
    by_parts true false c d h = refl
    by_parts true true c d h = absurd (cc)

-- there is something at each position of a list
pub there : {X : Type 0} (xs : List X) (i : ℕ) → i < length xs → (x : X) × (slice_get xs i ≡ Some x)
there [] i lt = absurd (omega (arith, lt))
there (x ∷ xs) zero lt = (x, refl)
there (x ∷ xs) (suc i) lt = there xs i (omega (arith, lt))

module _ (d : Desc) (point : ℕ) (es : List Entry) (roots : List (List (Option ℕ))) (r : Option ℕ) (l : length roots ≡ length es) where
  -- what the search comes to from a position on
  abbrev pub Left : ℕ → Type 0
  Left i = pick_from d point i (drop i es) (drop i roots) ≡ r

  past : (i : ℕ) (e : Entry) → slice_get es i ≡ Some e → is_open e ≡ false → Left i → Left (i + 1)
  past i e at closed h =
      let within = slice_get_within es i e at in
      let rs = there roots i (omega (arith, within, l)) in
      pick_on d point i es roots e rs.0 r false at rs.1 (sym (closed_stays d point e rs.0 closed)) h refl

  -- the search can go on at the next entry that isn't settled
  pub pick_over : (i j : ℕ) → IsNext is_open es i j → Left i → Left j
  pick_over i j next h = to_next is_open es Left past i j next h

  nothing_left : (i : ℕ) (es : List Entry) (roots : List (List (Option ℕ))) → pick_from d point i (drop (length es) es) roots ≡ None
  nothing_left i [] roots = refl
  nothing_left i (e ∷ es) roots = nothing_left i es roots

  -- where no entry is left that isn't settled, nothing is found
  pub pick_end : (i : ℕ) → i ≤ length es → HoldsNowhere (holds_at is_open es) i (length es) → Left i → None ≡ r
  pick_end i le none h = sym (nothing_left (length es) es (drop (length es) roots)) ∙ to_end is_open es Left past i le none h
