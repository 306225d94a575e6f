-- Lists that have nothing in them, and phases that do nothing.
use Rattle.std.proofs.Common.{◌≡◌, Bool, true, false, not, cond, List, [], ◌∷◌, ◌++◌, refl, ap, ◌∙◌, subst}
use Rattle.std.specs.Prelude.{map}
use Rattle.std.specs.List.{filter, AllByRecursion as Each}
use Rattle.window_model.specs.State.{Machine, After, then_does, nothing}

-- ---- lists without any element

-- two lists are empty that make an empty one
pub both_empty : {X : Type 0} (a b : List X) → a ++ b ≡ [] → (a ≡ []) × (b ≡ [])
both_empty [] b h = (refl, h)
both_empty (x ∷ a) b h = absurd (cc)

-- a list of nothing is made from nothing
pub map_empty : {X Y : Type 0} (f : X → Y) (xs : List X) → map f xs ≡ [] → xs ≡ []
map_empty f [] h = refl
map_empty f (x ∷ xs) h = absurd (cc)

module _ {X : Type 0} (t : X → Bool) where
  -- no element of the list has the property
  abbrev pub Lacks : List X → Type 0
  Lacks xs = Each (λ x. t x ≡ false) xs

  none_if : (b : Bool) (x : X) (xs : List X) → t x ≡ b → cond b (x ∷ filter t xs) (filter t xs) ≡ [] → (filter t xs ≡ [] → Lacks xs) → Lacks (x ∷ xs)
  none_if true x xs q h more = absurd (cc)
  none_if false x xs q h more = (q, more h)

  -- no element of a list has the property, where none is left by filtering for it
  pub none_left : (xs : List X) → filter t xs ≡ [] → Lacks xs
  none_left [] h = tt
  none_left (x ∷ xs) h = none_if (t x) x xs refl h (none_left xs)

  -- filtering for a property leaves none of a list in which none has it
  pub none_kept : (xs : List X) → Lacks xs → filter t xs ≡ []
  none_kept [] h = refl
  none_kept (x ∷ xs) h = ap (λ b. cond b (x ∷ filter t xs) (filter t xs)) h.0 ∙ none_kept xs h.1

  pub all_kept : (xs : List X) → Lacks xs → filter (λ x. not (t x)) xs ≡ xs
  all_kept [] h = refl
  all_kept (x ∷ xs) h =
      let kept = filter (λ x. not (t x)) xs in
      ap (λ b. cond (not b) (x ∷ kept) kept) h.0 ∙ ap (λ ys. x ∷ ys) (all_kept xs h.1)

-- ---- phases that do nothing

-- two phases that do nothing, one after the other, do nothing together
pub nothing_then : (x : Machine) (a : After) (more : Machine → After) → a ≡ nothing x → more x ≡ nothing x → then_does a more ≡ nothing x
nothing_then x a more h k = ap (λ (a : After). then_does a more) h ∙ k

-- a phase that has no event does nothing, and the one after it has none
pub nothing_first : (x : Machine) (a : After) (more : Machine → After) → (then_does a more).events ≡ [] → (a.events ≡ [] → a ≡ nothing x) → (a.events ≡ []) × ((more x).events ≡ [])
nothing_first x a more h stays =
    let e = both_empty a.events (more a.machine).events h in
    (e.0, subst (λ (a : After). (more a.machine).events ≡ []) (stays e.0) e.1)
