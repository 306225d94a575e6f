-- Lists, mapped, filtered, cut and changed at a place.
use mathlib.Core.List.{reverse_aux}
use Rattle.std.proofs.Common.{Bool, List, Some, [], ap, ap₂, arith, cond, drop, false, length, refl, slice_get, subst, suc, sym, take, true, zero, ℕ, ◌++◌, ◌∙◌, ◌∷◌, ◌≡◌, ◌≤◌, Option, None}
use Rattle.std.proofs.lemmas.List.Elements.{All-head, All-tail}
use Rattle.std.specs.List.{All, AllZip, filter, remove}
use Rattle.std.specs.Prelude.{map, slice_set, is_some, if◌then◌else◌}
use Rattle.window_model.proofs.EntryByEntry.{zip_same}
use Rattle.window_model.specs.declared.Entry.{Entry}
use Rattle.std.specs.Option.{option_map}

-- functions that agree map alike
pub map_same : {X Y : Type 0} (f g : X → Y) (xs : List X) → ((x : X) → f x ≡ g x) → map f xs ≡ map g xs
map_same f g [] h = refl
map_same f g (x ∷ xs) h = ap₂ (λ y ys. y ∷ ys) (h x) (map_same f g xs h)

-- two maps, one after the other, are one
pub map_twice : {X Y Z : Type 0} (g : Y → Z) (f : X → Y) (xs : List X) → map g (map f xs) ≡ map (λ x. g (f x)) xs
map_twice g f [] = refl
map_twice g f (x ∷ xs) = ap (λ ys. g (f x) ∷ ys) (map_twice g f xs)

-- a map of what is turned over onto another list
pub map_back : {X Y : Type 0} (f : X → Y) (xs ys : List X) → map f (reverse_aux xs ys) ≡ reverse_aux (map f xs) (map f ys)
map_back f [] ys = refl
map_back f (x ∷ xs) ys = map_back f xs (x ∷ ys)

-- a function that changes nothing maps to the same
pub map_id : {X : Type 0} (f : X → X) → ((x : X) → f x ≡ x) → (xs : List X) → map f xs ≡ xs
map_id f h [] = refl
map_id f h (x ∷ xs) = ap₂ (λ y ys. y ∷ ys) (h x) (map_id f h xs)

-- a map without the item at a position
pub map_remove : {X Y : Type 0} (f : X → Y) (xs : List X) (i : ℕ) → map f (remove xs i) ≡ remove (map f xs) i
map_remove f [] zero = refl
map_remove f [] (suc i) = refl
map_remove f (x ∷ xs) zero = refl
map_remove f (x ∷ xs) (suc i) = ap (λ ys. f x ∷ ys) (map_remove f xs i)

-- one entry is put in the place of another
pub zip_set : (R : Entry → Entry → Type 0) → ((e : Entry) → R e e) → (es : List Entry) (i : ℕ) (e e2 : Entry) → slice_get es i ≡ Some e → R e e2 → AllZip R es (slice_set es i e2)
zip_set R same [] i e e2 h g = absurd (cc)
zip_set R same (x ∷ es) zero e e2 h g = let a : x ≡ e = cc in (subst (λ x. R x e2) (sym a) g, zip_same R same es)
zip_set R same (x ∷ es) (suc i) e e2 h g = (same x, zip_set R same es i e e2 h g)

-- ---- filters

-- a filter that all pass
pub keeps_all : {X : Type 0} (t : X → Bool) (xs : List X) → All (λ x. t x ≡ true) xs → filter t xs ≡ xs
keeps_all t [] a = refl
keeps_all t (x ∷ xs) a = ap (λ b. cond b (x ∷ filter t xs) (filter t xs)) (All-head (λ x. t x ≡ true) x xs a) ∙ ap (λ ys. x ∷ ys) (keeps_all t xs (All-tail (λ x. t x ≡ true) x xs a))

-- a filter that none passes
pub keeps_none : {X : Type 0} (t : X → Bool) (xs : List X) → All (λ x. t x ≡ false) xs → filter t xs ≡ []
keeps_none t [] a = refl
keeps_none t (x ∷ xs) a = ap (λ b. cond b (x ∷ filter t xs) (filter t xs)) (All-head (λ x. t x ≡ false) x xs a) ∙ keeps_none t xs (All-tail (λ x. t x ≡ false) x xs a)

-- ---- cuts

-- the first part of two
pub take_first : {X : Type 0} (xs ys : List X) → take (length xs) (xs ++ ys) ≡ xs
take_first [] [] = refl
take_first [] (y ∷ ys) = refl
take_first (x ∷ xs) ys = ap (λ zs. x ∷ zs) (take_first xs ys)

-- a list is as many of it and the rest
pub halves : {X : Type 0} (n : ℕ) (xs : List X) → take n xs ++ drop n xs ≡ xs
halves zero xs = refl
halves (suc n) [] = refl
halves (suc n) (x ∷ xs) = ap (λ ys. x ∷ ys) (halves n xs)

-- as many are taken as there are
pub take_length : {X : Type 0} (n : ℕ) (xs : List X) → n ≤ length xs → length (take n xs) ≡ n
take_length zero xs le = refl
take_length (suc n) [] le = absurd (omega (arith, le))
take_length (suc n) (x ∷ xs) le = ap suc (take_length n xs (omega (arith, le)))

-- what is put at a position changes nothing before it
pub take_set : {X : Type 0} (xs : List X) (i m : ℕ) (x : X) → i ≤ m → take i (slice_set xs m x) ≡ take i xs
take_set xs zero m x le = refl
take_set [] (suc i) m x le = refl
take_set (y ∷ xs) (suc i) zero x le = absurd (omega (arith, le))
take_set (y ∷ xs) (suc i) (suc m) x le = ap (λ ys. y ∷ ys) (take_set xs i m x (omega (arith, le)))

-- ---- what may be missing

-- what isn't there is none
pub unknown : {X : Type 0} (o : Option X) → is_some o ≡ false → None ≡ o
unknown None h = refl
unknown (Some x) h = absurd (cc)

-- what is there under a test changes under it
pub if_mapped : {X Y : Type 0} (f : X → Y) (b : Bool) (x : X) → (if b then Some (f x) else None) ≡ option_map f (if b then Some x else None)
if_mapped f true x = refl
if_mapped f false x = refl
