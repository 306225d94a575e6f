-- Each key stands in the list of keys, at a place of its own: what holds of each one of the list holds of each key.
use Rattle.std.proofs.Common.{◌≡◌, ◌∙◌, ℕ, zero, suc, if◌then◌else◌, List, [], ◌∷◌, map, get_or, refl, ap, subst}
use Rattle.std.specs.List.{AllByRecursion as Each}
use Rattle.std.specs.Str.{bytes_eq}
use Rattle.machine_desc.specs.declared.keys.Key.{Key}
use Rattle.machine_desc.specs.declared.keys.Key.TheVariants.{CoreFetchWidth}
use Rattle.machine_desc.specs.Table.{keys, key_text}

place_in : List Key → Key → ℕ
place_in [] key = 0
place_in (k ∷ more) key = if bytes_eq (key_text k) (key_text key) then 0 else suc (place_in more key)

-- the place of a key in the list of keys, by its name
pub place : Key → ℕ
place key = place_in keys key

at_place : (key : Key) → get_or keys (place key) CoreFetchWidth ≡ key
unfolding place place_in
at_place CoreFetchWidth = refl
at_place _ = refl

get_mapped : {A B : Type 0} (f : A → B) (xs : List A) (i : ℕ) (d : A) → get_or (map f xs) i (f d) ≡ f (get_or xs i d)
get_mapped f [] i d = refl
get_mapped f (x ∷ xs) zero d = refl
get_mapped f (x ∷ xs) (suc i) d = get_mapped f xs i d

-- what a function gives of a key stands at the key's place among what it gives of all of them
pub mapped_at_place : {B : Type 0} (f : Key → B) (key : Key) → get_or (map f keys) (place key) (f CoreFetchWidth) ≡ f key
mapped_at_place f key = get_mapped f keys (place key) CoreFetchWidth ∙ ap f (at_place key)

each_at : {B : Type 0} (P : B → Type 0) (xs : List B) (i : ℕ) (d : B) → P d → Each P xs → P (get_or xs i d)
each_at P [] i d p e = p
each_at P (x ∷ xs) zero d p e = e.0
each_at P (x ∷ xs) (suc i) d p e = each_at P xs i d p e.1

-- what holds of all that a function gives of the list of keys holds of what it gives of each
pub each_key : {B : Type 0} (P : B → Type 0) (f : Key → B) → Each P (map f keys) → (key : Key) → P (f key)
each_key P f e key = subst P (mapped_at_place f key) (each_at P (map f keys) (place key) (f CoreFetchWidth) e.0 e)
