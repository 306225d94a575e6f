-- Numbers that are changed one by one, each by its name.
use Rattle.std.proofs.Common.{◌≡◌, ℕ, List, [], ◌∷◌, length, map, refl, ap, ap₂, arith}
use Rattle.run_counts.specs.inner.Counting.{numbers_by}

-- what is done to each number in two steps is done in one
pub each_twice : (f g : List ℕ → ℕ → ℕ) (names : List (List ℕ)) (ks : List ℕ) → numbers_by f names (numbers_by g names ks) ≡ numbers_by (λ name k. f name (g name k)) names ks
each_twice f g [] ks = refl
each_twice f g (name ∷ rest) [] = refl
each_twice f g (name ∷ rest) (k ∷ ks) = ap (λ xs. f name (g name k) ∷ xs) (each_twice f g rest ks)

-- numbers that stay
pub each_stays : (names : List (List ℕ)) (ks : List ℕ) → length ks ≡ length names → numbers_by (λ name k. k) names ks ≡ ks
each_stays [] [] e = refl
each_stays [] (k ∷ ks) e = absurd (omega (arith, e))
each_stays (name ∷ rest) [] e = refl
each_stays (name ∷ rest) (k ∷ ks) e = let l : length ks ≡ length rest = omega (arith, e) in ap (λ xs. k ∷ xs) (each_stays rest ks l)

-- numbers that are changed alike
pub each_alike : (f g : List ℕ → ℕ → ℕ) (names : List (List ℕ)) (ks : List ℕ) → ((name : List ℕ) (k : ℕ) → f name k ≡ g name k) → numbers_by f names ks ≡ numbers_by g names ks
each_alike f g [] ks e = refl
each_alike f g (name ∷ rest) [] e = refl
each_alike f g (name ∷ rest) (k ∷ ks) e = ap₂ (λ x xs. x ∷ xs) (e name k) (each_alike f g rest ks e)

-- numbers that their names give, changed
pub each_given : (f : List ℕ → ℕ → ℕ) (h : List ℕ → ℕ) (names : List (List ℕ)) → numbers_by f names (map h names) ≡ map (λ name. f name (h name)) names
each_given f h [] = refl
each_given f h (name ∷ rest) = ap (λ xs. f name (h name) ∷ xs) (each_given f h rest)
