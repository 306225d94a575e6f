-- The entries from a serial on go, youngest first.
use Rattle.std.proofs.Common.{◌≡◌, ℕ, suc, ◌+◌, ◌-◌, ◌<◌, ◌≤◌, Bool, true, false, cond, List, [], ◌∷◌, ◌++◌, length, get_or, take, refl, ap, sym, ◌∙◌, arith, ⊎_elim}
use Rattle.std.specs.Prelude.{nat_le, nat_lt}
use Rattle.std.specs.List.{filter, All, remove}
use Rattle.std.proofs.lemmas.Bool.{cases_lt}
use Rattle.std.proofs.lemmas.Bool.Decides.{nat_tests}
use Rattle.std.proofs.lemmas.List.{append-nil, take_more, take_all, drop_all}
use Rattle.std.proofs.lemmas.List.Elements.{All-head, All-tail, filter-append}
use Rattle.std.proofs.lemmas.Option.{slice_get-get_or}
use Rattle.stations.specs.Stations.{Rise, Station}
use Rattle.stations.specs.Places.{meets, is_youngest}

filter_all : (p : Station → Bool) (xs : List Station) → All (λ x. p x ≡ true) xs → filter p xs ≡ xs
filter_all p [] a = refl
filter_all p (x ∷ xs) a =
    ap (λ b. cond b (x ∷ filter p xs) (filter p xs)) (All-head (λ x. p x ≡ true) x xs a) ∙ ap (λ xs. x ∷ xs) (filter_all p xs (All-tail (λ x. p x ≡ true) x xs a))

youngest_is : (p : Station → Bool) (s : Station) (hs : List Station) → 0 < length hs → is_youngest p hs ≡ p (get_or hs (length hs - 1) s)
youngest_is p s hs lt = ap (meets p) (slice_get-get_or hs (length hs - 1) s (omega arith))

pub drop_end : (serial : ℕ) (hs : List Station) → Rise hs → is_youngest (λ s. nat_le serial s.serial) hs ≡ false → filter (λ s. nat_lt s.serial serial) hs ≡ hs
drop_end serial hs rise h = filter_all (λ s. nat_lt s.serial serial) hs older
  where
    older : All (λ s. nat_lt s.serial serial ≡ true) hs
    older k d lt =
        let l = youngest_is (λ s. nat_le serial s.serial) d hs (omega arith) in
        let f : nat_le serial (get_or hs (length hs - 1) d).serial ≡ false = sym l ∙ h in
        let m : (get_or hs (length hs - 1) d).serial < serial = grind (arith, nat_tests) in
        ⊎_elim
        (λ (kl : k < length hs - 1). let r = rise k (length hs - 1) d kl (omega arith) in let t : (get_or hs k d).serial < serial = omega (arith, r, m) in grind (arith, nat_tests))
        (λ (kl : length hs - 1 ≤ k). let e : k ≡ length hs - 1 = omega arith in let t : (get_or hs k d).serial < serial = rw e m in grind (arith, nat_tests))
        (cases_lt k (length hs - 1))

pub drop_on : (serial : ℕ) (hs hs2 : List Station) → is_youngest (λ s. nat_le serial s.serial) hs ≡ true → hs2 ≡ remove hs (length hs - 1) → filter (λ s. nat_lt s.serial serial) hs2 ≡ filter (λ s. nat_lt s.serial serial) hs
drop_on serial [] hs2 h e = absurd (cc)
drop_on serial (x ∷ xs) hs2 h e =
    let hs = x ∷ xs in
    let n = length (x ∷ xs) - 1 in
    let y = get_or (x ∷ xs) (length (x ∷ xs) - 1) x in
    let t : nat_le serial y.serial ≡ true = sym (youngest_is (λ s. nat_le serial s.serial) x (x ∷ xs) (omega arith)) ∙ h in
    let f : nat_lt y.serial serial ≡ false = grind (arith, nat_tests) in
    let k : n + 1 ≡ length (x ∷ xs) = omega arith in
    let whole : hs ≡ take n hs ++ y ∷ [] = sym (take_all (length hs) hs (omega arith)) ∙ ap (λ k. take k hs) (sym k) ∙ take_more hs n x (omega arith) in
    let short : hs2 ≡ take n hs = e ∙ ap (λ r. take n hs ++ r) (drop_all (suc n) hs (omega arith)) ∙ append-nil (take n hs) in
    ap (filter (λ s. nat_lt s.serial serial)) short
    ∙ sym (append-nil (filter (λ s. nat_lt s.serial serial) (take n hs)))
    ∙ ap (λ b. filter (λ s. nat_lt s.serial serial) (take n hs) ++ cond b (y ∷ []) []) (sym f)
    ∙ sym (filter-append (λ (s : Station). nat_lt s.serial serial) (take n hs) (y ∷ []))
    ∙ ap (filter (λ s. nat_lt s.serial serial)) (sym whole)

pub last_some : (p : Station → Bool) (hs : List Station) → is_youngest p hs ≡ true → 0 < length hs
last_some p [] h = absurd (cc)
last_some p (x ∷ xs) h = omega arith
