-- Slots that are counted cycle by cycle, or of two parts of a run, are those of the whole run.
use Rattle.std.proofs.Common.{◌≡◌, ℕ, zero, suc, ◌+◌, ◌<◌, ◌≤◌, Bool, true, false, List, [], ◌∷◌, ◌++◌, length, map, take, drop, get_or, set, Some, refl, ap, ap₂, sym, ◌∙◌, arith, add-one}
use Rattle.std.specs.Prelude.{codes, slice_get, if◌then◌else◌}
use Rattle.std.specs.Str.{bytes_eq}
use Rattle.run_counts.specs.Counted.{added_to, as_told}
use Rattle.run_counts.specs.inner.Counting.{number_with, numbers_by, sums}
use Rattle.run_counts.proofs.Each.{each_given, each_twice}
use Rattle.run_counts.proofs.Distinct.{distinct, set_is}
use Rattle.slot_reasons.specs.Slots.{Charge, reason_name, slot_names, slots, slots_in, slots_of}

-- no name of a number stands twice
names_distinct : distinct slot_names ≡ true
unfolding slot_names
names_distinct = refl

pub slot_names_length : length slot_names ≡ 19
unfolding slot_names
slot_names_length = refl

-- the number at a place is the one of the name there
pub number_set : (ks : List ℕ) (place : ℕ) (at : List ℕ) (n : ℕ) → length ks ≡ 19 → slice_get slot_names place ≡ Some at
    → set ks place (as_told (get_or ks place 0 + n)) ≡ numbers_by (λ name k. number_with name at n k) slot_names ks
number_set ks place at n l s = set_is slot_names ks place at n names_distinct s (l ∙ sym slot_names_length)

-- ---- A cycle behind others

told_more : (a n : ℕ) → as_told (as_told a + n) ≡ as_told (a + n)
unfolding as_told
told_more a n = omega arith

told_both : (a b : ℕ) → as_told (as_told a + as_told b) ≡ as_told (a + b)
unfolding as_told
told_both a b = omega arith

-- one more addition to a number of which so much was counted
more_counts : (name at : List ℕ) (n a : ℕ) → number_with name at n (as_told a) ≡ as_told (a + added_to name at n)
more_counts name at n a = by (bytes_eq at name)
  where
    by : (b : Bool) → (if b then as_told (as_told a + n) else as_told a) ≡ as_told (a + (if b then n else 0))
    by true = told_more a n
    by false = let z : a ≡ a + 0 = omega arith in ap as_told z

-- what is counted of cycles and then of others
pub counted_append : (name : List ℕ) (cs others : List Charge) → slots_of name (cs ++ others) ≡ slots_of name cs + slots_of name others
counted_append name [] others = omega arith
counted_append name (c ∷ rest) others =
    let next : slots_of name (rest ++ others) ≡ slots_of name rest + slots_of name others = counted_append name rest others in
    let one = slots_in name c in
    let sum : one + (slots_of name rest + slots_of name others) ≡ (one + slots_of name rest) + slots_of name others = omega arith in
    ap (λ n. one + n) next ∙ sum

alike : (f g : List ℕ → ℕ) (names : List (List ℕ)) → ((name : List ℕ) → f name ≡ g name) → map f names ≡ map g names
alike f g [] e = refl
alike f g (name ∷ rest) e = ap₂ (λ x xs. x ∷ xs) (e name) (alike f g rest e)

-- the number of a name once a cycle's slots are added
cycle_counts : (name : List ℕ) (c : Charge) (a : ℕ)
    → number_with name (reason_name c.reason) c.empty (number_with name (codes "slots_base") c.retired (as_told a)) ≡ as_told (a + slots_in name c)
cycle_counts name c a =
    let base = added_to name (codes "slots_base") c.retired in
    let empty = added_to name (reason_name c.reason) c.empty in
    let sum : (a + base) + empty ≡ a + (base + empty) = omega arith in
    ap (number_with name (reason_name c.reason) c.empty) (more_counts name (codes "slots_base") c.retired a) ∙ more_counts name (reason_name c.reason) c.empty (a + base) ∙ ap as_told sum

-- a cycle is counted behind others
pub cycle_counted : (cs : List Charge) (c : Charge) (old mid new : List ℕ)
    → mid ≡ numbers_by (λ name k. number_with name (codes "slots_base") c.retired k) slot_names old
    → new ≡ numbers_by (λ name k. number_with name (reason_name c.reason) c.empty k) slot_names mid
    → old ≡ slots cs → new ≡ slots (cs ++ c ∷ [])
cycle_counted cs c old mid new m n e =
    let f : List ℕ → ℕ → ℕ = λ name k. number_with name (reason_name c.reason) c.empty k in
    let g : List ℕ → ℕ → ℕ = λ name k. number_with name (codes "slots_base") c.retired k in
    n
    ∙ ap (numbers_by f slot_names) m
    ∙ each_twice f g slot_names old
    ∙ ap (numbers_by (λ name k. f name (g name k)) slot_names) e
    ∙ each_given (λ name k. f name (g name k)) (λ name. as_told (slots_of name cs)) slot_names
    ∙ alike _ _ slot_names
    (λ name.
    let last : slots_in name c + 0 ≡ slots_in name c = omega arith in
    cycle_counts name c (slots_of name cs)
    ∙ ap as_told (ap (λ k. slots_of name cs + k) (sym last) ∙ sym (counted_append name cs (c ∷ []))))

-- where nothing is empty, nothing is added for a reason
none_added : (name at : List ℕ) (a : ℕ) → number_with name at 0 (as_told a) ≡ as_told a
none_added name at a = more_counts name at 0 a ∙ (let z : a + added_to name at 0 ≡ a = ap (λ n. a + n) (nothing (bytes_eq at name)) ∙ add-zero a in ap as_told z)
  where
    nothing : (b : Bool) → (if b then zero else zero) ≡ zero
    nothing true = refl
    nothing false = refl

    add-zero : (n : ℕ) → n + zero ≡ n
    add-zero n = omega arith

none_each : (at : List ℕ) (h : List ℕ → ℕ) (names : List (List ℕ)) → numbers_by (λ name k. number_with name at 0 k) names (map (λ name. as_told (h name)) names) ≡ map (λ name. as_told (h name)) names
none_each at h [] = refl
none_each at h (name ∷ rest) = ap₂ (λ x xs. x ∷ xs) (none_added name at (h name)) (none_each at h rest)

-- the slots in which something retired, counted behind others
base_each : (n : ℕ) (h : List ℕ → ℕ) (names : List (List ℕ))
    → numbers_by (λ name k. number_with name (codes "slots_base") n k) names (map (λ name. as_told (h name)) names) ≡ map (λ name. as_told (h name + added_to name (codes "slots_base") n)) names
base_each n h [] = refl
base_each n h (name ∷ rest) = ap₂ (λ x xs. x ∷ xs) (more_counts name (codes "slots_base") n (h name)) (base_each n h rest)

-- a cycle without an empty slot is counted behind others
pub full_counted : (cs : List Charge) (c : Charge) (old new : List ℕ) → c.empty ≡ 0 → new ≡ numbers_by (λ name k. number_with name (codes "slots_base") c.retired k) slot_names old
    → old ≡ slots cs → new ≡ slots (cs ++ c ∷ [])
full_counted cs c old new z n e =
    let mid : new ≡ map (λ name. as_told (slots_of name cs + added_to name (codes "slots_base") c.retired)) slot_names =
    n ∙ ap (numbers_by (λ name k. number_with name (codes "slots_base") c.retired k) slot_names) e ∙ base_each c.retired (λ name. slots_of name cs) slot_names in
    let stays : new ≡ numbers_by (λ name k. number_with name (reason_name c.reason) c.empty k) slot_names new =
    sym (ap (λ m. numbers_by (λ name k. number_with name (reason_name c.reason) m k) slot_names new) z
    ∙ ap (numbers_by (λ name k. number_with name (reason_name c.reason) 0 k) slot_names) mid
    ∙ none_each (reason_name c.reason) (λ name. slots_of name cs + added_to name (codes "slots_base") c.retired) slot_names
    ∙ sym mid) in
    cycle_counted cs c old new new n stays e

-- ---- Two parts of a run

both_parts : (f g : List ℕ → ℕ) (names : List (List ℕ)) → sums (map (λ name. as_told (f name)) names) (map (λ name. as_told (g name)) names) ≡ map (λ name. as_told (f name + g name)) names
both_parts f g [] = refl
both_parts f g (name ∷ rest) = ap₂ (λ x xs. x ∷ xs) (told_both (f name) (g name)) (both_parts f g rest)

-- the slots of two parts of a run are added
pub parts_counted : (cs others : List Charge) (old added new : List ℕ) → new ≡ sums old added → old ≡ slots cs → added ≡ slots others → new ≡ slots (cs ++ others)
parts_counted cs others old added new w e f =
    w
    ∙ ap₂ sums e f
    ∙ both_parts (λ name. slots_of name cs) (λ name. slots_of name others) slot_names
    ∙ alike _ _ slot_names (λ name. ap as_told (sym (counted_append name cs others)))

-- ---- Numbers that are added place by place

-- the first numbers are added, and the others are as they were
abbrev pub added_up_to : ℕ → List ℕ → List ℕ → List ℕ
added_up_to p xs ys = sums (take p xs) (take p ys) ++ drop p xs

next : (xs ys : List ℕ) (p : ℕ) → p < length xs → length ys ≡ length xs
    → set (added_up_to p xs ys) p (as_told (get_or (added_up_to p xs ys) p 0 + get_or ys p 0)) ≡ added_up_to (suc p) xs ys
next [] ys p l e = absurd (omega (arith, l))
next (x ∷ xs) [] p l e = absurd (omega (arith, e))
next (x ∷ xs) (y ∷ ys) zero l e = refl
next (x ∷ xs) (y ∷ ys) (suc p) l e =
    let less : p < length xs = omega (arith, l) in
    let long : length ys ≡ length xs = omega (arith, e) in
    ap (λ r. as_told (x + y) ∷ r) (next xs ys p less long)

-- one more is added
pub next_added : (xs ys now : List ℕ) (p v : ℕ) → p < 19 → length xs ≡ 19 → length ys ≡ 19 → now ≡ added_up_to p xs ys → v ≡ as_told (get_or now p 0 + get_or ys p 0)
    → set now p v ≡ added_up_to (p + 1) xs ys
next_added xs ys now p v l e f is h =
    let less : p < length xs = omega (arith, l, e) in
    ap₂ (λ ks x. set ks p x) is (h ∙ ap (λ ks. as_told (get_or ks p 0 + get_or ys p 0)) is)
    ∙ next xs ys p less (f ∙ sym e)
    ∙ ap (λ k. added_up_to k xs ys) (sym (add-one p))

sums_all : (xs ys : List ℕ) (p : ℕ) → length xs ≤ p → length ys ≡ length xs → added_up_to p xs ys ≡ sums xs ys
sums_all [] ys zero l e = refl
sums_all [] ys (suc p) l e = refl
sums_all (x ∷ xs) ys zero l e = absurd (omega (arith, l))
sums_all (x ∷ xs) [] (suc p) l e = absurd (omega (arith, e))
sums_all (x ∷ xs) (y ∷ ys) (suc p) l e =
    let less : length xs ≤ p = omega (arith, l) in
    let long : length ys ≡ length xs = omega (arith, e) in
    ap (λ r. as_told (x + y) ∷ r) (sums_all xs ys p less long)

-- all are added
pub all_added : (xs ys now : List ℕ) (p : ℕ) → 19 ≤ p → length xs ≡ 19 → length ys ≡ 19 → now ≡ added_up_to p xs ys → now ≡ sums xs ys
all_added xs ys now p l e f is = let most : length xs ≤ p = omega (arith, l, e) in is ∙ sums_all xs ys p most (f ∙ sym e)
