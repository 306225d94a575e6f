-- What events tell of the queue: how many of its items are left to be renamed, and how many are fetched behind them.
use Rattle.std.proofs.Common.{◌≡◌, ℕ, ◌+◌, ◌≤◌, Bool, true, false, List, [], ◌∷◌, ◌++◌, map, refl, ap, ap₂, ◌∙◌, arith}
use Rattle.std.specs.List.{AllByRecursion as Each}
use Rattle.window_model.specs.declared.Event.{Event}
use Rattle.window_model.specs.declared.Event.TheVariants.{Sq, Ren, Fet}
use Rattle.slot_reasons.specs.declared.Walked.{Walked}
use Rattle.slot_reasons.specs.Reasons.{fetched_behind, is_bit, left_behind, walk, walk_on}

-- how many of the items that had been fetched before are left, behind events that come one after the other
abbrev pub left_of : List Event → ℕ → ℕ
left_of [] left = left
left_of (event ∷ rest) left = left_of rest (left_behind event left)

-- how many items are fetched, behind events that come one after the other
abbrev pub fetched_of : List Event → ℕ → ℕ
fetched_of [] fetched = fetched
fetched_of (event ∷ rest) fetched = fetched_of rest (fetched_behind event fetched)

-- a walk over events tells how many items are left
pub walk_left : (b : Bool) (events : List Event) (w : Walked) → (walk b events w).left ≡ left_of events w.left
walk_left b [] w = refl
walk_left b (event ∷ rest) w = walk_left (is_bit event) rest (walk_on b event w)

-- a walk over events tells how many items are fetched
pub walk_fetched : (b : Bool) (events : List Event) (w : Walked) → (walk b events w).fetched ≡ fetched_of events w.fetched
walk_fetched b [] w = refl
walk_fetched b (event ∷ rest) w = walk_fetched (is_bit event) rest (walk_on b event w)

left_both : (es fs : List Event) (k : ℕ) → left_of (es ++ fs) k ≡ left_of fs (left_of es k)
left_both [] fs k = refl
left_both (e ∷ es) fs k = left_both es fs (left_behind e k)

fetched_both : (es fs : List Event) (k : ℕ) → fetched_of (es ++ fs) k ≡ fetched_of fs (fetched_of es k)
fetched_both [] fs k = refl
fetched_both (e ∷ es) fs k = fetched_both es fs (fetched_behind e k)

-- no event leaves more items than there were
no_more : (e : Event) (k : ℕ) → left_behind e k ≤ k
no_more (Sq count) k = omega arith
no_more (Ren serial pc) k = omega arith
no_more _ k = omega arith

left_few : (es : List Event) (k : ℕ) → left_of es k ≤ k
left_few [] k = omega arith
left_few (e ∷ es) k = let a = left_few es (left_behind e k) in let b = no_more e k in omega (arith, a, b)

-- ---- Before anything is fetched

-- the events tell that of m items n are left, and that nothing is fetched
pub record Leaves (events : List Event) (m n : ℕ) : Type 0 where
  pub left : left_of events m ≡ n
  pub fetched : (k : ℕ) → fetched_of events k ≡ k

-- what is left behind events and then others
pub leaves_then : (es fs : List Event) (l m n : ℕ) → Leaves es l m → Leaves fs m n → Leaves (es ++ fs) l n
leaves_then es fs l m n p q = record {
  left = left_both es fs l ∙ ap (left_of fs) p.left ∙ q.left;
  fetched = λ k. fetched_both es fs k ∙ ap (fetched_of fs) (p.fetched k) ∙ q.fetched k;
}

-- no more items are left than there were
pub leaves_few : (es : List Event) (m n : ℕ) → Leaves es m n → n ≤ m
leaves_few es m n p = let a = left_few es m in let b = p.left in omega (arith, a, b)

-- ---- Events that tell nothing of the queue

-- the event neither takes items from the queue nor puts one there
abbrev pub is_aside : Event → Bool
is_aside (Sq count) = false
is_aside (Ren serial pc) = false
is_aside (Fet pc) = false
is_aside _ = true

-- no event takes items from the queue or puts one there
abbrev pub Aside : List Event → Type 0
Aside = Each (λ e. is_aside e ≡ true)

-- events that are made one by one
pub all_aside : {A : Type 0} (f : A → Event) → ((x : A) → is_aside (f x) ≡ true) → (xs : List A) → Aside (map f xs)
all_aside f one [] = tt
all_aside f one (x ∷ xs) = (one x, all_aside f one xs)

one_aside : (e : Event) → is_aside e ≡ true → (k : ℕ) → Leaves (e ∷ []) k k
one_aside (Sq count) h k = absurd (cc)
one_aside (Ren serial pc) h k = absurd (cc)
one_aside (Fet pc) h k = absurd (cc)
one_aside _ h k = record { left = refl; fetched = λ n. refl }

-- behind such events the queue is told to be as it was
pub aside_leaves : (es : List Event) (k : ℕ) → Aside es → Leaves es k k
aside_leaves [] k h = record { left = refl; fetched = λ n. refl }
aside_leaves (e ∷ es) k h = leaves_then (e ∷ []) es k k k (one_aside e h.0 k) (aside_leaves es k h.1)

-- ---- A whole cycle

-- the events of a cycle tell that of m items there come to be n
abbrev pub Comes : List Event → ℕ → ℕ → Type 0
Comes events m n = left_of events m + fetched_of events 0 ≡ n

-- events by which items are left, and then those by which so many come to be
pub comes_then : (es fs : List Event) (l m n : ℕ) → Leaves es l m → Comes fs m n → Comes (es ++ fs) l n
comes_then es fs l m n p q =
    ap₂ (λ a b. a + b) (left_both es fs l ∙ ap (left_of fs) p.left) (fetched_both es fs 0 ∙ ap (fetched_of fs) (p.fetched 0)) ∙ q
