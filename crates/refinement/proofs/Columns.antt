-- A part is a column of footprints, and stays one as entries come, go on and leave: one law for each change of a list
-- of footprints, whatever the part.
use Rattle.std.proofs.Common.{Bool, List, None, Option, Some, [], ap, ap₂, arith, cond, drop, false, length, refl, slice_get, subst, suc, sym, take, true, zero, ℕ, ◌++◌, ◌<◌, ◌∙◌, ◌∷◌, ◌≡◌, ◌≢◌}
use Rattle.std.proofs.lemmas.Bool.Decides.{nat_tests}
use Rattle.std.proofs.lemmas.List.{append-nil, map-append}
use Rattle.std.proofs.lemmas.List.Elements.{All-cons, All-head, All-nil, All-tail}
use Rattle.std.specs.List.{All, AllByRecursion as Each, cons_option, filter, remove}
use Rattle.std.specs.Option.{option_map, option_to_list}
use Rattle.std.specs.Prelude.{if◌then◌else◌, map, slice_set, ◌==◌}
use Rattle.refinement.specs.Footprint.{Footprint, column}

-- the serials of footprints rise
abbrev pub Rises : List Footprint → Type 0
Rises [] = Unit {0}
Rises (k ∷ ks) = All (λ (d : Footprint). k.serial < d.serial) ks × Rises ks

-- what a footprint has in a field has the entry's serial
abbrev pub Numbered : {X : Type 0} → (X → ℕ) → (Footprint → Option X) → Footprint → Type 0
Numbered xn field k = option_map xn (field k) ≡ option_map (λ x. k.serial) (field k)

-- where each has an item, the items of the oldest are its oldest
module _ {T X : Type 0} (f : T → X) (g : Footprint → X) where
  -- the oldest items are those of the oldest footprints
  pub taken : (n : ℕ) (xs : List T) (ks : List Footprint) → map f xs ≡ column (λ k. Some (g k)) ks → map f (take n xs) ≡ column (λ k. Some (g k)) (take n ks)
  taken zero xs ks h = refl
  taken (suc n) [] [] h = refl
  taken (suc n) [] (k ∷ ks) h = absurd (cc)
  taken (suc n) (x ∷ xs) [] h = absurd (cc)
  taken (suc n) (x ∷ xs) (k ∷ ks) h = let head : f x ≡ g k = cc in let tail : map f xs ≡ column (λ k. Some (g k)) ks = cc in ap₂ (λ y ys. y ∷ ys) head (taken n xs ks tail)

  -- a part without its oldest item is the column without the oldest footprint
  pub dropped : (xs : List T) (k : Footprint) (ks : List Footprint) → map f xs ≡ column (λ k. Some (g k)) (k ∷ ks) → map f (drop 1 xs) ≡ column (λ k. Some (g k)) ks
  dropped [] k ks h = absurd (cc)
  dropped (x ∷ xs) k ks h = cc

  -- there are as many items as footprints
  pub as_many : (xs : List T) (ks : List Footprint) → map f xs ≡ column (λ k. Some (g k)) ks → length xs ≡ length ks
  as_many [] [] h = refl
  as_many [] (k ∷ ks) h = absurd (cc)
  as_many (x ∷ xs) [] h = absurd (cc)
  as_many (x ∷ xs) (k ∷ ks) h = let tail : map f xs ≡ column (λ k. Some (g k)) ks = cc in ap suc (as_many xs ks tail)

-- a part shows f of its items, and of footprints a field
module _ {T X : Type 0} (f : T → X) (field : Footprint → Option X) where
  cons_join : (o : Option X) (xs ys : List X) → cons_option o (xs ++ ys) ≡ cons_option o xs ++ ys
  cons_join None xs ys = refl
  cons_join (Some x) xs ys = refl

  -- a column of younger footprints behind older ones
  pub column_join : (a b : List Footprint) → column field (a ++ b) ≡ column field a ++ column field b
  column_join [] b = refl
  column_join (k ∷ a) b = ap (cons_option (field k)) (column_join a b) ∙ cons_join (field k) (column field a) (column field b)

  -- ---- one entry more

  -- the item of one entry more, if it has one
  pub pushed : (xs : List T) (o : Option T) (ks : List Footprint) (k : Footprint) → map f xs ≡ column field ks → option_map f o ≡ field k → map f (xs ++ option_to_list o) ≡ column field (ks ++ k ∷ [])
  pushed xs o ks k h q =
      map-append f xs (option_to_list o) ∙ ap₂ (λ a b. a ++ b) h (one o ∙ ap (λ o. cons_option o []) q) ∙ sym (column_join ks (k ∷ []))
    where
      one : (o : Option T) → map f (option_to_list o) ≡ cons_option (option_map f o) []
      one None = refl
      one (Some x) = refl

  -- one entry more, where it is held
  pub pushed_if : (b : Bool) (xs : List T) (x : T) (y : X) (ks : List Footprint) (k : Footprint) → map f xs ≡ column field ks → (b ≡ true → f x ≡ y) → field k ≡ (if b then Some y else None) →
      map f (if b then xs ++ x ∷ [] else xs) ≡ column field (ks ++ k ∷ [])
  pushed_if true xs x y ks k h q s = pushed xs (Some x) ks k h (ap Some (q refl) ∙ sym s)
  pushed_if false xs x y ks k h q s = ap (map f) (sym (append-nil xs)) ∙ pushed xs None ks k h (sym s)

  -- ---- all entries change

  mapped : (w : X → X) (o : Option X) (xs : List X) → map w (cons_option o xs) ≡ cons_option (option_map w o) (map w xs)
  mapped w None xs = refl
  mapped w (Some x) xs = refl

  -- a column of footprints that change
  pub column_mapped : (w : X → X) (v : Footprint → Footprint) → ((k : Footprint) → field (v k) ≡ option_map w (field k)) → (ks : List Footprint) → map w (column field ks) ≡ column field (map v ks)
  column_mapped w v b [] = refl
  column_mapped w v b (k ∷ ks) = mapped w (field k) (column field ks) ∙ ap₂ cons_option (sym (b k)) (column_mapped w v b ks)

  -- all entries and all items change alike
  pub viewed : (f2 : T → X) (w : X → X) (v : Footprint → Footprint) → ((x : T) → f2 x ≡ w (f x)) → ((k : Footprint) → field (v k) ≡ option_map w (field k)) → (xs : List T) (ks : List Footprint) →
      map f xs ≡ column field ks → map f2 xs ≡ column field (map v ks)
  viewed f2 w v a b xs ks h = items xs ∙ ap (map w) h ∙ column_mapped w v b ks
    where
      items : (xs : List T) → map f2 xs ≡ map w (map f xs)
      items [] = refl
      items (x ∷ xs) = ap₂ (λ y ys. y ∷ ys) (a x) (items xs)

  -- all entries change, but not in this field
  pub frame_all : (v : Footprint → Footprint) → ((k : Footprint) → field (v k) ≡ field k) → (ks : List Footprint) → column field ks ≡ column field (map v ks)
  frame_all v b [] = refl
  frame_all v b (k ∷ ks) = ap₂ cons_option (sym (b k)) (frame_all v b ks)

  -- ---- one entry changes

  -- one entry changes, but not in this field
  pub frame_at : (ks : List Footprint) (i : ℕ) (k k2 : Footprint) → slice_get ks i ≡ Some k → field k2 ≡ field k → column field ks ≡ column field (slice_set ks i k2)
  frame_at [] i k k2 h q = absurd (cc)
  frame_at (x ∷ ks) zero k k2 h q = let a : x ≡ k = cc in ap (λ o. cons_option o (column field ks)) (ap field a ∙ sym q)
  frame_at (x ∷ ks) (suc i) k k2 h q = ap (cons_option (field x)) (frame_at ks i k k2 h q)

  -- where among the items a position's is
  abbrev pub place : ℕ → List Footprint → ℕ
  place i ks = length (column field (take i ks))

  -- an entry's item is found at its place
  pub column_at : (ks : List Footprint) (i : ℕ) (k : Footprint) (x : X) → slice_get ks i ≡ Some k → field k ≡ Some x → slice_get (column field ks) (place i ks) ≡ Some x
  column_at [] i k x h q = absurd (cc)
  column_at (y ∷ ks) zero k x h q = let a : y ≡ k = cc in ap (λ o. slice_get (cons_option o (column field ks)) 0) (ap field a ∙ q)
  column_at (y ∷ ks) (suc i) k x h q = past (field y) (column_at ks i k x h q)
    where
      past : (o : Option X) → slice_get (column field ks) (place i ks) ≡ Some x → slice_get (cons_option o (column field ks)) (length (cons_option o (column field (take i ks)))) ≡ Some x
      past None r = r
      past (Some z) r = r

  -- an entry is held no more
  pub column_removed : (ks : List Footprint) (i : ℕ) (k k2 : Footprint) (x : X) → slice_get ks i ≡ Some k → field k ≡ Some x → field k2 ≡ None → remove (column field ks) (place i ks) ≡ column field (slice_set ks i k2)
  column_removed [] i k k2 x h q n = absurd (cc)
  column_removed (y ∷ ks) zero k k2 x h q n =
      let a : y ≡ k = cc in
      ap (λ o. remove (cons_option o (column field ks)) 0) (ap field a ∙ q) ∙ ap (λ o. cons_option o (column field ks)) (sym n)
  column_removed (y ∷ ks) (suc i) k k2 x h q n = past (field y) (column_removed ks i k k2 x h q n)
    where
      past : (o : Option X) → remove (column field ks) (place i ks) ≡ column field (slice_set ks i k2) →
          remove (cons_option o (column field ks)) (length (cons_option o (column field (take i ks)))) ≡ cons_option o (column field (slice_set ks i k2))
      past None r = r
      past (Some z) r = ap (λ xs. z ∷ xs) r

  -- another item is held of an entry
  pub column_set : (ks : List Footprint) (i : ℕ) (k k2 : Footprint) (x x2 : X) → slice_get ks i ≡ Some k → field k ≡ Some x → field k2 ≡ Some x2 →
      slice_set (column field ks) (place i ks) x2 ≡ column field (slice_set ks i k2)
  column_set [] i k k2 x x2 h q n = absurd (cc)
  column_set (y ∷ ks) zero k k2 x x2 h q n =
      let a : y ≡ k = cc in
      ap (λ o. slice_set (cons_option o (column field ks)) 0 x2) (ap field a ∙ q) ∙ ap (λ o. cons_option o (column field ks)) (sym n)
  column_set (y ∷ ks) (suc i) k k2 x x2 h q n = past (field y) (column_set ks i k k2 x x2 h q n)
    where
      past : (o : Option X) → slice_set (column field ks) (place i ks) x2 ≡ column field (slice_set ks i k2) →
          slice_set (cons_option o (column field ks)) (length (cons_option o (column field (take i ks)))) x2 ≡ cons_option o (column field (slice_set ks i k2))
      past None r = r
      past (Some z) r = ap (λ xs. z ∷ xs) r

  -- ---- by serials

  module _ (tn : T → ℕ) (xn : X → ℕ) (of_item : (x : T) → xn (f x) ≡ tn x) where
    some_same : (x : X) (n : ℕ) → Some (xn x) ≡ Some n → xn x ≡ n
    some_same x n h = cc

    item_kept : (b c : Bool) (x : T) (F : List T) (G : List X) → b ≡ c → map f F ≡ G → map f (cond b (x ∷ F) F) ≡ cond c (f x ∷ G) G
    item_kept true true x F G e h = ap (λ g. f x ∷ g) h
    item_kept false false x F G e h = h
    item_kept true false x F G e h = absurd (cc)
    item_kept false true x F G e h = absurd (cc)

    items_kept : (p : ℕ → Bool) (xs : List T) → map f (filter (λ x. p (tn x)) xs) ≡ filter (λ x. p (xn x)) (map f xs)
    items_kept p [] = refl
    items_kept p (x ∷ xs) = item_kept (p (tn x)) (p (xn (f x))) x _ _ (ap p (sym (of_item x))) (items_kept p xs)

    entries_kept : (p : ℕ → Bool) (ks : List Footprint) → Each (Numbered xn field) ks → filter (λ x. p (xn x)) (column field ks) ≡ column field (filter (λ k. p k.serial) ks)
    entries_kept p [] e = refl
    entries_kept p (k ∷ ks) e = by_field (field k) e.0 (entries_kept p ks e.1) ∙ by_test (p k.serial)
      where
        by_field : (o : Option X) → option_map xn o ≡ option_map (λ x. k.serial) o → filter (λ x. p (xn x)) (column field ks) ≡ column field (filter (λ k. p k.serial) ks) →
            filter (λ x. p (xn x)) (cons_option o (column field ks)) ≡ cond (p k.serial) (cons_option o (column field (filter (λ k. p k.serial) ks))) (column field (filter (λ k. p k.serial) ks))
        by_field None n r = r ∙ same (p k.serial) (column field (filter (λ k. p k.serial) ks))
          where
            same : (b : Bool) (xs : List X) → xs ≡ cond b xs xs
            same true xs = refl
            same false xs = refl
        by_field (Some x) n r = ap₂ (λ b xs. cond b (x ∷ xs) xs) (ap p (some_same x k.serial n)) r

        by_test : (b : Bool) → cond b (cons_option (field k) (column field (filter (λ k. p k.serial) ks))) (column field (filter (λ k. p k.serial) ks)) ≡ column field (cond b (k ∷ filter (λ k. p k.serial) ks) (filter (λ k. p k.serial) ks))
        by_test true = refl
        by_test false = refl

    -- the items and entries whose serials pass a test are held on
    pub filtered : (p : ℕ → Bool) (xs : List T) (ks : List Footprint) → Each (Numbered xn field) ks → map f xs ≡ column field ks → map f (filter (λ x. p (tn x)) xs) ≡ column field (filter (λ k. p k.serial) ks)
    filtered p xs ks e h = items_kept p xs ∙ ap (filter (λ x. p (xn x))) h ∙ entries_kept p ks e

    -- a fact of serials that all have
    pub column_have : (P : ℕ → Type 0) (ks : List Footprint) → Each (Numbered xn field) ks → All (λ (k : Footprint). P k.serial) ks → All (λ x. P (xn x)) (column field ks)
    column_have P [] e a = All-nil (λ x. P (xn x))
    column_have P (k ∷ ks) e a = by_field (field k) e.0 (column_have P ks e.1 (All-tail (λ (k : Footprint). P k.serial) k ks a))
      where
        by_field : (o : Option X) → option_map xn o ≡ option_map (λ x. k.serial) o → All (λ x. P (xn x)) (column field ks) → All (λ x. P (xn x)) (cons_option o (column field ks))
        by_field None n r = r
        by_field (Some x) n r = All-cons (λ x. P (xn x)) x (column field ks) (subst P (sym (some_same x k.serial n)) (All-head (λ (k : Footprint). P k.serial) k ks a)) r

    -- the items have a fact of serials that all entries have
    pub items_have : (P : ℕ → Type 0) (xs : List T) (ks : List Footprint) → Each (Numbered xn field) ks → All (λ (k : Footprint). P k.serial) ks → map f xs ≡ column field ks → All (λ x. P (tn x)) xs
    items_have P xs ks e a h = each xs (subst (All (λ y. P (xn y))) (sym h) (column_have P ks e a))
      where
        each : (xs : List T) → All (λ y. P (xn y)) (map f xs) → All (λ x. P (tn x)) xs
        each [] all = All-nil (λ x. P (tn x))
        each (x ∷ xs) all = All-cons (λ x. P (tn x)) x xs (subst P (of_item x) (All-head (λ y. P (xn y)) (f x) (map f xs) all)) (each xs (All-tail (λ y. P (xn y)) (f x) (map f xs) all))

    -- ---- one item is noted, at its serial

    -- an item changes where it has this serial
    abbrev pub noted_in : ℕ → (T → T) → T → T
    noted_in n v x = if tn x == n then v x else x

    others : (n : ℕ) (v : T → T) (xs : List T) → All (λ x. tn x ≢ n) xs → map f (map (noted_in n v) xs) ≡ map f xs
    others n v [] a = refl
    others n v (x ∷ xs) a =
        let ne = All-head (λ x. tn x ≢ n) x xs a in
        let no : (tn x == n) ≡ false = grind (arith, nat_tests) in
        ap₂ (λ b ys. f (if b then v x else x) ∷ ys) no (others n v xs (All-tail (λ x. tn x ≢ n) x xs a))

    -- the footprint of the entry at a position changes so, if anything is
    pub noted_at : (v : T → T) (xs : List T) (ks : List Footprint) (i n : ℕ) (k k2 : Footprint) → Each (Numbered xn field) ks → Rises ks → slice_get ks i ≡ Some k → n ≡ k.serial →
        ((o : Option T) → option_map f o ≡ field k → option_map (λ x. f (v x)) o ≡ field k2) → map f xs ≡ column field ks → map f (map (noted_in n v) xs) ≡ column field (slice_set ks i k2)
    noted_at v xs [] i n k k2 e r h m own s = absurd (cc)
    noted_at v xs (d ∷ ks) zero n k k2 e r h m own s =
        let a : d ≡ k = cc in
        let same : d.serial ≡ n = ap (λ (k : Footprint). k.serial) a ∙ sym m in
        let rest : All (λ (d : Footprint). d.serial ≢ n) ks = λ j c within. (let lt = r.0 j c within in omega (arith, lt, same)) in
        head (field d) (subst (λ n. option_map xn (field d) ≡ option_map (λ x. n) (field d)) same e.0) (λ o q. own o (q ∙ ap field a)) rest xs s
      where
        head : (o : Option X) → option_map xn o ≡ option_map (λ x. n) o → ((q : Option T) → option_map f q ≡ o → option_map (λ x. f (v x)) q ≡ field k2) → All (λ (d : Footprint). d.serial ≢ n) ks →
            (xs : List T) → map f xs ≡ cons_option o (column field ks) → map f (map (noted_in n v) xs) ≡ cons_option (field k2) (column field ks)
        head None num own rest xs s = others n v xs (items_have (λ m. m ≢ n) xs ks e.1 rest s) ∙ s ∙ ap (λ o. cons_option o (column field ks)) (own None refl)
        head (Some y) num own rest [] s = absurd (cc)
        head (Some y) num own rest (x ∷ xs) s =
            let is : f x ≡ y = cc in
            let tail : map f xs ≡ column field ks = cc in
            let here : tn x ≡ n = sym (of_item x) ∙ ap xn is ∙ some_same y n num in
            let yes : (tn x == n) ≡ true = grind (arith, nat_tests) in
            ap₂ (λ b ys. f (if b then v x else x) ∷ ys) yes (others n v xs (items_have (λ m. m ≢ n) xs ks e.1 rest tail) ∙ tail) ∙ ap (λ o. cons_option o (column field ks)) (own (Some x) (ap Some is))
    noted_at v xs (d ∷ ks) (suc i) n k k2 e r h m own s = by_field (field d) e.0 xs s (λ xs s. noted_at v xs ks i n k k2 e.1 r.1 h m own s)
      where
        older : d.serial ≢ n
        older = let lt = at ks i r.0 h in omega (arith, lt, m)
          where
            at : (ks : List Footprint) (i : ℕ) → All (λ (c : Footprint). d.serial < c.serial) ks → slice_get ks i ≡ Some k → d.serial < k.serial
            at [] i a h = absurd (cc)
            at (c ∷ ks) zero a h = let q : c ≡ k = cc in subst (λ (c : Footprint). d.serial < c.serial) q (All-head (λ (c : Footprint). d.serial < c.serial) c ks a)
            at (c ∷ ks) (suc i) a h = at ks i (All-tail (λ (c : Footprint). d.serial < c.serial) c ks a) h

        by_field : (o : Option X) → option_map xn o ≡ option_map (λ x. d.serial) o → (xs : List T) → map f xs ≡ cons_option o (column field ks) →
            ((xs : List T) → map f xs ≡ column field ks → map f (map (noted_in n v) xs) ≡ column field (slice_set ks i k2)) → map f (map (noted_in n v) xs) ≡ cons_option o (column field (slice_set ks i k2))
        by_field None num xs s more = more xs s
        by_field (Some z) num [] s more = absurd (cc)
        by_field (Some z) num (x ∷ xs) s more =
            let is : f x ≡ z = cc in
            let tail : map f xs ≡ column field ks = cc in
            let here : tn x ≡ d.serial = sym (of_item x) ∙ ap xn is ∙ some_same z d.serial num in
            let ne = subst (λ m. m ≢ n) (sym here) older in
            let no : (tn x == n) ≡ false = grind (arith, nat_tests) in
            ap₂ (λ b ys. f (if b then v x else x) ∷ ys) no (more xs tail) ∙ ap (λ y. y ∷ column field (slice_set ks i k2)) is

    -- what is held of the entry at a position is noted at its serial
    pub noted : (v : T → T) (xs : List T) (ks : List Footprint) (i n : ℕ) (k k2 : Footprint) (y : X) → Each (Numbered xn field) ks → Rises ks → slice_get ks i ≡ Some k → n ≡ k.serial → field k ≡ Some y →
        ((x : T) → f x ≡ y → Some (f (v x)) ≡ field k2) → map f xs ≡ column field ks → map f (map (noted_in n v) xs) ≡ column field (slice_set ks i k2)
    noted v xs ks i n k k2 y e r h m q own s = noted_at v xs ks i n k k2 e r h m by_item s
      where
        by_item : (o : Option T) → option_map f o ≡ field k → option_map (λ x. f (v x)) o ≡ field k2
        by_item None p = absurd (cc)
        by_item (Some x) p = let is : f x ≡ y = cc in own x is
