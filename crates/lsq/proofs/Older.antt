-- The stores older than a serial.
use Rattle.std.proofs.Common.{◌≡◌, ℕ, ◌+◌, ◌<◌, Bool, true, false, cond, not, ◌||◌, ◌&&◌, List, [], ◌∷◌, length, get_or, Option, Some, None, is_some, refl, ap, sym, ◌∙◌, arith}
use Rattle.std.specs.Prelude.{◌==◌, nat_lt, nat_le, reverse, slice_get}
use Rattle.std.specs.List.{filter, find, list_all, list_any, position_from, position_or_len}
use Rattle.std.specs.Option.{option_map}
use Rattle.std.proofs.lemmas.Bool.Decides.{nat_tests}
use Rattle.std.proofs.lemmas.List.{reverse-append}
use Rattle.std.proofs.lemmas.Iterator.Adapters.{position_from-zero}
use Rattle.std.proofs.lemmas.List.Folds.{find_at, list_any-append}
use Rattle.std.proofs.lemmas.Option.{slice_get-get_or}
use Rattle.window_model.proofs.Booleans.{some_of}
use Rattle.window_model.proofs.Before.{all_reverse}
use Rattle.lsq.specs.declared.store.Store.{Store}
use Rattle.lsq.specs.Clearing.{store_of}
use Rattle.lsq.specs.Pending.{keeps, lacks_address, lacks_data_for}
use Rattle.lsq.specs.Queues.{is_known, older}

all_if : (b young : Bool) (s : Store) (old : List Store) (r : Bool) → young ≡ not b → list_all is_known old ≡ r → list_all is_known (cond b (s ∷ old) old) ≡ ((young || is_known s) && r)
all_if true young s old r e h = ap (λ r. is_known s && r) h ∙ ap (λ young. (young || is_known s) && r) (sym e)
all_if false young s old r e h = h ∙ ap (λ young. (young || is_known s) && r) (sym e)

not_older : (a b : ℕ) → nat_le b a ≡ not (nat_lt a b)
not_older a b = grind (arith, nat_tests)

filtered : (serial : ℕ) (stores : List Store) → list_all is_known (filter (λ s. nat_lt s.serial serial) stores) ≡ list_all (λ s. nat_le serial s.serial || is_known s) stores
filtered serial [] = refl
filtered serial (s ∷ stores) = all_if (nat_lt s.serial serial) (nat_le serial s.serial) s (filter (λ s. nat_lt s.serial serial) stores) _ (not_older s.serial serial) (filtered serial stores)

-- the older stores are all known where each store of the queue is not older or is known
pub all_older : (serial : ℕ) (stores : List Store) → list_all is_known (older serial stores) ≡ list_all (λ s. nat_le serial s.serial || is_known s) stores
all_older serial stores = all_reverse is_known (filter (λ s. nat_lt s.serial serial) stores) ∙ filtered serial stores

-- ---- one of them

-- a test of one doesn't ask for their order
one_last : (p q : Bool) → (q || (p || false)) ≡ (p || q)
one_last true true = refl
one_last true false = refl
one_last false true = refl
one_last false false = refl

any_reverse : (p : Store → Bool) (stores : List Store) → list_any p (reverse stores) ≡ list_any p stores
any_reverse p [] = refl
any_reverse p (s ∷ stores) =
    ap (list_any p) (reverse-append (s ∷ []) stores) ∙ list_any-append p (reverse stores) (s ∷ [])
    ∙ one_last (p s) (list_any p (reverse stores)) ∙ ap (λ q. p s || q) (any_reverse p stores)

any_if : (p : Store → Bool) (b : Bool) (s : Store) (old : List Store) (r : Bool) → list_any p old ≡ r → list_any p (cond b (s ∷ old) old) ≡ (b && p s || r)
any_if p true s old r h = ap (λ r. p s || r) h
any_if p false s old r h = h

any_filtered : (p : Store → Bool) (serial : ℕ) (stores : List Store) → list_any p (filter (λ s. nat_lt s.serial serial) stores) ≡ list_any (λ s. nat_lt s.serial serial && p s) stores
any_filtered p serial [] = refl
any_filtered p serial (s ∷ stores) = any_if p (nat_lt s.serial serial) s (filter (λ s. nat_lt s.serial serial) stores) _ (any_filtered p serial stores)

any_older : (p : Store → Bool) (serial : ℕ) (stores : List Store) → list_any p (older serial stores) ≡ list_any (λ s. nat_lt s.serial serial && p s) stores
any_older p serial stores = any_reverse p (filter (λ s. nat_lt s.serial serial) stores) ∙ any_filtered p serial stores

-- of some older store it isn't known where it writes where some store of the queue is older and lacks its address
pub any_lacks_address : (serial : ℕ) (stores : List Store) → list_any lacks_address (older serial stores) ≡ list_any (λ s. nat_lt s.serial serial && lacks_address s) stores
any_lacks_address serial stores = any_older lacks_address serial stores

-- ---- the store that keeps a load

either_true : (b : Bool) → (b || true) ≡ true
either_true true = refl
either_true false = refl

some_if : (b r : Bool) (s : Store) (o : Option Store) → is_some o ≡ r → is_some (cond b (Some s) o) ≡ (b || r)
some_if true r s o h = refl
some_if false r s o h = h

some_found : (p : Store → Bool) (stores : List Store) → is_some (find p stores) ≡ list_any p stores
some_found p [] = refl
some_found p (s ∷ stores) = some_if (p s) (list_any p stores) s (find p stores) (some_found p stores)

-- some older store lacks data for bytes where some store of the queue keeps a load of them
any_keeps : (serial : ℕ) (bytes : List ℕ) (stores : List Store) → list_any (lacks_data_for bytes) (older serial stores) ≡ list_any (keeps serial bytes) stores
any_keeps serial bytes stores = any_older (lacks_data_for bytes) serial stores

-- the oldest that keeps a load is found where an older one lacks data for its bytes
keeper_is : (serial : ℕ) (bytes : List ℕ) (stores : List Store) (o : Option Store) → o ≡ find (keeps serial bytes) stores → is_some o ≡ list_any (lacks_data_for bytes) (older serial stores)
keeper_is serial bytes stores o h = ap is_some h ∙ some_found (keeps serial bytes) stores ∙ sym (any_keeps serial bytes stores)

-- the first that passes a test stands at the position that is found
first_at : (p : Store → Bool) (stores : List Store) (i : ℕ) → Some i ≡ position_from p 0 stores → (i < length stores) × (slice_get stores i ≡ find p stores)
first_at p stores i h = by (nat_lt first (length stores)) refl (position_from-zero p stores ∙ sym h)
  where
    first : ℕ
    first = position_or_len p stores

    by : (b : Bool) → nat_lt first (length stores) ≡ b → cond b (Some first) None ≡ Some i → (i < length stores) × (slice_get stores i ≡ find p stores)
    by true t k =
        let same : first ≡ i = some_of first i k in
        let within : first < length stores = grind (arith, nat_tests, t) in
        (omega (arith, same, within), ap (slice_get stores) (sym same) ∙ sym (find_at p stores))
    by false t k = absurd (cc)

none_if : (b : Bool) (n : ℕ) (s : Store) (i : Option ℕ) (o : Option Store) → None ≡ cond b (Some n) i → (None ≡ i → None ≡ o) → None ≡ cond b (Some s) o
none_if true n s i o h rest = absurd (cc)
none_if false n s i o h rest = rest h

-- none passes a test where no position is found
none_at : (p : Store → Bool) (stores : List Store) (n : ℕ) → None ≡ position_from p n stores → None ≡ find p stores
none_at p [] n h = refl
none_at p (s ∷ stores) n h = none_if (p s) n s _ _ h (none_at p stores (n + 1))

-- at the position that is found stands the oldest that keeps a load
module _ (serial : ℕ) (bytes : List ℕ) (stores : List Store) where
  pub keeper_within : (i : ℕ) → Some i ≡ position_from (keeps serial bytes) 0 stores → i < length stores
  keeper_within i h = (first_at (keeps serial bytes) stores i h).0

  here : (i : ℕ) (s : Store) → Some i ≡ position_from (keeps serial bytes) 0 stores → s ≡ get_or stores i s → Some s ≡ find (keeps serial bytes) stores
  here i s h is = ap (λ s. Some s) is ∙ sym (slice_get-get_or stores i s (keeper_within i h)) ∙ (first_at (keeps serial bytes) stores i h).1

  pub keeper_at : (i : ℕ) (s : Store) → Some i ≡ position_from (keeps serial bytes) 0 stores → s ≡ get_or stores i s → Some s.serial ≡ option_map (λ s. s.serial) (find (keeps serial bytes) stores)
  keeper_at i s h is = ap (option_map (λ (s : Store). s.serial)) (here i s h is)

  -- an older store lacks data for the load's bytes then
  pub awaited_at : (i : ℕ) (s : Store) → Some i ≡ position_from (keeps serial bytes) 0 stores → s ≡ get_or stores i s → true ≡ list_any (lacks_data_for bytes) (older serial stores)
  awaited_at i s h is = keeper_is serial bytes stores (Some s) (here i s h is)

  -- where no position is found none keeps the load
  pub keeper_none : None ≡ position_from (keeps serial bytes) 0 stores → None ≡ option_map (λ s. s.serial) (find (keeps serial bytes) stores)
  keeper_none h = ap (option_map (λ (s : Store). s.serial)) (none_at (keeps serial bytes) stores 0 h)

  -- where no position is found no older store lacks data for the load's bytes
  pub awaited_none : None ≡ position_from (keeps serial bytes) 0 stores → false ≡ list_any (lacks_data_for bytes) (older serial stores)
  awaited_none h = keeper_is serial bytes stores None (none_at (keeps serial bytes) stores 0 h)

-- a test that one passes that another test finds is passed by some
passed_if : (p q : Store → Bool) (b : Bool) (s x : Store) (stores : List Store) → (find q stores ≡ Some x → list_any p stores ≡ true) → cond b (Some s) (find q stores) ≡ Some x → p x ≡ true → (p s || list_any p stores) ≡ true
passed_if p q true s x stores rest h k = let same : s ≡ x = cc in ap (λ b. b || list_any p stores) (ap p same ∙ k)
passed_if p q false s x stores rest h k = ap (λ b. p s || b) (rest h) ∙ either_true (p s)

passed : (p q : Store → Bool) (x : Store) (stores : List Store) → find q stores ≡ Some x → p x ≡ true → list_any p stores ≡ true
passed p q x [] h k = absurd (cc)
passed p q x (s ∷ stores) h k = passed_if p q (q s) s x stores (λ h. passed p q x stores h k) h k

-- where a store that is found keeps a load, some older store lacks data for the load's bytes
pub lacks_where_kept : (serial store : ℕ) (bytes : List ℕ) (stores : List Store) (x : Store) → store_of store stores ≡ Some x → keeps serial bytes x ≡ true →
    list_any (lacks_data_for bytes) (older serial stores) ≡ true
lacks_where_kept serial store bytes stores x h k = any_keeps serial bytes stores ∙ passed (keeps serial bytes) (λ s. s.serial == store) x stores h k
