-- The writers of an entry's sources, looked for from the youngest older entry on.
use Rattle.std.proofs.Common.{◌≡◌, ℕ, zero, suc, ◌+◌, ◌-◌, ◌<◌, ◌≤◌, Bool, true, false, ◌&&◌, List, [], ◌∷◌, length, Option, Some, None, slice_get, refl, ap, subst, sym, ◌∙◌, arith}
use Rattle.std.specs.Prelude.{if◌then◌else◌}
use Rattle.std.specs.List.{cons_option, list_all}
use Rattle.std.specs.Option.{option_map}
use Rattle.std.proofs.lemmas.Option.{get_or_from_slice_get, slice_get_within}
use Rattle.rv_types.specs.Regs.{two}
use Rattle.window_model.specs.declared.Entry.{Entry}
use Rattle.window_model.specs.Along.{Behind, Fact}
use Rattle.window_model.specs.Order.{before_at, is_done, sources, writes}
use Rattle.window_model.specs.Ready.{all_known}
use Rattle.window_model.proofs.Before.{before_more}
use Rattle.window_model.proofs.Booleans.{some_of}
use Rattle.stations.specs.Stations.{ready_part}
use Rattle.stations.specs.declared.wants.Part.{Part}
use Rattle.stations.specs.declared.wants.Part.TheVariants as part
use Rattle.refinement.specs.Telling.{own_of}
use Rattle.slot_reasons.specs.Kept.{is_made}
use Rattle.kept_entry.specs.declared.seen.Seen.{Seen}
use Rattle.kept_entry.specs.State.{Stands, WaitsAt, window_of}
use Rattle.kept_entry.proofs.Letting.{all_made}

-- the entries older than position n are the one at n - 1 and those older than it
pub before_is : (window : List Entry) (n k : ℕ) (e : Entry) → n ≡ k + 1 → slice_get window k ≡ Some e → before_at window n ≡ e ∷ before_at window k
before_is window n k e q at =
    ap (before_at window) q ∙ before_more window k e (slice_get_within window k e at) ∙ ap (λ x. x ∷ before_at window k) (get_or_from_slice_get window k e e at)

module _ (window : List Entry) (i : ℕ) (e : Entry) (r : ℕ) (some : 0 < i) (at : slice_get window (i - 1) ≡ Some e) where
  one_back : is_made (before_at window i) r ≡ (if writes r e then is_done e.state else is_made (before_at window (i - 1)) r)
  one_back = ap (λ b. is_made b r) (before_is window i (i - 1) e (omega (arith, some)) at)

  -- the youngest older entry is the register's writer, where it writes the register
  pub writer_made : writes r e ≡ true → is_done e.state ≡ is_made (before_at window i) r
  writer_made w = sym (one_back ∙ ap (λ b. if b then is_done e.state else is_made (before_at window (i - 1)) r) w)

  -- else the register's writer is older
  pub older_made : writes r e ≡ false → is_made (before_at window (i - 1)) r ≡ is_made (before_at window i) r
  older_made w = sym (one_back ∙ ap (λ b. if b then is_done e.state else is_made (before_at window (i - 1)) r) w)

-- ---- the sources one by one

-- a source that its station awaits no more is made
pub part_made : (s : Seen) → Stands s → (k i : ℕ) (e : Entry) (p : Part) → WaitsAt s k i e → option_map (ready_part p) (slice_get s.stations.now.held k) ≡ Some true →
    true ≡ list_all (is_made (before_at (window_of s) i)) (own_of p (sources e))
part_made s t k i e p h q =
    let before = before_at (window_of s) i in
    let known : all_known s.desc.now before (own_of p (sources e)) ≡ true =
    some_of (all_known s.desc.now before (own_of p (sources e))) true
    (sym (t.parts p i e h.at h.waits) ∙ ap (λ n. option_map (ready_part p) (slice_get s.stations.now.held n)) h.station ∙ q) in
    sym (all_made s.desc.now before (own_of p (sources e)) known)

-- the first of an entry's sources is the base
pub first_own : (rs : List ℕ) (a b : Option ℕ) → a ∷ b ∷ [] ≡ two rs → own_of part.Address rs ≡ cons_option a []
first_own [] a b q = let n : None ≡ a = cc in ap (λ a. cons_option a []) n
first_own (x ∷ []) a b q = let n : Some x ≡ a = cc in ap (λ a. cons_option a []) n
first_own (x ∷ y ∷ rs) a b q = let n : Some x ≡ a = cc in ap (λ a. cons_option a []) n

-- the second is the other one
pub second_own : (rs : List ℕ) (a b : Option ℕ) → length rs ≤ 2 → a ∷ b ∷ [] ≡ two rs → own_of part.Data rs ≡ cons_option b []
second_own [] a b le q = let n : None ≡ b = cc in ap (λ a. cons_option a []) n
second_own (x ∷ []) a b le q = let n : None ≡ b = cc in ap (λ a. cons_option a []) n
second_own (x ∷ y ∷ []) a b le q = let n : Some y ≡ b = cc in ap (λ a. cons_option a []) n
second_own (x ∷ y ∷ z ∷ rs) a b le q = absurd (omega (arith, le))

-- what holds of the base and of the others holds of all
pub of_both : (p : ℕ → Bool) (rs : List ℕ) → (list_all p (own_of part.Address rs) && list_all p (own_of part.Data rs)) ≡ list_all p rs
of_both p [] = refl
of_both p (r ∷ rs) = by_first (p r)
  where
    by_first : (b : Bool) → ((b && true) && list_all p rs) ≡ (b && list_all p rs)
    by_first true = refl
    by_first false = refl

-- ---- all that are looked back on

-- a list has an element at each position below its length
pub some_at : {X : Type 0} (xs : List X) (k : ℕ) → k < length xs → (x : X) × (slice_get xs k ≡ Some x)
some_at [] k lt = absurd (omega (arith, lt))
some_at (x ∷ xs) zero lt = (x, refl)
some_at (x ∷ xs) (suc k) lt = some_at xs k (omega (arith, lt))

-- what holds of the entry at each position holds of all that are looked back on from one
pub behind_each : (P : Fact) (window : List Entry) → ((i : ℕ) (e : Entry) → slice_get window i ≡ Some e → P (before_at window i) e) → (i : ℕ) → i ≤ length window → Behind P (before_at window i)
behind_each P window h zero le = tt
behind_each P window h (suc i) le =
    let (e, at) = some_at window i (omega (arith, le)) in
    subst (Behind P) (sym (before_is window (suc i) i e (omega arith) at)) (h i e at, behind_each P window h i (omega (arith, le)))
