-- A run in two parts: what is seen of it, its last state, what is known then, and how far it came.
use Rattle.std.proofs.Common.{◌≡◌, ◌<◌, ◌≤◌, ℕ, zero, suc, ◌+◌, ◌-◌, List, [], ◌∷◌, ◌++◌, length, true, Option, Some, None, refl, ap, ap₂, sym, ◌∙◌, arith}
use Rattle.std.specs.Option.{is_some}
use Rattle.rv_types.specs.Memory.{Code}
use Rattle.rv_types.specs.declared.End.{End}
use Rattle.machine_desc.specs.declared.Desc.{Desc}
use Rattle.machine_facts.proofs.FewEvents.{cycle_number}
use Rattle.window_model.specs.State.{Machine}
use Rattle.window_model.specs.Row.{Row}
use Rattle.window_model.specs.Cycle.{Cycled, cycle, after_cycles}
use Rattle.core_cycle.proofs.Going.{goes_on, one_more, stops}
use Rattle.slot_reasons.specs.declared.Known.{Known}
use Rattle.slot_reasons.specs.Slots.{Charge, Seen, charge_of, known_after, known_at, seen}

module _ (d : Desc) (code : Code) where
  -- what is seen of the next cycle, and what is known after it
  abbrev first_seen : Machine → Known → Seen
  first_seen x p = let c = cycle d code x in record { row = c.row; charge = charge_of d p x c }

  abbrev known_next : Machine → Known → Known
  known_next x p = known_after d p x (cycle d code x)

  -- a run that has ended stays where it is, nothing is seen of it, and no more is known
  pub stays : (k : ℕ) (x : Machine) → is_some x.end ≡ true → after_cycles d code k x ≡ x
  stays zero x e = refl
  stays (suc k) x e = stops x.end x _ e

  pub none_seen : (k : ℕ) (x : Machine) (p : Known) → is_some x.end ≡ true → seen d code k x p ≡ []
  none_seen zero x p e = refl
  none_seen (suc k) x p e = stops x.end [] _ e

  pub known_stays : (k : ℕ) (x : Machine) (p : Known) → is_some x.end ≡ true → known_at d code k x p ≡ p
  known_stays zero x p e = refl
  known_stays (suc k) x p e = stops x.end p _ e

  -- what is seen of the first cycle, the state behind it, and what is known then
  seen_first : (n : ℕ) (x : Machine) (p : Known) → x.end ≡ None → seen d code (suc n) x p ≡ first_seen x p ∷ seen d code n (cycle d code x).machine (known_next x p)
  seen_first n x p e = goes_on x.end [] _ e

  state_first : (n : ℕ) (x : Machine) → x.end ≡ None → after_cycles d code (suc n) x ≡ after_cycles d code n (cycle d code x).machine
  state_first n x e = goes_on x.end x _ e

  known_first : (n : ℕ) (x : Machine) (p : Known) → x.end ≡ None → known_at d code (suc n) x p ≡ known_at d code n (cycle d code x).machine (known_next x p)
  known_first n x p e = goes_on x.end p _ e

  -- one more of n cycles goes, of which i are done
  module _ (n i : ℕ) (y y' : Machine) (row : Row) (piece : List ℕ) (q q' : Known) (charge : Charge) (h : i < n) (e : y.end ≡ None) (c : record { machine = y'; row = row; piece = piece } ≡ cycle d code y)
      (k : charge ≡ charge_of d q y (cycle d code y)) (o : q' ≡ known_after d q y (cycle d code y)) where
    row_is : row ≡ (cycle d code y).row
    row_is = ap (λ (r : Cycled). r.row) c

    state_is : y' ≡ (cycle d code y).machine
    state_is = ap (λ (r : Cycled). r.machine) c

    pub seen_goes : seen d code (n - i) y q ≡ record { row = row; charge = charge } ∷ seen d code (n - (i + 1)) y' q'
    seen_goes =
        ap (λ j. seen d code j y q) (one_more n i h)
        ∙ seen_first (n - (i + 1)) y q e
        ∙ sym (ap₂ (λ s r. s ∷ r) (ap₂ (λ (r : Row) (b : Charge). record { row = r; charge = b }) row_is k) (ap₂ (seen d code (n - (i + 1))) state_is o))

    pub known_goes : known_at d code (n - i) y q ≡ known_at d code (n - (i + 1)) y' q'
    known_goes =
        ap (λ j. known_at d code j y q) (one_more n i h) ∙ known_first (n - (i + 1)) y q e ∙ sym (ap₂ (known_at d code (n - (i + 1))) state_is o)

  -- ---- A run of a + b cycles is one of a, and then one of b

  pub record Splits (a b : ℕ) (x : Machine) (p : Known) : Type 0 where
    pub seen_are : seen d code (a + b) x p ≡ seen d code a x p ++ seen d code b (after_cycles d code a x) (known_at d code a x p)
    pub state : after_cycles d code (a + b) x ≡ after_cycles d code b (after_cycles d code a x)

  split_next : (a b : ℕ) (x : Machine) (p : Known) (o : Option End) → x.end ≡ o → ((y : Machine) (q : Known) → Splits a b y q) → Splits (suc a) b x p
  split_next a b x p None e ih =
      let z = (cycle d code x).machine in
      let q = known_next x p in
      let one = first_seen x p in
      let n : suc a + b ≡ suc (a + b) = omega arith in
      record {
        seen_are =
            ap (λ k. seen d code k x p) n
            ∙ seen_first (a + b) x p e
            ∙ ap (λ r. one ∷ r) (ih z q).seen_are
            ∙ sym (ap₂ (λ r (s : Machine × Known). r ++ seen d code b s.0 s.1) (seen_first a x p e) (ap₂ (λ (s : Machine) (t : Known). (s, t)) (state_first a x e) (known_first a x p e)));
        state = ap (λ k. after_cycles d code k x) n ∙ state_first (a + b) x e ∙ (ih z q).state ∙ sym (ap (after_cycles d code b) (state_first a x e));
      }
  split_next a b x p (Some k) e ih =
      let ended : is_some x.end ≡ true = ap is_some e in
      let last : after_cycles d code (suc a) x ≡ x = stays (suc a) x ended in
      let known : known_at d code (suc a) x p ≡ p = known_stays (suc a) x p ended in
      record {
        seen_are = none_seen (suc a + b) x p ended ∙ sym (ap₂ (λ r s. r ++ s) (none_seen (suc a) x p ended) (ap₂ (seen d code b) last known ∙ none_seen b x p ended));
        state = stays (suc a + b) x ended ∙ sym (ap (after_cycles d code b) last ∙ stays b x ended);
      }

  pub splits : (a b : ℕ) (x : Machine) (p : Known) → Splits a b x p
  splits zero b x p = let e : 0 + b ≡ b = omega arith in record { seen_are = ap (λ n. seen d code n x p) e; state = ap (λ n. after_cycles d code n x) e }
  splits (suc a) b x p = split_next a b x p x.end refl (λ y q. splits a b y q)

  -- ---- How far a run of n cycles came

  pub record Came (n : ℕ) (x : Machine) (p : Known) : Type 0 where
    pub clock : (after_cycles d code n x).cycle ≡ x.cycle + length (seen d code n x p)
    pub few : length (seen d code n x p) ≤ n
    pub short : length (seen d code n x p) < n → is_some (after_cycles d code n x).end ≡ true

  came_next : (n : ℕ) (x : Machine) (p : Known) (o : Option End) → x.end ≡ o → ((y : Machine) (q : Known) → Came n y q) → Came (suc n) x p
  came_next n x p None e ih =
      let z = (cycle d code x).machine in
      let q = known_next x p in
      let i = ih z q in
      let one : z.cycle ≡ x.cycle + 1 = cycle_number d code x in
      let long : length (seen d code (suc n) x p) ≡ suc (length (seen d code n z q)) = ap length (seen_first n x p e) in
      let state = state_first n x e in
      let now : (after_cycles d code (suc n) x).cycle ≡ (after_cycles d code n z).cycle = ap (λ (y : Machine). y.cycle) state in
      let clock : (after_cycles d code n z).cycle ≡ z.cycle + length (seen d code n z q) = i.clock in
      let few : length (seen d code n z q) ≤ n = i.few in
      record {
        clock = omega (arith, one, long, now, clock);
        few = omega (arith, long, few);
        short = λ h. ap (λ (y : Machine). is_some y.end) state ∙ i.short (omega (arith, h, long));
      }
  came_next n x p (Some k) e ih =
      let ended : is_some x.end ≡ true = ap is_some e in
      let state : after_cycles d code (suc n) x ≡ x = stays (suc n) x ended in
      let now : (after_cycles d code (suc n) x).cycle ≡ x.cycle = ap (λ (y : Machine). y.cycle) state in
      let long : length (seen d code (suc n) x p) ≡ 0 = ap length (none_seen (suc n) x p ended) in
      record {
        clock = omega (arith, now, long);
        few = omega (arith, long);
        short = λ h. ap (λ (y : Machine). is_some y.end) state ∙ ended;
      }

  pub came : (n : ℕ) (x : Machine) (p : Known) → Came n x p
  came zero x p = record {
    clock = let z : x.cycle ≡ x.cycle + 0 = omega arith in z;
    few = omega arith;
    short = λ h. absurd (omega (arith, h));
  }
  came (suc n) x p = came_next n x p x.end refl (λ y q. came n y q)
