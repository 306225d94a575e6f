-- What the definition leaves of a machine once an entry is resolved, by how its prediction turned out.
use Rattle.std.proofs.Common.{◌≡◌, ℕ, ◌+◌, ◌-◌, Bool, true, false, not, ◌||◌, [], ◌∷◌, ◌++◌, length, Option, Some, None, refl, ap, sym, ◌∙◌, subst, arith, slice_get}
use Rattle.std.specs.Prelude.{if◌then◌else◌, reverse, slice_set}
use Rattle.std.proofs.lemmas.List.{append-nil, length-append}
use Rattle.machine_desc.specs.declared.Desc.{Desc}
use Rattle.window_model.specs.declared.Entry.{Entry}
use Rattle.window_model.specs.declared.Event.TheVariants as event
use Rattle.window_model.specs.Order.{Place, is_faulty}
use Rattle.window_model.specs.Resolve.{is_next, keep, learn, next_of, resolve, resolve_at, squash, squashes, true_checkpoint, with_predictor}
use Rattle.window_model.specs.State.{Machine, After}
use Rattle.rob_ring.specs.Issued.{as_resolved}
use Rattle.rob_ring.specs.Ring.{below}
use Rattle.window_model.specs.Serials.{Rise}
use Rattle.window_model.proofs.Serials.{below_next as up_to, rise_with}
use Rattle.branch_resolve.specs.Effect.{resolution_of}
use Rattle.branch_resolve.specs.declared.effect.Resolution.TheVariants.{Right, Wrong, Fault}
use Rattle.core_parts.specs.Dropped.{count_from, cut_from}
use Rattle.resolve.specs.Taken.{resolving, true_next}
use Rattle.resolve.proofs.Picked.{Taken, taken, replaced}

-- ---- how the prediction turned out

right_by : (f n : Bool) (next : ℕ) → (if f then Fault else if n then Right else Wrong next) ≡ Right → (f || not n) ≡ false
right_by true n next h = absurd (cc)
right_by false true next h = refl
right_by false false next h = absurd (cc)

-- an entry that was rightly predicted squashes nothing
pub right_keeps : (e : Entry) → resolution_of e ≡ Right → squashes e ≡ false
right_keeps e h = right_by (is_faulty e) (is_next e.item.predicted (next_of e.outcome)) (next_of e.outcome) h

wrong_by : (f n : Bool) (next : ℕ) → ((if f then Fault else if n then Right else Wrong next) ≡ Right → ⊥) →
    ((f || not n) ≡ true) × (true_next (if f then Fault else if n then Right else Wrong next) ≡ (if f then None else Some next))
wrong_by true n next h = (refl, refl)
wrong_by false true next h = absurd (h refl)
wrong_by false false next h = (refl, refl)

-- an entry that was not rightly predicted squashes, and fetching goes on at its next address, or nowhere after a fault
pub wrong_squashes : (e : Entry) → (resolution_of e ≡ Right → ⊥) → (squashes e ≡ true) × (true_next (resolution_of e) ≡ (if is_faulty e then None else Some (next_of e.outcome)))
wrong_squashes e h = wrong_by (is_faulty e) (is_next e.item.predicted (next_of e.outcome)) (next_of e.outcome) h

-- ---- what the definition leaves

by_place : (d : Desc) (x : Machine) (o : Option Place) (p : Place) (b : Bool) → o ≡ Some p → squashes p.entry ≡ b →
    let learnt = learn d p.entry x.counters x.targets in
    let y = with_predictor x learnt.counters learnt.targets in
    let after = (if b then squash d p y else keep p y) in
    resolve_at d o x ≡ record { machine = after.machine; events = learnt.events ++ after.events }
by_place d x o p b h q =
    let learnt = learn d p.entry x.counters x.targets in
    let y = with_predictor x learnt.counters learnt.targets in
    ap (λ o. resolve_at d o x) h
    ∙ ap (λ b. let after = (if b then squash d p y else keep p y) in record { machine = after.machine; events = learnt.events ++ after.events }) q

-- the machine once the entry at position i is resolved and has taught the predictor
abbrev pub marked : Desc → ℕ → Entry → Machine → Machine
marked d i e x = record x { window = slice_set x.window i (as_resolved e); counters = (learn d e x.counters x.targets).counters; targets = (learn d e x.counters x.targets).targets }

-- the machine once the entry at position i is resolved and has taught the predictor, with history and stack as they are
-- behind it
abbrev pub recalled : Desc → ℕ → Entry → Machine → Machine
recalled d i e x = record (marked d i e x) { checkpoint = true_checkpoint d e }

module _ (d : Desc) (x : Machine) (i : ℕ) (e : Entry) (picked : Some i ≡ resolving d x.window) (here : slice_get x.window i ≡ Some e) where
  it : Taken d x.window i e
  it = taken d x.window i e picked here

  place : Place
  place = record { before = it.before; entry = e; younger = it.younger }

  window_is : slice_set x.window i (as_resolved e) ≡ reverse it.before ++ as_resolved e ∷ it.younger
  window_is = replaced d x.window i e (as_resolved e) it

  -- ---- the entry was rightly predicted

  pub right_is : resolution_of e ≡ Right → resolve d x ≡ record { machine = marked d i e x; events = (learn d e x.counters x.targets).events }
  unfolding place
  right_is r =
      by_place d x _ place false it.is (right_keeps e r)
      ∙ ap (λ es. record { machine = (keep place (with_predictor x (learn d e x.counters x.targets).counters (learn d e x.counters x.targets).targets)).machine; events = es }) (append-nil (learn d e x.counters x.targets).events)
      ∙ ap (λ w. record { machine = record (marked d i e x) { window = w }; events = (learn d e x.counters x.targets).events }) (sym window_is)

  -- ---- the entry was not rightly predicted

  module _ (wrong : resolution_of e ≡ Right → ⊥) (rises : Rise x.window) where
    below_is : below (e.serial + 1) (slice_set x.window i (as_resolved e)) ≡ reverse it.before ++ as_resolved e ∷ []
    below_is =
        ap (below (e.serial + 1)) window_is
        ∙ up_to (reverse it.before) (as_resolved e) it.younger (rise_with (reverse it.before) it.younger e (as_resolved e) refl (subst Rise it.whole rises))

    gone : length (slice_set x.window i (as_resolved e)) - length (below (e.serial + 1) (slice_set x.window i (as_resolved e))) ≡ length it.younger
    gone =
        let a = ap length window_is in
        let b = ap length below_is in
        let c = length-append (reverse it.before) (as_resolved e ∷ it.younger) in
        let c2 = length-append (reverse it.before) (as_resolved e ∷ []) in
        omega (arith, a, b, c, c2)

    pub wrong_is : resolve d x
        ≡ record {
          machine = cut_from (e.serial + 1) (true_next (resolution_of e)) (recalled d i e x);
          events = (learn d e x.counters x.targets).events ++ event.Sq (count_from (e.serial + 1) (recalled d i e x)) ∷ [];
        }
    unfolding place
    wrong_is =
        let s = wrong_squashes e wrong in
        let end : Machine → ℕ → After = λ y n. record { machine = y; events = (learn d e x.counters x.targets).events ++ event.Sq (n + length x.queue) ∷ [] } in
        by_place d x _ place true it.is s.0
        ∙ ap (λ n. end (squash d place (with_predictor x (learn d e x.counters x.targets).counters (learn d e x.counters x.targets).targets)).machine n) (sym gone)
        ∙ ap (λ w. end (record (cut_from (e.serial + 1) (if is_faulty e then None else Some (next_of e.outcome)) (recalled d i e x)) { window = w }) (length (slice_set x.window i (as_resolved e)) - length (below (e.serial + 1) (slice_set x.window i (as_resolved e))))) (sym below_is)
        ∙ ap (λ next. end (cut_from (e.serial + 1) next (recalled d i e x)) (length (slice_set x.window i (as_resolved e)) - length (below (e.serial + 1) (slice_set x.window i (as_resolved e))))) (sym s.1)
