-- A run until something shows, cycle by cycle.
use Rattle.std.proofs.Common.{◌≡◌, ℕ, zero, suc, ◌+◌, ◌-◌, ◌*◌, ◌<◌, ◌≤◌, Bool, true, List, [], ◌++◌, length, Option, Some, None, refl, ap, ap₂, sym, ◌∙◌, arith}
use Rattle.std.specs.Prelude.{is_some, if◌then◌else◌}
use Rattle.std.proofs.lemmas.List.{length-append}
use Rattle.rv_types.specs.Isa.{Hart, reg}
use Rattle.rv_types.specs.declared.End.{End}
use Rattle.elf_loader.specs.inner.Code.{CodeText, word_at}
use Rattle.window_model.specs.Retire.{hart_of, unless_ended}
use Rattle.secret_marks.specs.declared.PublicStreams.{PublicStreams}
use Rattle.secret_marks.specs.Streams.{public_in}
use Rattle.rv_types.specs.Memory.{Code}
use Rattle.machine_desc.specs.declared.Desc.{Desc}
use Rattle.machine_facts.proofs.FewEvents.{cycle_number}
use Rattle.window_model.specs.State.{Machine}
use Rattle.window_model.specs.Cycle.{after_cycles, cycle}
use Rattle.core_cycle.proofs.Going.{goes_on, one_more}
use Rattle.secret_marks.specs.declared.FirstShown.{FirstShown}
use Rattle.secret_marks.specs.declared.Shown.{Shown}
use Rattle.secret_marks.specs.Marks.{Marks}
use Rattle.secret_marks.specs.Published.{Public, public_piece, published_by}
use Rattle.secret_marks.specs.Shown.{first_shown, in_cycle, shown_cycle}
use Rattle.secret_marks.specs.Watch.{watch_cycle}
use Rattle.secret_marks.proofs.Cycle.{watched_machine}

-- the run stands after i of n cycles from a machine with marks, in which nothing has shown: the other cycles show and
-- leave what all n do
pub record Looks (public : Public) (d : Desc) (code : Code) (n i : ℕ) (x : Machine) (m : Marks) (y : Machine) (k : Marks) : Type 0 where
  pub shown : first_shown public d code (n - i) y k ≡ first_shown public d code n x m
  pub last : after_cycles d code (n - i) y ≡ after_cycles d code n x
  pub count : y.cycle ≡ x.cycle + i

module _ (public : Public) (d : Desc) (code : Code) (n i : ℕ) (x : Machine) (m : Marks) (y : Machine) (k : Marks) (l : Looks public d code n i x m y k) where
  -- what shows in the next of the cycles
  module _ (h : i < n) (running : y.end ≡ None) (t : Option Shown) (is : t ≡ shown_cycle public d y k) where
    abbrev later : Option FirstShown
    later = let w = watch_cycle public d code y k in first_shown public d code (n - (i + 1)) w.machine w.marks

    steps : in_cycle (y.cycle + 1) t later ≡ first_shown public d code n x m
    steps =
        ap (λ t. in_cycle (y.cycle + 1) t later) is
        ∙ sym (ap (λ n. first_shown public d code n y k) (one_more n i h) ∙ goes_on y.end None (in_cycle (y.cycle + 1) (shown_cycle public d y k) later) running)
        ∙ l.shown

    -- what shows in a cycle with this number
    abbrev pub found : Shown → ℕ → Option FirstShown
    found s number = Some (record { cycle = number; shown = s })

    pub looks_found : (s : Shown) (number : ℕ) → t ≡ Some s → number ≡ y.cycle + 1 → found s number ≡ first_shown public d code n x m
    looks_found s number e q =
        ap (found s) q ∙ sym (ap (λ t. in_cycle (y.cycle + 1) t later) e) ∙ steps

    pub looks_next : (y2 : Machine) (k2 : Marks) → t ≡ None → y2 ≡ (cycle d code y).machine → k2 ≡ (watch_cycle public d code y k).marks → Looks public d code n (i + 1) x m y2 k2
    looks_next y2 k2 e ey ek =
        let count = l.count in
        let number = ap (λ (z : Machine). z.cycle) ey ∙ cycle_number d code y in
        record {
          shown = ap₂ (first_shown public d code (n - (i + 1))) (ey ∙ sym (watched_machine d code public y k)) ek ∙ sym (ap (λ t. in_cycle (y.cycle + 1) t later) e) ∙ steps;
          last =
              ap (after_cycles d code (n - (i + 1))) ey
              ∙ sym (ap (λ n. after_cycles d code n y) (one_more n i h) ∙ goes_on y.end y (after_cycles d code (n - (i + 1)) (cycle d code y).machine) running)
              ∙ l.last;
          count = omega (arith, count, number);
        }

-- marks that are watched beside equal things are equal
pub watched_as : (p p2 : PublicStreams) (d d2 : Desc) (t t2 : CodeText) (x : Machine) (m : Marks) → p ≡ p2 → d ≡ d2 → t ≡ t2 →
    (watch_cycle (public_in p) d (word_at t) x m).marks ≡ (watch_cycle (public_in p2) d2 (word_at t2) x m).marks
watched_as p p2 d d2 t t2 x m ep ed et =
    ap (λ p. (watch_cycle (public_in p) d (word_at t) x m).marks) ep ∙ ap₂ (λ d t. (watch_cycle (public_in p2) d (word_at t) x m).marks) ed et

-- in a run that has ended nothing more shows, and the machine stays
ended_shows : (public : Public) (d : Desc) (code : Code) (t : ℕ) (y : Machine) (k : Marks) (e : End) → y.end ≡ Some e →
    (first_shown public d code t y k ≡ None) × (after_cycles d code t y ≡ y)
ended_shows public d code zero y k e q = (refl, refl)
ended_shows public d code (suc t) y k e q = (
  ap (λ o. unless_ended o None (let w = watch_cycle public d code y k in in_cycle (y.cycle + 1) (shown_cycle public d y k) (first_shown public d code t w.machine w.marks))) q,
  ap (λ o. unless_ended o y (after_cycles d code t (cycle d code y).machine)) q,
)

-- in a run that has ended nothing more is published
ended_publishes : (public : Public) (d : Desc) (code : Code) (t : ℕ) (y : Machine) (e : End) → y.end ≡ Some e → published_by public d code t y ≡ []
ended_publishes public d code zero y e q = refl
ended_publishes public d code (suc t) y e q =
    ap (λ o. unless_ended o [] (public_piece public (hart_of y) (cycle d code y).piece ++ published_by public d code t (cycle d code y).machine)) q

has_end : (o p : Option End) (b : Bool) → o ≡ p → b ≡ is_some o → b ≡ true → (e : End) × (p ≡ Some e)
has_end None p b q r h = absurd (cc)
has_end (Some e) p b q r h = (e, sym q)

module _ (public : Public) (d : Desc) (code : Code) (n i : ℕ) (x : Machine) (m : Marks) (y : Machine) (k : Marks) (l : Looks public d code n i x m y k) (o : Option End) (b : Bool) (q : o ≡ y.end) (r : b ≡ is_some o) (h : b ≡ true) where
  -- where the run has ended, nothing shows in all its cycles
  pub ended_none : None ≡ first_shown public d code n x m
  ended_none = let e = has_end o y.end b q r h in sym (ended_shows public d code (n - i) y k e.0 e.1).0 ∙ l.shown

  -- and the machine is that of all cycles
  pub ended_last : y ≡ after_cycles d code n x
  ended_last = let e = has_end o y.end b q r h in sym (ended_shows public d code (n - i) y k e.0 e.1).1 ∙ l.last

-- ---- what the cycles so far have published

-- the run stands after i of n cycles from a machine, which published so many bytes: with those of the other cycles they
-- are those of all n
pub record Counts (public : Public) (d : Desc) (code : Code) (n i : ℕ) (x y : Machine) (count : ℕ) : Type 0 where
  pub all : count + length (published_by public d code (n - i) y) ≡ length (published_by public d code n x)
  pub few : count ≤ i * 1024

-- how many bytes are published of a piece of output, by equal streams
pub count_is : (p p2 : PublicStreams) (s : Hart) (stream : ℕ) (piece piece2 : List ℕ) (count : ℕ) → count ≡ length (if public_in p stream then piece else []) →
    p ≡ p2 → stream ≡ reg s.regs 10 → piece ≡ piece2 → count ≡ length (public_piece (public_in p2) s piece2)
count_is p p2 s stream piece piece2 count h ep es eq =
    h
    ∙ ap (λ p. length (if public_in p stream then piece else [])) ep
    ∙ ap (λ t. length (if public_in p2 t then piece else [])) es
    ∙ ap (λ q. length (public_piece (public_in p2) s q)) eq

module _ (public : Public) (d : Desc) (code : Code) (n i : ℕ) (x y : Machine) (count : ℕ) (l : Counts public d code n i x y count) where
  abbrev piece : List ℕ
  piece = public_piece public (hart_of y) (cycle d code y).piece

  -- a cycle more is counted
  pub counts_next : i < n → y.end ≡ None → (y2 : Machine) → y2 ≡ (cycle d code y).machine → (more : ℕ) → more ≡ length piece → more ≤ 1024 →
      (all : ℕ) → all ≡ count + more → Counts public d code n (i + 1) x y2 all
  counts_next h running y2 e more is most all sum =
      let rest = published_by public d code (n - (i + 1)) (cycle d code y).machine in
      let step : length (published_by public d code (n - i) y) ≡ length piece + length rest =
      ap (λ n. length (published_by public d code n y)) (one_more n i h)
      ∙ ap length (goes_on y.end [] (piece ++ rest) running)
      ∙ length-append piece rest in
      let other : length (published_by public d code (n - (i + 1)) y2) ≡ length rest = ap (λ z. length (published_by public d code (n - (i + 1)) z)) e in
      let before = l.all in
      let few = l.few in
      record { all = omega (arith, step, other, before, is, sum); few = omega (arith, few, most, sum) }

  -- where the run has ended nothing more is published
  pub counts_ended : (o : Option End) (b : Bool) → o ≡ y.end → b ≡ is_some o → b ≡ true → count ≡ length (published_by public d code n x)
  counts_ended o b q r h =
      let e = has_end o y.end b q r h in
      let none : length (published_by public d code (n - i) y) ≡ 0 = ap length (ended_publishes public d code (n - i) y e.0 e.1) in
      let before = l.all in
      omega (arith, none, before)

  -- where all cycles are over, all is counted
  pub counts_over : n ≤ i → count ≡ length (published_by public d code n x)
  counts_over le =
      let z : n - i ≡ 0 = omega (arith, le) in
      let none : length (published_by public d code (n - i) y) ≡ 0 = ap (λ n. length (published_by public d code n y)) z in
      let before = l.all in
      omega (arith, none, before)
