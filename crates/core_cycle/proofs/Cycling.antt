-- A whole cycle of the core, phase by phase: what it comes to, what it keeps and what it retires.
use Rattle.std.proofs.Common.{◌≡◌, ℕ, ◌+◌, ◌<◌, List, [], Option, None, IsSome, refl, ap, ap₂, sym, ◌∙◌, subst}
use Rattle.std.specs.Prelude.{◌++◌}
use Rattle.rv_types.specs.Memory.{Code}
use Rattle.elf_loader.specs.inner.Code.{CodeText, word_at}
use Rattle.elf_loader.proofs.Images.{code_aligned}
use Rattle.machine_desc.specs.declared.Desc.{Desc}
use Rattle.window_model.specs.declared.Event.{Event}
use Rattle.window_model.specs.State.{Machine, After}
use Rattle.window_model.specs.Row.{Row}
use Rattle.window_model.specs.Fill.{fill, complete}
use Rattle.window_model.specs.Resolve.{resolve}
use Rattle.window_model.specs.Retire.{Retired, retire}
use Rattle.window_model.specs.Fetch.{fetch}
use Rattle.window_model.specs.Cycle.{Cycled, after_retire, begins_cycle, cycle}
use Rattle.window_model.specs.Committed.{Aligned, Commits}
use Rattle.window_model.proofs.Quiet.{at_retire, before_quiet}
use Rattle.window_model.proofs.Walks.{fetch_keep}
use Rattle.std.specs.List.{AllByRecursion as Each}
use Rattle.machine_facts.specs.Timely.{Timely, WaitsOrDone}
use Rattle.machine_facts.proofs.Stores.{none_busy}
use Rattle.machine_facts.proofs.Adds.{fill_adds, complete_adds, resolve_adds, retire_turns}
use Rattle.machine_facts.proofs.ClearPhases.{clear_adds}
use Rattle.quiet_cycles.specs.Still.{NothingDueBefore, StillUntil, empty_row}
use Rattle.visibility.specs.Point.{HasAdvanced}
use Rattle.core_parts.specs.Described.{Described, fetch_of}
use Rattle.core_cycle.specs.Kept.{Kept, KeptUntil}
use Rattle.core_cycle.specs.Phases.{phases_after, phases_before}
use Rattle.core_cycle.proofs.Passing.{commits_after, kept_after, still_after}

-- ---- fetching leaves the window as it is

-- Fetch leaves the window as it is
pub fetched_window : (d : Desc) (code : Code) (x : Machine) → (fetch d code x).machine.window ≡ x.window
fetched_window d code x = fetch_keep d (λ y. y.window ≡ x.window) code (λ y pc q r k. k) x refl

-- a point that has moved over a window has moved over the one that Fetch leaves
pub fetched_advanced : (s s1 : Described) → s1 ≡ record s { machine = (fetch_of s).machine } → HasAdvanced s.point s.machine.window → HasAdvanced s1.point s1.machine.window
fetched_advanced s s1 e a =
    subst (λ (s : Described). HasAdvanced s.point s.machine.window) (sym e) (subst (HasAdvanced s.point) (sym (fetched_window s.desc (word_at s.code) s.machine)) a)

-- ---- what each step of a cycle leaves

-- a described machine as its next cycle begins
abbrev pub starts : Described → Described
starts s = record s { machine = begins_cycle s.machine }

-- the cycle begins, and the phases before Retire go
pub record Fronts (s s1 s2 : Described) : Type 0 where
  pub begins : s1 ≡ starts s
  pub goes : s2 ≡ record s1 { machine = (phases_before s1).machine; point = s2.point }

-- the phase Retire goes, and leaves the rest as it is
abbrev pub Leaves : Described → Described → Type 0
Leaves s2 s3 = s3 ≡ record s2 { machine = (retire s2.desc s2.machine).machine }

-- the phases after Retire go
abbrev pub Backs : Described → Described → Type 0
Backs s3 s4 = s4 ≡ record s3 { machine = (phases_after s3).machine; point = s4.point }

-- a row without events, and what each of these adds to it
pub record Writes (s s1 s2 s3 : Described) (r1 r2 r3 r4 : Row) : Type 0 where
  pub begins : r1 ≡ empty_row (s.machine.cycle + 1)
  pub fronts : r2 ≡ record r1 { events = r1.events ++ (phases_before s1).events }
  pub retires : r3 ≡ record r2 { events = r2.events ++ (retire s2.desc s2.machine).events }
  pub backs : r4 ≡ record r3 { events = r3.events ++ (phases_after s3).events }

abbrev written : ℕ → List Event → List Event → List Event → Row
written number f r b = record { cycle = number; events = f ++ r ++ b }

joined : (number : ℕ) (f r b : List Event) (r1 r2 r3 r4 : Row) → r1 ≡ empty_row number → r2 ≡ record r1 { events = r1.events ++ f } → r3 ≡ record r2 { events = r2.events ++ r } → r4 ≡ record r3 { events = r3.events ++ b } →
    r4 ≡ written number f r b
joined number f r b r1 r2 r3 r4 e1 e2 e3 e4 = cc

-- the steps of a cycle together, as the definition writes the cycle
abbrev all : Described → Cycled
all s =
    let f = phases_before (starts s) in
    let r = retire s.desc f.machine in
    let b = after_retire s.desc (word_at s.code) r.machine in
    record { machine = b.machine; row = written (s.machine.cycle + 1) f.events r.events b.events; piece = r.piece }

whole : (s : Described) → all s ≡ cycle s.desc (word_at s.code) s.machine
unfolding cycle
whole s = refl

-- ---- until Retire, the count of the retired, the end and the next serial are as they were

module _ (s s1 s2 : Described) (p : Fronts s s1 s2) where
  desc_fronted : s2.desc ≡ s.desc
  desc_fronted = ap (λ (s : Described). s.desc) p.goes ∙ ap (λ (s : Described). s.desc) p.begins

  code_fronted : s2.code ≡ s.code
  code_fronted = ap (λ (s : Described). s.code) p.goes ∙ ap (λ (s : Described). s.code) p.begins

  fronted : phases_before s1 ≡ phases_before (starts s)
  fronted = ap phases_before p.begins

  -- the phases before Retire leave the machine at which Retire begins
  pub machine_fronted : s2.machine ≡ at_retire s.desc s.machine
  machine_fronted = ap (λ (s : Described). s.machine) p.goes ∙ ap (λ (a : After). a.machine) fronted

  -- until Retire the end is as it was
  pub end_stays : s2.machine.end ≡ s.machine.end
  end_stays = ap (λ (x : Machine). x.end) machine_fronted ∙ (before_quiet s.desc s.machine).ended

  -- until Retire the count of the retired is as it was
  pub count_stays : s2.machine.retired ≡ s.machine.retired
  count_stays = ap (λ (x : Machine). x.retired) machine_fronted ∙ (before_quiet s.desc s.machine).retired

  retired : retire s2.desc s2.machine ≡ retire s.desc (at_retire s.desc s.machine)
  retired = ap₂ retire desc_fronted machine_fronted

  -- what Retire leaves of the machine, before the phases after it go
  module _ (s3 : Described) (q : Leaves s2 s3) where
    -- the description is as it was once Retire has gone
    pub desc_left : s3.desc ≡ s.desc
    desc_left = ap (λ (s : Described). s.desc) q ∙ desc_fronted

    -- the code is as it was once Retire has gone
    pub code_left : s3.code ≡ s.code
    code_left = ap (λ (s : Described). s.code) q ∙ code_fronted

    -- the machine that Retire leaves in the cycle
    pub machine_left : s3.machine ≡ (retire s.desc (at_retire s.desc s.machine)).machine
    machine_left = ap (λ (s : Described). s.machine) q ∙ ap (λ (r : Retired). r.machine) retired

    -- no store executes in the window that Retire leaves
    pub settled_left : Timely s.desc s.machine → Each WaitsOrDone s3.machine.window
    settled_left t = subst (λ (x : Machine). Each WaitsOrDone x.window) (sym machine_left) (none_busy s.desc s.machine t)

    -- until Rename the next serial is as it was
    pub serial_stays : s3.machine.next_serial ≡ s.machine.next_serial
    serial_stays =
        let x = begins_cycle s.machine in
        let y = (fill s.desc x).machine in
        let z = (complete y).machine in
        ap (λ (x : Machine). x.next_serial) machine_left
        ∙ (retire_turns s.desc (at_retire s.desc s.machine)).serials
        ∙ (clear_adds s.desc (resolve s.desc z).machine).serials
        ∙ (resolve_adds s.desc z).serials
        ∙ (complete_adds y).serials
        ∙ (fill_adds s.desc x).serials

    -- ---- what a cycle comes to, what it keeps, and what it retires

    module _ (s4 : Described) (k : Backs s3 s4) where
      backed : phases_after s3 ≡ after_retire s.desc (word_at s.code) (retire s.desc (at_retire s.desc s.machine)).machine
      backed =
          ap (λ d. after_retire d (word_at s3.code) s3.machine) desc_left
          ∙ ap (λ code. after_retire s.desc (word_at code) s3.machine) code_left
          ∙ ap (after_retire s.desc (word_at s.code)) machine_left

      -- a cycle leaves the description
      pub desc_backed : s4.desc ≡ s.desc
      desc_backed = ap (λ (s : Described). s.desc) k ∙ desc_left

      -- a cycle leaves the code
      pub code_backed : s4.code ≡ s.code
      code_backed = ap (λ (s : Described). s.code) k ∙ code_left

      -- the phases of a cycle leave the machine that the cycle leads to
      pub machine_is : s4.machine ≡ (cycle s.desc (word_at s.code) s.machine).machine
      machine_is = ap (λ (s : Described). s.machine) k ∙ ap (λ (a : After). a.machine) backed ∙ ap (λ (c : Cycled). c.machine) (whole s)

      piece_is : (retire s2.desc s2.machine).piece ≡ (cycle s.desc (word_at s.code) s.machine).piece
      piece_is = ap (λ (r : Retired). r.piece) retired ∙ ap (λ (c : Cycled). c.piece) (whole s)

      row_is : (r1 r2 r3 r4 : Row) → Writes s s1 s2 s3 r1 r2 r3 r4 → r4 ≡ (cycle s.desc (word_at s.code) s.machine).row
      row_is r1 r2 r3 r4 w =
          let number = s.machine.cycle + 1 in
          let f = phases_before (starts s) in
          let r = retire s.desc (at_retire s.desc s.machine) in
          joined number (phases_before s1).events (retire s2.desc s2.machine).events (phases_after s3).events r1 r2 r3 r4 w.begins w.fronts w.retires w.backs
          ∙ ap (λ (f : After). written number f.events (retire s2.desc s2.machine).events (phases_after s3).events) fronted
          ∙ ap (λ (r : Retired). written number f.events r.events (phases_after s3).events) retired
          ∙ ap (λ (b : After). written number f.events r.events b.events) backed
          ∙ ap (λ (c : Cycled). c.row) (whole s)

      -- what the steps of a cycle leave is the definition's cycle
      pub cycle_is : (r1 r2 r3 r4 : Row) (piece : List ℕ) → Writes s s1 s2 s3 r1 r2 r3 r4 → piece ≡ (retire s2.desc s2.machine).piece →
          record { machine = s4.machine; row = r4; piece = piece } ≡ cycle s.desc (word_at s.code) s.machine
      cycle_is r1 r2 r3 r4 piece w p =
          let c = cycle s.desc (word_at s.code) s.machine in
          let whole : Machine → Row → List ℕ → Cycled = λ m r p. record { machine = m; row = r; piece = p } in
          ap (λ m. whole m r4 piece) machine_is ∙ ap (λ r. whole c.machine r piece) (row_is r1 r2 r3 r4 w) ∙ ap (whole c.machine c.row) (p ∙ piece_is)

      module _ (aligned : Aligned (word_at s.code)) (h : Kept (word_at s.code) s) (n : s.machine.end ≡ None) where
        -- what retires are steps of the instruction set
        pub cycle_retires : (piece : List ℕ) → piece ≡ (retire s2.desc s2.machine).piece → Commits (word_at s.code) s.machine s4.machine piece
        cycle_retires piece e = commits_after (word_at s.code) s s4 machine_is aligned h n piece (e ∙ piece_is)

        -- what holds in every state is kept, and what is known of the next cycles holds
        pub cycle_kept : (r1 r2 r3 r4 : Row) → Writes s s1 s2 s3 r1 r2 r3 r4 → HasAdvanced s4.point s4.machine.window →
            (until : ℕ) → (0 < until → r4.events ≡ []) → (0 < until → s4.machine.end ≡ None) → NothingDueBefore until s4.machine → KeptUntil until (word_at s4.code) s4
        cycle_kept r1 r2 r3 r4 w a until empty running due =
            subst (λ code. KeptUntil until (word_at code) s4) (sym code_backed) (record {
              kept = kept_after (word_at s.code) s s4 machine_is aligned h n desc_backed a;
              still =
                  subst (λ d. StillUntil until d (word_at s.code) s4.machine) (sym desc_backed)
                  (still_after until s.desc (word_at s.code) s.machine _ (cycle_is r1 r2 r3 r4 _ w refl) empty running due);
            })

-- a core's code stands at multiples of 4
pub text_aligned : (code : CodeText) → Aligned (word_at code)
text_aligned code pc w h = code_aligned code pc (subst (λ (o : Option ℕ). IsSome o) (sym h) refl)
