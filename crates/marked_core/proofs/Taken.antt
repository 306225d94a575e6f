-- How many entries Retire takes, and that of a store among them memory takes what it writes.
use Rattle.std.proofs.Common.{◌≡◌, ℕ, ◌+◌, ◌-◌, ◌≤◌, List, length, ap, sym, ◌∙◌, subst, arith}
use Rattle.std.proofs.lemmas.List.{length-append}
use Rattle.machine_desc.specs.declared.Desc.{Desc}
use Rattle.machine_desc.proofs.EveryDesc.{every_desc}
use Rattle.machine_facts.specs.Sized.{Sized}
use Rattle.machine_facts.proofs.SizedRetire.{memory_stays_retire}
use Rattle.window_model.specs.Retire.{retire}
use Rattle.window_model.specs.Shape.{SameShape}
use Rattle.window_model.specs.State.{Machine}
use Rattle.window_model.proofs.Telling.{head_tells}
use Rattle.window_model.proofs.Walks.{retire_by}
use Rattle.core_parts.specs.Described.{Described}
use Rattle.core_cycle.proofs.Retiring.{each_takes}
use Rattle.secret_marks.specs.declared.EntryMarks.{EntryMarks}
use Rattle.entry_marks.specs.declared.oldest.LeavingEntry.{LeavingEntry}
use Rattle.entry_marks.specs.Oldest.{InsideEach, IsCopiedFrom}
use Rattle.entry_marks.proofs.Fitting.{done_taken, retire_went, stores_inside}

-- Retire takes at most one entry each turn
turn_by_turn : (d : Desc) (x : Machine) → length x.window ≤ d.core_retire_width + length (retire d x).machine.window
turn_by_turn d x =
    retire_by d (λ n stored x r. length x.window ≤ n + length r.machine.window) (λ n stored x s. omega arith)
    (λ n stored x e rest u q l t w more.
    let all = ap length q in
    let left = ap length (head_tells e.item.kind d e rest x).window in
    omega (arith, all, left, more))
    (λ n stored x e rest cause u q l t. omega arith) x

module _ (d : Desc) (x : Machine) where
  pub few_taken : length x.window - length (retire d x).machine.window ≤ 4
  few_taken =
      let turns = turn_by_turn d x in
      let width = (every_desc d).retire_width.1 in
      omega (arith, turns, width)

  pub left_count : length x.window ≡ (length x.window - length (retire d x).machine.window) + length (retire d x).machine.window
  left_count =
      let w = retire_went d x in
      let all = ap length w.is in
      let both = length-append w.gone (retire d x).machine.window in
      omega (arith, all, both)

-- how many entries Retire has taken from a core, and that memory takes what stores among them write
module _ (s s2 : Described) (e : s2 ≡ record s { machine = (retire s.desc s.machine).machine }) (sized : Sized s.desc s.machine) (n : ℕ) (many : n ≡ length s.machine.window - length s2.machine.window) where
  abbrev y : Machine
  y = (retire s.desc s.machine).machine

  window_left : length s2.machine.window ≡ length y.window
  window_left = ap (λ (s : Described). length s.machine.window) e

  taken_is : n ≡ length s.machine.window - length y.window
  taken_is = let left = window_left in omega (arith, many, left)

  shape : SameShape s.machine.ram y.ram
  shape = memory_stays_retire s.desc s.machine sized

  pub count_left : length s.machine.window ≡ n + length s2.machine.window
  count_left =
      let left = window_left in
      let all = left_count s.desc s.machine in
      omega (arith, many, left, all)

  base_stays : s2.machine.ram.base ≡ s.machine.ram.base
  base_stays = ap (λ (s : Described). s.machine.ram.base) e ∙ shape.base

  pub size_stays : length s2.machine.ram.bytes ≡ length s.machine.ram.bytes
  size_stays = ap (λ (s : Described). length s.machine.ram.bytes) e ∙ shape.size

  module _ (marks : List EntryMarks) (copies : List LeavingEntry) (c : IsCopiedFrom s.machine.window marks copies) where
    pub enough_copied : n ≤ length copies
    enough_copied =
        let few = few_taken s.desc s.machine in
        let done = done_taken s.desc s.machine in
        let is = taken_is in
        let count = c.count in
        omega (arith, few, done, is, count)

    pub inside_each : (base bytes : ℕ) → base ≡ s2.machine.ram.base → bytes ≡ length s.machine.ram.bytes → InsideEach base bytes n copies
    inside_each base bytes b m =
        let takes = each_takes s.machine.ram s.machine.window sized.memory sized.outcomes sized.parts in
        subst (λ base. InsideEach base bytes n copies) (sym (b ∙ base_stays))
        (subst (λ bytes. InsideEach s.machine.ram.base bytes n copies) (sym m) (stores_inside s.desc s.machine marks copies n c takes taken_is))
