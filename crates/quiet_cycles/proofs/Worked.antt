-- A worked wait for a line: seven cycles that may be passed over, up to the one in which the line comes.
use Rattle.std.proofs.Common.{◌≡◌, ℕ, [], ◌∷◌, refl, ap, arith}
use Rattle.std.specs.Int.Count.{count_leading_zeros}
use Rattle.std.proofs.lemmas.List.Elements.{All-from_recursion}
use Rattle.rv_types.specs.Decode.{decode}
use Rattle.rv_types.specs.Memory.{Code}
use Rattle.machine_desc.specs.Example.{example}
use Rattle.window_model.specs.declared.Entry.{Entry}
use Rattle.window_model.specs.declared.Event.TheVariants.{Fill, Done, Ret, Ren}
use Rattle.window_model.specs.declared.Miss.{Miss}
use Rattle.window_model.specs.State.{Machine}
use Rattle.window_model.specs.Row.{Row}
use Rattle.window_model.specs.Cycle.{at, cycle, rows}
use Rattle.window_model.specs.Retire.{retire}
use Rattle.window_model.specs.Rename.{rename}
use Rattle.window_model.specs.Fetch.{fetch}
use Rattle.window_model.proofs.Worked.{code_of, memory, row}
use Rattle.quiet_cycles.specs.Still.{NotDueBefore, NotDoneBefore, NothingDueBefore, StillUntil, empty_row, empty_rows}
use Rattle.quiet_cycles.proofs.Repeats.{stands_after_empty_row, passes_over}

-- a load that misses, and an exit: lw x5,0(x2); addi x17,x0,93; ecall
abbrev code : Code
code = code_of (0x00012283 ∷ 0x05d00893 ∷ 0x00000073 ∷ [])

-- the state of the run after k cycles
abbrev after : ℕ → Machine
after k = at example code 0x10000 (memory 0 0) k

-- the load missed in cycle 3, and the ADDI is Done since cycle 4: in cycle 5 nothing happens
fifth_is_empty : (cycle example code (after 4)).row ≡ empty_row 5
unfolding decode cycle retire rename fetch count_leading_zeros memory code_of
fifth_is_empty = refl

-- the state that the fifth cycle leaves
abbrev left : Machine
left = (cycle example code (after 4)).machine

-- nothing is due after the fifth cycle and before the thirteenth
nothing_due : NothingDueBefore 13 left
unfolding decode cycle retire rename fetch count_leading_zeros memory code_of
nothing_due = record {
  entries = All-from_recursion (λ (e : Entry). NotDoneBefore 13 left.cycle e.state) left.window ((λ h. omega arith), (tt, tt));
  lines = All-from_recursion (λ (m : Miss). NotDueBefore 13 left.cycle m.due) left.misses ((λ h. omega arith), tt);
  divider = λ h. omega arith;
}

-- the cycles after the fifth and before the thirteenth are still, and their rows are empty
still : StillUntil 13 example code left
unfolding decode cycle retire rename fetch count_leading_zeros memory code_of
still = stands_after_empty_row 13 example code (after 4) (ap (λ (r : Row). r.events) fifth_is_empty) refl nothing_due

seven_are_empty : rows example code 7 left ≡ empty_rows 6 7
unfolding decode cycle retire rename fetch count_leading_zeros memory code_of
seven_are_empty = (passes_over 13 7 example code left refl still (omega arith)).1

-- in cycle 13 the line comes
thirteenth_is_not : (cycle example code (after 12)).row ≡ row 13 (Fill 0x0001fff0 ∷ Done 0 ∷ Ret 0 ∷ Ret 1 ∷ Ren 2 0x00010008 ∷ [])
unfolding decode cycle retire rename fetch count_leading_zeros row memory code_of
thirteenth_is_not = refl
