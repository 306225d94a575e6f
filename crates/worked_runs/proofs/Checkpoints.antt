-- Global history and the return stack.
use Rattle.std.proofs.Common.{◌≡◌, ℕ, List, [], ◌∷◌, refl, Some, lit<, lit≤, arith}
use Rattle.std.specs.Prelude.{◌≤◌}
use Rattle.std.specs.Int.Count.{count_leading_zeros}
use Rattle.rv_types.specs.Decode.{decode}
use Rattle.rv_types.specs.declared.End.TheVariants.{Exit}
use Rattle.machine_desc.specs.declared.Desc.{Desc}
use Rattle.machine_desc.specs.declared.SttModel.TheVariants.{Spectre}
use Rattle.machine_desc.specs.declared.Defence.TheVariants.{Stt}
use Rattle.machine_desc.specs.declared.keys.Key.{Key}
use Rattle.machine_desc.specs.declared.keys.Key.TheVariants.{PredictorHistory, PredictorReturns}
use Rattle.machine_desc.specs.Allowed.{MayBe}
use Rattle.machine_desc.proofs.EveryDesc.{each_is}
use Rattle.machine_desc.specs.Ranges.{key_number, desc_of_numbers, all_may_be}
use Rattle.window_model.specs.declared.Event.TheVariants.{Done, Res, Bp, Bt, Sq, Ret, Call, Alu, Ren, Fet}
use Rattle.window_model.specs.declared.Way.TheVariants.{Taken, NotTaken, Jump}
use Rattle.window_model.specs.Row.{Row}
use Rattle.window_model.specs.Cycle.{trace, cycle}
use Rattle.window_model.specs.Retire.{retire}
use Rattle.window_model.specs.Rename.{rename}
use Rattle.window_model.specs.Fetch.{fetch}
use Rattle.worked_runs.proofs.Version2.{example_2}
use Rattle.window_model.proofs.Worked.{code_of, memory, row, quiet}

-- the example description in version 2, with a history of so many directions and a stack of so many addresses
abbrev remembering_number : ℕ → ℕ → Key → ℕ
remembering_number history returns PredictorHistory = history
remembering_number history returns PredictorReturns = returns
remembering_number history returns key = key_number example_2 key

each_remembering : (history returns : ℕ) → history ≤ 12 → returns ≤ 16 → (key : Key) → MayBe 2 key (remembering_number history returns key)
each_remembering history returns few_directions few_addresses PredictorHistory = (omega arith, few_directions, tt)
each_remembering history returns few_directions few_addresses PredictorReturns = (omega arith, few_addresses, tt)
each_remembering history returns few_directions few_addresses key = each_is example_2 key

abbrev remembering : (history returns : ℕ) → history ≤ 12 → returns ≤ 16 → Desc
remembering history returns few_directions few_addresses = desc_of_numbers 2 (remembering_number history returns) Spectre Stt (all_may_be (record {
  version = (lit≤ tt, lit≤ tt);
  each = each_remembering history returns few_directions few_addresses;
  latencies = lit< tt;
  ends = lit≤ tt;
  registers = lit≤ tt;
  second = refl;
  model = refl;
  defence = refl;
}))

-- jal x1,+12; addi x17,x0,93; ecall; jalr x0,0(x1)
abbrev call_and_return : List ℕ
call_and_return = 0x00c000ef ∷ 0x05d00893 ∷ 0x00000073 ∷ 0x00008067 ∷ []

-- addi x5,x0,2; addi x5,x5,-1; bne x5,x0,-4; addi x17,x0,93; ecall
abbrev loop : List ℕ
loop = 0x00200293 ∷ 0xfff28293 ∷ 0xfe029ee3 ∷ 0x05d00893 ∷ 0x00000073 ∷ []

-- auipc x5,0; jalr x1,16(x5); addi x17,x0,93; ecall; jalr x0,0(x1)
abbrev linking_jump_code : List ℕ
linking_jump_code = 0x00000297 ∷ 0x010280e7 ∷ 0x05d00893 ∷ 0x00000073 ∷ 0x00008067 ∷ []

-- jal x1,+4; jal x1,+4; jal x1,+16; jalr x0,4(x1); addi x17,x0,93; ecall; jalr x0,0(x1)
abbrev full_stack_code : List ℕ
full_stack_code = 0x004000ef ∷ 0x004000ef ∷ 0x010000ef ∷ 0x00408067 ∷ 0x05d00893 ∷ 0x00000073 ∷ 0x00008067 ∷ []

-- jal x1,+12; addi x17,x0,93; ecall; addi x5,x1,0; jalr x0,0(x5)
abbrev return_by_another_register_code : List ℕ
return_by_another_register_code = 0x00c000ef ∷ 0x05d00893 ∷ 0x00000073 ∷ 0x00008293 ∷ 0x00028067 ∷ []

-- jal x1,+12; addi x17,x0,93; ecall; jalr x5,0(x1)
abbrev return_that_links_code : List ℕ
return_that_links_code = 0x00c000ef ∷ 0x05d00893 ∷ 0x00000073 ∷ 0x000082e7 ∷ []

-- addi x5,x0,3; addi x5,x5,-1; bne x5,x0,-4; addi x17,x0,93; ecall
abbrev squash_by_history_code : List ℕ
squash_by_history_code = 0x00300293 ∷ 0xfff28293 ∷ 0xfe029ee3 ∷ 0x05d00893 ∷ 0x00000073 ∷ []

-- beq x0,x0,+8; addi x6,x0,1; bne x0,x0,+8; bne x0,x0,+8; addi x17,x0,93; ecall
abbrev history_as_fetched_code : List ℕ
history_as_fetched_code = 0x00000463 ∷ 0x00100313 ∷ 0x00001463 ∷ 0x00001463 ∷ 0x05d00893 ∷ 0x00000073 ∷ []

-- The call pushes its return address as it is fetched, and the return is predicted by it.
return_by_stack_rows : List Row
return_by_stack_rows =
    row 1 (Fet 0x00010000 ∷ Fet 0x0001000c ∷ []) ∷
    row 2 (Ren 0 0x00010000 ∷ Ren 1 0x0001000c ∷ Fet 0x00010004 ∷ Fet 0x00010008 ∷ []) ∷
    row 3 (Alu 0 ∷ Ren 2 0x00010004 ∷ Fet 0x0001000c ∷ Fet 0x00010010 ∷ []) ∷
    row 4 (Done 0 ∷ Ret 0 ∷ Alu 1 ∷ Alu 2 ∷ []) ∷
    row 5 (Done 1 ∷ Done 2 ∷ Res 1 Jump ∷ Bt 3 0x00010004 ∷ Ret 1 ∷ Ret 2 ∷ Ren 3 0x00010008 ∷ []) ∷
    row 6 (Ret 3 ∷ Call 3 0 ∷ []) ∷
    []

return_by_stack : trace (remembering 0 4 (lit≤ tt) (lit≤ tt)) (code_of call_and_return) 0x10000 (memory 0 0) 100
    ≡ record { rows = return_by_stack_rows; end = Some (Exit 0); retired = 4; cycles = 6 }
unfolding decode cycle retire rename fetch count_leading_zeros row quiet memory code_of return_by_stack_rows
return_by_stack = refl

-- Without a stack the return is predicted to go on behind itself, and all that is younger is dropped.
return_without_stack_rows : List Row
return_without_stack_rows =
    row 1 (Fet 0x00010000 ∷ Fet 0x0001000c ∷ []) ∷
    row 2 (Ren 0 0x00010000 ∷ Ren 1 0x0001000c ∷ Fet 0x00010010 ∷ []) ∷
    row 3 (Alu 0 ∷ Ren 2 0x00010010 ∷ []) ∷
    row 4 (Done 0 ∷ Ret 0 ∷ Alu 1 ∷ []) ∷
    row 5 (Done 1 ∷ Res 1 Jump ∷ Bt 3 0x00010004 ∷ Sq 1 ∷ Ret 1 ∷ Fet 0x00010004 ∷ Fet 0x00010008 ∷ []) ∷
    row 6 (Ren 3 0x00010004 ∷ Fet 0x0001000c ∷ Fet 0x00010004 ∷ []) ∷
    row 7 (Alu 3 ∷ Fet 0x00010008 ∷ Fet 0x0001000c ∷ []) ∷
    row 8 (Done 3 ∷ Ret 3 ∷ Ren 4 0x00010008 ∷ Fet 0x00010004 ∷ Fet 0x00010008 ∷ []) ∷
    row 9 (Ret 4 ∷ Call 4 0 ∷ []) ∷
    []

return_without_stack : trace (remembering 0 0 (lit≤ tt) (lit≤ tt)) (code_of call_and_return) 0x10000 (memory 0 0) 100
    ≡ record { rows = return_without_stack_rows; end = Some (Exit 0); retired = 4; cycles = 9 }
unfolding decode cycle retire rename fetch count_leading_zeros row quiet memory code_of return_without_stack_rows
return_without_stack = refl

-- After the first round the history is 1, so the branch's second round has a counter of its own.
loop_by_history_rows : List Row
loop_by_history_rows =
    row 1 (Fet 0x00010000 ∷ Fet 0x00010004 ∷ []) ∷
    row 2 (Ren 0 0x00010000 ∷ Ren 1 0x00010004 ∷ Fet 0x00010008 ∷ Fet 0x0001000c ∷ []) ∷
    row 3 (Alu 0 ∷ Ren 2 0x00010008 ∷ Ren 3 0x0001000c ∷ Fet 0x00010010 ∷ Fet 0x00010014 ∷ []) ∷
    row 4 (Done 0 ∷ Ret 0 ∷ Alu 1 ∷ Alu 3 ∷ []) ∷
    row 5 (Done 1 ∷ Done 3 ∷ Ret 1 ∷ Alu 2 ∷ []) ∷
    row 6 (Done 2 ∷ Res 2 Taken ∷ Bp 2 2 ∷ Sq 3 ∷ Ret 2 ∷ Fet 0x00010004 ∷ Fet 0x00010008 ∷ []) ∷
    row 7 (Ren 4 0x00010004 ∷ Ren 5 0x00010008 ∷ Fet 0x0001000c ∷ Fet 0x00010010 ∷ []) ∷
    row 8 (Alu 4 ∷ Ren 6 0x0001000c ∷ Fet 0x00010014 ∷ []) ∷
    row 9 (Done 4 ∷ Ret 4 ∷ Alu 5 ∷ Alu 6 ∷ []) ∷
    row 10 (Done 5 ∷ Done 6 ∷ Res 5 NotTaken ∷ Bp 3 0 ∷ Ret 5 ∷ Ret 6 ∷ Ren 7 0x00010010 ∷ []) ∷
    row 11 (Ret 7 ∷ Call 7 0 ∷ []) ∷
    []

loop_by_history : trace (remembering 2 0 (lit≤ tt) (lit≤ tt)) (code_of loop) 0x10000 (memory 0 0) 100
    ≡ record { rows = loop_by_history_rows; end = Some (Exit 0); retired = 7; cycles = 11 }
unfolding decode cycle retire rename fetch count_leading_zeros row quiet memory code_of loop_by_history_rows
loop_by_history = refl

-- A JALR that links, and was wrongly predicted: after the squash the stack has its address.
linking_jump_rows : List Row
linking_jump_rows =
    row 1 (Fet 0x00010000 ∷ Fet 0x00010004 ∷ []) ∷
    row 2 (Ren 0 0x00010000 ∷ Ren 1 0x00010004 ∷ Fet 0x00010008 ∷ Fet 0x0001000c ∷ []) ∷
    row 3 (Alu 0 ∷ Ren 2 0x00010008 ∷ Fet 0x00010010 ∷ Fet 0x00010008 ∷ []) ∷
    row 4 (Done 0 ∷ Ret 0 ∷ Alu 1 ∷ Alu 2 ∷ Fet 0x0001000c ∷ Fet 0x00010010 ∷ []) ∷
    row 5 (Done 1 ∷ Done 2 ∷ Res 1 Jump ∷ Bt 1 0x00010010 ∷ Sq 6 ∷ Ret 1 ∷ Fet 0x00010010 ∷ Fet 0x00010008 ∷ []) ∷
    row 6 (Ren 3 0x00010010 ∷ Ren 4 0x00010008 ∷ Fet 0x0001000c ∷ Fet 0x00010010 ∷ []) ∷
    row 7 (Alu 3 ∷ Alu 4 ∷ Fet 0x00010014 ∷ []) ∷
    row 8 (Done 3 ∷ Done 4 ∷ Res 3 Jump ∷ Bt 0 0x00010008 ∷ Ret 3 ∷ Ret 4 ∷ Ren 5 0x0001000c ∷ []) ∷
    row 9 (Ret 5 ∷ Call 5 0 ∷ []) ∷
    []

linking_jump : trace (remembering 0 4 (lit≤ tt) (lit≤ tt)) (code_of linking_jump_code) 0x10000 (memory 0 0) 100
    ≡ record { rows = linking_jump_rows; end = Some (Exit 0); retired = 5; cycles = 9 }
unfolding decode cycle retire rename fetch count_leading_zeros row quiet memory code_of linking_jump_rows
linking_jump = refl

-- Three addresses on a stack of two: the oldest is gone.
full_stack_rows : List Row
full_stack_rows =
    row 1 (Fet 0x00010000 ∷ Fet 0x00010004 ∷ []) ∷
    row 2 (Ren 0 0x00010000 ∷ Ren 1 0x00010004 ∷ Fet 0x00010008 ∷ Fet 0x00010018 ∷ []) ∷
    row 3 (Alu 0 ∷ Alu 1 ∷ Ren 2 0x00010008 ∷ Ren 3 0x00010018 ∷ Fet 0x0001000c ∷ Fet 0x00010008 ∷ []) ∷
    row 4 (Done 0 ∷ Done 1 ∷ Ret 0 ∷ Ret 1 ∷ Alu 2 ∷ Ren 4 0x0001000c ∷ Ren 5 0x00010008 ∷ Fet 0x00010018 ∷ Fet 0x0001000c ∷ []) ∷
    row 5 (Done 2 ∷ Ret 2 ∷ Alu 3 ∷ Alu 4 ∷ Ren 6 0x00010018 ∷ Ren 7 0x0001000c ∷ Fet 0x00010010 ∷ Fet 0x00010014 ∷ []) ∷
    row 6 (Done 3 ∷ Done 4 ∷ Res 3 Jump ∷ Bt 2 0x0001000c ∷ Ret 3 ∷ Alu 5 ∷ Ren 8 0x00010010 ∷ Fet 0x00010018 ∷ Fet 0x0001000c ∷ []) ∷
    row 7 (Done 5 ∷ Res 4 Jump ∷ Bt 3 0x00010010 ∷ Sq 7 ∷ Ret 4 ∷ Fet 0x00010010 ∷ Fet 0x00010014 ∷ []) ∷
    row 8 (Ren 9 0x00010010 ∷ Fet 0x00010018 ∷ Fet 0x0001000c ∷ []) ∷
    row 9 (Alu 9 ∷ Fet 0x00010010 ∷ Fet 0x00010014 ∷ []) ∷
    row 10 (Done 9 ∷ Ret 9 ∷ Ren 10 0x00010014 ∷ Fet 0x00010018 ∷ Fet 0x0001000c ∷ []) ∷
    row 11 (Ret 10 ∷ Call 10 0 ∷ []) ∷
    []

full_stack : trace (remembering 0 2 (lit≤ tt) (lit≤ tt)) (code_of full_stack_code) 0x10000 (memory 0 0) 100
    ≡ record { rows = full_stack_rows; end = Some (Exit 0); retired = 7; cycles = 11 }
unfolding decode cycle retire rename fetch count_leading_zeros row quiet memory code_of full_stack_rows
full_stack = refl

-- A jump by another register than x1 pops nothing ..
return_by_another_register_rows : List Row
return_by_another_register_rows =
    row 1 (Fet 0x00010000 ∷ Fet 0x0001000c ∷ []) ∷
    row 2 (Ren 0 0x00010000 ∷ Ren 1 0x0001000c ∷ Fet 0x00010010 ∷ Fet 0x00010014 ∷ []) ∷
    row 3 (Alu 0 ∷ Ren 2 0x00010010 ∷ Ren 3 0x00010014 ∷ []) ∷
    row 4 (Done 0 ∷ Ret 0 ∷ Alu 1 ∷ []) ∷
    row 5 (Done 1 ∷ Ret 1 ∷ Alu 2 ∷ []) ∷
    row 6 (Done 2 ∷ Res 2 Jump ∷ Bt 0 0x00010004 ∷ Sq 1 ∷ Ret 2 ∷ Fet 0x00010004 ∷ Fet 0x00010008 ∷ []) ∷
    row 7 (Ren 4 0x00010004 ∷ Fet 0x0001000c ∷ Fet 0x00010010 ∷ []) ∷
    row 8 (Alu 4 ∷ Fet 0x00010004 ∷ Fet 0x00010008 ∷ []) ∷
    row 9 (Done 4 ∷ Ret 4 ∷ Ren 5 0x00010008 ∷ Fet 0x0001000c ∷ Fet 0x00010010 ∷ []) ∷
    row 10 (Ret 5 ∷ Call 5 0 ∷ []) ∷
    []

return_by_another_register : trace (remembering 0 4 (lit≤ tt) (lit≤ tt)) (code_of return_by_another_register_code) 0x10000 (memory 0 0) 100
    ≡ record { rows = return_by_another_register_rows; end = Some (Exit 0); retired = 5; cycles = 10 }
unfolding decode cycle retire rename fetch count_leading_zeros row quiet memory code_of return_by_another_register_rows
return_by_another_register = refl

-- .. nor does one that writes a register.
return_that_links : trace (remembering 0 4 (lit≤ tt) (lit≤ tt)) (code_of return_that_links_code) 0x10000 (memory 0 0) 100
    ≡ record { rows = return_without_stack_rows; end = Some (Exit 0); retired = 4; cycles = 9 }
unfolding decode cycle retire rename fetch count_leading_zeros row quiet memory code_of return_without_stack_rows
return_that_links = refl

-- Three rounds: each squash goes back to the branch's own history, with its true direction.
squash_by_history_rows : List Row
squash_by_history_rows =
    row 1 (Fet 0x00010000 ∷ Fet 0x00010004 ∷ []) ∷
    row 2 (Ren 0 0x00010000 ∷ Ren 1 0x00010004 ∷ Fet 0x00010008 ∷ Fet 0x0001000c ∷ []) ∷
    row 3 (Alu 0 ∷ Ren 2 0x00010008 ∷ Ren 3 0x0001000c ∷ Fet 0x00010010 ∷ Fet 0x00010014 ∷ []) ∷
    row 4 (Done 0 ∷ Ret 0 ∷ Alu 1 ∷ Alu 3 ∷ []) ∷
    row 5 (Done 1 ∷ Done 3 ∷ Ret 1 ∷ Alu 2 ∷ []) ∷
    row 6 (Done 2 ∷ Res 2 Taken ∷ Bp 2 2 ∷ Sq 3 ∷ Ret 2 ∷ Fet 0x00010004 ∷ Fet 0x00010008 ∷ []) ∷
    row 7 (Ren 4 0x00010004 ∷ Ren 5 0x00010008 ∷ Fet 0x0001000c ∷ Fet 0x00010010 ∷ []) ∷
    row 8 (Alu 4 ∷ Ren 6 0x0001000c ∷ Fet 0x00010014 ∷ []) ∷
    row 9 (Done 4 ∷ Ret 4 ∷ Alu 5 ∷ Alu 6 ∷ []) ∷
    row 10 (Done 5 ∷ Done 6 ∷ Res 5 Taken ∷ Bp 3 2 ∷ Sq 3 ∷ Ret 5 ∷ Fet 0x00010004 ∷ Fet 0x00010008 ∷ []) ∷
    row 11 (Ren 7 0x00010004 ∷ Ren 8 0x00010008 ∷ Fet 0x0001000c ∷ Fet 0x00010010 ∷ []) ∷
    row 12 (Alu 7 ∷ Ren 9 0x0001000c ∷ Fet 0x00010014 ∷ []) ∷
    row 13 (Done 7 ∷ Ret 7 ∷ Alu 8 ∷ Alu 9 ∷ []) ∷
    row 14 (Done 8 ∷ Done 9 ∷ Res 8 NotTaken ∷ Bp 1 0 ∷ Ret 8 ∷ Ret 9 ∷ Ren 10 0x00010010 ∷ []) ∷
    row 15 (Ret 10 ∷ Call 10 0 ∷ []) ∷
    []

squash_by_history : trace (remembering 2 0 (lit≤ tt) (lit≤ tt)) (code_of squash_by_history_code) 0x10000 (memory 0 0) 100
    ≡ record { rows = squash_by_history_rows; end = Some (Exit 0); retired = 9; cycles = 15 }
unfolding decode cycle retire rename fetch count_leading_zeros row quiet memory code_of squash_by_history_rows
squash_by_history = refl

-- The last branch is fetched with the predicted direction of the one before it in its history.
history_as_fetched_rows : List Row
history_as_fetched_rows =
    row 1 (Fet 0x00010000 ∷ Fet 0x00010004 ∷ []) ∷
    row 2 (Ren 0 0x00010000 ∷ Ren 1 0x00010004 ∷ Fet 0x00010008 ∷ Fet 0x0001000c ∷ []) ∷
    row 3 (Alu 0 ∷ Alu 1 ∷ Ren 2 0x00010008 ∷ Ren 3 0x0001000c ∷ Fet 0x00010010 ∷ Fet 0x00010014 ∷ []) ∷
    row 4 (Done 0 ∷ Done 1 ∷ Res 0 Taken ∷ Bp 0 2 ∷ Sq 5 ∷ Ret 0 ∷ Fet 0x00010008 ∷ Fet 0x0001000c ∷ []) ∷
    row 5 (Ren 4 0x00010008 ∷ Ren 5 0x0001000c ∷ Fet 0x00010010 ∷ Fet 0x00010014 ∷ []) ∷
    row 6 (Alu 4 ∷ Alu 5 ∷ Ren 6 0x00010010 ∷ Fet 0x00010018 ∷ []) ∷
    row 7 (Done 4 ∷ Done 5 ∷ Res 4 NotTaken ∷ Bp 3 0 ∷ Ret 4 ∷ Alu 6 ∷ []) ∷
    row 8 (Done 6 ∷ Res 5 NotTaken ∷ Bp 1 0 ∷ Ret 5 ∷ Ret 6 ∷ Ren 7 0x00010014 ∷ []) ∷
    row 9 (Ret 7 ∷ Call 7 0 ∷ []) ∷
    []

history_as_fetched : trace (remembering 2 0 (lit≤ tt) (lit≤ tt)) (code_of history_as_fetched_code) 0x10000 (memory 0 0) 100
    ≡ record { rows = history_as_fetched_rows; end = Some (Exit 0); retired = 5; cycles = 9 }
unfolding decode cycle retire rename fetch count_leading_zeros row quiet memory code_of history_as_fetched_rows
history_as_fetched = refl
