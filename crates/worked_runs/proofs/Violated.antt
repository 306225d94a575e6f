-- Loads that passed a store wrongly: which one is fetched anew, and what is then as it was before it.
use Rattle.std.proofs.Common.{◌≡◌, ℕ, List, [], ◌∷◌, ◌++◌, Some, false, IsTrue, refl}
use Rattle.std.specs.Int.Count.{count_leading_zeros}
use lib.Count.{ones}
use Rattle.rv_types.specs.Decode.{decode}
use Rattle.rv_types.specs.declared.End.TheVariants.{Exit}
use Rattle.machine_desc.specs.declared.Desc.{Desc}
use Rattle.machine_desc.specs.declared.SttModel.TheVariants.{Spectre}
use Rattle.machine_desc.specs.declared.Defence.TheVariants.{Stt}
use Rattle.machine_desc.specs.declared.keys.Key.{Key}
use Rattle.machine_desc.specs.declared.keys.Key.TheVariants.{PredictorHistory, PredictorReturns}
use Rattle.machine_desc.proofs.Tested.{all_pass, tested}
use Rattle.worked_runs.proofs.Version2.{bits_number, with_bits}
use Rattle.window_model.specs.declared.Event.TheVariants.{Fill, Done, Res, Bp, Bt, Sq, Clr, Vio, Dp, Ret, St, Call, Alu, Mul, Div, Agu, Std, Ld, Ren, Fet}
use Rattle.window_model.specs.declared.Look.TheVariants.{Miss, Join}
use Rattle.window_model.specs.declared.Way.TheVariants.{Taken, NotTaken, Jump}
use Rattle.window_model.specs.Row.{Row}
use Rattle.window_model.specs.Cycle.{trace, cycle}
use Rattle.window_model.specs.Retire.{retire}
use Rattle.window_model.specs.Rename.{rename}
use Rattle.window_model.specs.Fetch.{fetch}
use Rattle.window_model.proofs.Worked.{code_of, memory, row, quiet}

-- mul x5,x0,x0; add x5,x5,x2; sw x2,0(x5); lw x6,0(x2); lw x7,0(x2); addi x17,x0,93; ecall
abbrev oldest_load_violated_code : List ℕ
oldest_load_violated_code = 0x020002b3 ∷ 0x002282b3 ∷ 0x0022a023 ∷ 0x00012303 ∷ 0x00012383 ∷ 0x05d00893 ∷ 0x00000073 ∷ []

-- jal x1,+12; addi x17,x0,93; ecall; mul x5,x0,x0; add x5,x5,x2; sw x2,0(x5); lw x6,0(x2); mul x7,x5,x0; add x1,x1,x7;
-- jalr x0,0(x1)
abbrev stack_after_violation_code : List ℕ
stack_after_violation_code = 0x00c000ef ∷ 0x05d00893 ∷ 0x00000073 ∷ 0x020002b3 ∷ 0x002282b3 ∷ 0x0022a023 ∷ 0x00012303 ∷ 0x020283b3 ∷ 0x007080b3 ∷ 0x00008067 ∷ []

-- the example in version 2 with bits of dependence and a return stack
abbrev stack_number : Key → ℕ
stack_number PredictorReturns = 4
stack_number key = bits_number key

stack_passes : IsTrue (all_pass 2 stack_number Spectre Stt)
unfolding ones
stack_passes = refl

abbrev with_stack : Desc
with_stack = tested 2 stack_number Spectre Stt stack_passes

-- beq x0,x0,+8; addi x0,x0,0; mul x5,x0,x0; add x5,x5,x2; sw x2,0(x5); lw x6,0(x2); bne x0,x0,+8; addi x17,x0,93; ecall
abbrev history_after_violation_code : List ℕ
history_after_violation_code = 0x00000463 ∷ 0x00000013 ∷ 0x020002b3 ∷ 0x002282b3 ∷ 0x0022a023 ∷ 0x00012303 ∷ 0x00001463 ∷ 0x05d00893 ∷ 0x00000073 ∷ []

-- mul x5,x0,x0; add x5,x5,x2; sb x2,1(x5); addi x8,x0,1; lw x6,0(x5); div x7,x2,x8; sw x2,-32(x7); lw x9,8(x2);
-- addi x17,x0,93; ecall
abbrev violated_by_one_byte_code : List ℕ
violated_by_one_byte_code = 0x020002b3 ∷ 0x002282b3 ∷ 0x002280a3 ∷ 0x00100413 ∷ 0x0002a303 ∷ 0x028143b3 ∷ 0xfe23a023 ∷ 0x00812483 ∷ 0x05d00893 ∷ 0x00000073 ∷ []

-- the description with bits of dependence, and with history
abbrev history_number : Key → ℕ
history_number PredictorHistory = 2
history_number key = bits_number key

history_passes : IsTrue (all_pass 2 history_number Spectre Stt)
unfolding ones
history_passes = refl

abbrev with_history : Desc
with_history = tested 2 history_number Spectre Stt history_passes

-- Where two loads passed the store wrongly the older one is fetched anew, and all behind it.
oldest_load_violated_rows : List Row
oldest_load_violated_rows =
    row 1 (Fet 0x00010000 ∷ Fet 0x00010004 ∷ []) ∷
    row 2 (Ren 0 0x00010000 ∷ Ren 1 0x00010004 ∷ Fet 0x00010008 ∷ Fet 0x0001000c ∷ []) ∷
    row 3 (Mul 0 ∷ Ren 2 0x00010008 ∷ Ren 3 0x0001000c ∷ Fet 0x00010010 ∷ Fet 0x00010014 ∷ []) ∷
    row 4 (Std 2 ∷ Ld 3 0x0001fff0 Miss ∷ Ren 4 0x00010010 ∷ Ren 5 0x00010014 ∷ Fet 0x00010018 ∷ Fet 0x0001001c ∷ []) ∷
    row 5 (Ld 4 0x0001fff0 Join ∷ Alu 5 ∷ []) ∷
    row 6 (Done 0 ∷ Done 5 ∷ Ret 0 ∷ Alu 1 ∷ []) ∷
    row 7 (Done 1 ∷ Ret 1 ∷ Agu 2 ∷ []) ∷
    row 8 (Done 2 ∷ Clr 2 ∷ Vio 3 ∷ Dp 3 1 ∷ Sq 5 ∷ Ret 2 ∷ St 2 0x0001fff0 false ∷ Fet 0x0001000c ∷ Fet 0x00010010 ∷ []) ∷
    row 9 (Ren 6 0x0001000c ∷ Ren 7 0x00010010 ∷ Fet 0x00010014 ∷ Fet 0x00010018 ∷ []) ∷
    row 10 (Ld 6 0x0001fff0 Join ∷ Ren 8 0x00010014 ∷ Fet 0x0001001c ∷ []) ∷
    row 11 (Ld 7 0x0001fff0 Join ∷ Alu 8 ∷ []) ∷
    row 12 (Done 8 ∷ []) ∷
    quiet 13 1 ++
    row 14 (Fill 0x0001fff0 ∷ Done 6 ∷ Done 7 ∷ Ret 6 ∷ Ret 7 ∷ []) ∷
    row 15 (Ret 8 ∷ Ren 9 0x00010018 ∷ []) ∷
    row 16 (Ret 9 ∷ Call 9 0 ∷ []) ∷
    []

oldest_load_violated : trace with_bits (code_of oldest_load_violated_code) 0x10000 (memory 0 0) 100
    ≡ record { rows = oldest_load_violated_rows; end = Some (Exit 0); retired = 7; cycles = 16 }
unfolding decode cycle retire rename fetch count_leading_zeros row quiet memory code_of oldest_load_violated_rows
oldest_load_violated = refl

-- The violated load is fetched anew with the stack as it was before it, so the return behind it is predicted again.
stack_after_violation_rows : List Row
stack_after_violation_rows =
    row 1 (Fet 0x00010000 ∷ Fet 0x0001000c ∷ []) ∷
    row 2 (Ren 0 0x00010000 ∷ Ren 1 0x0001000c ∷ Fet 0x00010010 ∷ Fet 0x00010014 ∷ []) ∷
    row 3 (Alu 0 ∷ Mul 1 ∷ Ren 2 0x00010010 ∷ Ren 3 0x00010014 ∷ Fet 0x00010018 ∷ Fet 0x0001001c ∷ []) ∷
    row 4 (Done 0 ∷ Ret 0 ∷ Std 3 ∷ Ren 4 0x00010018 ∷ Ren 5 0x0001001c ∷ Fet 0x00010020 ∷ Fet 0x00010024 ∷ []) ∷
    row 5 (Ld 4 0x0001fff0 Miss ∷ Ren 6 0x00010020 ∷ Ren 7 0x00010024 ∷ Fet 0x00010004 ∷ Fet 0x00010008 ∷ []) ∷
    row 6 (Done 1 ∷ Ret 1 ∷ Alu 2 ∷ Ren 8 0x00010004 ∷ Fet 0x0001000c ∷ Fet 0x00010010 ∷ []) ∷
    row 7 (Done 2 ∷ Ret 2 ∷ Agu 3 ∷ Mul 5 ∷ Alu 8 ∷ Fet 0x00010014 ∷ Fet 0x00010018 ∷ []) ∷
    row 8 (Done 3 ∷ Done 8 ∷ Clr 3 ∷ Vio 4 ∷ Dp 6 1 ∷ Sq 10 ∷ Ret 3 ∷ St 3 0x0001fff0 false ∷ Fet 0x00010018 ∷ Fet 0x0001001c ∷ []) ∷
    row 9 (Ren 9 0x00010018 ∷ Ren 10 0x0001001c ∷ Fet 0x00010020 ∷ Fet 0x00010024 ∷ []) ∷
    row 10 (Ld 9 0x0001fff0 Join ∷ Mul 10 ∷ Ren 11 0x00010020 ∷ Ren 12 0x00010024 ∷ Fet 0x00010004 ∷ Fet 0x00010008 ∷ []) ∷
    row 11 (Ren 13 0x00010004 ∷ Fet 0x0001000c ∷ Fet 0x00010010 ∷ []) ∷
    row 12 (Alu 13 ∷ Fet 0x00010014 ∷ Fet 0x00010018 ∷ []) ∷
    row 13 (Done 10 ∷ Done 13 ∷ Alu 11 ∷ Fet 0x0001001c ∷ Fet 0x00010020 ∷ []) ∷
    row 14 (Done 11 ∷ Alu 12 ∷ Fet 0x00010024 ∷ []) ∷
    row 15 (Fill 0x0001fff0 ∷ Done 9 ∷ Done 12 ∷ Res 12 Jump ∷ Bt 1 0x00010004 ∷ Ret 9 ∷ Ret 10 ∷ []) ∷
    row 16 (Ret 11 ∷ Ret 12 ∷ []) ∷
    row 17 (Ret 13 ∷ Ren 14 0x00010008 ∷ Fet 0x00010028 ∷ []) ∷
    row 18 (Ret 14 ∷ Call 14 0 ∷ []) ∷
    []

stack_after_violation : trace with_stack (code_of stack_after_violation_code) 0x10000 (memory 0 0) 100
    ≡ record { rows = stack_after_violation_rows; end = Some (Exit 0); retired = 10; cycles = 18 }
unfolding decode cycle retire rename fetch count_leading_zeros row quiet memory code_of stack_after_violation_rows
stack_after_violation = refl

-- .. and with its history: the branch behind it has the same counter again, 7.
history_after_violation_rows : List Row
history_after_violation_rows =
    row 1 (Fet 0x00010000 ∷ Fet 0x00010004 ∷ []) ∷
    row 2 (Ren 0 0x00010000 ∷ Ren 1 0x00010004 ∷ Fet 0x00010008 ∷ Fet 0x0001000c ∷ []) ∷
    row 3 (Alu 0 ∷ Alu 1 ∷ Ren 2 0x00010008 ∷ Ren 3 0x0001000c ∷ Fet 0x00010010 ∷ Fet 0x00010014 ∷ []) ∷
    row 4 (Done 0 ∷ Done 1 ∷ Res 0 Taken ∷ Bp 0 2 ∷ Sq 5 ∷ Ret 0 ∷ Fet 0x00010008 ∷ Fet 0x0001000c ∷ []) ∷
    row 5 (Ren 4 0x00010008 ∷ Ren 5 0x0001000c ∷ Fet 0x00010010 ∷ Fet 0x00010014 ∷ []) ∷
    row 6 (Mul 4 ∷ Ren 6 0x00010010 ∷ Ren 7 0x00010014 ∷ Fet 0x00010018 ∷ Fet 0x0001001c ∷ []) ∷
    row 7 (Std 6 ∷ Ld 7 0x0001fff0 Miss ∷ Ren 8 0x00010018 ∷ Ren 9 0x0001001c ∷ Fet 0x00010020 ∷ Fet 0x00010024 ∷ []) ∷
    row 8 (Alu 8 ∷ Alu 9 ∷ []) ∷
    row 9 (Done 4 ∷ Done 8 ∷ Done 9 ∷ Res 8 NotTaken ∷ Bp 7 0 ∷ Ret 4 ∷ Alu 5 ∷ []) ∷
    row 10 (Done 5 ∷ Ret 5 ∷ Agu 6 ∷ []) ∷
    row 11 (Done 6 ∷ Clr 6 ∷ Vio 7 ∷ Dp 5 1 ∷ Sq 5 ∷ Ret 6 ∷ St 6 0x0001fff0 false ∷ Fet 0x00010014 ∷ Fet 0x00010018 ∷ []) ∷
    row 12 (Ren 10 0x00010014 ∷ Ren 11 0x00010018 ∷ Fet 0x0001001c ∷ Fet 0x00010020 ∷ []) ∷
    row 13 (Ld 10 0x0001fff0 Join ∷ Alu 11 ∷ Ren 12 0x0001001c ∷ Fet 0x00010024 ∷ []) ∷
    row 14 (Done 11 ∷ Res 11 NotTaken ∷ Bp 7 0 ∷ Alu 12 ∷ []) ∷
    row 15 (Done 12 ∷ []) ∷
    quiet 16 1 ++
    row 17 (Fill 0x0001fff0 ∷ Done 10 ∷ Ret 10 ∷ Ret 11 ∷ []) ∷
    row 18 (Ret 12 ∷ Ren 13 0x00010020 ∷ []) ∷
    row 19 (Ret 13 ∷ Call 13 0 ∷ []) ∷
    []

history_after_violation : trace with_history (code_of history_after_violation_code) 0x10000 (memory 0 0) 100
    ≡ record { rows = history_after_violation_rows; end = Some (Exit 0); retired = 8; cycles = 19 }
unfolding decode cycle retire rename fetch count_leading_zeros row quiet memory code_of history_after_violation_rows
history_after_violation = refl

-- One byte is enough, though not the load's first, and a load that issues with the store's address part (7) has passed
-- it. The load is fetched anew, not what stands between it and the store; the divider is free again; and another load
-- still passes (11).
violated_by_one_byte_rows : List Row
violated_by_one_byte_rows =
    row 1 (Fet 0x00010000 ∷ Fet 0x00010004 ∷ []) ∷
    row 2 (Ren 0 0x00010000 ∷ Ren 1 0x00010004 ∷ Fet 0x00010008 ∷ Fet 0x0001000c ∷ []) ∷
    row 3 (Mul 0 ∷ Ren 2 0x00010008 ∷ Ren 3 0x0001000c ∷ Fet 0x00010010 ∷ Fet 0x00010014 ∷ []) ∷
    row 4 (Std 2 ∷ Alu 3 ∷ Ren 4 0x00010010 ∷ Ren 5 0x00010014 ∷ Fet 0x00010018 ∷ Fet 0x0001001c ∷ []) ∷
    row 5 (Done 3 ∷ Div 5 20 ∷ Ren 6 0x00010018 ∷ Ren 7 0x0001001c ∷ Fet 0x00010020 ∷ Fet 0x00010024 ∷ []) ∷
    row 6 (Done 0 ∷ Ret 0 ∷ Alu 1 ∷ Std 6 ∷ Ld 7 0x0001fff0 Miss ∷ Ren 8 0x00010020 ∷ Fet 0x00010028 ∷ []) ∷
    row 7 (Done 1 ∷ Ret 1 ∷ Agu 2 ∷ Ld 4 0x0001fff0 Join ∷ Alu 8 ∷ []) ∷
    row 8 (Done 2 ∷ Done 8 ∷ Clr 2 ∷ Vio 4 ∷ Dp 4 1 ∷ Sq 7 ∷ Ret 2 ∷ St 2 0x0001fff0 false ∷ Ret 3 ∷ Fet 0x00010010 ∷ Fet 0x00010014 ∷ []) ∷
    row 9 (Ren 9 0x00010010 ∷ Ren 10 0x00010014 ∷ Fet 0x00010018 ∷ Fet 0x0001001c ∷ []) ∷
    row 10 (Ld 9 0x0001fff0 Join ∷ Div 10 20 ∷ Ren 11 0x00010018 ∷ Ren 12 0x0001001c ∷ Fet 0x00010020 ∷ Fet 0x00010024 ∷ []) ∷
    row 11 (Std 11 ∷ Ld 12 0x0001fff0 Join ∷ Ren 13 0x00010020 ∷ Fet 0x00010028 ∷ []) ∷
    row 12 (Alu 13 ∷ []) ∷
    row 13 (Done 13 ∷ []) ∷
    quiet 14 2 ++
    row 16 (Fill 0x0001fff0 ∷ Done 9 ∷ Done 12 ∷ Ret 9 ∷ []) ∷
    quiet 17 13 ++
    row 30 (Done 10 ∷ Ret 10 ∷ Agu 11 ∷ []) ∷
    row 31 (Done 11 ∷ Clr 11 ∷ Ret 11 ∷ St 11 0x0001ffd0 false ∷ Ret 12 ∷ []) ∷
    row 32 (Ret 13 ∷ Ren 14 0x00010024 ∷ []) ∷
    row 33 (Ret 14 ∷ Call 14 0 ∷ []) ∷
    []

violated_by_one_byte : trace with_bits (code_of violated_by_one_byte_code) 0x10000 (memory 0 0) 100
    ≡ record { rows = violated_by_one_byte_rows; end = Some (Exit 0); retired = 10; cycles = 33 }
unfolding decode cycle retire rename fetch count_leading_zeros row quiet memory code_of violated_by_one_byte_rows
violated_by_one_byte = refl
