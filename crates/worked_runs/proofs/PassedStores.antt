-- Loads that pass stores of unknown address.
use Rattle.std.proofs.Common.{◌≡◌, ℕ, List, [], ◌∷◌, ◌++◌, Some, true, false, refl}
use Rattle.std.specs.Int.Count.{count_leading_zeros}
use Rattle.rv_types.specs.Decode.{decode}
use Rattle.rv_types.specs.declared.End.TheVariants.{Exit, Trap}
use Rattle.rv_types.specs.Causes.{load_misaligned, store_misaligned}
use Rattle.machine_desc.specs.declared.Desc.{Desc}
use Rattle.machine_desc.specs.declared.SttModel.TheVariants.{Futuristic}
use Rattle.machine_desc.specs.declared.Defence.TheVariants.{Stt}
use Rattle.machine_desc.proofs.Changed.{with_stt}
use Rattle.rv_types.specs.Isa.{reg}
use Rattle.worked_runs.proofs.Version2.{example_2, with_bits}
use Rattle.window_model.specs.declared.Event.TheVariants.{Fill, Done, Res, Bp, Sq, Clr, Vio, Dp, Ret, St, Call, Alu, Mul, Div, Agu, Std, Ld, LdForward, LdFault, Ren, Fet}
use Rattle.window_model.specs.declared.Look.TheVariants.{Hit, Miss, Join}
use Rattle.window_model.specs.declared.Way.TheVariants.{Taken, NotTaken}
use Rattle.window_model.specs.Row.{Row}
use Rattle.window_model.specs.Cycle.{trace, cycle, at}
use Rattle.window_model.specs.Retire.{retire}
use Rattle.window_model.specs.Rename.{rename}
use Rattle.window_model.specs.Fetch.{fetch}
use Rattle.window_model.proofs.Worked.{code_of, memory, row, quiet}

-- mul x5,x0,x0; add x5,x5,x2; sw x2,0(x5); lw x6,0(x2); addi x17,x0,93; ecall
abbrev late_address : List ℕ
late_address = 0x020002b3 ∷ 0x002282b3 ∷ 0x0022a023 ∷ 0x00012303 ∷ 0x05d00893 ∷ 0x00000073 ∷ []

-- lw x5,0(x2); mul x5,x5,x5; bgeu x0,x5,+16; lbu x6,8(x2); add x6,x6,x2; sb x2,4(x6); addi x17,x0,93; ecall
abbrev tainted_address_not_cleared_code : List ℕ
tainted_address_not_cleared_code = 0x00012283 ∷ 0x025282b3 ∷ 0x00507863 ∷ 0x00814303 ∷ 0x00230333 ∷ 0x00230223 ∷ 0x05d00893 ∷ 0x00000073 ∷ []

-- div x8,x2,x2; sw x2,-16(x8); lw x5,8(x2); add x5,x5,x2; lw x6,-32(x5); addi x17,x0,93; ecall
abbrev clearing_hides_code : List ℕ
clearing_hides_code = 0x02214433 ∷ 0xfe242823 ∷ 0x00812283 ∷ 0x002282b3 ∷ 0xfe02a303 ∷ 0x05d00893 ∷ 0x00000073 ∷ []

-- mul x8,x0,x0; add x8,x8,x2; lw x5,-64(x8); lbu x6,8(x2); add x7,x6,x2; sw x2,-32(x7); sw x2,-36(x7); lw x9,12(x2);
-- add x9,x9,x2; lw x10,-128(x9); addi x17,x0,93; ecall
abbrev clearing_hides_futuristic_code : List ℕ
clearing_hides_futuristic_code = 0x02000433 ∷ 0x00240433 ∷ 0xfc042283 ∷ 0x00814303 ∷ 0x002303b3 ∷ 0xfe23a023 ∷ 0xfc23ae23 ∷ 0x00c12483 ∷ 0x002484b3 ∷ 0xf804a503 ∷ 0x05d00893 ∷ 0x00000073 ∷ []

-- lw x5,0(x2); mul x8,x0,x0; mul x5,x5,x5; bgeu x0,x5,+36; lbu x6,8(x2); add x6,x6,x2; sb x2,4(x6); mul x8,x8,x8;
-- mul x8,x8,x8; addi x8,x8,0; addi x8,x8,0; add x8,x8,x2; lbu x7,4(x8); addi x17,x0,93; ecall
abbrev passed_before_known_code : List ℕ
passed_before_known_code = 0x00012283 ∷ 0x02000433 ∷ 0x025282b3 ∷ 0x02507263 ∷ 0x00814303 ∷ 0x00230333 ∷ 0x00230223 ∷ 0x02840433 ∷ 0x02840433 ∷ 0x00040413 ∷ 0x00040413 ∷ 0x00240433 ∷ 0x00444383 ∷ 0x05d00893 ∷ 0x00000073 ∷ []

-- div x5,x2,x2; sw x5,0(x2); lw x6,8(x2); lw x7,0(x2); addi x17,x0,93; ecall
abbrev cleared_without_data_code : List ℕ
cleared_without_data_code = 0x022142b3 ∷ 0x00512023 ∷ 0x00812303 ∷ 0x00012383 ∷ 0x05d00893 ∷ 0x00000073 ∷ []

-- addi x8,x0,2; mul x5,x0,x0; add x5,x5,x2; sw x2,0(x5); lw x6,0(x2); addi x8,x8,-1; bne x8,x0,-20; addi x17,x0,93;
-- ecall
abbrev waits_the_second_time_code : List ℕ
waits_the_second_time_code = 0x00200413 ∷ 0x020002b3 ∷ 0x002282b3 ∷ 0x0022a023 ∷ 0x00012303 ∷ 0xfff40413 ∷ 0xfe0416e3 ∷ 0x05d00893 ∷ 0x00000073 ∷ []

-- mul x5,x0,x0; add x5,x5,x2; sw x2,2(x5); lw x6,0(x2); addi x17,x0,93; ecall
abbrev faulting_store_cleared_code : List ℕ
faulting_store_cleared_code = 0x020002b3 ∷ 0x002282b3 ∷ 0x0022a123 ∷ 0x00012303 ∷ 0x05d00893 ∷ 0x00000073 ∷ []

-- mul x5,x0,x0; add x5,x5,x2; sw x2,0(x5); lw x6,2(x2)
abbrev faulting_load_not_violated_code : List ℕ
faulting_load_not_violated_code = 0x020002b3 ∷ 0x002282b3 ∷ 0x0022a023 ∷ 0x00212303 ∷ []

-- the description with bits of dependence, under the futuristic model
abbrev futuristic_2 : Desc
futuristic_2 = with_stt with_bits Futuristic Stt refl refl

-- addi x8,x0,1; div x5,x2,x8; sw x2,-32(x5); lw x6,8(x2); add x7,x6,x2; sw x2,-36(x7); sw x2,-40(x7); sw x2,2(x7)
abbrev trap_not_cleared_code : List ℕ
trap_not_cleared_code = 0x00100413 ∷ 0x028142b3 ∷ 0xfe22a023 ∷ 0x00812303 ∷ 0x002303b3 ∷ 0xfc23ae23 ∷ 0xfc23ac23 ∷ 0x0023a123 ∷ []

-- lw x5,0(x2); mul x5,x5,x5; bgeu x0,x5,+12; lbu x6,8(x2); sw x6,4(x2); addi x17,x0,93; ecall
abbrev cleared_with_tainted_data_code : List ℕ
cleared_with_tainted_data_code = 0x00012283 ∷ 0x025282b3 ∷ 0x00507663 ∷ 0x00814303 ∷ 0x00612223 ∷ 0x05d00893 ∷ 0x00000073 ∷ []

-- what the violated load loads in the end is what the store wrote
wrong_pass_loads : reg (at with_bits (code_of late_address) 0x10000 (memory 0 0) 100).regs 6 ≡ 0x1fff0
unfolding decode cycle retire rename fetch count_leading_zeros memory code_of
wrong_pass_loads = refl

-- The store's address comes from a multiplication, and the load goes before. The store is cleared in cycle 8: the load
-- has passed it wrongly, and is fetched anew with all behind it.
wrong_pass_rows : List Row
wrong_pass_rows =
    row 1 (Fet 0x00010000 ∷ Fet 0x00010004 ∷ []) ∷
    row 2 (Ren 0 0x00010000 ∷ Ren 1 0x00010004 ∷ Fet 0x00010008 ∷ Fet 0x0001000c ∷ []) ∷
    row 3 (Mul 0 ∷ Ren 2 0x00010008 ∷ Ren 3 0x0001000c ∷ Fet 0x00010010 ∷ Fet 0x00010014 ∷ []) ∷
    row 4 (Std 2 ∷ Ld 3 0x0001fff0 Miss ∷ Ren 4 0x00010010 ∷ Fet 0x00010018 ∷ []) ∷
    row 5 (Alu 4 ∷ []) ∷
    row 6 (Done 0 ∷ Done 4 ∷ Ret 0 ∷ Alu 1 ∷ []) ∷
    row 7 (Done 1 ∷ Ret 1 ∷ Agu 2 ∷ []) ∷
    row 8 (Done 2 ∷ Clr 2 ∷ Vio 3 ∷ Dp 3 1 ∷ Sq 4 ∷ Ret 2 ∷ St 2 0x0001fff0 false ∷ Fet 0x0001000c ∷ Fet 0x00010010 ∷ []) ∷
    row 9 (Ren 5 0x0001000c ∷ Ren 6 0x00010010 ∷ Fet 0x00010014 ∷ Fet 0x00010018 ∷ []) ∷
    row 10 (Ld 5 0x0001fff0 Join ∷ Alu 6 ∷ []) ∷
    row 11 (Done 6 ∷ []) ∷
    quiet 12 2 ++
    row 14 (Fill 0x0001fff0 ∷ Done 5 ∷ Ret 5 ∷ Ret 6 ∷ Ren 7 0x00010014 ∷ []) ∷
    row 15 (Ret 7 ∷ Call 7 0 ∷ []) ∷
    []

wrong_pass : trace with_bits (code_of late_address) 0x10000 (memory 0 0) 100
    ≡ record { rows = wrong_pass_rows; end = Some (Exit 0); retired = 6; cycles = 15 }
unfolding decode cycle retire rename fetch count_leading_zeros row quiet memory code_of wrong_pass_rows
wrong_pass = refl

-- Without a dependence predictor the load waits, and nothing is cleared.
no_pass_rows : List Row
no_pass_rows =
    row 1 (Fet 0x00010000 ∷ Fet 0x00010004 ∷ []) ∷
    row 2 (Ren 0 0x00010000 ∷ Ren 1 0x00010004 ∷ Fet 0x00010008 ∷ Fet 0x0001000c ∷ []) ∷
    row 3 (Mul 0 ∷ Ren 2 0x00010008 ∷ Ren 3 0x0001000c ∷ Fet 0x00010010 ∷ Fet 0x00010014 ∷ []) ∷
    row 4 (Std 2 ∷ Ren 4 0x00010010 ∷ Fet 0x00010018 ∷ []) ∷
    row 5 (Alu 4 ∷ []) ∷
    row 6 (Done 0 ∷ Done 4 ∷ Ret 0 ∷ Alu 1 ∷ []) ∷
    row 7 (Done 1 ∷ Ret 1 ∷ Agu 2 ∷ []) ∷
    row 8 (Done 2 ∷ Ret 2 ∷ St 2 0x0001fff0 false ∷ Ld 3 0x0001fff0 Miss ∷ []) ∷
    quiet 9 9 ++
    row 18 (Fill 0x0001fff0 ∷ Done 3 ∷ Ret 3 ∷ Ret 4 ∷ Ren 5 0x00010014 ∷ []) ∷
    row 19 (Ret 5 ∷ Call 5 0 ∷ []) ∷
    []

no_pass : trace example_2 (code_of late_address) 0x10000 (memory 0 0) 100
    ≡ record { rows = no_pass_rows; end = Some (Exit 0); retired = 6; cycles = 19 }
unfolding decode cycle retire rename fetch count_leading_zeros row quiet memory code_of no_pass_rows
no_pass = refl

-- A store whose address is tainted is cleared only once it no longer is: known in cycle 15, it is cleared in 17.
tainted_address_not_cleared_rows : List Row
tainted_address_not_cleared_rows =
    row 1 (Fet 0x00010000 ∷ Fet 0x00010004 ∷ []) ∷
    row 2 (Ren 0 0x00010000 ∷ Ren 1 0x00010004 ∷ Fet 0x00010008 ∷ Fet 0x0001000c ∷ []) ∷
    row 3 (Ld 0 0x0001fff0 Miss ∷ Ren 2 0x00010008 ∷ Ren 3 0x0001000c ∷ Fet 0x00010010 ∷ Fet 0x00010014 ∷ []) ∷
    row 4 (Ld 3 0x0001fff0 Join ∷ Ren 4 0x00010010 ∷ Ren 5 0x00010014 ∷ Fet 0x00010018 ∷ Fet 0x0001001c ∷ []) ∷
    row 5 (Std 5 ∷ Ren 6 0x00010018 ∷ Fet 0x00010020 ∷ []) ∷
    row 6 (Alu 6 ∷ []) ∷
    row 7 (Done 6 ∷ []) ∷
    quiet 8 5 ++
    row 13 (Fill 0x0001fff0 ∷ Done 0 ∷ Done 3 ∷ Ret 0 ∷ Mul 1 ∷ Alu 4 ∷ []) ∷
    row 14 (Done 4 ∷ Agu 5 ∷ []) ∷
    row 15 (Done 5 ∷ []) ∷
    row 16 (Done 1 ∷ Ret 1 ∷ Alu 2 ∷ []) ∷
    row 17 (Done 2 ∷ Res 2 NotTaken ∷ Bp 2 0 ∷ Clr 5 ∷ Ret 2 ∷ Ret 3 ∷ []) ∷
    row 18 (Ret 4 ∷ Ret 5 ∷ St 5 0x0001fff0 true ∷ []) ∷
    row 19 (Ret 6 ∷ Ren 7 0x0001001c ∷ []) ∷
    row 20 (Ret 7 ∷ Call 7 0 ∷ []) ∷
    []

tainted_address_not_cleared : trace with_bits (code_of tainted_address_not_cleared_code) 0x10000 (memory 1 0) 100
    ≡ record { rows = tainted_address_not_cleared_rows; end = Some (Exit 0); retired = 8; cycles = 20 }
unfolding decode cycle retire rename fetch count_leading_zeros row quiet memory code_of tainted_address_not_cleared_rows
tainted_address_not_cleared = refl

-- Under the spectre model a load isn't visible before each older store is cleared: what has its base from it waits for
-- the store's address, which comes from a division.
clearing_hides_rows : List Row
clearing_hides_rows =
    row 1 (Fet 0x00010000 ∷ Fet 0x00010004 ∷ []) ∷
    row 2 (Ren 0 0x00010000 ∷ Ren 1 0x00010004 ∷ Fet 0x00010008 ∷ Fet 0x0001000c ∷ []) ∷
    row 3 (Div 0 20 ∷ Std 1 ∷ Ren 2 0x00010008 ∷ Ren 3 0x0001000c ∷ Fet 0x00010010 ∷ Fet 0x00010014 ∷ []) ∷
    row 4 (Ld 2 0x0001fff0 Miss ∷ Ren 4 0x00010010 ∷ Ren 5 0x00010014 ∷ Fet 0x00010018 ∷ Fet 0x0001001c ∷ []) ∷
    row 5 (Alu 5 ∷ []) ∷
    row 6 (Done 5 ∷ []) ∷
    quiet 7 7 ++
    row 14 (Fill 0x0001fff0 ∷ Done 2 ∷ Alu 3 ∷ []) ∷
    row 15 (Done 3 ∷ []) ∷
    quiet 16 7 ++
    row 23 (Done 0 ∷ Ret 0 ∷ Agu 1 ∷ []) ∷
    row 24 (Done 1 ∷ Clr 1 ∷ []) ∷
    []

clearing_hides : trace with_bits (code_of clearing_hides_code) 0x10000 (memory 0 0) 100
    ≡ record { rows = clearing_hides_rows; end = Some (Trap store_misaligned 0x10004); retired = 1; cycles = 24 }
unfolding decode cycle retire rename fetch count_leading_zeros row quiet memory code_of clearing_hides_rows
clearing_hides = refl

-- One store is cleared a cycle, and under the futuristic model one that is done isn't safe before: the last load waits
-- for the second store.
clearing_hides_futuristic_rows : List Row
clearing_hides_futuristic_rows =
    row 1 (Fet 0x00010000 ∷ Fet 0x00010004 ∷ []) ∷
    row 2 (Ren 0 0x00010000 ∷ Ren 1 0x00010004 ∷ Fet 0x00010008 ∷ Fet 0x0001000c ∷ []) ∷
    row 3 (Mul 0 ∷ Ren 2 0x00010008 ∷ Ren 3 0x0001000c ∷ Fet 0x00010010 ∷ Fet 0x00010014 ∷ []) ∷
    row 4 (Ld 3 0x0001fff0 Miss ∷ Ren 4 0x00010010 ∷ Ren 5 0x00010014 ∷ Fet 0x00010018 ∷ Fet 0x0001001c ∷ []) ∷
    row 5 (Std 5 ∷ Ren 6 0x00010018 ∷ Ren 7 0x0001001c ∷ Fet 0x00010020 ∷ Fet 0x00010024 ∷ []) ∷
    row 6 (Done 0 ∷ Ret 0 ∷ Alu 1 ∷ Std 6 ∷ Ren 8 0x00010020 ∷ Ren 9 0x00010024 ∷ Fet 0x00010028 ∷ Fet 0x0001002c ∷ []) ∷
    row 7 (Done 1 ∷ Ret 1 ∷ Ld 2 0x0001ffb0 Miss ∷ Ren 10 0x00010028 ∷ Fet 0x00010030 ∷ []) ∷
    row 8 (Ld 7 0x0001fff0 Join ∷ Alu 10 ∷ []) ∷
    row 9 (Done 10 ∷ []) ∷
    quiet 10 4 ++
    row 14 (Fill 0x0001fff0 ∷ Done 3 ∷ Done 7 ∷ Alu 4 ∷ Alu 8 ∷ []) ∷
    row 15 (Done 4 ∷ Done 8 ∷ Agu 5 ∷ []) ∷
    row 16 (Done 5 ∷ Agu 6 ∷ []) ∷
    row 17 (Fill 0x0001ffb0 ∷ Done 2 ∷ Done 6 ∷ Clr 5 ∷ Ret 2 ∷ Ret 3 ∷ []) ∷
    row 18 (Clr 6 ∷ Ret 4 ∷ Ret 5 ∷ St 5 0x0001ffd0 false ∷ Ld 9 0x0001ff70 Miss ∷ []) ∷
    row 19 (Ret 6 ∷ St 6 0x0001ffc0 false ∷ Ret 7 ∷ []) ∷
    row 20 (Ret 8 ∷ []) ∷
    quiet 21 7 ++
    row 28 (Fill 0x0001ff70 ∷ Done 9 ∷ Ret 9 ∷ Ret 10 ∷ Ren 11 0x0001002c ∷ []) ∷
    row 29 (Ret 11 ∷ Call 11 0 ∷ []) ∷
    []

clearing_hides_futuristic : trace futuristic_2 (code_of clearing_hides_futuristic_code) 0x10000 (memory 0 0) 100
    ≡ record { rows = clearing_hides_futuristic_rows; end = Some (Exit 0); retired = 12; cycles = 29 }
unfolding decode cycle retire rename fetch count_leading_zeros row quiet memory code_of clearing_hides_futuristic_rows
clearing_hides_futuristic = refl

-- A load that issues in the cycle in which the store's address becomes known (15) hasn't passed it: nothing is violated
-- as the store is cleared.
passed_before_known_rows : List Row
passed_before_known_rows =
    row 1 (Fet 0x00010000 ∷ Fet 0x00010004 ∷ []) ∷
    row 2 (Ren 0 0x00010000 ∷ Ren 1 0x00010004 ∷ Fet 0x00010008 ∷ Fet 0x0001000c ∷ []) ∷
    row 3 (Ld 0 0x0001fff0 Miss ∷ Mul 1 ∷ Ren 2 0x00010008 ∷ Ren 3 0x0001000c ∷ Fet 0x00010010 ∷ Fet 0x00010014 ∷ []) ∷
    row 4 (Ren 4 0x00010010 ∷ Ren 5 0x00010014 ∷ Fet 0x00010018 ∷ Fet 0x0001001c ∷ []) ∷
    row 5 (Ld 4 0x0001fff0 Join ∷ Ren 6 0x00010018 ∷ Ren 7 0x0001001c ∷ Fet 0x00010020 ∷ Fet 0x00010024 ∷ []) ∷
    row 6 (Done 1 ∷ Std 6 ∷ Mul 7 ∷ Ren 8 0x00010020 ∷ Ren 9 0x00010024 ∷ Fet 0x00010028 ∷ Fet 0x0001002c ∷ []) ∷
    row 7 (Ren 10 0x00010028 ∷ Ren 11 0x0001002c ∷ Fet 0x00010030 ∷ Fet 0x00010034 ∷ []) ∷
    row 8 (Fet 0x00010038 ∷ Fet 0x0001003c ∷ []) ∷
    row 9 (Done 7 ∷ Mul 8 ∷ Ren 12 0x00010030 ∷ []) ∷
    quiet 10 2 ++
    row 12 (Done 8 ∷ Alu 9 ∷ Ren 13 0x00010034 ∷ []) ∷
    row 13 (Fill 0x0001fff0 ∷ Done 0 ∷ Done 4 ∷ Done 9 ∷ Ret 0 ∷ Ret 1 ∷ Mul 2 ∷ Alu 5 ∷ Alu 10 ∷ []) ∷
    row 14 (Done 5 ∷ Done 10 ∷ Agu 6 ∷ Alu 11 ∷ Alu 13 ∷ []) ∷
    row 15 (Done 6 ∷ Done 11 ∷ Done 13 ∷ Ld 12 0x0001fff0 Hit ∷ []) ∷
    row 16 (Done 2 ∷ Ret 2 ∷ Alu 3 ∷ []) ∷
    row 17 (Done 3 ∷ Done 12 ∷ Res 3 NotTaken ∷ Bp 3 0 ∷ Clr 6 ∷ Ret 3 ∷ Ret 4 ∷ []) ∷
    row 18 (Ret 5 ∷ Ret 6 ∷ St 6 0x0001fff0 true ∷ []) ∷
    row 19 (Ret 7 ∷ Ret 8 ∷ []) ∷
    row 20 (Ret 9 ∷ Ret 10 ∷ []) ∷
    row 21 (Ret 11 ∷ Ret 12 ∷ []) ∷
    row 22 (Ret 13 ∷ Ren 14 0x00010038 ∷ []) ∷
    row 23 (Ret 14 ∷ Call 14 0 ∷ []) ∷
    []

passed_before_known : trace with_bits (code_of passed_before_known_code) 0x10000 (memory 1 0) 100
    ≡ record { rows = passed_before_known_rows; end = Some (Exit 0); retired = 15; cycles = 23 }
unfolding decode cycle retire rename fetch count_leading_zeros row quiet memory code_of passed_before_known_rows
passed_before_known = refl

-- A store is cleared before its data is there.
cleared_without_data_rows : List Row
cleared_without_data_rows =
    row 1 (Fet 0x00010000 ∷ Fet 0x00010004 ∷ []) ∷
    row 2 (Ren 0 0x00010000 ∷ Ren 1 0x00010004 ∷ Fet 0x00010008 ∷ Fet 0x0001000c ∷ []) ∷
    row 3 (Div 0 20 ∷ Agu 1 ∷ Ren 2 0x00010008 ∷ Ren 3 0x0001000c ∷ Fet 0x00010010 ∷ Fet 0x00010014 ∷ []) ∷
    row 4 (Clr 1 ∷ Ld 2 0x0001fff0 Miss ∷ Ren 4 0x00010010 ∷ Fet 0x00010018 ∷ []) ∷
    row 5 (Alu 4 ∷ []) ∷
    row 6 (Done 4 ∷ []) ∷
    quiet 7 7 ++
    row 14 (Fill 0x0001fff0 ∷ Done 2 ∷ []) ∷
    quiet 15 8 ++
    row 23 (Done 0 ∷ Ret 0 ∷ Std 1 ∷ []) ∷
    row 24 (Done 1 ∷ Ret 1 ∷ St 1 0x0001fff0 true ∷ Ret 2 ∷ Ld 3 0x0001fff0 Hit ∷ []) ∷
    quiet 25 1 ++
    row 26 (Done 3 ∷ Ret 3 ∷ Ret 4 ∷ Ren 5 0x00010014 ∷ []) ∷
    row 27 (Ret 5 ∷ Call 5 0 ∷ []) ∷
    []

cleared_without_data : trace with_bits (code_of cleared_without_data_code) 0x10000 (memory 0 0) 100
    ≡ record { rows = cleared_without_data_rows; end = Some (Exit 0); retired = 6; cycles = 27 }
unfolding decode cycle retire rename fetch count_leading_zeros row quiet memory code_of cleared_without_data_rows
cleared_without_data = refl

-- In the second round the load waits for the store: its bit is set.
waits_the_second_time_rows : List Row
waits_the_second_time_rows =
    row 1 (Fet 0x00010000 ∷ Fet 0x00010004 ∷ []) ∷
    row 2 (Ren 0 0x00010000 ∷ Ren 1 0x00010004 ∷ Fet 0x00010008 ∷ Fet 0x0001000c ∷ []) ∷
    row 3 (Alu 0 ∷ Mul 1 ∷ Ren 2 0x00010008 ∷ Ren 3 0x0001000c ∷ Fet 0x00010010 ∷ Fet 0x00010014 ∷ []) ∷
    row 4 (Done 0 ∷ Ret 0 ∷ Std 3 ∷ Ren 4 0x00010010 ∷ Ren 5 0x00010014 ∷ Fet 0x00010018 ∷ Fet 0x0001001c ∷ []) ∷
    row 5 (Ld 4 0x0001fff0 Miss ∷ Alu 5 ∷ Ren 6 0x00010018 ∷ Ren 7 0x0001001c ∷ Fet 0x00010020 ∷ Fet 0x00010024 ∷ []) ∷
    row 6 (Done 1 ∷ Done 5 ∷ Ret 1 ∷ Alu 2 ∷ Alu 6 ∷ []) ∷
    row 7 (Done 2 ∷ Done 6 ∷ Res 6 Taken ∷ Bp 6 2 ∷ Sq 3 ∷ Ret 2 ∷ Agu 3 ∷ Fet 0x00010004 ∷ Fet 0x00010008 ∷ []) ∷
    row 8 (Done 3 ∷ Clr 3 ∷ Vio 4 ∷ Dp 4 1 ∷ Sq 5 ∷ Ret 3 ∷ St 3 0x0001fff0 false ∷ Fet 0x00010010 ∷ Fet 0x00010014 ∷ []) ∷
    row 9 (Ren 8 0x00010010 ∷ Ren 9 0x00010014 ∷ Fet 0x00010018 ∷ Fet 0x00010004 ∷ []) ∷
    row 10 (Ld 8 0x0001fff0 Join ∷ Alu 9 ∷ Ren 10 0x00010018 ∷ Ren 11 0x00010004 ∷ Fet 0x00010008 ∷ Fet 0x0001000c ∷ []) ∷
    row 11 (Done 9 ∷ Alu 10 ∷ Mul 11 ∷ Ren 12 0x00010008 ∷ Ren 13 0x0001000c ∷ Fet 0x00010010 ∷ Fet 0x00010014 ∷ []) ∷
    row 12 (Done 10 ∷ Res 10 Taken ∷ Bp 6 3 ∷ Std 13 ∷ Ren 14 0x00010010 ∷ Ren 15 0x00010014 ∷ Fet 0x00010018 ∷ Fet 0x00010004 ∷ []) ∷
    row 13 (Alu 15 ∷ Ren 16 0x00010018 ∷ Ren 17 0x00010004 ∷ Fet 0x00010008 ∷ Fet 0x0001000c ∷ []) ∷
    row 14 (Done 11 ∷ Done 15 ∷ Alu 12 ∷ Alu 16 ∷ Mul 17 ∷ Ren 18 0x00010008 ∷ Ren 19 0x0001000c ∷ Fet 0x00010010 ∷ Fet 0x00010014 ∷ []) ∷
    row 15 (Fill 0x0001fff0 ∷ Done 8 ∷ Done 12 ∷ Done 16 ∷ Res 16 NotTaken ∷ Bp 6 2 ∷ Sq 5 ∷ Ret 8 ∷ Ret 9 ∷ Agu 13 ∷ Fet 0x0001001c ∷ Fet 0x00010020 ∷ []) ∷
    row 16 (Done 13 ∷ Clr 13 ∷ Ret 10 ∷ Ret 11 ∷ LdForward 14 ∷ Ren 20 0x0001001c ∷ Fet 0x00010024 ∷ []) ∷
    row 17 (Done 14 ∷ Ret 12 ∷ Ret 13 ∷ St 13 0x0001fff0 true ∷ Alu 20 ∷ []) ∷
    row 18 (Done 20 ∷ Ret 14 ∷ Ret 15 ∷ []) ∷
    row 19 (Ret 16 ∷ Ret 20 ∷ Ren 21 0x00010020 ∷ []) ∷
    row 20 (Ret 21 ∷ Call 21 0 ∷ []) ∷
    []

waits_the_second_time : trace with_bits (code_of waits_the_second_time_code) 0x10000 (memory 0 0) 100
    ≡ record { rows = waits_the_second_time_rows; end = Some (Exit 0); retired = 15; cycles = 20 }
unfolding decode cycle retire rename fetch count_leading_zeros row quiet memory code_of waits_the_second_time_rows
waits_the_second_time = refl

-- A store with a fault is cleared too, and no load is violated.
faulting_store_cleared_rows : List Row
faulting_store_cleared_rows =
    row 1 (Fet 0x00010000 ∷ Fet 0x00010004 ∷ []) ∷
    row 2 (Ren 0 0x00010000 ∷ Ren 1 0x00010004 ∷ Fet 0x00010008 ∷ Fet 0x0001000c ∷ []) ∷
    row 3 (Mul 0 ∷ Ren 2 0x00010008 ∷ Ren 3 0x0001000c ∷ Fet 0x00010010 ∷ Fet 0x00010014 ∷ []) ∷
    row 4 (Std 2 ∷ Ld 3 0x0001fff0 Miss ∷ Ren 4 0x00010010 ∷ Fet 0x00010018 ∷ []) ∷
    row 5 (Alu 4 ∷ []) ∷
    row 6 (Done 0 ∷ Done 4 ∷ Ret 0 ∷ Alu 1 ∷ []) ∷
    row 7 (Done 1 ∷ Ret 1 ∷ Agu 2 ∷ []) ∷
    row 8 (Done 2 ∷ Clr 2 ∷ []) ∷
    []

faulting_store_cleared : trace with_bits (code_of faulting_store_cleared_code) 0x10000 (memory 0 0) 100
    ≡ record { rows = faulting_store_cleared_rows; end = Some (Trap store_misaligned 0x10008); retired = 2; cycles = 8 }
unfolding decode cycle retire rename fetch count_leading_zeros row quiet memory code_of faulting_store_cleared_rows
faulting_store_cleared = refl

-- Nor is a load with a fault.
faulting_load_not_violated_rows : List Row
faulting_load_not_violated_rows =
    row 1 (Fet 0x00010000 ∷ Fet 0x00010004 ∷ []) ∷
    row 2 (Ren 0 0x00010000 ∷ Ren 1 0x00010004 ∷ Fet 0x00010008 ∷ Fet 0x0001000c ∷ []) ∷
    row 3 (Mul 0 ∷ Ren 2 0x00010008 ∷ Ren 3 0x0001000c ∷ Fet 0x00010010 ∷ []) ∷
    row 4 (Std 2 ∷ LdFault 3 ∷ Ren 4 0x00010010 ∷ []) ∷
    row 5 (Done 3 ∷ []) ∷
    row 6 (Done 0 ∷ Ret 0 ∷ Alu 1 ∷ []) ∷
    row 7 (Done 1 ∷ Ret 1 ∷ Agu 2 ∷ []) ∷
    row 8 (Done 2 ∷ Clr 2 ∷ Ret 2 ∷ St 2 0x0001fff0 false ∷ []) ∷
    []

faulting_load_not_violated : trace with_bits (code_of faulting_load_not_violated_code) 0x10000 (memory 0 0) 100
    ≡ record { rows = faulting_load_not_violated_rows; end = Some (Trap load_misaligned 0x1000c); retired = 3; cycles = 8 }
unfolding decode cycle retire rename fetch count_leading_zeros row quiet memory code_of faulting_load_not_violated_rows
faulting_load_not_violated = refl

-- A store with a fault traps as the oldest before it is cleared: the one before it was cleared in that cycle.
trap_not_cleared_rows : List Row
trap_not_cleared_rows =
    row 1 (Fet 0x00010000 ∷ Fet 0x00010004 ∷ []) ∷
    row 2 (Ren 0 0x00010000 ∷ Ren 1 0x00010004 ∷ Fet 0x00010008 ∷ Fet 0x0001000c ∷ []) ∷
    row 3 (Alu 0 ∷ Ren 2 0x00010008 ∷ Ren 3 0x0001000c ∷ Fet 0x00010010 ∷ Fet 0x00010014 ∷ []) ∷
    row 4 (Done 0 ∷ Ret 0 ∷ Div 1 20 ∷ Std 2 ∷ Ld 3 0x0001fff0 Miss ∷ Ren 4 0x00010010 ∷ Ren 5 0x00010014 ∷ Fet 0x00010018 ∷ Fet 0x0001001c ∷ []) ∷
    row 5 (Std 5 ∷ Ren 6 0x00010018 ∷ Ren 7 0x0001001c ∷ Fet 0x00010020 ∷ []) ∷
    row 6 (Std 6 ∷ Ren 8 0x00010020 ∷ []) ∷
    row 7 (Std 7 ∷ []) ∷
    quiet 8 6 ++
    row 14 (Fill 0x0001fff0 ∷ Done 3 ∷ Alu 4 ∷ []) ∷
    row 15 (Done 4 ∷ Agu 5 ∷ []) ∷
    row 16 (Done 5 ∷ Agu 6 ∷ []) ∷
    row 17 (Done 6 ∷ Agu 7 ∷ []) ∷
    row 18 (Done 7 ∷ []) ∷
    quiet 19 5 ++
    row 24 (Done 1 ∷ Ret 1 ∷ Agu 2 ∷ []) ∷
    row 25 (Done 2 ∷ Clr 2 ∷ Ret 2 ∷ St 2 0x0001ffd0 false ∷ Ret 3 ∷ []) ∷
    row 26 (Clr 5 ∷ Ret 4 ∷ Ret 5 ∷ St 5 0x0001ffc0 false ∷ []) ∷
    row 27 (Clr 6 ∷ Ret 6 ∷ St 6 0x0001ffc0 false ∷ []) ∷
    []

trap_not_cleared : trace with_bits (code_of trap_not_cleared_code) 0x10000 (memory 0 0) 100
    ≡ record { rows = trap_not_cleared_rows; end = Some (Trap store_misaligned 0x1001c); retired = 7; cycles = 27 }
unfolding decode cycle retire rename fetch count_leading_zeros row quiet memory code_of trap_not_cleared_rows
trap_not_cleared = refl

-- A store whose data alone is tainted is cleared, in cycle 6.
cleared_with_tainted_data_rows : List Row
cleared_with_tainted_data_rows =
    row 1 (Fet 0x00010000 ∷ Fet 0x00010004 ∷ []) ∷
    row 2 (Ren 0 0x00010000 ∷ Ren 1 0x00010004 ∷ Fet 0x00010008 ∷ Fet 0x0001000c ∷ []) ∷
    row 3 (Ld 0 0x0001fff0 Miss ∷ Ren 2 0x00010008 ∷ Ren 3 0x0001000c ∷ Fet 0x00010010 ∷ Fet 0x00010014 ∷ []) ∷
    row 4 (Ld 3 0x0001fff0 Join ∷ Ren 4 0x00010010 ∷ Ren 5 0x00010014 ∷ Fet 0x00010018 ∷ Fet 0x0001001c ∷ []) ∷
    row 5 (Agu 4 ∷ Alu 5 ∷ []) ∷
    row 6 (Done 5 ∷ Clr 4 ∷ []) ∷
    quiet 7 6 ++
    row 13 (Fill 0x0001fff0 ∷ Done 0 ∷ Done 3 ∷ Ret 0 ∷ Mul 1 ∷ Std 4 ∷ []) ∷
    row 14 (Done 4 ∷ []) ∷
    quiet 15 1 ++
    row 16 (Done 1 ∷ Ret 1 ∷ Alu 2 ∷ []) ∷
    row 17 (Done 2 ∷ Res 2 NotTaken ∷ Bp 2 0 ∷ Ret 2 ∷ Ret 3 ∷ []) ∷
    row 18 (Ret 4 ∷ St 4 0x0001fff0 true ∷ Ret 5 ∷ Ren 6 0x00010018 ∷ []) ∷
    row 19 (Ret 6 ∷ Call 6 0 ∷ []) ∷
    []

cleared_with_tainted_data : trace with_bits (code_of cleared_with_tainted_data_code) 0x10000 (memory 1 17) 100
    ≡ record { rows = cleared_with_tainted_data_rows; end = Some (Exit 0); retired = 7; cycles = 19 }
unfolding decode cycle retire rename fetch count_leading_zeros row quiet memory code_of cleared_with_tainted_data_rows
cleared_with_tainted_data = refl
