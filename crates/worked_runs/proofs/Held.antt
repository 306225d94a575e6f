-- The defence `hold`: the result of a load is held back until the load is visible.
use Rattle.std.proofs.Common.{◌≡◌, ℕ, List, [], ◌∷◌, ◌++◌, Some, true, refl}
use Rattle.std.specs.Int.Count.{count_leading_zeros}
use Rattle.rv_types.specs.Decode.{decode}
use Rattle.rv_types.specs.declared.End.TheVariants.{Exit}
use Rattle.worked_runs.proofs.Version2.{holding}
use Rattle.window_model.specs.declared.Event.TheVariants.{Fill, Done, Res, Bp, Sq, Ret, St, Call, Alu, Mul, Div, Agu, Std, Ld, Ren, Fet}
use Rattle.window_model.specs.declared.Look.TheVariants.{Hit, Miss, Join}
use Rattle.window_model.specs.declared.Way.TheVariants.{Taken, NotTaken}
use Rattle.window_model.specs.Row.{Row}
use Rattle.window_model.specs.Cycle.{trace, cycle}
use Rattle.window_model.specs.Retire.{retire}
use Rattle.window_model.specs.Rename.{rename}
use Rattle.window_model.specs.Fetch.{fetch}
use Rattle.window_model.proofs.Worked.{bounds_check, code_of, memory, row, quiet}

-- lw x5,0(x2); add x6,x2,x5; lw x7,-16(x6); lw x8,0(x6); addi x17,x0,93; ecall
abbrev hit_under_miss : List ℕ
hit_under_miss = 0x00012283 ∷ 0x00510333 ∷ 0xff032383 ∷ 0x00032403 ∷ 0x05d00893 ∷ 0x00000073 ∷ []

-- lw x5,0(x2); mul x5,x5,x5; bgeu x0,x5,+12; lbu x6,8(x2); sw x6,4(x2); addi x17,x0,93; ecall
abbrev data_held_code : List ℕ
data_held_code = 0x00012283 ∷ 0x025282b3 ∷ 0x00507663 ∷ 0x00814303 ∷ 0x00612223 ∷ 0x05d00893 ∷ 0x00000073 ∷ []

-- lw x5,0(x2); mul x5,x5,x5; bgeu x0,x5,+12; lbu x6,8(x2); sb x2,0(x6); addi x17,x0,93; ecall
abbrev base_held_code : List ℕ
base_held_code = 0x00012283 ∷ 0x025282b3 ∷ 0x00507663 ∷ 0x00814303 ∷ 0x00230023 ∷ 0x05d00893 ∷ 0x00000073 ∷ []

-- lw x5,0(x2); mul x5,x5,x5; bgeu x0,x5,+12; addi x6,x0,1; addi x7,x6,1; addi x17,x0,93; ecall
abbrev sums_not_held_code : List ℕ
sums_not_held_code = 0x00012283 ∷ 0x025282b3 ∷ 0x00507663 ∷ 0x00100313 ∷ 0x00130393 ∷ 0x05d00893 ∷ 0x00000073 ∷ []

-- lw x5,0(x2); mul x5,x5,x5; bgeu x0,x5,+24; lbu x6,8(x2); mul x7,x6,x6; add x8,x2,x6; beq x6,x0,+8; jalr x0,0(x6);
-- addi x17,x0,93; ecall
abbrev each_kind_held_code : List ℕ
each_kind_held_code = 0x00012283 ∷ 0x025282b3 ∷ 0x00507c63 ∷ 0x00814303 ∷ 0x026303b3 ∷ 0x00610433 ∷ 0x00030463 ∷ 0x00030067 ∷ 0x05d00893 ∷ 0x00000073 ∷ []

-- div x9,x2,x2; lw x5,0(x2); addi x6,x5,0; addi x17,x0,93; ecall
abbrev visible_given_code : List ℕ
visible_given_code = 0x022144b3 ∷ 0x00012283 ∷ 0x00028313 ∷ 0x05d00893 ∷ 0x00000073 ∷ []

-- Not even the shift of the secret issues.
bypass_held_rows : List Row
bypass_held_rows =
    row 1 (Fet 0x00010000 ∷ Fet 0x00010004 ∷ []) ∷
    row 2 (Ren 0 0x00010000 ∷ Ren 1 0x00010004 ∷ Fet 0x00010008 ∷ Fet 0x0001000c ∷ []) ∷
    row 3 (Ld 0 0x0001fff0 Miss ∷ Ren 2 0x00010008 ∷ Ren 3 0x0001000c ∷ Fet 0x00010010 ∷ Fet 0x00010014 ∷ []) ∷
    row 4 (Ld 3 0x0001fff0 Join ∷ Ren 4 0x00010010 ∷ Ren 5 0x00010014 ∷ Fet 0x00010018 ∷ Fet 0x0001001c ∷ []) ∷
    row 5 (Ren 6 0x00010018 ∷ Ren 7 0x0001001c ∷ Fet 0x00010020 ∷ Fet 0x00010024 ∷ []) ∷
    row 6 (Alu 7 ∷ []) ∷
    row 7 (Done 7 ∷ []) ∷
    quiet 8 5 ++
    row 13 (Fill 0x0001fff0 ∷ Done 0 ∷ Done 3 ∷ Ret 0 ∷ Mul 1 ∷ []) ∷
    quiet 14 2 ++
    row 16 (Done 1 ∷ Ret 1 ∷ Alu 2 ∷ []) ∷
    row 17 (Done 2 ∷ Res 2 Taken ∷ Bp 2 2 ∷ Sq 7 ∷ Ret 2 ∷ Fet 0x0001001c ∷ Fet 0x00010020 ∷ []) ∷
    row 18 (Ren 8 0x0001001c ∷ Fet 0x00010024 ∷ []) ∷
    row 19 (Alu 8 ∷ []) ∷
    row 20 (Done 8 ∷ Ret 8 ∷ Ren 9 0x00010020 ∷ []) ∷
    row 21 (Ret 9 ∷ Call 9 0 ∷ []) ∷
    []

bypass_held : trace holding (code_of bounds_check) 0x10000 (memory 0 17) 100
    ≡ record { rows = bypass_held_rows; end = Some (Exit 0); retired = 5; cycles = 21 }
unfolding decode cycle retire rename fetch count_leading_zeros row quiet memory code_of bypass_held_rows
bypass_held = refl

bypass_held_other_secret : trace holding (code_of bounds_check) 0x10000 (memory 0 34) 100
    ≡ record { rows = bypass_held_rows; end = Some (Exit 0); retired = 5; cycles = 21 }
unfolding decode cycle retire rename fetch count_leading_zeros row quiet memory code_of bypass_held_rows
bypass_held_other_secret = refl

-- Where each load is visible nothing is held back.
visible_not_held_rows : List Row
visible_not_held_rows =
    row 1 (Fet 0x00010000 ∷ Fet 0x00010004 ∷ []) ∷
    row 2 (Ren 0 0x00010000 ∷ Ren 1 0x00010004 ∷ Fet 0x00010008 ∷ Fet 0x0001000c ∷ []) ∷
    row 3 (Ld 0 0x0001fff0 Miss ∷ Ren 2 0x00010008 ∷ Ren 3 0x0001000c ∷ Fet 0x00010010 ∷ Fet 0x00010014 ∷ []) ∷
    row 4 (Ren 4 0x00010010 ∷ Fet 0x00010018 ∷ []) ∷
    row 5 (Alu 4 ∷ []) ∷
    row 6 (Done 4 ∷ []) ∷
    quiet 7 6 ++
    row 13 (Fill 0x0001fff0 ∷ Done 0 ∷ Ret 0 ∷ Alu 1 ∷ []) ∷
    row 14 (Done 1 ∷ Ret 1 ∷ Ld 2 0x0001ffe0 Miss ∷ []) ∷
    row 15 (Ld 3 0x0001fff0 Hit ∷ []) ∷
    quiet 16 1 ++
    row 17 (Done 3 ∷ []) ∷
    quiet 18 6 ++
    row 24 (Fill 0x0001ffe0 ∷ Done 2 ∷ Ret 2 ∷ Ret 3 ∷ []) ∷
    row 25 (Ret 4 ∷ Ren 5 0x00010014 ∷ []) ∷
    row 26 (Ret 5 ∷ Call 5 0 ∷ []) ∷
    []

visible_not_held : trace holding (code_of hit_under_miss) 0x10000 (memory 0 0) 100
    ≡ record { rows = visible_not_held_rows; end = Some (Exit 0); retired = 6; cycles = 26 }
unfolding decode cycle retire rename fetch count_leading_zeros row quiet memory code_of visible_not_held_rows
visible_not_held = refl

-- A store's data is held back ..
data_held_rows : List Row
data_held_rows =
    row 1 (Fet 0x00010000 ∷ Fet 0x00010004 ∷ []) ∷
    row 2 (Ren 0 0x00010000 ∷ Ren 1 0x00010004 ∷ Fet 0x00010008 ∷ Fet 0x0001000c ∷ []) ∷
    row 3 (Ld 0 0x0001fff0 Miss ∷ Ren 2 0x00010008 ∷ Ren 3 0x0001000c ∷ Fet 0x00010010 ∷ Fet 0x00010014 ∷ []) ∷
    row 4 (Ld 3 0x0001fff0 Join ∷ Ren 4 0x00010010 ∷ Ren 5 0x00010014 ∷ Fet 0x00010018 ∷ Fet 0x0001001c ∷ []) ∷
    row 5 (Agu 4 ∷ Alu 5 ∷ []) ∷
    row 6 (Done 5 ∷ []) ∷
    quiet 7 6 ++
    row 13 (Fill 0x0001fff0 ∷ Done 0 ∷ Done 3 ∷ Ret 0 ∷ Mul 1 ∷ []) ∷
    quiet 14 2 ++
    row 16 (Done 1 ∷ Ret 1 ∷ Alu 2 ∷ []) ∷
    row 17 (Done 2 ∷ Res 2 NotTaken ∷ Bp 2 0 ∷ Ret 2 ∷ Ret 3 ∷ Std 4 ∷ []) ∷
    row 18 (Done 4 ∷ Ret 4 ∷ St 4 0x0001fff0 true ∷ Ret 5 ∷ Ren 6 0x00010018 ∷ []) ∷
    row 19 (Ret 6 ∷ Call 6 0 ∷ []) ∷
    []

data_held : trace holding (code_of data_held_code) 0x10000 (memory 1 17) 100
    ≡ record { rows = data_held_rows; end = Some (Exit 0); retired = 7; cycles = 19 }
unfolding decode cycle retire rename fetch count_leading_zeros row quiet memory code_of data_held_rows
data_held = refl

-- .. and so is its base.
base_held_rows : List Row
base_held_rows =
    row 1 (Fet 0x00010000 ∷ Fet 0x00010004 ∷ []) ∷
    row 2 (Ren 0 0x00010000 ∷ Ren 1 0x00010004 ∷ Fet 0x00010008 ∷ Fet 0x0001000c ∷ []) ∷
    row 3 (Ld 0 0x0001fff0 Miss ∷ Ren 2 0x00010008 ∷ Ren 3 0x0001000c ∷ Fet 0x00010010 ∷ Fet 0x00010014 ∷ []) ∷
    row 4 (Ld 3 0x0001fff0 Join ∷ Ren 4 0x00010010 ∷ Ren 5 0x00010014 ∷ Fet 0x00010018 ∷ Fet 0x0001001c ∷ []) ∷
    row 5 (Std 4 ∷ Alu 5 ∷ []) ∷
    row 6 (Done 5 ∷ []) ∷
    quiet 7 6 ++
    row 13 (Fill 0x0001fff0 ∷ Done 0 ∷ Done 3 ∷ Ret 0 ∷ Mul 1 ∷ []) ∷
    quiet 14 2 ++
    row 16 (Done 1 ∷ Ret 1 ∷ Alu 2 ∷ []) ∷
    row 17 (Done 2 ∷ Res 2 Taken ∷ Bp 2 2 ∷ Sq 5 ∷ Ret 2 ∷ Fet 0x00010014 ∷ Fet 0x00010018 ∷ []) ∷
    row 18 (Ren 6 0x00010014 ∷ Fet 0x0001001c ∷ []) ∷
    row 19 (Alu 6 ∷ []) ∷
    row 20 (Done 6 ∷ Ret 6 ∷ Ren 7 0x00010018 ∷ []) ∷
    row 21 (Ret 7 ∷ Call 7 0 ∷ []) ∷
    []

base_held : trace holding (code_of base_held_code) 0x10000 (memory 0 17) 100
    ≡ record { rows = base_held_rows; end = Some (Exit 0); retired = 5; cycles = 21 }
unfolding decode cycle retire rename fetch count_leading_zeros row quiet memory code_of base_held_rows
base_held = refl

-- What is no load's result isn't.
sums_not_held_rows : List Row
sums_not_held_rows =
    row 1 (Fet 0x00010000 ∷ Fet 0x00010004 ∷ []) ∷
    row 2 (Ren 0 0x00010000 ∷ Ren 1 0x00010004 ∷ Fet 0x00010008 ∷ Fet 0x0001000c ∷ []) ∷
    row 3 (Ld 0 0x0001fff0 Miss ∷ Ren 2 0x00010008 ∷ Ren 3 0x0001000c ∷ Fet 0x00010010 ∷ Fet 0x00010014 ∷ []) ∷
    row 4 (Alu 3 ∷ Ren 4 0x00010010 ∷ Ren 5 0x00010014 ∷ Fet 0x00010018 ∷ Fet 0x0001001c ∷ []) ∷
    row 5 (Done 3 ∷ Alu 4 ∷ Alu 5 ∷ []) ∷
    row 6 (Done 4 ∷ Done 5 ∷ []) ∷
    quiet 7 6 ++
    row 13 (Fill 0x0001fff0 ∷ Done 0 ∷ Ret 0 ∷ Mul 1 ∷ []) ∷
    quiet 14 2 ++
    row 16 (Done 1 ∷ Ret 1 ∷ Alu 2 ∷ []) ∷
    row 17 (Done 2 ∷ Res 2 NotTaken ∷ Bp 2 0 ∷ Ret 2 ∷ Ret 3 ∷ []) ∷
    row 18 (Ret 4 ∷ Ret 5 ∷ Ren 6 0x00010018 ∷ []) ∷
    row 19 (Ret 6 ∷ Call 6 0 ∷ []) ∷
    []

sums_not_held : trace holding (code_of sums_not_held_code) 0x10000 (memory 1 17) 100
    ≡ record { rows = sums_not_held_rows; end = Some (Exit 0); retired = 7; cycles = 19 }
unfolding decode cycle retire rename fetch count_leading_zeros row quiet memory code_of sums_not_held_rows
sums_not_held = refl

-- Neither a multiplication of the secret issues, nor a sum with it as its second operand, a branch or a jump on it.
each_kind_held_rows : List Row
each_kind_held_rows =
    row 1 (Fet 0x00010000 ∷ Fet 0x00010004 ∷ []) ∷
    row 2 (Ren 0 0x00010000 ∷ Ren 1 0x00010004 ∷ Fet 0x00010008 ∷ Fet 0x0001000c ∷ []) ∷
    row 3 (Ld 0 0x0001fff0 Miss ∷ Ren 2 0x00010008 ∷ Ren 3 0x0001000c ∷ Fet 0x00010010 ∷ Fet 0x00010014 ∷ []) ∷
    row 4 (Ld 3 0x0001fff0 Join ∷ Ren 4 0x00010010 ∷ Ren 5 0x00010014 ∷ Fet 0x00010018 ∷ Fet 0x0001001c ∷ []) ∷
    row 5 (Ren 6 0x00010018 ∷ Ren 7 0x0001001c ∷ Fet 0x00010020 ∷ Fet 0x00010024 ∷ []) ∷
    row 6 (Ren 8 0x00010020 ∷ Fet 0x00010028 ∷ []) ∷
    row 7 (Alu 8 ∷ []) ∷
    row 8 (Done 8 ∷ []) ∷
    quiet 9 4 ++
    row 13 (Fill 0x0001fff0 ∷ Done 0 ∷ Done 3 ∷ Ret 0 ∷ Mul 1 ∷ []) ∷
    quiet 14 2 ++
    row 16 (Done 1 ∷ Ret 1 ∷ Alu 2 ∷ []) ∷
    row 17 (Done 2 ∷ Res 2 Taken ∷ Bp 2 2 ∷ Sq 8 ∷ Ret 2 ∷ Fet 0x00010020 ∷ Fet 0x00010024 ∷ []) ∷
    row 18 (Ren 9 0x00010020 ∷ Fet 0x00010028 ∷ []) ∷
    row 19 (Alu 9 ∷ []) ∷
    row 20 (Done 9 ∷ Ret 9 ∷ Ren 10 0x00010024 ∷ []) ∷
    row 21 (Ret 10 ∷ Call 10 0 ∷ []) ∷
    []

each_kind_held : trace holding (code_of each_kind_held_code) 0x10000 (memory 0 17) 100
    ≡ record { rows = each_kind_held_rows; end = Some (Exit 0); retired = 5; cycles = 21 }
unfolding decode cycle retire rename fetch count_leading_zeros row quiet memory code_of each_kind_held_rows
each_kind_held = refl

-- A load that is visible gives its value before it retires: in cycle 13, behind a division that takes until 23.
visible_given_rows : List Row
visible_given_rows =
    row 1 (Fet 0x00010000 ∷ Fet 0x00010004 ∷ []) ∷
    row 2 (Ren 0 0x00010000 ∷ Ren 1 0x00010004 ∷ Fet 0x00010008 ∷ Fet 0x0001000c ∷ []) ∷
    row 3 (Div 0 20 ∷ Ld 1 0x0001fff0 Miss ∷ Ren 2 0x00010008 ∷ Ren 3 0x0001000c ∷ Fet 0x00010010 ∷ Fet 0x00010014 ∷ []) ∷
    row 4 (Alu 3 ∷ []) ∷
    row 5 (Done 3 ∷ []) ∷
    quiet 6 7 ++
    row 13 (Fill 0x0001fff0 ∷ Done 1 ∷ Alu 2 ∷ []) ∷
    row 14 (Done 2 ∷ []) ∷
    quiet 15 8 ++
    row 23 (Done 0 ∷ Ret 0 ∷ Ret 1 ∷ []) ∷
    row 24 (Ret 2 ∷ Ret 3 ∷ Ren 4 0x00010010 ∷ []) ∷
    row 25 (Ret 4 ∷ Call 4 0 ∷ []) ∷
    []

visible_given : trace holding (code_of visible_given_code) 0x10000 (memory 0 0) 100
    ≡ record { rows = visible_given_rows; end = Some (Exit 0); retired = 5; cycles = 25 }
unfolding decode cycle retire rename fetch count_leading_zeros row quiet memory code_of visible_given_rows
visible_given = refl
