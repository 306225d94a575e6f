-- The model `off`, under which everything is visible.
use Rattle.std.proofs.Common.{◌≡◌, List, [], ◌∷◌, ◌++◌, Some, refl}
use Rattle.std.specs.Int.Count.{count_leading_zeros}
use Rattle.rv_types.specs.Decode.{decode}
use Rattle.rv_types.specs.declared.End.TheVariants.{Exit}
use Rattle.worked_runs.proofs.Version2.{example_2, unprotected}
use Rattle.window_model.specs.declared.Event.TheVariants.{Fill, Done, Res, Bp, Sq, Ret, Call, Alu, Mul, Ld, Ren, Fet}
use Rattle.window_model.specs.declared.Look.TheVariants.{Miss, Join}
use Rattle.window_model.specs.declared.Way.TheVariants.{Taken, NotTaken}
use Rattle.window_model.specs.Row.{Row}
use Rattle.window_model.specs.Cycle.{trace, cycle}
use Rattle.window_model.specs.Retire.{retire}
use Rattle.window_model.specs.Rename.{rename}
use Rattle.window_model.specs.Fetch.{fetch}
use Rattle.window_model.proofs.Worked.{bounds_check, branch, code_of, memory, row, quiet}

-- In version 2 as in version 1 neither secret shows where the check is passed over by prediction ..
bypass_2_rows : List Row
bypass_2_rows =
    row 1 (Fet 0x00010000 ∷ Fet 0x00010004 ∷ []) ∷
    row 2 (Ren 0 0x00010000 ∷ Ren 1 0x00010004 ∷ Fet 0x00010008 ∷ Fet 0x0001000c ∷ []) ∷
    row 3 (Ld 0 0x0001fff0 Miss ∷ Ren 2 0x00010008 ∷ Ren 3 0x0001000c ∷ Fet 0x00010010 ∷ Fet 0x00010014 ∷ []) ∷
    row 4 (Ld 3 0x0001fff0 Join ∷ Ren 4 0x00010010 ∷ Ren 5 0x00010014 ∷ Fet 0x00010018 ∷ Fet 0x0001001c ∷ []) ∷
    row 5 (Ren 6 0x00010018 ∷ Ren 7 0x0001001c ∷ Fet 0x00010020 ∷ Fet 0x00010024 ∷ []) ∷
    row 6 (Alu 7 ∷ []) ∷
    row 7 (Done 7 ∷ []) ∷
    quiet 8 5 ++
    row 13 (Fill 0x0001fff0 ∷ Done 0 ∷ Done 3 ∷ Ret 0 ∷ Mul 1 ∷ Alu 4 ∷ []) ∷
    row 14 (Done 4 ∷ Alu 5 ∷ []) ∷
    row 15 (Done 5 ∷ []) ∷
    row 16 (Done 1 ∷ Ret 1 ∷ Alu 2 ∷ []) ∷
    row 17 (Done 2 ∷ Res 2 Taken ∷ Bp 2 2 ∷ Sq 7 ∷ Ret 2 ∷ Fet 0x0001001c ∷ Fet 0x00010020 ∷ []) ∷
    row 18 (Ren 8 0x0001001c ∷ Fet 0x00010024 ∷ []) ∷
    row 19 (Alu 8 ∷ []) ∷
    row 20 (Done 8 ∷ Ret 8 ∷ Ren 9 0x00010020 ∷ []) ∷
    row 21 (Ret 9 ∷ Call 9 0 ∷ []) ∷
    []

bypass_2 : trace example_2 (code_of bounds_check) 0x10000 (memory 0 17) 100
    ≡ record { rows = bypass_2_rows; end = Some (Exit 0); retired = 5; cycles = 21 }
unfolding decode cycle retire rename fetch count_leading_zeros row quiet memory code_of bypass_2_rows
bypass_2 = refl

bypass_2_other_secret : trace example_2 (code_of bounds_check) 0x10000 (memory 0 34) 100
    ≡ record { rows = bypass_2_rows; end = Some (Exit 0); retired = 5; cycles = 21 }
unfolding decode cycle retire rename fetch count_leading_zeros row quiet memory code_of bypass_2_rows
bypass_2_other_secret = refl

-- .. but it does where all is visible: the last load's line, in cycle 15.
bypass_visible_rows : List Row
bypass_visible_rows =
    row 1 (Fet 0x00010000 ∷ Fet 0x00010004 ∷ []) ∷
    row 2 (Ren 0 0x00010000 ∷ Ren 1 0x00010004 ∷ Fet 0x00010008 ∷ Fet 0x0001000c ∷ []) ∷
    row 3 (Ld 0 0x0001fff0 Miss ∷ Ren 2 0x00010008 ∷ Ren 3 0x0001000c ∷ Fet 0x00010010 ∷ Fet 0x00010014 ∷ []) ∷
    row 4 (Ld 3 0x0001fff0 Join ∷ Ren 4 0x00010010 ∷ Ren 5 0x00010014 ∷ Fet 0x00010018 ∷ Fet 0x0001001c ∷ []) ∷
    row 5 (Ren 6 0x00010018 ∷ Ren 7 0x0001001c ∷ Fet 0x00010020 ∷ Fet 0x00010024 ∷ []) ∷
    row 6 (Alu 7 ∷ []) ∷
    row 7 (Done 7 ∷ []) ∷
    quiet 8 5 ++
    row 13 (Fill 0x0001fff0 ∷ Done 0 ∷ Done 3 ∷ Ret 0 ∷ Mul 1 ∷ Alu 4 ∷ []) ∷
    row 14 (Done 4 ∷ Alu 5 ∷ []) ∷
    row 15 (Done 5 ∷ Ld 6 0x0001f900 Miss ∷ []) ∷
    row 16 (Done 1 ∷ Ret 1 ∷ Alu 2 ∷ []) ∷
    row 17 (Done 2 ∷ Res 2 Taken ∷ Bp 2 2 ∷ Sq 7 ∷ Ret 2 ∷ Fet 0x0001001c ∷ Fet 0x00010020 ∷ []) ∷
    row 18 (Ren 8 0x0001001c ∷ Fet 0x00010024 ∷ []) ∷
    row 19 (Alu 8 ∷ []) ∷
    row 20 (Done 8 ∷ Ret 8 ∷ Ren 9 0x00010020 ∷ []) ∷
    row 21 (Ret 9 ∷ Call 9 0 ∷ []) ∷
    []

bypass_visible : trace unprotected (code_of bounds_check) 0x10000 (memory 0 17) 100
    ≡ record { rows = bypass_visible_rows; end = Some (Exit 0); retired = 5; cycles = 21 }
unfolding decode cycle retire rename fetch count_leading_zeros row quiet memory code_of bypass_visible_rows
bypass_visible = refl

bypass_visible_other_secret_rows : List Row
bypass_visible_other_secret_rows =
    row 1 (Fet 0x00010000 ∷ Fet 0x00010004 ∷ []) ∷
    row 2 (Ren 0 0x00010000 ∷ Ren 1 0x00010004 ∷ Fet 0x00010008 ∷ Fet 0x0001000c ∷ []) ∷
    row 3 (Ld 0 0x0001fff0 Miss ∷ Ren 2 0x00010008 ∷ Ren 3 0x0001000c ∷ Fet 0x00010010 ∷ Fet 0x00010014 ∷ []) ∷
    row 4 (Ld 3 0x0001fff0 Join ∷ Ren 4 0x00010010 ∷ Ren 5 0x00010014 ∷ Fet 0x00010018 ∷ Fet 0x0001001c ∷ []) ∷
    row 5 (Ren 6 0x00010018 ∷ Ren 7 0x0001001c ∷ Fet 0x00010020 ∷ Fet 0x00010024 ∷ []) ∷
    row 6 (Alu 7 ∷ []) ∷
    row 7 (Done 7 ∷ []) ∷
    quiet 8 5 ++
    row 13 (Fill 0x0001fff0 ∷ Done 0 ∷ Done 3 ∷ Ret 0 ∷ Mul 1 ∷ Alu 4 ∷ []) ∷
    row 14 (Done 4 ∷ Alu 5 ∷ []) ∷
    row 15 (Done 5 ∷ Ld 6 0x0001fa10 Miss ∷ []) ∷
    row 16 (Done 1 ∷ Ret 1 ∷ Alu 2 ∷ []) ∷
    row 17 (Done 2 ∷ Res 2 Taken ∷ Bp 2 2 ∷ Sq 7 ∷ Ret 2 ∷ Fet 0x0001001c ∷ Fet 0x00010020 ∷ []) ∷
    row 18 (Ren 8 0x0001001c ∷ Fet 0x00010024 ∷ []) ∷
    row 19 (Alu 8 ∷ []) ∷
    row 20 (Done 8 ∷ Ret 8 ∷ Ren 9 0x00010020 ∷ []) ∷
    row 21 (Ret 9 ∷ Call 9 0 ∷ []) ∷
    []

bypass_visible_other_secret : trace unprotected (code_of bounds_check) 0x10000 (memory 0 34) 100
    ≡ record { rows = bypass_visible_other_secret_rows; end = Some (Exit 0); retired = 5; cycles = 21 }
unfolding decode cycle retire rename fetch count_leading_zeros row quiet memory code_of bypass_visible_other_secret_rows
bypass_visible_other_secret = refl

-- Where the program passes the check it shows the secret itself, in cycle 17.
passed_2_rows : List Row
passed_2_rows =
    row 1 (Fet 0x00010000 ∷ Fet 0x00010004 ∷ []) ∷
    row 2 (Ren 0 0x00010000 ∷ Ren 1 0x00010004 ∷ Fet 0x00010008 ∷ Fet 0x0001000c ∷ []) ∷
    row 3 (Ld 0 0x0001fff0 Miss ∷ Ren 2 0x00010008 ∷ Ren 3 0x0001000c ∷ Fet 0x00010010 ∷ Fet 0x00010014 ∷ []) ∷
    row 4 (Ld 3 0x0001fff0 Join ∷ Ren 4 0x00010010 ∷ Ren 5 0x00010014 ∷ Fet 0x00010018 ∷ Fet 0x0001001c ∷ []) ∷
    row 5 (Ren 6 0x00010018 ∷ Ren 7 0x0001001c ∷ Fet 0x00010020 ∷ Fet 0x00010024 ∷ []) ∷
    row 6 (Alu 7 ∷ []) ∷
    row 7 (Done 7 ∷ []) ∷
    quiet 8 5 ++
    row 13 (Fill 0x0001fff0 ∷ Done 0 ∷ Done 3 ∷ Ret 0 ∷ Mul 1 ∷ Alu 4 ∷ []) ∷
    row 14 (Done 4 ∷ Alu 5 ∷ []) ∷
    row 15 (Done 5 ∷ []) ∷
    row 16 (Done 1 ∷ Ret 1 ∷ Alu 2 ∷ []) ∷
    row 17 (Done 2 ∷ Res 2 NotTaken ∷ Bp 2 0 ∷ Ret 2 ∷ Ret 3 ∷ Ld 6 0x0001f900 Miss ∷ []) ∷
    row 18 (Ret 4 ∷ Ret 5 ∷ []) ∷
    quiet 19 8 ++
    row 27 (Fill 0x0001f900 ∷ Done 6 ∷ Ret 6 ∷ Ret 7 ∷ Ren 8 0x00010020 ∷ []) ∷
    row 28 (Ret 8 ∷ Call 8 0 ∷ []) ∷
    []

passed_2 : trace example_2 (code_of bounds_check) 0x10000 (memory 1 17) 100
    ≡ record { rows = passed_2_rows; end = Some (Exit 0); retired = 9; cycles = 28 }
unfolding decode cycle retire rename fetch count_leading_zeros row quiet memory code_of passed_2_rows
passed_2 = refl

passed_2_other_secret_rows : List Row
passed_2_other_secret_rows =
    row 1 (Fet 0x00010000 ∷ Fet 0x00010004 ∷ []) ∷
    row 2 (Ren 0 0x00010000 ∷ Ren 1 0x00010004 ∷ Fet 0x00010008 ∷ Fet 0x0001000c ∷ []) ∷
    row 3 (Ld 0 0x0001fff0 Miss ∷ Ren 2 0x00010008 ∷ Ren 3 0x0001000c ∷ Fet 0x00010010 ∷ Fet 0x00010014 ∷ []) ∷
    row 4 (Ld 3 0x0001fff0 Join ∷ Ren 4 0x00010010 ∷ Ren 5 0x00010014 ∷ Fet 0x00010018 ∷ Fet 0x0001001c ∷ []) ∷
    row 5 (Ren 6 0x00010018 ∷ Ren 7 0x0001001c ∷ Fet 0x00010020 ∷ Fet 0x00010024 ∷ []) ∷
    row 6 (Alu 7 ∷ []) ∷
    row 7 (Done 7 ∷ []) ∷
    quiet 8 5 ++
    row 13 (Fill 0x0001fff0 ∷ Done 0 ∷ Done 3 ∷ Ret 0 ∷ Mul 1 ∷ Alu 4 ∷ []) ∷
    row 14 (Done 4 ∷ Alu 5 ∷ []) ∷
    row 15 (Done 5 ∷ []) ∷
    row 16 (Done 1 ∷ Ret 1 ∷ Alu 2 ∷ []) ∷
    row 17 (Done 2 ∷ Res 2 NotTaken ∷ Bp 2 0 ∷ Ret 2 ∷ Ret 3 ∷ Ld 6 0x0001fa10 Miss ∷ []) ∷
    row 18 (Ret 4 ∷ Ret 5 ∷ []) ∷
    quiet 19 8 ++
    row 27 (Fill 0x0001fa10 ∷ Done 6 ∷ Ret 6 ∷ Ret 7 ∷ Ren 8 0x00010020 ∷ []) ∷
    row 28 (Ret 8 ∷ Call 8 0 ∷ []) ∷
    []

passed_2_other_secret : trace example_2 (code_of bounds_check) 0x10000 (memory 1 34) 100
    ≡ record { rows = passed_2_other_secret_rows; end = Some (Exit 0); retired = 9; cycles = 28 }
unfolding decode cycle retire rename fetch count_leading_zeros row quiet memory code_of passed_2_other_secret_rows
passed_2_other_secret = refl

-- A branch on what a load read is resolved before an older branch is, in cycle 14.
branch_not_held_rows : List Row
branch_not_held_rows =
    row 1 (Fet 0x00010000 ∷ Fet 0x00010004 ∷ []) ∷
    row 2 (Ren 0 0x00010000 ∷ Ren 1 0x00010004 ∷ Fet 0x00010008 ∷ Fet 0x0001000c ∷ []) ∷
    row 3 (Ld 0 0x0001fff0 Miss ∷ Ren 2 0x00010008 ∷ Ren 3 0x0001000c ∷ Fet 0x00010010 ∷ Fet 0x00010014 ∷ []) ∷
    row 4 (Ld 3 0x0001fff0 Join ∷ Ren 4 0x00010010 ∷ Ren 5 0x00010014 ∷ Fet 0x00010018 ∷ Fet 0x0001001c ∷ []) ∷
    row 5 (Alu 5 ∷ Ren 6 0x00010018 ∷ Fet 0x00010020 ∷ []) ∷
    row 6 (Done 5 ∷ Alu 6 ∷ []) ∷
    row 7 (Done 6 ∷ []) ∷
    quiet 8 5 ++
    row 13 (Fill 0x0001fff0 ∷ Done 0 ∷ Done 3 ∷ Ret 0 ∷ Mul 1 ∷ Alu 4 ∷ []) ∷
    row 14 (Done 4 ∷ Res 4 NotTaken ∷ Bp 4 0 ∷ []) ∷
    quiet 15 1 ++
    row 16 (Done 1 ∷ Ret 1 ∷ Alu 2 ∷ []) ∷
    row 17 (Done 2 ∷ Res 2 NotTaken ∷ Bp 2 0 ∷ Ret 2 ∷ Ret 3 ∷ []) ∷
    row 18 (Ret 4 ∷ Ret 5 ∷ []) ∷
    row 19 (Ret 6 ∷ Ren 7 0x0001001c ∷ []) ∷
    row 20 (Ret 7 ∷ Call 7 0 ∷ []) ∷
    []

branch_not_held : trace unprotected (code_of branch) 0x10000 (memory 1 17) 100
    ≡ record { rows = branch_not_held_rows; end = Some (Exit 0); retired = 8; cycles = 20 }
unfolding decode cycle retire rename fetch count_leading_zeros row quiet memory code_of branch_not_held_rows
branch_not_held = refl
