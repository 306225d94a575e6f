-- The defence `delay`: a load, a division and the address part of a store don't issue, and a branch or JALR isn't
-- resolved, before the entry is visible, whatever its operands are (docs/machine.md, "Safe and visible"). All else goes
-- on as under `stt`. Each run says by which rule its rows are what they are.
use Rattle.std.proofs.Common.{◌≡◌, ℕ, List, [], ◌∷◌, ◌++◌, Some, true, false, refl}
use Rattle.std.specs.Int.Count.{count_leading_zeros}
use Rattle.rv_types.specs.Decode.{decode}
use Rattle.rv_types.specs.declared.End.TheVariants.{Exit}
use Rattle.machine_desc.specs.declared.Desc.{Desc}
use Rattle.machine_desc.specs.declared.SttModel.TheVariants.{Spectre, Futuristic}
use Rattle.machine_desc.specs.declared.Defence.TheVariants.{Delay}
use Rattle.machine_desc.proofs.Changed.{with_stt}
use Rattle.worked_runs.proofs.Version2.{delaying, with_bits}
use Rattle.window_model.specs.declared.Event.TheVariants.{Fill, Done, Res, Bp, Bt, Sq, Clr, Ret, St, Call, Alu, Mul, Div, Agu, Std, Ld, Ren, Fet}
use Rattle.window_model.specs.declared.Look.TheVariants.{Hit, Miss}
use Rattle.window_model.specs.declared.Way.TheVariants.{Taken, NotTaken, Jump}
use Rattle.window_model.specs.Row.{Row}
use Rattle.window_model.specs.Cycle.{trace, cycle}
use Rattle.window_model.specs.Retire.{retire}
use Rattle.window_model.specs.Rename.{rename}
use Rattle.window_model.specs.Fetch.{fetch}
use Rattle.window_model.proofs.Worked.{bounds_check, code_of, memory, row, quiet}

-- the defence under the model `futuristic`, and with bits of dependence under both models
abbrev delaying_futuristic : Desc
delaying_futuristic = with_stt delaying Futuristic Delay refl refl

abbrev delaying_with_bits : Desc
delaying_with_bits = with_stt with_bits Spectre Delay refl refl

abbrev delaying_with_bits_futuristic : Desc
delaying_with_bits_futuristic = with_stt with_bits Futuristic Delay refl refl

-- lw x5,0(x2); mul x5,x5,x5; bgeu x0,x5,+28; lw x6,8(x2); div x7,x0,x2; sw x2,4(x2); beq x2,x0,+8; mul x8,x2,x2;
-- addi x17,x0,93; ecall
abbrev each_kind_code : List ℕ
each_kind_code = 0x00012283 ∷ 0x025282b3 ∷ 0x00507e63 ∷ 0x00812303 ∷ 0x022043b3 ∷ 0x00212223 ∷ 0x00010463 ∷ 0x02210433 ∷ 0x05d00893 ∷ 0x00000073 ∷ []

-- lw x5,0(x2); lw x6,-16(x2); div x7,x0,x2; sw x2,4(x2); beq x2,x0,+8; mul x8,x2,x2; addi x17,x0,93; ecall
abbrev behind_loads_code : List ℕ
behind_loads_code = 0x00012283 ∷ 0xff012303 ∷ 0x022043b3 ∷ 0x00212223 ∷ 0x00010463 ∷ 0x02210433 ∷ 0x05d00893 ∷ 0x00000073 ∷ []

-- lw x5,0(x2); mul x5,x5,x5; bgeu x0,x5,+20; auipc x6,0; jalr x0,12(x6); addi x7,x0,1; addi x17,x0,93; ecall
abbrev jump_code : List ℕ
jump_code = 0x00012283 ∷ 0x025282b3 ∷ 0x00507a63 ∷ 0x00000317 ∷ 0x00c30067 ∷ 0x00100393 ∷ 0x05d00893 ∷ 0x00000073 ∷ []

-- lw x5,0(x2); add x6,x2,x5; lw x7,-16(x6); lw x8,0(x6); addi x17,x0,93; ecall
abbrev loads_alone_code : List ℕ
loads_alone_code = 0x00012283 ∷ 0x00510333 ∷ 0xff032383 ∷ 0x00032403 ∷ 0x05d00893 ∷ 0x00000073 ∷ []

-- mul x5,x0,x0; add x5,x5,x2; sw x2,0(x5); lw x6,0(x2); addi x17,x0,93; ecall
abbrev late_address_code : List ℕ
late_address_code = 0x020002b3 ∷ 0x002282b3 ∷ 0x0022a023 ∷ 0x00012303 ∷ 0x05d00893 ∷ 0x00000073 ∷ []

-- The bounds check that is passed over by prediction: the load of the secret (3) is ready in cycle 4, but isn't visible
-- before the branch (2) is resolved in cycle 17, which drops it. So nothing behind it has an operand, and the first
-- load (0), the oldest of all, is the only access. Under the model `futuristic` the branch is the first entry, too,
-- that isn't safe once the first load and the multiplication have retired, so the rows are the same.
bypass_delayed_rows : List Row
bypass_delayed_rows =
    row 1 (Fet 0x00010000 ∷ Fet 0x00010004 ∷ []) ∷
    row 2 (Ren 0 0x00010000 ∷ Ren 1 0x00010004 ∷ Fet 0x00010008 ∷ Fet 0x0001000c ∷ []) ∷
    row 3 (Ld 0 0x0001fff0 Miss ∷ Ren 2 0x00010008 ∷ Ren 3 0x0001000c ∷ Fet 0x00010010 ∷ Fet 0x00010014 ∷ []) ∷
    row 4 (Ren 4 0x00010010 ∷ Ren 5 0x00010014 ∷ Fet 0x00010018 ∷ Fet 0x0001001c ∷ []) ∷
    row 5 (Ren 6 0x00010018 ∷ Ren 7 0x0001001c ∷ Fet 0x00010020 ∷ Fet 0x00010024 ∷ []) ∷
    row 6 (Alu 7 ∷ []) ∷
    row 7 (Done 7 ∷ []) ∷
    quiet 8 5 ++
    row 13 (Fill 0x0001fff0 ∷ Done 0 ∷ Ret 0 ∷ Mul 1 ∷ []) ∷
    quiet 14 2 ++
    row 16 (Done 1 ∷ Ret 1 ∷ Alu 2 ∷ []) ∷
    row 17 (Done 2 ∷ Res 2 Taken ∷ Bp 2 2 ∷ Sq 7 ∷ Ret 2 ∷ Fet 0x0001001c ∷ Fet 0x00010020 ∷ []) ∷
    row 18 (Ren 8 0x0001001c ∷ Fet 0x00010024 ∷ []) ∷
    row 19 (Alu 8 ∷ []) ∷
    row 20 (Done 8 ∷ Ret 8 ∷ Ren 9 0x00010020 ∷ []) ∷
    row 21 (Ret 9 ∷ Call 9 0 ∷ []) ∷
    []

bypass_delayed : trace delaying (code_of bounds_check) 0x10000 (memory 0 17) 100
    ≡ record { rows = bypass_delayed_rows; end = Some (Exit 0); retired = 5; cycles = 21 }
unfolding decode cycle retire rename fetch count_leading_zeros row quiet memory code_of bypass_delayed_rows
bypass_delayed = refl

bypass_delayed_futuristic : trace delaying_futuristic (code_of bounds_check) 0x10000 (memory 0 34) 100
    ≡ record { rows = bypass_delayed_rows; end = Some (Exit 0); retired = 5; cycles = 21 }
unfolding decode cycle retire rename fetch count_leading_zeros row quiet memory code_of bypass_delayed_rows
bypass_delayed_futuristic = refl

-- Nothing is tainted here. Behind the branch (2), which waits for a miss and a multiplication, a load (3), a division
-- (4) and a store's address (5) are ready in cycles 4, 5 and 5, and issue in 17, once it is resolved. Another branch
-- (6) is executed in 6, and resolved in 18, since one is a cycle. What shows no operand doesn't wait: the store's data
-- issues in 5, the multiplication (7) in 6 and the addition (8) in 7.
each_kind_delayed_rows : List Row
each_kind_delayed_rows =
    row 1 (Fet 0x00010000 ∷ Fet 0x00010004 ∷ []) ∷
    row 2 (Ren 0 0x00010000 ∷ Ren 1 0x00010004 ∷ Fet 0x00010008 ∷ Fet 0x0001000c ∷ []) ∷
    row 3 (Ld 0 0x0001fff0 Miss ∷ Ren 2 0x00010008 ∷ Ren 3 0x0001000c ∷ Fet 0x00010010 ∷ Fet 0x00010014 ∷ []) ∷
    row 4 (Ren 4 0x00010010 ∷ Ren 5 0x00010014 ∷ Fet 0x00010018 ∷ Fet 0x0001001c ∷ []) ∷
    row 5 (Std 5 ∷ Ren 6 0x00010018 ∷ Ren 7 0x0001001c ∷ Fet 0x00010020 ∷ Fet 0x00010024 ∷ []) ∷
    row 6 (Alu 6 ∷ Mul 7 ∷ Ren 8 0x00010020 ∷ Fet 0x00010028 ∷ []) ∷
    row 7 (Done 6 ∷ Alu 8 ∷ []) ∷
    row 8 (Done 8 ∷ []) ∷
    row 9 (Done 7 ∷ []) ∷
    quiet 10 3 ++
    row 13 (Fill 0x0001fff0 ∷ Done 0 ∷ Ret 0 ∷ Mul 1 ∷ []) ∷
    quiet 14 2 ++
    row 16 (Done 1 ∷ Ret 1 ∷ Alu 2 ∷ []) ∷
    row 17 (Done 2 ∷ Res 2 NotTaken ∷ Bp 2 0 ∷ Ret 2 ∷ Ld 3 0x0001fff0 Hit ∷ Div 4 3 ∷ Agu 5 ∷ []) ∷
    row 18 (Done 5 ∷ Res 6 NotTaken ∷ Bp 6 0 ∷ []) ∷
    row 19 (Done 3 ∷ Ret 3 ∷ []) ∷
    row 20 (Done 4 ∷ Ret 4 ∷ Ret 5 ∷ St 5 0x0001fff0 true ∷ []) ∷
    row 21 (Ret 6 ∷ Ret 7 ∷ []) ∷
    row 22 (Ret 8 ∷ Ren 9 0x00010024 ∷ []) ∷
    row 23 (Ret 9 ∷ Call 9 0 ∷ []) ∷
    []

each_kind_delayed : trace delaying (code_of each_kind_code) 0x10000 (memory 1 17) 100
    ≡ record { rows = each_kind_delayed_rows; end = Some (Exit 0); retired = 10; cycles = 23 }
unfolding decode cycle retire rename fetch count_leading_zeros row quiet memory code_of each_kind_delayed_rows
each_kind_delayed = refl

-- Under the model `futuristic` a load is safe once it is Done, and a store once its address and data are known. The
-- second load (1) waits for the first until 13; the division (2) and the store's address (3) for the second until 23;
-- the branch (4), executed in 5, for the store until 24. The store's data (in 4), the multiplication (5) and the
-- addition (6) wait for none.
behind_loads_rows : List Row
behind_loads_rows =
    row 1 (Fet 0x00010000 ∷ Fet 0x00010004 ∷ []) ∷
    row 2 (Ren 0 0x00010000 ∷ Ren 1 0x00010004 ∷ Fet 0x00010008 ∷ Fet 0x0001000c ∷ []) ∷
    row 3 (Ld 0 0x0001fff0 Miss ∷ Ren 2 0x00010008 ∷ Ren 3 0x0001000c ∷ Fet 0x00010010 ∷ Fet 0x00010014 ∷ []) ∷
    row 4 (Std 3 ∷ Ren 4 0x00010010 ∷ Ren 5 0x00010014 ∷ Fet 0x00010018 ∷ Fet 0x0001001c ∷ []) ∷
    row 5 (Alu 4 ∷ Mul 5 ∷ Ren 6 0x00010018 ∷ Fet 0x00010020 ∷ []) ∷
    row 6 (Done 4 ∷ Alu 6 ∷ []) ∷
    row 7 (Done 6 ∷ []) ∷
    row 8 (Done 5 ∷ []) ∷
    quiet 9 4 ++
    row 13 (Fill 0x0001fff0 ∷ Done 0 ∷ Ret 0 ∷ Ld 1 0x0001ffe0 Miss ∷ []) ∷
    quiet 14 9 ++
    row 23 (Fill 0x0001ffe0 ∷ Done 1 ∷ Ret 1 ∷ Div 2 3 ∷ Agu 3 ∷ []) ∷
    row 24 (Done 3 ∷ Res 4 NotTaken ∷ Bp 4 0 ∷ []) ∷
    quiet 25 1 ++
    row 26 (Done 2 ∷ Ret 2 ∷ Ret 3 ∷ St 3 0x0001fff0 true ∷ []) ∷
    row 27 (Ret 4 ∷ Ret 5 ∷ []) ∷
    row 28 (Ret 6 ∷ Ren 7 0x0001001c ∷ []) ∷
    row 29 (Ret 7 ∷ Call 7 0 ∷ []) ∷
    []

behind_loads_delayed : trace delaying_futuristic (code_of behind_loads_code) 0x10000 (memory 1 17) 100
    ≡ record { rows = behind_loads_rows; end = Some (Exit 0); retired = 8; cycles = 29 }
unfolding decode cycle retire rename fetch count_leading_zeros row quiet memory code_of behind_loads_rows
behind_loads_delayed = refl

-- A JALR that was predicted wrongly, of an address that no load gave, is executed in cycle 5. It takes effect only in
-- 18, the cycle after that in which the branch before it is resolved: it teaches its target then, and squashes.
jump_delayed_rows : List Row
jump_delayed_rows =
    row 1 (Fet 0x00010000 ∷ Fet 0x00010004 ∷ []) ∷
    row 2 (Ren 0 0x00010000 ∷ Ren 1 0x00010004 ∷ Fet 0x00010008 ∷ Fet 0x0001000c ∷ []) ∷
    row 3 (Ld 0 0x0001fff0 Miss ∷ Ren 2 0x00010008 ∷ Ren 3 0x0001000c ∷ Fet 0x00010010 ∷ Fet 0x00010014 ∷ []) ∷
    row 4 (Alu 3 ∷ Ren 4 0x00010010 ∷ Ren 5 0x00010014 ∷ Fet 0x00010018 ∷ Fet 0x0001001c ∷ []) ∷
    row 5 (Done 3 ∷ Alu 4 ∷ Alu 5 ∷ Ren 6 0x00010018 ∷ Fet 0x00010020 ∷ []) ∷
    row 6 (Done 4 ∷ Done 5 ∷ Alu 6 ∷ []) ∷
    row 7 (Done 6 ∷ []) ∷
    quiet 8 5 ++
    row 13 (Fill 0x0001fff0 ∷ Done 0 ∷ Ret 0 ∷ Mul 1 ∷ []) ∷
    quiet 14 2 ++
    row 16 (Done 1 ∷ Ret 1 ∷ Alu 2 ∷ []) ∷
    row 17 (Done 2 ∷ Res 2 NotTaken ∷ Bp 2 0 ∷ Ret 2 ∷ Ret 3 ∷ []) ∷
    row 18 (Res 4 Jump ∷ Bt 0 0x00010018 ∷ Sq 4 ∷ Ret 4 ∷ Fet 0x00010018 ∷ Fet 0x0001001c ∷ []) ∷
    row 19 (Ren 7 0x00010018 ∷ Fet 0x00010020 ∷ []) ∷
    row 20 (Alu 7 ∷ []) ∷
    row 21 (Done 7 ∷ Ret 7 ∷ Ren 8 0x0001001c ∷ []) ∷
    row 22 (Ret 8 ∷ Call 8 0 ∷ []) ∷
    []

jump_delayed : trace delaying (code_of jump_code) 0x10000 (memory 1 17) 100
    ≡ record { rows = jump_delayed_rows; end = Some (Exit 0); retired = 7; cycles = 22 }
unfolding decode cycle retire rename fetch count_leading_zeros row quiet memory code_of jump_delayed_rows
jump_delayed = refl

-- Under the model `spectre` a load waits for branches and stores alone. Here there is none, so nothing is delayed: the
-- last load (3) issues in 15 while the one before it (2) is missing, and is Done first.
loads_visible_rows : List Row
loads_visible_rows =
    row 1 (Fet 0x00010000 ∷ Fet 0x00010004 ∷ []) ∷
    row 2 (Ren 0 0x00010000 ∷ Ren 1 0x00010004 ∷ Fet 0x00010008 ∷ Fet 0x0001000c ∷ []) ∷
    row 3 (Ld 0 0x0001fff0 Miss ∷ Ren 2 0x00010008 ∷ Ren 3 0x0001000c ∷ Fet 0x00010010 ∷ Fet 0x00010014 ∷ []) ∷
    row 4 (Ren 4 0x00010010 ∷ Fet 0x00010018 ∷ []) ∷
    row 5 (Alu 4 ∷ []) ∷
    row 6 (Done 4 ∷ []) ∷
    quiet 7 6 ++
    row 13 (Fill 0x0001fff0 ∷ Done 0 ∷ Ret 0 ∷ Alu 1 ∷ []) ∷
    row 14 (Done 1 ∷ Ret 1 ∷ Ld 2 0x0001ffe0 Miss ∷ []) ∷
    row 15 (Ld 3 0x0001fff0 Hit ∷ []) ∷
    quiet 16 1 ++
    row 17 (Done 3 ∷ []) ∷
    quiet 18 6 ++
    row 24 (Fill 0x0001ffe0 ∷ Done 2 ∷ Ret 2 ∷ Ret 3 ∷ []) ∷
    row 25 (Ret 4 ∷ Ren 5 0x00010014 ∷ []) ∷
    row 26 (Ret 5 ∷ Call 5 0 ∷ []) ∷
    []

loads_visible : trace delaying (code_of loads_alone_code) 0x10000 (memory 0 0) 100
    ≡ record { rows = loads_visible_rows; end = Some (Exit 0); retired = 6; cycles = 26 }
unfolding decode cycle retire rename fetch count_leading_zeros row quiet memory code_of loads_visible_rows
loads_visible = refl

-- Under the model `futuristic` a load waits for the loads before it, too: the last one (3) issues in 24, in the cycle
-- in which the one before it (2) is Done.
loads_in_order_rows : List Row
loads_in_order_rows =
    row 1 (Fet 0x00010000 ∷ Fet 0x00010004 ∷ []) ∷
    row 2 (Ren 0 0x00010000 ∷ Ren 1 0x00010004 ∷ Fet 0x00010008 ∷ Fet 0x0001000c ∷ []) ∷
    row 3 (Ld 0 0x0001fff0 Miss ∷ Ren 2 0x00010008 ∷ Ren 3 0x0001000c ∷ Fet 0x00010010 ∷ Fet 0x00010014 ∷ []) ∷
    row 4 (Ren 4 0x00010010 ∷ Fet 0x00010018 ∷ []) ∷
    row 5 (Alu 4 ∷ []) ∷
    row 6 (Done 4 ∷ []) ∷
    quiet 7 6 ++
    row 13 (Fill 0x0001fff0 ∷ Done 0 ∷ Ret 0 ∷ Alu 1 ∷ []) ∷
    row 14 (Done 1 ∷ Ret 1 ∷ Ld 2 0x0001ffe0 Miss ∷ []) ∷
    quiet 15 9 ++
    row 24 (Fill 0x0001ffe0 ∷ Done 2 ∷ Ret 2 ∷ Ld 3 0x0001fff0 Hit ∷ []) ∷
    quiet 25 1 ++
    row 26 (Done 3 ∷ Ret 3 ∷ Ret 4 ∷ Ren 5 0x00010014 ∷ []) ∷
    row 27 (Ret 5 ∷ Call 5 0 ∷ []) ∷
    []

loads_in_order : trace delaying_futuristic (code_of loads_alone_code) 0x10000 (memory 0 0) 100
    ≡ record { rows = loads_in_order_rows; end = Some (Exit 0); retired = 6; cycles = 27 }
unfolding decode cycle retire rename fetch count_leading_zeros row quiet memory code_of loads_in_order_rows
loads_in_order = refl

-- With bits of dependence a load passes no store, though its bit isn't set: until the store (2) is cleared in cycle 8
-- the load (3) isn't visible, under either model. So the store violates none, and the load goes in 8, behind its
-- clearing. The store's data doesn't wait, and its address is known in 8: that of the multiplication (0) and the
-- addition (1).
no_load_passes_rows : List Row
no_load_passes_rows =
    row 1 (Fet 0x00010000 ∷ Fet 0x00010004 ∷ []) ∷
    row 2 (Ren 0 0x00010000 ∷ Ren 1 0x00010004 ∷ Fet 0x00010008 ∷ Fet 0x0001000c ∷ []) ∷
    row 3 (Mul 0 ∷ Ren 2 0x00010008 ∷ Ren 3 0x0001000c ∷ Fet 0x00010010 ∷ Fet 0x00010014 ∷ []) ∷
    row 4 (Std 2 ∷ Ren 4 0x00010010 ∷ Fet 0x00010018 ∷ []) ∷
    row 5 (Alu 4 ∷ []) ∷
    row 6 (Done 0 ∷ Done 4 ∷ Ret 0 ∷ Alu 1 ∷ []) ∷
    row 7 (Done 1 ∷ Ret 1 ∷ Agu 2 ∷ []) ∷
    row 8 (Done 2 ∷ Clr 2 ∷ Ret 2 ∷ St 2 0x0001fff0 false ∷ Ld 3 0x0001fff0 Miss ∷ []) ∷
    quiet 9 9 ++
    row 18 (Fill 0x0001fff0 ∷ Done 3 ∷ Ret 3 ∷ Ret 4 ∷ Ren 5 0x00010014 ∷ []) ∷
    row 19 (Ret 5 ∷ Call 5 0 ∷ []) ∷
    []

no_load_passes : trace delaying_with_bits (code_of late_address_code) 0x10000 (memory 0 0) 100
    ≡ record { rows = no_load_passes_rows; end = Some (Exit 0); retired = 6; cycles = 19 }
unfolding decode cycle retire rename fetch count_leading_zeros row quiet memory code_of no_load_passes_rows
no_load_passes = refl

no_load_passes_futuristic : trace delaying_with_bits_futuristic (code_of late_address_code) 0x10000 (memory 0 0) 100
    ≡ record { rows = no_load_passes_rows; end = Some (Exit 0); retired = 6; cycles = 19 }
unfolding decode cycle retire rename fetch count_leading_zeros row quiet memory code_of no_load_passes_rows
no_load_passes_futuristic = refl
