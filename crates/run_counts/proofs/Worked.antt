-- Rows that were counted by hand.
use Rattle.std.proofs.Common.{◌≡◌, ◌+◌, ◌^◌, true, false, List, [], ◌∷◌, map, None, codes, refl}
use Rattle.window_model.specs.declared.Event.TheVariants.{Fill, Done, Res, Bp, Bt, Sq, Clr, Vio, Dp, Ret, St, Call, Alu, Mul, Div, Agu, Std, Ld, LdForward, LdFault, Pf, Ren, Fet}
use Rattle.window_model.specs.declared.Look.TheVariants.{Hit, Miss, Join, Second}
use Rattle.window_model.specs.declared.Way.TheVariants.{Taken, NotTaken, Jump}
use Rattle.window_model.specs.Row.{Row}
use Rattle.run_counts.specs.Counted.{names, as_told, name_of, numbers}

-- a branch that is wrongly predicted, a load that passed a store wrongly, a call and a division; a JALR whose target
-- faults; and a JALR that is wrongly predicted
worked_rows : List Row
worked_rows =
    record {
      cycle = 1;
      events = Res 2 Taken ∷ Bp 2 2 ∷ Sq 7 ∷ Clr 1 ∷ Vio 4 ∷ Dp 0 1 ∷ Sq 3 ∷ Ret 0 ∷ Call 0 4 ∷ Div 5 20 ∷ Ld 0 64 Miss ∷ Pf 128 Second ∷ [];
    }
    ∷ record { cycle = 2; events = Res 7 Jump ∷ Sq 2 ∷ [] } ∷ record { cycle = 3; events = Res 8 Jump ∷ Bt 1 64 ∷ Sq 1 ∷ [] } ∷ []

rows_counted : numbers worked_rows
    ≡ 1 ∷ 0 ∷ 0 ∷ 0 ∷ 0 ∷ 1 ∷ 20 ∷ 0 ∷ 0 ∷ 0 ∷ 0 ∷ 1 ∷ 0 ∷ 0 ∷ 0 ∷ 1 ∷ 0 ∷ 0 ∷ 0 ∷ 1 ∷ 0 ∷ 2 ∷ 1 ∷ 2 ∷ 1 ∷ 1 ∷ 1 ∷ 1 ∷ 1 ∷ 1 ∷ 13 ∷ 0 ∷ 0 ∷ 1 ∷ 4 ∷ []
unfolding worked_rows names as_told
rows_counted = refl

-- the number to which each event adds, by the rows of the table in docs/formats.md
events_named :
    map (name_of None)
    (Ret 0 ∷ Fet 64 ∷ Ren 0 64 ∷ Alu 0 ∷ Mul 0 ∷ Div 0 20 ∷ Agu 0 ∷ Std 0 ∷ Ld 0 64 Hit ∷ Ld 0 64 Second ∷ Ld 0 64 Miss ∷ Ld 0 64 Join ∷ LdForward 0 ∷ LdFault 0
    ∷ Pf 64 Second ∷ Pf 64 Miss ∷ Fill 64 ∷ Done 0 ∷ Res 0 Taken ∷ Res 0 NotTaken ∷ Res 0 Jump ∷ Bp 0 1 ∷ Bt 0 64 ∷ Clr 0 ∷ Vio 0 ∷ Dp 0 1 ∷ Sq 3 ∷ St 0 64 true ∷ St 0 64 false ∷ Call 0 4 ∷ [])
    ≡ codes "retired" ∷ codes "fetched" ∷ codes "renamed" ∷ codes "alu" ∷ codes "mul" ∷ codes "divisions" ∷ codes "store_addresses" ∷ codes "store_data"
    ∷ codes "load_hits" ∷ codes "load_second" ∷ codes "load_misses" ∷ codes "load_joins" ∷ codes "load_forwards" ∷ codes "load_faults" ∷ codes "prefetch_second" ∷ codes "prefetch_memory"
    ∷ codes "fills" ∷ codes "done" ∷ codes "branches_taken" ∷ codes "branches_not_taken" ∷ codes "jumps" ∷ codes "counters" ∷ codes "targets"
    ∷ codes "cleared_stores" ∷ codes "violations" ∷ codes "dependence_bits" ∷ codes "mispredicted_jumps" ∷ codes "store_hits" ∷ codes "store_misses" ∷ codes "calls" ∷ []
events_named = refl

-- the greatest number of 64 bits is told of itself and of what is greater, and a smaller one as it is
greatest_told : map as_told (18446744073709551614 ∷ 18446744073709551615 ∷ 18446744073709551616 ∷ (2 ^ 64 + 5) ∷ [])
    ≡ 18446744073709551614 ∷ 18446744073709551615 ∷ 18446744073709551615 ∷ 18446744073709551615 ∷ []
unfolding as_told
greatest_told = refl
