-- A short run whose text was written by hand.
use Rattle.std.proofs.Common.{◌≡◌, ℕ, List, [], ◌∷◌, ◌++◌, Some, None, codes, refl}
use Rattle.std.specs.Fmt.{digits}
use Rattle.rv_types.specs.declared.End.TheVariants.{Exit}
use Rattle.line_text.specs.EndLine.{end_line}
use Rattle.window_model.specs.declared.Event.TheVariants.{Ret, Call, Div, Alu, Done, Ren, Fet}
use Rattle.window_model.specs.Cycle.{Trace}
use Rattle.run_counts.specs.Counted.{names, as_told}
use Rattle.slot_reasons.specs.declared.Reason.TheVariants.{FrontEnd, Divider, End}
use Rattle.slot_reasons.specs.Slots.{Seen, rows_of, slot_names}
use Rattle.stats_top.specs.Stats.{stretch_line, stats_from, way_text}

-- cycles 7 to 11 of a run, with two slots each: three fetches and two renamings, an operation and a division, and a
-- call that ends it
worked_seen : List Seen
worked_seen =
    record { row = record { cycle = 7; events = Fet 65536 ∷ Fet 65540 ∷ [] }; charge = record { retired = 0; empty = 2; reason = FrontEnd } }
    ∷ record { row = record { cycle = 8; events = Ren 4 65536 ∷ Ren 5 65540 ∷ Fet 65544 ∷ [] }; charge = record { retired = 0; empty = 2; reason = FrontEnd } }
    ∷ record { row = record { cycle = 9; events = Alu 4 ∷ Div 5 20 ∷ [] }; charge = record { retired = 0; empty = 2; reason = FrontEnd } }
    ∷ record { row = record { cycle = 10; events = Done 4 ∷ Ret 4 ∷ [] }; charge = record { retired = 1; empty = 1; reason = Divider } }
    ∷ record { row = record { cycle = 11; events = Ret 5 ∷ Call 5 3 ∷ [] }; charge = record { retired = 1; empty = 1; reason = End } }
    ∷ []

worked_trace : Trace
worked_trace = record { rows = rows_of worked_seen; end = Some (Exit 0); retired = 6; cycles = 11 }

-- the lines of its two whole stretches of two cycles behind cycle 6: the last cycle has none
abbrev way_lines : List ℕ
way_lines =
    codes "8 0 3 2 0 0 0 0 0 0 0 0 0 0 0 0 0 0 0 0 0 0 0 0 0 0 0 0 0 0 0 0 0 0 0 0 0 4 0 0 0 0 0 0 0 0 0 0 0 0 0 0 0 0 0\n"
    ++ codes "10 1 0 0 1 0 1 20 0 0 0 0 0 0 0 0 0 0 0 1 0 0 0 0 0 0 0 0 0 0 0 0 0 0 0 0 1 2 0 0 0 0 0 0 1 0 0 0 0 0 0 0 0 0 0\n"

-- the lines of the numbers of all its cycles, and of their slots
abbrev count_lines : List ℕ
count_lines =
    codes "retired 2\n" ++ codes "fetched 3\n" ++ codes "renamed 2\n" ++ codes "alu 1\n"
    ++ codes "mul 0\n" ++ codes "divisions 1\n" ++ codes "division_cycles 20\n" ++ codes "store_addresses 0\n"
    ++ codes "store_data 0\n" ++ codes "load_hits 0\n" ++ codes "load_second 0\n" ++ codes "load_misses 0\n"
    ++ codes "load_joins 0\n" ++ codes "load_forwards 0\n" ++ codes "load_faults 0\n" ++ codes "prefetch_second 0\n"
    ++ codes "prefetch_memory 0\n" ++ codes "fills 0\n" ++ codes "done 1\n" ++ codes "branches_taken 0\n"
    ++ codes "branches_not_taken 0\n" ++ codes "jumps 0\n" ++ codes "mispredicted_branches 0\n" ++ codes "mispredicted_jumps 0\n"
    ++ codes "counters 0\n" ++ codes "targets 0\n" ++ codes "cleared_stores 0\n" ++ codes "violations 0\n"
    ++ codes "dependence_bits 0\n" ++ codes "load_squashes 0\n" ++ codes "dropped 0\n" ++ codes "store_hits 0\n"
    ++ codes "store_misses 0\n" ++ codes "calls 1\n" ++ codes "output_bytes 3\n"

abbrev slot_lines : List ℕ
slot_lines =
    codes "slots_base 2\n" ++ codes "slots_front_end 6\n" ++ codes "slots_room 0\n" ++ codes "slots_misprediction 0\n" ++ codes "slots_violation 0\n"
    ++ codes "slots_call 0\n" ++ codes "slots_simple 0\n" ++ codes "slots_multiplier 0\n" ++ codes "slots_divider 1\n"
    ++ codes "slots_store 0\n" ++ codes "slots_load_first 0\n" ++ codes "slots_load_second 0\n" ++ codes "slots_load_memory 0\n"
    ++ codes "slots_registers 0\n" ++ codes "slots_resolve 0\n" ++ codes "slots_clear 0\n" ++ codes "slots_store_port 0\n"
    ++ codes "slots_defence 0\n" ++ codes "slots_end 1\n"

text_told : stats_from (Some 2) 6 worked_seen worked_trace ≡ way_lines ++ ((count_lines ++ slot_lines) ++ codes "end exit 0 retired 6 cycles 11\n")
unfolding worked_seen worked_trace stats_from stretch_line names slot_names as_told end_line digits
text_told = refl

-- a stretch as long as the run has a line, and without stretches there is none
way_told : (way_text (Some 5) 6 worked_seen
    ≡ codes "11 2 3 2 1 0 1 20 0 0 0 0 0 0 0 0 0 0 0 1 0 0 0 0 0 0 0 0 0 0 0 0 0 0 1 3 2 6 0 0 0 0 0 0 1 0 0 0 0 0 0 0 0 0 1\n") × (way_text None 6 worked_seen ≡ [])
unfolding worked_seen stretch_line names slot_names as_told digits
way_told = (refl, refl)
