-- Made by tools/evaluate/write: change what it reads, in tools/evaluate/runs, and run it again.
use Rattle.std.proofs.Common.{refl, [], ◌∷◌}
use Rattle.std.specs.List.{AllByRecursion as Each}
use Rattle.machine_desc.specs.declared.SttModel.TheVariants.{Futuristic, Off, Spectre}
use Rattle.machine_desc.specs.declared.Defence.TheVariants.{Delay, Hold, Stt}
use lib.Count.{ones}
use lib.Utf8.{encode}
use Rattle.std.specs.Float.Numeral.{scan_numeral}
use Rattle.std.specs.Fmt.{digits}
use Rattle.std.specs.Int.Count.{count_leading_zeros}
use Rattle.std.specs.Str.{chars, is_utf8}
use Rattle.toml_parser.specs.Lexical.{skip_from, skip_ws}
use Rattle.toml_parser.specs.Numbers.{decimal_number, number, plain_number, underscore_fits, unquoted, word_len, word_value}
use Rattle.toml_parser.specs.Strings.{body, key_after, one_line, quoted, simple_key, special}
use Rattle.toml.specs.Parse.{atom, expression, header_key, key_equals, line, lines, parse_document, skip_bom, val}
use Rattle.toml.specs.Tables.{along_dots, along_header, at_key, define}
use Rattle.rv_types.specs.Decode.{decode}
use Rattle.rv_types.specs.Memory.{zeros}
use Rattle.machine_desc.specs.Description.{description_of, document_fault, end_fault, key_fault, keys_fault, latency_fault, registers_fault, second_fault, sections_fault, top_fault}
use Rattle.elf_loader.specs.Fields.{half, has_magic, word}
use Rattle.elf_loader.specs.Faults.{header_fault}
use Rattle.elf_loader.specs.Image.{code_of, ram_after, ram_fault, segment_at}
use Rattle.line_text.specs.EndLine.{end_line}
use Rattle.window_model.specs.Cycle.{cycle}
use Rattle.window_model.specs.Fetch.{fetch}
use Rattle.window_model.specs.Rename.{rename}
use Rattle.window_model.specs.Retire.{retire}
use Rattle.trace_text.specs.TraceText.{event_text, events_text, row_text, rows_text, trace_text}
use Rattle.generated_runs.specs.AcrossTwoLines.{across_two_lines}
use Rattle.generated_runs.specs.BitAsksForAddresses.{bit_asks_for_addresses}
use Rattle.generated_runs.specs.BitAsksForNoClearing.{bit_asks_for_no_clearing}
use Rattle.generated_runs.specs.BitsStaySet.{bits_stay_set}
use Rattle.generated_runs.specs.BranchToTheNext.{branch_to_the_next}
use Rattle.generated_runs.specs.ByteAtItsEndCovered.{byte_at_its_end_covered}
use Rattle.generated_runs.specs.CheckpointOfTheLoad.{checkpoint_of_the_load}
use Rattle.generated_runs.specs.ClearedAtASquash.{cleared_at_a_squash}
use Rattle.generated_runs.specs.CoveredLineIsAccessed.{covered_line_is_accessed}
use Rattle.generated_runs.specs.DelayedUnderSpectre.{delayed_under_spectre}
use Rattle.generated_runs.specs.DividerKeptAtAViolation.{divider_kept_at_a_violation}
use Rattle.generated_runs.specs.DoneBranchIsUnsafe.{done_branch_is_unsafe}
use Rattle.generated_runs.specs.FaultHeld.{fault_held}
use Rattle.generated_runs.specs.FaultingBranchSquashes.{faulting_branch_squashes}
use Rattle.generated_runs.specs.FaultingLoad.{faulting_load}
use Rattle.generated_runs.specs.FaultingStore.{faulting_store}
use Rattle.generated_runs.specs.FillLeavesSecond.{fill_leaves_second}
use Rattle.generated_runs.specs.FillsAsTaken.{fills_as_taken}
use Rattle.generated_runs.specs.FiveReturns.{five_returns}
use Rattle.generated_runs.specs.FiveWaysInSecond.{five_ways_in_second}
use Rattle.generated_runs.specs.ForwardedAcrossLines.{forwarded_across_lines}
use Rattle.generated_runs.specs.ForwardedMovesNoLine.{forwarded_moves_no_line}
use Rattle.generated_runs.specs.FoundInSecond.{found_in_second}
use Rattle.generated_runs.specs.FourSets.{four_sets}
use Rattle.generated_runs.specs.FullStack.{full_stack}
use Rattle.generated_runs.specs.HalfIssued.{half_issued}
use Rattle.generated_runs.specs.HalfIssuedData.{half_issued_data}
use Rattle.generated_runs.specs.HeldUnderFuturistic.{held_under_futuristic}
use Rattle.generated_runs.specs.HiddenBase.{hidden_base}
use Rattle.generated_runs.specs.HistoryAsFetched.{history_as_fetched}
use Rattle.generated_runs.specs.HistoryBehindAJalr.{history_behind_a_jalr}
use Rattle.generated_runs.specs.HitAndJoin.{hit_and_join}
use Rattle.generated_runs.specs.HitLeavesSecond.{hit_leaves_second}
use Rattle.generated_runs.specs.JoinLeavesSecond.{join_leaves_second}
use Rattle.generated_runs.specs.JoinedLineTakesNoRegister.{joined_line_takes_no_register}
use Rattle.generated_runs.specs.JumpThatLinksElsewhere.{jump_that_links_elsewhere}
use Rattle.generated_runs.specs.JumpsLeaveHistory.{jumps_leave_history}
use Rattle.generated_runs.specs.LargeWindow.{large_window}
use Rattle.generated_runs.specs.LateAddress.{late_address}
use Rattle.generated_runs.specs.LateData.{late_data}
use Rattle.generated_runs.specs.LateDataVersion1.{late_data_version_1}
use Rattle.generated_runs.specs.LaterOfTwoLines.{later_of_two_lines}
use Rattle.generated_runs.specs.LevelsDropApart.{levels_drop_apart}
use Rattle.generated_runs.specs.LinkIsNoRoot.{link_is_no_root}
use Rattle.generated_runs.specs.LinkThroughX1.{link_through_x1}
use Rattle.generated_runs.specs.LinkingJump.{linking_jump}
use Rattle.generated_runs.specs.LoadMovesTheLineThatHits.{load_moves_the_line_that_hits}
use Rattle.generated_runs.specs.LoadReachesBehindMemory.{load_reaches_behind_memory}
use Rattle.generated_runs.specs.LoopByHistory.{loop_by_history}
use Rattle.generated_runs.specs.LowerLineComesLater.{lower_line_comes_later}
use Rattle.generated_runs.specs.MemoryAndSecond.{memory_and_second}
use Rattle.generated_runs.specs.MisalignedRefused.{misaligned_refused}
use Rattle.generated_runs.specs.Mixed1.{mixed_1}
use Rattle.generated_runs.specs.Mixed2.{mixed_2}
use Rattle.generated_runs.specs.Mixed3.{mixed_3}
use Rattle.generated_runs.specs.Mixed4.{mixed_4}
use Rattle.generated_runs.specs.Mixed5.{mixed_5}
use Rattle.generated_runs.specs.Mixed6.{mixed_6}
use Rattle.generated_runs.specs.Mixed7.{mixed_7}
use Rattle.generated_runs.specs.Mixed8.{mixed_8}
use Rattle.generated_runs.specs.MixedAnyAddress1.{mixed_any_address_1}
use Rattle.generated_runs.specs.MixedAnyAddress2.{mixed_any_address_2}
use Rattle.generated_runs.specs.MixedDelay1.{mixed_delay_1}
use Rattle.generated_runs.specs.MixedDelay2.{mixed_delay_2}
use Rattle.generated_runs.specs.MixedHistory1.{mixed_history_1}
use Rattle.generated_runs.specs.MixedHistory2.{mixed_history_2}
use Rattle.generated_runs.specs.MixedMemory1.{mixed_memory_1}
use Rattle.generated_runs.specs.MixedMemory2.{mixed_memory_2}
use Rattle.generated_runs.specs.MixedSecondLevel1.{mixed_second_level_1}
use Rattle.generated_runs.specs.MixedSecondLevel2.{mixed_second_level_2}
use Rattle.generated_runs.specs.MixedSettings.{mixed_settings}
use Rattle.generated_runs.specs.MixedTogether1.{mixed_together_1}
use Rattle.generated_runs.specs.MixedTogether2.{mixed_together_2}
use Rattle.generated_runs.specs.NextLineFetched.{next_line_fetched}
use Rattle.generated_runs.specs.NoPrefetchBehindMemory.{no_prefetch_behind_memory}
use Rattle.generated_runs.specs.NoPrefetchForAHit.{no_prefetch_for_a_hit}
use Rattle.generated_runs.specs.NoPrefetchForAJoin.{no_prefetch_for_a_join}
use Rattle.generated_runs.specs.NoPrefetchOfAHeldLine.{no_prefetch_of_a_held_line}
use Rattle.generated_runs.specs.NoPrefetchOfAddress0.{no_prefetch_of_address_0}
use Rattle.generated_runs.specs.NoPrefetchOnItsWay.{no_prefetch_on_its_way}
use Rattle.generated_runs.specs.NoPrefetchWithoutRegister.{no_prefetch_without_register}
use Rattle.generated_runs.specs.OffClearsAtOnce.{off_clears_at_once}
use Rattle.generated_runs.specs.OffDelaysNothing.{off_delays_nothing}
use Rattle.generated_runs.specs.OffDivides.{off_divides}
use Rattle.generated_runs.specs.OffForwards.{off_forwards}
use Rattle.generated_runs.specs.OffHoldsNothing.{off_holds_nothing}
use Rattle.generated_runs.specs.OffViolates.{off_violates}
use Rattle.generated_runs.specs.OlderLoadHidesNothing.{older_load_hides_nothing}
use Rattle.generated_runs.specs.OlderStoreWithoutData.{older_store_without_data}
use Rattle.generated_runs.specs.OlderTaintedAddress.{older_tainted_address}
use Rattle.generated_runs.specs.OneByte.{one_byte}
use Rattle.generated_runs.specs.OnePortEach.{one_port_each}
use Rattle.generated_runs.specs.PartlyCovered.{partly_covered}
use Rattle.generated_runs.specs.PartsAlone.{parts_alone}
use Rattle.generated_runs.specs.PrefetchAtTheEndOfMemory.{prefetch_at_the_end_of_memory}
use Rattle.generated_runs.specs.PrefetchBehindBothLines.{prefetch_behind_both_lines}
use Rattle.generated_runs.specs.PrefetchBehindTheLowerLine.{prefetch_behind_the_lower_line}
use Rattle.generated_runs.specs.PrefetchBehindX0.{prefetch_behind_x0}
use Rattle.generated_runs.specs.PrefetchFromSecond.{prefetch_from_second}
use Rattle.generated_runs.specs.PrefetchMovesSecond.{prefetch_moves_second}
use Rattle.generated_runs.specs.PrefetchedToTheFront.{prefetched_to_the_front}
use Rattle.generated_runs.specs.RecentInSecond.{recent_in_second}
use Rattle.generated_runs.specs.RegistersForBothLines.{registers_for_both_lines}
use Rattle.generated_runs.specs.ReturnByAnotherRegister.{return_by_another_register}
use Rattle.generated_runs.specs.ReturnByStack.{return_by_stack}
use Rattle.generated_runs.specs.ReturnFromNoCall.{return_from_no_call}
use Rattle.generated_runs.specs.ReturnThatLinks.{return_that_links}
use Rattle.generated_runs.specs.ReturnWithoutStack.{return_without_stack}
use Rattle.generated_runs.specs.Run01.{run_01}
use Rattle.generated_runs.specs.Run02.{run_02}
use Rattle.generated_runs.specs.Run03.{run_03}
use Rattle.generated_runs.specs.Run04.{run_04}
use Rattle.generated_runs.specs.Run05.{run_05}
use Rattle.generated_runs.specs.Run06.{run_06}
use Rattle.generated_runs.specs.Run07.{run_07}
use Rattle.generated_runs.specs.Run08.{run_08}
use Rattle.generated_runs.specs.Run09.{run_09}
use Rattle.generated_runs.specs.Run10.{run_10}
use Rattle.generated_runs.specs.Run11.{run_11}
use Rattle.generated_runs.specs.Run12.{run_12}
use Rattle.generated_runs.specs.Run13.{run_13}
use Rattle.generated_runs.specs.Run14.{run_14}
use Rattle.generated_runs.specs.Run15.{run_15}
use Rattle.generated_runs.specs.Run16.{run_16}
use Rattle.generated_runs.specs.Run17.{run_17}
use Rattle.generated_runs.specs.Run18.{run_18}
use Rattle.generated_runs.specs.Run19.{run_19}
use Rattle.generated_runs.specs.Run20.{run_20}
use Rattle.generated_runs.specs.Run21.{run_21}
use Rattle.generated_runs.specs.Run22.{run_22}
use Rattle.generated_runs.specs.Run23.{run_23}
use Rattle.generated_runs.specs.Run24.{run_24}
use Rattle.generated_runs.specs.Run25.{run_25}
use Rattle.generated_runs.specs.Run26.{run_26}
use Rattle.generated_runs.specs.Run27.{run_27}
use Rattle.generated_runs.specs.Run28.{run_28}
use Rattle.generated_runs.specs.Run29.{run_29}
use Rattle.generated_runs.specs.Run30.{run_30}
use Rattle.generated_runs.specs.Run31.{run_31}
use Rattle.generated_runs.specs.Run32.{run_32}
use Rattle.generated_runs.specs.Run33.{run_33}
use Rattle.generated_runs.specs.Run34.{run_34}
use Rattle.generated_runs.specs.Run35.{run_35}
use Rattle.generated_runs.specs.Run36.{run_36}
use Rattle.generated_runs.specs.Run37.{run_37}
use Rattle.generated_runs.specs.Run38.{run_38}
use Rattle.generated_runs.specs.SecondFilledAtFill.{second_filled_at_fill}
use Rattle.generated_runs.specs.SecondMovedAtOnce.{second_moved_at_once}
use Rattle.generated_runs.specs.SetsOfSecond.{sets_of_second}
use Rattle.generated_runs.specs.SevenDigitsOfHistory.{seven_digits_of_history}
use Rattle.generated_runs.specs.ShortHistory.{short_history}
use Rattle.generated_runs.specs.SixteenBits.{sixteen_bits}
use Rattle.generated_runs.specs.SquashByHistory.{squash_by_history}
use Rattle.generated_runs.specs.StackBehindASquash.{stack_behind_a_squash}
use Rattle.generated_runs.specs.StoreBehindLoad.{store_behind_load}
use Rattle.generated_runs.specs.StoreMovesBothLines.{store_moves_both_lines}
use Rattle.generated_runs.specs.StoreMovesTheLineThatHits.{store_moves_the_line_that_hits}
use Rattle.generated_runs.specs.StoreMovesTheLowerLine.{store_moves_the_lower_line}
use Rattle.generated_runs.specs.StorePassesSecond.{store_passes_second}
use Rattle.generated_runs.specs.StoreReachesBehindMemory.{store_reaches_behind_memory}
use Rattle.generated_runs.specs.StoreWithoutDataShadows.{store_without_data_shadows}
use Rattle.generated_runs.specs.TaintThroughDivision.{taint_through_division}
use Rattle.generated_runs.specs.TaintedAddress.{tainted_address}
use Rattle.generated_runs.specs.TaintedAddressFaultingLoad.{tainted_address_faulting_load}
use Rattle.generated_runs.specs.TaintedAddressFaultingStore.{tainted_address_faulting_store}
use Rattle.generated_runs.specs.TaintedAddressHidden.{tainted_address_hidden}
use Rattle.generated_runs.specs.TaintedData.{tainted_data}
use Rattle.generated_runs.specs.TaintedDataHidesNothing.{tainted_data_hides_nothing}
use Rattle.generated_runs.specs.TaintedFaultHides.{tainted_fault_hides}
use Rattle.generated_runs.specs.TaintedLink.{tainted_link}
use Rattle.generated_runs.specs.TargetReplaced.{target_replaced}
use Rattle.generated_runs.specs.TwoJoins.{two_joins}
use Rattle.generated_runs.specs.UnclearedFaultHides.{uncleared_fault_hides}
use Rattle.generated_runs.specs.ViolatedBehindAYoungerStore.{violated_behind_a_younger_store}
use Rattle.generated_runs.specs.ViolatedWithoutData.{violated_without_data}
use Rattle.generated_runs.specs.VisibleFaultGiven.{visible_fault_given}
use Rattle.generated_runs.specs.WaitingFenceIsSafe.{waiting_fence_is_safe}
use Rattle.generated_runs.specs.WaitingJalIsSafe.{waiting_jal_is_safe}
use Rattle.generated_runs.specs.WaitingJalrIsUnsafe.{waiting_jalr_is_unsafe}
use Rattle.generated_runs.specs.WaitingLoadMovesNothing.{waiting_load_moves_nothing}
use Rattle.generated_runs.specs.WaitingLuiIsSafe.{waiting_lui_is_safe}
use Rattle.generated_runs.specs.WaitingProductIsSafe.{waiting_product_is_safe}
use Rattle.generated_runs.specs.WaitingStoreHidesNothing.{waiting_store_hides_nothing}
use Rattle.generated_runs.specs.WrongReturnPops.{wrong_return_pops}
use Rattle.generated_runs.specs.YoungerAddress.{younger_address}
use Rattle.generated_runs.specs.YoungerStore.{younger_store}
use Rattle.generated_runs.specs.YoungerStoreHidesNothing.{younger_store_hides_nothing}
use Rattle.generated_runs.specs.Agreement.{Agrees}
use Rattle.generated_runs.specs.Runs.{runs}
use Rattle.generated_runs.proofs.Agreed.{agrees}

-- The numbers are those of the description. Five things compute: they fit, the description is read as these numbers,
-- the image's headers and its segments have no fault, and the trace of the written machine is the text.
across_two_lines_agrees : Agrees across_two_lines
unfolding ones encode scan_numeral digits count_leading_zeros chars is_utf8 skip_from skip_ws decimal_number number
    plain_number underscore_fits unquoted word_len word_value body key_after one_line quoted simple_key special atom
    expression header_key key_equals line lines parse_document skip_bom val along_dots along_header at_key define
    decode zeros description_of document_fault end_fault key_fault keys_fault latency_fault registers_fault
    second_fault sections_fault top_fault half has_magic word header_fault code_of ram_after ram_fault segment_at
    end_line cycle fetch rename retire event_text events_text row_text rows_text trace_text
across_two_lines_agrees = agrees across_two_lines (record { version = 2; numbers = 2 ∷ 2 ∷ 16 ∷ 8 ∷ 4 ∷ 4 ∷ 8 ∷ 2 ∷ 3 ∷ 16 ∷ 4 ∷ 2 ∷ 2 ∷ 16 ∷ 2 ∷ 10 ∷ 2 ∷ 65536 ∷ 65536 ∷ 1 ∷ 0 ∷ 0 ∷ 0 ∷ 0 ∷ 1 ∷ 2 ∷ 0 ∷ []; model = Spectre; defence = Stt }) refl refl refl refl refl

bit_asks_for_addresses_agrees : Agrees bit_asks_for_addresses
unfolding ones encode scan_numeral digits count_leading_zeros chars is_utf8 skip_from skip_ws decimal_number number
    plain_number underscore_fits unquoted word_len word_value body key_after one_line quoted simple_key special atom
    expression header_key key_equals line lines parse_document skip_bom val along_dots along_header at_key define
    decode zeros description_of document_fault end_fault key_fault keys_fault latency_fault registers_fault
    second_fault sections_fault top_fault half has_magic word header_fault code_of ram_after ram_fault segment_at
    end_line cycle fetch rename retire event_text events_text row_text rows_text trace_text
bit_asks_for_addresses_agrees = agrees bit_asks_for_addresses (record { version = 2; numbers = 2 ∷ 2 ∷ 16 ∷ 8 ∷ 4 ∷ 4 ∷ 8 ∷ 2 ∷ 3 ∷ 16 ∷ 4 ∷ 2 ∷ 2 ∷ 16 ∷ 2 ∷ 10 ∷ 2 ∷ 65536 ∷ 65536 ∷ 0 ∷ 1 ∷ 0 ∷ 0 ∷ 0 ∷ 1 ∷ 2 ∷ 0 ∷ []; model = Spectre; defence = Stt }) refl refl refl refl refl

bit_asks_for_no_clearing_agrees : Agrees bit_asks_for_no_clearing
unfolding ones encode scan_numeral digits count_leading_zeros chars is_utf8 skip_from skip_ws decimal_number number
    plain_number underscore_fits unquoted word_len word_value body key_after one_line quoted simple_key special atom
    expression header_key key_equals line lines parse_document skip_bom val along_dots along_header at_key define
    decode zeros description_of document_fault end_fault key_fault keys_fault latency_fault registers_fault
    second_fault sections_fault top_fault half has_magic word header_fault code_of ram_after ram_fault segment_at
    end_line cycle fetch rename retire event_text events_text row_text rows_text trace_text
bit_asks_for_no_clearing_agrees = agrees bit_asks_for_no_clearing (record { version = 2; numbers = 2 ∷ 2 ∷ 16 ∷ 8 ∷ 4 ∷ 4 ∷ 8 ∷ 2 ∷ 3 ∷ 16 ∷ 4 ∷ 2 ∷ 2 ∷ 16 ∷ 2 ∷ 10 ∷ 2 ∷ 65536 ∷ 65536 ∷ 0 ∷ 1 ∷ 0 ∷ 0 ∷ 0 ∷ 1 ∷ 2 ∷ 0 ∷ []; model = Spectre; defence = Stt }) refl refl refl refl refl

bits_stay_set_agrees : Agrees bits_stay_set
unfolding ones encode scan_numeral digits count_leading_zeros chars is_utf8 skip_from skip_ws decimal_number number
    plain_number underscore_fits unquoted word_len word_value body key_after one_line quoted simple_key special atom
    expression header_key key_equals line lines parse_document skip_bom val along_dots along_header at_key define
    decode zeros description_of document_fault end_fault key_fault keys_fault latency_fault registers_fault
    second_fault sections_fault top_fault half has_magic word header_fault code_of ram_after ram_fault segment_at
    end_line cycle fetch rename retire event_text events_text row_text rows_text trace_text
bits_stay_set_agrees = agrees bits_stay_set (record { version = 2; numbers = 2 ∷ 2 ∷ 16 ∷ 8 ∷ 4 ∷ 4 ∷ 8 ∷ 2 ∷ 3 ∷ 16 ∷ 4 ∷ 2 ∷ 2 ∷ 16 ∷ 2 ∷ 10 ∷ 2 ∷ 65536 ∷ 65536 ∷ 0 ∷ 2 ∷ 0 ∷ 0 ∷ 0 ∷ 1 ∷ 2 ∷ 0 ∷ []; model = Spectre; defence = Stt }) refl refl refl refl refl

branch_to_the_next_agrees : Agrees branch_to_the_next
unfolding ones encode scan_numeral digits count_leading_zeros chars is_utf8 skip_from skip_ws decimal_number number
    plain_number underscore_fits unquoted word_len word_value body key_after one_line quoted simple_key special atom
    expression header_key key_equals line lines parse_document skip_bom val along_dots along_header at_key define
    decode zeros description_of document_fault end_fault key_fault keys_fault latency_fault registers_fault
    second_fault sections_fault top_fault half has_magic word header_fault code_of ram_after ram_fault segment_at
    end_line cycle fetch rename retire event_text events_text row_text rows_text trace_text
branch_to_the_next_agrees = agrees branch_to_the_next (record { version = 2; numbers = 2 ∷ 2 ∷ 16 ∷ 8 ∷ 4 ∷ 4 ∷ 8 ∷ 2 ∷ 3 ∷ 16 ∷ 4 ∷ 2 ∷ 2 ∷ 16 ∷ 2 ∷ 10 ∷ 2 ∷ 65536 ∷ 65536 ∷ 0 ∷ 0 ∷ 2 ∷ 0 ∷ 0 ∷ 1 ∷ 2 ∷ 0 ∷ []; model = Spectre; defence = Stt }) refl refl refl refl refl

byte_at_its_end_covered_agrees : Agrees byte_at_its_end_covered
unfolding ones encode scan_numeral digits count_leading_zeros chars is_utf8 skip_from skip_ws decimal_number number
    plain_number underscore_fits unquoted word_len word_value body key_after one_line quoted simple_key special atom
    expression header_key key_equals line lines parse_document skip_bom val along_dots along_header at_key define
    decode zeros description_of document_fault end_fault key_fault keys_fault latency_fault registers_fault
    second_fault sections_fault top_fault half has_magic word header_fault code_of ram_after ram_fault segment_at
    end_line cycle fetch rename retire event_text events_text row_text rows_text trace_text
byte_at_its_end_covered_agrees = agrees byte_at_its_end_covered (record { version = 2; numbers = 2 ∷ 2 ∷ 16 ∷ 8 ∷ 4 ∷ 4 ∷ 8 ∷ 2 ∷ 3 ∷ 16 ∷ 4 ∷ 2 ∷ 2 ∷ 16 ∷ 2 ∷ 10 ∷ 2 ∷ 65536 ∷ 65536 ∷ 1 ∷ 0 ∷ 0 ∷ 0 ∷ 0 ∷ 1 ∷ 2 ∷ 0 ∷ []; model = Spectre; defence = Stt }) refl refl refl refl refl

checkpoint_of_the_load_agrees : Agrees checkpoint_of_the_load
unfolding ones encode scan_numeral digits count_leading_zeros chars is_utf8 skip_from skip_ws decimal_number number
    plain_number underscore_fits unquoted word_len word_value body key_after one_line quoted simple_key special atom
    expression header_key key_equals line lines parse_document skip_bom val along_dots along_header at_key define
    decode zeros description_of document_fault end_fault key_fault keys_fault latency_fault registers_fault
    second_fault sections_fault top_fault half has_magic word header_fault code_of ram_after ram_fault segment_at
    end_line cycle fetch rename retire event_text events_text row_text rows_text trace_text
checkpoint_of_the_load_agrees = agrees checkpoint_of_the_load (record { version = 2; numbers = 2 ∷ 2 ∷ 16 ∷ 8 ∷ 4 ∷ 4 ∷ 8 ∷ 2 ∷ 3 ∷ 16 ∷ 4 ∷ 2 ∷ 2 ∷ 16 ∷ 2 ∷ 10 ∷ 2 ∷ 65536 ∷ 65536 ∷ 0 ∷ 16 ∷ 2 ∷ 0 ∷ 0 ∷ 1 ∷ 2 ∷ 0 ∷ []; model = Spectre; defence = Stt }) refl refl refl refl refl

cleared_at_a_squash_agrees : Agrees cleared_at_a_squash
unfolding ones encode scan_numeral digits count_leading_zeros chars is_utf8 skip_from skip_ws decimal_number number
    plain_number underscore_fits unquoted word_len word_value body key_after one_line quoted simple_key special atom
    expression header_key key_equals line lines parse_document skip_bom val along_dots along_header at_key define
    decode zeros description_of document_fault end_fault key_fault keys_fault latency_fault registers_fault
    second_fault sections_fault top_fault half has_magic word header_fault code_of ram_after ram_fault segment_at
    end_line cycle fetch rename retire event_text events_text row_text rows_text trace_text
cleared_at_a_squash_agrees = agrees cleared_at_a_squash (record { version = 2; numbers = 2 ∷ 2 ∷ 16 ∷ 8 ∷ 4 ∷ 4 ∷ 8 ∷ 2 ∷ 3 ∷ 16 ∷ 4 ∷ 2 ∷ 2 ∷ 16 ∷ 2 ∷ 10 ∷ 2 ∷ 65536 ∷ 65536 ∷ 0 ∷ 16 ∷ 0 ∷ 0 ∷ 0 ∷ 1 ∷ 2 ∷ 0 ∷ []; model = Spectre; defence = Stt }) refl refl refl refl refl

covered_line_is_accessed_agrees : Agrees covered_line_is_accessed
unfolding ones encode scan_numeral digits count_leading_zeros chars is_utf8 skip_from skip_ws decimal_number number
    plain_number underscore_fits unquoted word_len word_value body key_after one_line quoted simple_key special atom
    expression header_key key_equals line lines parse_document skip_bom val along_dots along_header at_key define
    decode zeros description_of document_fault end_fault key_fault keys_fault latency_fault registers_fault
    second_fault sections_fault top_fault half has_magic word header_fault code_of ram_after ram_fault segment_at
    end_line cycle fetch rename retire event_text events_text row_text rows_text trace_text
covered_line_is_accessed_agrees = agrees covered_line_is_accessed (record { version = 2; numbers = 2 ∷ 2 ∷ 16 ∷ 8 ∷ 4 ∷ 4 ∷ 8 ∷ 2 ∷ 3 ∷ 16 ∷ 4 ∷ 2 ∷ 2 ∷ 16 ∷ 2 ∷ 10 ∷ 2 ∷ 65536 ∷ 65536 ∷ 1 ∷ 0 ∷ 0 ∷ 0 ∷ 0 ∷ 1 ∷ 2 ∷ 0 ∷ []; model = Spectre; defence = Stt }) refl refl refl refl refl

delayed_under_spectre_agrees : Agrees delayed_under_spectre
unfolding ones encode scan_numeral digits count_leading_zeros chars is_utf8 skip_from skip_ws decimal_number number
    plain_number underscore_fits unquoted word_len word_value body key_after one_line quoted simple_key special atom
    expression header_key key_equals line lines parse_document skip_bom val along_dots along_header at_key define
    decode zeros description_of document_fault end_fault key_fault keys_fault latency_fault registers_fault
    second_fault sections_fault top_fault half has_magic word header_fault code_of ram_after ram_fault segment_at
    end_line cycle fetch rename retire event_text events_text row_text rows_text trace_text
delayed_under_spectre_agrees = agrees delayed_under_spectre (record { version = 2; numbers = 2 ∷ 2 ∷ 16 ∷ 8 ∷ 4 ∷ 4 ∷ 8 ∷ 2 ∷ 3 ∷ 16 ∷ 4 ∷ 2 ∷ 2 ∷ 16 ∷ 2 ∷ 10 ∷ 2 ∷ 65536 ∷ 65536 ∷ 0 ∷ 0 ∷ 0 ∷ 0 ∷ 0 ∷ 1 ∷ 2 ∷ 0 ∷ []; model = Spectre; defence = Delay }) refl refl refl refl refl

divider_kept_at_a_violation_agrees : Agrees divider_kept_at_a_violation
unfolding ones encode scan_numeral digits count_leading_zeros chars is_utf8 skip_from skip_ws decimal_number number
    plain_number underscore_fits unquoted word_len word_value body key_after one_line quoted simple_key special atom
    expression header_key key_equals line lines parse_document skip_bom val along_dots along_header at_key define
    decode zeros description_of document_fault end_fault key_fault keys_fault latency_fault registers_fault
    second_fault sections_fault top_fault half has_magic word header_fault code_of ram_after ram_fault segment_at
    end_line cycle fetch rename retire event_text events_text row_text rows_text trace_text
divider_kept_at_a_violation_agrees = agrees divider_kept_at_a_violation (record { version = 2; numbers = 2 ∷ 2 ∷ 16 ∷ 8 ∷ 4 ∷ 4 ∷ 8 ∷ 2 ∷ 3 ∷ 16 ∷ 4 ∷ 2 ∷ 2 ∷ 16 ∷ 2 ∷ 10 ∷ 2 ∷ 65536 ∷ 65536 ∷ 0 ∷ 16 ∷ 0 ∷ 0 ∷ 0 ∷ 1 ∷ 2 ∷ 0 ∷ []; model = Spectre; defence = Stt }) refl refl refl refl refl

done_branch_is_unsafe_agrees : Agrees done_branch_is_unsafe
unfolding ones encode scan_numeral digits count_leading_zeros chars is_utf8 skip_from skip_ws decimal_number number
    plain_number underscore_fits unquoted word_len word_value body key_after one_line quoted simple_key special atom
    expression header_key key_equals line lines parse_document skip_bom val along_dots along_header at_key define
    decode zeros description_of document_fault end_fault key_fault keys_fault latency_fault registers_fault
    second_fault sections_fault top_fault half has_magic word header_fault code_of ram_after ram_fault segment_at
    end_line cycle fetch rename retire event_text events_text row_text rows_text trace_text
done_branch_is_unsafe_agrees = agrees done_branch_is_unsafe (record { version = 2; numbers = 2 ∷ 2 ∷ 16 ∷ 8 ∷ 4 ∷ 4 ∷ 8 ∷ 2 ∷ 3 ∷ 16 ∷ 4 ∷ 2 ∷ 2 ∷ 16 ∷ 2 ∷ 10 ∷ 2 ∷ 65536 ∷ 65536 ∷ 0 ∷ 0 ∷ 0 ∷ 0 ∷ 0 ∷ 1 ∷ 2 ∷ 0 ∷ []; model = Futuristic; defence = Stt }) refl refl refl refl refl

fault_held_agrees : Agrees fault_held
unfolding ones encode scan_numeral digits count_leading_zeros chars is_utf8 skip_from skip_ws decimal_number number
    plain_number underscore_fits unquoted word_len word_value body key_after one_line quoted simple_key special atom
    expression header_key key_equals line lines parse_document skip_bom val along_dots along_header at_key define
    decode zeros description_of document_fault end_fault key_fault keys_fault latency_fault registers_fault
    second_fault sections_fault top_fault half has_magic word header_fault code_of ram_after ram_fault segment_at
    end_line cycle fetch rename retire event_text events_text row_text rows_text trace_text
fault_held_agrees = agrees fault_held (record { version = 2; numbers = 2 ∷ 2 ∷ 16 ∷ 8 ∷ 4 ∷ 4 ∷ 8 ∷ 2 ∷ 3 ∷ 16 ∷ 4 ∷ 2 ∷ 2 ∷ 16 ∷ 2 ∷ 10 ∷ 2 ∷ 65536 ∷ 65536 ∷ 0 ∷ 0 ∷ 0 ∷ 0 ∷ 0 ∷ 1 ∷ 2 ∷ 0 ∷ []; model = Spectre; defence = Hold }) refl refl refl refl refl

faulting_branch_squashes_agrees : Agrees faulting_branch_squashes
unfolding ones encode scan_numeral digits count_leading_zeros chars is_utf8 skip_from skip_ws decimal_number number
    plain_number underscore_fits unquoted word_len word_value body key_after one_line quoted simple_key special atom
    expression header_key key_equals line lines parse_document skip_bom val along_dots along_header at_key define
    decode zeros description_of document_fault end_fault key_fault keys_fault latency_fault registers_fault
    second_fault sections_fault top_fault half has_magic word header_fault code_of ram_after ram_fault segment_at
    end_line cycle fetch rename retire event_text events_text row_text rows_text trace_text
faulting_branch_squashes_agrees = agrees faulting_branch_squashes (record { version = 1; numbers = 2 ∷ 2 ∷ 16 ∷ 8 ∷ 4 ∷ 4 ∷ 8 ∷ 2 ∷ 3 ∷ 2 ∷ 4 ∷ 2 ∷ 2 ∷ 16 ∷ 2 ∷ 10 ∷ 2 ∷ 65536 ∷ 65536 ∷ 0 ∷ 0 ∷ 0 ∷ 0 ∷ 0 ∷ 1 ∷ 2 ∷ 0 ∷ []; model = Spectre; defence = Stt }) refl refl refl refl refl

faulting_load_agrees : Agrees faulting_load
unfolding ones encode scan_numeral digits count_leading_zeros chars is_utf8 skip_from skip_ws decimal_number number
    plain_number underscore_fits unquoted word_len word_value body key_after one_line quoted simple_key special atom
    expression header_key key_equals line lines parse_document skip_bom val along_dots along_header at_key define
    decode zeros description_of document_fault end_fault key_fault keys_fault latency_fault registers_fault
    second_fault sections_fault top_fault half has_magic word header_fault code_of ram_after ram_fault segment_at
    end_line cycle fetch rename retire event_text events_text row_text rows_text trace_text
faulting_load_agrees = agrees faulting_load (record { version = 2; numbers = 2 ∷ 2 ∷ 16 ∷ 8 ∷ 4 ∷ 4 ∷ 8 ∷ 2 ∷ 3 ∷ 16 ∷ 4 ∷ 2 ∷ 2 ∷ 16 ∷ 2 ∷ 10 ∷ 2 ∷ 65536 ∷ 65536 ∷ 0 ∷ 0 ∷ 0 ∷ 0 ∷ 0 ∷ 1 ∷ 2 ∷ 0 ∷ []; model = Spectre; defence = Stt }) refl refl refl refl refl

faulting_store_agrees : Agrees faulting_store
unfolding ones encode scan_numeral digits count_leading_zeros chars is_utf8 skip_from skip_ws decimal_number number
    plain_number underscore_fits unquoted word_len word_value body key_after one_line quoted simple_key special atom
    expression header_key key_equals line lines parse_document skip_bom val along_dots along_header at_key define
    decode zeros description_of document_fault end_fault key_fault keys_fault latency_fault registers_fault
    second_fault sections_fault top_fault half has_magic word header_fault code_of ram_after ram_fault segment_at
    end_line cycle fetch rename retire event_text events_text row_text rows_text trace_text
faulting_store_agrees = agrees faulting_store (record { version = 2; numbers = 2 ∷ 2 ∷ 16 ∷ 8 ∷ 4 ∷ 4 ∷ 8 ∷ 2 ∷ 3 ∷ 16 ∷ 4 ∷ 2 ∷ 2 ∷ 16 ∷ 2 ∷ 10 ∷ 2 ∷ 65536 ∷ 65536 ∷ 0 ∷ 0 ∷ 0 ∷ 0 ∷ 0 ∷ 1 ∷ 2 ∷ 0 ∷ []; model = Spectre; defence = Stt }) refl refl refl refl refl

fill_leaves_second_agrees : Agrees fill_leaves_second
unfolding ones encode scan_numeral digits count_leading_zeros chars is_utf8 skip_from skip_ws decimal_number number
    plain_number underscore_fits unquoted word_len word_value body key_after one_line quoted simple_key special atom
    expression header_key key_equals line lines parse_document skip_bom val along_dots along_header at_key define
    decode zeros description_of document_fault end_fault key_fault keys_fault latency_fault registers_fault
    second_fault sections_fault top_fault half has_magic word header_fault code_of ram_after ram_fault segment_at
    end_line cycle fetch rename retire event_text events_text row_text rows_text trace_text
fill_leaves_second_agrees = agrees fill_leaves_second (record { version = 2; numbers = 2 ∷ 2 ∷ 16 ∷ 8 ∷ 4 ∷ 4 ∷ 8 ∷ 2 ∷ 3 ∷ 16 ∷ 4 ∷ 1 ∷ 1 ∷ 16 ∷ 2 ∷ 10 ∷ 2 ∷ 65536 ∷ 65536 ∷ 0 ∷ 0 ∷ 0 ∷ 0 ∷ 1 ∷ 2 ∷ 9 ∷ 0 ∷ []; model = Spectre; defence = Stt }) refl refl refl refl refl

fills_as_taken_agrees : Agrees fills_as_taken
unfolding ones encode scan_numeral digits count_leading_zeros chars is_utf8 skip_from skip_ws decimal_number number
    plain_number underscore_fits unquoted word_len word_value body key_after one_line quoted simple_key special atom
    expression header_key key_equals line lines parse_document skip_bom val along_dots along_header at_key define
    decode zeros description_of document_fault end_fault key_fault keys_fault latency_fault registers_fault
    second_fault sections_fault top_fault half has_magic word header_fault code_of ram_after ram_fault segment_at
    end_line cycle fetch rename retire event_text events_text row_text rows_text trace_text
fills_as_taken_agrees = agrees fills_as_taken (record { version = 2; numbers = 4 ∷ 2 ∷ 16 ∷ 8 ∷ 4 ∷ 4 ∷ 8 ∷ 2 ∷ 3 ∷ 16 ∷ 4 ∷ 1 ∷ 1 ∷ 16 ∷ 2 ∷ 10 ∷ 2 ∷ 65536 ∷ 65536 ∷ 0 ∷ 0 ∷ 0 ∷ 0 ∷ 1 ∷ 4 ∷ 6 ∷ 0 ∷ []; model = Spectre; defence = Stt }) refl refl refl refl refl

five_returns_agrees : Agrees five_returns
unfolding ones encode scan_numeral digits count_leading_zeros chars is_utf8 skip_from skip_ws decimal_number number
    plain_number underscore_fits unquoted word_len word_value body key_after one_line quoted simple_key special atom
    expression header_key key_equals line lines parse_document skip_bom val along_dots along_header at_key define
    decode zeros description_of document_fault end_fault key_fault keys_fault latency_fault registers_fault
    second_fault sections_fault top_fault half has_magic word header_fault code_of ram_after ram_fault segment_at
    end_line cycle fetch rename retire event_text events_text row_text rows_text trace_text
five_returns_agrees = agrees five_returns (record { version = 2; numbers = 2 ∷ 2 ∷ 16 ∷ 8 ∷ 4 ∷ 4 ∷ 8 ∷ 2 ∷ 3 ∷ 16 ∷ 4 ∷ 2 ∷ 2 ∷ 16 ∷ 2 ∷ 10 ∷ 2 ∷ 65536 ∷ 65536 ∷ 0 ∷ 0 ∷ 0 ∷ 5 ∷ 0 ∷ 1 ∷ 2 ∷ 0 ∷ []; model = Spectre; defence = Stt }) refl refl refl refl refl

five_ways_in_second_agrees : Agrees five_ways_in_second
unfolding ones encode scan_numeral digits count_leading_zeros chars is_utf8 skip_from skip_ws decimal_number number
    plain_number underscore_fits unquoted word_len word_value body key_after one_line quoted simple_key special atom
    expression header_key key_equals line lines parse_document skip_bom val along_dots along_header at_key define
    decode zeros description_of document_fault end_fault key_fault keys_fault latency_fault registers_fault
    second_fault sections_fault top_fault half has_magic word header_fault code_of ram_after ram_fault segment_at
    end_line cycle fetch rename retire event_text events_text row_text rows_text trace_text
five_ways_in_second_agrees = agrees five_ways_in_second (record { version = 2; numbers = 2 ∷ 2 ∷ 16 ∷ 8 ∷ 4 ∷ 4 ∷ 8 ∷ 2 ∷ 3 ∷ 16 ∷ 4 ∷ 1 ∷ 1 ∷ 16 ∷ 2 ∷ 10 ∷ 2 ∷ 65536 ∷ 65536 ∷ 0 ∷ 0 ∷ 0 ∷ 0 ∷ 1 ∷ 5 ∷ 5 ∷ 0 ∷ []; model = Spectre; defence = Stt }) refl refl refl refl refl

forwarded_across_lines_agrees : Agrees forwarded_across_lines
unfolding ones encode scan_numeral digits count_leading_zeros chars is_utf8 skip_from skip_ws decimal_number number
    plain_number underscore_fits unquoted word_len word_value body key_after one_line quoted simple_key special atom
    expression header_key key_equals line lines parse_document skip_bom val along_dots along_header at_key define
    decode zeros description_of document_fault end_fault key_fault keys_fault latency_fault registers_fault
    second_fault sections_fault top_fault half has_magic word header_fault code_of ram_after ram_fault segment_at
    end_line cycle fetch rename retire event_text events_text row_text rows_text trace_text
forwarded_across_lines_agrees = agrees forwarded_across_lines (record { version = 2; numbers = 2 ∷ 2 ∷ 16 ∷ 8 ∷ 4 ∷ 4 ∷ 8 ∷ 2 ∷ 3 ∷ 16 ∷ 4 ∷ 2 ∷ 2 ∷ 16 ∷ 2 ∷ 10 ∷ 2 ∷ 65536 ∷ 65536 ∷ 1 ∷ 0 ∷ 0 ∷ 0 ∷ 0 ∷ 1 ∷ 2 ∷ 0 ∷ []; model = Spectre; defence = Stt }) refl refl refl refl refl

forwarded_moves_no_line_agrees : Agrees forwarded_moves_no_line
unfolding ones encode scan_numeral digits count_leading_zeros chars is_utf8 skip_from skip_ws decimal_number number
    plain_number underscore_fits unquoted word_len word_value body key_after one_line quoted simple_key special atom
    expression header_key key_equals line lines parse_document skip_bom val along_dots along_header at_key define
    decode zeros description_of document_fault end_fault key_fault keys_fault latency_fault registers_fault
    second_fault sections_fault top_fault half has_magic word header_fault code_of ram_after ram_fault segment_at
    end_line cycle fetch rename retire event_text events_text row_text rows_text trace_text
forwarded_moves_no_line_agrees = agrees forwarded_moves_no_line (record { version = 1; numbers = 2 ∷ 2 ∷ 16 ∷ 8 ∷ 4 ∷ 4 ∷ 8 ∷ 2 ∷ 3 ∷ 16 ∷ 4 ∷ 1 ∷ 2 ∷ 16 ∷ 2 ∷ 10 ∷ 2 ∷ 65536 ∷ 65536 ∷ 0 ∷ 0 ∷ 0 ∷ 0 ∷ 0 ∷ 1 ∷ 2 ∷ 0 ∷ []; model = Spectre; defence = Stt }) refl refl refl refl refl

found_in_second_agrees : Agrees found_in_second
unfolding ones encode scan_numeral digits count_leading_zeros chars is_utf8 skip_from skip_ws decimal_number number
    plain_number underscore_fits unquoted word_len word_value body key_after one_line quoted simple_key special atom
    expression header_key key_equals line lines parse_document skip_bom val along_dots along_header at_key define
    decode zeros description_of document_fault end_fault key_fault keys_fault latency_fault registers_fault
    second_fault sections_fault top_fault half has_magic word header_fault code_of ram_after ram_fault segment_at
    end_line cycle fetch rename retire event_text events_text row_text rows_text trace_text
found_in_second_agrees = agrees found_in_second (record { version = 2; numbers = 2 ∷ 2 ∷ 16 ∷ 8 ∷ 4 ∷ 4 ∷ 8 ∷ 2 ∷ 3 ∷ 16 ∷ 4 ∷ 1 ∷ 1 ∷ 16 ∷ 2 ∷ 10 ∷ 2 ∷ 65536 ∷ 65536 ∷ 0 ∷ 0 ∷ 0 ∷ 0 ∷ 1 ∷ 2 ∷ 5 ∷ 0 ∷ []; model = Spectre; defence = Stt }) refl refl refl refl refl

four_sets_agrees : Agrees four_sets
unfolding ones encode scan_numeral digits count_leading_zeros chars is_utf8 skip_from skip_ws decimal_number number
    plain_number underscore_fits unquoted word_len word_value body key_after one_line quoted simple_key special atom
    expression header_key key_equals line lines parse_document skip_bom val along_dots along_header at_key define
    decode zeros description_of document_fault end_fault key_fault keys_fault latency_fault registers_fault
    second_fault sections_fault top_fault half has_magic word header_fault code_of ram_after ram_fault segment_at
    end_line cycle fetch rename retire event_text events_text row_text rows_text trace_text
four_sets_agrees = agrees four_sets (record { version = 2; numbers = 2 ∷ 2 ∷ 16 ∷ 8 ∷ 4 ∷ 4 ∷ 8 ∷ 2 ∷ 3 ∷ 16 ∷ 4 ∷ 4 ∷ 1 ∷ 16 ∷ 2 ∷ 10 ∷ 2 ∷ 65536 ∷ 65536 ∷ 0 ∷ 0 ∷ 0 ∷ 0 ∷ 0 ∷ 1 ∷ 2 ∷ 0 ∷ []; model = Spectre; defence = Stt }) refl refl refl refl refl

full_stack_agrees : Agrees full_stack
unfolding ones encode scan_numeral digits count_leading_zeros chars is_utf8 skip_from skip_ws decimal_number number
    plain_number underscore_fits unquoted word_len word_value body key_after one_line quoted simple_key special atom
    expression header_key key_equals line lines parse_document skip_bom val along_dots along_header at_key define
    decode zeros description_of document_fault end_fault key_fault keys_fault latency_fault registers_fault
    second_fault sections_fault top_fault half has_magic word header_fault code_of ram_after ram_fault segment_at
    end_line cycle fetch rename retire event_text events_text row_text rows_text trace_text
full_stack_agrees = agrees full_stack (record { version = 2; numbers = 2 ∷ 2 ∷ 16 ∷ 8 ∷ 4 ∷ 4 ∷ 8 ∷ 2 ∷ 3 ∷ 16 ∷ 4 ∷ 2 ∷ 2 ∷ 16 ∷ 2 ∷ 10 ∷ 2 ∷ 65536 ∷ 65536 ∷ 0 ∷ 0 ∷ 0 ∷ 2 ∷ 0 ∷ 1 ∷ 2 ∷ 0 ∷ []; model = Spectre; defence = Stt }) refl refl refl refl refl

half_issued_agrees : Agrees half_issued
unfolding ones encode scan_numeral digits count_leading_zeros chars is_utf8 skip_from skip_ws decimal_number number
    plain_number underscore_fits unquoted word_len word_value body key_after one_line quoted simple_key special atom
    expression header_key key_equals line lines parse_document skip_bom val along_dots along_header at_key define
    decode zeros description_of document_fault end_fault key_fault keys_fault latency_fault registers_fault
    second_fault sections_fault top_fault half has_magic word header_fault code_of ram_after ram_fault segment_at
    end_line cycle fetch rename retire event_text events_text row_text rows_text trace_text
half_issued_agrees = agrees half_issued (record { version = 2; numbers = 2 ∷ 2 ∷ 16 ∷ 2 ∷ 4 ∷ 4 ∷ 8 ∷ 2 ∷ 3 ∷ 16 ∷ 4 ∷ 2 ∷ 2 ∷ 16 ∷ 2 ∷ 10 ∷ 2 ∷ 65536 ∷ 65536 ∷ 0 ∷ 0 ∷ 0 ∷ 0 ∷ 0 ∷ 1 ∷ 2 ∷ 0 ∷ []; model = Spectre; defence = Stt }) refl refl refl refl refl

half_issued_data_agrees : Agrees half_issued_data
unfolding ones encode scan_numeral digits count_leading_zeros chars is_utf8 skip_from skip_ws decimal_number number
    plain_number underscore_fits unquoted word_len word_value body key_after one_line quoted simple_key special atom
    expression header_key key_equals line lines parse_document skip_bom val along_dots along_header at_key define
    decode zeros description_of document_fault end_fault key_fault keys_fault latency_fault registers_fault
    second_fault sections_fault top_fault half has_magic word header_fault code_of ram_after ram_fault segment_at
    end_line cycle fetch rename retire event_text events_text row_text rows_text trace_text
half_issued_data_agrees = agrees half_issued_data (record { version = 2; numbers = 2 ∷ 2 ∷ 16 ∷ 3 ∷ 4 ∷ 4 ∷ 8 ∷ 2 ∷ 3 ∷ 16 ∷ 4 ∷ 2 ∷ 2 ∷ 16 ∷ 2 ∷ 10 ∷ 2 ∷ 65536 ∷ 65536 ∷ 0 ∷ 0 ∷ 0 ∷ 0 ∷ 0 ∷ 1 ∷ 2 ∷ 0 ∷ []; model = Spectre; defence = Stt }) refl refl refl refl refl

held_under_futuristic_agrees : Agrees held_under_futuristic
unfolding ones encode scan_numeral digits count_leading_zeros chars is_utf8 skip_from skip_ws decimal_number number
    plain_number underscore_fits unquoted word_len word_value body key_after one_line quoted simple_key special atom
    expression header_key key_equals line lines parse_document skip_bom val along_dots along_header at_key define
    decode zeros description_of document_fault end_fault key_fault keys_fault latency_fault registers_fault
    second_fault sections_fault top_fault half has_magic word header_fault code_of ram_after ram_fault segment_at
    end_line cycle fetch rename retire event_text events_text row_text rows_text trace_text
held_under_futuristic_agrees = agrees held_under_futuristic (record { version = 2; numbers = 2 ∷ 2 ∷ 16 ∷ 8 ∷ 4 ∷ 4 ∷ 8 ∷ 2 ∷ 3 ∷ 16 ∷ 4 ∷ 2 ∷ 2 ∷ 16 ∷ 2 ∷ 10 ∷ 2 ∷ 65536 ∷ 65536 ∷ 0 ∷ 0 ∷ 0 ∷ 0 ∷ 0 ∷ 1 ∷ 2 ∷ 0 ∷ []; model = Futuristic; defence = Hold }) refl refl refl refl refl

hidden_base_agrees : Agrees hidden_base
unfolding ones encode scan_numeral digits count_leading_zeros chars is_utf8 skip_from skip_ws decimal_number number
    plain_number underscore_fits unquoted word_len word_value body key_after one_line quoted simple_key special atom
    expression header_key key_equals line lines parse_document skip_bom val along_dots along_header at_key define
    decode zeros description_of document_fault end_fault key_fault keys_fault latency_fault registers_fault
    second_fault sections_fault top_fault half has_magic word header_fault code_of ram_after ram_fault segment_at
    end_line cycle fetch rename retire event_text events_text row_text rows_text trace_text
hidden_base_agrees = agrees hidden_base (record { version = 2; numbers = 2 ∷ 2 ∷ 16 ∷ 8 ∷ 4 ∷ 4 ∷ 8 ∷ 2 ∷ 3 ∷ 16 ∷ 4 ∷ 2 ∷ 2 ∷ 16 ∷ 2 ∷ 10 ∷ 2 ∷ 65536 ∷ 65536 ∷ 0 ∷ 0 ∷ 0 ∷ 0 ∷ 0 ∷ 1 ∷ 2 ∷ 0 ∷ []; model = Spectre; defence = Stt }) refl refl refl refl refl

history_as_fetched_agrees : Agrees history_as_fetched
unfolding ones encode scan_numeral digits count_leading_zeros chars is_utf8 skip_from skip_ws decimal_number number
    plain_number underscore_fits unquoted word_len word_value body key_after one_line quoted simple_key special atom
    expression header_key key_equals line lines parse_document skip_bom val along_dots along_header at_key define
    decode zeros description_of document_fault end_fault key_fault keys_fault latency_fault registers_fault
    second_fault sections_fault top_fault half has_magic word header_fault code_of ram_after ram_fault segment_at
    end_line cycle fetch rename retire event_text events_text row_text rows_text trace_text
history_as_fetched_agrees = agrees history_as_fetched (record { version = 2; numbers = 2 ∷ 2 ∷ 16 ∷ 8 ∷ 4 ∷ 4 ∷ 8 ∷ 2 ∷ 3 ∷ 16 ∷ 4 ∷ 2 ∷ 2 ∷ 16 ∷ 2 ∷ 10 ∷ 2 ∷ 65536 ∷ 65536 ∷ 0 ∷ 0 ∷ 3 ∷ 0 ∷ 0 ∷ 1 ∷ 2 ∷ 0 ∷ []; model = Spectre; defence = Stt }) refl refl refl refl refl

history_behind_a_jalr_agrees : Agrees history_behind_a_jalr
unfolding ones encode scan_numeral digits count_leading_zeros chars is_utf8 skip_from skip_ws decimal_number number
    plain_number underscore_fits unquoted word_len word_value body key_after one_line quoted simple_key special atom
    expression header_key key_equals line lines parse_document skip_bom val along_dots along_header at_key define
    decode zeros description_of document_fault end_fault key_fault keys_fault latency_fault registers_fault
    second_fault sections_fault top_fault half has_magic word header_fault code_of ram_after ram_fault segment_at
    end_line cycle fetch rename retire event_text events_text row_text rows_text trace_text
history_behind_a_jalr_agrees = agrees history_behind_a_jalr (record { version = 2; numbers = 2 ∷ 2 ∷ 16 ∷ 8 ∷ 4 ∷ 4 ∷ 8 ∷ 2 ∷ 3 ∷ 16 ∷ 4 ∷ 2 ∷ 2 ∷ 16 ∷ 2 ∷ 10 ∷ 2 ∷ 65536 ∷ 65536 ∷ 0 ∷ 0 ∷ 1 ∷ 0 ∷ 0 ∷ 1 ∷ 2 ∷ 0 ∷ []; model = Spectre; defence = Stt }) refl refl refl refl refl

hit_and_join_agrees : Agrees hit_and_join
unfolding ones encode scan_numeral digits count_leading_zeros chars is_utf8 skip_from skip_ws decimal_number number
    plain_number underscore_fits unquoted word_len word_value body key_after one_line quoted simple_key special atom
    expression header_key key_equals line lines parse_document skip_bom val along_dots along_header at_key define
    decode zeros description_of document_fault end_fault key_fault keys_fault latency_fault registers_fault
    second_fault sections_fault top_fault half has_magic word header_fault code_of ram_after ram_fault segment_at
    end_line cycle fetch rename retire event_text events_text row_text rows_text trace_text
hit_and_join_agrees = agrees hit_and_join (record { version = 2; numbers = 2 ∷ 2 ∷ 16 ∷ 8 ∷ 4 ∷ 4 ∷ 8 ∷ 2 ∷ 3 ∷ 16 ∷ 4 ∷ 2 ∷ 2 ∷ 16 ∷ 2 ∷ 10 ∷ 4 ∷ 65536 ∷ 65536 ∷ 1 ∷ 0 ∷ 0 ∷ 0 ∷ 0 ∷ 1 ∷ 2 ∷ 0 ∷ []; model = Spectre; defence = Stt }) refl refl refl refl refl

hit_leaves_second_agrees : Agrees hit_leaves_second
unfolding ones encode scan_numeral digits count_leading_zeros chars is_utf8 skip_from skip_ws decimal_number number
    plain_number underscore_fits unquoted word_len word_value body key_after one_line quoted simple_key special atom
    expression header_key key_equals line lines parse_document skip_bom val along_dots along_header at_key define
    decode zeros description_of document_fault end_fault key_fault keys_fault latency_fault registers_fault
    second_fault sections_fault top_fault half has_magic word header_fault code_of ram_after ram_fault segment_at
    end_line cycle fetch rename retire event_text events_text row_text rows_text trace_text
hit_leaves_second_agrees = agrees hit_leaves_second (record { version = 2; numbers = 2 ∷ 2 ∷ 16 ∷ 8 ∷ 4 ∷ 4 ∷ 8 ∷ 2 ∷ 3 ∷ 16 ∷ 4 ∷ 1 ∷ 2 ∷ 16 ∷ 2 ∷ 10 ∷ 2 ∷ 65536 ∷ 65536 ∷ 0 ∷ 0 ∷ 0 ∷ 0 ∷ 1 ∷ 2 ∷ 5 ∷ 0 ∷ []; model = Spectre; defence = Stt }) refl refl refl refl refl

join_leaves_second_agrees : Agrees join_leaves_second
unfolding ones encode scan_numeral digits count_leading_zeros chars is_utf8 skip_from skip_ws decimal_number number
    plain_number underscore_fits unquoted word_len word_value body key_after one_line quoted simple_key special atom
    expression header_key key_equals line lines parse_document skip_bom val along_dots along_header at_key define
    decode zeros description_of document_fault end_fault key_fault keys_fault latency_fault registers_fault
    second_fault sections_fault top_fault half has_magic word header_fault code_of ram_after ram_fault segment_at
    end_line cycle fetch rename retire event_text events_text row_text rows_text trace_text
join_leaves_second_agrees = agrees join_leaves_second (record { version = 2; numbers = 2 ∷ 2 ∷ 16 ∷ 8 ∷ 4 ∷ 4 ∷ 8 ∷ 2 ∷ 3 ∷ 16 ∷ 4 ∷ 1 ∷ 1 ∷ 16 ∷ 2 ∷ 10 ∷ 2 ∷ 65536 ∷ 65536 ∷ 0 ∷ 0 ∷ 0 ∷ 0 ∷ 2 ∷ 2 ∷ 9 ∷ 0 ∷ []; model = Spectre; defence = Stt }) refl refl refl refl refl

joined_line_takes_no_register_agrees : Agrees joined_line_takes_no_register
unfolding ones encode scan_numeral digits count_leading_zeros chars is_utf8 skip_from skip_ws decimal_number number
    plain_number underscore_fits unquoted word_len word_value body key_after one_line quoted simple_key special atom
    expression header_key key_equals line lines parse_document skip_bom val along_dots along_header at_key define
    decode zeros description_of document_fault end_fault key_fault keys_fault latency_fault registers_fault
    second_fault sections_fault top_fault half has_magic word header_fault code_of ram_after ram_fault segment_at
    end_line cycle fetch rename retire event_text events_text row_text rows_text trace_text
joined_line_takes_no_register_agrees = agrees joined_line_takes_no_register (record { version = 2; numbers = 2 ∷ 2 ∷ 16 ∷ 8 ∷ 4 ∷ 4 ∷ 8 ∷ 2 ∷ 3 ∷ 16 ∷ 4 ∷ 2 ∷ 2 ∷ 16 ∷ 2 ∷ 10 ∷ 2 ∷ 65536 ∷ 65536 ∷ 1 ∷ 0 ∷ 0 ∷ 0 ∷ 0 ∷ 1 ∷ 2 ∷ 0 ∷ []; model = Spectre; defence = Stt }) refl refl refl refl refl

jump_that_links_elsewhere_agrees : Agrees jump_that_links_elsewhere
unfolding ones encode scan_numeral digits count_leading_zeros chars is_utf8 skip_from skip_ws decimal_number number
    plain_number underscore_fits unquoted word_len word_value body key_after one_line quoted simple_key special atom
    expression header_key key_equals line lines parse_document skip_bom val along_dots along_header at_key define
    decode zeros description_of document_fault end_fault key_fault keys_fault latency_fault registers_fault
    second_fault sections_fault top_fault half has_magic word header_fault code_of ram_after ram_fault segment_at
    end_line cycle fetch rename retire event_text events_text row_text rows_text trace_text
jump_that_links_elsewhere_agrees = agrees jump_that_links_elsewhere (record { version = 2; numbers = 2 ∷ 2 ∷ 16 ∷ 8 ∷ 4 ∷ 4 ∷ 8 ∷ 2 ∷ 3 ∷ 16 ∷ 4 ∷ 2 ∷ 2 ∷ 16 ∷ 2 ∷ 10 ∷ 2 ∷ 65536 ∷ 65536 ∷ 0 ∷ 0 ∷ 0 ∷ 4 ∷ 0 ∷ 1 ∷ 2 ∷ 0 ∷ []; model = Spectre; defence = Stt }) refl refl refl refl refl

jumps_leave_history_agrees : Agrees jumps_leave_history
unfolding ones encode scan_numeral digits count_leading_zeros chars is_utf8 skip_from skip_ws decimal_number number
    plain_number underscore_fits unquoted word_len word_value body key_after one_line quoted simple_key special atom
    expression header_key key_equals line lines parse_document skip_bom val along_dots along_header at_key define
    decode zeros description_of document_fault end_fault key_fault keys_fault latency_fault registers_fault
    second_fault sections_fault top_fault half has_magic word header_fault code_of ram_after ram_fault segment_at
    end_line cycle fetch rename retire event_text events_text row_text rows_text trace_text
jumps_leave_history_agrees = agrees jumps_leave_history (record { version = 2; numbers = 2 ∷ 2 ∷ 16 ∷ 8 ∷ 4 ∷ 4 ∷ 8 ∷ 2 ∷ 3 ∷ 16 ∷ 4 ∷ 2 ∷ 2 ∷ 16 ∷ 2 ∷ 10 ∷ 2 ∷ 65536 ∷ 65536 ∷ 0 ∷ 0 ∷ 2 ∷ 0 ∷ 0 ∷ 1 ∷ 2 ∷ 0 ∷ []; model = Spectre; defence = Stt }) refl refl refl refl refl

large_window_agrees : Agrees large_window
unfolding ones encode scan_numeral digits count_leading_zeros chars is_utf8 skip_from skip_ws decimal_number number
    plain_number underscore_fits unquoted word_len word_value body key_after one_line quoted simple_key special atom
    expression header_key key_equals line lines parse_document skip_bom val along_dots along_header at_key define
    decode zeros description_of document_fault end_fault key_fault keys_fault latency_fault registers_fault
    second_fault sections_fault top_fault half has_magic word header_fault code_of ram_after ram_fault segment_at
    end_line cycle fetch rename retire event_text events_text row_text rows_text trace_text
large_window_agrees = agrees large_window (record { version = 2; numbers = 4 ∷ 4 ∷ 192 ∷ 96 ∷ 64 ∷ 48 ∷ 32 ∷ 4 ∷ 3 ∷ 16 ∷ 4 ∷ 2 ∷ 2 ∷ 16 ∷ 2 ∷ 4 ∷ 2 ∷ 65536 ∷ 65536 ∷ 0 ∷ 0 ∷ 0 ∷ 0 ∷ 0 ∷ 1 ∷ 2 ∷ 0 ∷ []; model = Spectre; defence = Stt }) refl refl refl refl refl

late_address_agrees : Agrees late_address
unfolding ones encode scan_numeral digits count_leading_zeros chars is_utf8 skip_from skip_ws decimal_number number
    plain_number underscore_fits unquoted word_len word_value body key_after one_line quoted simple_key special atom
    expression header_key key_equals line lines parse_document skip_bom val along_dots along_header at_key define
    decode zeros description_of document_fault end_fault key_fault keys_fault latency_fault registers_fault
    second_fault sections_fault top_fault half has_magic word header_fault code_of ram_after ram_fault segment_at
    end_line cycle fetch rename retire event_text events_text row_text rows_text trace_text
late_address_agrees = agrees late_address (record { version = 2; numbers = 2 ∷ 2 ∷ 16 ∷ 8 ∷ 4 ∷ 4 ∷ 8 ∷ 2 ∷ 3 ∷ 16 ∷ 4 ∷ 2 ∷ 2 ∷ 16 ∷ 2 ∷ 10 ∷ 2 ∷ 65536 ∷ 65536 ∷ 0 ∷ 0 ∷ 0 ∷ 0 ∷ 0 ∷ 1 ∷ 2 ∷ 0 ∷ []; model = Spectre; defence = Stt }) refl refl refl refl refl

late_data_agrees : Agrees late_data
unfolding ones encode scan_numeral digits count_leading_zeros chars is_utf8 skip_from skip_ws decimal_number number
    plain_number underscore_fits unquoted word_len word_value body key_after one_line quoted simple_key special atom
    expression header_key key_equals line lines parse_document skip_bom val along_dots along_header at_key define
    decode zeros description_of document_fault end_fault key_fault keys_fault latency_fault registers_fault
    second_fault sections_fault top_fault half has_magic word header_fault code_of ram_after ram_fault segment_at
    end_line cycle fetch rename retire event_text events_text row_text rows_text trace_text
late_data_agrees = agrees late_data (record { version = 2; numbers = 2 ∷ 2 ∷ 16 ∷ 8 ∷ 4 ∷ 4 ∷ 8 ∷ 2 ∷ 3 ∷ 16 ∷ 4 ∷ 2 ∷ 2 ∷ 16 ∷ 2 ∷ 10 ∷ 2 ∷ 65536 ∷ 65536 ∷ 0 ∷ 0 ∷ 0 ∷ 0 ∷ 0 ∷ 1 ∷ 2 ∷ 0 ∷ []; model = Spectre; defence = Stt }) refl refl refl refl refl

late_data_version_1_agrees : Agrees late_data_version_1
unfolding ones encode scan_numeral digits count_leading_zeros chars is_utf8 skip_from skip_ws decimal_number number
    plain_number underscore_fits unquoted word_len word_value body key_after one_line quoted simple_key special atom
    expression header_key key_equals line lines parse_document skip_bom val along_dots along_header at_key define
    decode zeros description_of document_fault end_fault key_fault keys_fault latency_fault registers_fault
    second_fault sections_fault top_fault half has_magic word header_fault code_of ram_after ram_fault segment_at
    end_line cycle fetch rename retire event_text events_text row_text rows_text trace_text
late_data_version_1_agrees = agrees late_data_version_1 (record { version = 1; numbers = 2 ∷ 2 ∷ 16 ∷ 8 ∷ 4 ∷ 4 ∷ 8 ∷ 2 ∷ 3 ∷ 16 ∷ 4 ∷ 2 ∷ 2 ∷ 16 ∷ 2 ∷ 10 ∷ 2 ∷ 65536 ∷ 65536 ∷ 0 ∷ 0 ∷ 0 ∷ 0 ∷ 0 ∷ 1 ∷ 2 ∷ 0 ∷ []; model = Spectre; defence = Stt }) refl refl refl refl refl

later_of_two_lines_agrees : Agrees later_of_two_lines
unfolding ones encode scan_numeral digits count_leading_zeros chars is_utf8 skip_from skip_ws decimal_number number
    plain_number underscore_fits unquoted word_len word_value body key_after one_line quoted simple_key special atom
    expression header_key key_equals line lines parse_document skip_bom val along_dots along_header at_key define
    decode zeros description_of document_fault end_fault key_fault keys_fault latency_fault registers_fault
    second_fault sections_fault top_fault half has_magic word header_fault code_of ram_after ram_fault segment_at
    end_line cycle fetch rename retire event_text events_text row_text rows_text trace_text
later_of_two_lines_agrees = agrees later_of_two_lines (record { version = 2; numbers = 2 ∷ 2 ∷ 16 ∷ 8 ∷ 4 ∷ 4 ∷ 8 ∷ 2 ∷ 3 ∷ 16 ∷ 4 ∷ 2 ∷ 2 ∷ 16 ∷ 2 ∷ 10 ∷ 2 ∷ 65536 ∷ 65536 ∷ 1 ∷ 0 ∷ 0 ∷ 0 ∷ 0 ∷ 1 ∷ 2 ∷ 0 ∷ []; model = Spectre; defence = Stt }) refl refl refl refl refl

levels_drop_apart_agrees : Agrees levels_drop_apart
unfolding ones encode scan_numeral digits count_leading_zeros chars is_utf8 skip_from skip_ws decimal_number number
    plain_number underscore_fits unquoted word_len word_value body key_after one_line quoted simple_key special atom
    expression header_key key_equals line lines parse_document skip_bom val along_dots along_header at_key define
    decode zeros description_of document_fault end_fault key_fault keys_fault latency_fault registers_fault
    second_fault sections_fault top_fault half has_magic word header_fault code_of ram_after ram_fault segment_at
    end_line cycle fetch rename retire event_text events_text row_text rows_text trace_text
levels_drop_apart_agrees = agrees levels_drop_apart (record { version = 2; numbers = 2 ∷ 2 ∷ 16 ∷ 8 ∷ 4 ∷ 4 ∷ 8 ∷ 2 ∷ 3 ∷ 16 ∷ 4 ∷ 1 ∷ 2 ∷ 16 ∷ 2 ∷ 10 ∷ 2 ∷ 65536 ∷ 65536 ∷ 0 ∷ 0 ∷ 0 ∷ 0 ∷ 1 ∷ 1 ∷ 5 ∷ 0 ∷ []; model = Spectre; defence = Stt }) refl refl refl refl refl

link_is_no_root_agrees : Agrees link_is_no_root
unfolding ones encode scan_numeral digits count_leading_zeros chars is_utf8 skip_from skip_ws decimal_number number
    plain_number underscore_fits unquoted word_len word_value body key_after one_line quoted simple_key special atom
    expression header_key key_equals line lines parse_document skip_bom val along_dots along_header at_key define
    decode zeros description_of document_fault end_fault key_fault keys_fault latency_fault registers_fault
    second_fault sections_fault top_fault half has_magic word header_fault code_of ram_after ram_fault segment_at
    end_line cycle fetch rename retire event_text events_text row_text rows_text trace_text
link_is_no_root_agrees = agrees link_is_no_root (record { version = 2; numbers = 2 ∷ 2 ∷ 16 ∷ 8 ∷ 4 ∷ 4 ∷ 8 ∷ 2 ∷ 3 ∷ 16 ∷ 4 ∷ 2 ∷ 2 ∷ 16 ∷ 2 ∷ 10 ∷ 2 ∷ 65536 ∷ 65536 ∷ 0 ∷ 1 ∷ 0 ∷ 0 ∷ 0 ∷ 1 ∷ 2 ∷ 0 ∷ []; model = Futuristic; defence = Stt }) refl refl refl refl refl

link_through_x1_agrees : Agrees link_through_x1
unfolding ones encode scan_numeral digits count_leading_zeros chars is_utf8 skip_from skip_ws decimal_number number
    plain_number underscore_fits unquoted word_len word_value body key_after one_line quoted simple_key special atom
    expression header_key key_equals line lines parse_document skip_bom val along_dots along_header at_key define
    decode zeros description_of document_fault end_fault key_fault keys_fault latency_fault registers_fault
    second_fault sections_fault top_fault half has_magic word header_fault code_of ram_after ram_fault segment_at
    end_line cycle fetch rename retire event_text events_text row_text rows_text trace_text
link_through_x1_agrees = agrees link_through_x1 (record { version = 2; numbers = 2 ∷ 2 ∷ 16 ∷ 8 ∷ 4 ∷ 4 ∷ 8 ∷ 2 ∷ 3 ∷ 16 ∷ 4 ∷ 2 ∷ 2 ∷ 16 ∷ 2 ∷ 10 ∷ 2 ∷ 65536 ∷ 65536 ∷ 0 ∷ 0 ∷ 0 ∷ 4 ∷ 0 ∷ 1 ∷ 2 ∷ 0 ∷ []; model = Spectre; defence = Stt }) refl refl refl refl refl

linking_jump_agrees : Agrees linking_jump
unfolding ones encode scan_numeral digits count_leading_zeros chars is_utf8 skip_from skip_ws decimal_number number
    plain_number underscore_fits unquoted word_len word_value body key_after one_line quoted simple_key special atom
    expression header_key key_equals line lines parse_document skip_bom val along_dots along_header at_key define
    decode zeros description_of document_fault end_fault key_fault keys_fault latency_fault registers_fault
    second_fault sections_fault top_fault half has_magic word header_fault code_of ram_after ram_fault segment_at
    end_line cycle fetch rename retire event_text events_text row_text rows_text trace_text
linking_jump_agrees = agrees linking_jump (record { version = 2; numbers = 2 ∷ 2 ∷ 16 ∷ 8 ∷ 4 ∷ 4 ∷ 8 ∷ 2 ∷ 3 ∷ 16 ∷ 4 ∷ 2 ∷ 2 ∷ 16 ∷ 2 ∷ 10 ∷ 2 ∷ 65536 ∷ 65536 ∷ 0 ∷ 0 ∷ 0 ∷ 4 ∷ 0 ∷ 1 ∷ 2 ∷ 0 ∷ []; model = Spectre; defence = Stt }) refl refl refl refl refl

load_moves_the_line_that_hits_agrees : Agrees load_moves_the_line_that_hits
unfolding ones encode scan_numeral digits count_leading_zeros chars is_utf8 skip_from skip_ws decimal_number number
    plain_number underscore_fits unquoted word_len word_value body key_after one_line quoted simple_key special atom
    expression header_key key_equals line lines parse_document skip_bom val along_dots along_header at_key define
    decode zeros description_of document_fault end_fault key_fault keys_fault latency_fault registers_fault
    second_fault sections_fault top_fault half has_magic word header_fault code_of ram_after ram_fault segment_at
    end_line cycle fetch rename retire event_text events_text row_text rows_text trace_text
load_moves_the_line_that_hits_agrees = agrees load_moves_the_line_that_hits (record { version = 2; numbers = 2 ∷ 2 ∷ 16 ∷ 8 ∷ 4 ∷ 4 ∷ 8 ∷ 2 ∷ 3 ∷ 16 ∷ 4 ∷ 1 ∷ 2 ∷ 16 ∷ 2 ∷ 10 ∷ 2 ∷ 65536 ∷ 65536 ∷ 1 ∷ 0 ∷ 0 ∷ 0 ∷ 0 ∷ 1 ∷ 2 ∷ 0 ∷ []; model = Spectre; defence = Stt }) refl refl refl refl refl

load_reaches_behind_memory_agrees : Agrees load_reaches_behind_memory
unfolding ones encode scan_numeral digits count_leading_zeros chars is_utf8 skip_from skip_ws decimal_number number
    plain_number underscore_fits unquoted word_len word_value body key_after one_line quoted simple_key special atom
    expression header_key key_equals line lines parse_document skip_bom val along_dots along_header at_key define
    decode zeros description_of document_fault end_fault key_fault keys_fault latency_fault registers_fault
    second_fault sections_fault top_fault half has_magic word header_fault code_of ram_after ram_fault segment_at
    end_line cycle fetch rename retire event_text events_text row_text rows_text trace_text
load_reaches_behind_memory_agrees = agrees load_reaches_behind_memory (record { version = 2; numbers = 2 ∷ 2 ∷ 16 ∷ 8 ∷ 4 ∷ 4 ∷ 8 ∷ 2 ∷ 3 ∷ 16 ∷ 4 ∷ 2 ∷ 2 ∷ 16 ∷ 2 ∷ 10 ∷ 2 ∷ 65536 ∷ 65536 ∷ 1 ∷ 0 ∷ 0 ∷ 0 ∷ 0 ∷ 1 ∷ 2 ∷ 0 ∷ []; model = Spectre; defence = Stt }) refl refl refl refl refl

loop_by_history_agrees : Agrees loop_by_history
unfolding ones encode scan_numeral digits count_leading_zeros chars is_utf8 skip_from skip_ws decimal_number number
    plain_number underscore_fits unquoted word_len word_value body key_after one_line quoted simple_key special atom
    expression header_key key_equals line lines parse_document skip_bom val along_dots along_header at_key define
    decode zeros description_of document_fault end_fault key_fault keys_fault latency_fault registers_fault
    second_fault sections_fault top_fault half has_magic word header_fault code_of ram_after ram_fault segment_at
    end_line cycle fetch rename retire event_text events_text row_text rows_text trace_text
loop_by_history_agrees = agrees loop_by_history (record { version = 2; numbers = 2 ∷ 2 ∷ 16 ∷ 8 ∷ 4 ∷ 4 ∷ 8 ∷ 2 ∷ 3 ∷ 16 ∷ 4 ∷ 2 ∷ 2 ∷ 16 ∷ 2 ∷ 10 ∷ 2 ∷ 65536 ∷ 65536 ∷ 0 ∷ 0 ∷ 2 ∷ 0 ∷ 0 ∷ 1 ∷ 2 ∷ 0 ∷ []; model = Spectre; defence = Stt }) refl refl refl refl refl

lower_line_comes_later_agrees : Agrees lower_line_comes_later
unfolding ones encode scan_numeral digits count_leading_zeros chars is_utf8 skip_from skip_ws decimal_number number
    plain_number underscore_fits unquoted word_len word_value body key_after one_line quoted simple_key special atom
    expression header_key key_equals line lines parse_document skip_bom val along_dots along_header at_key define
    decode zeros description_of document_fault end_fault key_fault keys_fault latency_fault registers_fault
    second_fault sections_fault top_fault half has_magic word header_fault code_of ram_after ram_fault segment_at
    end_line cycle fetch rename retire event_text events_text row_text rows_text trace_text
lower_line_comes_later_agrees = agrees lower_line_comes_later (record { version = 2; numbers = 2 ∷ 2 ∷ 16 ∷ 8 ∷ 4 ∷ 4 ∷ 8 ∷ 2 ∷ 3 ∷ 16 ∷ 4 ∷ 2 ∷ 2 ∷ 16 ∷ 2 ∷ 10 ∷ 2 ∷ 65536 ∷ 65536 ∷ 1 ∷ 0 ∷ 0 ∷ 0 ∷ 0 ∷ 1 ∷ 2 ∷ 0 ∷ []; model = Spectre; defence = Stt }) refl refl refl refl refl

memory_and_second_agrees : Agrees memory_and_second
unfolding ones encode scan_numeral digits count_leading_zeros chars is_utf8 skip_from skip_ws decimal_number number
    plain_number underscore_fits unquoted word_len word_value body key_after one_line quoted simple_key special atom
    expression header_key key_equals line lines parse_document skip_bom val along_dots along_header at_key define
    decode zeros description_of document_fault end_fault key_fault keys_fault latency_fault registers_fault
    second_fault sections_fault top_fault half has_magic word header_fault code_of ram_after ram_fault segment_at
    end_line cycle fetch rename retire event_text events_text row_text rows_text trace_text
memory_and_second_agrees = agrees memory_and_second (record { version = 2; numbers = 2 ∷ 2 ∷ 16 ∷ 8 ∷ 4 ∷ 4 ∷ 8 ∷ 2 ∷ 3 ∷ 16 ∷ 4 ∷ 1 ∷ 1 ∷ 16 ∷ 2 ∷ 10 ∷ 2 ∷ 65536 ∷ 65536 ∷ 1 ∷ 0 ∷ 0 ∷ 0 ∷ 1 ∷ 2 ∷ 5 ∷ 0 ∷ []; model = Spectre; defence = Stt }) refl refl refl refl refl

misaligned_refused_agrees : Agrees misaligned_refused
unfolding ones encode scan_numeral digits count_leading_zeros chars is_utf8 skip_from skip_ws decimal_number number
    plain_number underscore_fits unquoted word_len word_value body key_after one_line quoted simple_key special atom
    expression header_key key_equals line lines parse_document skip_bom val along_dots along_header at_key define
    decode zeros description_of document_fault end_fault key_fault keys_fault latency_fault registers_fault
    second_fault sections_fault top_fault half has_magic word header_fault code_of ram_after ram_fault segment_at
    end_line cycle fetch rename retire event_text events_text row_text rows_text trace_text
misaligned_refused_agrees = agrees misaligned_refused (record { version = 2; numbers = 2 ∷ 2 ∷ 16 ∷ 8 ∷ 4 ∷ 4 ∷ 8 ∷ 2 ∷ 3 ∷ 16 ∷ 4 ∷ 2 ∷ 2 ∷ 16 ∷ 2 ∷ 10 ∷ 2 ∷ 65536 ∷ 65536 ∷ 0 ∷ 0 ∷ 0 ∷ 0 ∷ 0 ∷ 1 ∷ 2 ∷ 0 ∷ []; model = Spectre; defence = Stt }) refl refl refl refl refl

mixed_1_agrees : Agrees mixed_1
unfolding ones encode scan_numeral digits count_leading_zeros chars is_utf8 skip_from skip_ws decimal_number number
    plain_number underscore_fits unquoted word_len word_value body key_after one_line quoted simple_key special atom
    expression header_key key_equals line lines parse_document skip_bom val along_dots along_header at_key define
    decode zeros description_of document_fault end_fault key_fault keys_fault latency_fault registers_fault
    second_fault sections_fault top_fault half has_magic word header_fault code_of ram_after ram_fault segment_at
    end_line cycle fetch rename retire event_text events_text row_text rows_text trace_text
mixed_1_agrees = agrees mixed_1 (record { version = 2; numbers = 2 ∷ 1 ∷ 192 ∷ 96 ∷ 17 ∷ 17 ∷ 32 ∷ 2 ∷ 1 ∷ 2 ∷ 4 ∷ 1 ∷ 2 ∷ 8 ∷ 3 ∷ 11 ∷ 1 ∷ 65536 ∷ 65536 ∷ 0 ∷ 0 ∷ 0 ∷ 0 ∷ 0 ∷ 1 ∷ 2 ∷ 0 ∷ []; model = Spectre; defence = Stt }) refl refl refl refl refl

mixed_2_agrees : Agrees mixed_2
unfolding ones encode scan_numeral digits count_leading_zeros chars is_utf8 skip_from skip_ws decimal_number number
    plain_number underscore_fits unquoted word_len word_value body key_after one_line quoted simple_key special atom
    expression header_key key_equals line lines parse_document skip_bom val along_dots along_header at_key define
    decode zeros description_of document_fault end_fault key_fault keys_fault latency_fault registers_fault
    second_fault sections_fault top_fault half has_magic word header_fault code_of ram_after ram_fault segment_at
    end_line cycle fetch rename retire event_text events_text row_text rows_text trace_text
mixed_2_agrees = agrees mixed_2 (record { version = 2; numbers = 4 ∷ 4 ∷ 192 ∷ 64 ∷ 17 ∷ 48 ∷ 17 ∷ 1 ∷ 3 ∷ 16 ∷ 1 ∷ 4 ∷ 1 ∷ 32 ∷ 2 ∷ 5 ∷ 8 ∷ 65536 ∷ 65536 ∷ 0 ∷ 0 ∷ 0 ∷ 0 ∷ 0 ∷ 1 ∷ 2 ∷ 0 ∷ []; model = Spectre; defence = Stt }) refl refl refl refl refl

mixed_3_agrees : Agrees mixed_3
unfolding ones encode scan_numeral digits count_leading_zeros chars is_utf8 skip_from skip_ws decimal_number number
    plain_number underscore_fits unquoted word_len word_value body key_after one_line quoted simple_key special atom
    expression header_key key_equals line lines parse_document skip_bom val along_dots along_header at_key define
    decode zeros description_of document_fault end_fault key_fault keys_fault latency_fault registers_fault
    second_fault sections_fault top_fault half has_magic word header_fault code_of ram_after ram_fault segment_at
    end_line cycle fetch rename retire event_text events_text row_text rows_text trace_text
mixed_3_agrees = agrees mixed_3 (record { version = 2; numbers = 1 ∷ 4 ∷ 192 ∷ 34 ∷ 64 ∷ 17 ∷ 17 ∷ 4 ∷ 8 ∷ 2 ∷ 1 ∷ 1 ∷ 2 ∷ 32 ∷ 3 ∷ 4 ∷ 2 ∷ 65536 ∷ 65536 ∷ 0 ∷ 0 ∷ 0 ∷ 0 ∷ 0 ∷ 1 ∷ 2 ∷ 0 ∷ []; model = Futuristic; defence = Stt }) refl refl refl refl refl

mixed_4_agrees : Agrees mixed_4
unfolding ones encode scan_numeral digits count_leading_zeros chars is_utf8 skip_from skip_ws decimal_number number
    plain_number underscore_fits unquoted word_len word_value body key_after one_line quoted simple_key special atom
    expression header_key key_equals line lines parse_document skip_bom val along_dots along_header at_key define
    decode zeros description_of document_fault end_fault key_fault keys_fault latency_fault registers_fault
    second_fault sections_fault top_fault half has_magic word header_fault code_of ram_after ram_fault segment_at
    end_line cycle fetch rename retire event_text events_text row_text rows_text trace_text
mixed_4_agrees = agrees mixed_4 (record { version = 2; numbers = 4 ∷ 2 ∷ 128 ∷ 64 ∷ 64 ∷ 17 ∷ 32 ∷ 1 ∷ 3 ∷ 2 ∷ 4 ∷ 2 ∷ 2 ∷ 4 ∷ 3 ∷ 6 ∷ 3 ∷ 65536 ∷ 65536 ∷ 0 ∷ 0 ∷ 0 ∷ 0 ∷ 0 ∷ 1 ∷ 2 ∷ 0 ∷ []; model = Futuristic; defence = Stt }) refl refl refl refl refl

mixed_5_agrees : Agrees mixed_5
unfolding ones encode scan_numeral digits count_leading_zeros chars is_utf8 skip_from skip_ws decimal_number number
    plain_number underscore_fits unquoted word_len word_value body key_after one_line quoted simple_key special atom
    expression header_key key_equals line lines parse_document skip_bom val along_dots along_header at_key define
    decode zeros description_of document_fault end_fault key_fault keys_fault latency_fault registers_fault
    second_fault sections_fault top_fault half has_magic word header_fault code_of ram_after ram_fault segment_at
    end_line cycle fetch rename retire event_text events_text row_text rows_text trace_text
mixed_5_agrees = agrees mixed_5 (record { version = 2; numbers = 1 ∷ 1 ∷ 4 ∷ 2 ∷ 1 ∷ 2 ∷ 2 ∷ 2 ∷ 1 ∷ 2 ∷ 4 ∷ 2 ∷ 3 ∷ 16 ∷ 1 ∷ 9 ∷ 1 ∷ 65536 ∷ 65536 ∷ 0 ∷ 0 ∷ 0 ∷ 0 ∷ 0 ∷ 1 ∷ 2 ∷ 0 ∷ []; model = Futuristic; defence = Stt }) refl refl refl refl refl

mixed_6_agrees : Agrees mixed_6
unfolding ones encode scan_numeral digits count_leading_zeros chars is_utf8 skip_from skip_ws decimal_number number
    plain_number underscore_fits unquoted word_len word_value body key_after one_line quoted simple_key special atom
    expression header_key key_equals line lines parse_document skip_bom val along_dots along_header at_key define
    decode zeros description_of document_fault end_fault key_fault keys_fault latency_fault registers_fault
    second_fault sections_fault top_fault half has_magic word header_fault code_of ram_after ram_fault segment_at
    end_line cycle fetch rename retire event_text events_text row_text rows_text trace_text
mixed_6_agrees = agrees mixed_6 (record { version = 2; numbers = 1 ∷ 2 ∷ 16 ∷ 3 ∷ 2 ∷ 4 ∷ 8 ∷ 1 ∷ 8 ∷ 16 ∷ 4 ∷ 1 ∷ 1 ∷ 32 ∷ 2 ∷ 17 ∷ 3 ∷ 65536 ∷ 65536 ∷ 0 ∷ 0 ∷ 0 ∷ 0 ∷ 0 ∷ 1 ∷ 2 ∷ 0 ∷ []; model = Spectre; defence = Stt }) refl refl refl refl refl

mixed_7_agrees : Agrees mixed_7
unfolding ones encode scan_numeral digits count_leading_zeros chars is_utf8 skip_from skip_ws decimal_number number
    plain_number underscore_fits unquoted word_len word_value body key_after one_line quoted simple_key special atom
    expression header_key key_equals line lines parse_document skip_bom val along_dots along_header at_key define
    decode zeros description_of document_fault end_fault key_fault keys_fault latency_fault registers_fault
    second_fault sections_fault top_fault half has_magic word header_fault code_of ram_after ram_fault segment_at
    end_line cycle fetch rename retire event_text events_text row_text rows_text trace_text
mixed_7_agrees = agrees mixed_7 (record { version = 2; numbers = 1 ∷ 4 ∷ 70 ∷ 96 ∷ 64 ∷ 17 ∷ 32 ∷ 4 ∷ 1 ∷ 16 ∷ 4 ∷ 4 ∷ 2 ∷ 32 ∷ 1 ∷ 9 ∷ 3 ∷ 65536 ∷ 65536 ∷ 0 ∷ 0 ∷ 0 ∷ 0 ∷ 0 ∷ 1 ∷ 2 ∷ 0 ∷ []; model = Spectre; defence = Stt }) refl refl refl refl refl

mixed_8_agrees : Agrees mixed_8
unfolding ones encode scan_numeral digits count_leading_zeros chars is_utf8 skip_from skip_ws decimal_number number
    plain_number underscore_fits unquoted word_len word_value body key_after one_line quoted simple_key special atom
    expression header_key key_equals line lines parse_document skip_bom val along_dots along_header at_key define
    decode zeros description_of document_fault end_fault key_fault keys_fault latency_fault registers_fault
    second_fault sections_fault top_fault half has_magic word header_fault code_of ram_after ram_fault segment_at
    end_line cycle fetch rename retire event_text events_text row_text rows_text trace_text
mixed_8_agrees = agrees mixed_8 (record { version = 2; numbers = 1 ∷ 1 ∷ 16 ∷ 8 ∷ 4 ∷ 2 ∷ 1 ∷ 4 ∷ 3 ∷ 16 ∷ 1 ∷ 2 ∷ 2 ∷ 4 ∷ 3 ∷ 6 ∷ 2 ∷ 65536 ∷ 65536 ∷ 0 ∷ 0 ∷ 0 ∷ 0 ∷ 0 ∷ 1 ∷ 2 ∷ 0 ∷ []; model = Futuristic; defence = Stt }) refl refl refl refl refl

mixed_any_address_1_agrees : Agrees mixed_any_address_1
unfolding ones encode scan_numeral digits count_leading_zeros chars is_utf8 skip_from skip_ws decimal_number number
    plain_number underscore_fits unquoted word_len word_value body key_after one_line quoted simple_key special atom
    expression header_key key_equals line lines parse_document skip_bom val along_dots along_header at_key define
    decode zeros description_of document_fault end_fault key_fault keys_fault latency_fault registers_fault
    second_fault sections_fault top_fault half has_magic word header_fault code_of ram_after ram_fault segment_at
    end_line cycle fetch rename retire event_text events_text row_text rows_text trace_text
mixed_any_address_1_agrees = agrees mixed_any_address_1 (record { version = 2; numbers = 1 ∷ 1 ∷ 12 ∷ 2 ∷ 4 ∷ 1 ∷ 8 ∷ 3 ∷ 4 ∷ 16 ∷ 4 ∷ 2 ∷ 1 ∷ 4 ∷ 3 ∷ 13 ∷ 3 ∷ 65536 ∷ 65536 ∷ 1 ∷ 0 ∷ 0 ∷ 0 ∷ 0 ∷ 1 ∷ 2 ∷ 0 ∷ []; model = Futuristic; defence = Stt }) refl refl refl refl refl

mixed_any_address_2_agrees : Agrees mixed_any_address_2
unfolding ones encode scan_numeral digits count_leading_zeros chars is_utf8 skip_from skip_ws decimal_number number
    plain_number underscore_fits unquoted word_len word_value body key_after one_line quoted simple_key special atom
    expression header_key key_equals line lines parse_document skip_bom val along_dots along_header at_key define
    decode zeros description_of document_fault end_fault key_fault keys_fault latency_fault registers_fault
    second_fault sections_fault top_fault half has_magic word header_fault code_of ram_after ram_fault segment_at
    end_line cycle fetch rename retire event_text events_text row_text rows_text trace_text
mixed_any_address_2_agrees = agrees mixed_any_address_2 (record { version = 2; numbers = 4 ∷ 2 ∷ 4 ∷ 8 ∷ 4 ∷ 2 ∷ 8 ∷ 1 ∷ 1 ∷ 2 ∷ 4 ∷ 4 ∷ 2 ∷ 4 ∷ 1 ∷ 11 ∷ 2 ∷ 65536 ∷ 65536 ∷ 1 ∷ 0 ∷ 0 ∷ 0 ∷ 0 ∷ 1 ∷ 2 ∷ 0 ∷ []; model = Spectre; defence = Stt }) refl refl refl refl refl

mixed_delay_1_agrees : Agrees mixed_delay_1
unfolding ones encode scan_numeral digits count_leading_zeros chars is_utf8 skip_from skip_ws decimal_number number
    plain_number underscore_fits unquoted word_len word_value body key_after one_line quoted simple_key special atom
    expression header_key key_equals line lines parse_document skip_bom val along_dots along_header at_key define
    decode zeros description_of document_fault end_fault key_fault keys_fault latency_fault registers_fault
    second_fault sections_fault top_fault half has_magic word header_fault code_of ram_after ram_fault segment_at
    end_line cycle fetch rename retire event_text events_text row_text rows_text trace_text
mixed_delay_1_agrees = agrees mixed_delay_1 (record { version = 2; numbers = 4 ∷ 3 ∷ 40 ∷ 20 ∷ 10 ∷ 10 ∷ 8 ∷ 2 ∷ 3 ∷ 16 ∷ 2 ∷ 1 ∷ 1 ∷ 16 ∷ 2 ∷ 9 ∷ 3 ∷ 65536 ∷ 4096 ∷ 1 ∷ 4 ∷ 2 ∷ 3 ∷ 2 ∷ 2 ∷ 4 ∷ 1 ∷ []; model = Spectre; defence = Delay }) refl refl refl refl refl

mixed_delay_2_agrees : Agrees mixed_delay_2
unfolding ones encode scan_numeral digits count_leading_zeros chars is_utf8 skip_from skip_ws decimal_number number
    plain_number underscore_fits unquoted word_len word_value body key_after one_line quoted simple_key special atom
    expression header_key key_equals line lines parse_document skip_bom val along_dots along_header at_key define
    decode zeros description_of document_fault end_fault key_fault keys_fault latency_fault registers_fault
    second_fault sections_fault top_fault half has_magic word header_fault code_of ram_after ram_fault segment_at
    end_line cycle fetch rename retire event_text events_text row_text rows_text trace_text
mixed_delay_2_agrees = agrees mixed_delay_2 (record { version = 2; numbers = 4 ∷ 2 ∷ 16 ∷ 20 ∷ 10 ∷ 4 ∷ 8 ∷ 1 ∷ 3 ∷ 16 ∷ 2 ∷ 1 ∷ 1 ∷ 16 ∷ 2 ∷ 6 ∷ 3 ∷ 65536 ∷ 4096 ∷ 1 ∷ 4 ∷ 2 ∷ 3 ∷ 2 ∷ 2 ∷ 4 ∷ 1 ∷ []; model = Futuristic; defence = Delay }) refl refl refl refl refl

mixed_history_1_agrees : Agrees mixed_history_1
unfolding ones encode scan_numeral digits count_leading_zeros chars is_utf8 skip_from skip_ws decimal_number number
    plain_number underscore_fits unquoted word_len word_value body key_after one_line quoted simple_key special atom
    expression header_key key_equals line lines parse_document skip_bom val along_dots along_header at_key define
    decode zeros description_of document_fault end_fault key_fault keys_fault latency_fault registers_fault
    second_fault sections_fault top_fault half has_magic word header_fault code_of ram_after ram_fault segment_at
    end_line cycle fetch rename retire event_text events_text row_text rows_text trace_text
mixed_history_1_agrees = agrees mixed_history_1 (record { version = 2; numbers = 3 ∷ 4 ∷ 32 ∷ 4 ∷ 8 ∷ 1 ∷ 1 ∷ 1 ∷ 3 ∷ 16 ∷ 1 ∷ 2 ∷ 2 ∷ 16 ∷ 3 ∷ 7 ∷ 2 ∷ 65536 ∷ 65536 ∷ 0 ∷ 0 ∷ 3 ∷ 4 ∷ 0 ∷ 1 ∷ 2 ∷ 0 ∷ []; model = Spectre; defence = Stt }) refl refl refl refl refl

mixed_history_2_agrees : Agrees mixed_history_2
unfolding ones encode scan_numeral digits count_leading_zeros chars is_utf8 skip_from skip_ws decimal_number number
    plain_number underscore_fits unquoted word_len word_value body key_after one_line quoted simple_key special atom
    expression header_key key_equals line lines parse_document skip_bom val along_dots along_header at_key define
    decode zeros description_of document_fault end_fault key_fault keys_fault latency_fault registers_fault
    second_fault sections_fault top_fault half has_magic word header_fault code_of ram_after ram_fault segment_at
    end_line cycle fetch rename retire event_text events_text row_text rows_text trace_text
mixed_history_2_agrees = agrees mixed_history_2 (record { version = 2; numbers = 4 ∷ 4 ∷ 6 ∷ 2 ∷ 4 ∷ 4 ∷ 4 ∷ 3 ∷ 2 ∷ 4 ∷ 1 ∷ 2 ∷ 1 ∷ 16 ∷ 3 ∷ 6 ∷ 2 ∷ 65536 ∷ 65536 ∷ 0 ∷ 0 ∷ 1 ∷ 1 ∷ 0 ∷ 1 ∷ 2 ∷ 0 ∷ []; model = Futuristic; defence = Stt }) refl refl refl refl refl

mixed_memory_1_agrees : Agrees mixed_memory_1
unfolding ones encode scan_numeral digits count_leading_zeros chars is_utf8 skip_from skip_ws decimal_number number
    plain_number underscore_fits unquoted word_len word_value body key_after one_line quoted simple_key special atom
    expression header_key key_equals line lines parse_document skip_bom val along_dots along_header at_key define
    decode zeros description_of document_fault end_fault key_fault keys_fault latency_fault registers_fault
    second_fault sections_fault top_fault half has_magic word header_fault code_of ram_after ram_fault segment_at
    end_line cycle fetch rename retire event_text events_text row_text rows_text trace_text
mixed_memory_1_agrees = agrees mixed_memory_1 (record { version = 2; numbers = 2 ∷ 4 ∷ 4 ∷ 16 ∷ 8 ∷ 4 ∷ 4 ∷ 1 ∷ 1 ∷ 16 ∷ 2 ∷ 1 ∷ 1 ∷ 16 ∷ 3 ∷ 7 ∷ 2 ∷ 65536 ∷ 65536 ∷ 1 ∷ 0 ∷ 0 ∷ 0 ∷ 2 ∷ 2 ∷ 6 ∷ 1 ∷ []; model = Spectre; defence = Stt }) refl refl refl refl refl

mixed_memory_2_agrees : Agrees mixed_memory_2
unfolding ones encode scan_numeral digits count_leading_zeros chars is_utf8 skip_from skip_ws decimal_number number
    plain_number underscore_fits unquoted word_len word_value body key_after one_line quoted simple_key special atom
    expression header_key key_equals line lines parse_document skip_bom val along_dots along_header at_key define
    decode zeros description_of document_fault end_fault key_fault keys_fault latency_fault registers_fault
    second_fault sections_fault top_fault half has_magic word header_fault code_of ram_after ram_fault segment_at
    end_line cycle fetch rename retire event_text events_text row_text rows_text trace_text
mixed_memory_2_agrees = agrees mixed_memory_2 (record { version = 2; numbers = 3 ∷ 2 ∷ 12 ∷ 8 ∷ 1 ∷ 4 ∷ 1 ∷ 2 ∷ 2 ∷ 4 ∷ 4 ∷ 1 ∷ 1 ∷ 8 ∷ 2 ∷ 9 ∷ 2 ∷ 65536 ∷ 65536 ∷ 1 ∷ 0 ∷ 0 ∷ 0 ∷ 4 ∷ 4 ∷ 6 ∷ 1 ∷ []; model = Futuristic; defence = Stt }) refl refl refl refl refl

mixed_second_level_1_agrees : Agrees mixed_second_level_1
unfolding ones encode scan_numeral digits count_leading_zeros chars is_utf8 skip_from skip_ws decimal_number number
    plain_number underscore_fits unquoted word_len word_value body key_after one_line quoted simple_key special atom
    expression header_key key_equals line lines parse_document skip_bom val along_dots along_header at_key define
    decode zeros description_of document_fault end_fault key_fault keys_fault latency_fault registers_fault
    second_fault sections_fault top_fault half has_magic word header_fault code_of ram_after ram_fault segment_at
    end_line cycle fetch rename retire event_text events_text row_text rows_text trace_text
mixed_second_level_1_agrees = agrees mixed_second_level_1 (record { version = 2; numbers = 4 ∷ 4 ∷ 6 ∷ 8 ∷ 4 ∷ 1 ∷ 4 ∷ 2 ∷ 4 ∷ 16 ∷ 1 ∷ 1 ∷ 1 ∷ 16 ∷ 2 ∷ 14 ∷ 4 ∷ 65536 ∷ 65536 ∷ 0 ∷ 0 ∷ 0 ∷ 0 ∷ 4 ∷ 4 ∷ 9 ∷ 1 ∷ []; model = Spectre; defence = Stt }) refl refl refl refl refl

mixed_second_level_2_agrees : Agrees mixed_second_level_2
unfolding ones encode scan_numeral digits count_leading_zeros chars is_utf8 skip_from skip_ws decimal_number number
    plain_number underscore_fits unquoted word_len word_value body key_after one_line quoted simple_key special atom
    expression header_key key_equals line lines parse_document skip_bom val along_dots along_header at_key define
    decode zeros description_of document_fault end_fault key_fault keys_fault latency_fault registers_fault
    second_fault sections_fault top_fault half has_magic word header_fault code_of ram_after ram_fault segment_at
    end_line cycle fetch rename retire event_text events_text row_text rows_text trace_text
mixed_second_level_2_agrees = agrees mixed_second_level_2 (record { version = 2; numbers = 1 ∷ 1 ∷ 32 ∷ 8 ∷ 4 ∷ 1 ∷ 1 ∷ 2 ∷ 4 ∷ 16 ∷ 4 ∷ 1 ∷ 1 ∷ 4 ∷ 1 ∷ 13 ∷ 2 ∷ 65536 ∷ 65536 ∷ 0 ∷ 0 ∷ 0 ∷ 0 ∷ 2 ∷ 2 ∷ 2 ∷ 1 ∷ []; model = Futuristic; defence = Stt }) refl refl refl refl refl

mixed_settings_agrees : Agrees mixed_settings
unfolding ones encode scan_numeral digits count_leading_zeros chars is_utf8 skip_from skip_ws decimal_number number
    plain_number underscore_fits unquoted word_len word_value body key_after one_line quoted simple_key special atom
    expression header_key key_equals line lines parse_document skip_bom val along_dots along_header at_key define
    decode zeros description_of document_fault end_fault key_fault keys_fault latency_fault registers_fault
    second_fault sections_fault top_fault half has_magic word header_fault code_of ram_after ram_fault segment_at
    end_line cycle fetch rename retire event_text events_text row_text rows_text trace_text
mixed_settings_agrees = agrees mixed_settings (record { version = 2; numbers = 4 ∷ 1 ∷ 113 ∷ 39 ∷ 64 ∷ 48 ∷ 6 ∷ 1 ∷ 1 ∷ 2 ∷ 1 ∷ 1 ∷ 1 ∷ 32 ∷ 6 ∷ 12 ∷ 1 ∷ 65536 ∷ 4096 ∷ 0 ∷ 4 ∷ 12 ∷ 2 ∷ 4 ∷ 1 ∷ 7 ∷ 1 ∷ []; model = Spectre; defence = Hold }) refl refl refl refl refl

mixed_together_1_agrees : Agrees mixed_together_1
unfolding ones encode scan_numeral digits count_leading_zeros chars is_utf8 skip_from skip_ws decimal_number number
    plain_number underscore_fits unquoted word_len word_value body key_after one_line quoted simple_key special atom
    expression header_key key_equals line lines parse_document skip_bom val along_dots along_header at_key define
    decode zeros description_of document_fault end_fault key_fault keys_fault latency_fault registers_fault
    second_fault sections_fault top_fault half has_magic word header_fault code_of ram_after ram_fault segment_at
    end_line cycle fetch rename retire event_text events_text row_text rows_text trace_text
mixed_together_1_agrees = agrees mixed_together_1 (record { version = 2; numbers = 4 ∷ 2 ∷ 6 ∷ 16 ∷ 4 ∷ 4 ∷ 8 ∷ 1 ∷ 4 ∷ 16 ∷ 2 ∷ 4 ∷ 1 ∷ 8 ∷ 2 ∷ 14 ∷ 2 ∷ 65536 ∷ 65536 ∷ 1 ∷ 0 ∷ 6 ∷ 1 ∷ 1 ∷ 4 ∷ 7 ∷ 1 ∷ []; model = Spectre; defence = Stt }) refl refl refl refl refl

mixed_together_2_agrees : Agrees mixed_together_2
unfolding ones encode scan_numeral digits count_leading_zeros chars is_utf8 skip_from skip_ws decimal_number number
    plain_number underscore_fits unquoted word_len word_value body key_after one_line quoted simple_key special atom
    expression header_key key_equals line lines parse_document skip_bom val along_dots along_header at_key define
    decode zeros description_of document_fault end_fault key_fault keys_fault latency_fault registers_fault
    second_fault sections_fault top_fault half has_magic word header_fault code_of ram_after ram_fault segment_at
    end_line cycle fetch rename retire event_text events_text row_text rows_text trace_text
mixed_together_2_agrees = agrees mixed_together_2 (record { version = 2; numbers = 4 ∷ 3 ∷ 16 ∷ 8 ∷ 2 ∷ 4 ∷ 1 ∷ 2 ∷ 1 ∷ 8 ∷ 4 ∷ 1 ∷ 3 ∷ 8 ∷ 3 ∷ 12 ∷ 2 ∷ 65536 ∷ 65536 ∷ 1 ∷ 0 ∷ 1 ∷ 3 ∷ 2 ∷ 3 ∷ 7 ∷ 1 ∷ []; model = Futuristic; defence = Stt }) refl refl refl refl refl

next_line_fetched_agrees : Agrees next_line_fetched
unfolding ones encode scan_numeral digits count_leading_zeros chars is_utf8 skip_from skip_ws decimal_number number
    plain_number underscore_fits unquoted word_len word_value body key_after one_line quoted simple_key special atom
    expression header_key key_equals line lines parse_document skip_bom val along_dots along_header at_key define
    decode zeros description_of document_fault end_fault key_fault keys_fault latency_fault registers_fault
    second_fault sections_fault top_fault half has_magic word header_fault code_of ram_after ram_fault segment_at
    end_line cycle fetch rename retire event_text events_text row_text rows_text trace_text
next_line_fetched_agrees = agrees next_line_fetched (record { version = 2; numbers = 2 ∷ 2 ∷ 16 ∷ 8 ∷ 4 ∷ 4 ∷ 8 ∷ 2 ∷ 3 ∷ 16 ∷ 4 ∷ 2 ∷ 2 ∷ 16 ∷ 2 ∷ 10 ∷ 2 ∷ 65536 ∷ 65536 ∷ 0 ∷ 0 ∷ 0 ∷ 0 ∷ 2 ∷ 2 ∷ 5 ∷ 1 ∷ []; model = Spectre; defence = Stt }) refl refl refl refl refl

no_prefetch_behind_memory_agrees : Agrees no_prefetch_behind_memory
unfolding ones encode scan_numeral digits count_leading_zeros chars is_utf8 skip_from skip_ws decimal_number number
    plain_number underscore_fits unquoted word_len word_value body key_after one_line quoted simple_key special atom
    expression header_key key_equals line lines parse_document skip_bom val along_dots along_header at_key define
    decode zeros description_of document_fault end_fault key_fault keys_fault latency_fault registers_fault
    second_fault sections_fault top_fault half has_magic word header_fault code_of ram_after ram_fault segment_at
    end_line cycle fetch rename retire event_text events_text row_text rows_text trace_text
no_prefetch_behind_memory_agrees = agrees no_prefetch_behind_memory (record { version = 2; numbers = 2 ∷ 2 ∷ 16 ∷ 8 ∷ 4 ∷ 4 ∷ 8 ∷ 2 ∷ 3 ∷ 16 ∷ 4 ∷ 2 ∷ 2 ∷ 16 ∷ 2 ∷ 10 ∷ 2 ∷ 65536 ∷ 65536 ∷ 0 ∷ 0 ∷ 0 ∷ 0 ∷ 0 ∷ 1 ∷ 2 ∷ 1 ∷ []; model = Spectre; defence = Stt }) refl refl refl refl refl

no_prefetch_for_a_hit_agrees : Agrees no_prefetch_for_a_hit
unfolding ones encode scan_numeral digits count_leading_zeros chars is_utf8 skip_from skip_ws decimal_number number
    plain_number underscore_fits unquoted word_len word_value body key_after one_line quoted simple_key special atom
    expression header_key key_equals line lines parse_document skip_bom val along_dots along_header at_key define
    decode zeros description_of document_fault end_fault key_fault keys_fault latency_fault registers_fault
    second_fault sections_fault top_fault half has_magic word header_fault code_of ram_after ram_fault segment_at
    end_line cycle fetch rename retire event_text events_text row_text rows_text trace_text
no_prefetch_for_a_hit_agrees = agrees no_prefetch_for_a_hit (record { version = 2; numbers = 2 ∷ 2 ∷ 16 ∷ 8 ∷ 4 ∷ 4 ∷ 8 ∷ 2 ∷ 3 ∷ 16 ∷ 4 ∷ 2 ∷ 2 ∷ 16 ∷ 2 ∷ 10 ∷ 1 ∷ 65536 ∷ 65536 ∷ 0 ∷ 0 ∷ 0 ∷ 0 ∷ 0 ∷ 1 ∷ 2 ∷ 1 ∷ []; model = Spectre; defence = Stt }) refl refl refl refl refl

no_prefetch_for_a_join_agrees : Agrees no_prefetch_for_a_join
unfolding ones encode scan_numeral digits count_leading_zeros chars is_utf8 skip_from skip_ws decimal_number number
    plain_number underscore_fits unquoted word_len word_value body key_after one_line quoted simple_key special atom
    expression header_key key_equals line lines parse_document skip_bom val along_dots along_header at_key define
    decode zeros description_of document_fault end_fault key_fault keys_fault latency_fault registers_fault
    second_fault sections_fault top_fault half has_magic word header_fault code_of ram_after ram_fault segment_at
    end_line cycle fetch rename retire event_text events_text row_text rows_text trace_text
no_prefetch_for_a_join_agrees = agrees no_prefetch_for_a_join (record { version = 2; numbers = 2 ∷ 2 ∷ 16 ∷ 8 ∷ 4 ∷ 4 ∷ 8 ∷ 2 ∷ 3 ∷ 16 ∷ 4 ∷ 2 ∷ 2 ∷ 16 ∷ 2 ∷ 10 ∷ 2 ∷ 65536 ∷ 65536 ∷ 0 ∷ 0 ∷ 0 ∷ 0 ∷ 0 ∷ 1 ∷ 2 ∷ 1 ∷ []; model = Spectre; defence = Stt }) refl refl refl refl refl

no_prefetch_of_a_held_line_agrees : Agrees no_prefetch_of_a_held_line
unfolding ones encode scan_numeral digits count_leading_zeros chars is_utf8 skip_from skip_ws decimal_number number
    plain_number underscore_fits unquoted word_len word_value body key_after one_line quoted simple_key special atom
    expression header_key key_equals line lines parse_document skip_bom val along_dots along_header at_key define
    decode zeros description_of document_fault end_fault key_fault keys_fault latency_fault registers_fault
    second_fault sections_fault top_fault half has_magic word header_fault code_of ram_after ram_fault segment_at
    end_line cycle fetch rename retire event_text events_text row_text rows_text trace_text
no_prefetch_of_a_held_line_agrees = agrees no_prefetch_of_a_held_line (record { version = 2; numbers = 2 ∷ 2 ∷ 16 ∷ 8 ∷ 4 ∷ 4 ∷ 8 ∷ 2 ∷ 3 ∷ 16 ∷ 4 ∷ 2 ∷ 2 ∷ 16 ∷ 2 ∷ 10 ∷ 4 ∷ 65536 ∷ 65536 ∷ 0 ∷ 0 ∷ 0 ∷ 0 ∷ 0 ∷ 1 ∷ 2 ∷ 1 ∷ []; model = Spectre; defence = Stt }) refl refl refl refl refl

no_prefetch_of_address_0_agrees : Agrees no_prefetch_of_address_0
unfolding ones encode scan_numeral digits count_leading_zeros chars is_utf8 skip_from skip_ws decimal_number number
    plain_number underscore_fits unquoted word_len word_value body key_after one_line quoted simple_key special atom
    expression header_key key_equals line lines parse_document skip_bom val along_dots along_header at_key define
    decode zeros description_of document_fault end_fault key_fault keys_fault latency_fault registers_fault
    second_fault sections_fault top_fault half has_magic word header_fault code_of ram_after ram_fault segment_at
    end_line cycle fetch rename retire event_text events_text row_text rows_text trace_text
no_prefetch_of_address_0_agrees = agrees no_prefetch_of_address_0 (record { version = 2; numbers = 2 ∷ 2 ∷ 16 ∷ 8 ∷ 4 ∷ 4 ∷ 8 ∷ 2 ∷ 3 ∷ 16 ∷ 4 ∷ 2 ∷ 2 ∷ 16 ∷ 2 ∷ 10 ∷ 2 ∷ 4294963200 ∷ 4096 ∷ 0 ∷ 0 ∷ 0 ∷ 0 ∷ 0 ∷ 1 ∷ 2 ∷ 1 ∷ []; model = Spectre; defence = Stt }) refl refl refl refl refl

no_prefetch_on_its_way_agrees : Agrees no_prefetch_on_its_way
unfolding ones encode scan_numeral digits count_leading_zeros chars is_utf8 skip_from skip_ws decimal_number number
    plain_number underscore_fits unquoted word_len word_value body key_after one_line quoted simple_key special atom
    expression header_key key_equals line lines parse_document skip_bom val along_dots along_header at_key define
    decode zeros description_of document_fault end_fault key_fault keys_fault latency_fault registers_fault
    second_fault sections_fault top_fault half has_magic word header_fault code_of ram_after ram_fault segment_at
    end_line cycle fetch rename retire event_text events_text row_text rows_text trace_text
no_prefetch_on_its_way_agrees = agrees no_prefetch_on_its_way (record { version = 2; numbers = 2 ∷ 2 ∷ 16 ∷ 8 ∷ 4 ∷ 4 ∷ 8 ∷ 2 ∷ 3 ∷ 16 ∷ 4 ∷ 2 ∷ 2 ∷ 16 ∷ 2 ∷ 10 ∷ 4 ∷ 65536 ∷ 65536 ∷ 0 ∷ 0 ∷ 0 ∷ 0 ∷ 0 ∷ 1 ∷ 2 ∷ 1 ∷ []; model = Spectre; defence = Stt }) refl refl refl refl refl

no_prefetch_without_register_agrees : Agrees no_prefetch_without_register
unfolding ones encode scan_numeral digits count_leading_zeros chars is_utf8 skip_from skip_ws decimal_number number
    plain_number underscore_fits unquoted word_len word_value body key_after one_line quoted simple_key special atom
    expression header_key key_equals line lines parse_document skip_bom val along_dots along_header at_key define
    decode zeros description_of document_fault end_fault key_fault keys_fault latency_fault registers_fault
    second_fault sections_fault top_fault half has_magic word header_fault code_of ram_after ram_fault segment_at
    end_line cycle fetch rename retire event_text events_text row_text rows_text trace_text
no_prefetch_without_register_agrees = agrees no_prefetch_without_register (record { version = 2; numbers = 2 ∷ 2 ∷ 16 ∷ 8 ∷ 4 ∷ 4 ∷ 8 ∷ 2 ∷ 3 ∷ 16 ∷ 4 ∷ 2 ∷ 2 ∷ 16 ∷ 2 ∷ 10 ∷ 2 ∷ 65536 ∷ 65536 ∷ 1 ∷ 0 ∷ 0 ∷ 0 ∷ 0 ∷ 1 ∷ 2 ∷ 1 ∷ []; model = Spectre; defence = Stt }) refl refl refl refl refl

off_clears_at_once_agrees : Agrees off_clears_at_once
unfolding ones encode scan_numeral digits count_leading_zeros chars is_utf8 skip_from skip_ws decimal_number number
    plain_number underscore_fits unquoted word_len word_value body key_after one_line quoted simple_key special atom
    expression header_key key_equals line lines parse_document skip_bom val along_dots along_header at_key define
    decode zeros description_of document_fault end_fault key_fault keys_fault latency_fault registers_fault
    second_fault sections_fault top_fault half has_magic word header_fault code_of ram_after ram_fault segment_at
    end_line cycle fetch rename retire event_text events_text row_text rows_text trace_text
off_clears_at_once_agrees = agrees off_clears_at_once (record { version = 2; numbers = 2 ∷ 2 ∷ 16 ∷ 8 ∷ 4 ∷ 4 ∷ 8 ∷ 2 ∷ 3 ∷ 16 ∷ 4 ∷ 2 ∷ 2 ∷ 16 ∷ 2 ∷ 10 ∷ 2 ∷ 65536 ∷ 65536 ∷ 0 ∷ 16 ∷ 0 ∷ 0 ∷ 0 ∷ 1 ∷ 2 ∷ 0 ∷ []; model = Off; defence = Stt }) refl refl refl refl refl

off_delays_nothing_agrees : Agrees off_delays_nothing
unfolding ones encode scan_numeral digits count_leading_zeros chars is_utf8 skip_from skip_ws decimal_number number
    plain_number underscore_fits unquoted word_len word_value body key_after one_line quoted simple_key special atom
    expression header_key key_equals line lines parse_document skip_bom val along_dots along_header at_key define
    decode zeros description_of document_fault end_fault key_fault keys_fault latency_fault registers_fault
    second_fault sections_fault top_fault half has_magic word header_fault code_of ram_after ram_fault segment_at
    end_line cycle fetch rename retire event_text events_text row_text rows_text trace_text
off_delays_nothing_agrees = agrees off_delays_nothing (record { version = 2; numbers = 2 ∷ 2 ∷ 16 ∷ 8 ∷ 4 ∷ 4 ∷ 8 ∷ 2 ∷ 3 ∷ 16 ∷ 4 ∷ 2 ∷ 2 ∷ 16 ∷ 2 ∷ 10 ∷ 2 ∷ 65536 ∷ 65536 ∷ 0 ∷ 0 ∷ 0 ∷ 0 ∷ 0 ∷ 1 ∷ 2 ∷ 0 ∷ []; model = Off; defence = Delay }) refl refl refl refl refl

off_divides_agrees : Agrees off_divides
unfolding ones encode scan_numeral digits count_leading_zeros chars is_utf8 skip_from skip_ws decimal_number number
    plain_number underscore_fits unquoted word_len word_value body key_after one_line quoted simple_key special atom
    expression header_key key_equals line lines parse_document skip_bom val along_dots along_header at_key define
    decode zeros description_of document_fault end_fault key_fault keys_fault latency_fault registers_fault
    second_fault sections_fault top_fault half has_magic word header_fault code_of ram_after ram_fault segment_at
    end_line cycle fetch rename retire event_text events_text row_text rows_text trace_text
off_divides_agrees = agrees off_divides (record { version = 2; numbers = 2 ∷ 2 ∷ 16 ∷ 8 ∷ 4 ∷ 4 ∷ 8 ∷ 2 ∷ 3 ∷ 16 ∷ 4 ∷ 2 ∷ 2 ∷ 16 ∷ 2 ∷ 10 ∷ 2 ∷ 65536 ∷ 65536 ∷ 0 ∷ 0 ∷ 0 ∷ 0 ∷ 0 ∷ 1 ∷ 2 ∷ 0 ∷ []; model = Off; defence = Stt }) refl refl refl refl refl

off_forwards_agrees : Agrees off_forwards
unfolding ones encode scan_numeral digits count_leading_zeros chars is_utf8 skip_from skip_ws decimal_number number
    plain_number underscore_fits unquoted word_len word_value body key_after one_line quoted simple_key special atom
    expression header_key key_equals line lines parse_document skip_bom val along_dots along_header at_key define
    decode zeros description_of document_fault end_fault key_fault keys_fault latency_fault registers_fault
    second_fault sections_fault top_fault half has_magic word header_fault code_of ram_after ram_fault segment_at
    end_line cycle fetch rename retire event_text events_text row_text rows_text trace_text
off_forwards_agrees = agrees off_forwards (record { version = 2; numbers = 2 ∷ 2 ∷ 16 ∷ 8 ∷ 4 ∷ 4 ∷ 8 ∷ 2 ∷ 3 ∷ 16 ∷ 4 ∷ 2 ∷ 2 ∷ 16 ∷ 2 ∷ 10 ∷ 2 ∷ 65536 ∷ 65536 ∷ 0 ∷ 0 ∷ 0 ∷ 0 ∷ 0 ∷ 1 ∷ 2 ∷ 0 ∷ []; model = Off; defence = Stt }) refl refl refl refl refl

off_holds_nothing_agrees : Agrees off_holds_nothing
unfolding ones encode scan_numeral digits count_leading_zeros chars is_utf8 skip_from skip_ws decimal_number number
    plain_number underscore_fits unquoted word_len word_value body key_after one_line quoted simple_key special atom
    expression header_key key_equals line lines parse_document skip_bom val along_dots along_header at_key define
    decode zeros description_of document_fault end_fault key_fault keys_fault latency_fault registers_fault
    second_fault sections_fault top_fault half has_magic word header_fault code_of ram_after ram_fault segment_at
    end_line cycle fetch rename retire event_text events_text row_text rows_text trace_text
off_holds_nothing_agrees = agrees off_holds_nothing (record { version = 2; numbers = 2 ∷ 2 ∷ 16 ∷ 8 ∷ 4 ∷ 4 ∷ 8 ∷ 2 ∷ 3 ∷ 16 ∷ 4 ∷ 2 ∷ 2 ∷ 16 ∷ 2 ∷ 10 ∷ 2 ∷ 65536 ∷ 65536 ∷ 0 ∷ 0 ∷ 0 ∷ 0 ∷ 0 ∷ 1 ∷ 2 ∷ 0 ∷ []; model = Off; defence = Hold }) refl refl refl refl refl

off_violates_agrees : Agrees off_violates
unfolding ones encode scan_numeral digits count_leading_zeros chars is_utf8 skip_from skip_ws decimal_number number
    plain_number underscore_fits unquoted word_len word_value body key_after one_line quoted simple_key special atom
    expression header_key key_equals line lines parse_document skip_bom val along_dots along_header at_key define
    decode zeros description_of document_fault end_fault key_fault keys_fault latency_fault registers_fault
    second_fault sections_fault top_fault half has_magic word header_fault code_of ram_after ram_fault segment_at
    end_line cycle fetch rename retire event_text events_text row_text rows_text trace_text
off_violates_agrees = agrees off_violates (record { version = 2; numbers = 2 ∷ 2 ∷ 16 ∷ 8 ∷ 4 ∷ 4 ∷ 8 ∷ 2 ∷ 3 ∷ 16 ∷ 4 ∷ 2 ∷ 2 ∷ 16 ∷ 2 ∷ 10 ∷ 2 ∷ 65536 ∷ 65536 ∷ 0 ∷ 16 ∷ 0 ∷ 0 ∷ 0 ∷ 1 ∷ 2 ∷ 0 ∷ []; model = Off; defence = Stt }) refl refl refl refl refl

older_load_hides_nothing_agrees : Agrees older_load_hides_nothing
unfolding ones encode scan_numeral digits count_leading_zeros chars is_utf8 skip_from skip_ws decimal_number number
    plain_number underscore_fits unquoted word_len word_value body key_after one_line quoted simple_key special atom
    expression header_key key_equals line lines parse_document skip_bom val along_dots along_header at_key define
    decode zeros description_of document_fault end_fault key_fault keys_fault latency_fault registers_fault
    second_fault sections_fault top_fault half has_magic word header_fault code_of ram_after ram_fault segment_at
    end_line cycle fetch rename retire event_text events_text row_text rows_text trace_text
older_load_hides_nothing_agrees = agrees older_load_hides_nothing (record { version = 2; numbers = 2 ∷ 2 ∷ 16 ∷ 8 ∷ 4 ∷ 4 ∷ 8 ∷ 2 ∷ 3 ∷ 16 ∷ 4 ∷ 2 ∷ 2 ∷ 16 ∷ 2 ∷ 10 ∷ 2 ∷ 65536 ∷ 65536 ∷ 0 ∷ 0 ∷ 0 ∷ 0 ∷ 0 ∷ 1 ∷ 2 ∷ 0 ∷ []; model = Spectre; defence = Stt }) refl refl refl refl refl

older_store_without_data_agrees : Agrees older_store_without_data
unfolding ones encode scan_numeral digits count_leading_zeros chars is_utf8 skip_from skip_ws decimal_number number
    plain_number underscore_fits unquoted word_len word_value body key_after one_line quoted simple_key special atom
    expression header_key key_equals line lines parse_document skip_bom val along_dots along_header at_key define
    decode zeros description_of document_fault end_fault key_fault keys_fault latency_fault registers_fault
    second_fault sections_fault top_fault half has_magic word header_fault code_of ram_after ram_fault segment_at
    end_line cycle fetch rename retire event_text events_text row_text rows_text trace_text
older_store_without_data_agrees = agrees older_store_without_data (record { version = 2; numbers = 2 ∷ 2 ∷ 16 ∷ 8 ∷ 4 ∷ 4 ∷ 8 ∷ 2 ∷ 3 ∷ 16 ∷ 4 ∷ 2 ∷ 2 ∷ 16 ∷ 2 ∷ 10 ∷ 2 ∷ 65536 ∷ 65536 ∷ 0 ∷ 0 ∷ 0 ∷ 0 ∷ 0 ∷ 1 ∷ 2 ∷ 0 ∷ []; model = Spectre; defence = Stt }) refl refl refl refl refl

older_tainted_address_agrees : Agrees older_tainted_address
unfolding ones encode scan_numeral digits count_leading_zeros chars is_utf8 skip_from skip_ws decimal_number number
    plain_number underscore_fits unquoted word_len word_value body key_after one_line quoted simple_key special atom
    expression header_key key_equals line lines parse_document skip_bom val along_dots along_header at_key define
    decode zeros description_of document_fault end_fault key_fault keys_fault latency_fault registers_fault
    second_fault sections_fault top_fault half has_magic word header_fault code_of ram_after ram_fault segment_at
    end_line cycle fetch rename retire event_text events_text row_text rows_text trace_text
older_tainted_address_agrees = agrees older_tainted_address (record { version = 2; numbers = 4 ∷ 2 ∷ 16 ∷ 8 ∷ 4 ∷ 4 ∷ 8 ∷ 2 ∷ 3 ∷ 16 ∷ 4 ∷ 2 ∷ 2 ∷ 16 ∷ 2 ∷ 10 ∷ 2 ∷ 65536 ∷ 65536 ∷ 0 ∷ 16 ∷ 0 ∷ 0 ∷ 0 ∷ 1 ∷ 2 ∷ 0 ∷ []; model = Spectre; defence = Stt }) refl refl refl refl refl

one_byte_agrees : Agrees one_byte
unfolding ones encode scan_numeral digits count_leading_zeros chars is_utf8 skip_from skip_ws decimal_number number
    plain_number underscore_fits unquoted word_len word_value body key_after one_line quoted simple_key special atom
    expression header_key key_equals line lines parse_document skip_bom val along_dots along_header at_key define
    decode zeros description_of document_fault end_fault key_fault keys_fault latency_fault registers_fault
    second_fault sections_fault top_fault half has_magic word header_fault code_of ram_after ram_fault segment_at
    end_line cycle fetch rename retire event_text events_text row_text rows_text trace_text
one_byte_agrees = agrees one_byte (record { version = 2; numbers = 2 ∷ 2 ∷ 16 ∷ 8 ∷ 4 ∷ 4 ∷ 8 ∷ 2 ∷ 3 ∷ 16 ∷ 4 ∷ 2 ∷ 2 ∷ 16 ∷ 2 ∷ 10 ∷ 2 ∷ 65536 ∷ 65536 ∷ 0 ∷ 0 ∷ 0 ∷ 0 ∷ 0 ∷ 1 ∷ 2 ∷ 0 ∷ []; model = Spectre; defence = Stt }) refl refl refl refl refl

one_port_each_agrees : Agrees one_port_each
unfolding ones encode scan_numeral digits count_leading_zeros chars is_utf8 skip_from skip_ws decimal_number number
    plain_number underscore_fits unquoted word_len word_value body key_after one_line quoted simple_key special atom
    expression header_key key_equals line lines parse_document skip_bom val along_dots along_header at_key define
    decode zeros description_of document_fault end_fault key_fault keys_fault latency_fault registers_fault
    second_fault sections_fault top_fault half has_magic word header_fault code_of ram_after ram_fault segment_at
    end_line cycle fetch rename retire event_text events_text row_text rows_text trace_text
one_port_each_agrees = agrees one_port_each (record { version = 2; numbers = 2 ∷ 2 ∷ 16 ∷ 8 ∷ 4 ∷ 4 ∷ 8 ∷ 2 ∷ 3 ∷ 16 ∷ 4 ∷ 2 ∷ 2 ∷ 16 ∷ 2 ∷ 10 ∷ 2 ∷ 65536 ∷ 65536 ∷ 0 ∷ 0 ∷ 0 ∷ 0 ∷ 0 ∷ 1 ∷ 2 ∷ 0 ∷ []; model = Spectre; defence = Stt }) refl refl refl refl refl

partly_covered_agrees : Agrees partly_covered
unfolding ones encode scan_numeral digits count_leading_zeros chars is_utf8 skip_from skip_ws decimal_number number
    plain_number underscore_fits unquoted word_len word_value body key_after one_line quoted simple_key special atom
    expression header_key key_equals line lines parse_document skip_bom val along_dots along_header at_key define
    decode zeros description_of document_fault end_fault key_fault keys_fault latency_fault registers_fault
    second_fault sections_fault top_fault half has_magic word header_fault code_of ram_after ram_fault segment_at
    end_line cycle fetch rename retire event_text events_text row_text rows_text trace_text
partly_covered_agrees = agrees partly_covered (record { version = 2; numbers = 2 ∷ 2 ∷ 16 ∷ 8 ∷ 4 ∷ 4 ∷ 8 ∷ 2 ∷ 3 ∷ 16 ∷ 4 ∷ 2 ∷ 2 ∷ 16 ∷ 2 ∷ 10 ∷ 2 ∷ 65536 ∷ 65536 ∷ 0 ∷ 0 ∷ 0 ∷ 0 ∷ 0 ∷ 1 ∷ 2 ∷ 0 ∷ []; model = Spectre; defence = Stt }) refl refl refl refl refl

parts_alone_agrees : Agrees parts_alone
unfolding ones encode scan_numeral digits count_leading_zeros chars is_utf8 skip_from skip_ws decimal_number number
    plain_number underscore_fits unquoted word_len word_value body key_after one_line quoted simple_key special atom
    expression header_key key_equals line lines parse_document skip_bom val along_dots along_header at_key define
    decode zeros description_of document_fault end_fault key_fault keys_fault latency_fault registers_fault
    second_fault sections_fault top_fault half has_magic word header_fault code_of ram_after ram_fault segment_at
    end_line cycle fetch rename retire event_text events_text row_text rows_text trace_text
parts_alone_agrees = agrees parts_alone (record { version = 2; numbers = 2 ∷ 2 ∷ 16 ∷ 8 ∷ 4 ∷ 4 ∷ 8 ∷ 2 ∷ 3 ∷ 16 ∷ 4 ∷ 2 ∷ 2 ∷ 16 ∷ 2 ∷ 10 ∷ 2 ∷ 65536 ∷ 65536 ∷ 0 ∷ 0 ∷ 0 ∷ 0 ∷ 0 ∷ 1 ∷ 2 ∷ 0 ∷ []; model = Spectre; defence = Stt }) refl refl refl refl refl

prefetch_at_the_end_of_memory_agrees : Agrees prefetch_at_the_end_of_memory
unfolding ones encode scan_numeral digits count_leading_zeros chars is_utf8 skip_from skip_ws decimal_number number
    plain_number underscore_fits unquoted word_len word_value body key_after one_line quoted simple_key special atom
    expression header_key key_equals line lines parse_document skip_bom val along_dots along_header at_key define
    decode zeros description_of document_fault end_fault key_fault keys_fault latency_fault registers_fault
    second_fault sections_fault top_fault half has_magic word header_fault code_of ram_after ram_fault segment_at
    end_line cycle fetch rename retire event_text events_text row_text rows_text trace_text
prefetch_at_the_end_of_memory_agrees = agrees prefetch_at_the_end_of_memory (record { version = 2; numbers = 2 ∷ 2 ∷ 16 ∷ 8 ∷ 4 ∷ 4 ∷ 8 ∷ 2 ∷ 3 ∷ 16 ∷ 4 ∷ 2 ∷ 2 ∷ 64 ∷ 2 ∷ 10 ∷ 2 ∷ 65536 ∷ 65552 ∷ 0 ∷ 0 ∷ 0 ∷ 0 ∷ 0 ∷ 1 ∷ 2 ∷ 1 ∷ []; model = Spectre; defence = Stt }) refl refl refl refl refl

prefetch_behind_both_lines_agrees : Agrees prefetch_behind_both_lines
unfolding ones encode scan_numeral digits count_leading_zeros chars is_utf8 skip_from skip_ws decimal_number number
    plain_number underscore_fits unquoted word_len word_value body key_after one_line quoted simple_key special atom
    expression header_key key_equals line lines parse_document skip_bom val along_dots along_header at_key define
    decode zeros description_of document_fault end_fault key_fault keys_fault latency_fault registers_fault
    second_fault sections_fault top_fault half has_magic word header_fault code_of ram_after ram_fault segment_at
    end_line cycle fetch rename retire event_text events_text row_text rows_text trace_text
prefetch_behind_both_lines_agrees = agrees prefetch_behind_both_lines (record { version = 2; numbers = 2 ∷ 2 ∷ 16 ∷ 8 ∷ 4 ∷ 4 ∷ 8 ∷ 2 ∷ 3 ∷ 16 ∷ 4 ∷ 2 ∷ 2 ∷ 16 ∷ 2 ∷ 10 ∷ 4 ∷ 65536 ∷ 65536 ∷ 1 ∷ 0 ∷ 0 ∷ 0 ∷ 0 ∷ 1 ∷ 2 ∷ 1 ∷ []; model = Spectre; defence = Stt }) refl refl refl refl refl

prefetch_behind_the_lower_line_agrees : Agrees prefetch_behind_the_lower_line
unfolding ones encode scan_numeral digits count_leading_zeros chars is_utf8 skip_from skip_ws decimal_number number
    plain_number underscore_fits unquoted word_len word_value body key_after one_line quoted simple_key special atom
    expression header_key key_equals line lines parse_document skip_bom val along_dots along_header at_key define
    decode zeros description_of document_fault end_fault key_fault keys_fault latency_fault registers_fault
    second_fault sections_fault top_fault half has_magic word header_fault code_of ram_after ram_fault segment_at
    end_line cycle fetch rename retire event_text events_text row_text rows_text trace_text
prefetch_behind_the_lower_line_agrees = agrees prefetch_behind_the_lower_line (record { version = 2; numbers = 2 ∷ 2 ∷ 16 ∷ 8 ∷ 4 ∷ 4 ∷ 8 ∷ 2 ∷ 3 ∷ 16 ∷ 4 ∷ 2 ∷ 1 ∷ 16 ∷ 2 ∷ 10 ∷ 2 ∷ 65536 ∷ 65536 ∷ 1 ∷ 0 ∷ 0 ∷ 0 ∷ 0 ∷ 1 ∷ 2 ∷ 1 ∷ []; model = Spectre; defence = Stt }) refl refl refl refl refl

prefetch_behind_x0_agrees : Agrees prefetch_behind_x0
unfolding ones encode scan_numeral digits count_leading_zeros chars is_utf8 skip_from skip_ws decimal_number number
    plain_number underscore_fits unquoted word_len word_value body key_after one_line quoted simple_key special atom
    expression header_key key_equals line lines parse_document skip_bom val along_dots along_header at_key define
    decode zeros description_of document_fault end_fault key_fault keys_fault latency_fault registers_fault
    second_fault sections_fault top_fault half has_magic word header_fault code_of ram_after ram_fault segment_at
    end_line cycle fetch rename retire event_text events_text row_text rows_text trace_text
prefetch_behind_x0_agrees = agrees prefetch_behind_x0 (record { version = 2; numbers = 2 ∷ 2 ∷ 16 ∷ 8 ∷ 4 ∷ 4 ∷ 8 ∷ 2 ∷ 3 ∷ 16 ∷ 4 ∷ 2 ∷ 2 ∷ 16 ∷ 2 ∷ 10 ∷ 2 ∷ 65536 ∷ 65536 ∷ 0 ∷ 0 ∷ 0 ∷ 0 ∷ 0 ∷ 1 ∷ 2 ∷ 1 ∷ []; model = Spectre; defence = Stt }) refl refl refl refl refl

prefetch_from_second_agrees : Agrees prefetch_from_second
unfolding ones encode scan_numeral digits count_leading_zeros chars is_utf8 skip_from skip_ws decimal_number number
    plain_number underscore_fits unquoted word_len word_value body key_after one_line quoted simple_key special atom
    expression header_key key_equals line lines parse_document skip_bom val along_dots along_header at_key define
    decode zeros description_of document_fault end_fault key_fault keys_fault latency_fault registers_fault
    second_fault sections_fault top_fault half has_magic word header_fault code_of ram_after ram_fault segment_at
    end_line cycle fetch rename retire event_text events_text row_text rows_text trace_text
prefetch_from_second_agrees = agrees prefetch_from_second (record { version = 2; numbers = 2 ∷ 2 ∷ 16 ∷ 8 ∷ 4 ∷ 4 ∷ 8 ∷ 2 ∷ 3 ∷ 16 ∷ 4 ∷ 1 ∷ 1 ∷ 16 ∷ 2 ∷ 10 ∷ 2 ∷ 65536 ∷ 65536 ∷ 0 ∷ 0 ∷ 0 ∷ 0 ∷ 1 ∷ 4 ∷ 5 ∷ 1 ∷ []; model = Spectre; defence = Stt }) refl refl refl refl refl

prefetch_moves_second_agrees : Agrees prefetch_moves_second
unfolding ones encode scan_numeral digits count_leading_zeros chars is_utf8 skip_from skip_ws decimal_number number
    plain_number underscore_fits unquoted word_len word_value body key_after one_line quoted simple_key special atom
    expression header_key key_equals line lines parse_document skip_bom val along_dots along_header at_key define
    decode zeros description_of document_fault end_fault key_fault keys_fault latency_fault registers_fault
    second_fault sections_fault top_fault half has_magic word header_fault code_of ram_after ram_fault segment_at
    end_line cycle fetch rename retire event_text events_text row_text rows_text trace_text
prefetch_moves_second_agrees = agrees prefetch_moves_second (record { version = 2; numbers = 2 ∷ 2 ∷ 16 ∷ 8 ∷ 4 ∷ 4 ∷ 8 ∷ 2 ∷ 3 ∷ 16 ∷ 4 ∷ 1 ∷ 1 ∷ 16 ∷ 2 ∷ 10 ∷ 4 ∷ 65536 ∷ 65536 ∷ 0 ∷ 0 ∷ 0 ∷ 0 ∷ 1 ∷ 5 ∷ 5 ∷ 1 ∷ []; model = Spectre; defence = Stt }) refl refl refl refl refl

prefetched_to_the_front_agrees : Agrees prefetched_to_the_front
unfolding ones encode scan_numeral digits count_leading_zeros chars is_utf8 skip_from skip_ws decimal_number number
    plain_number underscore_fits unquoted word_len word_value body key_after one_line quoted simple_key special atom
    expression header_key key_equals line lines parse_document skip_bom val along_dots along_header at_key define
    decode zeros description_of document_fault end_fault key_fault keys_fault latency_fault registers_fault
    second_fault sections_fault top_fault half has_magic word header_fault code_of ram_after ram_fault segment_at
    end_line cycle fetch rename retire event_text events_text row_text rows_text trace_text
prefetched_to_the_front_agrees = agrees prefetched_to_the_front (record { version = 2; numbers = 2 ∷ 2 ∷ 16 ∷ 8 ∷ 4 ∷ 4 ∷ 8 ∷ 2 ∷ 3 ∷ 16 ∷ 4 ∷ 1 ∷ 2 ∷ 16 ∷ 2 ∷ 10 ∷ 4 ∷ 65536 ∷ 65536 ∷ 0 ∷ 0 ∷ 0 ∷ 0 ∷ 0 ∷ 1 ∷ 2 ∷ 1 ∷ []; model = Spectre; defence = Stt }) refl refl refl refl refl

recent_in_second_agrees : Agrees recent_in_second
unfolding ones encode scan_numeral digits count_leading_zeros chars is_utf8 skip_from skip_ws decimal_number number
    plain_number underscore_fits unquoted word_len word_value body key_after one_line quoted simple_key special atom
    expression header_key key_equals line lines parse_document skip_bom val along_dots along_header at_key define
    decode zeros description_of document_fault end_fault key_fault keys_fault latency_fault registers_fault
    second_fault sections_fault top_fault half has_magic word header_fault code_of ram_after ram_fault segment_at
    end_line cycle fetch rename retire event_text events_text row_text rows_text trace_text
recent_in_second_agrees = agrees recent_in_second (record { version = 2; numbers = 2 ∷ 2 ∷ 16 ∷ 8 ∷ 4 ∷ 4 ∷ 8 ∷ 2 ∷ 3 ∷ 16 ∷ 4 ∷ 1 ∷ 1 ∷ 16 ∷ 2 ∷ 10 ∷ 2 ∷ 65536 ∷ 65536 ∷ 0 ∷ 0 ∷ 0 ∷ 0 ∷ 1 ∷ 2 ∷ 5 ∷ 0 ∷ []; model = Spectre; defence = Stt }) refl refl refl refl refl

registers_for_both_lines_agrees : Agrees registers_for_both_lines
unfolding ones encode scan_numeral digits count_leading_zeros chars is_utf8 skip_from skip_ws decimal_number number
    plain_number underscore_fits unquoted word_len word_value body key_after one_line quoted simple_key special atom
    expression header_key key_equals line lines parse_document skip_bom val along_dots along_header at_key define
    decode zeros description_of document_fault end_fault key_fault keys_fault latency_fault registers_fault
    second_fault sections_fault top_fault half has_magic word header_fault code_of ram_after ram_fault segment_at
    end_line cycle fetch rename retire event_text events_text row_text rows_text trace_text
registers_for_both_lines_agrees = agrees registers_for_both_lines (record { version = 2; numbers = 2 ∷ 2 ∷ 16 ∷ 8 ∷ 4 ∷ 4 ∷ 8 ∷ 2 ∷ 3 ∷ 16 ∷ 4 ∷ 2 ∷ 2 ∷ 16 ∷ 2 ∷ 10 ∷ 2 ∷ 65536 ∷ 65536 ∷ 1 ∷ 0 ∷ 0 ∷ 0 ∷ 0 ∷ 1 ∷ 2 ∷ 0 ∷ []; model = Spectre; defence = Stt }) refl refl refl refl refl

return_by_another_register_agrees : Agrees return_by_another_register
unfolding ones encode scan_numeral digits count_leading_zeros chars is_utf8 skip_from skip_ws decimal_number number
    plain_number underscore_fits unquoted word_len word_value body key_after one_line quoted simple_key special atom
    expression header_key key_equals line lines parse_document skip_bom val along_dots along_header at_key define
    decode zeros description_of document_fault end_fault key_fault keys_fault latency_fault registers_fault
    second_fault sections_fault top_fault half has_magic word header_fault code_of ram_after ram_fault segment_at
    end_line cycle fetch rename retire event_text events_text row_text rows_text trace_text
return_by_another_register_agrees = agrees return_by_another_register (record { version = 2; numbers = 2 ∷ 2 ∷ 16 ∷ 8 ∷ 4 ∷ 4 ∷ 8 ∷ 2 ∷ 3 ∷ 16 ∷ 4 ∷ 2 ∷ 2 ∷ 16 ∷ 2 ∷ 10 ∷ 2 ∷ 65536 ∷ 65536 ∷ 0 ∷ 0 ∷ 0 ∷ 4 ∷ 0 ∷ 1 ∷ 2 ∷ 0 ∷ []; model = Spectre; defence = Stt }) refl refl refl refl refl

return_by_stack_agrees : Agrees return_by_stack
unfolding ones encode scan_numeral digits count_leading_zeros chars is_utf8 skip_from skip_ws decimal_number number
    plain_number underscore_fits unquoted word_len word_value body key_after one_line quoted simple_key special atom
    expression header_key key_equals line lines parse_document skip_bom val along_dots along_header at_key define
    decode zeros description_of document_fault end_fault key_fault keys_fault latency_fault registers_fault
    second_fault sections_fault top_fault half has_magic word header_fault code_of ram_after ram_fault segment_at
    end_line cycle fetch rename retire event_text events_text row_text rows_text trace_text
return_by_stack_agrees = agrees return_by_stack (record { version = 2; numbers = 2 ∷ 2 ∷ 16 ∷ 8 ∷ 4 ∷ 4 ∷ 8 ∷ 2 ∷ 3 ∷ 16 ∷ 4 ∷ 2 ∷ 2 ∷ 16 ∷ 2 ∷ 10 ∷ 2 ∷ 65536 ∷ 65536 ∷ 0 ∷ 0 ∷ 0 ∷ 4 ∷ 0 ∷ 1 ∷ 2 ∷ 0 ∷ []; model = Spectre; defence = Stt }) refl refl refl refl refl

return_from_no_call_agrees : Agrees return_from_no_call
unfolding ones encode scan_numeral digits count_leading_zeros chars is_utf8 skip_from skip_ws decimal_number number
    plain_number underscore_fits unquoted word_len word_value body key_after one_line quoted simple_key special atom
    expression header_key key_equals line lines parse_document skip_bom val along_dots along_header at_key define
    decode zeros description_of document_fault end_fault key_fault keys_fault latency_fault registers_fault
    second_fault sections_fault top_fault half has_magic word header_fault code_of ram_after ram_fault segment_at
    end_line cycle fetch rename retire event_text events_text row_text rows_text trace_text
return_from_no_call_agrees = agrees return_from_no_call (record { version = 2; numbers = 2 ∷ 2 ∷ 16 ∷ 8 ∷ 4 ∷ 4 ∷ 8 ∷ 2 ∷ 3 ∷ 16 ∷ 4 ∷ 2 ∷ 2 ∷ 16 ∷ 2 ∷ 10 ∷ 2 ∷ 65536 ∷ 65536 ∷ 0 ∷ 0 ∷ 0 ∷ 4 ∷ 0 ∷ 1 ∷ 2 ∷ 0 ∷ []; model = Spectre; defence = Stt }) refl refl refl refl refl

return_that_links_agrees : Agrees return_that_links
unfolding ones encode scan_numeral digits count_leading_zeros chars is_utf8 skip_from skip_ws decimal_number number
    plain_number underscore_fits unquoted word_len word_value body key_after one_line quoted simple_key special atom
    expression header_key key_equals line lines parse_document skip_bom val along_dots along_header at_key define
    decode zeros description_of document_fault end_fault key_fault keys_fault latency_fault registers_fault
    second_fault sections_fault top_fault half has_magic word header_fault code_of ram_after ram_fault segment_at
    end_line cycle fetch rename retire event_text events_text row_text rows_text trace_text
return_that_links_agrees = agrees return_that_links (record { version = 2; numbers = 2 ∷ 2 ∷ 16 ∷ 8 ∷ 4 ∷ 4 ∷ 8 ∷ 2 ∷ 3 ∷ 16 ∷ 4 ∷ 2 ∷ 2 ∷ 16 ∷ 2 ∷ 10 ∷ 2 ∷ 65536 ∷ 65536 ∷ 0 ∷ 0 ∷ 0 ∷ 4 ∷ 0 ∷ 1 ∷ 2 ∷ 0 ∷ []; model = Spectre; defence = Stt }) refl refl refl refl refl

return_without_stack_agrees : Agrees return_without_stack
unfolding ones encode scan_numeral digits count_leading_zeros chars is_utf8 skip_from skip_ws decimal_number number
    plain_number underscore_fits unquoted word_len word_value body key_after one_line quoted simple_key special atom
    expression header_key key_equals line lines parse_document skip_bom val along_dots along_header at_key define
    decode zeros description_of document_fault end_fault key_fault keys_fault latency_fault registers_fault
    second_fault sections_fault top_fault half has_magic word header_fault code_of ram_after ram_fault segment_at
    end_line cycle fetch rename retire event_text events_text row_text rows_text trace_text
return_without_stack_agrees = agrees return_without_stack (record { version = 2; numbers = 2 ∷ 2 ∷ 16 ∷ 8 ∷ 4 ∷ 4 ∷ 8 ∷ 2 ∷ 3 ∷ 16 ∷ 4 ∷ 2 ∷ 2 ∷ 16 ∷ 2 ∷ 10 ∷ 2 ∷ 65536 ∷ 65536 ∷ 0 ∷ 0 ∷ 0 ∷ 0 ∷ 0 ∷ 1 ∷ 2 ∷ 0 ∷ []; model = Spectre; defence = Stt }) refl refl refl refl refl

run_01_agrees : Agrees run_01
unfolding ones encode scan_numeral digits count_leading_zeros chars is_utf8 skip_from skip_ws decimal_number number
    plain_number underscore_fits unquoted word_len word_value body key_after one_line quoted simple_key special atom
    expression header_key key_equals line lines parse_document skip_bom val along_dots along_header at_key define
    decode zeros description_of document_fault end_fault key_fault keys_fault latency_fault registers_fault
    second_fault sections_fault top_fault half has_magic word header_fault code_of ram_after ram_fault segment_at
    end_line cycle fetch rename retire event_text events_text row_text rows_text trace_text
run_01_agrees = agrees run_01 (record { version = 1; numbers = 4 ∷ 4 ∷ 46 ∷ 15 ∷ 5 ∷ 16 ∷ 16 ∷ 2 ∷ 1 ∷ 4 ∷ 2 ∷ 4 ∷ 1 ∷ 16 ∷ 3 ∷ 6 ∷ 7 ∷ 65536 ∷ 4096 ∷ 0 ∷ 0 ∷ 0 ∷ 0 ∷ 0 ∷ 1 ∷ 2 ∷ 0 ∷ []; model = Futuristic; defence = Stt }) refl refl refl refl refl

run_02_agrees : Agrees run_02
unfolding ones encode scan_numeral digits count_leading_zeros chars is_utf8 skip_from skip_ws decimal_number number
    plain_number underscore_fits unquoted word_len word_value body key_after one_line quoted simple_key special atom
    expression header_key key_equals line lines parse_document skip_bom val along_dots along_header at_key define
    decode zeros description_of document_fault end_fault key_fault keys_fault latency_fault registers_fault
    second_fault sections_fault top_fault half has_magic word header_fault code_of ram_after ram_fault segment_at
    end_line cycle fetch rename retire event_text events_text row_text rows_text trace_text
run_02_agrees = agrees run_02 (record { version = 1; numbers = 2 ∷ 4 ∷ 17 ∷ 32 ∷ 16 ∷ 16 ∷ 7 ∷ 1 ∷ 5 ∷ 8 ∷ 8 ∷ 2 ∷ 8 ∷ 16 ∷ 2 ∷ 11 ∷ 8 ∷ 0 ∷ 4096 ∷ 0 ∷ 0 ∷ 0 ∷ 0 ∷ 0 ∷ 1 ∷ 2 ∷ 0 ∷ []; model = Futuristic; defence = Stt }) refl refl refl refl refl

run_03_agrees : Agrees run_03
unfolding ones encode scan_numeral digits count_leading_zeros chars is_utf8 skip_from skip_ws decimal_number number
    plain_number underscore_fits unquoted word_len word_value body key_after one_line quoted simple_key special atom
    expression header_key key_equals line lines parse_document skip_bom val along_dots along_header at_key define
    decode zeros description_of document_fault end_fault key_fault keys_fault latency_fault registers_fault
    second_fault sections_fault top_fault half has_magic word header_fault code_of ram_after ram_fault segment_at
    end_line cycle fetch rename retire event_text events_text row_text rows_text trace_text
run_03_agrees = agrees run_03 (record { version = 1; numbers = 3 ∷ 2 ∷ 14 ∷ 10 ∷ 1 ∷ 7 ∷ 3 ∷ 1 ∷ 4 ∷ 16 ∷ 4 ∷ 2 ∷ 8 ∷ 64 ∷ 8 ∷ 15 ∷ 3 ∷ 65536 ∷ 4096 ∷ 0 ∷ 0 ∷ 0 ∷ 0 ∷ 0 ∷ 1 ∷ 2 ∷ 0 ∷ []; model = Futuristic; defence = Stt }) refl refl refl refl refl

run_04_agrees : Agrees run_04
unfolding ones encode scan_numeral digits count_leading_zeros chars is_utf8 skip_from skip_ws decimal_number number
    plain_number underscore_fits unquoted word_len word_value body key_after one_line quoted simple_key special atom
    expression header_key key_equals line lines parse_document skip_bom val along_dots along_header at_key define
    decode zeros description_of document_fault end_fault key_fault keys_fault latency_fault registers_fault
    second_fault sections_fault top_fault half has_magic word header_fault code_of ram_after ram_fault segment_at
    end_line cycle fetch rename retire event_text events_text row_text rows_text trace_text
run_04_agrees = agrees run_04 (record { version = 1; numbers = 1 ∷ 2 ∷ 15 ∷ 2 ∷ 6 ∷ 14 ∷ 16 ∷ 4 ∷ 1 ∷ 4 ∷ 2 ∷ 1 ∷ 2 ∷ 4 ∷ 3 ∷ 6 ∷ 1 ∷ 19584 ∷ 4896 ∷ 0 ∷ 0 ∷ 0 ∷ 0 ∷ 0 ∷ 1 ∷ 2 ∷ 0 ∷ []; model = Futuristic; defence = Stt }) refl refl refl refl refl

run_05_agrees : Agrees run_05
unfolding ones encode scan_numeral digits count_leading_zeros chars is_utf8 skip_from skip_ws decimal_number number
    plain_number underscore_fits unquoted word_len word_value body key_after one_line quoted simple_key special atom
    expression header_key key_equals line lines parse_document skip_bom val along_dots along_header at_key define
    decode zeros description_of document_fault end_fault key_fault keys_fault latency_fault registers_fault
    second_fault sections_fault top_fault half has_magic word header_fault code_of ram_after ram_fault segment_at
    end_line cycle fetch rename retire event_text events_text row_text rows_text trace_text
run_05_agrees = agrees run_05 (record { version = 1; numbers = 1 ∷ 1 ∷ 48 ∷ 12 ∷ 3 ∷ 5 ∷ 16 ∷ 1 ∷ 2 ∷ 16 ∷ 64 ∷ 1 ∷ 5 ∷ 4 ∷ 3 ∷ 24 ∷ 4 ∷ 65536 ∷ 4096 ∷ 0 ∷ 0 ∷ 0 ∷ 0 ∷ 0 ∷ 1 ∷ 2 ∷ 0 ∷ []; model = Spectre; defence = Stt }) refl refl refl refl refl

run_06_agrees : Agrees run_06
unfolding ones encode scan_numeral digits count_leading_zeros chars is_utf8 skip_from skip_ws decimal_number number
    plain_number underscore_fits unquoted word_len word_value body key_after one_line quoted simple_key special atom
    expression header_key key_equals line lines parse_document skip_bom val along_dots along_header at_key define
    decode zeros description_of document_fault end_fault key_fault keys_fault latency_fault registers_fault
    second_fault sections_fault top_fault half has_magic word header_fault code_of ram_after ram_fault segment_at
    end_line cycle fetch rename retire event_text events_text row_text rows_text trace_text
run_06_agrees = agrees run_06 (record { version = 1; numbers = 4 ∷ 1 ∷ 17 ∷ 14 ∷ 6 ∷ 4 ∷ 7 ∷ 3 ∷ 3 ∷ 4 ∷ 64 ∷ 2 ∷ 1 ∷ 16 ∷ 8 ∷ 9 ∷ 1 ∷ 24304 ∷ 5888 ∷ 0 ∷ 0 ∷ 0 ∷ 0 ∷ 0 ∷ 1 ∷ 2 ∷ 0 ∷ []; model = Spectre; defence = Stt }) refl refl refl refl refl

run_07_agrees : Agrees run_07
unfolding ones encode scan_numeral digits count_leading_zeros chars is_utf8 skip_from skip_ws decimal_number number
    plain_number underscore_fits unquoted word_len word_value body key_after one_line quoted simple_key special atom
    expression header_key key_equals line lines parse_document skip_bom val along_dots along_header at_key define
    decode zeros description_of document_fault end_fault key_fault keys_fault latency_fault registers_fault
    second_fault sections_fault top_fault half has_magic word header_fault code_of ram_after ram_fault segment_at
    end_line cycle fetch rename retire event_text events_text row_text rows_text trace_text
run_07_agrees = agrees run_07 (record { version = 1; numbers = 2 ∷ 2 ∷ 4 ∷ 2 ∷ 1 ∷ 12 ∷ 1 ∷ 4 ∷ 1 ∷ 8 ∷ 2 ∷ 4 ∷ 8 ∷ 16 ∷ 2 ∷ 18 ∷ 7 ∷ 65536 ∷ 65536 ∷ 0 ∷ 0 ∷ 0 ∷ 0 ∷ 0 ∷ 1 ∷ 2 ∷ 0 ∷ []; model = Futuristic; defence = Stt }) refl refl refl refl refl

run_08_agrees : Agrees run_08
unfolding ones encode scan_numeral digits count_leading_zeros chars is_utf8 skip_from skip_ws decimal_number number
    plain_number underscore_fits unquoted word_len word_value body key_after one_line quoted simple_key special atom
    expression header_key key_equals line lines parse_document skip_bom val along_dots along_header at_key define
    decode zeros description_of document_fault end_fault key_fault keys_fault latency_fault registers_fault
    second_fault sections_fault top_fault half has_magic word header_fault code_of ram_after ram_fault segment_at
    end_line cycle fetch rename retire event_text events_text row_text rows_text trace_text
run_08_agrees = agrees run_08 (record { version = 1; numbers = 1 ∷ 1 ∷ 64 ∷ 6 ∷ 3 ∷ 13 ∷ 7 ∷ 4 ∷ 1 ∷ 16 ∷ 1 ∷ 4 ∷ 1 ∷ 8 ∷ 1 ∷ 200 ∷ 2 ∷ 65536 ∷ 65536 ∷ 0 ∷ 0 ∷ 0 ∷ 0 ∷ 0 ∷ 1 ∷ 2 ∷ 0 ∷ []; model = Futuristic; defence = Stt }) refl refl refl refl refl

run_09_agrees : Agrees run_09
unfolding ones encode scan_numeral digits count_leading_zeros chars is_utf8 skip_from skip_ws decimal_number number
    plain_number underscore_fits unquoted word_len word_value body key_after one_line quoted simple_key special atom
    expression header_key key_equals line lines parse_document skip_bom val along_dots along_header at_key define
    decode zeros description_of document_fault end_fault key_fault keys_fault latency_fault registers_fault
    second_fault sections_fault top_fault half has_magic word header_fault code_of ram_after ram_fault segment_at
    end_line cycle fetch rename retire event_text events_text row_text rows_text trace_text
run_09_agrees = agrees run_09 (record { version = 1; numbers = 2 ∷ 1 ∷ 18 ∷ 2 ∷ 4 ∷ 9 ∷ 5 ∷ 2 ∷ 2 ∷ 8 ∷ 4 ∷ 1 ∷ 7 ∷ 8 ∷ 2 ∷ 3 ∷ 4 ∷ 65536 ∷ 65536 ∷ 0 ∷ 0 ∷ 0 ∷ 0 ∷ 0 ∷ 1 ∷ 2 ∷ 0 ∷ []; model = Futuristic; defence = Stt }) refl refl refl refl refl

run_10_agrees : Agrees run_10
unfolding ones encode scan_numeral digits count_leading_zeros chars is_utf8 skip_from skip_ws decimal_number number
    plain_number underscore_fits unquoted word_len word_value body key_after one_line quoted simple_key special atom
    expression header_key key_equals line lines parse_document skip_bom val along_dots along_header at_key define
    decode zeros description_of document_fault end_fault key_fault keys_fault latency_fault registers_fault
    second_fault sections_fault top_fault half has_magic word header_fault code_of ram_after ram_fault segment_at
    end_line cycle fetch rename retire event_text events_text row_text rows_text trace_text
run_10_agrees = agrees run_10 (record { version = 1; numbers = 1 ∷ 2 ∷ 20 ∷ 12 ∷ 14 ∷ 16 ∷ 4 ∷ 1 ∷ 4 ∷ 1024 ∷ 64 ∷ 1 ∷ 5 ∷ 4 ∷ 2 ∷ 19 ∷ 2 ∷ 65536 ∷ 4096 ∷ 0 ∷ 0 ∷ 0 ∷ 0 ∷ 0 ∷ 1 ∷ 2 ∷ 0 ∷ []; model = Futuristic; defence = Stt }) refl refl refl refl refl

run_11_agrees : Agrees run_11
unfolding ones encode scan_numeral digits count_leading_zeros chars is_utf8 skip_from skip_ws decimal_number number
    plain_number underscore_fits unquoted word_len word_value body key_after one_line quoted simple_key special atom
    expression header_key key_equals line lines parse_document skip_bom val along_dots along_header at_key define
    decode zeros description_of document_fault end_fault key_fault keys_fault latency_fault registers_fault
    second_fault sections_fault top_fault half has_magic word header_fault code_of ram_after ram_fault segment_at
    end_line cycle fetch rename retire event_text events_text row_text rows_text trace_text
run_11_agrees = agrees run_11 (record { version = 1; numbers = 2 ∷ 4 ∷ 42 ∷ 25 ∷ 2 ∷ 4 ∷ 2 ∷ 4 ∷ 3 ∷ 4 ∷ 8 ∷ 1 ∷ 1 ∷ 8 ∷ 2 ∷ 3 ∷ 5 ∷ 65536 ∷ 65536 ∷ 0 ∷ 0 ∷ 0 ∷ 0 ∷ 0 ∷ 1 ∷ 2 ∷ 0 ∷ []; model = Futuristic; defence = Stt }) refl refl refl refl refl

run_12_agrees : Agrees run_12
unfolding ones encode scan_numeral digits count_leading_zeros chars is_utf8 skip_from skip_ws decimal_number number
    plain_number underscore_fits unquoted word_len word_value body key_after one_line quoted simple_key special atom
    expression header_key key_equals line lines parse_document skip_bom val along_dots along_header at_key define
    decode zeros description_of document_fault end_fault key_fault keys_fault latency_fault registers_fault
    second_fault sections_fault top_fault half has_magic word header_fault code_of ram_after ram_fault segment_at
    end_line cycle fetch rename retire event_text events_text row_text rows_text trace_text
run_12_agrees = agrees run_12 (record { version = 1; numbers = 3 ∷ 2 ∷ 64 ∷ 19 ∷ 4 ∷ 4 ∷ 3 ∷ 2 ∷ 2 ∷ 16 ∷ 8 ∷ 8 ∷ 2 ∷ 16 ∷ 5 ∷ 53 ∷ 8 ∷ 0 ∷ 4096 ∷ 0 ∷ 0 ∷ 0 ∷ 0 ∷ 0 ∷ 1 ∷ 2 ∷ 0 ∷ []; model = Spectre; defence = Stt }) refl refl refl refl refl

run_13_agrees : Agrees run_13
unfolding ones encode scan_numeral digits count_leading_zeros chars is_utf8 skip_from skip_ws decimal_number number
    plain_number underscore_fits unquoted word_len word_value body key_after one_line quoted simple_key special atom
    expression header_key key_equals line lines parse_document skip_bom val along_dots along_header at_key define
    decode zeros description_of document_fault end_fault key_fault keys_fault latency_fault registers_fault
    second_fault sections_fault top_fault half has_magic word header_fault code_of ram_after ram_fault segment_at
    end_line cycle fetch rename retire event_text events_text row_text rows_text trace_text
run_13_agrees = agrees run_13 (record { version = 1; numbers = 2 ∷ 4 ∷ 62 ∷ 27 ∷ 4 ∷ 3 ∷ 8 ∷ 1 ∷ 1 ∷ 4 ∷ 2 ∷ 1 ∷ 1 ∷ 16 ∷ 3 ∷ 14 ∷ 8 ∷ 65536 ∷ 4096 ∷ 0 ∷ 0 ∷ 0 ∷ 0 ∷ 0 ∷ 1 ∷ 2 ∷ 0 ∷ []; model = Futuristic; defence = Stt }) refl refl refl refl refl

run_14_agrees : Agrees run_14
unfolding ones encode scan_numeral digits count_leading_zeros chars is_utf8 skip_from skip_ws decimal_number number
    plain_number underscore_fits unquoted word_len word_value body key_after one_line quoted simple_key special atom
    expression header_key key_equals line lines parse_document skip_bom val along_dots along_header at_key define
    decode zeros description_of document_fault end_fault key_fault keys_fault latency_fault registers_fault
    second_fault sections_fault top_fault half has_magic word header_fault code_of ram_after ram_fault segment_at
    end_line cycle fetch rename retire event_text events_text row_text rows_text trace_text
run_14_agrees = agrees run_14 (record { version = 1; numbers = 4 ∷ 1 ∷ 12 ∷ 2 ∷ 5 ∷ 6 ∷ 3 ∷ 1 ∷ 2 ∷ 2 ∷ 4 ∷ 4 ∷ 5 ∷ 4 ∷ 2 ∷ 3 ∷ 3 ∷ 65536 ∷ 4096 ∷ 0 ∷ 0 ∷ 0 ∷ 0 ∷ 0 ∷ 1 ∷ 2 ∷ 0 ∷ []; model = Futuristic; defence = Stt }) refl refl refl refl refl

run_15_agrees : Agrees run_15
unfolding ones encode scan_numeral digits count_leading_zeros chars is_utf8 skip_from skip_ws decimal_number number
    plain_number underscore_fits unquoted word_len word_value body key_after one_line quoted simple_key special atom
    expression header_key key_equals line lines parse_document skip_bom val along_dots along_header at_key define
    decode zeros description_of document_fault end_fault key_fault keys_fault latency_fault registers_fault
    second_fault sections_fault top_fault half has_magic word header_fault code_of ram_after ram_fault segment_at
    end_line cycle fetch rename retire event_text events_text row_text rows_text trace_text
run_15_agrees = agrees run_15 (record { version = 1; numbers = 2 ∷ 1 ∷ 19 ∷ 9 ∷ 11 ∷ 1 ∷ 1 ∷ 2 ∷ 3 ∷ 128 ∷ 2 ∷ 1 ∷ 2 ∷ 16 ∷ 1 ∷ 6 ∷ 2 ∷ 65536 ∷ 4096 ∷ 0 ∷ 0 ∷ 0 ∷ 0 ∷ 0 ∷ 1 ∷ 2 ∷ 0 ∷ []; model = Futuristic; defence = Stt }) refl refl refl refl refl

run_16_agrees : Agrees run_16
unfolding ones encode scan_numeral digits count_leading_zeros chars is_utf8 skip_from skip_ws decimal_number number
    plain_number underscore_fits unquoted word_len word_value body key_after one_line quoted simple_key special atom
    expression header_key key_equals line lines parse_document skip_bom val along_dots along_header at_key define
    decode zeros description_of document_fault end_fault key_fault keys_fault latency_fault registers_fault
    second_fault sections_fault top_fault half has_magic word header_fault code_of ram_after ram_fault segment_at
    end_line cycle fetch rename retire event_text events_text row_text rows_text trace_text
run_16_agrees = agrees run_16 (record { version = 1; numbers = 2 ∷ 2 ∷ 36 ∷ 11 ∷ 16 ∷ 16 ∷ 8 ∷ 4 ∷ 1 ∷ 8 ∷ 2 ∷ 1 ∷ 1 ∷ 8 ∷ 3 ∷ 4 ∷ 4 ∷ 0 ∷ 4096 ∷ 0 ∷ 0 ∷ 0 ∷ 0 ∷ 0 ∷ 1 ∷ 2 ∷ 0 ∷ []; model = Futuristic; defence = Stt }) refl refl refl refl refl

run_17_agrees : Agrees run_17
unfolding ones encode scan_numeral digits count_leading_zeros chars is_utf8 skip_from skip_ws decimal_number number
    plain_number underscore_fits unquoted word_len word_value body key_after one_line quoted simple_key special atom
    expression header_key key_equals line lines parse_document skip_bom val along_dots along_header at_key define
    decode zeros description_of document_fault end_fault key_fault keys_fault latency_fault registers_fault
    second_fault sections_fault top_fault half has_magic word header_fault code_of ram_after ram_fault segment_at
    end_line cycle fetch rename retire event_text events_text row_text rows_text trace_text
run_17_agrees = agrees run_17 (record { version = 1; numbers = 1 ∷ 1 ∷ 63 ∷ 14 ∷ 6 ∷ 16 ∷ 6 ∷ 1 ∷ 2 ∷ 16 ∷ 4 ∷ 1 ∷ 2 ∷ 4 ∷ 6 ∷ 7 ∷ 4 ∷ 65536 ∷ 4096 ∷ 0 ∷ 0 ∷ 0 ∷ 0 ∷ 0 ∷ 1 ∷ 2 ∷ 0 ∷ []; model = Futuristic; defence = Stt }) refl refl refl refl refl

run_18_agrees : Agrees run_18
unfolding ones encode scan_numeral digits count_leading_zeros chars is_utf8 skip_from skip_ws decimal_number number
    plain_number underscore_fits unquoted word_len word_value body key_after one_line quoted simple_key special atom
    expression header_key key_equals line lines parse_document skip_bom val along_dots along_header at_key define
    decode zeros description_of document_fault end_fault key_fault keys_fault latency_fault registers_fault
    second_fault sections_fault top_fault half has_magic word header_fault code_of ram_after ram_fault segment_at
    end_line cycle fetch rename retire event_text events_text row_text rows_text trace_text
run_18_agrees = agrees run_18 (record { version = 1; numbers = 2 ∷ 3 ∷ 23 ∷ 21 ∷ 4 ∷ 1 ∷ 10 ∷ 4 ∷ 7 ∷ 4 ∷ 8 ∷ 64 ∷ 1 ∷ 8 ∷ 1 ∷ 13 ∷ 8 ∷ 65536 ∷ 4096 ∷ 0 ∷ 0 ∷ 0 ∷ 0 ∷ 0 ∷ 1 ∷ 2 ∷ 0 ∷ []; model = Spectre; defence = Stt }) refl refl refl refl refl

run_19_agrees : Agrees run_19
unfolding ones encode scan_numeral digits count_leading_zeros chars is_utf8 skip_from skip_ws decimal_number number
    plain_number underscore_fits unquoted word_len word_value body key_after one_line quoted simple_key special atom
    expression header_key key_equals line lines parse_document skip_bom val along_dots along_header at_key define
    decode zeros description_of document_fault end_fault key_fault keys_fault latency_fault registers_fault
    second_fault sections_fault top_fault half has_magic word header_fault code_of ram_after ram_fault segment_at
    end_line cycle fetch rename retire event_text events_text row_text rows_text trace_text
run_19_agrees = agrees run_19 (record { version = 1; numbers = 4 ∷ 4 ∷ 15 ∷ 32 ∷ 2 ∷ 5 ∷ 8 ∷ 3 ∷ 2 ∷ 2 ∷ 4 ∷ 1 ∷ 1 ∷ 16 ∷ 3 ∷ 9 ∷ 3 ∷ 65536 ∷ 4096 ∷ 0 ∷ 0 ∷ 0 ∷ 0 ∷ 0 ∷ 1 ∷ 2 ∷ 0 ∷ []; model = Futuristic; defence = Stt }) refl refl refl refl refl

run_20_agrees : Agrees run_20
unfolding ones encode scan_numeral digits count_leading_zeros chars is_utf8 skip_from skip_ws decimal_number number
    plain_number underscore_fits unquoted word_len word_value body key_after one_line quoted simple_key special atom
    expression header_key key_equals line lines parse_document skip_bom val along_dots along_header at_key define
    decode zeros description_of document_fault end_fault key_fault keys_fault latency_fault registers_fault
    second_fault sections_fault top_fault half has_magic word header_fault code_of ram_after ram_fault segment_at
    end_line cycle fetch rename retire event_text events_text row_text rows_text trace_text
run_20_agrees = agrees run_20 (record { version = 1; numbers = 3 ∷ 2 ∷ 12 ∷ 32 ∷ 2 ∷ 13 ∷ 6 ∷ 1 ∷ 3 ∷ 4 ∷ 2 ∷ 1 ∷ 8 ∷ 16 ∷ 2 ∷ 23 ∷ 8 ∷ 65536 ∷ 4096 ∷ 0 ∷ 0 ∷ 0 ∷ 0 ∷ 0 ∷ 1 ∷ 2 ∷ 0 ∷ []; model = Spectre; defence = Stt }) refl refl refl refl refl

run_21_agrees : Agrees run_21
unfolding ones encode scan_numeral digits count_leading_zeros chars is_utf8 skip_from skip_ws decimal_number number
    plain_number underscore_fits unquoted word_len word_value body key_after one_line quoted simple_key special atom
    expression header_key key_equals line lines parse_document skip_bom val along_dots along_header at_key define
    decode zeros description_of document_fault end_fault key_fault keys_fault latency_fault registers_fault
    second_fault sections_fault top_fault half has_magic word header_fault code_of ram_after ram_fault segment_at
    end_line cycle fetch rename retire event_text events_text row_text rows_text trace_text
run_21_agrees = agrees run_21 (record { version = 1; numbers = 4 ∷ 4 ∷ 18 ∷ 32 ∷ 7 ∷ 4 ∷ 7 ∷ 1 ∷ 8 ∷ 2 ∷ 4 ∷ 2 ∷ 1 ∷ 8 ∷ 3 ∷ 20 ∷ 3 ∷ 65536 ∷ 4096 ∷ 0 ∷ 0 ∷ 0 ∷ 0 ∷ 0 ∷ 1 ∷ 2 ∷ 0 ∷ []; model = Futuristic; defence = Stt }) refl refl refl refl refl

run_22_agrees : Agrees run_22
unfolding ones encode scan_numeral digits count_leading_zeros chars is_utf8 skip_from skip_ws decimal_number number
    plain_number underscore_fits unquoted word_len word_value body key_after one_line quoted simple_key special atom
    expression header_key key_equals line lines parse_document skip_bom val along_dots along_header at_key define
    decode zeros description_of document_fault end_fault key_fault keys_fault latency_fault registers_fault
    second_fault sections_fault top_fault half has_magic word header_fault code_of ram_after ram_fault segment_at
    end_line cycle fetch rename retire event_text events_text row_text rows_text trace_text
run_22_agrees = agrees run_22 (record { version = 1; numbers = 4 ∷ 2 ∷ 60 ∷ 10 ∷ 1 ∷ 4 ∷ 16 ∷ 1 ∷ 3 ∷ 8 ∷ 1 ∷ 1 ∷ 1 ∷ 16 ∷ 8 ∷ 9 ∷ 3 ∷ 65536 ∷ 65536 ∷ 0 ∷ 0 ∷ 0 ∷ 0 ∷ 0 ∷ 1 ∷ 2 ∷ 0 ∷ []; model = Spectre; defence = Stt }) refl refl refl refl refl

run_23_agrees : Agrees run_23
unfolding ones encode scan_numeral digits count_leading_zeros chars is_utf8 skip_from skip_ws decimal_number number
    plain_number underscore_fits unquoted word_len word_value body key_after one_line quoted simple_key special atom
    expression header_key key_equals line lines parse_document skip_bom val along_dots along_header at_key define
    decode zeros description_of document_fault end_fault key_fault keys_fault latency_fault registers_fault
    second_fault sections_fault top_fault half has_magic word header_fault code_of ram_after ram_fault segment_at
    end_line cycle fetch rename retire event_text events_text row_text rows_text trace_text
run_23_agrees = agrees run_23 (record { version = 1; numbers = 4 ∷ 2 ∷ 33 ∷ 5 ∷ 10 ∷ 12 ∷ 5 ∷ 4 ∷ 2 ∷ 16 ∷ 2 ∷ 256 ∷ 1 ∷ 16 ∷ 3 ∷ 4 ∷ 8 ∷ 4294963200 ∷ 4096 ∷ 0 ∷ 0 ∷ 0 ∷ 0 ∷ 0 ∷ 1 ∷ 2 ∷ 0 ∷ []; model = Spectre; defence = Stt }) refl refl refl refl refl

run_24_agrees : Agrees run_24
unfolding ones encode scan_numeral digits count_leading_zeros chars is_utf8 skip_from skip_ws decimal_number number
    plain_number underscore_fits unquoted word_len word_value body key_after one_line quoted simple_key special atom
    expression header_key key_equals line lines parse_document skip_bom val along_dots along_header at_key define
    decode zeros description_of document_fault end_fault key_fault keys_fault latency_fault registers_fault
    second_fault sections_fault top_fault half has_magic word header_fault code_of ram_after ram_fault segment_at
    end_line cycle fetch rename retire event_text events_text row_text rows_text trace_text
run_24_agrees = agrees run_24 (record { version = 1; numbers = 4 ∷ 1 ∷ 12 ∷ 25 ∷ 6 ∷ 12 ∷ 8 ∷ 3 ∷ 3 ∷ 4 ∷ 256 ∷ 1 ∷ 1 ∷ 4 ∷ 3 ∷ 4 ∷ 2 ∷ 4294963200 ∷ 4096 ∷ 0 ∷ 0 ∷ 0 ∷ 0 ∷ 0 ∷ 1 ∷ 2 ∷ 0 ∷ []; model = Futuristic; defence = Stt }) refl refl refl refl refl

run_25_agrees : Agrees run_25
unfolding ones encode scan_numeral digits count_leading_zeros chars is_utf8 skip_from skip_ws decimal_number number
    plain_number underscore_fits unquoted word_len word_value body key_after one_line quoted simple_key special atom
    expression header_key key_equals line lines parse_document skip_bom val along_dots along_header at_key define
    decode zeros description_of document_fault end_fault key_fault keys_fault latency_fault registers_fault
    second_fault sections_fault top_fault half has_magic word header_fault code_of ram_after ram_fault segment_at
    end_line cycle fetch rename retire event_text events_text row_text rows_text trace_text
run_25_agrees = agrees run_25 (record { version = 1; numbers = 4 ∷ 1 ∷ 8 ∷ 6 ∷ 8 ∷ 3 ∷ 4 ∷ 1 ∷ 2 ∷ 8 ∷ 4 ∷ 1 ∷ 1 ∷ 8 ∷ 4 ∷ 16 ∷ 8 ∷ 0 ∷ 4096 ∷ 0 ∷ 0 ∷ 0 ∷ 0 ∷ 0 ∷ 1 ∷ 2 ∷ 0 ∷ []; model = Futuristic; defence = Stt }) refl refl refl refl refl

run_26_agrees : Agrees run_26
unfolding ones encode scan_numeral digits count_leading_zeros chars is_utf8 skip_from skip_ws decimal_number number
    plain_number underscore_fits unquoted word_len word_value body key_after one_line quoted simple_key special atom
    expression header_key key_equals line lines parse_document skip_bom val along_dots along_header at_key define
    decode zeros description_of document_fault end_fault key_fault keys_fault latency_fault registers_fault
    second_fault sections_fault top_fault half has_magic word header_fault code_of ram_after ram_fault segment_at
    end_line cycle fetch rename retire event_text events_text row_text rows_text trace_text
run_26_agrees = agrees run_26 (record { version = 1; numbers = 2 ∷ 3 ∷ 23 ∷ 26 ∷ 2 ∷ 1 ∷ 7 ∷ 1 ∷ 4 ∷ 8 ∷ 8 ∷ 1 ∷ 8 ∷ 16 ∷ 8 ∷ 9 ∷ 4 ∷ 65536 ∷ 4096 ∷ 0 ∷ 0 ∷ 0 ∷ 0 ∷ 0 ∷ 1 ∷ 2 ∷ 0 ∷ []; model = Spectre; defence = Stt }) refl refl refl refl refl

run_27_agrees : Agrees run_27
unfolding ones encode scan_numeral digits count_leading_zeros chars is_utf8 skip_from skip_ws decimal_number number
    plain_number underscore_fits unquoted word_len word_value body key_after one_line quoted simple_key special atom
    expression header_key key_equals line lines parse_document skip_bom val along_dots along_header at_key define
    decode zeros description_of document_fault end_fault key_fault keys_fault latency_fault registers_fault
    second_fault sections_fault top_fault half has_magic word header_fault code_of ram_after ram_fault segment_at
    end_line cycle fetch rename retire event_text events_text row_text rows_text trace_text
run_27_agrees = agrees run_27 (record { version = 1; numbers = 2 ∷ 3 ∷ 21 ∷ 32 ∷ 4 ∷ 5 ∷ 3 ∷ 2 ∷ 5 ∷ 2 ∷ 16 ∷ 4 ∷ 1 ∷ 4 ∷ 1 ∷ 110 ∷ 5 ∷ 65536 ∷ 4096 ∷ 0 ∷ 0 ∷ 0 ∷ 0 ∷ 0 ∷ 1 ∷ 2 ∷ 0 ∷ []; model = Spectre; defence = Stt }) refl refl refl refl refl

run_28_agrees : Agrees run_28
unfolding ones encode scan_numeral digits count_leading_zeros chars is_utf8 skip_from skip_ws decimal_number number
    plain_number underscore_fits unquoted word_len word_value body key_after one_line quoted simple_key special atom
    expression header_key key_equals line lines parse_document skip_bom val along_dots along_header at_key define
    decode zeros description_of document_fault end_fault key_fault keys_fault latency_fault registers_fault
    second_fault sections_fault top_fault half has_magic word header_fault code_of ram_after ram_fault segment_at
    end_line cycle fetch rename retire event_text events_text row_text rows_text trace_text
run_28_agrees = agrees run_28 (record { version = 1; numbers = 2 ∷ 2 ∷ 15 ∷ 14 ∷ 1 ∷ 5 ∷ 16 ∷ 3 ∷ 3 ∷ 8 ∷ 4 ∷ 2 ∷ 2 ∷ 32 ∷ 3 ∷ 13 ∷ 4 ∷ 65536 ∷ 65536 ∷ 0 ∷ 0 ∷ 0 ∷ 0 ∷ 0 ∷ 1 ∷ 2 ∷ 0 ∷ []; model = Futuristic; defence = Stt }) refl refl refl refl refl

run_29_agrees : Agrees run_29
unfolding ones encode scan_numeral digits count_leading_zeros chars is_utf8 skip_from skip_ws decimal_number number
    plain_number underscore_fits unquoted word_len word_value body key_after one_line quoted simple_key special atom
    expression header_key key_equals line lines parse_document skip_bom val along_dots along_header at_key define
    decode zeros description_of document_fault end_fault key_fault keys_fault latency_fault registers_fault
    second_fault sections_fault top_fault half has_magic word header_fault code_of ram_after ram_fault segment_at
    end_line cycle fetch rename retire event_text events_text row_text rows_text trace_text
run_29_agrees = agrees run_29 (record { version = 1; numbers = 3 ∷ 1 ∷ 49 ∷ 2 ∷ 1 ∷ 13 ∷ 5 ∷ 1 ∷ 8 ∷ 4 ∷ 32 ∷ 1 ∷ 7 ∷ 8 ∷ 8 ∷ 9 ∷ 2 ∷ 65536 ∷ 4096 ∷ 0 ∷ 0 ∷ 0 ∷ 0 ∷ 0 ∷ 1 ∷ 2 ∷ 0 ∷ []; model = Futuristic; defence = Stt }) refl refl refl refl refl

run_30_agrees : Agrees run_30
unfolding ones encode scan_numeral digits count_leading_zeros chars is_utf8 skip_from skip_ws decimal_number number
    plain_number underscore_fits unquoted word_len word_value body key_after one_line quoted simple_key special atom
    expression header_key key_equals line lines parse_document skip_bom val along_dots along_header at_key define
    decode zeros description_of document_fault end_fault key_fault keys_fault latency_fault registers_fault
    second_fault sections_fault top_fault half has_magic word header_fault code_of ram_after ram_fault segment_at
    end_line cycle fetch rename retire event_text events_text row_text rows_text trace_text
run_30_agrees = agrees run_30 (record { version = 1; numbers = 4 ∷ 4 ∷ 12 ∷ 32 ∷ 5 ∷ 6 ∷ 1 ∷ 2 ∷ 1 ∷ 2 ∷ 2 ∷ 1 ∷ 2 ∷ 16 ∷ 2 ∷ 3 ∷ 3 ∷ 0 ∷ 4096 ∷ 0 ∷ 0 ∷ 0 ∷ 0 ∷ 0 ∷ 1 ∷ 2 ∷ 0 ∷ []; model = Spectre; defence = Stt }) refl refl refl refl refl

run_31_agrees : Agrees run_31
unfolding ones encode scan_numeral digits count_leading_zeros chars is_utf8 skip_from skip_ws decimal_number number
    plain_number underscore_fits unquoted word_len word_value body key_after one_line quoted simple_key special atom
    expression header_key key_equals line lines parse_document skip_bom val along_dots along_header at_key define
    decode zeros description_of document_fault end_fault key_fault keys_fault latency_fault registers_fault
    second_fault sections_fault top_fault half has_magic word header_fault code_of ram_after ram_fault segment_at
    end_line cycle fetch rename retire event_text events_text row_text rows_text trace_text
run_31_agrees = agrees run_31 (record { version = 1; numbers = 1 ∷ 2 ∷ 53 ∷ 10 ∷ 3 ∷ 5 ∷ 2 ∷ 3 ∷ 1 ∷ 4 ∷ 8 ∷ 1 ∷ 2 ∷ 16 ∷ 1 ∷ 14 ∷ 3 ∷ 65536 ∷ 4096 ∷ 0 ∷ 0 ∷ 0 ∷ 0 ∷ 0 ∷ 1 ∷ 2 ∷ 0 ∷ []; model = Spectre; defence = Stt }) refl refl refl refl refl

run_32_agrees : Agrees run_32
unfolding ones encode scan_numeral digits count_leading_zeros chars is_utf8 skip_from skip_ws decimal_number number
    plain_number underscore_fits unquoted word_len word_value body key_after one_line quoted simple_key special atom
    expression header_key key_equals line lines parse_document skip_bom val along_dots along_header at_key define
    decode zeros description_of document_fault end_fault key_fault keys_fault latency_fault registers_fault
    second_fault sections_fault top_fault half has_magic word header_fault code_of ram_after ram_fault segment_at
    end_line cycle fetch rename retire event_text events_text row_text rows_text trace_text
run_32_agrees = agrees run_32 (record { version = 1; numbers = 2 ∷ 2 ∷ 16 ∷ 32 ∷ 1 ∷ 10 ∷ 2 ∷ 1 ∷ 2 ∷ 2 ∷ 8 ∷ 1 ∷ 2 ∷ 16 ∷ 3 ∷ 18 ∷ 3 ∷ 4294963200 ∷ 4096 ∷ 0 ∷ 0 ∷ 0 ∷ 0 ∷ 0 ∷ 1 ∷ 2 ∷ 0 ∷ []; model = Spectre; defence = Stt }) refl refl refl refl refl

run_33_agrees : Agrees run_33
unfolding ones encode scan_numeral digits count_leading_zeros chars is_utf8 skip_from skip_ws decimal_number number
    plain_number underscore_fits unquoted word_len word_value body key_after one_line quoted simple_key special atom
    expression header_key key_equals line lines parse_document skip_bom val along_dots along_header at_key define
    decode zeros description_of document_fault end_fault key_fault keys_fault latency_fault registers_fault
    second_fault sections_fault top_fault half has_magic word header_fault code_of ram_after ram_fault segment_at
    end_line cycle fetch rename retire event_text events_text row_text rows_text trace_text
run_33_agrees = agrees run_33 (record { version = 1; numbers = 2 ∷ 3 ∷ 32 ∷ 4 ∷ 8 ∷ 11 ∷ 4 ∷ 3 ∷ 2 ∷ 8 ∷ 2 ∷ 4 ∷ 3 ∷ 8 ∷ 3 ∷ 4 ∷ 3 ∷ 79728 ∷ 4400 ∷ 0 ∷ 0 ∷ 0 ∷ 0 ∷ 0 ∷ 1 ∷ 2 ∷ 0 ∷ []; model = Futuristic; defence = Stt }) refl refl refl refl refl

run_34_agrees : Agrees run_34
unfolding ones encode scan_numeral digits count_leading_zeros chars is_utf8 skip_from skip_ws decimal_number number
    plain_number underscore_fits unquoted word_len word_value body key_after one_line quoted simple_key special atom
    expression header_key key_equals line lines parse_document skip_bom val along_dots along_header at_key define
    decode zeros description_of document_fault end_fault key_fault keys_fault latency_fault registers_fault
    second_fault sections_fault top_fault half has_magic word header_fault code_of ram_after ram_fault segment_at
    end_line cycle fetch rename retire event_text events_text row_text rows_text trace_text
run_34_agrees = agrees run_34 (record { version = 1; numbers = 2 ∷ 3 ∷ 18 ∷ 16 ∷ 1 ∷ 1 ∷ 1 ∷ 1 ∷ 4 ∷ 8 ∷ 1 ∷ 1 ∷ 5 ∷ 32 ∷ 5 ∷ 6 ∷ 8 ∷ 0 ∷ 4096 ∷ 0 ∷ 0 ∷ 0 ∷ 0 ∷ 0 ∷ 1 ∷ 2 ∷ 0 ∷ []; model = Spectre; defence = Stt }) refl refl refl refl refl

run_35_agrees : Agrees run_35
unfolding ones encode scan_numeral digits count_leading_zeros chars is_utf8 skip_from skip_ws decimal_number number
    plain_number underscore_fits unquoted word_len word_value body key_after one_line quoted simple_key special atom
    expression header_key key_equals line lines parse_document skip_bom val along_dots along_header at_key define
    decode zeros description_of document_fault end_fault key_fault keys_fault latency_fault registers_fault
    second_fault sections_fault top_fault half has_magic word header_fault code_of ram_after ram_fault segment_at
    end_line cycle fetch rename retire event_text events_text row_text rows_text trace_text
run_35_agrees = agrees run_35 (record { version = 1; numbers = 4 ∷ 4 ∷ 64 ∷ 6 ∷ 1 ∷ 8 ∷ 1 ∷ 1 ∷ 3 ∷ 64 ∷ 1 ∷ 2 ∷ 2 ∷ 16 ∷ 3 ∷ 9 ∷ 3 ∷ 65536 ∷ 4096 ∷ 0 ∷ 0 ∷ 0 ∷ 0 ∷ 0 ∷ 1 ∷ 2 ∷ 0 ∷ []; model = Spectre; defence = Stt }) refl refl refl refl refl

run_36_agrees : Agrees run_36
unfolding ones encode scan_numeral digits count_leading_zeros chars is_utf8 skip_from skip_ws decimal_number number
    plain_number underscore_fits unquoted word_len word_value body key_after one_line quoted simple_key special atom
    expression header_key key_equals line lines parse_document skip_bom val along_dots along_header at_key define
    decode zeros description_of document_fault end_fault key_fault keys_fault latency_fault registers_fault
    second_fault sections_fault top_fault half has_magic word header_fault code_of ram_after ram_fault segment_at
    end_line cycle fetch rename retire event_text events_text row_text rows_text trace_text
run_36_agrees = agrees run_36 (record { version = 1; numbers = 2 ∷ 2 ∷ 7 ∷ 14 ∷ 4 ∷ 16 ∷ 10 ∷ 3 ∷ 2 ∷ 64 ∷ 8 ∷ 1 ∷ 2 ∷ 4 ∷ 6 ∷ 32 ∷ 1 ∷ 65536 ∷ 4096 ∷ 0 ∷ 0 ∷ 0 ∷ 0 ∷ 0 ∷ 1 ∷ 2 ∷ 0 ∷ []; model = Futuristic; defence = Stt }) refl refl refl refl refl

run_37_agrees : Agrees run_37
unfolding ones encode scan_numeral digits count_leading_zeros chars is_utf8 skip_from skip_ws decimal_number number
    plain_number underscore_fits unquoted word_len word_value body key_after one_line quoted simple_key special atom
    expression header_key key_equals line lines parse_document skip_bom val along_dots along_header at_key define
    decode zeros description_of document_fault end_fault key_fault keys_fault latency_fault registers_fault
    second_fault sections_fault top_fault half has_magic word header_fault code_of ram_after ram_fault segment_at
    end_line cycle fetch rename retire event_text events_text row_text rows_text trace_text
run_37_agrees = agrees run_37 (record { version = 1; numbers = 4 ∷ 4 ∷ 21 ∷ 22 ∷ 3 ∷ 1 ∷ 6 ∷ 2 ∷ 4 ∷ 4 ∷ 1 ∷ 2 ∷ 3 ∷ 32 ∷ 2 ∷ 96 ∷ 1 ∷ 36320 ∷ 7936 ∷ 0 ∷ 0 ∷ 0 ∷ 0 ∷ 0 ∷ 1 ∷ 2 ∷ 0 ∷ []; model = Futuristic; defence = Stt }) refl refl refl refl refl

run_38_agrees : Agrees run_38
unfolding ones encode scan_numeral digits count_leading_zeros chars is_utf8 skip_from skip_ws decimal_number number
    plain_number underscore_fits unquoted word_len word_value body key_after one_line quoted simple_key special atom
    expression header_key key_equals line lines parse_document skip_bom val along_dots along_header at_key define
    decode zeros description_of document_fault end_fault key_fault keys_fault latency_fault registers_fault
    second_fault sections_fault top_fault half has_magic word header_fault code_of ram_after ram_fault segment_at
    end_line cycle fetch rename retire event_text events_text row_text rows_text trace_text
run_38_agrees = agrees run_38 (record { version = 1; numbers = 2 ∷ 1 ∷ 15 ∷ 8 ∷ 16 ∷ 2 ∷ 2 ∷ 1 ∷ 1 ∷ 4 ∷ 8 ∷ 2 ∷ 1 ∷ 8 ∷ 1 ∷ 35 ∷ 3 ∷ 0 ∷ 4096 ∷ 0 ∷ 0 ∷ 0 ∷ 0 ∷ 0 ∷ 1 ∷ 2 ∷ 0 ∷ []; model = Futuristic; defence = Stt }) refl refl refl refl refl

second_filled_at_fill_agrees : Agrees second_filled_at_fill
unfolding ones encode scan_numeral digits count_leading_zeros chars is_utf8 skip_from skip_ws decimal_number number
    plain_number underscore_fits unquoted word_len word_value body key_after one_line quoted simple_key special atom
    expression header_key key_equals line lines parse_document skip_bom val along_dots along_header at_key define
    decode zeros description_of document_fault end_fault key_fault keys_fault latency_fault registers_fault
    second_fault sections_fault top_fault half has_magic word header_fault code_of ram_after ram_fault segment_at
    end_line cycle fetch rename retire event_text events_text row_text rows_text trace_text
second_filled_at_fill_agrees = agrees second_filled_at_fill (record { version = 2; numbers = 2 ∷ 2 ∷ 16 ∷ 8 ∷ 4 ∷ 4 ∷ 8 ∷ 2 ∷ 3 ∷ 16 ∷ 4 ∷ 1 ∷ 1 ∷ 16 ∷ 2 ∷ 10 ∷ 2 ∷ 65536 ∷ 65536 ∷ 0 ∷ 0 ∷ 0 ∷ 0 ∷ 1 ∷ 2 ∷ 5 ∷ 0 ∷ []; model = Spectre; defence = Stt }) refl refl refl refl refl

second_moved_at_once_agrees : Agrees second_moved_at_once
unfolding ones encode scan_numeral digits count_leading_zeros chars is_utf8 skip_from skip_ws decimal_number number
    plain_number underscore_fits unquoted word_len word_value body key_after one_line quoted simple_key special atom
    expression header_key key_equals line lines parse_document skip_bom val along_dots along_header at_key define
    decode zeros description_of document_fault end_fault key_fault keys_fault latency_fault registers_fault
    second_fault sections_fault top_fault half has_magic word header_fault code_of ram_after ram_fault segment_at
    end_line cycle fetch rename retire event_text events_text row_text rows_text trace_text
second_moved_at_once_agrees = agrees second_moved_at_once (record { version = 2; numbers = 2 ∷ 2 ∷ 16 ∷ 8 ∷ 4 ∷ 4 ∷ 8 ∷ 2 ∷ 3 ∷ 16 ∷ 4 ∷ 1 ∷ 1 ∷ 16 ∷ 2 ∷ 10 ∷ 2 ∷ 65536 ∷ 65536 ∷ 0 ∷ 0 ∷ 0 ∷ 0 ∷ 1 ∷ 2 ∷ 9 ∷ 0 ∷ []; model = Spectre; defence = Stt }) refl refl refl refl refl

sets_of_second_agrees : Agrees sets_of_second
unfolding ones encode scan_numeral digits count_leading_zeros chars is_utf8 skip_from skip_ws decimal_number number
    plain_number underscore_fits unquoted word_len word_value body key_after one_line quoted simple_key special atom
    expression header_key key_equals line lines parse_document skip_bom val along_dots along_header at_key define
    decode zeros description_of document_fault end_fault key_fault keys_fault latency_fault registers_fault
    second_fault sections_fault top_fault half has_magic word header_fault code_of ram_after ram_fault segment_at
    end_line cycle fetch rename retire event_text events_text row_text rows_text trace_text
sets_of_second_agrees = agrees sets_of_second (record { version = 2; numbers = 2 ∷ 2 ∷ 16 ∷ 8 ∷ 4 ∷ 4 ∷ 8 ∷ 2 ∷ 3 ∷ 16 ∷ 4 ∷ 1 ∷ 1 ∷ 16 ∷ 2 ∷ 10 ∷ 2 ∷ 65536 ∷ 65536 ∷ 0 ∷ 0 ∷ 0 ∷ 0 ∷ 2 ∷ 1 ∷ 5 ∷ 0 ∷ []; model = Spectre; defence = Stt }) refl refl refl refl refl

seven_digits_of_history_agrees : Agrees seven_digits_of_history
unfolding ones encode scan_numeral digits count_leading_zeros chars is_utf8 skip_from skip_ws decimal_number number
    plain_number underscore_fits unquoted word_len word_value body key_after one_line quoted simple_key special atom
    expression header_key key_equals line lines parse_document skip_bom val along_dots along_header at_key define
    decode zeros description_of document_fault end_fault key_fault keys_fault latency_fault registers_fault
    second_fault sections_fault top_fault half has_magic word header_fault code_of ram_after ram_fault segment_at
    end_line cycle fetch rename retire event_text events_text row_text rows_text trace_text
seven_digits_of_history_agrees = agrees seven_digits_of_history (record { version = 2; numbers = 2 ∷ 2 ∷ 16 ∷ 8 ∷ 4 ∷ 4 ∷ 8 ∷ 2 ∷ 3 ∷ 128 ∷ 4 ∷ 2 ∷ 2 ∷ 16 ∷ 2 ∷ 10 ∷ 2 ∷ 65536 ∷ 65536 ∷ 0 ∷ 0 ∷ 7 ∷ 0 ∷ 0 ∷ 1 ∷ 2 ∷ 0 ∷ []; model = Spectre; defence = Stt }) refl refl refl refl refl

short_history_agrees : Agrees short_history
unfolding ones encode scan_numeral digits count_leading_zeros chars is_utf8 skip_from skip_ws decimal_number number
    plain_number underscore_fits unquoted word_len word_value body key_after one_line quoted simple_key special atom
    expression header_key key_equals line lines parse_document skip_bom val along_dots along_header at_key define
    decode zeros description_of document_fault end_fault key_fault keys_fault latency_fault registers_fault
    second_fault sections_fault top_fault half has_magic word header_fault code_of ram_after ram_fault segment_at
    end_line cycle fetch rename retire event_text events_text row_text rows_text trace_text
short_history_agrees = agrees short_history (record { version = 2; numbers = 2 ∷ 2 ∷ 16 ∷ 8 ∷ 4 ∷ 4 ∷ 8 ∷ 2 ∷ 3 ∷ 16 ∷ 4 ∷ 2 ∷ 2 ∷ 16 ∷ 2 ∷ 10 ∷ 2 ∷ 65536 ∷ 65536 ∷ 0 ∷ 0 ∷ 1 ∷ 0 ∷ 0 ∷ 1 ∷ 2 ∷ 0 ∷ []; model = Spectre; defence = Stt }) refl refl refl refl refl

sixteen_bits_agrees : Agrees sixteen_bits
unfolding ones encode scan_numeral digits count_leading_zeros chars is_utf8 skip_from skip_ws decimal_number number
    plain_number underscore_fits unquoted word_len word_value body key_after one_line quoted simple_key special atom
    expression header_key key_equals line lines parse_document skip_bom val along_dots along_header at_key define
    decode zeros description_of document_fault end_fault key_fault keys_fault latency_fault registers_fault
    second_fault sections_fault top_fault half has_magic word header_fault code_of ram_after ram_fault segment_at
    end_line cycle fetch rename retire event_text events_text row_text rows_text trace_text
sixteen_bits_agrees = agrees sixteen_bits (record { version = 2; numbers = 4 ∷ 2 ∷ 16 ∷ 8 ∷ 4 ∷ 4 ∷ 8 ∷ 2 ∷ 3 ∷ 16 ∷ 4 ∷ 2 ∷ 2 ∷ 16 ∷ 2 ∷ 10 ∷ 2 ∷ 65536 ∷ 65536 ∷ 0 ∷ 16 ∷ 0 ∷ 0 ∷ 0 ∷ 1 ∷ 2 ∷ 0 ∷ []; model = Spectre; defence = Stt }) refl refl refl refl refl

squash_by_history_agrees : Agrees squash_by_history
unfolding ones encode scan_numeral digits count_leading_zeros chars is_utf8 skip_from skip_ws decimal_number number
    plain_number underscore_fits unquoted word_len word_value body key_after one_line quoted simple_key special atom
    expression header_key key_equals line lines parse_document skip_bom val along_dots along_header at_key define
    decode zeros description_of document_fault end_fault key_fault keys_fault latency_fault registers_fault
    second_fault sections_fault top_fault half has_magic word header_fault code_of ram_after ram_fault segment_at
    end_line cycle fetch rename retire event_text events_text row_text rows_text trace_text
squash_by_history_agrees = agrees squash_by_history (record { version = 2; numbers = 2 ∷ 2 ∷ 16 ∷ 8 ∷ 4 ∷ 4 ∷ 8 ∷ 2 ∷ 3 ∷ 16 ∷ 4 ∷ 2 ∷ 2 ∷ 16 ∷ 2 ∷ 10 ∷ 2 ∷ 65536 ∷ 65536 ∷ 0 ∷ 0 ∷ 2 ∷ 0 ∷ 0 ∷ 1 ∷ 2 ∷ 0 ∷ []; model = Spectre; defence = Stt }) refl refl refl refl refl

stack_behind_a_squash_agrees : Agrees stack_behind_a_squash
unfolding ones encode scan_numeral digits count_leading_zeros chars is_utf8 skip_from skip_ws decimal_number number
    plain_number underscore_fits unquoted word_len word_value body key_after one_line quoted simple_key special atom
    expression header_key key_equals line lines parse_document skip_bom val along_dots along_header at_key define
    decode zeros description_of document_fault end_fault key_fault keys_fault latency_fault registers_fault
    second_fault sections_fault top_fault half has_magic word header_fault code_of ram_after ram_fault segment_at
    end_line cycle fetch rename retire event_text events_text row_text rows_text trace_text
stack_behind_a_squash_agrees = agrees stack_behind_a_squash (record { version = 2; numbers = 2 ∷ 2 ∷ 16 ∷ 8 ∷ 4 ∷ 4 ∷ 8 ∷ 2 ∷ 3 ∷ 16 ∷ 4 ∷ 2 ∷ 2 ∷ 16 ∷ 2 ∷ 10 ∷ 2 ∷ 65536 ∷ 65536 ∷ 0 ∷ 0 ∷ 0 ∷ 4 ∷ 0 ∷ 1 ∷ 2 ∷ 0 ∷ []; model = Spectre; defence = Stt }) refl refl refl refl refl

store_behind_load_agrees : Agrees store_behind_load
unfolding ones encode scan_numeral digits count_leading_zeros chars is_utf8 skip_from skip_ws decimal_number number
    plain_number underscore_fits unquoted word_len word_value body key_after one_line quoted simple_key special atom
    expression header_key key_equals line lines parse_document skip_bom val along_dots along_header at_key define
    decode zeros description_of document_fault end_fault key_fault keys_fault latency_fault registers_fault
    second_fault sections_fault top_fault half has_magic word header_fault code_of ram_after ram_fault segment_at
    end_line cycle fetch rename retire event_text events_text row_text rows_text trace_text
store_behind_load_agrees = agrees store_behind_load (record { version = 2; numbers = 2 ∷ 2 ∷ 16 ∷ 8 ∷ 4 ∷ 4 ∷ 8 ∷ 2 ∷ 3 ∷ 16 ∷ 4 ∷ 2 ∷ 2 ∷ 16 ∷ 2 ∷ 10 ∷ 2 ∷ 65536 ∷ 65536 ∷ 0 ∷ 0 ∷ 0 ∷ 0 ∷ 0 ∷ 1 ∷ 2 ∷ 0 ∷ []; model = Spectre; defence = Stt }) refl refl refl refl refl

store_moves_both_lines_agrees : Agrees store_moves_both_lines
unfolding ones encode scan_numeral digits count_leading_zeros chars is_utf8 skip_from skip_ws decimal_number number
    plain_number underscore_fits unquoted word_len word_value body key_after one_line quoted simple_key special atom
    expression header_key key_equals line lines parse_document skip_bom val along_dots along_header at_key define
    decode zeros description_of document_fault end_fault key_fault keys_fault latency_fault registers_fault
    second_fault sections_fault top_fault half has_magic word header_fault code_of ram_after ram_fault segment_at
    end_line cycle fetch rename retire event_text events_text row_text rows_text trace_text
store_moves_both_lines_agrees = agrees store_moves_both_lines (record { version = 2; numbers = 2 ∷ 2 ∷ 16 ∷ 8 ∷ 4 ∷ 4 ∷ 8 ∷ 2 ∷ 3 ∷ 16 ∷ 4 ∷ 1 ∷ 3 ∷ 16 ∷ 2 ∷ 10 ∷ 2 ∷ 65536 ∷ 65536 ∷ 1 ∷ 0 ∷ 0 ∷ 0 ∷ 0 ∷ 1 ∷ 2 ∷ 0 ∷ []; model = Spectre; defence = Stt }) refl refl refl refl refl

store_moves_the_line_that_hits_agrees : Agrees store_moves_the_line_that_hits
unfolding ones encode scan_numeral digits count_leading_zeros chars is_utf8 skip_from skip_ws decimal_number number
    plain_number underscore_fits unquoted word_len word_value body key_after one_line quoted simple_key special atom
    expression header_key key_equals line lines parse_document skip_bom val along_dots along_header at_key define
    decode zeros description_of document_fault end_fault key_fault keys_fault latency_fault registers_fault
    second_fault sections_fault top_fault half has_magic word header_fault code_of ram_after ram_fault segment_at
    end_line cycle fetch rename retire event_text events_text row_text rows_text trace_text
store_moves_the_line_that_hits_agrees = agrees store_moves_the_line_that_hits (record { version = 2; numbers = 2 ∷ 2 ∷ 16 ∷ 8 ∷ 4 ∷ 4 ∷ 8 ∷ 2 ∷ 3 ∷ 16 ∷ 4 ∷ 1 ∷ 2 ∷ 16 ∷ 2 ∷ 10 ∷ 2 ∷ 65536 ∷ 65536 ∷ 1 ∷ 0 ∷ 0 ∷ 0 ∷ 0 ∷ 1 ∷ 2 ∷ 0 ∷ []; model = Spectre; defence = Stt }) refl refl refl refl refl

store_moves_the_lower_line_agrees : Agrees store_moves_the_lower_line
unfolding ones encode scan_numeral digits count_leading_zeros chars is_utf8 skip_from skip_ws decimal_number number
    plain_number underscore_fits unquoted word_len word_value body key_after one_line quoted simple_key special atom
    expression header_key key_equals line lines parse_document skip_bom val along_dots along_header at_key define
    decode zeros description_of document_fault end_fault key_fault keys_fault latency_fault registers_fault
    second_fault sections_fault top_fault half has_magic word header_fault code_of ram_after ram_fault segment_at
    end_line cycle fetch rename retire event_text events_text row_text rows_text trace_text
store_moves_the_lower_line_agrees = agrees store_moves_the_lower_line (record { version = 2; numbers = 2 ∷ 2 ∷ 16 ∷ 8 ∷ 4 ∷ 4 ∷ 8 ∷ 2 ∷ 3 ∷ 16 ∷ 4 ∷ 1 ∷ 3 ∷ 16 ∷ 2 ∷ 10 ∷ 2 ∷ 65536 ∷ 65536 ∷ 1 ∷ 0 ∷ 0 ∷ 0 ∷ 0 ∷ 1 ∷ 2 ∷ 0 ∷ []; model = Spectre; defence = Stt }) refl refl refl refl refl

store_passes_second_agrees : Agrees store_passes_second
unfolding ones encode scan_numeral digits count_leading_zeros chars is_utf8 skip_from skip_ws decimal_number number
    plain_number underscore_fits unquoted word_len word_value body key_after one_line quoted simple_key special atom
    expression header_key key_equals line lines parse_document skip_bom val along_dots along_header at_key define
    decode zeros description_of document_fault end_fault key_fault keys_fault latency_fault registers_fault
    second_fault sections_fault top_fault half has_magic word header_fault code_of ram_after ram_fault segment_at
    end_line cycle fetch rename retire event_text events_text row_text rows_text trace_text
store_passes_second_agrees = agrees store_passes_second (record { version = 2; numbers = 2 ∷ 2 ∷ 16 ∷ 8 ∷ 4 ∷ 4 ∷ 8 ∷ 2 ∷ 3 ∷ 16 ∷ 4 ∷ 1 ∷ 1 ∷ 16 ∷ 2 ∷ 10 ∷ 2 ∷ 65536 ∷ 65536 ∷ 0 ∷ 0 ∷ 0 ∷ 0 ∷ 1 ∷ 2 ∷ 5 ∷ 0 ∷ []; model = Spectre; defence = Stt }) refl refl refl refl refl

store_reaches_behind_memory_agrees : Agrees store_reaches_behind_memory
unfolding ones encode scan_numeral digits count_leading_zeros chars is_utf8 skip_from skip_ws decimal_number number
    plain_number underscore_fits unquoted word_len word_value body key_after one_line quoted simple_key special atom
    expression header_key key_equals line lines parse_document skip_bom val along_dots along_header at_key define
    decode zeros description_of document_fault end_fault key_fault keys_fault latency_fault registers_fault
    second_fault sections_fault top_fault half has_magic word header_fault code_of ram_after ram_fault segment_at
    end_line cycle fetch rename retire event_text events_text row_text rows_text trace_text
store_reaches_behind_memory_agrees = agrees store_reaches_behind_memory (record { version = 2; numbers = 2 ∷ 2 ∷ 16 ∷ 8 ∷ 4 ∷ 4 ∷ 8 ∷ 2 ∷ 3 ∷ 16 ∷ 4 ∷ 2 ∷ 2 ∷ 16 ∷ 2 ∷ 10 ∷ 2 ∷ 65536 ∷ 65536 ∷ 1 ∷ 0 ∷ 0 ∷ 0 ∷ 0 ∷ 1 ∷ 2 ∷ 0 ∷ []; model = Spectre; defence = Stt }) refl refl refl refl refl

store_without_data_shadows_agrees : Agrees store_without_data_shadows
unfolding ones encode scan_numeral digits count_leading_zeros chars is_utf8 skip_from skip_ws decimal_number number
    plain_number underscore_fits unquoted word_len word_value body key_after one_line quoted simple_key special atom
    expression header_key key_equals line lines parse_document skip_bom val along_dots along_header at_key define
    decode zeros description_of document_fault end_fault key_fault keys_fault latency_fault registers_fault
    second_fault sections_fault top_fault half has_magic word header_fault code_of ram_after ram_fault segment_at
    end_line cycle fetch rename retire event_text events_text row_text rows_text trace_text
store_without_data_shadows_agrees = agrees store_without_data_shadows (record { version = 2; numbers = 2 ∷ 2 ∷ 16 ∷ 8 ∷ 4 ∷ 4 ∷ 8 ∷ 2 ∷ 3 ∷ 16 ∷ 4 ∷ 2 ∷ 2 ∷ 16 ∷ 2 ∷ 10 ∷ 2 ∷ 65536 ∷ 65536 ∷ 0 ∷ 0 ∷ 0 ∷ 0 ∷ 0 ∷ 1 ∷ 2 ∷ 0 ∷ []; model = Futuristic; defence = Stt }) refl refl refl refl refl

taint_through_division_agrees : Agrees taint_through_division
unfolding ones encode scan_numeral digits count_leading_zeros chars is_utf8 skip_from skip_ws decimal_number number
    plain_number underscore_fits unquoted word_len word_value body key_after one_line quoted simple_key special atom
    expression header_key key_equals line lines parse_document skip_bom val along_dots along_header at_key define
    decode zeros description_of document_fault end_fault key_fault keys_fault latency_fault registers_fault
    second_fault sections_fault top_fault half has_magic word header_fault code_of ram_after ram_fault segment_at
    end_line cycle fetch rename retire event_text events_text row_text rows_text trace_text
taint_through_division_agrees = agrees taint_through_division (record { version = 2; numbers = 2 ∷ 2 ∷ 16 ∷ 8 ∷ 4 ∷ 4 ∷ 8 ∷ 2 ∷ 3 ∷ 16 ∷ 4 ∷ 2 ∷ 2 ∷ 16 ∷ 2 ∷ 10 ∷ 2 ∷ 65536 ∷ 65536 ∷ 0 ∷ 16 ∷ 0 ∷ 0 ∷ 0 ∷ 1 ∷ 2 ∷ 0 ∷ []; model = Futuristic; defence = Stt }) refl refl refl refl refl

tainted_address_agrees : Agrees tainted_address
unfolding ones encode scan_numeral digits count_leading_zeros chars is_utf8 skip_from skip_ws decimal_number number
    plain_number underscore_fits unquoted word_len word_value body key_after one_line quoted simple_key special atom
    expression header_key key_equals line lines parse_document skip_bom val along_dots along_header at_key define
    decode zeros description_of document_fault end_fault key_fault keys_fault latency_fault registers_fault
    second_fault sections_fault top_fault half has_magic word header_fault code_of ram_after ram_fault segment_at
    end_line cycle fetch rename retire event_text events_text row_text rows_text trace_text
tainted_address_agrees = agrees tainted_address (record { version = 2; numbers = 2 ∷ 2 ∷ 16 ∷ 8 ∷ 4 ∷ 4 ∷ 8 ∷ 2 ∷ 3 ∷ 16 ∷ 4 ∷ 2 ∷ 2 ∷ 16 ∷ 2 ∷ 10 ∷ 2 ∷ 65536 ∷ 65536 ∷ 0 ∷ 0 ∷ 0 ∷ 0 ∷ 0 ∷ 1 ∷ 2 ∷ 0 ∷ []; model = Spectre; defence = Stt }) refl refl refl refl refl

tainted_address_faulting_load_agrees : Agrees tainted_address_faulting_load
unfolding ones encode scan_numeral digits count_leading_zeros chars is_utf8 skip_from skip_ws decimal_number number
    plain_number underscore_fits unquoted word_len word_value body key_after one_line quoted simple_key special atom
    expression header_key key_equals line lines parse_document skip_bom val along_dots along_header at_key define
    decode zeros description_of document_fault end_fault key_fault keys_fault latency_fault registers_fault
    second_fault sections_fault top_fault half has_magic word header_fault code_of ram_after ram_fault segment_at
    end_line cycle fetch rename retire event_text events_text row_text rows_text trace_text
tainted_address_faulting_load_agrees = agrees tainted_address_faulting_load (record { version = 2; numbers = 2 ∷ 2 ∷ 16 ∷ 8 ∷ 4 ∷ 4 ∷ 8 ∷ 2 ∷ 3 ∷ 16 ∷ 4 ∷ 2 ∷ 2 ∷ 16 ∷ 2 ∷ 10 ∷ 2 ∷ 65536 ∷ 65536 ∷ 0 ∷ 0 ∷ 0 ∷ 0 ∷ 0 ∷ 1 ∷ 2 ∷ 0 ∷ []; model = Spectre; defence = Stt }) refl refl refl refl refl

tainted_address_faulting_store_agrees : Agrees tainted_address_faulting_store
unfolding ones encode scan_numeral digits count_leading_zeros chars is_utf8 skip_from skip_ws decimal_number number
    plain_number underscore_fits unquoted word_len word_value body key_after one_line quoted simple_key special atom
    expression header_key key_equals line lines parse_document skip_bom val along_dots along_header at_key define
    decode zeros description_of document_fault end_fault key_fault keys_fault latency_fault registers_fault
    second_fault sections_fault top_fault half has_magic word header_fault code_of ram_after ram_fault segment_at
    end_line cycle fetch rename retire event_text events_text row_text rows_text trace_text
tainted_address_faulting_store_agrees = agrees tainted_address_faulting_store (record { version = 2; numbers = 2 ∷ 2 ∷ 16 ∷ 8 ∷ 4 ∷ 4 ∷ 8 ∷ 2 ∷ 3 ∷ 16 ∷ 4 ∷ 2 ∷ 2 ∷ 16 ∷ 2 ∷ 10 ∷ 2 ∷ 65536 ∷ 65536 ∷ 0 ∷ 0 ∷ 0 ∷ 0 ∷ 0 ∷ 1 ∷ 2 ∷ 0 ∷ []; model = Spectre; defence = Stt }) refl refl refl refl refl

tainted_address_hidden_agrees : Agrees tainted_address_hidden
unfolding ones encode scan_numeral digits count_leading_zeros chars is_utf8 skip_from skip_ws decimal_number number
    plain_number underscore_fits unquoted word_len word_value body key_after one_line quoted simple_key special atom
    expression header_key key_equals line lines parse_document skip_bom val along_dots along_header at_key define
    decode zeros description_of document_fault end_fault key_fault keys_fault latency_fault registers_fault
    second_fault sections_fault top_fault half has_magic word header_fault code_of ram_after ram_fault segment_at
    end_line cycle fetch rename retire event_text events_text row_text rows_text trace_text
tainted_address_hidden_agrees = agrees tainted_address_hidden (record { version = 2; numbers = 2 ∷ 2 ∷ 16 ∷ 8 ∷ 4 ∷ 4 ∷ 8 ∷ 2 ∷ 3 ∷ 16 ∷ 4 ∷ 2 ∷ 2 ∷ 16 ∷ 2 ∷ 10 ∷ 2 ∷ 65536 ∷ 65536 ∷ 0 ∷ 0 ∷ 0 ∷ 0 ∷ 0 ∷ 1 ∷ 2 ∷ 0 ∷ []; model = Spectre; defence = Stt }) refl refl refl refl refl

tainted_data_agrees : Agrees tainted_data
unfolding ones encode scan_numeral digits count_leading_zeros chars is_utf8 skip_from skip_ws decimal_number number
    plain_number underscore_fits unquoted word_len word_value body key_after one_line quoted simple_key special atom
    expression header_key key_equals line lines parse_document skip_bom val along_dots along_header at_key define
    decode zeros description_of document_fault end_fault key_fault keys_fault latency_fault registers_fault
    second_fault sections_fault top_fault half has_magic word header_fault code_of ram_after ram_fault segment_at
    end_line cycle fetch rename retire event_text events_text row_text rows_text trace_text
tainted_data_agrees = agrees tainted_data (record { version = 2; numbers = 2 ∷ 2 ∷ 16 ∷ 8 ∷ 4 ∷ 4 ∷ 8 ∷ 2 ∷ 3 ∷ 16 ∷ 4 ∷ 2 ∷ 2 ∷ 16 ∷ 2 ∷ 10 ∷ 2 ∷ 65536 ∷ 65536 ∷ 0 ∷ 0 ∷ 0 ∷ 0 ∷ 0 ∷ 1 ∷ 2 ∷ 0 ∷ []; model = Spectre; defence = Stt }) refl refl refl refl refl

tainted_data_hides_nothing_agrees : Agrees tainted_data_hides_nothing
unfolding ones encode scan_numeral digits count_leading_zeros chars is_utf8 skip_from skip_ws decimal_number number
    plain_number underscore_fits unquoted word_len word_value body key_after one_line quoted simple_key special atom
    expression header_key key_equals line lines parse_document skip_bom val along_dots along_header at_key define
    decode zeros description_of document_fault end_fault key_fault keys_fault latency_fault registers_fault
    second_fault sections_fault top_fault half has_magic word header_fault code_of ram_after ram_fault segment_at
    end_line cycle fetch rename retire event_text events_text row_text rows_text trace_text
tainted_data_hides_nothing_agrees = agrees tainted_data_hides_nothing (record { version = 1; numbers = 4 ∷ 2 ∷ 16 ∷ 8 ∷ 4 ∷ 4 ∷ 8 ∷ 2 ∷ 3 ∷ 16 ∷ 4 ∷ 2 ∷ 2 ∷ 16 ∷ 2 ∷ 10 ∷ 2 ∷ 65536 ∷ 65536 ∷ 0 ∷ 0 ∷ 0 ∷ 0 ∷ 0 ∷ 1 ∷ 2 ∷ 0 ∷ []; model = Spectre; defence = Stt }) refl refl refl refl refl

tainted_fault_hides_agrees : Agrees tainted_fault_hides
unfolding ones encode scan_numeral digits count_leading_zeros chars is_utf8 skip_from skip_ws decimal_number number
    plain_number underscore_fits unquoted word_len word_value body key_after one_line quoted simple_key special atom
    expression header_key key_equals line lines parse_document skip_bom val along_dots along_header at_key define
    decode zeros description_of document_fault end_fault key_fault keys_fault latency_fault registers_fault
    second_fault sections_fault top_fault half has_magic word header_fault code_of ram_after ram_fault segment_at
    end_line cycle fetch rename retire event_text events_text row_text rows_text trace_text
tainted_fault_hides_agrees = agrees tainted_fault_hides (record { version = 2; numbers = 2 ∷ 2 ∷ 16 ∷ 8 ∷ 4 ∷ 4 ∷ 8 ∷ 2 ∷ 3 ∷ 16 ∷ 4 ∷ 2 ∷ 2 ∷ 16 ∷ 2 ∷ 10 ∷ 2 ∷ 65536 ∷ 65536 ∷ 0 ∷ 0 ∷ 0 ∷ 0 ∷ 0 ∷ 1 ∷ 2 ∷ 0 ∷ []; model = Spectre; defence = Stt }) refl refl refl refl refl

tainted_link_agrees : Agrees tainted_link
unfolding ones encode scan_numeral digits count_leading_zeros chars is_utf8 skip_from skip_ws decimal_number number
    plain_number underscore_fits unquoted word_len word_value body key_after one_line quoted simple_key special atom
    expression header_key key_equals line lines parse_document skip_bom val along_dots along_header at_key define
    decode zeros description_of document_fault end_fault key_fault keys_fault latency_fault registers_fault
    second_fault sections_fault top_fault half has_magic word header_fault code_of ram_after ram_fault segment_at
    end_line cycle fetch rename retire event_text events_text row_text rows_text trace_text
tainted_link_agrees = agrees tainted_link (record { version = 2; numbers = 2 ∷ 2 ∷ 16 ∷ 8 ∷ 4 ∷ 4 ∷ 8 ∷ 2 ∷ 3 ∷ 16 ∷ 4 ∷ 2 ∷ 2 ∷ 16 ∷ 2 ∷ 10 ∷ 2 ∷ 65536 ∷ 65536 ∷ 0 ∷ 0 ∷ 0 ∷ 0 ∷ 0 ∷ 1 ∷ 2 ∷ 0 ∷ []; model = Spectre; defence = Stt }) refl refl refl refl refl

target_replaced_agrees : Agrees target_replaced
unfolding ones encode scan_numeral digits count_leading_zeros chars is_utf8 skip_from skip_ws decimal_number number
    plain_number underscore_fits unquoted word_len word_value body key_after one_line quoted simple_key special atom
    expression header_key key_equals line lines parse_document skip_bom val along_dots along_header at_key define
    decode zeros description_of document_fault end_fault key_fault keys_fault latency_fault registers_fault
    second_fault sections_fault top_fault half has_magic word header_fault code_of ram_after ram_fault segment_at
    end_line cycle fetch rename retire event_text events_text row_text rows_text trace_text
target_replaced_agrees = agrees target_replaced (record { version = 1; numbers = 2 ∷ 2 ∷ 16 ∷ 8 ∷ 4 ∷ 4 ∷ 8 ∷ 2 ∷ 3 ∷ 16 ∷ 1 ∷ 2 ∷ 2 ∷ 16 ∷ 2 ∷ 10 ∷ 2 ∷ 65536 ∷ 65536 ∷ 0 ∷ 0 ∷ 0 ∷ 0 ∷ 0 ∷ 1 ∷ 2 ∷ 0 ∷ []; model = Spectre; defence = Stt }) refl refl refl refl refl

two_joins_agrees : Agrees two_joins
unfolding ones encode scan_numeral digits count_leading_zeros chars is_utf8 skip_from skip_ws decimal_number number
    plain_number underscore_fits unquoted word_len word_value body key_after one_line quoted simple_key special atom
    expression header_key key_equals line lines parse_document skip_bom val along_dots along_header at_key define
    decode zeros description_of document_fault end_fault key_fault keys_fault latency_fault registers_fault
    second_fault sections_fault top_fault half has_magic word header_fault code_of ram_after ram_fault segment_at
    end_line cycle fetch rename retire event_text events_text row_text rows_text trace_text
two_joins_agrees = agrees two_joins (record { version = 2; numbers = 2 ∷ 2 ∷ 16 ∷ 8 ∷ 4 ∷ 4 ∷ 8 ∷ 2 ∷ 3 ∷ 16 ∷ 4 ∷ 2 ∷ 2 ∷ 16 ∷ 2 ∷ 10 ∷ 4 ∷ 65536 ∷ 65536 ∷ 1 ∷ 0 ∷ 0 ∷ 0 ∷ 0 ∷ 1 ∷ 2 ∷ 0 ∷ []; model = Spectre; defence = Stt }) refl refl refl refl refl

uncleared_fault_hides_agrees : Agrees uncleared_fault_hides
unfolding ones encode scan_numeral digits count_leading_zeros chars is_utf8 skip_from skip_ws decimal_number number
    plain_number underscore_fits unquoted word_len word_value body key_after one_line quoted simple_key special atom
    expression header_key key_equals line lines parse_document skip_bom val along_dots along_header at_key define
    decode zeros description_of document_fault end_fault key_fault keys_fault latency_fault registers_fault
    second_fault sections_fault top_fault half has_magic word header_fault code_of ram_after ram_fault segment_at
    end_line cycle fetch rename retire event_text events_text row_text rows_text trace_text
uncleared_fault_hides_agrees = agrees uncleared_fault_hides (record { version = 2; numbers = 2 ∷ 2 ∷ 16 ∷ 8 ∷ 4 ∷ 4 ∷ 8 ∷ 2 ∷ 3 ∷ 16 ∷ 4 ∷ 2 ∷ 2 ∷ 16 ∷ 2 ∷ 10 ∷ 2 ∷ 65536 ∷ 65536 ∷ 0 ∷ 16 ∷ 0 ∷ 0 ∷ 0 ∷ 1 ∷ 2 ∷ 0 ∷ []; model = Spectre; defence = Stt }) refl refl refl refl refl

violated_behind_a_younger_store_agrees : Agrees violated_behind_a_younger_store
unfolding ones encode scan_numeral digits count_leading_zeros chars is_utf8 skip_from skip_ws decimal_number number
    plain_number underscore_fits unquoted word_len word_value body key_after one_line quoted simple_key special atom
    expression header_key key_equals line lines parse_document skip_bom val along_dots along_header at_key define
    decode zeros description_of document_fault end_fault key_fault keys_fault latency_fault registers_fault
    second_fault sections_fault top_fault half has_magic word header_fault code_of ram_after ram_fault segment_at
    end_line cycle fetch rename retire event_text events_text row_text rows_text trace_text
violated_behind_a_younger_store_agrees = agrees violated_behind_a_younger_store (record { version = 2; numbers = 2 ∷ 2 ∷ 16 ∷ 8 ∷ 4 ∷ 4 ∷ 8 ∷ 2 ∷ 3 ∷ 16 ∷ 4 ∷ 2 ∷ 2 ∷ 16 ∷ 2 ∷ 10 ∷ 2 ∷ 65536 ∷ 65536 ∷ 0 ∷ 16 ∷ 0 ∷ 0 ∷ 0 ∷ 1 ∷ 2 ∷ 0 ∷ []; model = Spectre; defence = Stt }) refl refl refl refl refl

violated_without_data_agrees : Agrees violated_without_data
unfolding ones encode scan_numeral digits count_leading_zeros chars is_utf8 skip_from skip_ws decimal_number number
    plain_number underscore_fits unquoted word_len word_value body key_after one_line quoted simple_key special atom
    expression header_key key_equals line lines parse_document skip_bom val along_dots along_header at_key define
    decode zeros description_of document_fault end_fault key_fault keys_fault latency_fault registers_fault
    second_fault sections_fault top_fault half has_magic word header_fault code_of ram_after ram_fault segment_at
    end_line cycle fetch rename retire event_text events_text row_text rows_text trace_text
violated_without_data_agrees = agrees violated_without_data (record { version = 2; numbers = 2 ∷ 2 ∷ 16 ∷ 8 ∷ 4 ∷ 4 ∷ 8 ∷ 2 ∷ 3 ∷ 16 ∷ 4 ∷ 2 ∷ 2 ∷ 16 ∷ 2 ∷ 10 ∷ 2 ∷ 65536 ∷ 65536 ∷ 1 ∷ 1 ∷ 0 ∷ 0 ∷ 0 ∷ 1 ∷ 2 ∷ 0 ∷ []; model = Spectre; defence = Stt }) refl refl refl refl refl

visible_fault_given_agrees : Agrees visible_fault_given
unfolding ones encode scan_numeral digits count_leading_zeros chars is_utf8 skip_from skip_ws decimal_number number
    plain_number underscore_fits unquoted word_len word_value body key_after one_line quoted simple_key special atom
    expression header_key key_equals line lines parse_document skip_bom val along_dots along_header at_key define
    decode zeros description_of document_fault end_fault key_fault keys_fault latency_fault registers_fault
    second_fault sections_fault top_fault half has_magic word header_fault code_of ram_after ram_fault segment_at
    end_line cycle fetch rename retire event_text events_text row_text rows_text trace_text
visible_fault_given_agrees = agrees visible_fault_given (record { version = 2; numbers = 2 ∷ 2 ∷ 16 ∷ 8 ∷ 4 ∷ 4 ∷ 8 ∷ 2 ∷ 3 ∷ 16 ∷ 4 ∷ 2 ∷ 2 ∷ 16 ∷ 2 ∷ 10 ∷ 2 ∷ 65536 ∷ 65536 ∷ 0 ∷ 0 ∷ 0 ∷ 0 ∷ 0 ∷ 1 ∷ 2 ∷ 0 ∷ []; model = Futuristic; defence = Hold }) refl refl refl refl refl

waiting_fence_is_safe_agrees : Agrees waiting_fence_is_safe
unfolding ones encode scan_numeral digits count_leading_zeros chars is_utf8 skip_from skip_ws decimal_number number
    plain_number underscore_fits unquoted word_len word_value body key_after one_line quoted simple_key special atom
    expression header_key key_equals line lines parse_document skip_bom val along_dots along_header at_key define
    decode zeros description_of document_fault end_fault key_fault keys_fault latency_fault registers_fault
    second_fault sections_fault top_fault half has_magic word header_fault code_of ram_after ram_fault segment_at
    end_line cycle fetch rename retire event_text events_text row_text rows_text trace_text
waiting_fence_is_safe_agrees = agrees waiting_fence_is_safe (record { version = 2; numbers = 4 ∷ 2 ∷ 16 ∷ 8 ∷ 4 ∷ 4 ∷ 8 ∷ 1 ∷ 3 ∷ 16 ∷ 4 ∷ 2 ∷ 2 ∷ 16 ∷ 2 ∷ 10 ∷ 2 ∷ 65536 ∷ 65536 ∷ 0 ∷ 0 ∷ 0 ∷ 0 ∷ 0 ∷ 1 ∷ 2 ∷ 0 ∷ []; model = Futuristic; defence = Stt }) refl refl refl refl refl

waiting_jal_is_safe_agrees : Agrees waiting_jal_is_safe
unfolding ones encode scan_numeral digits count_leading_zeros chars is_utf8 skip_from skip_ws decimal_number number
    plain_number underscore_fits unquoted word_len word_value body key_after one_line quoted simple_key special atom
    expression header_key key_equals line lines parse_document skip_bom val along_dots along_header at_key define
    decode zeros description_of document_fault end_fault key_fault keys_fault latency_fault registers_fault
    second_fault sections_fault top_fault half has_magic word header_fault code_of ram_after ram_fault segment_at
    end_line cycle fetch rename retire event_text events_text row_text rows_text trace_text
waiting_jal_is_safe_agrees = agrees waiting_jal_is_safe (record { version = 2; numbers = 4 ∷ 2 ∷ 16 ∷ 8 ∷ 4 ∷ 4 ∷ 8 ∷ 1 ∷ 3 ∷ 16 ∷ 4 ∷ 2 ∷ 2 ∷ 16 ∷ 2 ∷ 10 ∷ 2 ∷ 65536 ∷ 65536 ∷ 0 ∷ 0 ∷ 0 ∷ 0 ∷ 0 ∷ 1 ∷ 2 ∷ 0 ∷ []; model = Futuristic; defence = Stt }) refl refl refl refl refl

waiting_jalr_is_unsafe_agrees : Agrees waiting_jalr_is_unsafe
unfolding ones encode scan_numeral digits count_leading_zeros chars is_utf8 skip_from skip_ws decimal_number number
    plain_number underscore_fits unquoted word_len word_value body key_after one_line quoted simple_key special atom
    expression header_key key_equals line lines parse_document skip_bom val along_dots along_header at_key define
    decode zeros description_of document_fault end_fault key_fault keys_fault latency_fault registers_fault
    second_fault sections_fault top_fault half has_magic word header_fault code_of ram_after ram_fault segment_at
    end_line cycle fetch rename retire event_text events_text row_text rows_text trace_text
waiting_jalr_is_unsafe_agrees = agrees waiting_jalr_is_unsafe (record { version = 2; numbers = 4 ∷ 2 ∷ 16 ∷ 8 ∷ 4 ∷ 4 ∷ 8 ∷ 2 ∷ 3 ∷ 16 ∷ 4 ∷ 2 ∷ 2 ∷ 16 ∷ 2 ∷ 10 ∷ 2 ∷ 65536 ∷ 65536 ∷ 0 ∷ 0 ∷ 0 ∷ 0 ∷ 0 ∷ 1 ∷ 2 ∷ 0 ∷ []; model = Futuristic; defence = Stt }) refl refl refl refl refl

waiting_load_moves_nothing_agrees : Agrees waiting_load_moves_nothing
unfolding ones encode scan_numeral digits count_leading_zeros chars is_utf8 skip_from skip_ws decimal_number number
    plain_number underscore_fits unquoted word_len word_value body key_after one_line quoted simple_key special atom
    expression header_key key_equals line lines parse_document skip_bom val along_dots along_header at_key define
    decode zeros description_of document_fault end_fault key_fault keys_fault latency_fault registers_fault
    second_fault sections_fault top_fault half has_magic word header_fault code_of ram_after ram_fault segment_at
    end_line cycle fetch rename retire event_text events_text row_text rows_text trace_text
waiting_load_moves_nothing_agrees = agrees waiting_load_moves_nothing (record { version = 2; numbers = 2 ∷ 2 ∷ 16 ∷ 8 ∷ 4 ∷ 4 ∷ 8 ∷ 2 ∷ 3 ∷ 16 ∷ 4 ∷ 1 ∷ 2 ∷ 16 ∷ 2 ∷ 10 ∷ 2 ∷ 65536 ∷ 65536 ∷ 1 ∷ 0 ∷ 0 ∷ 0 ∷ 0 ∷ 1 ∷ 2 ∷ 0 ∷ []; model = Spectre; defence = Stt }) refl refl refl refl refl

waiting_lui_is_safe_agrees : Agrees waiting_lui_is_safe
unfolding ones encode scan_numeral digits count_leading_zeros chars is_utf8 skip_from skip_ws decimal_number number
    plain_number underscore_fits unquoted word_len word_value body key_after one_line quoted simple_key special atom
    expression header_key key_equals line lines parse_document skip_bom val along_dots along_header at_key define
    decode zeros description_of document_fault end_fault key_fault keys_fault latency_fault registers_fault
    second_fault sections_fault top_fault half has_magic word header_fault code_of ram_after ram_fault segment_at
    end_line cycle fetch rename retire event_text events_text row_text rows_text trace_text
waiting_lui_is_safe_agrees = agrees waiting_lui_is_safe (record { version = 2; numbers = 4 ∷ 2 ∷ 16 ∷ 8 ∷ 4 ∷ 4 ∷ 8 ∷ 1 ∷ 3 ∷ 16 ∷ 4 ∷ 2 ∷ 2 ∷ 16 ∷ 2 ∷ 10 ∷ 2 ∷ 65536 ∷ 65536 ∷ 0 ∷ 0 ∷ 0 ∷ 0 ∷ 0 ∷ 1 ∷ 2 ∷ 0 ∷ []; model = Futuristic; defence = Stt }) refl refl refl refl refl

waiting_product_is_safe_agrees : Agrees waiting_product_is_safe
unfolding ones encode scan_numeral digits count_leading_zeros chars is_utf8 skip_from skip_ws decimal_number number
    plain_number underscore_fits unquoted word_len word_value body key_after one_line quoted simple_key special atom
    expression header_key key_equals line lines parse_document skip_bom val along_dots along_header at_key define
    decode zeros description_of document_fault end_fault key_fault keys_fault latency_fault registers_fault
    second_fault sections_fault top_fault half has_magic word header_fault code_of ram_after ram_fault segment_at
    end_line cycle fetch rename retire event_text events_text row_text rows_text trace_text
waiting_product_is_safe_agrees = agrees waiting_product_is_safe (record { version = 2; numbers = 2 ∷ 2 ∷ 16 ∷ 8 ∷ 4 ∷ 4 ∷ 8 ∷ 2 ∷ 8 ∷ 16 ∷ 4 ∷ 2 ∷ 2 ∷ 16 ∷ 2 ∷ 10 ∷ 2 ∷ 65536 ∷ 65536 ∷ 0 ∷ 0 ∷ 0 ∷ 0 ∷ 0 ∷ 1 ∷ 2 ∷ 0 ∷ []; model = Futuristic; defence = Stt }) refl refl refl refl refl

waiting_store_hides_nothing_agrees : Agrees waiting_store_hides_nothing
unfolding ones encode scan_numeral digits count_leading_zeros chars is_utf8 skip_from skip_ws decimal_number number
    plain_number underscore_fits unquoted word_len word_value body key_after one_line quoted simple_key special atom
    expression header_key key_equals line lines parse_document skip_bom val along_dots along_header at_key define
    decode zeros description_of document_fault end_fault key_fault keys_fault latency_fault registers_fault
    second_fault sections_fault top_fault half has_magic word header_fault code_of ram_after ram_fault segment_at
    end_line cycle fetch rename retire event_text events_text row_text rows_text trace_text
waiting_store_hides_nothing_agrees = agrees waiting_store_hides_nothing (record { version = 2; numbers = 2 ∷ 2 ∷ 16 ∷ 8 ∷ 4 ∷ 4 ∷ 8 ∷ 2 ∷ 3 ∷ 16 ∷ 4 ∷ 2 ∷ 2 ∷ 16 ∷ 2 ∷ 10 ∷ 2 ∷ 65536 ∷ 65536 ∷ 0 ∷ 0 ∷ 0 ∷ 0 ∷ 0 ∷ 1 ∷ 2 ∷ 0 ∷ []; model = Spectre; defence = Hold }) refl refl refl refl refl

wrong_return_pops_agrees : Agrees wrong_return_pops
unfolding ones encode scan_numeral digits count_leading_zeros chars is_utf8 skip_from skip_ws decimal_number number
    plain_number underscore_fits unquoted word_len word_value body key_after one_line quoted simple_key special atom
    expression header_key key_equals line lines parse_document skip_bom val along_dots along_header at_key define
    decode zeros description_of document_fault end_fault key_fault keys_fault latency_fault registers_fault
    second_fault sections_fault top_fault half has_magic word header_fault code_of ram_after ram_fault segment_at
    end_line cycle fetch rename retire event_text events_text row_text rows_text trace_text
wrong_return_pops_agrees = agrees wrong_return_pops (record { version = 2; numbers = 2 ∷ 2 ∷ 16 ∷ 8 ∷ 4 ∷ 4 ∷ 8 ∷ 2 ∷ 3 ∷ 16 ∷ 4 ∷ 2 ∷ 2 ∷ 16 ∷ 2 ∷ 10 ∷ 2 ∷ 65536 ∷ 65536 ∷ 0 ∷ 0 ∷ 0 ∷ 4 ∷ 0 ∷ 1 ∷ 2 ∷ 0 ∷ []; model = Spectre; defence = Stt }) refl refl refl refl refl

younger_address_agrees : Agrees younger_address
unfolding ones encode scan_numeral digits count_leading_zeros chars is_utf8 skip_from skip_ws decimal_number number
    plain_number underscore_fits unquoted word_len word_value body key_after one_line quoted simple_key special atom
    expression header_key key_equals line lines parse_document skip_bom val along_dots along_header at_key define
    decode zeros description_of document_fault end_fault key_fault keys_fault latency_fault registers_fault
    second_fault sections_fault top_fault half has_magic word header_fault code_of ram_after ram_fault segment_at
    end_line cycle fetch rename retire event_text events_text row_text rows_text trace_text
younger_address_agrees = agrees younger_address (record { version = 2; numbers = 2 ∷ 2 ∷ 16 ∷ 8 ∷ 4 ∷ 4 ∷ 8 ∷ 2 ∷ 3 ∷ 16 ∷ 4 ∷ 2 ∷ 2 ∷ 16 ∷ 2 ∷ 10 ∷ 2 ∷ 65536 ∷ 65536 ∷ 0 ∷ 0 ∷ 0 ∷ 0 ∷ 0 ∷ 1 ∷ 2 ∷ 0 ∷ []; model = Spectre; defence = Stt }) refl refl refl refl refl

younger_store_agrees : Agrees younger_store
unfolding ones encode scan_numeral digits count_leading_zeros chars is_utf8 skip_from skip_ws decimal_number number
    plain_number underscore_fits unquoted word_len word_value body key_after one_line quoted simple_key special atom
    expression header_key key_equals line lines parse_document skip_bom val along_dots along_header at_key define
    decode zeros description_of document_fault end_fault key_fault keys_fault latency_fault registers_fault
    second_fault sections_fault top_fault half has_magic word header_fault code_of ram_after ram_fault segment_at
    end_line cycle fetch rename retire event_text events_text row_text rows_text trace_text
younger_store_agrees = agrees younger_store (record { version = 2; numbers = 2 ∷ 2 ∷ 16 ∷ 8 ∷ 2 ∷ 4 ∷ 8 ∷ 2 ∷ 3 ∷ 16 ∷ 4 ∷ 2 ∷ 2 ∷ 16 ∷ 2 ∷ 10 ∷ 2 ∷ 65536 ∷ 65536 ∷ 0 ∷ 0 ∷ 0 ∷ 0 ∷ 0 ∷ 1 ∷ 2 ∷ 0 ∷ []; model = Spectre; defence = Stt }) refl refl refl refl refl

younger_store_hides_nothing_agrees : Agrees younger_store_hides_nothing
unfolding ones encode scan_numeral digits count_leading_zeros chars is_utf8 skip_from skip_ws decimal_number number
    plain_number underscore_fits unquoted word_len word_value body key_after one_line quoted simple_key special atom
    expression header_key key_equals line lines parse_document skip_bom val along_dots along_header at_key define
    decode zeros description_of document_fault end_fault key_fault keys_fault latency_fault registers_fault
    second_fault sections_fault top_fault half has_magic word header_fault code_of ram_after ram_fault segment_at
    end_line cycle fetch rename retire event_text events_text row_text rows_text trace_text
younger_store_hides_nothing_agrees = agrees younger_store_hides_nothing (record { version = 2; numbers = 2 ∷ 2 ∷ 16 ∷ 8 ∷ 4 ∷ 4 ∷ 8 ∷ 2 ∷ 3 ∷ 16 ∷ 4 ∷ 2 ∷ 2 ∷ 16 ∷ 2 ∷ 10 ∷ 2 ∷ 65536 ∷ 65536 ∷ 0 ∷ 0 ∷ 0 ∷ 0 ∷ 0 ∷ 1 ∷ 2 ∷ 0 ∷ []; model = Spectre; defence = Stt }) refl refl refl refl refl

pub each_agrees : Each Agrees runs
each_agrees = (across_two_lines_agrees, (bit_asks_for_addresses_agrees, (bit_asks_for_no_clearing_agrees, (bits_stay_set_agrees, (branch_to_the_next_agrees, (byte_at_its_end_covered_agrees, (checkpoint_of_the_load_agrees, (cleared_at_a_squash_agrees, (covered_line_is_accessed_agrees, (delayed_under_spectre_agrees, (divider_kept_at_a_violation_agrees, (done_branch_is_unsafe_agrees, (fault_held_agrees, (faulting_branch_squashes_agrees, (faulting_load_agrees, (faulting_store_agrees, (fill_leaves_second_agrees, (fills_as_taken_agrees, (five_returns_agrees, (five_ways_in_second_agrees, (forwarded_across_lines_agrees, (forwarded_moves_no_line_agrees, (found_in_second_agrees, (four_sets_agrees, (full_stack_agrees, (half_issued_agrees, (half_issued_data_agrees, (held_under_futuristic_agrees, (hidden_base_agrees, (history_as_fetched_agrees, (history_behind_a_jalr_agrees, (hit_and_join_agrees, (hit_leaves_second_agrees, (join_leaves_second_agrees, (joined_line_takes_no_register_agrees, (jump_that_links_elsewhere_agrees, (jumps_leave_history_agrees, (large_window_agrees, (late_address_agrees, (late_data_agrees, (late_data_version_1_agrees, (later_of_two_lines_agrees, (levels_drop_apart_agrees, (link_is_no_root_agrees, (link_through_x1_agrees, (linking_jump_agrees, (load_moves_the_line_that_hits_agrees, (load_reaches_behind_memory_agrees, (loop_by_history_agrees, (lower_line_comes_later_agrees, (memory_and_second_agrees, (misaligned_refused_agrees, (mixed_1_agrees, (mixed_2_agrees, (mixed_3_agrees, (mixed_4_agrees, (mixed_5_agrees, (mixed_6_agrees, (mixed_7_agrees, (mixed_8_agrees, (mixed_any_address_1_agrees, (mixed_any_address_2_agrees, (mixed_delay_1_agrees, (mixed_delay_2_agrees, (mixed_history_1_agrees, (mixed_history_2_agrees, (mixed_memory_1_agrees, (mixed_memory_2_agrees, (mixed_second_level_1_agrees, (mixed_second_level_2_agrees, (mixed_settings_agrees, (mixed_together_1_agrees, (mixed_together_2_agrees, (next_line_fetched_agrees, (no_prefetch_behind_memory_agrees, (no_prefetch_for_a_hit_agrees, (no_prefetch_for_a_join_agrees, (no_prefetch_of_a_held_line_agrees, (no_prefetch_of_address_0_agrees, (no_prefetch_on_its_way_agrees, (no_prefetch_without_register_agrees, (off_clears_at_once_agrees, (off_delays_nothing_agrees, (off_divides_agrees, (off_forwards_agrees, (off_holds_nothing_agrees, (off_violates_agrees, (older_load_hides_nothing_agrees, (older_store_without_data_agrees, (older_tainted_address_agrees, (one_byte_agrees, (one_port_each_agrees, (partly_covered_agrees, (parts_alone_agrees, (prefetch_at_the_end_of_memory_agrees, (prefetch_behind_both_lines_agrees, (prefetch_behind_the_lower_line_agrees, (prefetch_behind_x0_agrees, (prefetch_from_second_agrees, (prefetch_moves_second_agrees, (prefetched_to_the_front_agrees, (recent_in_second_agrees, (registers_for_both_lines_agrees, (return_by_another_register_agrees, (return_by_stack_agrees, (return_from_no_call_agrees, (return_that_links_agrees, (return_without_stack_agrees, (run_01_agrees, (run_02_agrees, (run_03_agrees, (run_04_agrees, (run_05_agrees, (run_06_agrees, (run_07_agrees, (run_08_agrees, (run_09_agrees, (run_10_agrees, (run_11_agrees, (run_12_agrees, (run_13_agrees, (run_14_agrees, (run_15_agrees, (run_16_agrees, (run_17_agrees, (run_18_agrees, (run_19_agrees, (run_20_agrees, (run_21_agrees, (run_22_agrees, (run_23_agrees, (run_24_agrees, (run_25_agrees, (run_26_agrees, (run_27_agrees, (run_28_agrees, (run_29_agrees, (run_30_agrees, (run_31_agrees, (run_32_agrees, (run_33_agrees, (run_34_agrees, (run_35_agrees, (run_36_agrees, (run_37_agrees, (run_38_agrees, (second_filled_at_fill_agrees, (second_moved_at_once_agrees, (sets_of_second_agrees, (seven_digits_of_history_agrees, (short_history_agrees, (sixteen_bits_agrees, (squash_by_history_agrees, (stack_behind_a_squash_agrees, (store_behind_load_agrees, (store_moves_both_lines_agrees, (store_moves_the_line_that_hits_agrees, (store_moves_the_lower_line_agrees, (store_passes_second_agrees, (store_reaches_behind_memory_agrees, (store_without_data_shadows_agrees, (taint_through_division_agrees, (tainted_address_agrees, (tainted_address_faulting_load_agrees, (tainted_address_faulting_store_agrees, (tainted_address_hidden_agrees, (tainted_data_agrees, (tainted_data_hides_nothing_agrees, (tainted_fault_hides_agrees, (tainted_link_agrees, (target_replaced_agrees, (two_joins_agrees, (uncleared_fault_hides_agrees, (violated_behind_a_younger_store_agrees, (violated_without_data_agrees, (visible_fault_given_agrees, (waiting_fence_is_safe_agrees, (waiting_jal_is_safe_agrees, (waiting_jalr_is_unsafe_agrees, (waiting_load_moves_nothing_agrees, (waiting_lui_is_safe_agrees, (waiting_product_is_safe_agrees, (waiting_store_hides_nothing_agrees, (wrong_return_pops_agrees, (younger_address_agrees, (younger_store_agrees, (younger_store_hides_nothing_agrees, tt)))))))))))))))))))))))))))))))))))))))))))))))))))))))))))))))))))))))))))))))))))))))))))))))))))))))))))))))))))))))))))))))))))))))))))))))))))))))))))))))))))))))))))))))))))))))))))
