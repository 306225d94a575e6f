-- Reasons and slots that were worked out by hand.
use Rattle.std.proofs.Common.{◌≡◌, ℕ, IsTrue, Bool, true, false, List, [], ◌∷◌, ◌++◌, Option, Some, None, map, refl}
use Rattle.std.specs.Int.Count.{count_leading_zeros}
use Rattle.rv_types.specs.Decode.{decode}
use Rattle.rv_types.specs.declared.End.TheVariants.{Exit}
use Rattle.rv_types.specs.declared.Instr.TheVariants.{Illegal}
use Rattle.rv_types.specs.declared.Kind.{Kind}
use Rattle.rv_types.specs.declared.Kind.TheVariants as kind
use lib.Count.{ones}
use Rattle.machine_desc.specs.Example.{example}
use Rattle.machine_desc.specs.Ranges.{key_number}
use Rattle.machine_desc.specs.declared.Defence.TheVariants.{Stt}
use Rattle.machine_desc.specs.declared.SttModel.TheVariants.{Spectre}
use Rattle.machine_desc.specs.declared.keys.Key.{Key}
use Rattle.machine_desc.specs.declared.keys.Key.TheVariants.{CacheHitLatency, CacheSecondLatency, CacheSecondSets}
use Rattle.machine_desc.proofs.Tested.{all_pass, tested}
use Rattle.machine_desc.specs.declared.Desc.{Desc}
use Rattle.window_model.specs.declared.Entry.{Entry}
use Rattle.window_model.specs.declared.Event.TheVariants.{Res, Bp, Bt, Sq, Clr, Vio, Dp, Ret, Call, Alu, Ren, Fet}
use Rattle.window_model.specs.declared.Progress.{Progress}
use Rattle.window_model.specs.declared.Progress.TheVariants.{Waiting, Busy, Done}
use Rattle.window_model.specs.declared.Way.TheVariants.{Taken, Jump}
use Rattle.window_model.specs.History.{no_checkpoint}
use Rattle.window_model.specs.State.{opening}
use Rattle.window_model.specs.Cycle.{cycle}
use Rattle.window_model.specs.Retire.{retire}
use Rattle.window_model.specs.Rename.{rename}
use Rattle.window_model.specs.Fetch.{fetch}
use Rattle.window_model.proofs.Worked.{code_of, memory, bounds_check}
use Rattle.run_counts.specs.Counted.{as_told}
use Rattle.slot_reasons.specs.declared.Kept.{Kept}
use Rattle.slot_reasons.specs.declared.Known.{Known}
use Rattle.slot_reasons.specs.declared.Past.{Past}
use Rattle.slot_reasons.specs.declared.Reason.{Reason}
use Rattle.slot_reasons.specs.declared.Reason.TheVariants as reason
use Rattle.slot_reasons.specs.Kept.{first_kept, note, times_kept}
use Rattle.slot_reasons.specs.Reasons.{first_known, first_past, known_by, past_after, reason_of}
use Rattle.slot_reasons.specs.Slots.{Charge, charges_of, known_at, seen, slot_names, slots}

-- ---- What comes late

-- behind a branch and a JALR that were wrongly predicted, a load that had passed a store wrongly, a call, none of them,
-- and the second of two squashes
abbrev lates : List Past
lates =
    map (past_after example first_past)
    ((Res 2 Taken ∷ Bp 2 2 ∷ Sq 7 ∷ Ret 0 ∷ []) ∷ (Res 2 Jump ∷ Bt 1 64 ∷ Sq 0 ∷ []) ∷ (Clr 1 ∷ Vio 4 ∷ Dp 0 1 ∷ Sq 3 ∷ []) ∷ (Ret 5 ∷ Call 5 3 ∷ [])
    ∷ (Res 2 Taken ∷ Bp 2 2 ∷ Fet 64 ∷ []) ∷ (Res 2 Taken ∷ Bp 2 2 ∷ Sq 7 ∷ Clr 1 ∷ Vio 4 ∷ Dp 0 1 ∷ Sq 3 ∷ []) ∷ [])

lates_are : lates
    ≡ record { renamed = None; late = reason.Misprediction; next = reason.Misprediction; queued = 0 }
    ∷ record { renamed = None; late = reason.Misprediction; next = reason.Misprediction; queued = 0 }
    ∷ record { renamed = None; late = reason.Violation; next = reason.Violation; queued = 0 }
    ∷ record { renamed = None; late = reason.Call; next = reason.Call; queued = 0 }
    ∷ record { renamed = None; late = reason.FrontEnd; next = reason.FrontEnd; queued = 1 }
    ∷ record { renamed = None; late = reason.Violation; next = reason.Violation; queued = 0 } ∷ []
unfolding as_told
lates_are = refl

-- the first that is renamed behind a squash comes late for it, and what comes next doesn't
abbrev squashed : Past
squashed = record { renamed = None; late = reason.Misprediction; next = reason.Misprediction; queued = 2 }

renamed_late : past_after example squashed (Alu 1 ∷ Ren 8 64 ∷ Ren 9 68 ∷ Fet 72 ∷ []) ≡ record { renamed = Some 8; late = reason.Misprediction; next = reason.FrontEnd; queued = 1 }
unfolding as_told
renamed_late = refl

-- ---- Want of room

-- so many items are fetched and not renamed
abbrev waiting : ℕ → Past
waiting n = record { renamed = None; late = reason.FrontEnd; next = reason.FrontEnd; queued = n }

-- of the two that may be, one is renamed or none, and others are left: what comes next comes late for want of room,
-- whatever was late before
short_tells :
    past_after example (waiting 3) (Ren 8 64 ∷ Fet 76 ∷ []) ∷ past_after example (waiting 3) (Alu 1 ∷ []) ∷ past_after example squashed (Ren 8 64 ∷ []) ∷ []
    ≡ record { renamed = Some 8; late = reason.FrontEnd; next = reason.Room; queued = 3 }
    ∷ record { renamed = None; late = reason.FrontEnd; next = reason.Room; queued = 3 }
    ∷ record { renamed = Some 8; late = reason.Misprediction; next = reason.Room; queued = 1 } ∷ []
unfolding as_told
short_tells = refl

-- two are renamed and one is left; all are renamed, and one is fetched; a squash drops all, and one is fetched: in none
-- of these there was no room
not_short_tells :
    past_after example (waiting 3) (Ren 8 64 ∷ Ren 9 68 ∷ []) ∷ past_after example (waiting 1) (Ren 8 64 ∷ Fet 76 ∷ [])
    ∷ past_after example (waiting 3) (Res 2 Taken ∷ Bp 2 2 ∷ Sq 7 ∷ Fet 64 ∷ []) ∷ []
    ≡ record { renamed = Some 8; late = reason.FrontEnd; next = reason.FrontEnd; queued = 1 }
    ∷ record { renamed = Some 8; late = reason.FrontEnd; next = reason.FrontEnd; queued = 1 }
    ∷ record { renamed = None; late = reason.Misprediction; next = reason.Misprediction; queued = 1 } ∷ []
unfolding as_told
not_short_tells = refl

-- a call that was kept back, or that keeps others back: its own entry tells it, and what comes behind it comes late for
-- it, and not for want of room
abbrev kept_back : Past
kept_back = record { renamed = None; late = reason.FrontEnd; next = reason.Room; queued = 2 }

behind_call_tells : past_after example kept_back (Ret 5 ∷ Call 5 3 ∷ Ren 6 64 ∷ Ren 7 68 ∷ []) ≡ record { renamed = Some 6; late = reason.Call; next = reason.FrontEnd; queued = 0 }
unfolding as_told
behind_call_tells = refl

-- ---- The oldest entry

-- an entry with serial 8 of this kind, so far and issued in this cycle, cleared or not
abbrev entry : Kind → Progress → Option ℕ → Bool → Entry
entry k state issued cleared = record {
  serial = 8;
  item = record { pc = 64; instr = Illegal 0; kind = k; predicted = None; checkpoint = no_checkpoint };
  state = state;
  outcome = None;
  resolved = false;
  issued = issued;
  addr_due = None;
  data_due = None;
  cleared = cleared;
}

-- the example, where a hit takes 2 cycles, with a second level of one set that takes 6
abbrev second_number : Key → ℕ
second_number CacheSecondSets = 1
second_number CacheSecondLatency = 6
second_number key = key_number example key

second_passes : IsTrue (all_pass 2 second_number Spectre Stt)
unfolding ones
second_passes = refl

abbrev d : Desc
d = tested 2 second_number Spectre Stt second_passes

-- the example where a hit takes 1 cycle, without a second level, which would take 2
abbrev quick_number : Key → ℕ
quick_number CacheHitLatency = 1
quick_number key = key_number example key

quick_passes : IsTrue (all_pass 2 quick_number Spectre Stt)
unfolding ones
quick_passes = refl

abbrev quick : Desc
quick = tested 2 quick_number Spectre Stt quick_passes

-- a cycle in which nothing was renamed, and one whose first that was has this serial, late behind a misprediction
abbrev quiet : Past
quiet = first_past

abbrev renamed : ℕ → Past
renamed first = record { renamed = Some first; late = reason.Misprediction; next = reason.FrontEnd; queued = 0 }

-- what was renamed in it came late for want of room
abbrev short : ℕ → Past
short first = record { renamed = Some first; late = reason.Room; next = reason.FrontEnd; queued = 0 }

-- what is known behind such a cycle, where the defence alone kept no entry
abbrev behind : Past → Known
behind past = record { past = past; kept = first_kept }

-- by how far the oldest entry is, once cycle 10 is over, where nothing was renamed lately
abbrev by_progress : List Reason
by_progress =
    map (λ e. reason_of d (behind quiet) quiet 10 None (Some e))
    (entry kind.Load (Busy 12) (Some 10) true ∷ entry kind.Load (Busy 13) (Some 10) true ∷ entry kind.Load (Busy 16) (Some 10) true ∷ entry kind.Load (Busy 17) (Some 10) true
    ∷ entry kind.Mul (Busy 13) (Some 10) true ∷ entry kind.Div (Busy 30) (Some 10) true ∷ entry kind.Store (Busy 11) None false ∷ entry kind.Alu (Busy 11) (Some 10) true
    ∷ entry kind.Branch (Busy 11) (Some 10) true ∷ entry kind.Load Waiting None true ∷ entry kind.Div Waiting None true ∷ entry kind.Store Waiting None false
    ∷ entry kind.Branch Done (Some 10) true ∷ entry kind.Jalr Done (Some 10) true ∷ entry kind.Store Done None false ∷ entry kind.Store Done None true ∷ entry kind.Call Done None true ∷ [])

progress_tells : by_progress
    ≡ reason.LoadFirst ∷ reason.LoadSecond ∷ reason.LoadSecond ∷ reason.LoadMemory
    ∷ reason.Multiplier ∷ reason.Divider ∷ reason.Store ∷ reason.Simple
    ∷ reason.Simple ∷ reason.Registers ∷ reason.Divider ∷ reason.Store
    ∷ reason.Resolve ∷ reason.Resolve ∷ reason.Clear ∷ reason.StorePort ∷ reason.Call ∷ []
progress_tells = refl

-- where there is no second level, nothing is served by it
no_second_tells : reason_of quick (behind quiet) quiet 10 None (Some (entry kind.Load (Busy 12) (Some 10) true)) ≡ reason.LoadMemory
no_second_tells = refl

-- by when the oldest entry was renamed: in this cycle; in the one before, with what issued since and what waits; and
-- before that
renaming_tells :
    map (λ (p : Past × (Past × Progress)). reason_of d (behind p.0) p.1.0 10 None (Some (entry kind.Div p.1.1 None true)))
    ((quiet, (renamed 8, Waiting)) ∷ (quiet, (renamed 7, Waiting)) ∷ (renamed 8, (quiet, Busy 30)) ∷ (renamed 8, (quiet, Waiting)) ∷ (quiet, (renamed 9, Busy 30)) ∷ (renamed 9, (quiet, Busy 30)) ∷ [])
    ≡ reason.Misprediction ∷ reason.Misprediction ∷ reason.Misprediction ∷ reason.Divider ∷ reason.Divider ∷ reason.Divider ∷ []
renaming_tells = refl

-- a call goes alone, though it was renamed in this cycle behind a misprediction, or after there was no room
call_tells : map (λ p. reason_of d (behind quiet) p 10 None (Some (entry kind.Call Waiting None true))) (renamed 8 ∷ short 8 ∷ []) ≡ reason.Call ∷ reason.Call ∷ []
call_tells = refl

-- what is renamed once there is room comes late for that
room_tells : reason_of d (behind quiet) (short 8) 10 None (Some (entry kind.Div Waiting None true)) ∷ reason_of d (behind (short 8)) quiet 10 None (Some (entry kind.Div (Busy 30) None true)) ∷ []
    ≡ reason.Room ∷ reason.Room ∷ []
room_tells = refl

-- without an entry for what comes late, and once the run has ended for that
none_tells : (reason_of d (behind quiet) (renamed 8) 10 None None ≡ reason.Misprediction) × (reason_of d (behind quiet) quiet 10 (Some (Exit 0)) (Some (entry kind.Alu Done None true)) ≡ reason.End)
none_tells = (refl, refl)

-- ---- What the defence made late

-- what is kept in mind of these entries, each of them the oldest kept one in a cycle of its own
abbrev noted : List ℕ → List Kept
noted [] = first_kept
noted (serial ∷ before) = note (Some serial) (noted before)

-- each entry's cycles are counted, and a cycle without such an entry changes nothing. Serials 8 and 72 have one place,
-- at which the one that was kept last begins anew
times_are :
    map (times_kept (note None (noted (9 ∷ 8 ∷ 8 ∷ 8 ∷ [])))) (8 ∷ 9 ∷ 72 ∷ 0 ∷ [])
    ++ (map (times_kept (noted (72 ∷ 8 ∷ 8 ∷ []))) (8 ∷ 72 ∷ []) ++ map (times_kept (noted (8 ∷ 72 ∷ 8 ∷ 8 ∷ []))) (8 ∷ 72 ∷ []))
    ≡ 3 ∷ 1 ∷ 0 ∷ 0 ∷ 0 ∷ 1 ∷ 1 ∷ 0 ∷ []
unfolding as_told
times_are = refl

-- the cycles of entry 8, once one more is over: it is noted as the oldest kept one where it was renamed before, as in a
-- cycle that renames 9, and not where it was renamed in this very cycle; nor where no entry is kept, or another one
renamed_not_noted : map (λ (p : Past × Option ℕ). times_kept (known_by (behind quiet) p.0 p.1).kept 8)
    ((quiet, Some 8) ∷ (renamed 9, Some 8) ∷ (renamed 8, Some 8) ∷ (renamed 7, Some 8) ∷ (quiet, None) ∷ (quiet, Some 9) ∷ []) ≡ 1 ∷ 1 ∷ 0 ∷ 0 ∷ 0 ∷ 0 ∷ []
unfolding as_told
renamed_not_noted = refl

-- why the slots stay empty once cycle 15 is over, where these entries were kept so often before
abbrev in_fifteen : List ℕ → Entry → Reason
in_fifteen kept e = reason_of d (record { past = quiet; kept = noted kept }) quiet 15 None (Some e)

-- entry 8, a load that issued in cycle 10, would be Done in cycle 20 and takes as long as memory. It is late by the
-- defence where it was kept in 5 cycles or more, and not where it was in none or in 4, in 5 of which entry 72 took the
-- place, or where it was entry 9 that was
late_tells :
    map (λ kept. in_fifteen kept (entry kind.Load (Busy 20) (Some 10) true))
    ([] ∷ (8 ∷ 8 ∷ 8 ∷ 8 ∷ []) ∷ (8 ∷ 8 ∷ 8 ∷ 8 ∷ 8 ∷ []) ∷ (8 ∷ 8 ∷ 8 ∷ 8 ∷ 8 ∷ 8 ∷ []) ∷ (72 ∷ 8 ∷ 8 ∷ 8 ∷ 8 ∷ 8 ∷ []) ∷ (9 ∷ 9 ∷ 9 ∷ 9 ∷ 9 ∷ []) ∷ [])
    ≡ reason.LoadMemory ∷ reason.LoadMemory ∷ reason.Defence ∷ reason.Defence ∷ reason.LoadMemory ∷ reason.LoadMemory ∷ []
unfolding as_told
late_tells = refl

-- whatever executes may be late by the defence; what waits or is Done is told as ever
kinds_tell :
    map (in_fifteen (8 ∷ 8 ∷ []))
    (entry kind.Div (Busy 17) (Some 10) true ∷ entry kind.Div (Busy 18) (Some 10) true ∷ entry kind.Store (Busy 16) None false ∷ entry kind.Mul (Busy 17) (Some 14) true
    ∷ entry kind.Load Waiting None true ∷ entry kind.Branch Done (Some 10) true ∷ [])
    ≡ reason.Defence ∷ reason.Divider ∷ reason.Defence ∷ reason.Defence ∷ reason.Registers ∷ reason.Resolve ∷ []
unfolding as_told
kinds_tell = refl

-- ---- Slots by reason

-- a cycle in which one slot retires an instruction, and so many stay empty for a reason
abbrev for_reason : ℕ → Reason → Charge
for_reason empty r = record { retired = 1; empty = empty; reason = r }

-- each reason has a number of its own
each_counted :
    slots
    (for_reason 2 reason.FrontEnd ∷ for_reason 3 reason.Misprediction ∷ for_reason 4 reason.Violation ∷ for_reason 5 reason.Call
    ∷ for_reason 6 reason.Simple ∷ for_reason 7 reason.Multiplier ∷ for_reason 8 reason.Divider ∷ for_reason 9 reason.Store
    ∷ for_reason 10 reason.LoadFirst ∷ for_reason 11 reason.LoadSecond ∷ for_reason 12 reason.LoadMemory ∷ for_reason 13 reason.Registers
    ∷ for_reason 14 reason.Resolve ∷ for_reason 15 reason.Clear ∷ for_reason 16 reason.StorePort ∷ for_reason 17 reason.End ∷ for_reason 18 reason.Room ∷ for_reason 19 reason.Defence ∷ [])
    ≡ 18 ∷ 2 ∷ 18 ∷ 3 ∷ 4 ∷ 5 ∷ 6 ∷ 7 ∷ 8 ∷ 9 ∷ 10 ∷ 11 ∷ 12 ∷ 13 ∷ 14 ∷ 15 ∷ 16 ∷ 19 ∷ 17 ∷ []
unfolding slot_names as_told
each_counted = refl

-- ---- A run

-- a bounds check that is passed over, of 21 cycles with two slots each (docs/view.md, "Where the time went: the CPI
-- stack"): 5 instructions retire; 6 slots go to the front end, 5 to the misprediction, 1 to the call, 1 to an
-- operation, 5 to the multiplication, 18 to a load from memory, and 1 to the end
run_counted : slots (charges_of (seen example (code_of bounds_check) 100 (opening example 0x10000 (memory 0 17)) first_known))
    ≡ 5 ∷ 6 ∷ 0 ∷ 5 ∷ 0 ∷ 1 ∷ 1 ∷ 5 ∷ 0 ∷ 0 ∷ 0 ∷ 0 ∷ 18 ∷ 0 ∷ 0 ∷ 0 ∷ 0 ∷ 0 ∷ 1 ∷ []
unfolding decode cycle retire rename fetch count_leading_zeros memory code_of slot_names as_told
run_counted = refl

-- in that run the defence keeps entry 6, the load that would show the secret, in 2 cycles before a squash drops it
-- (docs/view.md, "Why an instruction waits"), and no other: none is the oldest after that, so no slot is late for it
run_noted : map (times_kept (known_at example (code_of bounds_check) 100 (opening example 0x10000 (memory 0 17)) first_known).kept) (0 ∷ 1 ∷ 2 ∷ 3 ∷ 4 ∷ 5 ∷ 6 ∷ 7 ∷ [])
    ≡ 0 ∷ 0 ∷ 0 ∷ 0 ∷ 0 ∷ 0 ∷ 2 ∷ 0 ∷ []
unfolding decode cycle retire rename fetch count_leading_zeros memory code_of as_told
run_noted = refl
