-- Corners of the machine's definition that no worked run shows.
use Rattle.std.proofs.Common.{◌≡◌, ℕ, List, [], ◌∷◌, Option, Some, None, refl}
use Rattle.std.specs.Prelude.{true, false, replicate}
use Rattle.rv_types.specs.Causes.{jump_misaligned, load_outside, store_outside}
use Rattle.rv_types.specs.Decode.{decode}
use Rattle.rv_types.specs.Kind.{kind_of}
use Rattle.rv_types.specs.Value.{value}
use Rattle.rv_types.specs.declared.Cause.{Cause}
use Rattle.rv_types.specs.declared.End.TheVariants.{Trap}
use Rattle.rv_types.specs.declared.Op.TheVariants.{Mulhsu, Sra}
use Rattle.elf_loader.specs.Image.{SegmentText, byte_after}
use Rattle.machine_desc.specs.Example.{example}
use Rattle.machine_desc.specs.declared.SttModel.TheVariants.{Spectre, Futuristic}
use Rattle.window_model.specs.declared.Entry.{Entry}
use Rattle.window_model.specs.declared.Event.TheVariants.{Res, Bp, Ret, St}
use Rattle.window_model.specs.declared.Item.{Item}
use Rattle.window_model.specs.declared.Progress.TheVariants.{Waiting, Done}
use Rattle.window_model.specs.declared.Way.TheVariants.{Taken, Jump}
use Rattle.window_model.specs.Sets.{is_in, moved_up, with_front_line}
use Rattle.window_model.specs.History.{no_checkpoint}
use Rattle.window_model.specs.State.{Machine, opening}
use Rattle.window_model.specs.Access.{covers, load_bytes, any_store_hidden}
use Rattle.window_model.specs.Rename.{fits}
use Rattle.window_model.specs.Around.{Around, around}
use Rattle.window_model.specs.MayIssue.{may_issue}
use Rattle.window_model.specs.Ports.{LoadPort, is_granted}
use Rattle.window_model.specs.Issue.{issue}
use Rattle.window_model.specs.Resolve.{may_resolve, learn, freed_from}
use Rattle.window_model.specs.Retire.{retire}
use Rattle.window_model.specs.Taint.{tainted, safe, visible}
use Rattle.window_model.proofs.Worked.{memory}

-- the item of a word at 0x10000, predicted to go on behind it
abbrev item_of : ℕ → Item
item_of w = record { pc = 0x10000; instr = decode w; kind = kind_of (decode w); predicted = Some 0x10004; checkpoint = no_checkpoint }

-- an entry that waits, by its serial and its word
abbrev waiting : ℕ → ℕ → Entry
waiting serial w = record {
  serial = serial;
  item = item_of w;
  state = Waiting;
  outcome = None;
  resolved = false;
  issued = None;
  addr_due = None;
  data_due = None;
  cleared = true;
}

-- an entry that is done, with an address and a fault
abbrev done_at : ℕ → ℕ → ℕ → Option Cause → Entry
done_at serial w a fault = record {
  serial = serial;
  item = item_of w;
  state = Done;
  outcome = Some (record { value = 1; next = 0x10004; addr = a; stored = 0; fault = fault });
  resolved = false;
  issued = Some 0;
  addr_due = Some 1;
  data_due = Some 1;
  cleared = true;
}

-- the entry of bgeu x0,x5,+16, which isn't resolved
abbrev branch : Entry
branch = waiting 0 0x00507863

-- the entry of lbu x6,8(x2), done: a root that isn't visible behind the branch
abbrev load : Entry
load = done_at 1 0x00814303 0x1fff8 None

-- the entry of add x7,x2,x6, which is done
abbrev sum : Entry
sum = done_at 2 0x006103b3 0 None

-- taint flows through the first source (add x7,x6,x2) and through the second, and ends as the branch is resolved
first_source_taints : tainted Spectre (done_at 2 0x002303b3 0 None ∷ load ∷ branch ∷ []) 7 ≡ true
unfolding decode
first_source_taints = refl

second_source_taints : tainted Spectre (sum ∷ load ∷ branch ∷ []) 7 ≡ true
unfolding decode
second_source_taints = refl

resolved_branch_untaints : tainted Spectre (sum ∷ load ∷ record branch { resolved = true } ∷ []) 7 ≡ false
unfolding decode
resolved_branch_untaints = refl

-- a branch on a tainted second operand (beq x0,x6,+8) isn't resolved
second_operand_of_a_branch : may_resolve example (load ∷ branch ∷ []) (done_at 2 0x00600463 0 None) ≡ false
unfolding decode
second_operand_of_a_branch = refl

-- the example's machine as it begins, with a divider that is free
abbrev start : Around
start = around (opening example 0x10000 (memory 0 0))

-- a division by a tainted divisor (div x7,x2,x6) doesn't issue, and the sum of the same registers does
divisor_alone : may_issue example start (load ∷ branch ∷ []) (waiting 2 0x026143b3) ≡ false
unfolding decode memory
divisor_alone = refl

sum_of_tainted_issues : may_issue example start (load ∷ branch ∷ []) (waiting 2 0x006103b3) ≡ true
unfolding decode memory
sum_of_tainted_issues = refl

-- a store (sw x5,4(x2)) or load with a fault isn't safe, and one without is
faulting_store_is_not_safe : safe (done_at 0 0x00512223 0 (Some store_outside)) ≡ false
unfolding decode
faulting_store_is_not_safe = refl

done_store_is_safe : safe (done_at 0 0x00512223 0x1fff4 None) ≡ true
unfolding decode
done_store_is_safe = refl

-- behind a fault nothing is visible under the futuristic model, and all is under spectre
fault_hides : visible Futuristic (done_at 0 0x00814303 0 (Some load_outside) ∷ []) ≡ false
unfolding decode
fault_hides = refl

fault_shows : visible Spectre (done_at 0 0x00814303 0 (Some load_outside) ∷ []) ≡ true
unfolding decode
fault_shows = refl

-- the divider is freed where its user is dropped, and not where the user is older
dropped_user_frees : freed_from 3 (record { free_from = 40; user = Some 3 }) ≡ record { free_from = 0; user = None }
dropped_user_frees = refl

older_user_stays : freed_from 3 (record { free_from = 40; user = Some 2 }) ≡ record { free_from = 40; user = Some 2 }
older_user_stays = refl

-- the example's machine with this window, memory 0
abbrev with_window : List Entry → Machine
with_window es = record (opening example 0x10000 (memory 0 0)) { window = es }

-- one store retires a cycle, and another waits
one_store : (retire example (with_window (done_at 0 0x00512223 0x1fff4 None ∷ done_at 1 0x00512223 0x1fff4 None ∷ []))).events
    ≡ Ret 0 ∷ St 0 0x1fff0 false ∷ []
unfolding decode retire memory
one_store = refl

-- a second store that faults ends the run in the same cycle
second_store_faults : (retire example (with_window (done_at 0 0x00512223 0x1fff4 None ∷ done_at 1 0x00512223 0 (Some store_outside) ∷ []))).machine.end
    ≡ Some (Trap store_outside 0x10000)
unfolding decode retire memory
second_store_faults = refl

-- where two loads may issue only the older one is tried: with no register free, neither issues
full_registers : (issue example (record (with_window (waiting 0 0x00814303 ∷ waiting 1 0x00012283 ∷ [])) {
  misses = record { line = 0x10010; due = 9; from_memory = true } ∷ record { line = 0x10020; due = 9; from_memory = true } ∷ [];
})).events ≡ []
unfolding decode memory
full_registers = refl

younger_load_is_not_tried : is_granted example start LoadPort (waiting 0 0x00814303 ∷ []) (waiting 1 0x00012283) ≡ false
unfolding decode memory
younger_load_is_not_tried = refl

-- a branch that faults moves its counter, and a JALR that faults stores no target
faulting_branch_teaches : (learn example (done_at 4 0x00507863 0 (Some jump_misaligned)) (replicate 16 1) (replicate 4 None)).events
    ≡ Res 4 Taken ∷ Bp 0 2 ∷ []
unfolding decode
faulting_branch_teaches = refl

faulting_jump_does_not : learn example (done_at 4 0x002100e7 0 (Some jump_misaligned)) (replicate 16 1) (replicate 4 None)
    ≡ record { counters = replicate 16 1; targets = replicate 4 None; events = Res 4 Jump ∷ [] }
unfolding decode
faulting_jump_does_not = refl

-- a stop needs no station, and a sum does; a call goes alone, and nothing behind it
stop_needs_no_station : fits example (replicate 8 branch) (record (item_of 0x00100073) { predicted = None }) ≡ true
unfolding decode
stop_needs_no_station = refl

sum_needs_a_station : fits example (replicate 8 branch) (item_of 0x006103b3) ≡ false
unfolding decode
sum_needs_a_station = refl

call_goes_alone : fits example (load ∷ []) (item_of 0x00000073) ≡ false
unfolding decode
call_goes_alone = refl

nothing_behind_a_call : fits example (done_at 0 0x00000073 0 None ∷ []) (item_of 0x006103b3) ≡ false
unfolding decode
nothing_behind_a_call = refl

-- a store with a fault covers nothing, but its tainted address (sw x5,4(x6)) still hides
faulting_store_covers_nothing : covers 0x1fff4 (done_at 0 0x00512223 0x1fff4 (Some store_outside)) ≡ false
unfolding decode
faulting_store_covers_nothing = refl

faulting_store_hides : any_store_hidden Spectre (done_at 2 0x00532223 0 (Some store_outside) ∷ load ∷ branch ∷ []) ≡ true
unfolding decode
faulting_store_hides = refl

-- a store (sw x5,4(x2)) that hasn't issued has no address and covers nothing, not even the bytes from 0 on: a load gets
-- memory's
waiting_store_covers_nothing : covers 0 (waiting 0 0x00512223) ≡ false
unfolding decode
waiting_store_covers_nothing = refl

load_behind_a_waiting_store : load_bytes (record { base = 0; bytes = 17 ∷ 34 ∷ 51 ∷ 68 ∷ []; misaligned = false }) (waiting 0 0x00512223 ∷ []) 0 4
    ≡ 17 ∷ 34 ∷ 51 ∷ 68 ∷ []
unfolding decode
load_behind_a_waiting_store = refl

-- a store that hasn't issued (sw x5,4(x6)) with a tainted address hides all the same
waiting_store_hides : any_store_hidden Spectre (waiting 2 0x00532223 ∷ load ∷ branch ∷ []) ≡ true
unfolding decode
waiting_store_hides = refl

-- MULHSU takes its first source alone as signed, and SRA copies the sign
first_source_is_signed : value Mulhsu 0xffffffff 2 ≡ 0xffffffff
first_source_is_signed = refl

second_source_is_not : value Mulhsu 2 0xffffffff ≡ 1
second_source_is_not = refl

sign_is_copied : value Sra 0x80000000 4 ≡ 0xf8000000
sign_is_copied = refl

-- three lines enter a set of two ways, in turn: the first of them goes
abbrev two_of_three : List (List ℕ)
two_of_three = with_front_line 2 (with_front_line 2 (with_front_line 2 ([] ∷ []) 0 0) 0 16) 0 32

oldest_line_goes : is_in two_of_three 0 0 ≡ false
oldest_line_goes = refl

-- one that is used stays, and the other goes
used_line_stays : with_front_line 2 (moved_up two_of_three 0 16) 0 48 ≡ (48 ∷ 16 ∷ []) ∷ []
used_line_stays = refl

-- where there is no set no line enters, and none is there
no_set_no_line : with_front_line 2 [] 0 16 ≡ []
no_set_no_line = refl

-- a segment of four bytes at 4, of which the file has one
abbrev segment : SegmentText
segment = record { vaddr = 4; memsz = 4; flags = 4; bytes = 9 ∷ [] }

-- past the file's bytes a segment is 0, whatever stood there, and behind the segment memory stays
past_the_file : byte_after (segment ∷ []) 5 7 ≡ 0
past_the_file = refl

past_the_segment : byte_after (segment ∷ []) 8 7 ≡ 7
past_the_segment = refl
