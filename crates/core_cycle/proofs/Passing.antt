-- A cycle that is passed over, and from when on the next ones may be.
use Rattle.std.proofs.Common.{◌≡◌, ℕ, zero, suc, ◌+◌, ◌<◌, List, [], None, ap, sym, ◌∙◌, subst, arith}
use Rattle.rv_types.specs.Memory.{Code}
use Rattle.elf_loader.specs.inner.Code.{word_at}
use Rattle.machine_desc.specs.declared.Desc.{Desc}
use Rattle.machine_desc.proofs.EveryDesc.{every_desc}
use Rattle.window_model.specs.State.{Machine}
use Rattle.window_model.specs.Cycle.{Cycled, cycle}
use Rattle.window_model.specs.Committed.{Aligned, Commits}
use Rattle.machine_facts.specs.Sized.{Sized}
use Rattle.machine_facts.specs.Timely.{Counted, Timely}
use Rattle.machine_facts.proofs.SizedRun.{sized_cycle}
use Rattle.machine_facts.proofs.TimelyRun.{timely_cycle}
use Rattle.machine_facts.proofs.FewEvents.{counts_cycle}
use Rattle.committed_state.specs.Consistent.{Consistent}
use Rattle.committed_state.proofs.Cycle.{cycle_commits, consistent_cycle}
use Rattle.quiet_cycles.specs.Still.{NothingDueBefore, StillUntil, at_cycle, empty_row}
use Rattle.quiet_cycles.proofs.Repeats.{none_stand, stands_after_cycle}
use Rattle.visibility.specs.Point.{HasAdvanced}
use Rattle.core_parts.specs.Described.{Described}
use Rattle.core_cycle.specs.Kept.{Kept, KeptUntil}

-- ---- after each cycle, whether its phases went or it was passed over

module _ (code : Code) (s s1 : Described) (e : s1.machine ≡ (cycle s.desc code s.machine).machine) (aligned : Aligned code) (h : Kept code s) (n : s.machine.end ≡ None) where
  -- what holds in every state is kept
  pub kept_after : s1.desc ≡ s.desc → HasAdvanced s1.point s1.machine.window → Kept code s1
  kept_after q a = record {
    counted = subst Counted (sym e) (counts_cycle s.desc code s.machine (every_desc s.desc) h.counted);
    consistent = subst (λ d. Consistent d code s1.machine) (sym q) (subst (Consistent s.desc code) (sym e) (consistent_cycle s.desc code s.machine aligned h.consistent n));
    advanced = a;
    sized = subst (λ d. Sized d s1.machine) (sym q) (subst (Sized s.desc) (sym e) (sized_cycle s.desc code s.machine (every_desc s.desc) h.sized));
    timely = subst (λ d. Timely d s1.machine) (sym q) (subst (Timely s.desc) (sym e) (timely_cycle s.desc code s.machine (every_desc s.desc) h.sized h.timely));
  }

  -- what retires in a cycle are steps of the instruction set
  pub commits_after : (piece : List ℕ) → piece ≡ (cycle s.desc code s.machine).piece → Commits code s.machine s1.machine piece
  commits_after piece p =
      subst (Commits code s.machine s1.machine) (sym p)
      (subst (λ x. Commits code s.machine x (cycle s.desc code s.machine).piece) (sym e) (cycle_commits s.desc code s.machine aligned h.consistent n))

-- ---- one that is passed over

module _ (n : ℕ) (s s1 : Described) (begins : s1 ≡ record s { machine = at_cycle (s.machine.cycle + 1) s.machine }) (h : StillUntil n s.desc (word_at s.code) s.machine) (l : s.machine.cycle + 1 < n) where
  -- a cycle that is passed over is the definition's cycle
  passed_whole : record { machine = s1.machine; row = empty_row (s.machine.cycle + 1); piece = [] } ≡ cycle s.desc (word_at s.code) s.machine
  passed_whole =
      let whole : Described → Cycled = λ s1. record { machine = s1.machine; row = empty_row (s.machine.cycle + 1); piece = [] } in
      ap whole begins ∙ sym (h s.machine.cycle (omega arith) l)

  passed_machine : s1.machine ≡ (cycle s.desc (word_at s.code) s.machine).machine
  passed_machine = ap (λ (c : Cycled). c.machine) passed_whole

  -- the cycles after one that is passed over are as still as they were
  still_stays : StillUntil n s1.desc (word_at s1.code) s1.machine
  still_stays = subst (λ (s : Described). StillUntil n s.desc (word_at s.code) s.machine) (sym begins) (λ c k m. h c (omega arith) m)

  pub passed_kept : Aligned (word_at s.code) → Kept (word_at s.code) s → s.machine.end ≡ None → KeptUntil n (word_at s1.code) s1
  passed_kept aligned k e =
      let same = ap (λ (s : Described). s.code) begins in
      record {
        kept =
            subst (λ code. Kept (word_at code) s1) (sym same)
            (kept_after (word_at s.code) s s1 passed_machine aligned k e (ap (λ (s : Described). s.desc) begins) (subst (λ (s : Described). HasAdvanced s.point s.machine.window) (sym begins) k.advanced));
        still = still_stays;
      }

-- ---- after one that wasn't, up to what is due

pub still_after : (n : ℕ) (d : Desc) (code : Code) (x : Machine) (t : Cycled) → t ≡ cycle d code x → (0 < n → t.row.events ≡ []) → (0 < n → t.machine.end ≡ None) → NothingDueBefore n t.machine →
    StillUntil n d code t.machine
still_after zero d code x t e events end due = none_stand zero d code t.machine (omega arith)
still_after (suc n) d code x t e events end due = stands_after_cycle (suc n) d code x t e (events (omega arith)) (end (omega arith)) due
