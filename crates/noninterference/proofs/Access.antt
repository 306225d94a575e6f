-- What a load's access comes to is equal in both runs, and the time of a division.
use Rattle.std.proofs.Common.{◌≡◌, true, false, ◌||◌, List, ap}
use Rattle.rv_types.specs.Memory.{Code}
use Rattle.machine_desc.specs.declared.Desc.{Desc}
use Rattle.window_model.specs.declared.Entry.{Entry}
use Rattle.window_model.specs.State.{Machine}
use Rattle.window_model.specs.Order.{is_load, is_store}
use Rattle.window_model.specs.Taint.{any_tainted, address_tainted}
use Rattle.window_model.specs.Around.{around}
use Rattle.window_model.specs.Issue.{time_of, access_of}
use Rattle.window_model.specs.Shape.{SameShape}
use Rattle.committed_state.specs.Consistent.{IsItem}
use Rattle.two_runs.specs.Masks.{without_contents}
use Rattle.two_runs.proofs.Issue.{same_access_of, same_time}
use Rattle.noninterference.specs.Alike.{Alike, without_outcome}
use Rattle.noninterference.specs.Outcomes.{SameOutcomes}
use Rattle.noninterference.proofs.Looking.{seen_by_outcomes}
use Rattle.noninterference.proofs.Operands.{addresses_alike, base_alike, untainted_base_of}
use Rattle.noninterference.proofs.Loads.{by_base}

module _ (d : Desc) (code : Code) (x x2 : Machine) (r : Alike x x2) (place : SameShape x.ram x2.ram) (b b2 : List Entry) (same : SameOutcomes d.stt_model b b2) (e e2 : Entry) (h : without_outcome e ≡ without_outcome e2) where
  regs_same : x.regs ≡ x2.regs
  regs_same = ap (λ (m : Machine). m.regs) r

  -- a load with an untainted base has the same access in both runs
  pub untainted_access : IsItem code e.item → is_load e.item.kind ≡ true → address_tainted d.stt_model b e ≡ false → access_of d (around x) b e ≡ access_of d (around x2) b2 e2
  untainted_access item k t =
      same_access_of d x x2 (ap without_contents r) b b2 (seen_by_outcomes d.stt_model b b2 same) e e2 h place
      (addresses_alike d.stt_model x x2 regs_same b b2 same e e2 h (by_base code e item (ap (λ l. l || is_store e.item.kind) k)) t)

  -- a division with untainted operands takes the same time in both runs
  pub untainted_time : any_tainted d.stt_model b e ≡ false → time_of x.regs b e ≡ time_of x2.regs b2 e2
  untainted_time t =
      same_time d x x2 (ap without_contents r) b b2 (seen_by_outcomes d.stt_model b b2 same) e e2 h
      (base_alike d.stt_model x x2 regs_same b b2 same e e2 h (untainted_base_of d.stt_model x x2 regs_same b b2 same e e2 h t))
