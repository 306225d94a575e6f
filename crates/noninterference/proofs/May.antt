-- Issue: who may issue at a port, who asks for it and who is granted one is seen alike.
use Rattle.std.proofs.Common.{◌≡◌, not, ◌&&◌, List, [], ◌∷◌, ap}
use Rattle.machine_desc.specs.declared.Desc.{Desc}
use Rattle.window_model.specs.declared.Entry.{Entry}
use Rattle.window_model.specs.State.{Machine}
use Rattle.window_model.specs.Around.{around}
use Rattle.window_model.specs.Ports.{Port, is_granted, may_at}
use Rattle.window_model.specs.Order.{is_load, is_waiting}
use Rattle.window_model.specs.Delay.{may_show}
use Rattle.window_model.specs.Ready.{ready}
use Rattle.window_model.specs.Shape.{SameShape}
use Rattle.window_model.specs.Taint.{address_tainted}
use Rattle.window_model.proofs.Booleans.{both, not_true}
use Rattle.noninterference.specs.Alike.{Alike, without_outcome}
use Rattle.noninterference.specs.Outcomes.{SameOutcomes}
use Rattle.noninterference.proofs.Operands.{address_alike}
use Rattle.noninterference.proofs.Looking.{seen_by_outcomes}
use Rattle.two_runs.proofs.May as seen
use Rattle.two_runs.specs.Masks.{without_contents}
use Rattle.two_runs.proofs.Seeing.{seen_machine}
use Rattle.two_runs.specs.Seen.{AsksAlike, EachAsks, SeenMachine}

module _ (d : Desc) (x x2 : Machine) (r : Alike x x2) (place : SameShape x.ram x2.ram) where
  beside : SeenMachine x x2
  beside = seen_machine x x2 (ap without_contents r) place

  -- a load with an untainted base has one address in both runs
  asks : (b b2 : List Entry) → SameOutcomes d.stt_model b b2 → (e e2 : Entry) → without_outcome e ≡ without_outcome e2 → AsksAlike d x x2 b b2 e e2
  asks b b2 s e e2 h q =
      let w = (both (is_load e.item.kind) _ q).1 in
      let t = (both (is_waiting e.state && ready d b e) (not (address_tainted d.stt_model b e) && may_show d b) w).1 in
      address_alike d.stt_model x x2 (ap (λ (m : Machine). m.regs) r) b b2 s e e2 h
      (not_true _ (both (not (address_tainted d.stt_model b e)) (may_show d b) t).0)

  each_asks : (b b2 : List Entry) → SameOutcomes d.stt_model b b2 → EachAsks d x x2 b b2
  each_asks [] [] s = tt
  each_asks (e ∷ b) (e2 ∷ b2) s = (asks b b2 s.1 e e2 s.0.but_outcome, each_asks b b2 s.1)
  each_asks _ _ s = absurd s

  -- two runs see alike whether an entry may issue at a port
  pub at_alike : (b b2 : List Entry) (s : SameOutcomes d.stt_model b b2) (e e2 : Entry) (h : without_outcome e ≡ without_outcome e2) (port : Port) → may_at d (around x) port b e ≡ may_at d (around x2) port b2 e2
  at_alike b b2 s e e2 h port = seen.at_alike d x x2 beside b b2 (seen_by_outcomes d.stt_model b b2 s) e e2 h port (asks b b2 s e e2 h)

  -- two runs see alike whether an entry is granted a port
  pub granted_alike : (b b2 : List Entry) → SameOutcomes d.stt_model b b2 → (e e2 : Entry) → without_outcome e ≡ without_outcome e2 → (port : Port) → is_granted d (around x) port b e ≡ is_granted d (around x2) port b2 e2
  granted_alike b b2 s e e2 h port =
      seen.granted_alike d x x2 beside b b2 (seen_by_outcomes d.stt_model b b2 s) (each_asks b b2 s) e e2 h port (asks b b2 s e e2 h)
