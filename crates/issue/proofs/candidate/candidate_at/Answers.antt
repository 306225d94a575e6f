use Rattle.std.proofs.Common.{◌≡◌, sym, subst, ◌∙◌, true}
use Rattle.window_model.specs.Order.{is_waiting}
use Rattle.window_model.proofs.Booleans.{some_of}
use Rattle.issue.proofs.Waiting.{in_window, stands_at}
use Rattle.issue.proofs.candidate.candidate_at.Goals as goal

pub unreachable-requires : goal.unreachable-requires
unreachable-requires c =
    let flight = record (c.requires.refines.0) { window = c.args.rob.now.entries; held = c.args.stations.now.held } in
    in_window flight c.requires.refines.1 c.args.station c.serial.result c.requires.within c.serial.ensures (c.find.ensures.lacking c.in-None.is)

pub returns-clause-waits : goal.returns-clause-waits
returns-clause-waits c =
    let flight = record (c.requires.refines.0) { window = c.args.rob.now.entries; held = c.args.stations.now.held } in
    let t = stands_at flight c.requires.refines.1 _ _ _ c.requires.within c.serial.ensures c.in-Some.ensures.position in
    subst (λ e. is_waiting e.state ≡ true) (sym (some_of c.in-Some.found.entry.now t.entry (sym c.in-Some.ensures.entry ∙ t.is))) t.waits

pub returns-clause-at : goal.returns-clause-at
returns-clause-at c =
    let flight = record (c.requires.refines.0) { window = c.args.rob.now.entries; held = c.args.stations.now.held } in
    sym (stands_at flight c.requires.refines.1 _ _ _ c.requires.within c.serial.ensures c.in-Some.ensures.position).station
