use Rattle.std.proofs.Common.{◌∙◌, sym, arith}
use Rattle.refinement.proofs.Stations.{station_within}
use Rattle.shown_marks.specs.State.{flight_of}
use Rattle.shown_marks.proofs.Deciding.{address_alone, address_hidden, address_issued, address_with_data}
use Rattle.shown_marks.proofs.seen.Seen.address_may.Goals as goal

pub returns-then-is_some : goal.returns-then-is_some
returns-then-is_some c = address_issued c.args.self.now c.args.candidate.now c.requires.turn (sym c.is_some.ensures ∙ c.if-is_some.true)

pub returns-then-not-may_show : goal.returns-then-not-may_show
returns-then-not-may_show c =
    address_hidden c.args.self.now c.args.candidate.now c.requires.turn _ c.may_show.ensures c.if-not-may_show.true (sym c.is_some.ensures ∙ c.if-is_some.false)

pub returns-then-stores_in_one : goal.returns-then-stores_in_one
returns-then-stores_in_one c =
    address_with_data c.args.self.now c.args.candidate.now c.requires.turn _ c.may_show.ensures c.if-not-may_show.false (sym c.is_some.ensures ∙ c.if-is_some.false)
    (sym c.stores_in_one.ensures ∙ c.if-stores_in_one.true) c.requires.store

pub ready_part-requires : goal.ready_part-requires
ready_part-requires c =
    let s = c.args.self.now in
    let t = c.requires.turn in
    let within = station_within (flight_of t.stands.rest s) c.args.candidate.now.position c.args.candidate.now.entry.now t.stands.refines t.candidate.at t.candidate.waits in
    let is = t.candidate.station in
    omega (arith, within, is)

pub returns : goal.returns
returns c =
    address_alone c.args.self.now c.args.candidate.now c.requires.turn _ c.may_show.ensures c.if-not-may_show.false (sym c.is_some.ensures ∙ c.if-is_some.false)
    c.ready_part.result (sym c.stores_in_one.ensures ∙ c.if-stores_in_one.false) c.ready_part.ensures
