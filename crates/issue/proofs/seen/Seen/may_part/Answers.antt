use Rattle.std.proofs.Common.{◌∙◌, ◌&&◌, ap, ap₂, sym, arith, false}
use Rattle.window_model.specs.Delay.{may_show}
use Rattle.window_model.specs.Order.{sources}
use Rattle.window_model.specs.Ready.{all_known}
use Rattle.refinement.proofs.Stations.{station_within}
use Rattle.refinement.specs.Telling.{own_of}
use Rattle.issue.specs.Ports.{part_port, part_shows}
use Rattle.issue.specs.State.{around_of, before_of, flight_of}
use Rattle.issue.proofs.Asking.{first_ready, in_step, part_asks, part_gone, part_may_by, second_ready}
use Rattle.issue.proofs.Testing.{part_is}
use Rattle.issue.proofs.seen.Seen.may_part.Goals as goal

pub returns-then-has_issued : goal.returns-then-has_issued
returns-then-has_issued c =
    let s = c.args.self.now in
    let e = c.args.candidate.now.entry.now in
    let before = before_of s c.args.candidate.now in
    sym (part_asks s.desc.now (around_of s) before e (part_port c.args.part) c.requires.store ∙ part_gone c.args.part s.desc.now before e (sym c.has_issued.ensures ∙ c.if-has_issued.true))

pub returns-then-stores_in_one : goal.returns-then-stores_in_one
returns-then-stores_in_one c =
    let s = c.args.self.now in
    let t = c.requires.turn in
    let e = c.args.candidate.now.entry.now in
    let before = before_of s c.args.candidate.now in
    let shows = part_shows c.args.part (may_show s.desc.now before) in
    let all = first_ready s.desc.now before e (own_of c.args.part (sources e)) shows (in_step s c.args.candidate.now.position e t.stands t.candidate.at) (sym c.stores_in_one.ensures ∙ c.if-stores_in_one.true) c.requires.store t.candidate.waits t.candidate.able in
    c.may_show.ensures
    ∙ sym (part_asks s.desc.now (around_of s) before e (part_port c.args.part) c.requires.store ∙ part_may_by c.args.part s.desc.now before e (may_show s.desc.now before) (sym c.has_issued.ensures ∙ c.if-has_issued.false) all)

pub returns-then-not-part_shows : goal.returns-then-not-part_shows
returns-then-not-part_shows c =
    let s = c.args.self.now in
    let e = c.args.candidate.now.entry.now in
    let before = before_of s c.args.candidate.now in
    let own = own_of c.args.part (sources e) in
    let shows = part_shows c.args.part (may_show s.desc.now before) in
    sym (part_asks s.desc.now (around_of s) before e (part_port c.args.part) c.requires.store
    ∙ part_may_by c.args.part s.desc.now before e false (sym c.has_issued.ensures ∙ c.if-has_issued.false)
    (second_ready s.desc.now before e own shows (sym c.stores_in_one.ensures ∙ c.if-stores_in_one.false) ∙ ap (λ b. b && all_known s.desc.now before own) (sym c.part_shows.ensures ∙ c.if-not-part_shows.true)))

pub ready_part-requires : goal.ready_part-requires
ready_part-requires c =
    let s = c.args.self.now in
    let t = c.requires.turn in
    let within = station_within (flight_of t.stands.next t.stands.writes s) c.args.candidate.now.position c.args.candidate.now.entry.now t.stands.refines t.candidate.at t.candidate.waits in
    let is = t.candidate.station in
    omega (arith, within, is)

pub returns : goal.returns
returns c =
    let s = c.args.self.now in
    let t = c.requires.turn in
    let e = c.args.candidate.now.entry.now in
    let before = before_of s c.args.candidate.now in
    let own = own_of c.args.part (sources e) in
    let shows = part_shows c.args.part (may_show s.desc.now before) in
    let ready = part_is s c.args.candidate.now.position e t.stands t.candidate.at c.args.part c.args.candidate.now.station c.ready_part.result t.candidate.waits t.candidate.station c.ready_part.ensures in
    sym (part_asks s.desc.now (around_of s) before e (part_port c.args.part) c.requires.store
    ∙ part_may_by c.args.part s.desc.now before e c.ready_part.result (sym c.has_issued.ensures ∙ c.if-has_issued.false)
    (second_ready s.desc.now before e own shows (sym c.stores_in_one.ensures ∙ c.if-stores_in_one.false) ∙ ap₂ (λ a b. a && b) (sym c.part_shows.ensures ∙ c.if-not-part_shows.false) (sym ready)))
