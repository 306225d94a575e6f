use Rattle.std.proofs.Common.{sym, ◌∙◌, arith}
use Rattle.shown_marks.proofs.Standing.{reached_first, reached_next, reached_rest, reached_shows, reached_to}
use Rattle.shown_marks.proofs.seen.Seen.operands_shown.Goals as goal

pub loop-station-init : goal.loop-station-init
loop-station-init c = record {
  reached = reached_first c.args.self.now c.requires.stands;
  within = omega arith;
}

pub next_able-requires : goal.next_able-requires
next_able-requires c = c.loop-station.invariant.within

-- ---- at the next station that is able

pub candidate_at-candidate-requires-clause-within : goal.candidate_at-candidate-requires-clause-within
candidate_at-candidate-requires-clause-within c = c.in-Some.ensures.next.within

pub candidate_at-candidate-requires-clause-able : goal.candidate_at-candidate-requires-clause-able
candidate_at-candidate-requires-clause-able c = c.in-Some.ensures.next.here

pub returns-then-operand_shows : goal.returns-then-operand_shows
returns-then-operand_shows c =
    let next = c.in-Some.ensures.next in
    let within = next.within in
    reached_shows c.args.self.now c.requires.stands c.in-Some.station c.candidate_at-candidate.result c.candidate_at-candidate.ensures.turn c.candidate_at-candidate.ensures.station
    c.shown_by.result (sym c.operand_shows.ensures ∙ c.if-operand_shows.true) c.shown_by.ensures
    (reached_to c.args.self.now c.requires.stands c.loop-station.from c.in-Some.station next.low (omega (arith, within)) next.before c.loop-station.invariant.reached)

pub loop-station-preserved : goal.loop-station-preserved
loop-station-preserved c =
    let next = c.in-Some.ensures.next in
    let within = next.within in
    record {
      reached = reached_next c.args.self.now c.requires.stands c.in-Some.station c.candidate_at-candidate.result c.candidate_at-candidate.ensures.turn c.candidate_at-candidate.ensures.station
          (sym c.operand_shows.ensures ∙ c.if-operand_shows.false)
          (reached_to c.args.self.now c.requires.stands c.loop-station.from c.in-Some.station next.low (omega (arith, within)) next.before c.loop-station.invariant.reached);
      within = omega (arith, within);
    }

-- ---- no further station is able

pub returns : goal.returns
returns c = reached_rest c.args.self.now c.requires.stands c.loop-station.from c.loop-station.invariant.within c.in_default.ensures.next c.loop-station.invariant.reached
