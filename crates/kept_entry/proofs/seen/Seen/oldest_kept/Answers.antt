use Rattle.std.proofs.Common.{subst, arith}
use Rattle.kept_entry.specs.State.{TellsAsked}
use Rattle.kept_entry.proofs.Standing.{reached_first, reached_kept, reached_next, reached_rest, reached_to}
use Rattle.kept_entry.proofs.seen.Seen.oldest_kept.Goals as goal

pub loop-station-init : goal.loop-station-init
loop-station-init g c = record {
  reached = reached_to c.args.self.now c.requires.stands 0 c.begins-from.result (omega arith) c.begins-from.ensures.within c.begins-from.ensures.passed (reached_first c.args.self.now c.requires.stands);
  within = c.begins-from.ensures.within;
}

pub returns-then-is_asked : goal.returns-then-is_asked
returns-then-is_asked g c =
    let s = c.args.self.now in
    let next = c.in-Some.ensures.next in
    let within = next.within in
    reached_kept s c.requires.stands c.in-Some.station c.kept_at.result
    (subst (TellsAsked s c.in-Some.station) c.if-is_asked.true c.is_asked.ensures)
    c.kept_at.ensures
    (reached_to s c.requires.stands c.loop-station.from c.in-Some.station next.low (omega (arith, within)) next.before c.loop-station.invariant.reached)

pub loop-station-preserved : goal.loop-station-preserved
loop-station-preserved g c =
    let s = c.args.self.now in
    let next = c.in-Some.ensures.next in
    let within = next.within in
    record {
      reached = reached_next s c.requires.stands c.in-Some.station
          (subst (TellsAsked s c.in-Some.station) c.if-is_asked.false c.is_asked.ensures)
          (reached_to s c.requires.stands c.loop-station.from c.in-Some.station next.low (omega (arith, within)) next.before c.loop-station.invariant.reached);
      within = omega (arith, within);
    }

pub returns : goal.returns
returns g c =
    reached_rest c.args.self.now c.requires.stands c.loop-station.from c.loop-station.invariant.within c.in_default.ensures.next c.loop-station.invariant.reached
