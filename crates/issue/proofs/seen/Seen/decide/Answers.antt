use Rattle.std.proofs.Common.{length, ap, arith, refl}
use Rattle.issue.proofs.Stepping.{WalksAll, left_here, walks_on, walks_rest, walks_to}
use Rattle.issue.proofs.Walking.{walked_none}
use Rattle.issue.proofs.seen.Seen.decide.Goals as goal

pub loop-station-init : goal.loop-station-init
loop-station-init c =
    let nothing = c.requires.nothing in
    let none = ap length nothing.puts in
    let few = c.requires.few in
    let events = c.requires.events in
    record {
      walks = record {
        walked = walked_none c.args.self.now c.args.ports.now _ _ _ nothing.puts nothing.load c.requires.left;
        only = record { alus = refl; cycle = refl };
        few = omega (arith, none, few);
        room = omega (arith, events);
        cycle = refl;
      };
      within = omega arith;
    }

pub next_able-requires : goal.next_able-requires
next_able-requires c = c.loop-station.invariant.within

-- ---- one that has its turn

pub candidate_at-candidate-requires-clause-within : goal.candidate_at-candidate-requires-clause-within
candidate_at-candidate-requires-clause-within c = c.in-Some.ensures.next.within

pub candidate_at-candidate-requires-clause-able : goal.candidate_at-candidate-requires-clause-able
candidate_at-candidate-requires-clause-able c = c.in-Some.ensures.next.here

pub decide_entry-requires-clause-left : goal.decide_entry-requires-clause-left
decide_entry-requires-clause-left c =
    let next = c.in-Some.ensures.next in
    let within = next.within in
    left_here c.args.self.now _ _ _ _ _ c.requires.stands c.in-Some.station c.candidate_at-candidate.result c.candidate_at-candidate.ensures.turn c.candidate_at-candidate.ensures.station
    (walks_to c.args.self.now _ _ _ _ _ c.requires.stands c.loop-station.from c.in-Some.station next.low (omega (arith, within)) next.before c.loop-station.invariant.walks)

pub loop-station-preserved : goal.loop-station-preserved
loop-station-preserved c =
    let next = c.in-Some.ensures.next in
    let within = next.within in
    record {
      walks = walks_on c.args.self.now _ _ _ _ _ c.requires.stands c.in-Some.station c.candidate_at-candidate.result _ _ _ c.candidate_at-candidate.ensures.turn c.candidate_at-candidate.ensures.station c.decide_entry.ensures
          (walks_to c.args.self.now _ _ _ _ _ c.requires.stands c.loop-station.from c.in-Some.station next.low (omega (arith, within)) next.before c.loop-station.invariant.walks);
      within = omega (arith, within);
    }

-- ---- no further station is able

out : (c : goal.In_default) → WalksAll c.args.self.now c.args.ports.now c.loop-station.ports c.loop-station.decided c.args.row.now c.loop-station.row
out c = walks_rest c.args.self.now _ _ _ _ _ c.requires.stands c.loop-station.from c.loop-station.invariant.within c.in_default.ensures.next c.loop-station.invariant.walks

pub returns-clause-decides : goal.returns-clause-decides
returns-clause-decides c = (out c).decides

pub returns-clause-puts : goal.returns-clause-puts
returns-clause-puts c = (out c).puts

pub returns-clause-row : goal.returns-clause-row
returns-clause-row c = (out c).row
