use Rattle.kept_entry.proofs.Standing.{in_window, waits_at}
use Rattle.kept_entry.proofs.seen.Seen.found.Goals as goal

pub unreachable-requires : goal.unreachable-requires
unreachable-requires c = in_window c.args.self.now c.requires.stands c.args.station c.serial.result c.requires.within c.serial.ensures (c.find.ensures.lacking c.in-None.is)

pub returns : goal.returns
returns c = record {
  stands = c.requires.stands;
  within = c.requires.within;
  here = waits_at c.args.self.now c.requires.stands c.args.station c.serial.result c.in-Some.found.position c.in-Some.found.entry.now c.requires.within c.serial.ensures c.in-Some.ensures.position c.in-Some.ensures.entry;
}
