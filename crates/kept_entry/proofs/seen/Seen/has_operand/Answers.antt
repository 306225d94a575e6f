use Rattle.std.proofs.Common.{Some, ap, ◌∙◌, arith}
use Rattle.std.proofs.lemmas.Option.{slice_get_within}
use Rattle.kept_entry.proofs.Looking.{part_made}
use Rattle.kept_entry.proofs.seen.Seen.has_operand.Goals as goal

pub returns-then-ready_part : goal.returns-then-ready_part
returns-then-ready_part c =
    let h = c.requires.stands in
    part_made c.args.self.now h.stands c.args.station c.args.found.now.position c.args.found.now.entry.now c.args.part h.here (c.ready_part.ensures ∙ ap Some c.if-ready_part.true)

pub is_made-requires : goal.is_made-requires
is_made-requires c = let lt = slice_get_within c.args.self.now.rob.now.entries c.args.found.now.position c.args.found.now.entry.now c.requires.stands.here.at in omega (arith, lt)
