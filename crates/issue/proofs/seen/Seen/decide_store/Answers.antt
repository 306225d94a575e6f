use Rattle.std.proofs.Common.{arith}
use Rattle.issue.proofs.Storing.{room_left, some_left, some_part, stayed, went}
use Rattle.issue.proofs.seen.Seen.decide_store.Goals as goal

pub grant_data-stored-requires-clause-left : goal.grant_data-stored-requires-clause-left
grant_data-stored-requires-clause-left c = (_, c.args.ports.now, c.requires.left, c.grant_address-address.ensures.asked)

pub after_parts-after-requires-clause-room : goal.after_parts-after-requires-clause-room
after_parts-after-requires-clause-room c =
    let g = c.grant_address-address.ensures in
    let g2 = c.grant_data-stored.ensures in
    let few = room_left c.args.self.now c.args.candidate.now _ _ _ _ _ c.requires.store c.requires.left g.granted g.asked g2.granted g2.asked in
    let room = c.requires.room in
    omega (arith, few, room)

pub note-requires : goal.note-requires
note-requires c =
    let g = c.grant_address-address.ensures in
    let g2 = c.grant_data-stored.ensures in
    let some = some_left c.args.self.now c.args.candidate.now _ _ _ _ _ c.requires.store c.requires.left g.granted g.asked g2.granted g2.asked (some_part _ _ c.then-address.either) in
    let few = c.requires.few in
    record { few = omega (arith, some, few) }

pub returns-then-address : goal.returns-then-address
returns-then-address c =
    let g = c.grant_address-address.ensures in
    let g2 = c.grant_data-stored.ensures in
    went c.args.self.now c.args.candidate.now _ _ _ _ _ c.requires.store c.requires.left g.granted g.asked g2.granted g2.asked c.args.decided.now c.note.new.decided c.args.row.now _ c.after_parts-after.result
    (some_part _ _ c.then-address.either) c.after_parts-after.ensures c.note.ensures.puts c.note.ensures.load

pub returns-else-stored : goal.returns-else-stored
returns-else-stored c =
    let g = c.grant_address-address.ensures in
    let g2 = c.grant_data-stored.ensures in
    stayed c.args.self.now c.args.candidate.now _ _ _ _ _ c.requires.store c.requires.left g.granted g.asked g2.granted g2.asked c.args.decided.now c.args.row.now c.if-address.false c.if-stored.false
