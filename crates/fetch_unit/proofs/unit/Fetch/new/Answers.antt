use Rattle.std.proofs.Common.{◌≡◌, ◌≤◌, refl, ap, arith}
use Rattle.circular_buffer.specs.Buffer.{Buffer}
use Rattle.machine_desc.specs.declared.keys.Key.TheVariants.{CoreQueue}
use Rattle.machine_desc.proofs.Newest.{in_newest}
use Rattle.window_model.specs.declared.Item.{Item}
use Rattle.fetch_unit.proofs.unit.Fetch.new.Goals as goal

pub invariant_of-result : goal.invariant_of-result
invariant_of-result c =
    let desc = c.args.desc.now in
    let room : c.in_ok-queue.queue.capacity ≡ desc.core_queue = ap (λ (b : Buffer Item). b.capacity) c.in_ok-queue.ensures in
    let short : desc.core_queue ≤ 32 = (in_newest desc CoreQueue).1 in
    (desc.stands.fetch_width.1, omega (arith, room, short), record { desc = desc; as_wide = refl; as_long = room })
