-- The turns that are left make of what is left now what the whole phase makes of what was there at first.
use Rattle.std.proofs.Common.{◌-◌}
use Rattle.retire.proofs.Leaving.{RetiresOn}
use Rattle.retire.proofs.phase.retire.Given as goal

abbrev pub invariant-loop : goal.invariant-loop
invariant-loop g l =
    RetiresOn l.desc
    (record { rob = l.initial.rob; writes = g.R.RenameTaint.writes l.initial.table; table_room = g.R.RenameTaint.room l.initial.table; queues = l.initial.lsq; tags = l.initial.tags; ram = l.initial.ram; regs = l.initial.regs; pc = l.initial.pc; row = l.initial.row; piece = l.initial.piece })
    (l.desc.core_retire_width - l.counter) l.stored
    (record { rob = l.rob; writes = g.R.RenameTaint.writes l.table; table_room = g.R.RenameTaint.room l.table; queues = l.lsq; tags = l.tags; ram = l.ram; regs = l.regs; pc = l.pc; row = l.row; piece = l.piece })
