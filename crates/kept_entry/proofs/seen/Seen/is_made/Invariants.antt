use Rattle.std.proofs.Common.{◌≡◌}
use Rattle.window_model.specs.Order.{before_at}
use Rattle.slot_reasons.specs.Kept.{is_made}
use Rattle.kept_entry.proofs.seen.Seen.is_made.Given as goal

abbrev pub invariant-loop-i : goal.invariant-loop-i
invariant-loop-i l = is_made (before_at l.self.rob.now.entries l.i) l.register.number ≡ is_made (before_at l.self.rob.now.entries l.position) l.register.number
