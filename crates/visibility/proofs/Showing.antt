-- Where the point tells of an entry whether it is visible, it tells whether the entry may show its operands.
use Rattle.std.proofs.Common.{◌≡◌, List, not, ◌||◌, ap, ◌∙◌}
use Rattle.machine_desc.specs.declared.Desc.{Desc}
use Rattle.window_model.specs.declared.Entry.{Entry}
use Rattle.window_model.specs.Delay.{delays, may_show}
use Rattle.window_model.specs.Taint.{visible}
use Rattle.visibility.specs.Gate.{may_show_by}
use Rattle.visibility.specs.Point.{Point}
use Rattle.visibility.proofs.Moving.{Tells}

-- by a point of the description's model that tells of an entry, the entry may show its operands where it does by the
-- machine's definition
pub shown_by_point : (d : Desc) (point : Point) (before : List Entry) (e : Entry) → point.model ≡ d.stt_model → Tells point before e →
    may_show_by d point.serial e.serial ≡ may_show d before
shown_by_point d point before e q t = ap (λ v. not (delays d.stt_defence) || v) (t ∙ ap (λ m. visible m before) q)
