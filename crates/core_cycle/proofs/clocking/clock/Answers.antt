use Rattle.std.proofs.Common.{◌∙◌, ap, arith}
use Rattle.quiet_cycles.specs.Still.{empty_row}
use Rattle.core_parts.specs.Described.{Described}
use Rattle.core_cycle.proofs.Cycling.{count_stays, cycle_is, cycle_kept, cycle_retires, end_stays, serial_stays, settled_left, text_aligned}
use Rattle.core_cycle.proofs.Passing.{passed_kept}
use Rattle.core_cycle.proofs.clocking.clock.Goals as goal

-- ---- a cycle that is passed over

pub returns-then-parts-until-clause-kept : goal.returns-then-parts-until-clause-kept
returns-then-parts-until-clause-kept g c =
    let number = ap (λ (s : Described). s.machine.cycle) c.parts.view_is ∙ ap (λ (s : Described). s.machine.cycle) c.begin.ensures in
    passed_kept c.args.until c.args.parts.now c.begin.new.self c.begin.ensures c.requires.kept.still (omega (arith, number, c.if-parts-until.true))
    (text_aligned c.args.parts.now.code) c.requires.kept.kept c.requires.running

-- ---- one whose phases go

pub retire-requires-clause-running : goal.retire-requires-clause-running
retire-requires-clause-running g c =
    end_stays _ _ c.before_retire.new.parts (record { begins = c.begin.ensures; goes = c.before_retire.ensures.machine }) ∙ c.requires.running

pub retire-requires-clause-counts : goal.retire-requires-clause-counts
retire-requires-clause-counts g c =
    let same = count_stays _ _ c.before_retire.new.parts (record { begins = c.begin.ensures; goes = c.before_retire.ensures.machine }) in
    omega (arith, same, c.requires.few, c.requires.kept.kept.counted.retired)

pub after_retire-requires-clause-settled : goal.after_retire-requires-clause-settled
after_retire-requires-clause-settled g c =
    settled_left _ _ c.before_retire.new.parts (record { begins = c.begin.ensures; goes = c.before_retire.ensures.machine }) c.retire.new.parts c.retire.ensures.machine c.requires.kept.kept.timely

pub after_retire-requires-clause-serials : goal.after_retire-requires-clause-serials
after_retire-requires-clause-serials g c =
    let same =
    serial_stays _ _ c.before_retire.new.parts (record { begins = c.begin.ensures; goes = c.before_retire.ensures.machine }) c.retire.new.parts c.retire.ensures.machine in
    omega (arith, same, c.requires.few, c.requires.kept.kept.counted.serials)

pub returns-clause-cycled : goal.returns-clause-cycled
returns-clause-cycled g c =
    let number = ap (λ (s : Described). s.machine.cycle) c.parts.view_is ∙ ap (λ (s : Described). s.machine.cycle) c.begin.ensures in
    cycle_is _ _ c.before_retire.new.parts (record { begins = c.begin.ensures; goes = c.before_retire.ensures.machine }) c.retire.new.parts c.retire.ensures.machine c.after_retire.new.parts c.after_retire.ensures.machine _ _ _ _ c.retire.new.piece
    (record { begins = c.begin-2.ensures ∙ ap empty_row number; fronts = c.before_retire.ensures.row; retires = c.retire.ensures.row; backs = c.after_retire.ensures.row }) c.retire.ensures.piece

pub returns-clause-commits : goal.returns-clause-commits
returns-clause-commits g c =
    cycle_retires _ _ c.before_retire.new.parts (record { begins = c.begin.ensures; goes = c.before_retire.ensures.machine }) c.retire.new.parts c.retire.ensures.machine c.after_retire.new.parts c.after_retire.ensures.machine
    (text_aligned c.args.parts.now.code) c.requires.kept.kept c.requires.running _ c.retire.ensures.piece

pub returns-clause-kept : goal.returns-clause-kept
returns-clause-kept g c =
    let number = ap (λ (s : Described). s.machine.cycle) c.parts.view_is ∙ ap (λ (s : Described). s.machine.cycle) c.begin.ensures in
    cycle_kept _ _ c.before_retire.new.parts (record { begins = c.begin.ensures; goes = c.before_retire.ensures.machine }) c.retire.new.parts c.retire.ensures.machine c.after_retire.new.parts c.after_retire.ensures.machine
    (text_aligned c.args.parts.now.code) c.requires.kept.kept c.requires.running _ _ _ _
    (record { begins = c.begin-2.ensures ∙ ap empty_row number; fronts = c.before_retire.ensures.row; retires = c.retire.ensures.row; backs = c.after_retire.ensures.row })
    c.after_retire.ensures.advanced c.still_until.result c.still_until.ensures.empty c.still_until.ensures.running c.still_until.ensures.due
