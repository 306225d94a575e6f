use Rattle.std.proofs.Common.{◌≡◌, drop}
use Rattle.machine_desc.specs.Table.{some_section}
use Rattle.machine_desc.proofs.keys.some_section.Given as goal

abbrev pub invariant-loop-section : goal.invariant-loop-section
invariant-loop-section l = some_section (drop l.section-index l.sections) l.name ≡ some_section l.sections l.name
