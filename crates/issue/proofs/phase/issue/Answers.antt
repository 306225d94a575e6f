-- Where no station is able the phase leaves all as it is; else what is decided is what the definition decides, and what
-- is written comes to what it leaves.
use Rattle.std.proofs.Common.{◌+◌, ap, ap₂, sym, ◌∙◌, arith}
use Rattle.rob_ring.specs.Ring.{Ring}
use Rattle.unit_ports.specs.Ports.{Ports}
use Rattle.core_parts.specs.Held.{Sizes}
use Rattle.issue.proofs.Idle.{idle_row, idle_shown}
use Rattle.issue.proofs.Issued.{advanced, all_left, decides, events_few, few_left, issued_advanced, issued_row, issued_shown, issued_whole, registers_fit, registers_left, refining, settled}
use Rattle.issue.proofs.Naming.{machine_named}
use Rattle.issue.proofs.phase.issue.Goals as goal

pub returns-then-not-any_able-clause-machine : goal.returns-then-not-any_able-clause-machine
returns-then-not-any_able-clause-machine g c = sym c.parts.view_is ∙ idle_shown _ _ c.parts.invariant (advanced _ _ c.parts.invariant c.parts.view_is c.requires.advanced) (sym c.any_able.ensures ∙ c.if-not-any_able.true) c.parts.view_is

pub returns-then-not-any_able-clause-row : goal.returns-then-not-any_able-clause-row
returns-then-not-any_able-clause-row g c = idle_row _ _ _ c.parts.invariant (advanced _ _ c.parts.invariant c.parts.view_is c.requires.advanced) (sym c.any_able.ensures ∙ c.if-not-any_able.true) c.parts.view_is

pub decide-requires-clause-stands : goal.decide-requires-clause-stands
decide-requires-clause-stands g c =
    let w = c.parts.invariant in
    record {
      next = _;
      writes = _;
      refines = w.refines;
      store_parts = w.sized.parts;
      together = w.sized.together;
      settled = settled _ _ w c.parts.view_is c.requires.settled;
      advanced = advanced _ _ w c.parts.view_is c.requires.advanced;
      model = ap (λ (s : Sizes). s.model) w.made;
      bits = ap (λ (s : Sizes). s.bits) w.made;
      cache = ap (λ (s : Sizes). s.tags) w.made;
      second = ap (λ (s : Sizes). s.second) w.made;
      registers = ap (λ (s : Sizes). s.registers) w.made;
      fits = registers_fit _ w;
      memory = ap₂ (λ base size. base + size) c.base.ensures.value c.size.ensures.value;
      low = let base = c.base.ensures.value in let end = c.size.ensures.end in omega (arith, base, end);
    }

pub decide-requires-clause-left : goal.decide-requires-clause-left
decide-requires-clause-left g c = all_left _ _ _ _ c.parts.invariant c.begin.ensures

pub decide-requires-clause-few : goal.decide-requires-clause-few
decide-requires-clause-few g c = few_left _ _ _ c.parts.invariant c.begin.ensures

pub decide-requires-clause-events : goal.decide-requires-clause-events
decide-requires-clause-events g c = events_few _ _ _ c.parts.invariant c.begin.ensures

pub place-requires-clause-refines : goal.place-requires-clause-refines
place-requires-clause-refines g c = refining _ c.parts.invariant

pub take_registers-requires : goal.take_registers-requires
take_registers-requires g c =
    let k = decides _ _ _ _ _ c.decide.new.decided c.parts.invariant c.divider-divider.ensures c.begin.ensures c.decide.ensures.decides in
    record { room = registers_left _ c.decide.new.decided _ c.parts.invariant k }

pub invariant_of-parts : goal.invariant_of-parts
invariant_of-parts g c =
    let k = decides _ _ _ _ _ c.decide.new.decided c.parts.invariant c.divider-divider.ensures c.begin.ensures c.decide.ensures.decides in
    issued_whole _ c.decide.new.decided _ _ _ _ _ _ _ c.parts.invariant k c.place.ensures.window c.touch.ensures c.take_registers.ensures.second c.take_registers.ensures.misses
    c.place.ensures.refines c.place.ensures.same_places c.place.ensures.same_loads c.place.ensures.same_stores (c.decide.ensures.only.alus ∙ ap (λ (p : Ports). p.alus) c.begin.ensures)

pub returns-clause-machine : goal.returns-clause-machine
returns-clause-machine g c =
    let k = decides _ _ _ _ _ c.decide.new.decided c.parts.invariant c.divider-divider.ensures c.begin.ensures c.decide.ensures.decides in
    issued_shown _ c.decide.new.decided _ c.place.new.stations c.place.new.lsq _ _ _ c.decide.new.ports c.parts.invariant k
    c.place.ensures.window c.touch.ensures c.take_registers.ensures.second c.take_registers.ensures.misses _ c.parts.view_is

pub returns-clause-row : goal.returns-clause-row
returns-clause-row g c = issued_row _ _ _ _ _ c.parts.invariant c.divider-divider.ensures c.decide.ensures.row c.parts.view_is

pub returns-clause-advanced : goal.returns-clause-advanced
returns-clause-advanced g c =
    let k = decides _ _ _ _ _ c.decide.new.decided c.parts.invariant c.divider-divider.ensures c.begin.ensures c.decide.ensures.decides in
    issued_advanced _ c.decide.new.decided _ c.place.new.stations c.place.new.lsq _ _ _ c.decide.new.ports c.parts.invariant k
    c.place.ensures.window c.touch.ensures c.take_registers.ensures.second c.take_registers.ensures.misses _ c.parts.view_is c.requires.advanced

pub returns-clause-named : goal.returns-clause-named
returns-clause-named g c =
    machine_named _ _ c.decide.new.decided.puts.items _ _ c.parts.invariant c.parts.view_is c.decide.ensures.puts (ap (λ (r : Ring). r.entries) c.place.ensures.window) c.name_each.ensures
