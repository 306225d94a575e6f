-- The core begins where the image does, in cycle 0.
use Rattle.std.proofs.Common.{◌≡◌, option_map, subst}
use Rattle.elf_loader.specs.inner.Code.{word_at}
use Rattle.window_model.specs.Cycle.{trace_from}
use Rattle.core_cycle.specs.Programmed.{Programmed}
use Rattle.slot_reasons.specs.Reasons.{first_known}
use Rattle.slot_reasons.specs.Slots.{seen}
use Rattle.tool_io.specs.Outside.{Wrote}
use Rattle.stats_top.specs.Stats.{stats_from}
use Rattle.stats_top.proofs.performing.perform.Goals as goal

pub returns : goal.returns
returns g c =
    let every = option_map (λ k. k.cycles) c.args.every in
    let P : Programmed → Type 0 = λ p. Wrote (stats_from every p.machine.cycle (seen p.desc (word_at p.code) c.args.cycles p.machine first_known) (trace_from p.desc (word_at p.code) c.args.cycles p.machine)) (g.O.Sink.told c.args.out.now) (g.O.Sink.told c.write_stats.new.out)
    × (c.in_ok-end.end ≡ (trace_from p.desc (word_at p.code) c.args.cycles p.machine).end) in
    subst P c.in_ok-core.ensures c.in_ok-end.ensures
