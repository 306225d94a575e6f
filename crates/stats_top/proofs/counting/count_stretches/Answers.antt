-- Each stretch is counted, and its line is written where it is whole.
use Rattle.std.proofs.Common.{◌≡◌, ◌≤◌, ◌<◌, ◌-◌, ◌∙◌, ap, ap₂, subst, refl, arith}
use Rattle.std.proofs.lemmas.Result.{MatchResult-from_err}
use Rattle.elf_loader.specs.inner.Code.{word_at}
use Rattle.tool_io.specs.Outside.{Wrote, WrotePrefix}
use Rattle.slot_reasons.specs.Slots.{known_at}
use Rattle.stats_top.specs.Stats.{stretch_line}
use Rattle.stats_top.proofs.Tally.{none_written, same_core, stretch_written, stretch_part, stretches_done, stretches_ended}
use Rattle.stats_top.proofs.counting.count_stretches.Goals as goal

pub loop-left-init : goal.loop-left-init
loop-left-init g c = record {
  desc = refl;
  code = refl;
  sound = c.requires.sound;
  written = none_written c.args.every.cycles c.args.every.some _ _ _ _ _ _ _ c.new-numbers.ensures c.carried_at_first-carried.ensures;
}

pub returns-then-cycles-before : goal.returns-then-cycles-before
returns-then-cycles-before g c =
    let old = c.args.core.now.machine in
    let y = c.loop-left.core.machine in
    let z = c.count_stretch-since.new.core.machine in
    let before : c.cycles-before.result ≡ y.cycle = c.cycles-before.ensures in
    let after : c.cycles.result ≡ z.cycle = c.cycles.ensures in
    let test = c.if-cycles-before.true in
    let short : z.cycle - y.cycle < c.args.every.cycles = omega (arith, before, after, test) in
    stretches_ended c.args.every.cycles c.args.every.some c.args.core.now.desc (word_at c.args.core.now.code) c.args.cycles old (g.S.Sink.told c.args.out.now)
    c.loop-left.left y z c.loop-left.numbers c.count_stretch-since.result c.add.new.self c.loop-left.carried.known c.count_stretch-since.new.carried.known c.min-next.result (g.S.Sink.told c.loop-left.out) c.min-next.ensures
    (same_core _ _ _ _ _ _ _ _ _ c.loop-left.invariant.desc c.loop-left.invariant.code c.count_stretch-since.ensures.counted)
    (c.count_stretch-since.ensures.known ∙ ap₂ (λ d k. known_at d k c.min-next.result y c.loop-left.carried.known) c.loop-left.invariant.desc c.loop-left.invariant.code) c.add.ensures c.loop-left.invariant.written short

pub returns-in_err-put : goal.returns-in_err-put
returns-in_err-put g c =
    let old = c.args.core.now.machine in
    let y = c.loop-left.core.machine in
    let z = c.count_stretch-since.new.core.machine in
    let before : c.cycles-before.result ≡ y.cycle = c.cycles-before.ensures in
    let after : c.cycles.result ≡ z.cycle = c.cycles.ensures in
    let test = c.if-cycles-before.false in
    let whole : c.args.every.cycles ≤ z.cycle - y.cycle = omega (arith, before, after, test) in
    let line = c.as_slice.ensures ∙ c.stretch_line.ensures ∙ ap (λ n. stretch_line n c.count_stretch-since.result) c.cycles-in-loop-left.ensures in
    let t = g.S.Sink.told c.loop-left.out in
    let u = g.S.Sink.told c.put.new.self in
    MatchResult-from_err _ _ _ c.from_residual.ensures.0
    (λ _. stretch_part c.args.every.cycles c.args.every.some c.args.core.now.desc (word_at c.args.core.now.code) c.args.cycles old (g.S.Sink.told c.args.out.now)
    c.loop-left.left y z c.loop-left.numbers c.count_stretch-since.result c.add.new.self c.loop-left.carried.known c.count_stretch-since.new.carried.known c.min-next.result t c.min-next.ensures
    (same_core _ _ _ _ _ _ _ _ _ c.loop-left.invariant.desc c.loop-left.invariant.code c.count_stretch-since.ensures.counted)
    (c.count_stretch-since.ensures.known ∙ ap₂ (λ d k. known_at d k c.min-next.result y c.loop-left.carried.known) c.loop-left.invariant.desc c.loop-left.invariant.code) c.add.ensures c.loop-left.invariant.written whole
    u (subst (λ text. WrotePrefix text t u) line c.in_err-put.ensures))

pub loop-left-preserved : goal.loop-left-preserved
loop-left-preserved g c =
    let old = c.args.core.now.machine in
    let y = c.loop-left.core.machine in
    let z = c.count_stretch-since.new.core.machine in
    let before : c.cycles-before.result ≡ y.cycle = c.cycles-before.ensures in
    let after : c.cycles.result ≡ z.cycle = c.cycles.ensures in
    let test = c.if-cycles-before.false in
    let whole : c.args.every.cycles ≤ z.cycle - y.cycle = omega (arith, before, after, test) in
    let line = c.as_slice.ensures ∙ c.stretch_line.ensures ∙ ap (λ n. stretch_line n c.count_stretch-since.result) c.cycles-in-loop-left.ensures in
    let t = g.S.Sink.told c.loop-left.out in
    let u = g.S.Sink.told c.put.new.self in
    record {
      desc = c.count_stretch-since.ensures.desc ∙ c.loop-left.invariant.desc;
      code = c.count_stretch-since.ensures.code ∙ c.loop-left.invariant.code;
      sound = c.count_stretch-since.ensures.sound;
      written = stretch_written c.args.every.cycles c.args.every.some c.args.core.now.desc (word_at c.args.core.now.code) c.args.cycles old (g.S.Sink.told c.args.out.now)
          c.loop-left.left y z c.loop-left.numbers c.count_stretch-since.result c.add.new.self c.loop-left.carried.known c.count_stretch-since.new.carried.known c.min-next.result t c.min-next.ensures
          (same_core _ _ _ _ _ _ _ _ _ c.loop-left.invariant.desc c.loop-left.invariant.code c.count_stretch-since.ensures.counted)
          (c.count_stretch-since.ensures.known ∙ ap₂ (λ d k. known_at d k c.min-next.result y c.loop-left.carried.known) c.loop-left.invariant.desc c.loop-left.invariant.code) c.add.ensures c.loop-left.invariant.written whole
          u (subst (λ text. Wrote text t u) line c.in_ok-put.ensures);
    }

pub returns : goal.returns
returns g c =
    stretches_done c.args.every.cycles c.args.every.some c.args.core.now.desc (word_at c.args.core.now.code) c.args.cycles c.args.core.now.machine (g.S.Sink.told c.args.out.now)
    c.loop-left.left c.loop-left.core.machine c.loop-left.carried.known c.loop-left.numbers (g.S.Sink.told c.loop-left.out) c.loop-left-test.false c.loop-left.invariant.written
