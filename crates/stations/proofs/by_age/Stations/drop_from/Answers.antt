use Rattle.std.proofs.Common.{◌≡◌, ◌-◌, ap, ap₂, sym, ◌∙◌, arith, true, false, length}
use Rattle.std.specs.Prelude.{nat_le}
use Rattle.std.specs.List.{remove}
use Rattle.std.proofs.lemmas.List.Edits.{length-remove}
use Rattle.stations.specs.Stations.{Stations}
use Rattle.stations.specs.Places.{is_youngest}
use Rattle.stations.proofs.Dropping.{drop_end, drop_on, last_some}
use Rattle.stations.proofs.by_age.Stations.drop_from.Goals as goal

pub returns-then-not-is_youngest_from : goal.returns-then-not-is_youngest_from
returns-then-not-is_youngest_from c =
    let a = c.is_youngest_from.ensures.value in
    let b = c.if-not-is_youngest_from.true in
    let h : is_youngest (λ s. nat_le c.args.serial s.serial) c.loop-turn.self.held ≡ false = cc in
    ap₂ (λ h r. record { held = h; room = r }) (sym (drop_end c.args.serial c.loop-turn.self.held c.is_youngest_from.ensures.rise h) ∙ c.loop-turn.invariant.held) c.loop-turn.invariant.room

pub loop-turn-preserved : goal.loop-turn-preserved
loop-turn-preserved c =
    let a = c.is_youngest_from.ensures.value in
    let b = c.if-not-is_youngest_from.false in
    let h : is_youngest (λ s. nat_le c.args.serial s.serial) c.loop-turn.self.held ≡ true = cc in
    let some = last_some (λ s. nat_le c.args.serial s.serial) c.loop-turn.self.held h in
    let n : c.len-youngest.result - 1 ≡ length c.loop-turn.self.held - 1 = omega (arith, c.len-youngest.ensures.len) in
    let left = ap (λ (v : Stations). length v.held) c.remove.ensures in
    let fewer = length-remove c.loop-turn.self.held (c.len-youngest.result - 1) (omega (arith, n, some)) in
    record {
      held = drop_on c.args.serial c.loop-turn.self.held _ h (ap (λ (v : Stations). v.held) c.remove.ensures ∙ ap (remove c.loop-turn.self.held) n) ∙ c.loop-turn.invariant.held;
      room = ap (λ (v : Stations). v.room) c.remove.ensures ∙ c.loop-turn.invariant.room;
      turns = omega (arith, left, fewer, c.loop-turn.invariant.turns);
    }
