use Rattle.std.proofs.Common.{◌≤◌, ◌<◌, sym, subst}
use Rattle.fetch_unit.specs.Unit.{IsAsked}
use Rattle.fetch_unit.proofs.Asked.{room_stays}
use Rattle.fetch_unit.proofs.unit.Fetch.add.Goals as goal

pub invariant_of-self : goal.invariant_of-self
invariant_of-self c =
    let width = c.self.inside.width in
    subst (λ room. (width ≤ 4) × (room < 4294967296) × IsAsked width room)
    (sym (room_stays _ _ _ _ _ c.try_push_back.ensures.ok c.try_push_back.ensures.err)) c.self.invariant
