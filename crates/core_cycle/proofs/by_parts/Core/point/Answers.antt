use Rattle.std.proofs.Common.{◌≡◌, subst}
use Rattle.core_parts.specs.Described.{Described}
use Rattle.core_parts.specs.Lent.{ShowsOlder, TellsVisible}
use Rattle.core_parts.proofs.Lending.{point_visible, point_older}
use Rattle.core_cycle.specs.Programmed.{Programmed}
use Rattle.core_cycle.proofs.by_parts.Core.point.Goals as goal

pub returns-clause-visible : goal.returns-clause-visible
returns-clause-visible g c =
    let same = subst (λ (s : Described). c.point.result.now ≡ s.point) c.deref.ensures c.point.ensures.same in
    let model = subst (λ (s : Described). c.point.result.now.model ≡ s.desc.stt_model) c.deref.ensures c.point.ensures.model in
    subst (λ (p : Programmed). TellsVisible p.desc.stt_model c.point.result.now p.machine.window) c.self.view_is (point_visible _ _ _ _ same model c.self.invariant.kept.advanced)

pub returns-clause-older : goal.returns-clause-older
returns-clause-older g c =
    let same = subst (λ (s : Described). c.point.result.now ≡ s.point) c.deref.ensures c.point.ensures.same in
    subst (λ (p : Programmed). ShowsOlder c.point.result.now p.machine.window) c.self.view_is (point_older _ _ _ same c.self.invariant.kept.advanced)
