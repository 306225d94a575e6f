use Rattle.std.proofs.Common.{◌∙◌, ap, sym}
use Rattle.machine_desc.specs.declared.Desc.{Desc}
use Rattle.window_model.specs.Taint.{protects}
use Rattle.kept_entry.proofs.Lending.{none_kept}
use Rattle.kept_entry.proofs.kept.oldest_kept.Goals as goal

pub returns-then-not-protects : goal.returns-then-not-protects
returns-then-not-protects g c =
    none_kept c.args.core.now.desc c.args.core.now.machine.window
    (ap (λ (d : Desc). protects d.stt_model) (sym c.requires.desc) ∙ sym c.protects.ensures ∙ c.if-not-protects.true)
