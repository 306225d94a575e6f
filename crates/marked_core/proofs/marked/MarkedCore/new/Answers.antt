use Rattle.std.proofs.Common.{true, ap, length, sym, subst, ◌∙◌}
use Rattle.elf_loader.specs.inner.Code.{word_at}
use Rattle.core_parts.specs.Described.{Described, described_opening}
use Rattle.core_cycle.specs.Kept.{Kept}
use Rattle.core_cycle.proofs.Opening.{opening_kept}
use Rattle.secret_marks.specs.Marks.{Marks}
use Rattle.secret_marks.specs.Ranges.{secret_in}
use Rattle.marked_core.specs.InStep.{Between}
use Rattle.mark_words.proofs.Secrets.{marks_length}
use Rattle.marked_core.proofs.Unexposed.{none_in_flight}
use Rattle.marked_core.proofs.marked.MarkedCore.new.Goals as goal

-- the core that is made has what is to hold between two cycles
pub invariant_of-result : goal.invariant_of-result
invariant_of-result g c =
    let begun : Kept (word_at c.args.image.code) (described_opening c.args.desc.now c.args.image.code c.args.image.entry c.args.image.ram) =
    opening_kept c.args.desc.now c.args.image.code c.args.image.entry c.args.image.ram in
    let opens : Between (described_opening c.args.desc.now c.args.image.code c.args.image.entry c.args.image.ram) c.in_ok-marks.marks true =
    record {
      kept = begun;
      step = record { entries = ap (λ (m : Marks). length m.window) c.in_ok-marks.ensures.marks; room = c.in_ok-marks.ensures.room };
      issued = tt;
      noted = λ h. none_in_flight c.in_ok-marks.marks.window.items;
      memory = ap (λ (m : Marks). length m.bytes) c.in_ok-marks.ensures.marks ∙ marks_length (secret_in c.args.secret.now) c.args.image.ram.base (length c.args.image.ram.bytes);
    } in
    subst (λ (s : Described). Between s c.in_ok-marks.marks true) (sym c.in-Ok.ensures.ok)
    (subst (λ (s : Described). Between s c.in_ok-marks.marks true) (sym c.in_ok-parts.ensures) opens)
