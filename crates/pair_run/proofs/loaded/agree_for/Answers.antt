use Rattle.std.proofs.Common.{◌≡◌, Bool, true, false, not, ap, sym, subst, refl, ◌∙◌}
use Rattle.std.proofs.Math.Bool.{beq}
use Rattle.rv_types.specs.Memory.{Ram, Agree}
use Rattle.rv_types.specs.Isa.{Hart}
use Rattle.rv_types.specs.Path.{reads}
use Rattle.elf_loader.specs.inner.Code.{word_at}
use Rattle.window_model.specs.Path.{path}
use Rattle.pair_run.proofs.loaded.agree_for.Goals as goal

same_flag : (a b : Bool) → not (beq a b) ≡ false → a ≡ b
same_flag true true e = refl
same_flag false false e = refl
same_flag true false e = absurd (cc)
same_flag false true e = absurd (cc)

pub returns : goal.returns
returns c =
    let one = c.args.one.now in
    let two = c.args.two.now in
    let P : Ram → Hart → Type 0 = λ ram s. Agree one.ram ram (reads (path c.args.model) (word_at c.args.state.now.code) s c.args.steps) in
    let flags : two.ram.misaligned ≡ one.ram.misaligned = sym c.misaligned.ensures ∙ (same_flag _ _ c.if-misaligned.false ∙ c.misaligned-2.ensures) in
    let taken : record one.ram { bytes = c.bytes.result.now } ≡ record one.ram { bytes = two.ram.bytes } = ap (λ bytes. record one.ram { bytes = bytes }) c.bytes.ensures in
    let placed : record one.ram { bytes = two.ram.bytes } ≡ record two.ram { misaligned = one.ram.misaligned } =
    ap (λ base. record { base = base; bytes = two.ram.bytes; misaligned = one.ram.misaligned }) (sym c.requires.base) in
    let second : record one.ram { bytes = c.bytes.result.now } ≡ two.ram = taken ∙ (placed ∙ ap (λ misaligned. record two.ram { misaligned = misaligned }) (sym flags)) in (
      λ t. record {
        same = c.if-not-same_code.false;
        entry = c.if-two-one.false;
        agree = subst (λ s. P two.ram s) c.requires.starts (subst (λ m. P m c.args.state.now.hart) second (c.memories_agree.ensures.0 t));
      },
      λ p. c.memories_agree.ensures.1 (subst (λ m. P m c.args.state.now.hart) (sym second) (subst (λ s. P two.ram s) (sym c.requires.starts) p.agree)),
    )
