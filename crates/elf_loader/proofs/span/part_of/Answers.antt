use Rattle.std.proofs.Common.{◌≡◌, ◌+◌, ◌-◌, ◌≤◌, ℕ, Bool, List, length, drop, ap, ap₂, ◌∙◌, arith}
use Rattle.std.specs.Prelude.{slice_range}
use Rattle.std.proofs.lemmas.List.{length-take-le, length-drop}
use Rattle.rv_types.specs.Memory.{Ram, with_bytes}
use Rattle.elf_loader.specs.inner.Spans.{part}
use Rattle.elf_loader.proofs.PartLoaded.{room, part_whole}
use Rattle.elf_loader.proofs.span.part_of.Goals as goal

pub place-requires : goal.place-requires
place-requires c =
    let inside : c.args.span.to ≤ length c.bytes.result.now = omega (arith, c.requires.span.behind, ap length c.bytes.ensures) in
    room c.in_ok-part.part c.misaligned.result (c.base.result + c.args.span.from) c.args.span.from c.args.span.to c.bytes.result.now c.in_ok-part.ensures inside

pub returns : goal.returns
returns c =
    let from = c.args.span.from in
    let to = c.args.span.to in
    let bytes = c.bytes.result.now in
    let base = c.base.result + from in
    let many : length (slice_range bytes from to) ≡ to - from =
    length-take-le (to - from) (drop from bytes) (omega (arith, c.requires.span.behind, ap length c.bytes.ensures, length-drop from bytes)) in
    c.place.ensures
    ∙ ap (λ (r : Ram). with_bytes r base (slice_range bytes from to)) c.in_ok-part.ensures
    ∙ part_whole c.misaligned.result base (to - from) (slice_range bytes from to) many
    ∙ ap₂ (λ (b : ℕ) (v : List ℕ). record { base = b + from; bytes = slice_range v from to; misaligned = c.misaligned.result }) c.base.ensures.value c.bytes.ensures
    ∙ ap (λ (m : Bool). record (part c.args.ram.now from to) { misaligned = m }) c.misaligned.ensures
