use Rattle.std.proofs.Common.{◌≡◌, ◌≤◌, ℕ, List, length, ap, ap₂, ◌∙◌, arith}
use Rattle.rv_types.specs.Memory.{Ram, with_bytes}
use Rattle.elf_loader.specs.Image.{ram_fault, ram_after, code_of}
use Rattle.elf_loader.specs.inner.Spans.{part}
use Rattle.elf_loader.proofs.Placed.{ram_fault_after}
use Rattle.elf_loader.proofs.PartLoaded.{part_no_fault, length_part, length_loaded, base_loaded, loaded_part, loaded_code, fits}
use Rattle.elf_loader.proofs.loading.filled.Goals as goal

pub place-requires : goal.place-requires
place-requires c =
    let s = c.span_of-span.result in
    let e = c.span_of-span.ensures in
    let up : s.from ≤ s.to = omega (arith, e.some) in
    ap (ram_fault c.args.segments.now) c.in_ok-part.ensures ∙ part_no_fault c.args.segments.now c.args.ram.now s.from s.to up e.span.behind e.all

pub code_in-requires : goal.code_in-requires
code_in-requires c =
    let file = c.args.segments.now in
    let s = c.span_of-span.result in
    let e = c.span_of-span.ensures in
    let up : s.from ≤ s.to = omega (arith, e.some) in
    ap (ram_fault file) (c.in_ok-place.ensures ∙ ap (ram_after file) c.in_ok-part.ensures)
    ∙ ram_fault_after file (part c.args.ram.now s.from s.to)
    ∙ part_no_fault file c.args.ram.now s.from s.to up e.span.behind e.all

pub place-requires-2 : goal.place-requires-2
place-requires-2 c =
    let file = c.args.segments.now in
    let ram = c.args.ram.now in
    let s = c.span_of-span.result in
    let e = c.span_of-span.ensures in
    let up : s.from ≤ s.to = omega (arith, e.some) in
    let p = part ram s.from s.to in
    let same : c.place.new.ram ≡ ram_after file p = c.in_ok-place.ensures ∙ ap (ram_after file) c.in_ok-part.ensures in
    fits ram c.base.result (length c.bytes.result.now) s.from s.to
    (c.base.ensures.value ∙ ap (λ (r : Ram). r.base) same ∙ base_loaded file p)
    (ap length c.bytes.ensures ∙ ap (λ (r : Ram). length r.bytes) same ∙ length_loaded file p ∙ length_part ram s.from s.to up e.span.behind)
    up e.span.behind

pub returns-clause-memory : goal.returns-clause-memory
returns-clause-memory c =
    let file = c.args.segments.now in
    let ram = c.args.ram.now in
    let s = c.span_of-span.result in
    let e = c.span_of-span.ensures in
    let up : s.from ≤ s.to = omega (arith, e.some) in
    let p = part ram s.from s.to in
    let same : c.place.new.ram ≡ ram_after file p = c.in_ok-place.ensures ∙ ap (ram_after file) c.in_ok-part.ensures in
    c.place-2.ensures
    ∙ ap₂ (λ (b : ℕ) (v : List ℕ). with_bytes ram b v) (c.base.ensures.value ∙ ap (λ (r : Ram). r.base) same ∙ base_loaded file p) (c.bytes.ensures ∙ ap (λ (r : Ram). r.bytes) same)
    ∙ loaded_part file ram s.from s.to up e.span.behind e.all

pub returns-clause-code : goal.returns-clause-code
returns-clause-code c =
    let file = c.args.segments.now in
    let s = c.span_of-span.result in
    let e = c.span_of-span.ensures in
    let up : s.from ≤ s.to = omega (arith, e.some) in
    c.in_ok-code.ensures.words
    ∙ ap (code_of file) (c.in_ok-place.ensures ∙ ap (ram_after file) c.in_ok-part.ensures)
    ∙ loaded_code file c.args.ram.now s.from s.to up e.span.behind e.all e.faultless
