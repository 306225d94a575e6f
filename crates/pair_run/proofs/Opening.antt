-- What is made of two images and a description is a pair that begins.
use Rattle.std.proofs.Common.{◌≡◌, ◌↔◌, Bool, IsTrue, refl, sym, subst}
use Rattle.elf_loader.specs.inner.Code.{word_at}
use Rattle.elf_loader.specs.declared.loading.Image.{Image}
use Rattle.machine_desc.specs.declared.Desc.{Desc}
use Rattle.window_model.specs.State.{opening}
use Rattle.core_cycle.specs.Programmed.{Programmed}
use Rattle.isa_step.specs.State.{IsaState}
use Rattle.pair_run.specs.inner.Images.{CoreStarts, Opened, start_of, path_of}
use Rattle.run_inputs.specs.Loaded.{Fits}
use Rattle.pair_run.specs.declared.starting.Start.{Start}

-- the core that begins where an image does
abbrev core_of : Desc → Image → Programmed
core_of d image = record { desc = d; code = image.code; machine = opening d image.entry image.ram }

opened_at : (d : Desc) (one two : Image) (same : Bool) → Fits d one.ram → Fits d two.ram → IsTrue same ↔ (word_at two.code ≡ word_at one.code)
    → Opened d (start_of one) (start_of two) same (core_of d one) (core_of d two) (path_of one)
opened_at d one two same f f2 c = record {
  fits = f;
  fits2 = f2;
  code = c;
  first_is = refl;
  second_is = refl;
  path_is = record { code = refl; hart = refl };
}

pub opened : (d : Desc) (one two : Image) (s s2 : Start) (same : Bool) (first second : Programmed) (path : IsaState) → Fits d one.ram → Fits d two.ram
    → IsTrue same ↔ (word_at two.code ≡ word_at one.code) → s ≡ start_of one → s2 ≡ start_of two → path ≡ path_of one
    → CoreStarts d one first → CoreStarts d two second → Opened d s s2 same first second path
opened d one two s s2 same first second path f f2 c e e2 p g g2 =
    let at_path = subst (λ x. Opened d (start_of one) (start_of two) same (core_of d one) (core_of d two) x) (sym p) (opened_at d one two same f f2 c) in
    let at_second = subst (λ x. Opened d (start_of one) (start_of two) same (core_of d one) x path) (sym g2) at_path in
    let at_first = subst (λ x. Opened d (start_of one) (start_of two) same x second path) (sym g) at_second in
    let at_start2 = subst (λ x. Opened d (start_of one) x same first second path) (sym e2) at_first in
    subst (λ x. Opened d x s2 same first second path) (sym e) at_start2
