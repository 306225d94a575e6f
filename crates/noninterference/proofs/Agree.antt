-- The outcomes that may be looked at are equal in two runs that go on together.
use Rattle.std.proofs.Common.{◌≡◌, ℕ, ◌≤◌, List, [], ◌∷◌, ◌++◌, length, map, reverse, refl, ap, sym, ◌∙◌, arith}
use Rattle.std.proofs.lemmas.List.{length-reverse, map-append, reverse-append}
use Rattle.window_model.specs.declared.Entry.{Entry}
use Rattle.window_model.specs.State.{Machine}
use Rattle.window_model.specs.Retire.{hart_of}
use Rattle.window_model.specs.Path.{path}
use Rattle.noninterference.specs.Alike.{without_outcome}
use Rattle.noninterference.specs.InStep.{InStep}
use Rattle.noninterference.specs.Laws.{TogetherAgree}
use Rattle.noninterference.proofs.OneRun.{whole_window}
use Rattle.noninterference.proofs.SameReads.{same_window}

map_reverse : (es : List Entry) → map without_outcome (reverse es) ≡ reverse (map without_outcome es)
map_reverse [] = refl
map_reverse (e ∷ es) = ap (map without_outcome) (reverse-append (e ∷ []) es) ∙ map-append without_outcome (reverse es) (e ∷ []) ∙ ap (λ t. t ++ without_outcome e ∷ []) (map_reverse es) ∙ sym (reverse-append (without_outcome e ∷ []) (map without_outcome es))

-- two runs that go on together under a model that protects have equal outcomes where they may be looked at
pub together_agree : TogetherAgree
together_agree now d code total x x2 protected aligned lt t =
    let upto : (k : ℕ) → k ≤ d.core_rob → InStep (path d.stt_model) code k (hart_of x) (hart_of x2) = λ k le. t.in_step k (omega (arith, le, lt)) in
    let w : map without_outcome x.window ≡ map without_outcome x2.window = ap (λ (m : Machine). m.window) t.alike in
    let len : length (reverse x.window) ≤ d.core_rob = (let q = length-reverse x.window in let g = t.facts.fits in omega (arith, q, g)) in
    same_window now d protected code aligned x x2 d.core_rob t.facts.consistent.registers t.facts2.consistent.registers upto
    (reverse x.window) (reverse x2.window) len (whole_window now d code x t.facts) (whole_window now d code x2 t.facts2) (map_reverse x.window ∙ ap reverse w ∙ sym (map_reverse x2.window))
