-- A document that sets each key to what a description has there has the description's contents; one without fault sets
-- its model and its defence.
use Rattle.std.proofs.Common.{◌≡◌, ◌∙◌, ℕ, List, [], ◌∷◌, map, Option, None, Result, Ok, Err, refl, ap, sym}
use Rattle.toml.specs.Data.{Members}
use Rattle.machine_desc.specs.declared.Desc.{Desc}
use Rattle.machine_desc.specs.declared.keys.Key.{Key}
use Rattle.machine_desc.specs.declared.keys.Key.TheVariants.{SttModel as ModelKey, SttDefence as DefenceKey}
use Rattle.machine_desc.specs.declared.fault.DescFault.{DescFault}
use Rattle.machine_desc.specs.Table.{keys}
use Rattle.machine_desc.specs.Description.{Setting, OneModel, OneDefence, set_to, fault_of, key_fault, setting, setting_of, set_before, all_set, settings, document_fault, Contents, contents, contents_or, contents_by}
use Rattle.machine_desc.specs.inner.Description.{model, defence}
use Rattle.machine_desc.proofs.Faultless.{is_clean}

one_more : (answer : Result Setting DescFault) (s : Setting) (more : List (Result Setting DescFault)) (ss : List Setting) → answer ≡ Ok s → all_set more ≡ Ok ss
    → all_set (answer ∷ more) ≡ Ok (s ∷ ss)
one_more (Ok x) s more ss p q =
    let same : x ≡ s = cc in
    ap (set_before x) q ∙ ap (λ (y : Setting). Ok (y ∷ ss)) same
one_more (Err fault) s more ss p q = absurd (cc)

-- where each answer is a setting, all are
all_are : (f : Key → Result Setting DescFault) (g : Key → Setting) → ((key : Key) → f key ≡ Ok (g key)) → (ks : List Key) → all_set (map f ks) ≡ Ok (map g ks)
all_are f g each [] = refl
all_are f g each (k ∷ ks) = one_more (f k) (g k) (map f ks) (map g ks) (each k) (all_are f g each ks)

abbrev contents_with : ℕ → List Setting → Contents
contents_with version settings = record { version = version; settings = settings }

-- a document has the contents of a description, where it sets each key to what the description has there
pub contents_are : (v : ℕ) (document : Members) (d : Desc) → document_fault v document ≡ None → d.version ≡ v
    → ((key : Key) → setting v document key ≡ Ok (setting_of d key)) → contents_by (Ok v) document ≡ Ok (contents d)
contents_are v document d none version each =
    ap (λ (fault : Option DescFault). contents_or fault v (settings v document)) none
    ∙ (ap (contents_or None v) (all_are (setting v document) (setting_of d) each keys)
    ∙ ap (λ (w : ℕ). Ok (contents_with w (map (setting_of d) keys))) (sym version))

-- a document without fault has a model and a defence
pub no_model : (v : ℕ) (document : Members) (fault : DescFault) → document_fault v document ≡ None → model v document ≡ Err fault → ⊥
unfolding key_fault
no_model v document fault f p =
    let none : fault_of (set_to OneModel (model v document)) ≡ None = (is_clean v document f).keys ModelKey in
    absurd (cc)

-- a document without fault has a defence
pub no_defence : (v : ℕ) (document : Members) (fault : DescFault) → document_fault v document ≡ None → defence v document ≡ Err fault → ⊥
unfolding key_fault
no_defence v document fault f q =
    let none : fault_of (set_to OneDefence (defence v document)) ≡ None = (is_clean v document f).keys DefenceKey in
    absurd (cc)
