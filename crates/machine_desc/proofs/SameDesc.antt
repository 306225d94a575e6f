-- The contents of a description tell it from any other.
use Rattle.std.proofs.Common.{◌≡◌, ◌∙◌, ℕ, List, get_or, ap, sym, refl, Result, Ok}
use mathlib.Core.Path.{PathP}
use mathlib.Core.HLevel.{is_prop→PathP}
use Rattle.machine_desc.specs.declared.Desc.{Desc}
use Rattle.machine_desc.specs.declared.SttModel.{SttModel}
use Rattle.machine_desc.specs.declared.SttModel.TheVariants.{Spectre}
use Rattle.machine_desc.specs.declared.Defence.{Defence}
use Rattle.machine_desc.specs.declared.Defence.TheVariants.{Stt}
use Rattle.machine_desc.specs.declared.keys.Key.{Key}
use Rattle.machine_desc.specs.declared.keys.Key.TheVariants.{CoreFetchWidth, SttModel as ModelKey, SttDefence as DefenceKey}
use Rattle.machine_desc.specs.declared.fault.DescFault.{DescFault}
use Rattle.machine_desc.specs.Ranges.{key_number, MayBeAll, desc_of_numbers}
use Rattle.machine_desc.specs.inner.Allowed.{are_desc_prop}
use Rattle.machine_desc.specs.Description.{Setting, OneNumber, OneModel, OneDefence, setting_of, Contents, contents, description_of, Describes}
use Rattle.machine_desc.proofs.Places.{place, mapped_at_place}

-- what a setting is, where it is of this kind
abbrev as_number : Setting → ℕ
as_number (OneNumber n) = n
as_number _ = 0

abbrev as_model : Setting → SttModel
as_model (OneModel m) = m
as_model _ = Spectre

abbrev as_defence : Setting → Defence
as_defence (OneDefence t) = t
as_defence _ = Stt

number_is : (d : Desc) (key : Key) → as_number (setting_of d key) ≡ key_number d key
number_is d CoreFetchWidth = refl
number_is d _ = refl

-- what a key is set to in a list of settings
abbrev listed : Contents → Key → Setting
listed c key = get_or c.settings (place key) (get_or c.settings 0 (OneNumber 0))

-- descriptions of the same contents have the same at each key
same_setting : (d e : Desc) → contents d ≡ contents e → (key : Key) → setting_of d key ≡ setting_of e key
same_setting d e h key = sym (mapped_at_place (setting_of d) key) ∙ (ap (λ (c : Contents). listed c key) h ∙ mapped_at_place (setting_of e) key)

same_number : (d e : Desc) → contents d ≡ contents e → (key : Key) → key_number d key ≡ key_number e key
same_number d e h key = sym (number_is d key) ∙ (ap as_number (same_setting d e h key) ∙ number_is e key)

-- two descriptions with the same contents are equal
pub same_desc : (d e : Desc) → contents d ≡ contents e → d ≡ e
same_desc d e h =
    let version : d.version ≡ e.version = ap (λ (c : Contents). c.version) h in
    let model : d.stt_model ≡ e.stt_model = ap as_model (same_setting d e h ModelKey) in
    let defence : d.stt_defence ≡ e.stt_defence = ap as_defence (same_setting d e h DefenceKey) in
    let stands : PathP (λ i. MayBeAll (version i) (λ key. same_number d e h key i) (model i) (defence i)) d.stands e.stands =
    is_prop→PathP (λ i. MayBeAll (version i) (λ key. same_number d e h key i) (model i) (defence i)) (λ i. are_desc_prop) d.stands e.stands in
    λ i. desc_of_numbers (version i) (λ key. same_number d e h key i) (model i) (defence i) (stands i)

same_ok : (c c' : Contents) (r : Result Contents DescFault) → r ≡ Ok c → r ≡ Ok c' → c ≡ c'
same_ok c c' r h k = cc

-- a text describes at most one description
pub one_description : (bytes : List ℕ) (d e : Desc) → Describes bytes d → Describes bytes e → d ≡ e
one_description bytes d e h k = same_desc d e (same_ok _ _ (description_of bytes) h k)
