-- A text without a fault describes something: its numbers are all that is asked of a description.
use Rattle.std.proofs.Common.{◌≡◌, ℕ, IsTrue, List, Option, Some, None, Result, Ok, Err, Bool, true, false, if◌then◌else◌, refl, ap}
use Rattle.std.specs.Str.{is_utf8}
use Rattle.toml.specs.Data.{Members}
use Rattle.toml.specs.Parse.{parse_document}
use Rattle.machine_desc.specs.declared.Desc.{Desc}
use Rattle.machine_desc.specs.declared.SttModel.{SttModel}
use Rattle.machine_desc.specs.declared.Defence.{Defence}
use Rattle.machine_desc.specs.declared.keys.Key.{Key}
use Rattle.machine_desc.specs.declared.keys.Key.TheVariants.{CoreFetchWidth, CacheHitLatency, CacheMissLatency, CacheMshrs, CacheSecondSets, CacheSecondLatency, RamBase, RamSize, RamMisaligned, SttModel as ModelKey, SttDefence as DefenceKey}
use Rattle.machine_desc.specs.declared.fault.DescFault.{DescFault}
use Rattle.machine_desc.specs.declared.fault.DescFault.TheVariants.{Syntax}
use Rattle.machine_desc.specs.Table.{values_of}
use Rattle.machine_desc.specs.Description.{OneModel, OneDefence, set_to, setting, setting_of, settings, document_fault, version, Contents, contents, contents_or, contents_by, text_contents, description_of}
use Rattle.machine_desc.specs.inner.Description.{model, defence}
use Rattle.machine_desc.specs.Version.{IsKnown}
use Rattle.machine_desc.specs.Ranges.{Meets, desc_of_numbers, all_may_be}
use Rattle.machine_desc.specs.Clean.{IsClean, has_numbers}
use Rattle.machine_desc.proofs.Passing.{number_at, Found, found, may_be}
use Rattle.machine_desc.proofs.Faultless.{is_clean, latencies, ends, registers, second}
use Rattle.machine_desc.proofs.Versions.{is_known}
use Rattle.machine_desc.proofs.Settings.{contents_are, no_model, no_defence}
use Rattle.machine_desc.proofs.Named.{model_known, defence_known}

refused : (v : ℕ) (document : Members) (c : Contents) (fault : DescFault) → document_fault v document ≡ Some fault → contents_by (Ok v) document ≡ Ok c → ⊥
refused v document c fault f h =
    let told : contents_by (Ok v) document ≡ Err fault = ap (λ (x : Option DescFault). contents_or x v (settings v document)) f in
    absurd (cc)

-- the description of a document without fault
module _ (v : ℕ) (known : IsKnown v) (document : Members) (m : SttModel) (t : Defence) (p : model v document ≡ Ok m) (q : defence v document ≡ Ok t)
    (clean : IsClean v document) where
  at : (key : Key) → IsTrue (has_numbers (values_of v key)) → Found v document key
  at key whole = found v document key (clean.keys key) whole

  meets : Meets v (number_at v document) m t
  meets = record {
    version = known;
    each = λ key. may_be v document key (clean.keys key);
    latencies = latencies v document _ _ clean.latencies (at CacheHitLatency refl).is (at CacheMissLatency refl).is;
    ends = ends v document _ _ clean.ends (at RamBase refl).is (at RamSize refl).is;
    registers = registers v document _ _ clean.registers (at RamMisaligned refl).is (at CacheMshrs refl).is;
    second = second v document _ _ _ _ clean.second (at CacheSecondSets refl).is (at CacheHitLatency refl).is (at CacheSecondLatency refl).is (at CacheMissLatency refl).is;
    model = model_known v document m p;
    defence = defence_known v known document t q;
  }

  made : Desc
  made = desc_of_numbers v (number_at v document) m t (all_may_be meets)

  -- the description has at each key what the document sets the key to
  each_made : (key : Key) → setting v document key ≡ Ok (setting_of made key)
  unfolding made
  each_made ModelKey = ap (set_to OneModel) p
  each_made DefenceKey = ap (set_to OneDefence) q
  each_made CoreFetchWidth = (at CoreFetchWidth refl).set
  each_made key = (at key refl).set

  version_made : made.version ≡ v
  unfolding made
  version_made = refl

by_fault : (v : ℕ) → IsKnown v → (document : Members) (c : Contents) (fault : Option DescFault) (m : Result SttModel DescFault) (t : Result Defence DescFault)
    → document_fault v document ≡ fault → model v document ≡ m → defence v document ≡ t → contents_by (Ok v) document ≡ Ok c → (d : Desc) × (contents d ≡ c)
by_fault v known document c (Some e) m t f p q h = absurd (refused v document c e f h)
by_fault v known document c None (Err e) t f p q h = absurd (no_model v document e f p)
by_fault v known document c None (Ok m) (Err e) f p q h = absurd (no_defence v document e f q)
by_fault v known document c None (Ok m) (Ok t) f p q h =
    let clean = is_clean v document f in
    let told = contents_are v document (made v known document m t p q clean) f (version_made v known document m t p q clean) (each_made v known document m t p q clean) in
    (made v known document m t p q clean, cc (told, h))

by_version : (document : Members) (c : Contents) (v : Result ℕ DescFault) → version document ≡ v → contents_by v document ≡ Ok c → (d : Desc) × (contents d ≡ c)
by_version document c (Err e) b h = absurd (cc)
by_version document c (Ok v) b h =
    by_fault v (is_known document v b) document c (document_fault v document) (model v document) (defence v document) refl refl refl h

by_text : (c : Contents) (utf8 : Bool) (document : Option Members) → (if utf8 then text_contents document else Err Syntax) ≡ Ok c → (d : Desc) × (contents d ≡ c)
by_text c false document h = absurd (cc)
by_text c true None h = absurd (cc)
by_text c true (Some document) h = by_version document c (version document) refl h

-- contents that a text describes are those of some description
pub some_description : (bytes : List ℕ) (c : Contents) → description_of bytes ≡ Ok c → (d : Desc) × (contents d ≡ c)
unfolding description_of
some_description bytes c h = by_text c (is_utf8 bytes) (parse_document bytes) h
