-- What bytes describe, by what they are.
use Rattle.std.proofs.Common.{◌≡◌, ◌≢◌, ◌∙◌, ℕ, List, Bool, true, false, if◌then◌else◌, Some, Result, Ok, Err, IfOk, IfErr, refl, IsUtf8}
use Rattle.std.specs.Str.{is_utf8}
use Rattle.std.proofs.lemmas.Str.{IsUtf8-from_is_utf8, is_utf8-from_IsUtf8}
use Rattle.toml.specs.Data.{Members}
use Rattle.toml.specs.Parse.{parse_document}
use Rattle.machine_desc.specs.declared.Desc.{Desc}
use Rattle.machine_desc.specs.declared.fault.DescFault.{DescFault}
use Rattle.machine_desc.specs.declared.fault.DescFault.TheVariants.{Syntax, NoMemory}
use Rattle.machine_desc.specs.Description.{contents, document_contents, description_of}

unless : (b : Bool) {X : Type 0} (x y : X) → (b ≡ true → ⊥) → (if b then x else y) ≡ y
unless true x y h = absurd (h refl)
unless false x y h = refl

-- bytes that aren't UTF-8 are refused for their syntax
pub not_text : (bytes : List ℕ) → ¬ (IsUtf8 bytes) → description_of bytes ≡ Err Syntax
unfolding description_of
not_text bytes h = unless (is_utf8 bytes) _ _ (λ e. h (IsUtf8-from_is_utf8 bytes e))

-- bytes that are a document
pub of_document : (bytes : List ℕ) (document : Members) → IsUtf8 bytes → parse_document bytes ≡ Some document → description_of bytes ≡ document_contents document
unfolding description_of
of_document bytes document h p =
    let u : is_utf8 bytes ≡ true = is_utf8-from_IsUtf8 bytes h in
    rw (u, p) refl

-- bytes describe what their document has as contents
pub ok_of_document : (bytes : List ℕ) (document : Members) (r : Result Desc DescFault) → description_of bytes ≡ document_contents document
    → IfOk r (λ d. document_contents document ≡ Ok (contents d)) → IfOk r (λ d. description_of bytes ≡ Ok (contents d))
ok_of_document bytes document (Ok d) e h = e ∙ h
ok_of_document bytes document (Err f) e h = h

-- bytes have the fault that their document has, but for want of memory
pub err_of_document : (bytes : List ℕ) (document : Members) (r : Result Desc DescFault) → description_of bytes ≡ document_contents document
    → IfErr r (λ f. document_contents document ≡ Err f) → IfErr r (λ f. f ≢ NoMemory → description_of bytes ≡ Err f)
err_of_document bytes document (Ok d) e h = h
err_of_document bytes document (Err f) e h = λ _. e ∙ h
