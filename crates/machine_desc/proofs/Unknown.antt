-- The first unknown name of a table, found along its keys.
use Rattle.std.proofs.Common.{◌≡◌, ℕ, Bool, List, [], ◌∷◌, Option, Some, None, refl, sym, ap, ◌∙◌, false, String, string_bytes, if◌then◌else◌}
use Rattle.std.specs.declared.alloc.Global.{Global}
use Rattle.std.specs.Map.{keys_of}
use Rattle.toml.specs.View.{members_view}
use Rattle.toml.specs.declared.value.Value.{Value}
use Rattle.machine_desc.specs.Description.{unknown}

-- the first of several names that isn't known
abbrev pub unknown_name : (List ℕ → Bool) → List (String Global) → Option (List ℕ)
unknown_name known [] = None
unknown_name known (k ∷ ks) = if known (string_bytes k) then unknown_name known ks else Some (string_bytes k)

if_same : (b : Bool) {X : Type 0} (x x' y : X) → x ≡ x' → (if b then x else y) ≡ (if b then x' else y)
if_same b x x' y e = rw e refl

-- the first unknown name of a table is that of its keys
pub unknown_names : (known : List ℕ → Bool) (es : List (String Global × Value)) → unknown_name known (keys_of es) ≡ unknown known (members_view es)
unknown_names known [] = refl
unknown_names known (e ∷ es) = if_same (known (string_bytes e.0)) _ _ _ (unknown_names known es)

-- a table has no unknown name, where none is left among its keys
pub at_none : (known : List ℕ → Bool) (es : List (String Global × Value)) (it : List (String Global)) → it ≡ [] → unknown_name known it ≡ unknown_name known (keys_of es)
    → None ≡ unknown known (members_view es)
at_none known es it e i = let k : unknown_name known [] ≡ unknown_name known (keys_of es) = rw e at i in k ∙ unknown_names known es

-- the first unknown name of a table is the next key, where all keys before it are known and it isn't
pub at_some : (known : List ℕ → Bool) (es : List (String Global × Value)) (it : List (String Global)) (k : String Global) (rest : List (String Global)) (w t : List ℕ)
    → it ≡ k ∷ rest → unknown_name known it ≡ unknown_name known (keys_of es) → w ≡ string_bytes k → false ≡ known w → t ≡ string_bytes k
    → Some t ≡ unknown known (members_view es)
at_some known es it k rest w t e i a f b =
    let f' : known (string_bytes k) ≡ false = sym (rw a at f) in
    let g : unknown_name known (k ∷ rest) ≡ unknown_name known (keys_of es) = rw e at i in
    let h : unknown_name known (k ∷ rest) ≡ Some (string_bytes k) = rw f' refl in
    ap Some b ∙ (sym h ∙ (g ∙ unknown_names known es))
