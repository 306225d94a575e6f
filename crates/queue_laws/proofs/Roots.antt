-- The youngest root is visible exactly where all are.
use Rattle.std.proofs.Common.{◌≡◌, ℕ, ◌≤◌, Bool, true, false, not, ◌||◌, ◌&&◌, List, [], ◌∷◌, Option, Some, None, refl, ap, sym, ◌∙◌, arith}
use Rattle.std.specs.Prelude.{map, max, nat_le, if◌then◌else◌}
use Rattle.std.specs.List.{list_any}
use Rattle.std.proofs.lemmas.Bool.Decides.{nat_tests}
use Rattle.machine_desc.specs.declared.SttModel.{SttModel}
use Rattle.window_model.specs.declared.Entry.{Entry}
use Rattle.window_model.specs.Order.{is_store}
use Rattle.window_model.specs.Taint.{address_tainted}
use Rattle.window_model.specs.Access.{any_store_hidden}
use Rattle.window_model.proofs.Booleans.{or_false}
use Rattle.lsq.specs.declared.store.Store.{Store}
use Rattle.rename_taint.specs.Writes.{later as younger}
use Rattle.lsq.specs.Queues.{youngest_root}
use Rattle.queue_laws.specs.Window.{hides, tainted_stores}
use Rattle.queue_laws.specs.Laws.{HiddenAsTainted}

-- what is older than a visible load is visible
abbrev Down : (ℕ → Bool) → Type 0
Down v = (a b : ℕ) → a ≤ b → v b ≡ true → v a ≡ true

of_max : (v : ℕ → Bool) (a b : ℕ) (t : Bool) → nat_le a b ≡ t → v a ≡ true → v b ≡ true → v (max a b) ≡ true
of_max v a b true e h k = let m : max a b ≡ b = grind (arith, nat_tests) in ap v m ∙ k
of_max v a b false e h k = let m : max a b ≡ a = grind (arith, nat_tests) in ap v m ∙ h

of_two : (v : ℕ → Bool) → Down v → (a b : ℕ) (p q r : Bool) → v a ≡ p → v b ≡ q → v (max a b) ≡ r → not r ≡ (not p || not q)
of_two v down a b true true true h k l = refl
of_two v down a b p q true h k l =
    let x = down a (max a b) (omega arith) l in
    let y = down b (max a b) (omega arith) l in
    let m : p ≡ true = cc in
    let n : q ≡ true = cc in
    cc
of_two v down a b false q false h k l = refl
of_two v down a b true false false h k l = refl
of_two v down a b true true false h k l = let m = of_max v a b (nat_le a b) refl h k in absurd (cc)

hides_younger : (v : ℕ → Bool) → Down v → (r s : Option ℕ) → hides v (younger r s) ≡ (hides v r || hides v s)
hides_younger v down None s = refl
hides_younger v down (Some a) None = sym (or_false (not (v a)))
hides_younger v down (Some a) (Some b) = of_two v down a b (v a) (v b) (v (max a b)) refl refl refl

abbrev any : List Bool → Bool
any bs = list_any (λ b. b) bs

-- the youngest root is visible exactly where each store's is
pub hides_youngest : (v : ℕ → Bool) → Down v → (ss : List Store) → hides v (youngest_root ss) ≡ any (map (λ s. hides v s.root) ss)
hides_youngest v down [] = refl
hides_youngest v down (s ∷ ss) = hides_younger v down s.root (youngest_root ss) ∙ ap (λ b. hides v s.root || b) (hides_youngest v down ss)

any_one : (s t : Bool) (bs : List Bool) (r : Bool) → any bs ≡ r → any (if s then t ∷ bs else bs) ≡ (s && t || r)
any_one true t bs r h = ap (λ r. t || r) h
any_one false t bs r h = h

any_tainted : (model : SttModel) (before : List Entry) → any (tainted_stores model before) ≡ any_store_hidden model before
any_tainted model [] = refl
any_tainted model (e ∷ before) = any_one (is_store e.item.kind) (address_tainted model before e) (tainted_stores model before) (any_store_hidden model before) (any_tainted model before)

-- the youngest root isn't visible where some older store has a tainted address
pub hidden_is : HiddenAsTainted
hidden_is model v down ss before h = hides_youngest v down ss ∙ ap any h ∙ any_tainted model before
