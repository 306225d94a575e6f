-- Where the point stops, by what the reorder buffer tells.
use Rattle.std.proofs.Common.{◌≡◌, ℕ, zero, suc, Bool, true, false, not, List, [], ◌∷◌, length, Option, Some, None, refl, ap, sym, subst, ◌∙◌, arith, slice_get}
use Rattle.std.specs.List.{find}
use Rattle.std.specs.Option.{option_map}
use Rattle.std.specs.Slice.Scan.{HoldsNowhere, holds_at}
use Rattle.machine_desc.specs.declared.SttModel.{SttModel}
use Rattle.machine_desc.specs.declared.SttModel.TheVariants.{Spectre, Futuristic, Off}
use Rattle.window_model.specs.declared.Entry.{Entry}
use Rattle.window_model.specs.Taint.{permits}
use Rattle.rob_ring.specs.Ring.{Next, is_open, is_unsafe}

-- the next one that is open is where the point stops under the one model,
pub stops_at_open : (model : SttModel) (es : List Entry) (from : ℕ) (o : Option ℕ) → model ≡ Spectre → Next is_open es from o → Next (λ e. not (permits model e)) es from o
stops_at_open model es from o q h = subst (λ model. Next (λ e. not (permits model e)) es from o) (sym q) h

-- under the other the next one that may yet squash what comes after it,
pub stops_at_unsafe : (model : SttModel) (es : List Entry) (from : ℕ) (o : Option ℕ) → model ≡ Futuristic → Next is_unsafe es from o → Next (λ e. not (permits model e)) es from o
stops_at_unsafe model es from o q h = subst (λ model. Next (λ e. not (permits model e)) es from o) (sym q) h

-- a model that doesn't protect stops nowhere
pub stops_nowhere : (model : SttModel) (es : List Entry) (from : ℕ) → model ≡ Off → Next (λ e. not (permits model e)) es from None
stops_nowhere model es from q = subst (λ model. Next (λ e. not (permits model e)) es from None) (sym q) (λ k low high. none es k)
  where
    none : (es : List Entry) (k : ℕ) → holds_at (λ e. not (permits Off e)) es k ≡ false
    none [] k = refl
    none (e ∷ es) zero = refl
    none (e ∷ es) (suc k) = none es k

-- the first position whose entry passes is where a search ends
module _ (p : Entry → Bool) where
  found_at : (es : List Entry) (i : ℕ) → HoldsNowhere (holds_at p es) 0 i → holds_at p es i ≡ true → find p es ≡ slice_get es i
  found_at [] i none h = refl
  found_at (e ∷ es) zero none h = let t : p e ≡ true = h in cc
  found_at (e ∷ es) (suc i) none h =
      let f : p e ≡ false = none 0 (omega arith) (omega arith) in
      let r = found_at es i (λ k low high. none (suc k) (omega arith) (omega (arith, high))) h in
      cc

  found_nowhere : (es : List Entry) → HoldsNowhere (holds_at p es) 0 (length es) → find p es ≡ None
  found_nowhere [] none = refl
  found_nowhere (e ∷ es) none =
      let f : p e ≡ false = none 0 (omega arith) (omega arith) in
      let r = found_nowhere es (λ k low high. none (suc k) (omega arith) (omega (arith, high))) in
      cc

  -- what is read there is what the search finds
  pub found_is : (es : List Entry) (i : ℕ) (e : Entry) → Next p es 0 (Some i) → slice_get es i ≡ Some e → Some e.serial ≡ option_map (λ e. e.serial) (find p es)
  found_is es i e next at = sym (ap (option_map (λ e. e.serial)) (found_at es i next.before next.here ∙ at))

  pub none_is : (es : List Entry) → Next p es 0 None → None ≡ option_map (λ e. e.serial) (find p es)
  none_is es next = sym (ap (option_map (λ e. e.serial)) (found_nowhere es next))
