-- Rename looks at nothing of the window that an outcome tells.
use Rattle.std.proofs.Common.{◌≡◌, ℕ, ◌+◌, Bool, cond, ◌||◌, List, [], ◌∷◌, map, refl, ap, ◌∙◌}
use Rattle.std.specs.Prelude.{count_by, nat_lt}
use Rattle.std.specs.List.{list_any, fold}
use Rattle.std.proofs.lemmas.List.{length-map}
use Rattle.rv_types.specs.declared.Kind.{Kind}
use Rattle.rv_types.specs.declared.Kind.TheVariants.{Load, Store, Call}
use Rattle.machine_desc.specs.declared.Desc.{Desc}
use Rattle.window_model.specs.declared.Entry.{Entry}
use Rattle.window_model.specs.Order.{is_load, is_store, is_waiting}
use Rattle.window_model.specs.Rename.{fits_as, is_call}
use Rattle.two_runs.specs.Laws.{FitsAlike}
use Rattle.two_runs.specs.Seen.{without_outcome}

-- counting goes on alike from any count, by a test that looks at no outcome
same_fold : (f : Entry → Bool) → ((e : Entry) → f (without_outcome e) ≡ f e) → (n : ℕ) (es : List Entry) → fold (λ a x. a + cond (f x) 1 0) n (map without_outcome es) ≡ fold (λ a x. a + cond (f x) 1 0) n es
same_fold f h n [] = refl
same_fold f h n (e ∷ es) = ap (λ b. fold (λ a x. a + cond (f x) 1 0) (n + cond b 1 0) (map without_outcome es)) (h e) ∙ same_fold f h (n + cond (f e) 1 0) es

-- as many entries pass a test that looks at no outcome
same_count : (f : Entry → Bool) → ((e : Entry) → f (without_outcome e) ≡ f e) → (es : List Entry) → count_by f (map without_outcome es) ≡ count_by f es
same_count f h es = same_fold f h 0 es

-- some entry passes a test that looks at no outcome, or none does
same_any : (f : Entry → Bool) → ((e : Entry) → f (without_outcome e) ≡ f e) → (es : List Entry) → list_any f (map without_outcome es) ≡ list_any f es
same_any f h [] = refl
same_any f h (e ∷ es) = ap (λ b. b || list_any f (map without_outcome es)) (h e) ∙ ap (λ b. f e || b) (same_any f h es)

-- whether there is room for an item of a kind is told without outcomes
same_fits_as : (k : Kind) (d : Desc) (w : List Entry) → fits_as k d (map without_outcome w) ≡ fits_as k d w
same_fits_as Load d w = ap (λ n. nat_lt n d.core_loads) (same_count (λ e. is_load e.item.kind) (λ e. refl) w)
same_fits_as Store d w = ap (λ n. nat_lt n d.core_stores) (same_count (λ e. is_store e.item.kind) (λ e. refl) w)
same_fits_as Call d [] = refl
same_fits_as Call d (e ∷ es) = refl
same_fits_as _ d w = refl

-- whether an item fits is told without outcomes
pub same_fits : FitsAlike
same_fits d w i =
    let a = length-map w without_outcome in
    let b = same_any (λ e. is_call e.item.kind) (λ e. refl) w in
    let c = same_fits_as i.kind d w in
    let e = same_count (λ e. is_waiting e.state) (λ e. refl) w in
    cc
