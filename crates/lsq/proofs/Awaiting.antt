-- What a walk over the stores says that a load waits for.
use Rattle.std.proofs.Common.{◌≡◌, ℕ, ◌+◌, Bool, true, false, cond, not, ◌||◌, List, ◌∷◌, None, is_some, refl, ap}
use Rattle.std.specs.Prelude.{if◌then◌else◌}
use Rattle.std.specs.List.{filter, list_any}
use Rattle.rv_types.specs.Value.{bytes_in}
use Rattle.rv_types.specs.declared.Width.{Width}
use Rattle.rv_types.specs.declared.Width.TheVariants.{B, H, W}
use Rattle.rename_taint.specs.Writes.{later}
use Rattle.lsq.specs.declared.store.Span.{Span}
use Rattle.lsq.specs.declared.store.Store.{Store}
use Rattle.lsq.specs.Queues.{youngest_root}
use Rattle.lsq.specs.Merging.{reaches}
use Rattle.lsq.specs.Pending.{pending_among, awaits_too, bytes_asked, lacks_address, lacks_data_for, reaches_one}

one : (p : Bool) → p ≡ (p || false)
one true = refl
one false = refl

two : (p q : Bool) → (p || q) ≡ (p || (q || false))
two true q = refl
two false q = one q

four : (p q r s : Bool) → (p || q || r || s) ≡ (p || (q || (r || (s || false))))
four true q r s = refl
four false true r s = refl
four false false true s = refl
four false false false s = one s

-- what a store writes reaches one of a width's bytes where it reaches a byte that an access without fault asks for
pub one_is : (k : Span) (a : ℕ) (w : Width) → reaches_one w a k ≡ list_any (λ a. reaches a k) (bytes_asked None a (bytes_in w))
one_is k a B = one (reaches a k)
one_is k a H = two (reaches a k) (reaches (a + 1) k)
one_is k a W = four (reaches a k) (reaches (a + 1) k) (reaches (a + 1 + 1) k) (reaches (a + 1 + 1 + 1) k)

root_if : (b : Bool) (s : Store) (ss : List Store) → youngest_root (cond (not b) (s ∷ ss) ss) ≡ (if b then youngest_root ss else later s.root (youngest_root ss))
root_if true s ss = refl
root_if false s ss = refl

-- what a load awaits of stores with a younger one in front
pub one_more : (bytes : List ℕ) (s : Store) (ss : List Store) → pending_among bytes (s ∷ ss) ≡ awaits_too bytes s (pending_among bytes ss)
one_more bytes s ss =
    ap (λ r. record { address = lacks_address s || list_any lacks_address ss; overlap = lacks_data_for bytes s || list_any (lacks_data_for bytes) ss; root = r })
    (root_if (is_some s.stored) s (filter (λ s. not (is_some s.stored)) ss))
