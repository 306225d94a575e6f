-- A walk over the stores gathers what a load finds.
use Rattle.std.proofs.Common.{◌≡◌, ℕ, ◌+◌, Bool, true, false, ◌&&◌, List, is_some, refl}
use Rattle.rv_types.specs.Word.{from_le}
use Rattle.rv_types.specs.Memory.{Ram}
use Rattle.rv_types.specs.Value.{bytes_in}
use Rattle.rv_types.specs.declared.Width.{Width}
use Rattle.rv_types.specs.declared.Width.TheVariants.{B, H, W}
use Rattle.lsq.specs.declared.store.Store.{Store}
use Rattle.lsq.specs.Merging.{all_forwarded, forwarded_byte, merged_bytes}
use Rattle.lsq.specs.Gathering.{covered_in, bytes_from_stores, number_in}

pub number_is : (ram : Ram) (stores : List Store) (a : ℕ) (w : Width) → number_in ram a w (bytes_from_stores stores a) ≡ from_le (merged_bytes ram stores a (bytes_in w))
number_is ram stores a B = refl
number_is ram stores a H = refl
number_is ram stores a W = refl

one : (p : Bool) → p ≡ (p && true)
one true = refl
one false = refl

two : (p q : Bool) → (p && q) ≡ (p && (q && true))
two true q = one q
two false q = refl

four : (p q r s : Bool) → (p && q && r && s) ≡ (p && (q && (r && (s && true))))
four true true true s = one s
four true true false s = refl
four true false r s = refl
four false q r s = refl

pub covered_is : (stores : List Store) (a : ℕ) (w : Width) → covered_in w (bytes_from_stores stores a) ≡ all_forwarded stores a (bytes_in w)
covered_is stores a B = one (is_some (forwarded_byte stores a))
covered_is stores a H = two (is_some (forwarded_byte stores a)) (is_some (forwarded_byte stores (a + 1)))
covered_is stores a W = four (is_some (forwarded_byte stores a)) (is_some (forwarded_byte stores (a + 1))) (is_some (forwarded_byte stores (a + 1 + 1))) (is_some (forwarded_byte stores (a + 1 + 1 + 1)))
