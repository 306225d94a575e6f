-- A store that begins four bytes or more away from a load reaches none of its bytes.
use Rattle.std.proofs.Common.{◌≡◌, ℕ, ◌+◌, ◌-◌, ◌<◌, ◌≤◌, ◌⊎◌, inl, inr, Bool, true, false, not, ◌&&◌, Option, Some, None, is_some, refl, ap, ap₂, ◌∙◌, arith}
use Rattle.std.specs.Prelude.{nat_le, nat_lt, slice_index, if◌then◌else◌}
use Rattle.std.specs.Option.{option_or}
use Rattle.std.proofs.lemmas.Bool.{cases_lt}
use Rattle.std.proofs.lemmas.Bool.Decides.{nat_tests}
use Rattle.rename_taint.specs.Writes.{later}
use Rattle.rv_types.specs.Value.{bytes_in}
use Rattle.rv_types.specs.Word.{to_le}
use Rattle.rv_types.specs.declared.Width.{Width}
use Rattle.rv_types.specs.declared.Width.TheVariants.{B, H, W}
use Rattle.lsq.specs.declared.merging.Gathered.{Gathered}
use Rattle.lsq.specs.declared.store.Span.{Span}
use Rattle.lsq.specs.declared.store.Store.{Store}
use Rattle.lsq.specs.Merging.{byte_by, byte_in_span, reaches}
use Rattle.lsq.specs.Gathering.{is_near, with_younger_store}

few_bytes : (w : Width) → bytes_in w ≤ 4
few_bytes B = omega arith
few_bytes H = omega arith
few_bytes W = omega arith

second_fails : (p q r : Bool) → q ≡ false → (p && q && r) ≡ false
second_fails true q r e = ap (λ q. q && r) e
second_fails false q r e = refl

third_fails : (p q r : Bool) → r ≡ false → (p && q && r) ≡ false
third_fails true true r e = e
third_fails true false r e = refl
third_fails false q r e = refl

second_of : (p q : Bool) → (p && q) ≡ false → p ≡ true → q ≡ false
second_of true q h e = h
second_of false q h e = absurd (cc)

-- it doesn't reach such a byte
far : (k : Span) (a b : ℕ) → is_near a k ≡ false → a ≤ b → b < a + 4 → reaches b k ≡ false
far k a b h low high = by (cases_lt k.addr (a + 4))
  where
    by : (k.addr < a + 4) ⊎ (a + 4 ≤ k.addr) → reaches b k ≡ false
    by (inr behind) =
        let t : nat_le k.addr b ≡ false = grind (arith, nat_tests) in
        second_fails (not (is_some k.fault)) (nat_le k.addr b) (nat_lt b (k.addr + bytes_in k.width)) t
    by (inl before) =
        let few = few_bytes k.width in
        let t : nat_lt k.addr (a + 4) ≡ true = grind (arith, nat_tests) in
        let u = second_of (nat_lt k.addr (a + 4)) (nat_lt a (k.addr + 4)) h t in
        let past : k.addr + 4 ≤ a = grind (arith, nat_tests) in
        let s : nat_lt b (k.addr + bytes_in k.width) ≡ false = grind (arith, nat_tests) in
        third_fails (not (is_some k.fault)) (nat_le k.addr b) (nat_lt b (k.addr + bytes_in k.width)) s

no_byte : (k : Span) (stored : Option ℕ) (b : ℕ) → reaches b k ≡ false → byte_in_span b (Some k) stored ≡ None
no_byte k None b h = refl
no_byte k (Some stored) b h = ap (λ t. if t then Some (slice_index (to_le (bytes_in k.width) stored) (b - k.addr)) else None) h

record_of : (s : Store) (g : Gathered) (p q r t : Option ℕ) → p ≡ None → q ≡ None → r ≡ None → t ≡ None →
    record { first = option_or p g.first; second = option_or q g.second; third = option_or r g.third; fourth = option_or t g.fourth; root = later s.root g.root } ≡ record g { root = later s.root g.root }
record_of s g p q r t ep eq er et =
    ap₂ (λ p q. record { first = option_or p g.first; second = option_or q g.second; third = option_or r g.third; fourth = option_or t g.fourth; root = later s.root g.root }) ep eq
    ∙ ap₂ (λ r t. record { first = g.first; second = g.second; third = option_or r g.third; fourth = option_or t g.fourth; root = later s.root g.root }) er et

-- a store that is far gives only its root
pub far_span : (s : Store) (k : Span) (a : ℕ) (g : Gathered) → s.span ≡ Some k → is_near a k ≡ false → with_younger_store a s g ≡ record g { root = later s.root g.root }
far_span s k a g e h =
    let none : (b : ℕ) → a ≤ b → b < a + 4 → byte_by b s ≡ None
    = λ b low high. ap (λ k. byte_in_span b k s.stored) e ∙ no_byte k s.stored b (far k a b h low high) in
    record_of s g (byte_by a s) (byte_by (a + 1) s) (byte_by (a + 1 + 1) s) (byte_by (a + 1 + 1 + 1) s) (none a (omega arith) (omega arith)) (none (a + 1) (omega arith) (omega arith))
    (none (a + 1 + 1) (omega arith) (omega arith)) (none (a + 1 + 1 + 1) (omega arith) (omega arith))
