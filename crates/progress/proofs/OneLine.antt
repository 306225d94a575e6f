-- An access at a multiple of its width lies in one line: so there are as many miss registers as an access has lines.
use Rattle.std.proofs.Common.{◌≡◌, ℕ, zero, suc, ◌+◌, ◌-◌, ◌*◌, ◌<◌, ◌≤◌, ◌^◌, Bool, true, false, not, ◌||◌, ◌∷◌, length, Some, None, refl, ap, sym, ◌∙◌, arith}
use Rattle.std.proofs.Math.Nat.{div-div-eq-div-mul}
use Rattle.std.proofs.lemmas.Nat.{div-mul-add, pow-add}
use Rattle.std.proofs.lemmas.Bool.Decides.{nat_tests}
use Rattle.std.specs.Option.{option_to_list}
use Rattle.std.specs.Int.{IsPowerOfTwo}
use Rattle.std.specs.Prelude.{if◌then◌else◌, ◌/◌, ◌%◌, ◌==◌}
use Rattle.rv_types.specs.Causes.{load_misaligned, load_outside}
use Rattle.rv_types.specs.Memory.{Ram, in_ram, load_fault}
use Rattle.rv_types.specs.Value.{size_of}
use Rattle.rv_types.specs.declared.Op.{Op}
use Rattle.rv_types.specs.declared.Op.TheVariants.{Lw, Sw, Lh, Lhu, Sh}
use Rattle.machine_desc.specs.declared.Desc.{Desc}
use Rattle.machine_desc.specs.Ranges.{IsDesc}
use Rattle.window_model.specs.State.{line_of, lines_of}
use Rattle.window_model.proofs.Telling.{lines_few}
use Rattle.progress.specs.Laws.{Allows}

-- ---- a width divides the bytes of a line

-- a power of two that is at least 4 is a multiple of 4
by_exponent : (n k : ℕ) → n ≡ 2 ^ k → 4 ≤ n → (m : ℕ) × (n ≡ 4 * m)
by_exponent n zero q l = absurd (omega (arith, q, l))
by_exponent n (suc zero) q l = absurd (omega (arith, q, l))
by_exponent n (suc (suc k)) q l = let p = pow-add 2 k 2 in (2 ^ k, omega (arith, q, p))

fours : (n : ℕ) → IsPowerOfTwo n → 4 ≤ n → (m : ℕ) × (n ≡ 4 * m)
fours n p l = by_exponent n p.0 p.1 l

-- a number of accesses of this width fills a line
width_in_line : (op : Op) (line m : ℕ) → line ≡ 4 * m → (k : ℕ) × (0 < size_of op) × (line ≡ size_of op * k)
width_in_line Lw line m q = (m, omega arith, q)
width_in_line Sw line m q = (m, omega arith, q)
width_in_line Lh line m q = (2 * m, omega arith, omega (arith, q))
width_in_line Lhu line m q = (2 * m, omega arith, omega (arith, q))
width_in_line Sh line m q = (2 * m, omega arith, omega (arith, q))
width_in_line _ line m q = (4 * m, omega arith, omega (arith, q))

-- ---- the last byte lies in the first one's line

last_with_first : (a n : ℕ) → 0 < n → a % n ≡ 0 → (a + n - 1) / n ≡ a / n
last_with_first a n some h =
    let whole : a + n - 1 ≡ a / n * n + (n - 1) = grind (arith, h, some) in
    ap (λ b. b / n) whole ∙ div-mul-add (a / n) n (n - 1) (omega (arith, some))

same_line : (line a n k : ℕ) → 0 < n → line ≡ n * k → a % n ≡ 0 → (a + n - 1) / line ≡ a / line
same_line line a n k some q h =
    ap (λ l. (a + n - 1) / l) q ∙ sym (div-div-eq-div-mul (a + n - 1) n k) ∙ ap (λ b. b / k) (last_with_first a n some h) ∙ div-div-eq-div-mul a n k ∙ ap (λ l. a / l) (sym q)

one_line : (d : Desc) (a n k : ℕ) → 0 < n → d.cache_line ≡ n * k → a % n ≡ 0 → length (lines_of d a n) ≤ 1
one_line d a n k some q h = by_same (line_of d a == line_of d (a + n - 1)) refl
  where
    same : line_of d a ≡ line_of d (a + n - 1)
    same = ap (λ i. i * d.cache_line) (sym (same_line d.cache_line a n k some q h))

    by_same : (b : Bool) → (line_of d a == line_of d (a + n - 1)) ≡ b → length (line_of d a ∷ option_to_list (if b then None else Some (line_of d (a + n - 1)))) ≤ 1
    by_same true p = omega arith
    by_same false p = absurd (grind (arith, nat_tests, same))

-- ---- as many registers as lines

-- a load without fault lies at a multiple of its width, where memory takes no other
at_multiple : (ram : Ram) (a n : ℕ) → ram.misaligned ≡ false → load_fault ram a n ≡ None → a % n ≡ 0
at_multiple ram a n m h = by_tests ram.misaligned (a % n == 0) m refl h
  where
    by_tests : (any whole : Bool) → any ≡ false → (a % n == 0) ≡ whole → (if not (any || whole) then Some load_misaligned else if in_ram ram a n then None else Some load_outside) ≡ None → a % n ≡ 0
    by_tests false true p q h = grind (arith, nat_tests, q)
    by_tests false false p q h = absurd (cc)
    by_tests true whole p q h = absurd (cc)

pub registers_enough : (d : Desc) (ram : Ram) (a : ℕ) (op : Op) → IsDesc d → Allows d ram → load_fault ram a (size_of op) ≡ None → length (lines_of d a (size_of op)) ≤ d.cache_mshrs
registers_enough d ram a op i allows h = by_rule ram.misaligned refl
  where
    by_rule : (any : Bool) → ram.misaligned ≡ any → length (lines_of d a (size_of op)) ≤ d.cache_mshrs
    by_rule true q = let two = allows q in let few = lines_few d a (size_of op) in omega (arith, few, two, i.misaligned.1)
    by_rule false q =
        let four = fours d.cache_line d.stands.line.2 (omega (arith, d.stands.line.0)) in
        let k = width_in_line op d.cache_line four.0 four.1 in
        let one = one_line d a (size_of op) k.0 k.1 k.2 (at_multiple ram a (size_of op) q h) in
        omega (arith, one, i.mshrs.0)
