-- Rows of a block of memory in which nothing differs.
use Rattle.std.proofs.Common.{◌≡◌, ℕ, ◌+◌, ◌-◌, ◌*◌, ◌<◌, ◌≤◌, Bool, true, List, [], take, drop, refl, ap, sym, ◌∙◌, arith}
use Rattle.std.specs.Prelude.{if◌then◌else◌, slice_range}
use Rattle.std.proofs.lemmas.Bool.Decides.{Decides-eqb}
use Rattle.std.proofs.lemmas.List.{drop-take, take-take, drop-drop}
use Rattle.std.proofs.lemmas.Slice.Eq.{slice_eq-Decides}
use Rattle.rv_types.specs.Memory.{Ram}
use Rattle.report_text.specs.Report.{row_of, row_line, row_text, same_bytes}

-- what is within equal parts is equal
within : (n m all : ℕ) (xs ys : List ℕ) → n + m ≤ all → take all xs ≡ take all ys → take m (drop n xs) ≡ take m (drop n ys)
within n m all xs ys le h =
    let shorter : take (n + m) xs ≡ take (n + m) ys = sym (take-take (n + m) all xs le) ∙ ap (take (n + m)) h ∙ take-take (n + m) all ys le in
    sym (drop-take n m xs) ∙ ap (drop n) shorter ∙ drop-take n m ys

pub rows_same : (xs ys : List ℕ) (row k : ℕ) → slice_range xs (16 * row) (16 * row + 4096) ≡ slice_range ys (16 * row) (16 * row + 4096) → row ≤ k → k < row + 256 → row_of xs k ≡ row_of ys k
rows_same xs ys row k h low high =
    let all : 16 * row + 4096 - 16 * row ≡ 4096 = omega arith in
    let few : 16 * k + 16 - 16 * k ≡ 16 = omega arith in
    let at : 16 * row + 16 * (k - row) ≡ 16 * k = omega (arith, low) in
    let le : 16 * (k - row) + 16 ≤ 4096 = omega (arith, low, high) in
    let whole : take 4096 (drop (16 * row) xs) ≡ take 4096 (drop (16 * row) ys) = ap (λ n. take n (drop (16 * row) xs)) (sym all) ∙ h ∙ ap (λ n. take n (drop (16 * row) ys)) all in
    let part = within (16 * (k - row)) 16 4096 (drop (16 * row) xs) (drop (16 * row) ys) le whole in
    ap (λ n. take n (drop (16 * k) xs)) few ∙ there xs at ∙ part ∙ sym (there ys at) ∙ ap (λ n. take n (drop (16 * k) ys)) (sym few)
  where
    there : (xs : List ℕ) → 16 * row + 16 * (k - row) ≡ 16 * k → take 16 (drop (16 * k) xs) ≡ take 16 (drop (16 * (k - row)) (drop (16 * row) xs))
    there xs at = ap (λ n. take 16 (drop n xs)) (sym at) ∙ ap (take 16) (sym (drop-drop (16 * (k - row)) (16 * row) xs))

pub parts_same : (xs ys : List ℕ) (r : Bool) → r ≡ same_bytes xs ys → r ≡ true → xs ≡ ys
parts_same xs ys r is t = (slice_eq-Decides Decides-eqb xs ys r is).0 t

-- where two rows are equal there is no text
pub no_text : (before after : Ram) (k : ℕ) → row_of before.bytes k ≡ row_of after.bytes k → row_text before after k ≡ []
no_text before after k h =
    let same : same_bytes (row_of before.bytes k) (row_of after.bytes k) ≡ true = (slice_eq-Decides Decides-eqb _ _ _ refl).1 h in
    ap (λ b. if b then [] else row_line (after.base + 16 * k) (row_of after.bytes k)) same
