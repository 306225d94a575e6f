-- What Retire puts out lies in memory, and what is published of it loses its marks.
use Rattle.std.proofs.Common.{◌≡◌, ◌≢◌, ℕ, suc, ◌+◌, ◌-◌, ◌≤◌, Bool, true, false, cond, ◌||◌, List, [], ◌∷◌, ◌⊎◌, inl, inr, length, take, drop, refl, ap, ap₂, sym, ◌∙◌, arith}
use Rattle.std.specs.Prelude.{if◌then◌else◌}
use Rattle.std.specs.List.{list_any}
use Rattle.std.proofs.lemmas.List.{length-take, length-drop}
use Rattle.rv_types.specs.Isa.{reg}
use Rattle.machine_desc.specs.declared.Desc.{Desc}
use Rattle.window_model.specs.declared.Entry.{Entry}
use Rattle.window_model.specs.State.{Machine}
use Rattle.window_model.specs.Rename.{CallAlone, calls}
use Rattle.window_model.specs.Retire.{hart_of, retire}
use Rattle.window_model.proofs.Counts.{count, count_is}
use Rattle.secret_marks.specs.declared.EntryMarks.{EntryMarks}
use Rattle.secret_marks.specs.declared.WordMarks.{WordMarks}
use Rattle.secret_marks.specs.Marks.{Marks}
use Rattle.secret_marks.specs.Published.{Public, public_piece, published_marks, unmarked_at}
use Rattle.secret_marks.proofs.Puts.{AreAlone, Puts, no_call_alone, retire_puts}
use Rattle.entry_marks.specs.declared.marks.Marks.{Marks as Beside}
use Rattle.entry_marks.specs.Walk.{marks_of}

some_if : (a b : Bool) (n : ℕ) → (a || b) ≡ true → (b ≡ true → 1 ≤ n) → 1 ≤ cond a 1 0 + n
some_if true b n h k = omega arith
some_if false b n h k = let e = k h in omega arith

-- where some entry is a call, at least one is counted
some_counted : (w : List Entry) → list_any calls w ≡ true → 1 ≤ count calls w
some_counted [] h = absurd (cc)
some_counted (e ∷ w) h = some_if (calls e) (list_any calls w) (count calls w) h (some_counted w)

-- among two or more entries there is no call
no_call : (w : List Entry) (b : Bool) → list_any calls w ≡ b → CallAlone w → 2 ≤ length w → b ≡ false
no_call w false h a two = refl
no_call w true h a two =
    let s = some_counted w h in
    let c = count_is calls w in
    let one : length w ≤ 1 = a (omega (arith, s, c)) in
    absurd (omega (arith, one, two))

alone_of : (w : List Entry) → CallAlone w → AreAlone w
alone_of [] a = tt
alone_of (e ∷ []) a = (λ c. refl, refl)
alone_of (e ∷ e2 ∷ w) a =
    no_call_alone (e ∷ e2 ∷ w) (no_call (e ∷ e2 ∷ w) (list_any calls (e ∷ e2 ∷ w)) refl a (omega arith))

-- as many bytes as are found behind some others lie behind these
reaches : (n i : ℕ) (bs : List ℕ) → length (take (suc n) (drop i bs)) ≡ suc n → i + suc n ≤ length bs
reaches n i bs l =
    let a = length-take (suc n) (drop i bs) in
    let b = length-drop i bs in
    omega (arith, a, b, l)

-- what Retire puts out lies in memory from a1 on
pub inside : (d : Desc) (x : Machine) → CallAlone x.window → (p : List ℕ) (at bytes : ℕ) → p ≡ (retire d x).piece →
    at ≡ reg x.regs 11 - x.ram.base → bytes ≡ length x.ram.bytes → p ≢ [] → at + length p ≤ bytes
inside d x a [] at bytes e q k n = absurd (n refl)
inside d x a (b ∷ p) at bytes e q k n = by_puts (retire_puts d x (alone_of x.window a))
  where
    by_puts : Puts x (retire d x) → at + length (b ∷ p) ≤ bytes
    by_puts (inl z) = absurd (let f = e ∙ z in cc)
    by_puts (inr put) =
        let i = reg x.regs 11 - x.ram.base in
        let found : take (length (b ∷ p)) (drop i x.ram.bytes) ≡ b ∷ p =
        ap (λ n. take n (drop i x.ram.bytes)) (ap length e) ∙ put.writes.bytes ∙ sym e in
        let r = reaches (length p) i x.ram.bytes (ap length found) in
        omega (arith, r, q, k)

abbrev made : List WordMarks → List Bool → List EntryMarks → Marks
made r b w = record { regs = r; bytes = b; window = w }

-- marks of which the bytes of a piece are unmarked where its stream is public are those behind Retire
pub publishes : (public : Public) (x : Machine) (m : Beside) (bytes : List Bool) (k : Marks) (piece p : List ℕ) (stream at : ℕ) →
    bytes ≡ unmarked_at at (if public stream then p else []) m.bytes.items → stream ≡ reg x.regs 10 → at ≡ reg x.regs 11 - x.ram.base →
    p ≡ piece → marks_of m ≡ k → made m.regs bytes m.window.items ≡ published_marks public x piece k
publishes public x m bytes k piece p stream at eb es ea ep ek =
    ap (λ b. made m.regs b m.window.items) eb
    ∙ ap₂ (λ s a. made m.regs (unmarked_at a (if public s then p else []) m.bytes.items) m.window.items) es ea
    ∙ ap (λ p. published_marks public x p (marks_of m)) ep
    ∙ ap (published_marks public x piece) ek
