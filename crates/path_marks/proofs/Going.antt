-- An instruction whose step goes on doesn't fault: what it stores and what it puts out lie in memory, and marks move as
-- of an access without fault.
use borrow.Author.Tests.{leb-true}
use Rattle.std.proofs.Common.{◌≡◌, ◌≢◌, ℕ, zero, suc, ◌+◌, ◌-◌, ◌≤◌, Bool, true, false, List, [], ◌∷◌, length, take, drop, Option, None, Some, refl, ap, ap₂, sym, ◌∙◌, subst, arith}
use Rattle.std.specs.Prelude.{◌&&◌, ◌||◌, ◌==◌, ◌%◌, get_or, if◌then◌else◌, min, nat_le, not}
use Rattle.std.specs.Option.{option_map}
use Rattle.rv_types.specs.Causes.{jump_misaligned}
use Rattle.rv_types.specs.Decode.{decode}
use Rattle.rv_types.specs.Memory.{Code, Ram, bytes_at, in_ram, load_fault, store_fault}
use Rattle.rv_types.specs.Regs.{reads_of, unless_zero, writes_of}
use Rattle.rv_types.specs.Value.{size_of}
use Rattle.rv_types.specs.Isa.{Hart, Step, Goes, Exits, Traps, after, answers, call, effect_in, goes_to, isa_step, minus, or_trap, reg, run, step_of, write_of}
use Rattle.rv_types.specs.declared.Cause.{Cause}
use Rattle.rv_types.specs.declared.Instr.{Instr}
use Rattle.rv_types.specs.declared.Instr.TheVariants.{Load, Store, Ecall, Ebreak, Illegal}
use Rattle.isa_step.specs.Outcome.{Outcome, outcome}
use Rattle.isa_step.specs.declared.stepped.Stepped.{Stepped}
use Rattle.isa_step.specs.declared.stepped.Stepped.TheVariants.{Next}
use Rattle.isa_step.proofs.Runs.{goes}
use Rattle.isa_step.proofs.Shape.{SameShape, run_keeps}
use Rattle.window_model.specs.Fetch.{instr_at}
use Rattle.secret_marks.specs.declared.PublicStreams.{PublicStreams}
use Rattle.secret_marks.specs.declared.WordMarks.{WordMarks}
use Rattle.secret_marks.specs.Marks.{with_marks}
use Rattle.secret_marks.specs.Published.{unmarked_at}
use Rattle.secret_marks.specs.Streams.{public_in}
use Rattle.constant_time.specs.PathMarks.{PathMarks, after_instr, after_step, load_marks, second_mark, store_marks}
use Rattle.path_marks.specs.Moved.{InMemory, access_at, marks_after_access}
use Rattle.path_marks.proofs.Words.{instr_there}

-- ---- a step by its answer

abbrev answered : Hart → List ℕ → Stepped → Outcome
answered s p t = record { hart = s; piece = p; stepped = t }

-- ---- memory stays where it is

kept_by : (code : Code) (s s' : Hart) (p : List ℕ) (t : Stepped) (step : Step) → record { hart = s'; piece = p; stepped = t } ≡ outcome s step →
    SameShape s.ram (after s step (run (isa_step code) 0)).last.ram → SameShape s.ram s'.ram
kept_by code s s' p t (Goes u q) e k = subst (λ (h : Hart). SameShape s.ram h.ram) (sym (ap (λ o. o.hart) e)) k
kept_by code s s' p t (Exits v u) e k = subst (λ (h : Hart). SameShape s.ram h.ram) (sym (ap (λ o. o.hart) e)) k
kept_by code s s' p t (Traps cause) e k = subst (λ (h : Hart). SameShape s.ram h.ram) (sym (ap (λ o. o.hart) e)) k

-- a step leaves memory where it is
pub memory_stays : (code : Code) (s s' : Hart) (p : List ℕ) (t : Stepped) → record { hart = s'; piece = p; stepped = t } ≡ outcome s (isa_step code s) → SameShape s.ram s'.ram
memory_stays code s s' p t e = kept_by code s s' p t (isa_step code s) e (run_keeps code 1 s)

-- a step that answers so goes on
pub going : (code : Code) (s s' : Hart) (p : List ℕ) (t : Stepped) → record { hart = s'; piece = p; stepped = t } ≡ outcome s (isa_step code s) → t ≡ Next → isa_step code s ≡ Goes s' p
going code s s' p t e n = goes s s' p (isa_step code s) (ap (λ t. answered s' p t) (sym n) ∙ e)

-- ---- no fault

no_fault : (f : Option Cause) (x : Step) (t : Hart) (p : List ℕ) → or_trap f x ≡ Goes t p → f ≡ None
no_fault None x t p e = refl
no_fault (Some cause) x t p e = absurd (cc)

both : (x y : Bool) → (x && y) ≡ true → (x ≡ true) × (y ≡ true)
both true y h = (refl, h)
both false y h = absurd (cc)

-- an access without fault lies in memory
within : (misaligned inside : Bool) (c d : Cause) → (if misaligned then Some c else if inside then None else Some d) ≡ None → inside ≡ true
within true inside c d h = absurd (cc)
within false true c d h = refl
within false false c d h = absurd (cc)

-- n bytes in memory from an address on, by their position
lies : (ram : Ram) (a n : ℕ) → in_ram ram a n ≡ true → (a - ram.base) + n ≤ length ram.bytes
lies ram a n h =
    let b = both (nat_le ram.base a) (nat_le (a + n) (ram.base + length ram.bytes)) h in
    let low : ram.base ≤ a = leb-true _ _ b.0 in
    let high : a + n ≤ ram.base + length ram.bytes = leb-true _ _ b.1 in
    omega (arith, low, high)

-- what a store writes lies in memory
stores_inside : (s t : Hart) (p : List ℕ) (i : Instr) → step_of s i ≡ Goes t p → InMemory s.ram.base (access_at s.regs i) i (length s.ram.bytes)
stores_inside s t p (Store op rs1 rs2 imm) e =
    let a = (effect_in s (Store op rs1 rs2 imm)).addr in
    let f : store_fault s.ram a (size_of op) ≡ None = no_fault _ _ t p e in
    lies s.ram a (size_of op) (within (not (s.ram.misaligned || a % size_of op == 0)) (in_ram s.ram a (size_of op)) _ _ f)
stores_inside s t p i e = tt

pub store_inside : (s t : Hart) (p : List ℕ) (i : Instr) (base a size : ℕ) → step_of s i ≡ Goes t p → base ≡ s.ram.base → a ≡ access_at s.regs i → size ≡ length s.ram.bytes → InMemory base a i size
store_inside s t p i base a size e eb ea es =
    subst (λ b. InMemory b a i size) (sym eb)
    (subst (λ a. InMemory s.ram.base a i size) (sym ea) (subst (λ n. InMemory s.ram.base (access_at s.regs i) i n) (sym es) (stores_inside s t p i e)))

-- marks move as behind an instruction that may fault
moves : (s t : Hart) (p : List ℕ) (i : Instr) (m : PathMarks) → step_of s i ≡ Goes t p → marks_after_access s.ram.base (access_at s.regs i) i m ≡ after_instr s i m
moves s t p (Load op rd rs1 imm) m e =
    let a = (effect_in s (Load op rd rs1 imm)).addr in
    let f : load_fault s.ram a (size_of op) ≡ None = no_fault _ _ t p e in
    let F : Option Cause → PathMarks = λ f. record m { regs = with_marks m.regs (unless_zero rd.number) (load_marks f op (λ b. get_or m.bytes (b - s.ram.base) false) a) } in
    ap F (sym f)
moves s t p (Store op rs1 rs2 imm) m e =
    let a = (effect_in s (Store op rs1 rs2 imm)).addr in
    let f : store_fault s.ram a (size_of op) ≡ None = no_fault _ _ t p e in
    let F : Option Cause → PathMarks = λ f. record m { bytes = store_marks f m.bytes (a - s.ram.base) (size_of op) (second_mark (reads_of (Store op rs1 rs2 imm)) m.regs) } in
    ap F (sym f)
moves s t p i m e = refl

-- ---- what is put out

-- what a step puts out are bytes of memory from a1 on
abbrev Lies : Hart → Step → Type 0
Lies s (Goes t p) = p ≢ [] → (reg s.regs 11 - s.ram.base) + length p ≤ length s.ram.bytes
Lies s _ = Unit {0}

lies_if : (s : Hart) (b : Bool) (x y : Step) → (b ≡ true → Lies s x) → Lies s y → Lies s (if b then x else y)
lies_if s true x y h k = h refl
lies_if s false x y h k = k

short : (n : ℕ) (xs : List ℕ) → length (take n xs) ≤ n
short zero xs = omega arith
short (suc n) [] = omega arith
short (suc n) (x ∷ xs) = let h = short n xs in omega (arith, h)

none_out : (s t : Hart) → Lies s (Goes t [])
none_out s t = λ h. absurd (h refl)

bytes_lie : (s : Hart) (n : ℕ) → in_ram s.ram (reg s.regs 11) n ≡ true → (reg s.regs 11 - s.ram.base) + length (bytes_at s.ram (reg s.regs 11) n) ≤ length s.ram.bytes
bytes_lie s n h =
    let i = reg s.regs 11 - s.ram.base in
    let a = lies s.ram (reg s.regs 11) n h in
    let b : length (bytes_at s.ram (reg s.regs 11) n) ≤ i + n - i = short (i + n - i) (drop i s.ram.bytes) in
    omega (arith, a, b)

write_lies : (s : Hart) (n : ℕ) → Lies s (write_of s (reg s.regs 11) n)
write_lies s n =
    lies_if s (n == 0) (Goes (answers s 0) []) _ (λ h. none_out s (answers s 0))
    (lies_if s (in_ram s.ram (reg s.regs 11) n) (Goes (answers s n) (bytes_at s.ram (reg s.regs 11) n)) (Goes (answers s (minus 14)) []) (λ h k. bytes_lie s n h) (none_out s (answers s (minus 14))))

call_lies : (s : Hart) → Lies s (call s)
call_lies s =
    let a7 = reg s.regs 17 in
    let a0 = reg s.regs 10 in
    lies_if s (a7 == 93 || a7 == 94) (Exits a0 _) _ (λ h. tt)
    (lies_if s (not (a7 == 64)) (Goes (answers s (minus 38)) []) _ (λ h. none_out s (answers s (minus 38)))
    (lies_if s (not (a0 == 1 || a0 == 2)) (Goes (answers s (minus 9)) []) _ (λ h. none_out s (answers s (minus 9))) (write_lies s (min (reg s.regs 12) 1024))))

fault_lies : (s t : Hart) (f : Option Cause) → Lies s (or_trap f (Goes t []))
fault_lies s t None = none_out s t
fault_lies s t (Some cause) = tt

step_lies : (s : Hart) (i : Instr) → Lies s (step_of s i)
step_lies s Ecall = call_lies s
step_lies s Ebreak = tt
step_lies s (Illegal w) = tt
step_lies s (Load op rd rs1 imm) = fault_lies s _ (load_fault s.ram (effect_in s (Load op rd rs1 imm)).addr (size_of op))
step_lies s (Store op rs1 rs2 imm) = fault_lies s _ (store_fault s.ram (effect_in s (Store op rs1 rs2 imm)).addr (size_of op))
step_lies s i = let e = effect_in s i in lies_if s e.misaligned (Traps jump_misaligned) (Goes (goes_to s (writes_of i) e) []) (λ h. tt) (none_out s (goes_to s (writes_of i) e))

piece_lies : (s t : Hart) (p : List ℕ) (i : Instr) → step_of s i ≡ Goes t p → p ≢ [] → (reg s.regs 11 - s.ram.base) + length p ≤ length s.ram.bytes
piece_lies s t p i e = subst (Lies s) e (step_lies s i)

-- what is put out has its marks in memory
pub piece_inside : (s t : Hart) (p q : List ℕ) (i : Instr) (from base at size : ℕ) → step_of s i ≡ Goes t p → q ≡ p → at ≡ from - base → from ≡ reg s.regs 11 →
    base ≡ s.ram.base → size ≡ length s.ram.bytes → q ≢ [] → at + length q ≤ size
piece_inside s t p q i from base at size e eq et ef eb es = λ n.
    let h = piece_lies s t p i e (λ z. n (eq ∙ z)) in
    let l = ap length eq in
    let place : at ≡ reg s.regs 11 - s.ram.base = et ∙ ap₂ (λ f b. f - b) ef eb in
    omega (arith, h, l, place, es)

-- ---- the marks behind a step

-- marks that moved, and of which the bytes of a public piece are unmarked, are those behind the step
pub marks_behind : (public : PublicStreams) (word : Option ℕ) (s t : Hart) (p q : List ℕ) (i : Instr) (m : PathMarks) (base a stream from at : ℕ) (regs : List WordMarks) (mid bytes : List Bool) →
    Some i ≡ option_map decode word → step_of s i ≡ Goes t p → base ≡ s.ram.base → a ≡ access_at s.regs i → record { regs = regs; bytes = mid } ≡ marks_after_access base a i m →
    q ≡ p → stream ≡ reg s.regs 10 → at ≡ from - base → from ≡ reg s.regs 11 → bytes ≡ unmarked_at at (if public_in public stream then q else []) mid →
    record { regs = regs; bytes = bytes } ≡ after_step (public_in public) s (instr_at word) p m
marks_behind public word s t p q i m base a stream from at regs mid bytes here e eb ea em eq es et ef ey =
    let unmark : PathMarks → ℕ → ℕ → PathMarks = λ n at stream. record n { bytes = unmarked_at at (if public_in public stream then p else []) n.bytes } in
    let place : at ≡ reg s.regs 11 - s.ram.base = et ∙ ap₂ (λ f b. f - b) ef eb in
    let put = ey ∙ ap (λ q. unmarked_at at (if public_in public stream then q else []) mid) eq in
    let made : record { regs = regs; bytes = mid } ≡ after_instr s i m = em ∙ ap₂ (λ b a. marks_after_access b a i m) eb ea ∙ moves s t p i m e in
    ap (λ b. record { regs = regs; bytes = b }) put
    ∙ ap₂ (unmark (record { regs = regs; bytes = mid })) place es
    ∙ ap (λ n. unmark n (reg s.regs 11 - s.ram.base) (reg s.regs 10)) made
    ∙ ap (λ i. after_step (public_in public) s i p m) (instr_there word i here)
