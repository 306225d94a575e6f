-- No step of the instruction set moves memory or changes its size.
use borrow.Author.Tests.{leb-true}
use Rattle.std.proofs.lemmas.List.{length-take-le}
use Rattle.std.proofs.Common.{◌≡◌, ℕ, zero, suc, ◌+◌, ◌-◌, ◌≤◌, List, [], ◌++◌, length, take, drop, Option, Some, None, Bool, true, false, if◌then◌else◌, refl, ap, ◌∙◌, arith, length-append, length-drop}
use Rattle.std.specs.Prelude.{◌&&◌, ◌||◌, nat_le, not, ◌==◌, ◌%◌, ◌/◌, min}
use Rattle.rv_types.specs.Word.{to_le}
use Rattle.rv_types.specs.Value.{size_of}
use Rattle.rv_types.specs.Decode.{decode}
use Rattle.rv_types.specs.Memory.{Ram, Code, bytes_at, in_ram, store_fault, load_fault, with_bytes}
use Rattle.rv_types.specs.Isa.{Hart, Step, Goes, Exits, Traps, Run, isa_step, isa, run, after, step_of, step_at, or_trap, effect_in, call, write_of, goes_to, reg, answers, minus, load_value}
use Rattle.rv_types.specs.Regs.{writes_of, unless_zero}
use Rattle.rv_types.specs.Causes.{jump_misaligned}
use Rattle.rv_types.specs.declared.Cause.{Cause}
use Rattle.rv_types.specs.declared.Instr.{Instr}
use Rattle.rv_types.specs.declared.Instr.TheVariants.{Load, Store, Ecall, Ebreak, Illegal}

-- two memories lie in one place and take the same addresses
pub record SameShape (m m2 : Ram) : Type 0 where
  pub base : m2.base ≡ m.base
  pub size : length m2.bytes ≡ length m.bytes
  pub misaligned : m2.misaligned ≡ m.misaligned

pub same : (m : Ram) → SameShape m m
same m = record { base = refl; size = refl; misaligned = refl }

pub same_then : (a b c : Ram) → SameShape a b → SameShape b c → SameShape a c
same_then a b c p q = record { base = q.base ∙ p.base; size = q.size ∙ p.size; misaligned = q.misaligned ∙ p.misaligned }

-- a step leaves memory where it is
abbrev Keeps : Ram → Step → Type 0
Keeps m (Goes s piece) = SameShape m s.ram
Keeps m (Exits v s) = SameShape m s.ram
Keeps m (Traps cause) = Unit {0}

either : (m : Ram) (b : Bool) (x y : Step) → Keeps m x → Keeps m y → Keeps m (if b then x else y)
either m true x y p q = p
either m false x y p q = q

trapped : (m : Ram) (fault : Option Cause) (x : Step) → Keeps m x → Keeps m (or_trap fault x)
trapped m None x p = p
trapped m (Some cause) x p = tt

length_to_le : (n v : ℕ) → length (to_le n v) ≡ n
length_to_le zero v = refl
length_to_le (suc n) v = ap suc (length_to_le n (v / 256))

both : (x y : Bool) → (x && y) ≡ true → (x ≡ true) × (y ≡ true)
both true y h = (refl, h)
both false y h = absurd (cc)

-- a write of bytes that all lie in memory
length_written : (ram : Ram) (a : ℕ) (new : List ℕ) → in_ram ram a (length new) ≡ true → length (with_bytes ram a new).bytes ≡ length ram.bytes
length_written ram a new h =
    let b = both (nat_le ram.base a) (nat_le (a + length new) (ram.base + length ram.bytes)) h in
    let low : ram.base ≤ a = leb-true _ _ b.0 in
    let high : a + length new ≤ ram.base + length ram.bytes = leb-true _ _ b.1 in
    let front : length (take (a - ram.base) ram.bytes) ≡ a - ram.base = length-take-le (a - ram.base) ram.bytes (omega arith) in
    let back : length (drop (a - ram.base + length new) ram.bytes) ≡ length ram.bytes - (a - ram.base + length new) = length-drop (a - ram.base + length new) ram.bytes in
    let whole : length (take (a - ram.base) ram.bytes ++ new ++ drop (a - ram.base + length new) ram.bytes)
    ≡ length (take (a - ram.base) ram.bytes) + length new + length (drop (a - ram.base + length new) ram.bytes) =
    length-append (take (a - ram.base) ram.bytes ++ new) (drop (a - ram.base + length new) ram.bytes)
    ∙ ap (λ k. k + length (drop (a - ram.base + length new) ram.bytes)) (length-append (take (a - ram.base) ram.bytes) new) in
    omega arith

-- an access without fault lies in memory
inside : (misaligned within : Bool) (c d : Cause) → (if misaligned then Some c else if within then None else Some d) ≡ None → within ≡ true
inside true within c d h = absurd (cc)
inside false true c d h = refl
inside false false c d h = absurd (cc)

-- the state behind a store
abbrev written : Hart → ℕ → ℕ → ℕ → ℕ → Hart
written s a n v next = record s { pc = next; ram = with_bytes s.ram a (to_le n v) }

write_keeps : (s : Hart) (a n v next : ℕ) → in_ram s.ram a n ≡ true → SameShape s.ram (written s a n v next).ram
write_keeps s a n v next h =
    let h' : in_ram s.ram a (length (to_le n v)) ≡ true = rw (length_to_le n v) h in
    record { base = refl; size = length_written s.ram a (to_le n v) h'; misaligned = refl }

store_by : (s : Hart) (a n v next : ℕ) (fault : Option Cause) → store_fault s.ram a n ≡ fault → Keeps s.ram (or_trap fault (Goes (written s a n v next) []))
store_by s a n v next None e = write_keeps s a n v next (inside (not (s.ram.misaligned || a % n == 0)) (in_ram s.ram a n) _ _ e)
store_by s a n v next (Some cause) e = tt

write_of_keeps : (s : Hart) (a m : ℕ) → Keeps s.ram (write_of s a m)
write_of_keeps s a m =
    either s.ram (m == 0) (Goes (answers s 0) []) _ (same s.ram)
    (either s.ram (in_ram s.ram a m) (Goes (answers s m) (bytes_at s.ram a m)) (Goes (answers s (minus 14)) []) (same s.ram) (same s.ram))

call_keeps : (s : Hart) → Keeps s.ram (call s)
call_keeps s =
    let a7 = reg s.regs 17 in
    let a0 = reg s.regs 10 in
    either s.ram (a7 == 93 || a7 == 94) _ _ (same s.ram)
    (either s.ram (not (a7 == 64)) _ _ (same s.ram)
    (either s.ram (not (a0 == 1 || a0 == 2)) _ _ (same s.ram) (write_of_keeps s (reg s.regs 11) (min (reg s.regs 12) 1024))))

step_keeps : (s : Hart) (i : Instr) → Keeps s.ram (step_of s i)
step_keeps s (Store op rs1 rs2 imm) =
    let e = effect_in s (Store op rs1 rs2 imm) in
    store_by s e.addr (size_of op) e.stored e.next (store_fault s.ram e.addr (size_of op)) refl
step_keeps s (Load op rd rs1 imm) =
    let e = effect_in s (Load op rd rs1 imm) in
    trapped s.ram (load_fault s.ram e.addr (size_of op)) (Goes (goes_to s (unless_zero rd.number) (record e { value = load_value s op e.addr })) []) (same s.ram)
step_keeps s Ecall = call_keeps s
step_keeps s Ebreak = tt
step_keeps s (Illegal w) = tt
step_keeps s i =
    let e = effect_in s i in either s.ram e.misaligned (Traps jump_misaligned) (Goes (goes_to s (writes_of i) e) []) tt (same s.ram)

at_keeps : (o : Option ℕ) (s : Hart) → Keeps s.ram (step_at o s)
at_keeps None s = tt
at_keeps (Some w) s = step_keeps s (decode w)

isa_step_keeps : (code : Code) (s : Hart) → Keeps s.ram (isa_step code s)
unfolding isa_step
isa_step_keeps code s = at_keeps (code s.pc) s

rest_keeps : (m : Ram) (s : Hart) (step : Step) (rest : Hart → Run) → SameShape m s.ram → Keeps m step → ((t : Hart) → SameShape t.ram (rest t).last.ram) → SameShape m (after s step rest).last.ram
rest_keeps m s (Goes t piece) rest h k r = same_then _ _ _ k (r t)
rest_keeps m s (Exits v t) rest h k r = k
rest_keeps m s (Traps cause) rest h k r = h

-- a run leaves memory where it is
pub run_keeps : (code : Code) (n : ℕ) (s : Hart) → SameShape s.ram (isa code s n).last.ram
run_keeps code zero s = same s.ram
run_keeps code (suc n) s = rest_keeps s.ram s (isa_step code s) (run (isa_step code) n) (same s.ram) (isa_step_keeps code s) (run_keeps code n)
