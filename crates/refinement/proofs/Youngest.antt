-- Youngest roots, as roots retire.
use Rattle.std.proofs.Common.{Bool, List, None, Option, Some, [], ap, ap₂, arith, false, length, max, not, refl, sym, true, ℕ, ⊎_elim, ◌&&◌, ◌++◌, ◌<◌, ◌||◌, ◌∙◌, ◌∷◌, ◌≡◌, ◌≤◌}
use Rattle.std.proofs.lemmas.Bool.{cases_lt}
use Rattle.std.proofs.lemmas.Bool.Decides.{nat_tests}
use Rattle.std.proofs.lemmas.List.Elements.{All-head, All-tail, All-weaker}
use Rattle.std.specs.List.{All, list_any}
use Rattle.std.specs.Prelude.{if◌then◌else◌, map, nat_le}
use Rattle.rename_taint.specs.Writes.{later, latest, root_written}
use Rattle.rv_types.specs.Regs.{reads_of, two}
use Rattle.rv_types.specs.declared.Instr.{Instr}
use Rattle.rv_types.specs.declared.Kind.{Kind}
use Rattle.rv_types.specs.declared.Kind.TheVariants.{Load}
use Rattle.visibility.specs.Point.{Point, is_hidden}
use Rattle.visibility.proofs.Moving.{Tells}
use Rattle.window_model.proofs.Booleans.{or_false}
use Rattle.window_model.proofs.Serials.{Falls}
use Rattle.window_model.proofs.Taints.{none_any, tainted_cons}
use Rattle.window_model.specs.Along.{Behind}
use Rattle.window_model.specs.Order.{is_load, sources, writes}
use Rattle.window_model.specs.Taint.{any_tainted, tainted, visible}
use Rattle.window_model.specs.declared.Entry.{Entry}
use Rattle.refinement.proofs.Lists.{map_same, map_twice}
use Rattle.refinement.specs.Roots.{root_of_source, source_roots, root_in_flight, youngest_root}
use Rattle.rv_types.specs.declared.Instr.TheVariants as instr

-- ---- what has not retired

-- a serial from the oldest on is told
pub unretired_in : (f s : ℕ) → f ≤ s → root_in_flight f (Some s) ≡ Some s
unretired_in f s le = let t : nat_le f s ≡ true = grind (arith, nat_tests) in ap (λ b. if b then Some s else None) t

-- a serial below the oldest isn't told
pub unretired_out : (f s : ℕ) → s < f → root_in_flight f (Some s) ≡ None
unretired_out f s lt = let t : nat_le f s ≡ false = grind (arith, nat_tests) in ap (λ b. if b then Some s else None) t

unretired_later : (f : ℕ) (a b : Option ℕ) → root_in_flight f (later a b) ≡ later (root_in_flight f a) (root_in_flight f b)
unretired_later f None b = refl
unretired_later f (Some a) None = by_a (nat_le f a)
  where
    by_a : (t : Bool) → (if t then Some a else None) ≡ later (if t then Some a else None) None
    by_a true = refl
    by_a false = refl
unretired_later f (Some a) (Some b) =
    ⊎_elim
    (λ (l : a < f).
    ⊎_elim
    (λ (m : b < f). unretired_out f (max a b) (omega arith) ∙ sym (ap₂ later (unretired_out f a l) (unretired_out f b m)))
    (λ (m : f ≤ b). let e : max a b ≡ b = omega arith in unretired_in f (max a b) (omega arith) ∙ ap Some e ∙ sym (ap₂ later (unretired_out f a l) (unretired_in f b m)))
    (cases_lt b f))
    (λ (l : f ≤ a).
    ⊎_elim
    (λ (m : b < f). let e : max a b ≡ a = omega arith in unretired_in f (max a b) (omega arith) ∙ ap Some e ∙ sym (ap₂ later (unretired_in f a l) (unretired_out f b m)))
    (λ (m : f ≤ b). unretired_in f (max a b) (omega arith) ∙ sym (ap₂ later (unretired_in f a l) (unretired_in f b m)))
    (cases_lt b f))
    (cases_lt a f)

unretired_latest : (f : ℕ) (os : List (Option ℕ)) → root_in_flight f (latest os) ≡ latest (map (root_in_flight f) os)
unretired_latest f [] = refl
unretired_latest f (o ∷ os) = unretired_later f o (latest os) ∙ ap (later (root_in_flight f o)) (unretired_latest f os)

-- what an entry that has not retired writes
pub unretired_written : (f : ℕ) (k : Kind) (s : ℕ) (os : List (Option ℕ)) → f ≤ s → root_in_flight f (root_written k s os) ≡ root_written k s (map (root_in_flight f) os)
unretired_written f Load s os le = unretired_in f s le
unretired_written f _ s os le = unretired_latest f os

-- what is told where the oldest is older is no more than what is told now
pub unretired_twice : (f g : ℕ) (o : Option ℕ) → f ≤ g → root_in_flight g (root_in_flight f o) ≡ root_in_flight g o
unretired_twice f g None le = refl
unretired_twice f g (Some s) le = by_f (nat_le f s) refl
  where
    by_f : (b : Bool) → nat_le f s ≡ b → root_in_flight g (if b then Some s else None) ≡ root_in_flight g (Some s)
    by_f true e = refl
    by_f false e = let t : nat_le g s ≡ false = grind (arith, nat_tests) in ap (λ b. if b then Some s else None) (sym t)

-- serials of which those that have retired are taken off twice
pub unretired_all_twice : (f g : ℕ) (os : List (Option ℕ)) → f ≤ g → map (root_in_flight g) (map (root_in_flight f) os) ≡ map (root_in_flight g) os
unretired_all_twice f g [] le = refl
unretired_all_twice f g (o ∷ os) le = ap₂ (λ o os. o ∷ os) (unretired_twice f g o le) (unretired_all_twice f g os le)

-- ---- sources

-- an instruction has at most two sources
pub few_reads : (i : Instr) → length (reads_of i) ≤ 2
few_reads (instr.Jalr rd rs1 imm) = omega arith
few_reads (instr.Branch op rs1 rs2 imm) = omega arith
few_reads (instr.Load op rd rs1 imm) = omega arith
few_reads (instr.Store op rs1 rs2 imm) = omega arith
few_reads (instr.OpImm op rd rs1 imm) = omega arith
few_reads (instr.OpReg op rd rs1 rs2) = omega arith
few_reads (instr.Lui rd imm) = omega arith
few_reads (instr.Auipc rd imm) = omega arith
few_reads (instr.Jal rd imm) = omega arith
few_reads (instr.Fence w) = omega arith
few_reads instr.Ecall = omega arith
few_reads instr.Ebreak = omega arith
few_reads (instr.Illegal w) = omega arith

latest_two : (before : List Entry) (rs : List ℕ) → length rs ≤ 2 → latest (map (root_of_source before) (two rs)) ≡ latest (map (youngest_root before) rs)
latest_two before [] le = refl
latest_two before (a ∷ []) le = refl
latest_two before (a ∷ b ∷ []) le = refl
latest_two before (a ∷ b ∷ c ∷ rs) le = absurd (omega arith)

written_two : (k : Kind) (s : ℕ) (before : List Entry) (rs : List ℕ) → length rs ≤ 2 → root_written k s (map (root_of_source before) (two rs)) ≡ root_written k s (map (youngest_root before) rs)
written_two Load s before rs le = refl
written_two _ s before rs le = latest_two before rs le

-- what an entry writes has its sources' roots
pub written_by : (before : List Entry) (e : Entry) → root_written e.item.kind e.serial (source_roots before e) ≡ root_written e.item.kind e.serial (map (youngest_root before) (sources e))
written_by before e = written_two e.item.kind e.serial before (sources e) (few_reads e.item.instr)

-- ---- the oldest entry retires

-- roots of sources where those of registers are the others' unretired ones
pub unretired_roots : (f : ℕ) (before older : List Entry) (os : List (Option ℕ)) → ((r : ℕ) → root_in_flight f (youngest_root older r) ≡ youngest_root before r) →
    map (root_in_flight f) (map (root_of_source older) os) ≡ map (root_of_source before) os
unretired_roots f before older os h = map_twice (root_in_flight f) (root_of_source older) os ∙ map_same (λ o. root_in_flight f (root_of_source older o)) (root_of_source before) os each
  where
    each : (o : Option ℕ) → root_in_flight f (root_of_source older o) ≡ root_of_source before o
    each None = refl
    each (Some r) = h r

-- the youngest root without the oldest entry
pub root_without : (f : ℕ) (before : List Entry) (h : Entry) → All (λ e. f ≤ e.serial) before → h.serial < f → (r : ℕ) → root_in_flight f (youngest_root (before ++ h ∷ []) r) ≡ youngest_root before r
root_without f [] h a lt r = by_writes (writes r h)
  where
    none : (rs : List ℕ) → latest (map (youngest_root []) rs) ≡ None
    none [] = refl
    none (r ∷ rs) = none rs

    by_kind : (k : Kind) → root_in_flight f (root_written k h.serial (map (youngest_root []) (sources h))) ≡ None
    by_kind Load = unretired_out f h.serial lt
    by_kind _ = ap (root_in_flight f) (none (sources h))

    by_writes : (w : Bool) → root_in_flight f (if w then root_written h.item.kind h.serial (map (youngest_root []) (sources h)) else None) ≡ None
    by_writes true = by_kind h.item.kind
    by_writes false = refl
root_without f (e ∷ before) h a lt r = by_writes (writes r e) (root_without f before h (All-tail (λ e. f ≤ e.serial) e before a) lt)
  where
    by_writes : (w : Bool) → ((r : ℕ) → root_in_flight f (youngest_root (before ++ h ∷ []) r) ≡ youngest_root before r) →
        root_in_flight f (if w then root_written e.item.kind e.serial (map (youngest_root (before ++ h ∷ [])) (sources e)) else youngest_root (before ++ h ∷ []) r)
        ≡ (if w then root_written e.item.kind e.serial (map (youngest_root before) (sources e)) else youngest_root before r)
    by_writes true k =
        unretired_written f e.item.kind e.serial (map (youngest_root (before ++ h ∷ [])) (sources e)) (All-head (λ e. f ≤ e.serial) e before a)
        ∙ ap (root_written e.item.kind e.serial) (map_twice (root_in_flight f) (youngest_root (before ++ h ∷ [])) (sources e) ∙ map_same (λ r. root_in_flight f (youngest_root (before ++ h ∷ []) r)) (youngest_root before) (sources e) k)
    by_writes false k = k r

-- ---- the youngest root tells what is tainted

hidden_later : (point : ℕ) (a b : Option ℕ) → is_hidden point (later a b) ≡ (is_hidden point a || is_hidden point b)
hidden_later point None b = refl
hidden_later point (Some a) None = sym (or_false (not (nat_le a point)))
hidden_later point (Some a) (Some b) = grind (arith, nat_tests)

hidden_latest : (point : ℕ) (os : List (Option ℕ)) → is_hidden point (latest os) ≡ list_any (is_hidden point) os
hidden_latest point [] = refl
hidden_latest point (o ∷ os) = hidden_later point o (latest os) ∙ ap (λ b. is_hidden point o || b) (hidden_latest point os)

any_map : {X : Type 0} (p : X → Bool) (f : ℕ → X) (q : ℕ → Bool) (rs : List ℕ) → ((r : ℕ) → p (f r) ≡ q r) → list_any p (map f rs) ≡ list_any q rs
any_map p f q [] h = refl
any_map p f q (r ∷ rs) h = ap₂ (λ a b. a || b) (h r) (any_map p f q rs h)

-- where all entries are up to the point, no root is hidden
none_hidden : (point : ℕ) (before : List Entry) → All (λ e. e.serial ≤ point) before → (r : ℕ) → is_hidden point (youngest_root before r) ≡ false
none_hidden point [] a r = refl
none_hidden point (e ∷ before) a r = by_writes (writes r e) (none_hidden point before (All-tail (λ e. e.serial ≤ point) e before a))
  where
    shown : not (nat_le e.serial point) ≡ false
    shown = let le : e.serial ≤ point = All-head (λ e. e.serial ≤ point) e before a in let t : nat_le e.serial point ≡ true = grind (arith, nat_tests) in ap not t

    by_kind : (k : Kind) → ((r : ℕ) → is_hidden point (youngest_root before r) ≡ false) → is_hidden point (root_written k e.serial (map (youngest_root before) (sources e))) ≡ false
    by_kind Load h = shown
    by_kind _ h =
        hidden_latest point (map (youngest_root before) (sources e)) ∙ any_map (is_hidden point) (youngest_root before) (λ r. false) (sources e) h ∙ none_any (λ r. false) (sources e) (λ r. refl)

    by_writes : (w : Bool) → ((r : ℕ) → is_hidden point (youngest_root before r) ≡ false) →
        is_hidden point (if w then root_written e.item.kind e.serial (map (youngest_root before) (sources e)) else youngest_root before r) ≡ false
    by_writes true h = by_kind e.item.kind h
    by_writes false h = h r

-- the youngest root is hidden exactly where the value is tainted
pub root_tells : (p : Point) (before : List Entry) → Behind (Tells p) before → Behind Falls before → (r : ℕ) → is_hidden p.serial (youngest_root before r) ≡ tainted p.model before r
root_tells p [] t f r = refl
root_tells p (e ∷ before) t f r = by_writes (writes r e) (root_tells p before t.1 f.1) ∙ sym (tainted_cons p.model e before r)
  where
    load : (v : Bool) → nat_le e.serial p.serial ≡ v → visible p.model before ≡ v → ((r : ℕ) → is_hidden p.serial (youngest_root before r) ≡ tainted p.model before r) →
        not (nat_le e.serial p.serial) ≡ (not (visible p.model before) || any_tainted p.model before e)
    load false n v h = ap not n ∙ sym (ap (λ b. not b || any_tainted p.model before e) v)
    load true n v h =
        let le : e.serial ≤ p.serial = grind (arith, nat_tests) in
        let seen = All-weaker (λ b. b.serial < e.serial) (λ b. b.serial ≤ p.serial) (λ b lt. omega (arith, le, lt)) before f.0 in
        ap not n ∙ sym (none_any (tainted p.model before) (sources e) (λ r. sym (h r) ∙ none_hidden p.serial before seen r)) ∙ sym (ap (λ b. not b || any_tainted p.model before e) v)

    by_kind : (k : Kind) → ((r : ℕ) → is_hidden p.serial (youngest_root before r) ≡ tainted p.model before r) →
        is_hidden p.serial (root_written k e.serial (map (youngest_root before) (sources e))) ≡ ((is_load k && not (visible p.model before)) || any_tainted p.model before e)
    by_kind Load h = load (visible p.model before) t.0 refl h
    by_kind _ h = hidden_latest p.serial (map (youngest_root before) (sources e)) ∙ any_map (is_hidden p.serial) (youngest_root before) (tainted p.model before) (sources e) h

    by_writes : (w : Bool) → ((r : ℕ) → is_hidden p.serial (youngest_root before r) ≡ tainted p.model before r) →
        is_hidden p.serial (if w then root_written e.item.kind e.serial (map (youngest_root before) (sources e)) else youngest_root before r)
        ≡ (if w then (is_load e.item.kind && not (visible p.model before)) || any_tainted p.model before e else tainted p.model before r)
    by_writes true h = by_kind e.item.kind h
    by_writes false h = h r

-- a root that has retired is not hidden
pub retired_shown : (point f : ℕ) (o : Option ℕ) → ((s : ℕ) → s < f → s ≤ point) → is_hidden point o ≡ is_hidden point (root_in_flight f o)
retired_shown point f None h = refl
retired_shown point f (Some s) h = by_kept (nat_le f s) refl
  where
    by_kept : (b : Bool) → nat_le f s ≡ b → not (nat_le s point) ≡ is_hidden point (if b then Some s else None)
    by_kept true e = refl
    by_kept false e = let lt : s < f = grind (arith, nat_tests) in let le = h s lt in let t : nat_le s point ≡ true = grind (arith, nat_tests) in ap not t
