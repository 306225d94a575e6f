-- Lists of undo entries, youngest first: what is held, and what a write, an undo and a retirement leave.
use Rattle.std.proofs.Common.{zero, suc, ⊎_elim, inl, inr, ◌≡◌, ◌≢◌, ℕ, ◌<◌, ◌≤◌, Bool, true, false, cond, List, [], ◌∷◌, ◌++◌, length, get_or, set, Option, Some, None, refl, ap, sym, ◌∙◌, arith, subst}
use Rattle.std.specs.Prelude.{◌⊎◌, if◌then◌else◌, ◌==◌, nat_le}
use Rattle.std.specs.List.{All}
use Rattle.std.specs.Option.{option_or}
use Rattle.std.proofs.lemmas.List.{get_or-set_same, get_or-set_other}
use Rattle.std.proofs.lemmas.List.Elements.{All-nil, All-cons, All-head, All-tail}
use Rattle.std.proofs.lemmas.Bool.Decides.{nat_tests}
use Rattle.rename_taint.specs.declared.Write.{Write}
use Rattle.rename_taint.specs.declared.Source.{Source}
use Rattle.rename_taint.specs.declared.Source.TheVariants.{Committed, Entry}
use Rattle.rename_taint.specs.declared.slots.Slot.{Slot}
use Rattle.rename_taint.specs.declared.slots.Undo.{Undo}
use Rattle.rename_taint.specs.Table.{slot_of, empty, names_from, slot_after_retirement, last_of, slot_unless_retired, oldest_in, EachIsLinked, IsTable}

-- ---- links, one entry after another

abbrev pub LeadsBack : List Undo → Type 0
LeadsBack [] = Unit {0}
LeadsBack (u ∷ older) = (slot_unless_retired (oldest_in older) u.previous ≡ slot_of (last_of u.write.register older)) × (u.write.register < 32) × LeadsBack older

abbrev pub Falls : List Undo → Type 0
Falls [] = Unit {0}
Falls (u ∷ older) = All (λ v. v.write.serial < u.write.serial) older × Falls older

pub leads_back : (us : List Undo) → EachIsLinked us → LeadsBack us
leads_back [] h = tt
leads_back (u ∷ older) h = let l = h 0 u (omega arith) in (l.0, l.1, leads_back older (λ i d lt. h (suc i) d (omega arith)))

pub falls_from : (us : List Undo) → EachIsLinked us → Falls us
falls_from [] h = tt
falls_from (u ∷ older) h = ((h 0 u (omega arith)).2, falls_from older (λ i d lt. h (suc i) d (omega arith)))

pub linked_from : (us : List Undo) → LeadsBack us → Falls us → EachIsLinked us
linked_from [] l f i d lt = absurd (omega arith)
linked_from (u ∷ older) l f zero d lt = (l.0, l.1, f.0)
linked_from (u ∷ older) l f (suc i) d lt = linked_from older l.2 f.1 i d (omega arith)

-- ---- the oldest write of the list

pub oldest_some : (u : Undo) (older : List Undo) → (n : ℕ) × (oldest_in (u ∷ older) ≡ Some n)
oldest_some u older = by_rest (oldest_in older)
  where
    by_rest : (o : Option ℕ) → (n : ℕ) × (option_or o (Some u.write.serial) ≡ Some n)
    by_rest None = (u.write.serial, refl)
    by_rest (Some m) = (m, refl)

pub oldest_push : (us : List Undo) (x : Undo) → oldest_in (us ++ x ∷ []) ≡ Some x.write.serial
oldest_push [] x = refl
oldest_push (u ∷ us) x = ap (λ o. option_or o (Some u.write.serial)) (oldest_push us x)

-- the oldest of a longer list is that of the rest, or itself where there is none
oldest_step : (u : Undo) (older : List Undo) (n : ℕ) (o : Option ℕ) → oldest_in older ≡ o → oldest_in (u ∷ older) ≡ Some n → (oldest_in older ≡ Some n) ⊎ ((oldest_in older ≡ None) × (u.write.serial ≡ n))
oldest_step u older n None e h = let i : Some u.write.serial ≡ Some n = sym (ap (λ o. option_or o (Some u.write.serial)) e) ∙ h in inr (e, cc)
oldest_step u older n (Some m) e h = let i : Some m ≡ Some n = sym (ap (λ o. option_or o (Some u.write.serial)) e) ∙ h in inl (e ∙ i)

none_held : (older : List Undo) → oldest_in older ≡ None → older ≡ []
none_held [] h = refl
none_held (u ∷ older) h = let s = oldest_some u older in let e = s.1 in absurd (cc)

-- what holds of all holds of the oldest
oldest_has : (P : ℕ → Type 0) (us : List Undo) (n : ℕ) → All (λ u. P u.write.serial) us → oldest_in us ≡ Some n → P n
oldest_has P [] n a h = absurd (cc)
oldest_has P (u ∷ older) n a h =
    ⊎_elim
    (λ e. oldest_has P older n (All-tail (λ u. P u.write.serial) u older a) e)
    (λ e. subst P e.1 (All-head (λ u. P u.write.serial) u older a))
    (oldest_step u older n (oldest_in older) refl h)

-- no write of the list is older than the oldest
pub least : (us : List Undo) (n : ℕ) → Falls us → oldest_in us ≡ Some n → All (λ u. n ≤ u.write.serial) us
least [] n f h = All-nil (λ u. n ≤ u.write.serial)
least (u ∷ older) n f h =
    ⊎_elim
    (λ e. All-cons (λ u. n ≤ u.write.serial) u older (let lt : n < u.write.serial = oldest_has (λ m. m < u.write.serial) older n f.0 e in omega arith) (least older n f.1 e))
    (λ e.
    let le : n ≤ u.write.serial = omega (arith, e.1) in
    All-cons (λ u. n ≤ u.write.serial) u older le (subst (All (λ u. n ≤ u.write.serial)) (sym (none_held older e.0)) (All-nil (λ u. n ≤ u.write.serial))))
    (oldest_step u older n (oldest_in older) refl h)

pub falls_front : (us : List Undo) (x : Undo) → Falls (us ++ x ∷ []) → Falls us × All (λ u. x.write.serial < u.write.serial) us
falls_front [] x f = (tt, All-nil (λ u. x.write.serial < u.write.serial))
falls_front (u ∷ us) x f =
    let r = falls_front us x f.1 in
    let lt : x.write.serial < u.write.serial = All-last (λ v. v.write.serial < u.write.serial) us x f.0 in
    ((All-init (λ v. v.write.serial < u.write.serial) us x f.0, r.0), All-cons (λ u. x.write.serial < u.write.serial) u us lt r.1)
  where
    All-last : (P : Undo → Type 0) (us : List Undo) (x : Undo) → All P (us ++ x ∷ []) → P x
    All-last P [] x a = All-head P x [] a
    All-last P (u ∷ us) x a = All-last P us x (All-tail P u (us ++ x ∷ []) a)

    All-init : (P : Undo → Type 0) (us : List Undo) (x : Undo) → All P (us ++ x ∷ []) → All P us
    All-init P [] x a = All-nil P
    All-init P (u ∷ us) x a = All-cons P u us (All-head P u (us ++ x ∷ []) a) (All-init P us x (All-tail P u (us ++ x ∷ []) a))

-- ---- what is still held of a slot

held_found : (n r : ℕ) (us : List Undo) → All (λ u. n ≤ u.write.serial) us → slot_unless_retired (Some n) (slot_of (last_of r us)) ≡ slot_of (last_of r us)
held_found n r [] a = refl
held_found n r (u ∷ older) a =
    by_register (u.write.register == r) (held_found n r older (All-tail (λ u. n ≤ u.write.serial) u older a))
  where
    le : nat_le n u.write.serial ≡ true
    le = let l = All-head (λ u. n ≤ u.write.serial) u older a in grind (arith, nat_tests)

    by_register : (b : Bool) → slot_unless_retired (Some n) (slot_of (last_of r older)) ≡ slot_of (last_of r older) → slot_unless_retired (Some n) (slot_of (cond b (Some u.write) (last_of r older))) ≡ slot_of (cond b (Some u.write) (last_of r older))
    by_register true h = ap (λ b. if b then slot_of (Some u.write) else empty) le
    by_register false h = h

-- the last write of a register is held
pub held_last : (us : List Undo) (r : ℕ) → Falls us → slot_unless_retired (oldest_in us) (slot_of (last_of r us)) ≡ slot_of (last_of r us)
held_last [] r f = refl
held_last (u ∷ older) r f =
    let s = oldest_some u older in
    ap (λ o. slot_unless_retired o (slot_of (last_of r (u ∷ older)))) s.1 ∙ held_found s.0 r (u ∷ older) (least (u ∷ older) s.0 f s.1)

held_tail : (n r : ℕ) (us : List Undo) (x : Undo) → All (λ u. n ≤ u.write.serial) us → x.write.serial < n → slot_unless_retired (Some n) (slot_of (last_of r (us ++ x ∷ []))) ≡ slot_of (last_of r us)
held_tail n r [] x a lt = by_register (x.write.register == r)
  where
    gt : nat_le n x.write.serial ≡ false
    gt = grind (arith, nat_tests)

    by_register : (b : Bool) → slot_unless_retired (Some n) (slot_of (cond b (Some x.write) None)) ≡ empty
    by_register true = ap (λ b. if b then slot_of (Some x.write) else empty) gt
    by_register false = refl
held_tail n r (u ∷ us) x a lt =
    by_register (u.write.register == r) (held_tail n r us x (All-tail (λ u. n ≤ u.write.serial) u us a) lt)
  where
    le : nat_le n u.write.serial ≡ true
    le = let l = All-head (λ u. n ≤ u.write.serial) u us a in grind (arith, nat_tests)

    by_register : (b : Bool) → slot_unless_retired (Some n) (slot_of (last_of r (us ++ x ∷ []))) ≡ slot_of (last_of r us) →
        slot_unless_retired (Some n) (slot_of (cond b (Some u.write) (last_of r (us ++ x ∷ [])))) ≡ slot_of (cond b (Some u.write) (last_of r us))
    by_register true h = ap (λ b. if b then slot_of (Some u.write) else empty) le
    by_register false h = h

-- where the oldest goes, a slot that named it is cleared
forget_last : (us : List Undo) (x : Undo) (r : ℕ) → Falls (us ++ x ∷ []) → (x.write.register == r) ≡ true → slot_after_retirement x.write.serial (slot_of (last_of r (us ++ x ∷ []))) ≡ slot_of (last_of r us)
forget_last [] x r f q =
    let e : (x.write.serial == x.write.serial) ≡ true = grind (arith, nat_tests) in
    ap (λ b. slot_after_retirement x.write.serial (slot_of (cond b (Some x.write) None))) q ∙ ap (λ b. if b then empty else slot_of (Some x.write)) e
forget_last (u ∷ us) x r f q =
    by_register (u.write.register == r) (forget_last us x r f.1 q)
  where
    other : (u.write.serial == x.write.serial) ≡ false
    other =
        let g = falls_front (u ∷ us) x f in
        let lt : x.write.serial < u.write.serial = All-head (λ u. x.write.serial < u.write.serial) u us g.1 in
        grind (arith, nat_tests)

    by_register : (b : Bool) → slot_after_retirement x.write.serial (slot_of (last_of r (us ++ x ∷ []))) ≡ slot_of (last_of r us) →
        slot_after_retirement x.write.serial (slot_of (cond b (Some u.write) (last_of r (us ++ x ∷ [])))) ≡ slot_of (cond b (Some u.write) (last_of r us))
    by_register true h = ap (λ b. if b then empty else slot_of (Some u.write)) other
    by_register false h = h

-- a writer that isn't from a serial on isn't from a later one on
earlier : (m n : ℕ) (s : Source) → m ≤ n → names_from m s ≡ false → names_from n s ≡ false
earlier m n Committed le h = refl
earlier m n (Entry writer) le h = grind (arith, nat_tests)

held_twice : (m n : ℕ) (s : Slot) → m ≤ n → slot_unless_retired (Some n) (slot_unless_retired (Some m) s) ≡ slot_unless_retired (Some n) s
held_twice m n s le = by_m (names_from m s.source) refl
  where
    by_m : (b : Bool) → names_from m s.source ≡ b → slot_unless_retired (Some n) (if b then s else empty) ≡ slot_unless_retired (Some n) s
    by_m true e = refl
    by_m false e = ap (λ b. if b then s else empty) (sym (earlier m n s.source le e))

-- ---- the undo list without its oldest

back_drop : (us : List Undo) (x : Undo) (r : ℕ) (p : Slot) → Falls (us ++ x ∷ []) → slot_unless_retired (oldest_in (us ++ x ∷ [])) p ≡ slot_of (last_of r (us ++ x ∷ [])) → slot_unless_retired (oldest_in us) p ≡ slot_of (last_of r us)
back_drop [] x r p f h = refl
back_drop (u ∷ us) x r p f h =
    let s = oldest_some u us in
    let g = falls_front (u ∷ us) x f in
    let lt : x.write.serial < s.0 = oldest_has (λ n. x.write.serial < n) (u ∷ us) s.0 g.1 s.1 in
    ap (λ o. slot_unless_retired o p) s.1
    ∙ sym (held_twice x.write.serial s.0 p (omega arith))
    ∙ ap (λ o. slot_unless_retired (Some s.0) (slot_unless_retired o p)) (sym (oldest_push (u ∷ us) x))
    ∙ ap (slot_unless_retired (Some s.0)) h
    ∙ held_tail s.0 r (u ∷ us) x (least (u ∷ us) s.0 g.0 s.1) lt

pub leads_drop : (us : List Undo) (x : Undo) → Falls (us ++ x ∷ []) → LeadsBack (us ++ x ∷ []) → LeadsBack us
leads_drop [] x f l = tt
leads_drop (u ∷ us) x f l = (back_drop us x u.write.register u.previous f.1 l.0, l.1, leads_drop us x f.1 l.2)

pub falls_drop : (us : List Undo) (x : Undo) → Falls (us ++ x ∷ []) → Falls us
falls_drop us x f = (falls_front us x f).0

last_other : (us : List Undo) (x : Undo) (r : ℕ) → (x.write.register == r) ≡ false → last_of r (us ++ x ∷ []) ≡ last_of r us
last_other [] x r h = ap (λ b. cond b (Some x.write) None) h
last_other (u ∷ us) x r h = ap (λ o. cond (u.write.register == r) (Some u.write) o) (last_other us x r h)

-- ---- the slots of the table

-- by whether the register is the one that is written
by_register : (slots : List Slot) (reg r : ℕ) (v t : Slot) → length slots ≡ 32 → reg < 32 →
    (b : Bool) → (reg == r) ≡ b → (b ≡ true → v ≡ t) → (b ≡ false → get_or slots r empty ≡ t) → get_or (set slots reg v) r empty ≡ t
by_register slots reg r v t n lt true q p o =
    let e : reg ≡ r = grind (arith, nat_tests) in
    rw (← e) (get_or-set_same slots reg v empty (omega arith)) ∙ p refl
by_register slots reg r v t n lt false q p o =
    let e : r ≢ reg = grind (arith, nat_tests) in
    get_or-set_other slots reg r v empty e ∙ o refl

-- the slots stand for the older writes once the youngest is undone
pub undo_keeps : (slots : List Slot) (u : Undo) (older : List Undo) → length slots ≡ 32 → LeadsBack (u ∷ older) → IsTable slots (u ∷ older) → IsTable (set slots u.write.register (slot_unless_retired (oldest_in older) u.previous)) older
undo_keeps slots u older n l t r lt =
    by_register slots u.write.register r (slot_unless_retired (oldest_in older) u.previous) (slot_of (last_of r older)) n l.1 (u.write.register == r) refl
    (λ q. let e : u.write.register ≡ r = grind (arith, nat_tests) in l.0 ∙ ap (λ r. slot_of (last_of r older)) e)
    (λ q. t r lt ∙ ap (λ b. slot_of (cond b (Some u.write) (last_of r older))) q)

-- the slots stand for the writes once a younger one is added
pub write_keeps : (slots : List Slot) (w : Write) (p : Slot) (older : List Undo) → length slots ≡ 32 → w.register < 32 → IsTable slots older →
    IsTable (set slots w.register (slot_of (Some w))) (record { write = w; previous = p } ∷ older)
write_keeps slots w p older n lt t r rt =
    by_register slots w.register r _ _ n lt (w.register == r) refl
    (λ q. ap (λ b. slot_of (cond b (Some w) (last_of r older))) (sym q))
    (λ q. t r rt ∙ ap (λ b. slot_of (cond b (Some w) (last_of r older))) (sym q))

-- the slots stand for the younger writes once the oldest has retired
pub retire_keeps : (slots : List Slot) (us : List Undo) (x : Undo) → length slots ≡ 32 → x.write.register < 32 → Falls (us ++ x ∷ []) → IsTable slots (us ++ x ∷ []) →
    IsTable (set slots x.write.register (slot_after_retirement x.write.serial (get_or slots x.write.register empty))) us
retire_keeps slots us x n lt f t r rt =
    by_register slots x.write.register r _ (slot_of (last_of r us)) n lt (x.write.register == r) refl
    (λ q.
    let e : x.write.register ≡ r = grind (arith, nat_tests) in
    ap (slot_after_retirement x.write.serial) (ap (λ r. get_or slots r empty) e ∙ t r rt) ∙ forget_last us x r f q)
    (λ q. t r rt ∙ ap slot_of (last_other us x r q))
