-- Slots and undo list, oldest first: each change keeps the table.
use Rattle.std.proofs.Common.{◌≡◌, ℕ, zero, suc, ◌+◌, ◌-◌, ◌<◌, ◌≤◌, Bool, true, false, ◌||◌, cond, List, [], ◌∷◌, ◌++◌, length, get_or, set, take, drop, replicate, Some, None, refl, ap, sym, ◌∙◌, arith, subst, slice_get}
use Rattle.std.specs.Prelude.{◌==◌, nat_le, nat_lt, reverse, if◌then◌else◌}
use Rattle.std.specs.List.{find, filter, All, list_any}
use Rattle.std.proofs.lemmas.List.{drop_more, length-take-le, reverse-append, reverse-reverse, map-append, append-nil, length_push, take_at, take_all, take_more, get_or-replicate, length-set}
use Rattle.std.proofs.lemmas.List.Elements.{All-nil, All-cons, All-head, All-tail, All-weaker, All-push, filter-append}
use Rattle.std.proofs.lemmas.Option.{slice_get_within, get_or_from_slice_get, slice_get-get_or}
use Rattle.std.proofs.lemmas.Bool.Decides.{nat_tests}
use Rattle.rename_taint.specs.declared.Write.{Write}
use Rattle.rename_taint.specs.declared.slots.Slot.{Slot}
use Rattle.rename_taint.specs.declared.slots.Undo.{Undo}
use Rattle.rename_taint.specs.Writes.{last_write, source_of, root_of, without_retired}
use Rattle.rename_taint.specs.Table.{writes_of, slot_of, empty, last_of, slot_after_retirement, slot_unless_retired, oldest_of, oldest_in, is_first, is_last, EachIsLinked, IsTable, Table}
use Rattle.rename_taint.proofs.UndoList.{LeadsBack, Falls, leads_back, falls_from, linked_from, oldest_push, held_last, leads_drop, falls_drop, falls_front, undo_keeps, write_keeps, retire_keeps}

-- what is left of a list at a place
drop_here : {X : Type 0} (xs : List X) (i : ℕ) (x : X) → slice_get xs i ≡ Some x → drop i xs ≡ x ∷ drop (i + 1) xs
drop_here xs i x h = drop_more xs i x (slice_get_within xs i x h) ∙ ap (λ y. y ∷ drop (i + 1) xs) (get_or_from_slice_get xs i x x h)

reverse_push : {X : Type 0} (xs : List X) (x : X) → reverse (xs ++ x ∷ []) ≡ x ∷ reverse xs
reverse_push xs x = reverse-append xs (x ∷ [])

all_reverse : {X : Type 0} (P : X → Type 0) (xs : List X) → All P xs → All P (reverse xs)
all_reverse P [] a = a
all_reverse P (x ∷ xs) a = subst (All P) (sym (reverse-append (x ∷ []) xs)) (All-push P (reverse xs) x (all_reverse P xs (All-tail P x xs a)) (All-head P x xs a))

all_back : {X : Type 0} (P : X → Type 0) (xs : List X) → All P (reverse xs) → All P xs
all_back P xs a = subst (All P) (reverse-reverse xs) (all_reverse P (reverse xs) a)

all_of_map : (P : Write → Type 0) (us : List Undo) → All P (writes_of us) → All (λ u. P u.write) us
all_of_map P [] a = All-nil (λ u. P u.write)
all_of_map P (u ∷ us) a = All-cons (λ u. P u.write) u us (All-head P u.write (writes_of us) a) (all_of_map P us (All-tail P u.write (writes_of us) a))

all_map : (P : Write → Type 0) (us : List Undo) → All (λ u. P u.write) us → All P (writes_of us)
all_map P [] a = All-nil P
all_map P (u ∷ us) a = All-cons P u.write (writes_of us) (All-head (λ u. P u.write) u us a) (all_map P us (All-tail (λ u. P u.write) u us a))

-- ---- a table that holds nothing

pub table_new : (undo : List Undo) → undo ≡ [] → Table (replicate 32 empty) undo
table_new undo e = subst (Table (replicate 32 empty)) (sym e) (record { registers = refl; cells = λ r lt. get_or-replicate 32 r empty empty lt; linked = λ i d lt. absurd (omega arith) })

-- ---- what the table answers

writes_back : (us : List Undo) → reverse (writes_of us) ≡ writes_of (reverse us)
writes_back [] = refl
writes_back (u ∷ us) =
    reverse-append (u.write ∷ []) (writes_of us)
    ∙ ap (λ ws. ws ++ u.write ∷ []) (writes_back us)
    ∙ sym (map-append (λ (u : Undo). u.write) (reverse us) (u ∷ []))
    ∙ ap writes_of (sym (reverse-append (u ∷ []) us))

last_is : (us : List Undo) (r : ℕ) → last_write (writes_of us) r ≡ last_of r (reverse us)
last_is us r = ap (find (λ w. w.register == r)) (writes_back us)

pub cell_is : (slots : List Slot) (us : List Undo) (r : ℕ) → Table slots us → r < 32 → get_or slots r empty ≡ slot_of (last_write (writes_of us) r)
cell_is slots us r t lt = t.cells r lt ∙ ap slot_of (sym (last_is us r))

-- ---- a write is added

pub table_append : (slots : List Slot) (us : List Undo) (w : Write) → Table slots us → w.register < 32 → All (λ v. v.serial < w.serial) (writes_of us) →
    Table (set slots w.register (slot_of (Some w))) (us ++ record { write = w; previous = get_or slots w.register empty } ∷ [])
table_append slots us w t lt young =
    let u : Undo = record { write = w; previous = get_or slots w.register empty } in
    let f = falls_from (reverse us) t.linked in
    let back : slot_unless_retired (oldest_in (reverse us)) (get_or slots w.register empty) ≡ slot_of (last_of w.register (reverse us)) = ap (slot_unless_retired (oldest_in (reverse us))) (t.cells w.register lt) ∙ held_last (reverse us) w.register f in
    let l : EachIsLinked (u ∷ reverse us) = linked_from (u ∷ reverse us) (back, lt, leads_back (reverse us) t.linked) (all_reverse (λ v. v.write.serial < w.serial) us (all_of_map (λ v. v.serial < w.serial) us young), f) in
    record {
      registers = length-set slots w.register _ ∙ t.registers;
      cells = subst (IsTable (set slots w.register (slot_of (Some w)))) (sym (reverse_push us u)) (write_keeps slots w (get_or slots w.register empty) (reverse us) t.registers lt t.cells);
      linked = subst EachIsLinked (sym (reverse_push us u)) l;
    }

-- ---- the oldest write goes

oldest_same : (us : List Undo) → oldest_in (reverse us) ≡ oldest_of us
oldest_same [] = refl
oldest_same (u ∷ us) = ap oldest_in (reverse-append (u ∷ []) us) ∙ oldest_push (reverse us) u

all_registers : (us : List Undo) → LeadsBack us → All (λ u. u.write.register < 32) us
all_registers [] l = All-nil (λ u. u.write.register < 32)
all_registers (u ∷ older) l = All-cons (λ u. u.write.register < 32) u older l.1 (all_registers older l.2)

pub registers_below : (slots : List Slot) (us : List Undo) → Table slots us → All (λ u. u.write.register < 32) us
registers_below slots us t = all_back (λ u. u.write.register < 32) us (all_registers (reverse us) (leads_back (reverse us) t.linked))

pop_front_at : (slots : List Slot) (u : Undo) (us : List Undo) → Table slots (u ∷ us) → Table (set slots u.write.register (slot_after_retirement u.write.serial (get_or slots u.write.register empty))) us
pop_front_at slots u us t =
    let r : reverse (u ∷ us) ≡ reverse us ++ u ∷ [] = reverse-append (u ∷ []) us in
    let l : EachIsLinked (reverse us ++ u ∷ []) = subst EachIsLinked r t.linked in
    let f = falls_from (reverse us ++ u ∷ []) l in
    let b = leads_back (reverse us ++ u ∷ []) l in
    let lt = All-head (λ u. u.write.register < 32) u us (registers_below slots (u ∷ us) t) in
    let k = retire_keeps slots (reverse us) u t.registers lt f (subst (IsTable slots) r t.cells) in
    record {
      registers = length-set slots u.write.register _ ∙ t.registers;
      cells = k;
      linked = linked_from (reverse us) (leads_drop (reverse us) u f b) (falls_drop (reverse us) u f);
    }

pub pop_front_keeps : (slots slots2 : List Slot) (us us2 : List Undo) (u : Undo) → Table slots us → Some u ≡ slice_get us 0 → us2 ≡ drop 1 us →
    slots2 ≡ set slots u.write.register (slot_after_retirement u.write.serial (get_or slots u.write.register empty)) → Table slots2 us2
pop_front_keeps slots slots2 [] us2 u t h e f = absurd (cc)
pop_front_keeps slots slots2 (x ∷ us) us2 u t h e f =
    let i : x ≡ u = cc in
    let p = subst (λ (u : Undo). Table (set slots u.write.register (slot_after_retirement u.write.serial (get_or slots u.write.register empty))) us) i (pop_front_at slots x us t) in
    rw (f) (rw e p)

-- ---- the youngest write goes

last_split : (us : List Undo) (u : Undo) → Some u ≡ slice_get us (length us - 1) → reverse us ≡ u ∷ reverse (take (length us - 1) us)
last_split us u h =
    let n = length us - 1 in
    let lt : length us - 1 < length us = slice_get_within us n u (sym h) in
    let k : n + 1 ≡ length us = omega arith in
    let all : us ≡ take n us ++ u ∷ [] = sym (take_all (length us) us (omega arith)) ∙ ap (λ k. take k us) (sym k) ∙ take_more us n u lt ∙ ap (λ y. take n us ++ y ∷ []) (get_or_from_slice_get us n u u (sym h)) in
    ap reverse all ∙ reverse_push (take n us) u

pub pop_back_keeps : (slots : List Slot) (us us2 : List Undo) (u : Undo) (v : Slot) → Table slots us → Some u ≡ slice_get us (length us - 1) → us2 ≡ take (length us - 1) us →
    v ≡ slot_unless_retired (oldest_of us2) u.previous → Table (set slots u.write.register v) us2
pop_back_keeps slots us us2 u v t h e f =
    let r : reverse us ≡ u ∷ reverse us2 = last_split us u h ∙ ap (λ us. u ∷ reverse us) (sym e) in
    let l : EachIsLinked (u ∷ reverse us2) = subst EachIsLinked r t.linked in
    let b = leads_back (u ∷ reverse us2) l in
    let g = falls_from (u ∷ reverse us2) l in
    let k = undo_keeps slots u (reverse us2) t.registers b (subst (IsTable slots) r t.cells) in
    let w : slot_unless_retired (oldest_in (reverse us2)) u.previous ≡ v = ap (λ o. slot_unless_retired o u.previous) (oldest_same us2) ∙ sym f in
    record {
      registers = length-set slots u.write.register v ∙ t.registers;
      cells = subst (λ v. IsTable (set slots u.write.register v) (reverse us2)) w k;
      linked = linked_from (reverse us2) b.2 g.1;
    }

pub pop_none_keeps : (slots : List Slot) (us us2 : List Undo) → Table slots us → None ≡ slice_get us (length us - 1) → us2 ≡ take (length us - 1) us → Table slots us2
pop_none_keeps slots [] us2 t h e = rw e t
pop_none_keeps slots (u ∷ us) us2 t h e = let g = slice_get-get_or (u ∷ us) (length (u ∷ us) - 1) u (omega arith) in absurd (cc)

-- ---- which writes of the list stay

filter_all : {X : Type 0} (p : X → Bool) (xs : List X) → All (λ x. p x ≡ true) xs → filter p xs ≡ xs
filter_all p [] a = refl
filter_all p (x ∷ xs) a =
    let h = All-head (λ x. p x ≡ true) x xs a in
    let r = filter_all p xs (All-tail (λ x. p x ≡ true) x xs a) in
    ap (λ b. cond b (x ∷ filter p xs) (filter p xs)) h ∙ ap (λ xs. x ∷ xs) r

pub kept_on : (serial : ℕ) (us us2 : List Undo) → is_first (λ u. nat_le u.write.serial serial) us ≡ true → us2 ≡ drop 1 us →
    filter (λ w. nat_lt serial w.serial) (writes_of us2) ≡ filter (λ w. nat_lt serial w.serial) (writes_of us)
kept_on serial [] us2 h e = absurd (cc)
kept_on serial (u ∷ us) us2 h e =
    let f : nat_lt serial u.write.serial ≡ false = grind (arith, nat_tests) in
    ap (λ us. filter (λ w. nat_lt serial w.serial) (writes_of us)) e
    ∙ ap (λ b. cond b (u.write ∷ filter (λ w. nat_lt serial w.serial) (writes_of us)) (filter (λ w. nat_lt serial w.serial) (writes_of us))) (sym f)

pub kept_end : (slots : List Slot) (serial : ℕ) (us : List Undo) → Table slots us → is_first (λ u. nat_le u.write.serial serial) us ≡ false → filter (λ w. nat_lt serial w.serial) (writes_of us) ≡ writes_of us
kept_end slots serial [] t h = refl
kept_end slots serial (u ∷ us) t h =
    let lt : serial < u.write.serial = grind (arith, nat_tests) in
    let f = falls_front (reverse us) u (falls_from (reverse us ++ u ∷ []) (subst EachIsLinked (reverse-append (u ∷ []) us) t.linked)) in
    let a = all_back (λ v. u.write.serial < v.write.serial) us f.1 in
    filter_all (λ w. nat_lt serial w.serial) (writes_of (u ∷ us))
    (all_map (λ w. nat_lt serial w.serial ≡ true) (u ∷ us)
    (All-cons (λ v. nat_lt serial v.write.serial ≡ true) u us (grind (arith, nat_tests))
    (All-weaker (λ v. u.write.serial < v.write.serial) (λ v. nat_lt serial v.write.serial ≡ true) (λ v k. let m : serial < v.write.serial = omega arith in grind (arith, nat_tests)) us a)))

cut_by : (first : ℕ) (us us2 rest : List Undo) → reverse us ≡ rest → is_first (λ u. nat_le first u.write.serial) rest ≡ true → us2 ≡ take (length us - 1) us →
    filter (λ w. nat_lt w.serial first) (writes_of us2) ≡ filter (λ w. nat_lt w.serial first) (writes_of us)
cut_by first us us2 [] r h e = absurd (cc)
cut_by first us us2 (u ∷ rest) r h e =
    let w : us ≡ reverse rest ++ u ∷ [] = sym (reverse-reverse us) ∙ ap reverse r ∙ reverse-append (u ∷ []) rest in
    let c : us2 ≡ reverse rest = e ∙ ap (λ us. take (length us - 1) us) w ∙ take_front (reverse rest) u in
    let f : nat_lt u.write.serial first ≡ false = grind (arith, nat_tests) in
    let q = λ (w : Write). nat_lt w.serial first in
    ap (λ us. filter (λ w. nat_lt w.serial first) (writes_of us)) c
    ∙ sym (append-none (filter (λ w. nat_lt w.serial first) (writes_of (reverse rest))) u f)
    ∙ sym (filter-append (λ (w : Write). nat_lt w.serial first) (writes_of (reverse rest)) (u.write ∷ []))
    ∙ ap (filter (λ w. nat_lt w.serial first)) (sym (map-append (λ (u : Undo). u.write) (reverse rest) (u ∷ [])))
    ∙ ap (λ us. filter (λ w. nat_lt w.serial first) (writes_of us)) (sym w)
  where
    take_front : (xs : List Undo) (x : Undo) → take (length (xs ++ x ∷ []) - 1) (xs ++ x ∷ []) ≡ xs
    take_front xs x = let n : length (xs ++ x ∷ []) - 1 ≡ length xs = omega (arith, length_push xs x) in ap (λ n. take n (xs ++ x ∷ [])) n ∙ take_at xs (x ∷ []) (length xs) refl

    append-none : (ws : List Write) (u : Undo) → nat_lt u.write.serial first ≡ false → ws ++ filter (λ w. nat_lt w.serial first) (u.write ∷ []) ≡ ws
    append-none ws u f = ap (λ b. ws ++ cond b (u.write ∷ []) []) f ∙ append-nil ws

pub cut_on : (first : ℕ) (us us2 : List Undo) → is_last (λ u. nat_le first u.write.serial) us ≡ true → us2 ≡ take (length us - 1) us → filter (λ w. nat_lt w.serial first) (writes_of us2) ≡ filter (λ w. nat_lt w.serial first) (writes_of us)
cut_on first us us2 h e = cut_by first us us2 (reverse us) refl h e

all_older : (first : ℕ) (us : List Undo) → Falls us → is_first (λ u. nat_le first u.write.serial) us ≡ false → All (λ u. nat_lt u.write.serial first ≡ true) us
all_older first [] f h = All-nil (λ u. nat_lt u.write.serial first ≡ true)
all_older first (u ∷ us) f h =
    let lt : u.write.serial < first = grind (arith, nat_tests) in
    All-cons (λ u. nat_lt u.write.serial first ≡ true) u us (grind (arith, nat_tests))
    (All-weaker (λ v. v.write.serial < u.write.serial) (λ v. nat_lt v.write.serial first ≡ true) (λ v k. let m : v.write.serial < first = omega arith in grind (arith, nat_tests)) us f.0)

pub cut_end : (slots : List Slot) (first : ℕ) (us : List Undo) → Table slots us → is_last (λ u. nat_le first u.write.serial) us ≡ false → filter (λ w. nat_lt w.serial first) (writes_of us) ≡ writes_of us
cut_end slots first us t h =
    filter_all (λ w. nat_lt w.serial first) (writes_of us) (all_map (λ w. nat_lt w.serial first ≡ true) us (all_back (λ u. nat_lt u.write.serial first ≡ true) us (all_older first (reverse us) (falls_from (reverse us) t.linked) h)))

-- ---- source and root from a slot

pub source_is : (slots : List Slot) (us : List Undo) (r : ℕ) → Table slots us → r < 32 → (get_or slots r empty).source ≡ source_of (writes_of us) r
source_is slots us r t lt = ap (λ (s : Slot). s.source) (cell_is slots us r t lt)

pub root_is : (slots : List Slot) (us : List Undo) (r : ℕ) → Table slots us → r < 32 → (get_or slots r empty).root ≡ root_of (writes_of us) r
root_is slots us r t lt = ap (λ (s : Slot). s.root) (cell_is slots us r t lt)

-- ---- whether a serial is held

-- the writes behind one are younger
younger : (us : List Undo) (i : ℕ) (u : Undo) → Falls (reverse us) → slice_get us i ≡ Some u → All (λ v. u.write.serial < v.write.serial) (drop (suc i) us)
younger [] i u f h = absurd (cc)
younger (x ∷ us) zero u f h =
    let r = falls_front (reverse us) x (subst Falls (reverse-append (x ∷ []) us) f) in
    let i : x ≡ u = cc in
    subst (λ (u : Undo). All (λ v. u.write.serial < v.write.serial) us) i (all_back (λ v. x.write.serial < v.write.serial) us r.1)
younger (x ∷ us) (suc i) u f h = younger us i u (falls_drop (reverse us) x (subst Falls (reverse-append (x ∷ []) us) f)) h

none_has : (serial : ℕ) (us : List Undo) → All (λ v. serial < v.write.serial) us → list_any (λ w. w.serial == serial) (writes_of us) ≡ false
none_has serial [] a = refl
none_has serial (u ∷ us) a =
    let l = All-head (λ v. serial < v.write.serial) u us a in
    let f : (u.write.serial == serial) ≡ false = grind (arith, nat_tests) in
    let r = none_has serial us (All-tail (λ v. serial < v.write.serial) u us a) in
    cc

-- a search that passes over a smaller serial, and one that ends
pub held_on : (serial i : ℕ) (us : List Undo) (u : Undo) → slice_get us i ≡ Some u → u.write.serial < serial → list_any (λ w. w.serial == serial) (writes_of (drop i us)) ≡ list_any (λ w. w.serial == serial) (writes_of us) →
    list_any (λ w. w.serial == serial) (writes_of (drop (i + 1) us)) ≡ list_any (λ w. w.serial == serial) (writes_of us)
held_on serial i us u h lt r =
    let f : (u.write.serial == serial) ≡ false = grind (arith, nat_tests) in
    let e = ap (λ us. list_any (λ w. w.serial == serial) (writes_of us)) (drop_here us i u h) in
    cc

pub held_at : (serial i : ℕ) (us : List Undo) (u : Undo) → EachIsLinked (reverse us) → slice_get us i ≡ Some u → serial ≤ u.write.serial → list_any (λ w. w.serial == serial) (writes_of (drop i us)) ≡ list_any (λ w. w.serial == serial) (writes_of us) →
    (u.write.serial == serial) ≡ list_any (λ w. w.serial == serial) (writes_of us)
held_at serial i us u l h le r =
    let s : suc i ≡ i + 1 = omega arith in
    let y = subst (λ n. All (λ v. u.write.serial < v.write.serial) (drop n us)) s (younger us i u (falls_from (reverse us) l) h) in
    let n = none_has serial (drop (i + 1) us) (All-weaker (λ v. u.write.serial < v.write.serial) (λ v. serial < v.write.serial) (λ v lt. omega arith) (drop (i + 1) us) y) in
    let e = ap (λ us. list_any (λ w. w.serial == serial) (writes_of us)) (drop_here us i u h) in
    let o = or_false (u.write.serial == serial) in
    cc
  where
    or_false : (b : Bool) → (b || false) ≡ b
    or_false true = refl
    or_false false = refl

-- the entry of the oldest write retires: that write goes, and all others stay
pub front_retires : (slots : List Slot) (serial : ℕ) (us us2 : List Undo) → Table slots us → is_first (λ u. u.write.serial == serial) us ≡ true → us2 ≡ drop 1 us → writes_of us2 ≡ without_retired serial (writes_of us)
front_retires slots serial [] us2 t h e = absurd (cc)
front_retires slots serial (u ∷ us) us2 t h e =
    let q = λ (w : Write). nat_lt serial w.serial in
    let p : u.write.serial ≡ serial = grind (arith, nat_tests) in
    let le : nat_le u.write.serial serial ≡ true = grind (arith, nat_tests) in
    let y : All (λ v. u.write.serial < v.write.serial) us = younger (u ∷ us) 0 u (falls_from (reverse (u ∷ us)) t.linked) refl in
    let stay : filter q (writes_of us) ≡ writes_of us =
    filter_all q (writes_of us)
    (all_map (λ w. nat_lt serial w.serial ≡ true) us
    (All-weaker (λ v. u.write.serial < v.write.serial) (λ v. nat_lt serial v.write.serial ≡ true) (λ v k. let m : serial < v.write.serial = omega (arith, k, p) in grind (arith, nat_tests)) us y)) in
    ap writes_of e
    ∙ sym stay
    ∙ kept_on serial (u ∷ us) us le refl
    ∙ ap (λ b. if b || list_any (λ w. w.serial == serial) (writes_of us) then filter q (writes_of (u ∷ us)) else writes_of (u ∷ us)) (sym h)

-- where the oldest write is younger, none has the serial
pub none_retires : (slots : List Slot) (serial : ℕ) (us : List Undo) → Table slots us → is_first (λ u. nat_le u.write.serial serial) us ≡ false → writes_of us ≡ without_retired serial (writes_of us)
none_retires slots serial [] t h = refl
none_retires slots serial (u ∷ us) t h =
    let lt : serial < u.write.serial = grind (arith, nat_tests) in
    let y : All (λ v. u.write.serial < v.write.serial) us = younger (u ∷ us) 0 u (falls_from (reverse (u ∷ us)) t.linked) refl in
    let a = All-cons (λ v. serial < v.write.serial) u us lt (All-weaker (λ v. u.write.serial < v.write.serial) (λ v. serial < v.write.serial) (λ v k. omega (arith, k, lt)) us y) in
    ap (λ b. if b then filter (λ w. nat_lt serial w.serial) (writes_of (u ∷ us)) else writes_of (u ∷ us)) (sym (none_has serial (u ∷ us) a))

-- ---- the last of the list

pub last_by : (p : Undo → Bool) (us : List Undo) (u : Undo) → Some u ≡ slice_get us (length us - 1) → p u ≡ is_last p us
last_by p us u h = ap (is_first p) (sym (last_split us u h))

pub last_none : (p : Undo → Bool) (us : List Undo) → None ≡ slice_get us (length us - 1) → false ≡ is_last p us
last_none p [] h = refl
last_none p (u ∷ us) h = let g = slice_get-get_or (u ∷ us) (length (u ∷ us) - 1) u (omega arith) in absurd (cc)

pub cut_shorter : (p : Undo → Bool) (us us2 : List Undo) → is_last p us ≡ true → us2 ≡ take (length us - 1) us → length us2 + 1 ≡ length us
cut_shorter p [] us2 h e = absurd (cc)
cut_shorter p (u ∷ us) us2 h e = let l = length-take-le (length (u ∷ us) - 1) (u ∷ us) (omega arith) in let m = ap length e in omega arith
