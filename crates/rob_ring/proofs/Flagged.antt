-- The flags go on to tell of the entries.
use Rattle.std.proofs.Common.{◌≡◌, ◌≢◌, nat_lt, ◌++◌, drop, add-one, ℕ, zero, suc, ◌+◌, ◌^◌, ◌<◌, ◌≤◌, Bool, true, false, List, [], ◌∷◌, length, take, get_or, inl, inr, Option, Some, None, refl, ap, sym, subst, ◌∙◌, arith, slice_get, ⊎_elim}
use Rattle.std.specs.Prelude.{if◌then◌else◌, map, slice_set, IfSome}
use Rattle.std.specs.Slice.Scan.{holds_at}
use Rattle.std.proofs.Math.Seq.{map-set_same}
use Rattle.std.proofs.lemmas.Bool.{cases_eq, cases_lt}
use Rattle.std.proofs.lemmas.Bool.Decides.{nat_tests}
use Rattle.std.proofs.lemmas.List.{map-set, take-map, get_or_past, get_or-take, length-take, get_or-set_same, get_or-set_other, length-map, length-set, length-append, length-drop}
use Rattle.std.proofs.lemmas.Option.{get_or_from_slice_get, slice_get_cases}
use Rattle.circular_buffer.specs.Buffer.{Buffer, buffer}
use Rattle.window_model.specs.declared.Entry.{Entry}
use Rattle.window_model.specs.declared.Progress.TheVariants.{Done}
use Rattle.window_model.specs.Clear.{cleared_one}
use Rattle.window_model.specs.Order.{is_busy}
use Rattle.rob_ring.specs.declared.issued.Issued.{Issued}
use Rattle.rob_ring.specs.Issued.{as_resolved, with_issued}
use Rattle.rob_ring.specs.Ring.{Ring, Next, in_execution, is_open, is_unsafe}
use Rattle.word_bits.specs.Bits.{NextBit, one_if}
use Rattle.rob_ring.specs.Flags.{Flagged, FlagsOf, flag_at}

-- the flags of one set, by which an entry passes
module _ (p : Entry → Bool) (es : List Entry) (words : List ℕ) (is : FlagsOf p es words) where
  -- the bits tell of the entries which pass the test, once one of them is put anew
  pub put_is : (i : ℕ) (e : Entry) (b : Bool) (words2 : List ℕ) → i < length es → b ≡ p e → flag_at words2 i ≡ one_if b → ((k : ℕ) → k ≢ i → flag_at words2 k ≡ flag_at words k) →
      FlagsOf p (slice_set es i e) words2
  put_is i e b words2 lt same here others k = elim (cases_eq k i) [
    | inl q ↦ let long = length-map es p in
        ap (flag_at words2) q ∙ here
        ∙ ap one_if (same ∙ sym (ap (λ ms. get_or ms k false) (map-set p es i e) ∙ ap (λ k. get_or (slice_set (map p es) i (p e)) k false) q ∙ get_or-set_same (map p es) i (p e) false (omega (arith, long, lt))))
    | inr ne ↦ others k ne ∙ is k ∙ ap one_if (sym (ap (λ ms. get_or ms k false) (map-set p es i e) ∙ get_or-set_other (map p es) i k (p e) false ne))
  ]

  -- the bits tell of the entries which pass the test, once one more entry has come
  pub push_is : (e : Entry) (b : Bool) (words2 : List ℕ) → b ≡ p e → flag_at words2 (length es) ≡ one_if b → ((k : ℕ) → k ≢ length es → flag_at words2 k ≡ flag_at words k) →
      FlagsOf p (es ++ e ∷ []) words2
  push_is e b words2 same here others k = elim (cases_eq k (length es)) [
    | inl q ↦ ap (flag_at words2) q ∙ here ∙ ap one_if (same ∙ sym (at_end es) ∙ ap (λ k. get_or (map p (es ++ e ∷ [])) k false) (sym q))
    | inr ne ↦ others k ne ∙ is k ∙ ap one_if (elsewhere es k ne)
  ]
    where
      at_end : (es : List Entry) → get_or (map p (es ++ e ∷ [])) (length es) false ≡ p e
      at_end [] = refl
      at_end (d ∷ es) = at_end es

      elsewhere : (es : List Entry) (k : ℕ) → k ≢ length es → get_or (map p es) k false ≡ get_or (map p (es ++ e ∷ [])) k false
      elsewhere [] zero ne = absurd (ne refl)
      elsewhere [] (suc k) ne = refl
      elsewhere (d ∷ es) zero ne = refl
      elsewhere (d ∷ es) (suc k) ne = elsewhere es k (λ q. ne (ap suc q))

  pub stays : (i : ℕ) (d e : Entry) → slice_get es i ≡ Some d → p e ≡ p d → FlagsOf p (slice_set es i e) words
  stays i d e at same k = is k ∙ ap (λ ms. one_if (get_or ms k false)) (sym (map-set_same p es i e d (same ∙ ap p (sym (get_or_from_slice_get es i d d at)))))

  pub kept_is : (n : ℕ) (words2 : List ℕ) → ((k : ℕ) → flag_at words2 k ≡ (if nat_lt k n then flag_at words k else 0)) → FlagsOf p (take n es) words2
  kept_is n words2 h k = h k ∙ ap (λ r. if nat_lt k n then r else 0) (is k) ∙ of_few n k es
    where
      of_few : (n k : ℕ) (es : List Entry) → (if nat_lt k n then one_if (get_or (map p es) k false) else 0) ≡ one_if (get_or (map p (take n es)) k false)
      of_few n k es = ⊎_elim
          (λ (lt : k < n). let t : nat_lt k n ≡ true = grind (arith, nat_tests) in
          ap (λ b. if b then one_if (get_or (map p es) k false) else 0) t ∙ ap one_if (sym (get_or-take n (map p es) k false lt)) ∙ ap (λ ms. one_if (get_or ms k false)) (take-map p n es))
          (λ (le : n ≤ k). let t : nat_lt k n ≡ false = grind (arith, nat_tests) in
          let few = length-take n es in let long = length-map (take n es) p in
          ap (λ b. if b then one_if (get_or (map p es) k false) else 0) t ∙ ap one_if (sym (get_or_past (map p (take n es)) k false (omega (arith, few, long, le)))))
          (cases_lt k n)

  pub dropped_is : (words2 : List ℕ) → ((k : ℕ) → flag_at words2 k ≡ flag_at words (k + 1)) → FlagsOf p (drop 1 es) words2
  dropped_is words2 h k = h k ∙ is (k + 1) ∙ ap (λ j. one_if (get_or (map p es) j false)) (add-one k) ∙ after es
    where
      after : (es : List Entry) → one_if (get_or (map p es) (suc k) false) ≡ one_if (get_or (map p (drop 1 es)) k false)
      after [] = refl
      after (e ∷ es) = refl

  -- the flag at a position tells of the entry there
  told : (es : List Entry) (k : ℕ) → holds_at p es k ≡ get_or (map p es) k false
  told [] k = refl
  told (e ∷ es) zero = refl
  told (e ∷ es) (suc k) = told es k

  within : (es : List Entry) (k : ℕ) → holds_at p es k ≡ true → k < length es
  within [] k h = absurd (cc)
  within (e ∷ es) zero h = omega arith
  within (e ∷ es) (suc k) h = let lt = within es k h in omega (arith, lt)

  unflagged : (b : Bool) → one_if b ≡ 0 → b ≡ false
  unflagged true h = absurd (omega arith)
  unflagged false h = refl

  has_flag : (b : Bool) → one_if b ≡ 1 → b ≡ true
  has_flag true h = refl
  has_flag false h = absurd (omega arith)

  pub next_is : length es ≤ 192 → (from : ℕ) (o : Option ℕ) → NextBit (flag_at words) from 192 o → Next p es from o
  next_is few from None h = λ k low high. told es k ∙ unflagged _ (sym (is k) ∙ h k low (omega (arith, high, few)))
  next_is few from (Some i) h =
      let here = told es i ∙ has_flag _ (sym (is i) ∙ h.here) in
      record { low = h.low; within = within es i here; before = λ k low high. told es k ∙ unflagged _ (sym (is k) ∙ h.before k low high); here = here }

-- a ring of entries with its flags
module _ (es : List Entry) (room : ℕ) (busy open_ones unsafes : List ℕ) (m : Flagged es room busy open_ones unsafes) (r : Ring) (seen : record { entries = es; room = room } ≡ r) where
  pub few_flagged : length es ≤ 192
  few_flagged = let a = m.few in let b = m.within in omega (arith, a, b)

  pub in_word : (i : ℕ) → i < length r.entries → i < 192
  in_word i lt = let same = ap (λ (r : Ring). length r.entries) seen in omega (arith, same, lt, few_flagged)

  within_ring : (i : ℕ) → i < length r.entries → i < length es
  within_ring i lt = let same = ap (λ (r : Ring). length r.entries) seen in omega (arith, same, lt)

  pub few_rooms : r.room < 2 ^ 32
  few_rooms = let as_many = ap (λ (r : Ring). r.room) seen in let f = m.few in omega (arith, f, as_many)

  -- a position that was found has room
  pub found_within : (p : Entry → Bool) (from : ℕ) (o : Option ℕ) → Next p r.entries from o → IfSome o (λ i. i < r.room)
  found_within p from None h = tt
  found_within p from (Some i) h =
      let same = ap (λ (r : Ring). length r.entries) seen in
      let as_many = ap (λ (r : Ring). r.room) seen in
      let w = m.within in
      let lt = h.within in
      omega (arith, w, lt, same, as_many)

  pub next_seen : (p : Entry → Bool) (from : ℕ) (o : Option ℕ) → Next p es from o → Next p r.entries from o
  next_seen p from o h = subst (λ (r : Ring). Next p r.entries from o) seen h

  pub set_flagged : (i : ℕ) (e : Entry) (b c d : Bool) (busy2 open2 unsafe2 : List ℕ) → i < length r.entries → b ≡ in_execution e → c ≡ is_open e → d ≡ is_unsafe e →
      flag_at busy2 i ≡ one_if b → ((k : ℕ) → k ≢ i → flag_at busy2 k ≡ flag_at busy k) → flag_at open2 i ≡ one_if c → ((k : ℕ) → k ≢ i → flag_at open2 k ≡ flag_at open_ones k) →
      flag_at unsafe2 i ≡ one_if d → ((k : ℕ) → k ≢ i → flag_at unsafe2 k ≡ flag_at unsafes k) → Flagged (slice_set es i e) room busy2 open2 unsafe2
  set_flagged i e b c d busy2 open2 unsafe2 lt is_b is_c is_d h g j f u v = record {
    few = m.few;
    within = let long = length-set es i e in let w = m.within in omega (arith, long, w);
    busy_is = put_is in_execution es busy m.busy_is i e b busy2 (within_ring i lt) is_b h g;
    open_is = put_is is_open es open_ones m.open_is i e c open2 (within_ring i lt) is_c j f;
    unsafe_is = put_is is_unsafe es unsafes m.unsafe_is i e d unsafe2 (within_ring i lt) is_d u v;
  }

  -- an entry that begins or is done isn't opened or resolved by that; whether it is safe is told
  change_flagged : (f : Entry → Entry) (b : Bool) → ((d : Entry) → b ≡ in_execution (f d)) → ((d : Entry) → is_open (f d) ≡ is_open d) → (i : ℕ) (busy2 unsafe2 : List ℕ) (c : Bool) (es2 : List Entry) (room2 : ℕ) → i < length r.entries →
      flag_at busy2 i ≡ one_if b → ((k : ℕ) → k ≢ i → flag_at busy2 k ≡ flag_at busy k) → flag_at unsafe2 i ≡ one_if c → ((k : ℕ) → k ≢ i → flag_at unsafe2 k ≡ flag_at unsafes k) →
      ((e : Entry) → slice_get es i ≡ Some e → c ≡ is_unsafe (f e)) →
      ((e : Entry) → slice_get es i ≡ Some e → buffer es2 room2 ≡ buffer (slice_set es i (f e)) room) → Flagged es2 room2 busy2 open_ones unsafe2
  change_flagged f b is_b same i busy2 unsafe2 c es2 room2 lt h g u v tells wrote = elim (slice_get_cases es i).1 [
    | inl found ↦ there found.0 found.2
    | inr past ↦ absurd (let le = past.0 in let ours = within_ring i lt in omega (arith, le, ours))
  ]
    where
      there : (d : Entry) → slice_get es i ≡ Some d → Flagged es2 room2 busy2 open_ones unsafe2
      there d at =
          let e = f d in
          subst (λ (b : Buffer Entry). Flagged b.items b.capacity busy2 open_ones unsafe2) (sym (wrote d at)) (record {
            few = m.few;
            within = let long = length-set es i e in let w = m.within in omega (arith, long, w);
            busy_is = put_is in_execution es busy m.busy_is i e b busy2 (within_ring i lt) (is_b d) h g;
            open_is = stays is_open es open_ones m.open_is i d e at (same d);
            unsafe_is = put_is is_unsafe es unsafes m.unsafe_is i e c unsafe2 (within_ring i lt) (tells d at) u v;
          })

  -- the bits are those of the entries once something issues of one, which is as safe as it was
  pub issue_flagged : (o : Issued) (b : Bool) (i : ℕ) (busy2 : List ℕ) (es2 : List Entry) (room2 : ℕ) → i < length r.entries → b ≡ is_busy o.state → flag_at busy2 i ≡ one_if b → ((k : ℕ) → k ≢ i → flag_at busy2 k ≡ flag_at busy k) →
      ((d : Entry) → slice_get r.entries i ≡ Some d → is_unsafe (with_issued o d) ≡ is_unsafe d) →
      ((d : Entry) → slice_get es i ≡ Some d → buffer es2 room2 ≡ buffer (slice_set es i (with_issued o d)) room) → Flagged es2 room2 busy2 open_ones unsafes
  issue_flagged o b i busy2 es2 room2 lt is_b h g alike wrote = elim (slice_get_cases es i).1 [
    | inl found ↦ there found.0 found.2
    | inr past ↦ absurd (let le = past.0 in let ours = within_ring i lt in omega (arith, le, ours))
  ]
    where
      there : (d : Entry) → slice_get es i ≡ Some d → Flagged es2 room2 busy2 open_ones unsafes
      there d at =
          let e = with_issued o d in
          subst (λ (b : Buffer Entry). Flagged b.items b.capacity busy2 open_ones unsafes) (sym (wrote d at)) (record {
            few = m.few;
            within = let long = length-set es i e in let w = m.within in omega (arith, long, w);
            busy_is = put_is in_execution es busy m.busy_is i e b busy2 (within_ring i lt) is_b h g;
            open_is = stays is_open es open_ones m.open_is i d e at refl;
            unsafe_is = stays is_unsafe es unsafes m.unsafe_is i d e at (alike d (ap (λ (r : Ring). slice_get r.entries i) (sym seen) ∙ at));
          })

  -- the bits are those of the entries once one is resolved or cleared: it executes or not as it did, and is told to be
  -- settled and safe or not
  settle_flagged : (f : Entry → Entry) → ((d : Entry) → in_execution (f d) ≡ in_execution d) → (i : ℕ) (open2 unsafe2 : List ℕ) (b c : Bool) (es2 : List Entry) (room2 : ℕ) → i < length r.entries →
      flag_at open2 i ≡ one_if b → ((k : ℕ) → k ≢ i → flag_at open2 k ≡ flag_at open_ones k) → flag_at unsafe2 i ≡ one_if c → ((k : ℕ) → k ≢ i → flag_at unsafe2 k ≡ flag_at unsafes k) →
      ((e : Entry) → slice_get es i ≡ Some e → b ≡ is_open (f e)) → ((e : Entry) → slice_get es i ≡ Some e → c ≡ is_unsafe (f e)) →
      ((e : Entry) → slice_get es i ≡ Some e → buffer es2 room2 ≡ buffer (slice_set es i (f e)) room) → Flagged es2 room2 busy open2 unsafe2
  settle_flagged f same i open2 unsafe2 b c es2 room2 lt h g u v opens tells wrote = elim (slice_get_cases es i).1 [
    | inl found ↦ there found.0 found.2
    | inr past ↦ absurd (let le = past.0 in let ours = within_ring i lt in omega (arith, le, ours))
  ]
    where
      there : (d : Entry) → slice_get es i ≡ Some d → Flagged es2 room2 busy open2 unsafe2
      there d at =
          let e = f d in
          subst (λ (b : Buffer Entry). Flagged b.items b.capacity busy open2 unsafe2) (sym (wrote d at)) (record {
            few = m.few;
            within = let long = length-set es i e in let w = m.within in omega (arith, long, w);
            busy_is = stays in_execution es busy m.busy_is i d e at (same d);
            open_is = put_is is_open es open_ones m.open_is i e b open2 (within_ring i lt) (opens d at) h g;
            unsafe_is = put_is is_unsafe es unsafes m.unsafe_is i e c unsafe2 (within_ring i lt) (tells d at) u v;
          })

  pub resolve_flagged : (i : ℕ) (open2 unsafe2 : List ℕ) (b c : Bool) (es2 : List Entry) (room2 : ℕ) → i < length r.entries →
      flag_at open2 i ≡ one_if b → ((k : ℕ) → k ≢ i → flag_at open2 k ≡ flag_at open_ones k) → flag_at unsafe2 i ≡ one_if c → ((k : ℕ) → k ≢ i → flag_at unsafe2 k ≡ flag_at unsafes k) →
      ((e : Entry) → slice_get es i ≡ Some e → b ≡ is_open (as_resolved e)) → ((e : Entry) → slice_get es i ≡ Some e → c ≡ is_unsafe (as_resolved e)) →
      ((e : Entry) → slice_get es i ≡ Some e → buffer es2 room2 ≡ buffer (slice_set es i (as_resolved e)) room) → Flagged es2 room2 busy open2 unsafe2
  resolve_flagged = settle_flagged as_resolved (λ d. refl)

  pub clear_flagged : (i : ℕ) (open2 unsafe2 : List ℕ) (b c : Bool) (es2 : List Entry) (room2 : ℕ) → i < length r.entries →
      flag_at open2 i ≡ one_if b → ((k : ℕ) → k ≢ i → flag_at open2 k ≡ flag_at open_ones k) → flag_at unsafe2 i ≡ one_if c → ((k : ℕ) → k ≢ i → flag_at unsafe2 k ≡ flag_at unsafes k) →
      ((e : Entry) → slice_get es i ≡ Some e → b ≡ is_open (cleared_one e)) → ((e : Entry) → slice_get es i ≡ Some e → c ≡ is_unsafe (cleared_one e)) →
      ((e : Entry) → slice_get es i ≡ Some e → buffer es2 room2 ≡ buffer (slice_set es i (cleared_one e)) room) → Flagged es2 room2 busy open2 unsafe2
  clear_flagged = settle_flagged cleared_one (λ d. refl)

  pub finish_flagged : (i : ℕ) (busy2 unsafe2 : List ℕ) (c : Bool) (es2 : List Entry) (room2 : ℕ) → i < length r.entries →
      flag_at busy2 i ≡ one_if false → ((k : ℕ) → k ≢ i → flag_at busy2 k ≡ flag_at busy k) → flag_at unsafe2 i ≡ one_if c → ((k : ℕ) → k ≢ i → flag_at unsafe2 k ≡ flag_at unsafes k) →
      ((e : Entry) → slice_get es i ≡ Some e → c ≡ is_unsafe (record e { state = Done })) →
      ((e : Entry) → slice_get es i ≡ Some e → buffer es2 room2 ≡ buffer (slice_set es i (record e { state = Done })) room) → Flagged es2 room2 busy2 open_ones unsafe2
  finish_flagged = change_flagged (λ d. record d { state = Done }) false (λ d. refl) (λ d. refl)

  pub push_flagged : (e : Entry) (b c d : Bool) (busy2 open2 unsafe2 : List ℕ) (n : ℕ) → n ≡ length r.entries → n < r.room → b ≡ in_execution e → c ≡ is_open e → d ≡ is_unsafe e →
      flag_at busy2 n ≡ one_if b → ((k : ℕ) → k ≢ n → flag_at busy2 k ≡ flag_at busy k) → flag_at open2 n ≡ one_if c → ((k : ℕ) → k ≢ n → flag_at open2 k ≡ flag_at open_ones k) →
      flag_at unsafe2 n ≡ one_if d → ((k : ℕ) → k ≢ n → flag_at unsafe2 k ≡ flag_at unsafes k) → Flagged (es ++ e ∷ []) room busy2 open2 unsafe2
  push_flagged e b c d busy2 open2 unsafe2 n is lt is_b is_c is_d h g j f u v =
      let as_many = ap (λ (r : Ring). length r.entries) seen in
      let rooms = ap (λ (r : Ring). r.room) seen in
      let at : n ≡ length es = omega (arith, is, as_many) in
      record {
        few = m.few;
        within = let long = length-append es (e ∷ []) in omega (arith, long, lt, rooms, at);
        busy_is = push_is in_execution es busy m.busy_is e b busy2 is_b (subst (λ n. flag_at busy2 n ≡ one_if b) at h) (λ k ne. g k (λ q. ne (q ∙ at)));
        open_is = push_is is_open es open_ones m.open_is e c open2 is_c (subst (λ n. flag_at open2 n ≡ one_if c) at j) (λ k ne. f k (λ q. ne (q ∙ at)));
        unsafe_is = push_is is_unsafe es unsafes m.unsafe_is e d unsafe2 is_d (subst (λ n. flag_at unsafe2 n ≡ one_if d) at u) (λ k ne. v k (λ q. ne (q ∙ at)));
      }

  pub cut_flagged : (n : ℕ) (busy2 open2 unsafe2 : List ℕ) → ((k : ℕ) → flag_at busy2 k ≡ (if nat_lt k n then flag_at busy k else 0)) → ((k : ℕ) → flag_at open2 k ≡ (if nat_lt k n then flag_at open_ones k else 0)) →
      ((k : ℕ) → flag_at unsafe2 k ≡ (if nat_lt k n then flag_at unsafes k else 0)) → Flagged (take n es) room busy2 open2 unsafe2
  cut_flagged n busy2 open2 unsafe2 h j u = record {
    few = m.few;
    within = let long = length-take n es in let w = m.within in omega (arith, long, w);
    busy_is = kept_is in_execution es busy m.busy_is n busy2 h;
    open_is = kept_is is_open es open_ones m.open_is n open2 j;
    unsafe_is = kept_is is_unsafe es unsafes m.unsafe_is n unsafe2 u;
  }

  pub pop_flagged : (busy2 open2 unsafe2 : List ℕ) → ((k : ℕ) → flag_at busy2 k ≡ flag_at busy (k + 1)) → ((k : ℕ) → flag_at open2 k ≡ flag_at open_ones (k + 1)) →
      ((k : ℕ) → flag_at unsafe2 k ≡ flag_at unsafes (k + 1)) → Flagged (drop 1 es) room busy2 open2 unsafe2
  pop_flagged busy2 open2 unsafe2 h j u = record {
    few = m.few;
    within = let long = length-drop 1 es in let w = m.within in omega (arith, long, w);
    busy_is = dropped_is in_execution es busy m.busy_is busy2 h;
    open_is = dropped_is is_open es open_ones m.open_is open2 j;
    unsafe_is = dropped_is is_unsafe es unsafes m.unsafe_is unsafe2 u;
  }
