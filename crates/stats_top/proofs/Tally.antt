-- A run that is counted cycle by cycle, and in stretches.
use Rattle.std.proofs.Common.{◌≡◌, inl, inr, ◌<◌, ◌≤◌, ℕ, ◌+◌, ◌-◌, min, List, [], ◌∷◌, ◌++◌, length, true, None, refl, ap, ap₂, sym, ◌∙◌, subst, arith, append_assoc, append-nil, eq-zero-or-pos}
use Rattle.std.specs.Option.{is_some}
use Rattle.rv_types.specs.Memory.{Code}
use Rattle.machine_desc.specs.declared.Desc.{Desc}
use Rattle.window_model.specs.State.{Machine}
use Rattle.window_model.specs.Row.{Row}
use Rattle.window_model.specs.Cycle.{cycle, after_cycles}
use Rattle.pair_run.proofs.Cycles.{Left, left_next, left_ended, left_done, none_left}
use Rattle.tool_io.specs.Outside.{Told, Wrote, WrotePrefix}
use Rattle.tool_io.proofs.Writing.{WroteUpTo, up_to_start, up_to_more, up_to_part, up_to_end}
use Rattle.slot_reasons.specs.declared.Known.{Known}
use Rattle.slot_reasons.specs.Reasons.{first_known}
use Rattle.slot_reasons.specs.Slots.{Charge, Seen, charge_of, known_after, known_at, seen}
use Rattle.stats_top.specs.Stats.{Numbers, numbers_of, stretch_line, stretches_text}
use Rattle.stats_top.specs.inner.Counting.{CountedTo}
use Rattle.stats_top.proofs.Parts.{splits, came, none_seen, known_goes, known_stays, seen_goes, stays}
use Rattle.stats_top.proofs.Stretches.{next_stretch, no_stretch}

-- ---- Cycle by cycle

-- i of the n cycles from x are done and led to y, q is known then, and these are the numbers of what was seen
pub record CountedSoFar (counts : Numbers) (d : Desc) (code : Code) (n i : ℕ) (x y : Machine) (p q : Known) : Type 0 where
  pub left : Left d code n i x y
  pub done : List Seen
  pub counts_are : counts ≡ numbers_of done
  pub seen_are : done ++ seen d code (n - i) y q ≡ seen d code n x p
  pub known_are : known_at d code (n - i) y q ≡ known_at d code n x p

module _ (d : Desc) (code : Code) (n : ℕ) (x : Machine) (p : Known) where
  pub none_counted : (counts : Numbers) → counts ≡ numbers_of [] → CountedSoFar counts d code n 0 x x p p
  none_counted counts e =
      let z : n - 0 ≡ n = omega arith in
      let c : x.cycle ≡ x.cycle + 0 = omega arith in
      record {
        left = record { last_is = ap (λ k. after_cycles d code k x) z; count = c };
        done = [];
        counts_are = e;
        seen_are = ap (λ k. seen d code k x p) z;
        known_are = ap (λ k. known_at d code k x p) z;
      }

  pub one_counted : (i : ℕ) (y y' : Machine) (q q' : Known) (row : Row) (piece : List ℕ) (charge : Charge) (counts counts' : Numbers) → i < n → y.end ≡ None
      → record { machine = y'; row = row; piece = piece } ≡ cycle d code y → charge ≡ charge_of d q y (cycle d code y) → q' ≡ known_after d q y (cycle d code y)
      → ((seen : List Seen) → counts ≡ numbers_of seen → counts' ≡ numbers_of (seen ++ record { row = row; charge = charge } ∷ []))
      → CountedSoFar counts d code n i x y p q → CountedSoFar counts' d code n (i + 1) x y' p q'
  one_counted i y y' q q' row piece charge counts counts' h e c k o w s = record {
    left = left_next d code n i x y y' row piece h e c s.left;
    done = s.done ++ record { row = row; charge = charge } ∷ [];
    counts_are = w s.done s.counts_are;
    seen_are =
        append_assoc s.done (record { row = row; charge = charge } ∷ []) _
        ∙ ap (λ r. s.done ++ r) (sym (seen_goes d code n i y y' row piece q q' charge h e c k o))
        ∙ s.seen_are;
    known_are = sym (known_goes d code n i y y' row piece q q' charge h e c k o) ∙ s.known_are;
  }

  all_done : (i : ℕ) (y : Machine) (q : Known) (counts : Numbers) → seen d code (n - i) y q ≡ [] → y ≡ after_cycles d code n x → CountedSoFar counts d code n i x y p q → CountedTo counts d code n x y p
  all_done i y q counts none last s = record {
    counts_are = s.counts_are ∙ ap numbers_of (sym (append-nil s.done) ∙ ap (λ r. s.done ++ r) (sym none) ∙ s.seen_are);
    last = last;
  }

  pub counted_ended : (i : ℕ) (y : Machine) (q : Known) (counts : Numbers) → is_some y.end ≡ true → CountedSoFar counts d code n i x y p q → CountedTo counts d code n x y p
  counted_ended i y q counts e s = all_done i y q counts (none_seen d code (n - i) y q e) (left_ended d code n i x y e s.left) s

  pub counted_all : (i : ℕ) (y : Machine) (q : Known) (counts : Numbers) → n ≤ i → CountedSoFar counts d code n i x y p q → CountedTo counts d code n x y p
  counted_all i y q counts h s = all_done i y q counts (ap (λ k. seen d code k y q) (none_left n i h)) (left_done d code n i x y h s.left) s

  -- what is known where all are done, or the run has ended
  pub known_ended : (i : ℕ) (y : Machine) (q : Known) (counts : Numbers) → is_some y.end ≡ true → CountedSoFar counts d code n i x y p q → q ≡ known_at d code n x p
  known_ended i y q counts e s = sym (known_stays d code (n - i) y q e) ∙ s.known_are

  pub known_all : (i : ℕ) (y : Machine) (q : Known) (counts : Numbers) → n ≤ i → CountedSoFar counts d code n i x y p q → q ≡ known_at d code n x p
  known_all i y q counts h s = sym (ap (λ k. known_at d code k y q) (none_left n i h)) ∙ s.known_are

-- ---- Stretch by stretch

-- so many of the n cycles from x are left, behind y; q is known then, these are the numbers of what was seen so far,
-- and the lines of the stretches so far are written
pub record StretchesLeft (k : ℕ) (counts : Numbers) (d : Desc) (code : Code) (n left : ℕ) (x y : Machine) (q : Known) (s t : Told) : Type 0 where
  pub done : List Seen
  pub counts_are : counts ≡ numbers_of done
  pub seen_are : done ++ seen d code left y q ≡ seen d code n x first_known
  pub last : after_cycles d code left y ≡ after_cycles d code n x
  pub clock : y.cycle + left ≤ x.cycle + n
  pub lines : WroteUpTo (stretches_text k x.cycle (seen d code n x first_known)) (stretches_text k y.cycle (seen d code left y q)) s t

module _ (k : ℕ) (some : 1 ≤ k) (d : Desc) (code : Code) (n : ℕ) (x : Machine) (told : Told) where
  pub none_written : (counts : Numbers) (q : Known) → counts ≡ numbers_of [] → q ≡ first_known → StretchesLeft k counts d code n n x x q told told
  none_written counts q e f =
      let text : Known → List ℕ = λ r. stretches_text k x.cycle (seen d code n x r) in
      record {
        done = [];
        counts_are = e;
        seen_are = ap (seen d code n x) f;
        last = refl;
        clock = omega arith;
        lines = subst (λ r. WroteUpTo (text first_known) (text r) told told) (sym f) (up_to_start _ told);
      }

  module _ (left : ℕ) (y y' : Machine) (counts since counts' : Numbers) (q q' : Known) (next : ℕ) (t : Told) (is : next ≡ min left k) (c : CountedTo since d code next y y' q) (known : q' ≡ known_at d code next y q)
      (sum : (seen behind : List Seen) → counts ≡ numbers_of seen → since ≡ numbers_of behind → counts' ≡ numbers_of (seen ++ behind)) (s : StretchesLeft k counts d code n left x y q told t) where
    -- what is seen of the stretch
    abbrev these : List Seen
    these = seen d code next y q

    -- how many they are, by the cycles that went by
    many : y'.cycle ≡ y.cycle + length these
    many = ap (λ (z : Machine). z.cycle) c.last ∙ (came d code next y q).clock

    -- the cycles that are left behind the stretch
    rest_is : seen d code left y q ≡ these ++ seen d code (left - next) y' q'
    rest_is =
        let m : left ≡ next + (left - next) = omega (arith, is) in
        ap (λ j. seen d code j y q) m ∙ (splits d code next (left - next) y q).seen_are ∙ ap₂ (λ z o. these ++ seen d code (left - next) z o) (sym c.last) (sym known)

    last_is : after_cycles d code left y ≡ after_cycles d code (left - next) y'
    last_is =
        let m : left ≡ next + (left - next) = omega (arith, is) in
        ap (λ j. after_cycles d code j y) m ∙ (splits d code next (left - next) y q).state ∙ ap (after_cycles d code (left - next)) (sym c.last)

    counted : counts' ≡ numbers_of (s.done ++ these)
    counted = sum s.done these s.counts_are c.counts_are

    seen_so_far : (s.done ++ these) ++ seen d code (left - next) y' q' ≡ seen d code n x first_known
    seen_so_far = append_assoc s.done these _ ∙ ap (λ r. s.done ++ r) (sym rest_is) ∙ s.seen_are

    -- the stretch is whole
    module _ (whole : k ≤ y'.cycle - y.cycle) where
      full : length these ≡ k
      full =
          let m : y'.cycle ≡ y.cycle + length these = many in
          let f : length these ≤ next = (came d code next y q).few in
          omega (arith, m, f, is, whole)

      behind : y'.cycle ≡ y.cycle + k
      behind = many ∙ ap (λ j. y.cycle + j) full

      text_is : stretches_text k y.cycle (seen d code left y q) ≡ stretch_line y'.cycle since ++ stretches_text k y'.cycle (seen d code (left - next) y' q')
      text_is =
          ap (stretches_text k y.cycle) rest_is
          ∙ next_stretch k y.cycle these _ some full
          ∙ ap₂ (λ j ns. stretch_line j ns ++ stretches_text k j (seen d code (left - next) y' q')) (sym behind) (sym c.counts_are)

      pub stretch_written : (u : Told) → Wrote (stretch_line y'.cycle since) t u → StretchesLeft k counts' d code n (left - next) x y' q' told u
      stretch_written u w = record {
        done = s.done ++ these;
        counts_are = counted;
        seen_are = seen_so_far;
        last = sym last_is ∙ s.last;
        clock =
            let b : y'.cycle ≡ y.cycle + k = behind in
            let o : y.cycle + left ≤ x.cycle + n = s.clock in
            let f : length these ≤ next = (came d code next y q).few in
            let g : length these ≡ k = full in
            omega (arith, is, b, o, f, g);
        lines = up_to_more _ (stretch_line y'.cycle since) _ _ _ _ (rw text_is at s.lines) w;
      }

      pub stretch_part : (u : Told) → WrotePrefix (stretch_line y'.cycle since) t u → WrotePrefix (stretches_text k x.cycle (seen d code n x first_known)) told u
      stretch_part u w = up_to_part _ (stretch_line y'.cycle since) _ _ _ _ (rw text_is at s.lines) w

    -- the run ends within the stretch, or with it
    module _ (short : y'.cycle - y.cycle < k) where
      fewer : length these < k
      fewer = let m : y'.cycle ≡ y.cycle + length these = many in omega (arith, m, short)

      -- the run has ended, where cycles are left
      ended : 0 < left - next → is_some y'.end ≡ true
      ended g =
          let f : length these < k = fewer in
          let l : length these < next = omega (arith, f, g, is) in
          ap (λ (z : Machine). is_some z.end) c.last ∙ (came d code next y q).short l

      -- nothing comes behind the stretch
      nothing_left : (seen d code (left - next) y' q' ≡ []) × (after_cycles d code (left - next) y' ≡ y')
      nothing_left =
          elim (eq-zero-or-pos (left - next)) [
            | inl z ↦ (ap (λ j. seen d code j y' q') z, ap (λ j. after_cycles d code j y') z)
            | inr g ↦ (none_seen d code (left - next) y' q' (ended g), stays d code (left - next) y' (ended g))
          ]

      these_are : seen d code left y q ≡ these
      these_are = rest_is ∙ ap (λ r. these ++ r) nothing_left.0 ∙ append-nil these

      pub stretches_ended : CountedTo counts' d code n x y' first_known × Wrote (stretches_text k x.cycle (seen d code n x first_known)) told t
      stretches_ended =
          let P : List ℕ → Type 0 = λ r. WroteUpTo (stretches_text k x.cycle (seen d code n x first_known)) r told t in
          let none : stretches_text k y.cycle (seen d code left y q) ≡ [] = ap (stretches_text k y.cycle) these_are ∙ no_stretch k y.cycle these fewer in (
            record {
              counts_are = counted ∙ ap numbers_of (sym (append-nil (s.done ++ these)) ∙ ap (λ r. (s.done ++ these) ++ r) (sym nothing_left.0) ∙ seen_so_far);
              last = sym nothing_left.1 ∙ sym last_is ∙ s.last;
            },
            up_to_end _ _ _ (subst P none s.lines),
          )

  -- no cycle is left
  pub stretches_done : (left : ℕ) (y : Machine) (q : Known) (counts : Numbers) (t : Told) → left ≤ 0 → StretchesLeft k counts d code n left x y q told t
      → CountedTo counts d code n x y first_known × Wrote (stretches_text k x.cycle (seen d code n x first_known)) told t
  stretches_done left y q counts t z s =
      let P : List ℕ → Type 0 = λ r. WroteUpTo (stretches_text k x.cycle (seen d code n x first_known)) r told t in
      let none_left : left ≡ 0 = omega (arith, z) in
      let empty : seen d code left y q ≡ [] = ap (λ j. seen d code j y q) none_left in
      let few : length (seen d code left y q) < k = omega (arith, some, ap length empty) in (
        record {
          counts_are = s.counts_are ∙ ap numbers_of (sym (append-nil s.done) ∙ ap (λ r. s.done ++ r) (sym empty) ∙ s.seen_are);
          last = sym (ap (λ j. after_cycles d code j y) none_left) ∙ s.last;
        },
        up_to_end _ _ _ (subst P (no_stretch k y.cycle _ few) s.lines),
      )

-- what is counted of a core is counted of the one that it was
pub same_core : (counts : Numbers) (d d' : Desc) (code code' : Code) (n : ℕ) (x y : Machine) (p : Known) → d ≡ d' → code ≡ code' → CountedTo counts d code n x y p → CountedTo counts d' code' n x y p
same_core counts d d' code code' n x y p e f c = subst (λ k. CountedTo counts d' k n x y p) f (subst (λ k. CountedTo counts k code n x y p) e c)
