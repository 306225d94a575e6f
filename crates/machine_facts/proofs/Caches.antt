-- A level of the cache keeps its sets, and each set at most as many lines as there are ways.
use Rattle.std.proofs.Common.{◌≡◌, ℕ, suc, ◌<◌, ◌≤◌, Bool, true, false, not, ◌||◌, List, [], ◌∷◌, length, take, set, get_or, ◌∙◌, refl, arith}
use Rattle.std.specs.Prelude.{if◌then◌else◌, ◌==◌}
use Rattle.std.specs.List.{filter, fold, list_any}
use Rattle.std.proofs.lemmas.List.{length-set, length-take}
use Rattle.machine_desc.specs.declared.Desc.{Desc}
use Rattle.window_model.specs.State.{set_of}
use Rattle.window_model.specs.Fill.{with_line}
use Rattle.window_model.specs.Retire.{with_line_touched}
use Rattle.window_model.specs.SecondLevel.{second_set_of, second_touched, second_with_line}
use Rattle.window_model.specs.Sets.{with_front_line, is_in, moved_up}
use Rattle.window_model.proofs.Lists.{each_set, each_at, filter_shortens}
use Rattle.machine_facts.proofs.Parts.{CacheFits, LevelFits, SecondFits}

-- ---- a line that moves to the front

shrinks_if : (b c : Bool) (x : ℕ) (ys xs : List ℕ) → (b || c) ≡ true → length ys ≤ length xs → (c ≡ true → length ys < length xs) → length (if not b then x ∷ ys else ys) < suc (length xs)
shrinks_if true c x ys xs h le m = omega (arith, le)
shrinks_if false true x ys xs h le m = let q = m refl in omega (arith, q)
shrinks_if false false x ys xs h le m = absurd (cc)

shrinks : (p : ℕ → Bool) (xs : List ℕ) → list_any p xs ≡ true → length (filter (λ l. not (p l)) xs) < length xs
shrinks p [] h = absurd (cc)
shrinks p (x ∷ xs) h = shrinks_if (p x) (list_any p xs) x _ xs h (filter_shortens (λ l. not (p l)) xs) (shrinks p xs)

-- ---- a line that enters or moves, and several

module _ (count most : ℕ) where
  entered_fits : (level : List (List ℕ)) (s line : ℕ) → LevelFits count most level → LevelFits count most (with_front_line most level s line)
  entered_fits level s line h =
      let v = take most (line ∷ get_or level s []) in
      let n = length-take most (line ∷ get_or level s []) in
      record { sets = length-set level s v ∙ h.sets; ways = each_set (λ lines. length lines ≤ most) level s v (omega (arith, n)) h.ways }

  moved_if : (b : Bool) (level : List (List ℕ)) (s line : ℕ) → is_in level s line ≡ b → LevelFits count most level →
      LevelFits count most (if b then set level s (line ∷ filter (λ l. not (l == line)) (get_or level s [])) else level)
  moved_if false level s line q h = h
  moved_if true level s line q h =
      let old = get_or level s [] in
      let v = line ∷ filter (λ l. not (l == line)) old in
      let lt = shrinks (λ l. l == line) old q in
      let le = each_at (λ lines. length lines ≤ most) level s [] (omega arith) h.ways in
      record { sets = length-set level s v ∙ h.sets; ways = each_set (λ lines. length lines ≤ most) level s v (omega (arith, lt, le)) h.ways }

  moved_fits : (level : List (List ℕ)) (s line : ℕ) → LevelFits count most level → LevelFits count most (moved_up level s line)
  moved_fits level s line h = moved_if (is_in level s line) level s line refl h

  several : (f : List (List ℕ) → ℕ → List (List ℕ)) → ((level : List (List ℕ)) (line : ℕ) → LevelFits count most level → LevelFits count most (f level line)) →
      (lines : List ℕ) (level : List (List ℕ)) → LevelFits count most level → LevelFits count most (fold f level lines)
  several f keeps [] level h = h
  several f keeps (line ∷ lines) level h = several f keeps lines (f level line) (keeps level line h)

-- ---- both levels of the cache

module _ (d : Desc) where
  pub filled_fits : (lines : List ℕ) (cache : List (List ℕ)) → CacheFits d cache → CacheFits d (fold (with_line d) cache lines)
  filled_fits = several d.cache_sets d.cache_ways (with_line d) (λ cache line. entered_fits d.cache_sets d.cache_ways cache (set_of d line) line)

  pub lines_fit : (lines : List ℕ) (cache : List (List ℕ)) → CacheFits d cache → CacheFits d (fold (with_line_touched d) cache lines)
  lines_fit = several d.cache_sets d.cache_ways (with_line_touched d) (λ cache line. moved_fits d.cache_sets d.cache_ways cache (set_of d line) line)

  pub second_filled_fits : (lines : List ℕ) (second : List (List ℕ)) → SecondFits d second → SecondFits d (fold (second_with_line d) second lines)
  second_filled_fits = several d.cache_second_sets d.cache_second_ways (second_with_line d) (λ second line. entered_fits d.cache_second_sets d.cache_second_ways second (second_set_of d line) line)

  pub second_lines_fit : (lines : List ℕ) (second : List (List ℕ)) → SecondFits d second → SecondFits d (fold (second_touched d) second lines)
  second_lines_fit = several d.cache_second_sets d.cache_second_ways (second_touched d) (λ second line. moved_fits d.cache_second_sets d.cache_second_ways second (second_set_of d line) line)
