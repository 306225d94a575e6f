-- What is told of a run, from what its parts write.
use Rattle.std.proofs.Common.{◌≡◌, ℕ, zero, suc, ◌+◌, ◌<◌, ◌≤◌, List, [], ◌∷◌, ◌++◌, length, drop, get_or, slice_get, Option, Some, refl, ap, ap₂, sym, ◌∙◌, subst, arith, append_assoc, append-nil, add-one}
use Rattle.std.proofs.lemmas.List.{drop_all}
use Rattle.rv_types.specs.Memory.{Code}
use Rattle.rv_types.specs.declared.Ending.{Ending}
use Rattle.line_text.specs.EndLine.{end_line}
use Rattle.machine_desc.specs.declared.Desc.{Desc}
use Rattle.window_model.specs.State.{Machine}
use Rattle.window_model.specs.Cycle.{after_cycles, trace_from}
use Rattle.pair_run.specs.Running.{ending_at}
use Rattle.tool_io.specs.Outside.{Told, Wrote, WrotePrefix}
use Rattle.tool_io.proofs.Writing.{part_more, wrote_then, wrote_then_part}
use Rattle.slot_reasons.specs.Reasons.{first_known}
use Rattle.slot_reasons.specs.Slots.{Seen, seen}
use Rattle.stats_top.specs.Stats.{Numbers, all_lines, numbers_of, way_text, number_line, number_lines, stats_from}
use Rattle.stats_top.specs.inner.Counting.{CountedTo}

-- ---- The lines of numbers

-- the line at a place, and those behind it
line_at : (ns : List (List ℕ)) (ks : List ℕ) (place : ℕ) (name : List ℕ) (d : ℕ) → slice_get ns place ≡ Some name → place < length ks
    → number_lines (drop place ns) (drop place ks) ≡ number_line name (get_or ks place d) ++ number_lines (drop (suc place) ns) (drop (suc place) ks)
line_at [] ks place name d s l = absurd (cc)
line_at (n ∷ ns) [] place name d s l = absurd (omega (arith, l))
line_at (n ∷ ns) (k ∷ ks) zero name d s l = let same : n ≡ name = cc in ap (λ x. number_line x k ++ number_lines ns ks) same
line_at (n ∷ ns) (k ∷ ks) (suc place) name d s l = let r : place < length ks = omega (arith, l) in line_at ns ks place name d s r

-- one more line is added to those of the text that has come so far
pub next_line : (ns : List (List ℕ)) (ks all lines lines' : List ℕ) (place d : ℕ) (name : List ℕ) → slice_get ns place ≡ Some name → place < length ks → lines' ≡ lines ++ number_line name (get_or ks place d)
    → lines ++ number_lines (drop place ns) (drop place ks) ≡ all
    → lines' ++ number_lines (drop (place + 1) ns) (drop (place + 1) ks) ≡ all
next_line ns ks all lines lines' place d name s there e h =
    let line = number_line name (get_or ks place d) in
    ap₂ (λ a p. a ++ number_lines (drop p ns) (drop p ks)) e (add-one place)
    ∙ append_assoc lines line _
    ∙ ap (λ r. lines ++ r) (sym (line_at ns ks place name d s there))
    ∙ h

-- no line is left
pub last_line : (ns : List (List ℕ)) (ks all lines : List ℕ) (place : ℕ) → length ns ≤ place → lines ++ number_lines (drop place ns) (drop place ks) ≡ all → lines ≡ all
last_line ns ks all lines place most h =
    sym (append-nil lines) ∙ ap (λ names. lines ++ number_lines names (drop place ks)) (sym (drop_all place ns most)) ∙ h

-- ---- All that is told

module _ (every : Option ℕ) (d : Desc) (code : Code) (n : ℕ) (x : Machine) where
  -- what is seen of the run
  abbrev here : List Seen
  here = seen d code n x first_known

  -- the lines of the numbers, and the last line
  abbrev last_lines : List ℕ
  last_lines = all_lines (numbers_of here) ++ end_line (ending_at (after_cycles d code n x))

  parts : stats_from every x.cycle here (trace_from d code n x) ≡ way_text every x.cycle here ++ last_lines
  unfolding stats_from
  parts = refl

  -- a part of the lines on the way is a part of the text
  pub way_alone : (s t : Told) → WrotePrefix (way_text every x.cycle here) s t → WrotePrefix (stats_from every x.cycle here (trace_from d code n x)) s t
  way_alone s t p = rw parts (part_more _ _ _ _ p)

  module _ (y : Machine) (counts : Numbers) (ending : Ending) (s t u : Told) (c : CountedTo counts d code n x y first_known) (w : Wrote (way_text every x.cycle here) s t) (e : ending ≡ ending_at y) where
    last_are : all_lines counts ++ end_line ending ≡ last_lines
    last_are = ap₂ (λ ks k. all_lines ks ++ end_line k) c.counts_are (e ∙ ap ending_at c.last)

    pub stats_whole : Wrote (all_lines counts ++ end_line ending) t u → Wrote (stats_from every x.cycle here (trace_from d code n x)) s u
    stats_whole v = rw parts (wrote_then _ _ _ _ _ w (subst (λ text. Wrote text t u) last_are v))

    pub stats_cut : WrotePrefix (all_lines counts ++ end_line ending) t u → WrotePrefix (stats_from every x.cycle here (trace_from d code n x)) s u
    stats_cut v = rw parts (wrote_then_part _ _ _ _ _ w (subst (λ text. WrotePrefix text t u) last_are v))
