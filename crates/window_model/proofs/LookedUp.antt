-- What an access comes to asks of the machine its two levels of the cache, its miss registers and where memory ends.
use Rattle.std.proofs.Common.{◌≡◌, ℕ, ◌+◌, Bool, not, ◌&&◌, List, length, Option, Some, None, refl, ap, ap₂, ◌∙◌}
use Rattle.std.specs.Option.{option_map}
use Rattle.std.specs.Prelude.{if◌then◌else◌, nat_le, nat_lt}
use Rattle.rv_types.specs.declared.Cause.{Cause}
use Rattle.machine_desc.specs.declared.Desc.{Desc}
use Rattle.machine_desc.specs.Questions.{has_prefetch}
use Rattle.window_model.specs.declared.Entry.{Entry}
use Rattle.window_model.specs.declared.Miss.{Miss}
use Rattle.window_model.specs.State.{line_of, upper_line}
use Rattle.window_model.specs.Around.{Around}
use Rattle.window_model.specs.declared.lookup.Line.{Line}
use Rattle.window_model.specs.declared.lookup.Lines.{Lines}
use Rattle.window_model.specs.declared.lookup.Line.TheVariants.{Hits, Joins, Takes}
use Rattle.window_model.specs.declared.lookup.Access.TheVariants.{Forwards, Looks, Waits}
use Rattle.window_model.specs.Access.{access_at, all_covered, any_store_hidden, due_by, due_of, later, latency_of, line_behind, look_up, looked_up, prefetch_request, prefetches, request_by, requests, unless_lacking}

module _ (d : Desc) (now now2 : Around) (c : now.cache ≡ now2.cache) (l : now.second ≡ now2.second) (m : now.misses ≡ now2.misses)
    (end : now.ram.base + length now.ram.bytes ≡ now2.ram.base + length now2.ram.bytes) where
  same_look : (line : ℕ) → look_up d now line ≡ look_up d now2 line
  same_look line =
      let at : List (List ℕ) → List (List ℕ) → List Miss → Line = λ c l m. look_up d (record now { cache = c; second = l; misses = m }) line in
      ap (λ c. at c now.second now.misses) c ∙ ap (λ l. at now2.cache l now.misses) l ∙ ap (at now2.cache now2.second) m

  same_upper : (o : Option ℕ) → option_map (look_up d now) o ≡ option_map (look_up d now2) o
  same_upper None = refl
  same_upper (Some line) = ap (λ l. Some l) (same_look line)

  same_found : (a n : ℕ) → looked_up d now a n ≡ looked_up d now2 a n
  same_found a n =
      let of : Line → Option Line → Lines = λ lower upper. record { lower = lower; upper = upper } in
      ap₂ of (same_look (line_of d a)) (same_upper (upper_line d a n))

  same_prefetches : (found : Lines) → prefetches d now found ≡ prefetches d now2 found
  same_prefetches found =
      let at : ℕ → List Miss → Bool = λ e m. has_prefetch d && nat_lt 0 (length (requests found)) && nat_lt (line_behind d found) e && nat_lt (length m + length (requests found)) d.cache_mshrs in
      ap₂ at end m

  same_prefetched : (found : Lines) → prefetch_request d now found ≡ prefetch_request d now2 found
  same_prefetched found = ap₂ (λ b u. if b then request_by u else None) (same_prefetches found) (same_look (line_behind d found))

  same_lacking : (found : Lines) → unless_lacking d now found ≡ unless_lacking d now2 found
  same_lacking found = ap₂ (λ m ahead. if nat_le (length m + length (requests found)) d.cache_mshrs then Looks found ahead else Waits) m (same_prefetched found)

  -- an access comes to the same over both, where it is forwarded from both lists of older entries or from neither
  pub same_access_at : (b b2 : List Entry) (a n : ℕ) (f : Option Cause) →
      (all_covered b a n && not (any_store_hidden d.stt_model b)) ≡ (all_covered b2 a n && not (any_store_hidden d.stt_model b2)) →
      access_at d now b a n f ≡ access_at d now2 b2 a n f
  same_access_at b b2 a n (Some cause) h = refl
  same_access_at b b2 a n None h =
      ap₂ (λ f u. if f then Forwards else u) h (ap (unless_lacking d now) (same_found a n) ∙ same_lacking (looked_up d now2 a n))

-- ---- when lines are there

same_due : (d : Desc) (now now2 : Around) (l : Line) → now.cycle ≡ now2.cycle → due_of d now l ≡ due_of d now2 l
same_due d now now2 (Hits line) q = ap (λ n. n + d.cache_hit_latency) q
same_due d now now2 (Joins line due) q = refl
same_due d now now2 (Takes r) q = ap (λ n. n + latency_of d r) q

-- lines that were looked up are all there in the same cycle where they were looked up in one
pub same_due_by : (d : Desc) (now now2 : Around) (found : Lines) → now.cycle ≡ now2.cycle → due_by d now found ≡ due_by d now2 found
same_due_by d now now2 found q = ap₂ later (same_due d now now2 found.lower q) (by_upper found.upper)
  where
    by_upper : (o : Option Line) → option_map (due_of d now) o ≡ option_map (due_of d now2) o
    by_upper None = refl
    by_upper (Some l) = ap (λ due. Some due) (same_due d now now2 l q)
