-- The lines for which a load takes miss registers, and the one that is prefetched: one above the other, and no register
-- waits for any of them.
use Rattle.std.proofs.Common.{◌≡◌, ℕ, suc, ◌+◌, ◌<◌, ◌≤◌, List, [], ◌∷◌, ◌++◌, length, Option, None, refl, sym, subst, arith, length-append, append-nil, append_assoc}
use Rattle.std.specs.List.{find}
use Rattle.std.specs.Option.{option_map, option_to_list}
use Rattle.std.specs.Prelude.{◌==◌}
use Rattle.machine_desc.specs.declared.Desc.{Desc}
use Rattle.window_model.specs.Around.{Around}
use Rattle.window_model.specs.State.{line_of, upper_line}
use Rattle.window_model.specs.declared.lookup.Lines.{Lines}
use Rattle.window_model.specs.declared.lookup.Request.{Request}
use Rattle.window_model.specs.Access.{all_requests, line_at, line_behind, look_up, looked_up, prefetch_request, request, request_by, requests}
use Rattle.window_model.proofs.Issuing.{OneOrTwo, One, Two, by_line, by_prefetched, lines_are}

-- the request is of the level that has its line, and no miss register waits for that line
pub record IsFresh (d : Desc) (now : Around) (r : Request) : Type 0 where
  pub own : r ≡ request d now r.line
  pub fresh : find (λ m. m.line == r.line) now.misses ≡ None

-- every request in the list is of the level that has its line, no miss register waits for any, and the lines rise from
-- `low` on
abbrev pub AllFresh : Desc → Around → ℕ → List Request → Type 0
AllFresh d now low [] = Unit {0}
AllFresh d now low (r ∷ rs) = (low ≤ r.line) × IsFresh d now r × AllFresh d now (suc r.line) rs

module _ (d : Desc) (now : Around) where
  -- the request of a line that is looked up, if it takes a register
  abbrev asked : ℕ → List Request
  asked line = option_to_list (request_by (look_up d now line))

  -- what holds of no request and, where no miss register waits for the line, of its request holds of a line that is
  -- looked up
  pub by_request : (line : ℕ) (P : List Request → Type 0) → P [] → (find (λ m. m.line == line) now.misses ≡ None → P (request d now line ∷ [])) → P (asked line)
  by_request line P none one = by_line d now line (λ l. P (option_to_list (request_by l))) (λ h. none) (λ m h. none) one

  from_lower : (low high : ℕ) (rs : List Request) → low ≤ high → AllFresh d now high rs → AllFresh d now low rs
  from_lower low high [] l h = tt
  from_lower low high (r ∷ rs) l h = (omega (arith, l, h.0), h.1, h.2)

  line_more : (low line : ℕ) (more : List Request) → low ≤ line → AllFresh d now (suc line) more → AllFresh d now low (asked line ++ more)
  line_more low line more l h =
      by_request line (λ rs. AllFresh d now low (rs ++ more)) (from_lower low (suc line) more (omega (arith, l)) h) (λ f. (l, record { own = refl; fresh = f }, h))

  pub line_found : (line : ℕ) → line_at (look_up d now line) ≡ line
  line_found line = by_line d now line (λ l. line_at l ≡ line) (λ h. refl) (λ m h. refl) (λ h. refl)

  -- a load's lines rise, and what takes a register behind them lies above
  lines_more : (low : ℕ) (up : Option ℕ) (more : List Request) → OneOrTwo low up →
      let found : Lines = record { lower = look_up d now low; upper = option_map (look_up d now) up } in
      AllFresh d now (line_behind d found) more → AllFresh d now 0 (requests found ++ more)
  lines_more _ _ more (One line) h =
      let f = line_found line in
      subst (λ rs. AllFresh d now 0 (rs ++ more)) (sym (append-nil (asked line)))
      (line_more 0 line more (omega arith) (from_lower (suc line) _ more (omega (arith, f, d.stands.line.0)) h))
  lines_more _ _ more (Two low high l) h =
      let f = line_found high in
      subst (AllFresh d now 0) (sym (append_assoc (asked low) (asked high) more))
      (line_more 0 low (asked high ++ more) (omega arith)
      (line_more (suc low) high more (omega (arith, l)) (from_lower (suc high) _ more (omega (arith, f, d.stands.line.0)) h)))

  module _ (a n : ℕ) where
    abbrev found : Lines
    found = looked_up d now a n

    pub all_fresh : 0 < n → AllFresh d now 0 (all_requests found (prefetch_request d now found))
    all_fresh some = lines_more (line_of d a) (upper_line d a n) (option_to_list (prefetch_request d now found)) (lines_are d a n some) ahead
      where
        ahead : AllFresh d now (line_behind d found) (option_to_list (prefetch_request d now found))
        ahead = by_prefetched d now found (λ o. AllFresh d now (line_behind d found) (option_to_list o)) tt (λ m r f. (omega arith, record { own = refl; fresh = f }, tt))

    -- where there are registers for the load's lines, there is one for what is prefetched
    pub room_ahead : length now.misses + length (requests found) ≤ d.cache_mshrs → length now.misses + length (all_requests found (prefetch_request d now found)) ≤ d.cache_mshrs
    room_ahead room =
        by_prefetched d now found (λ ahead. length now.misses + length (all_requests found ahead) ≤ d.cache_mshrs) (let l = length-append (requests found) [] in omega (arith, l, room))
        (λ m r f. let l = length-append (requests found) (request d now (line_behind d found) ∷ []) in omega (arith, l, r))
