-- A load's lines may be looked up at once, or in turn: the same is found, and the same is left.
use Rattle.std.proofs.Common.{◌≡◌, ◌≢◌, ℕ, zero, suc, ◌+◌, Bool, true, false, not, ◌||◌, List, [], ◌∷◌, ◌++◌, length, set, get_or, Option, Some, None, refl, ap, ap₂, sym, subst, ◌∙◌, arith, eqb-true, length-append, append-nil, append_assoc}
use Rattle.std.proofs.lemmas.List.{length-map}
use Rattle.std.specs.Option.{option_and_then, option_map, option_to_list}
use Rattle.std.specs.List.{filter, find, fold, list_any}
use Rattle.std.specs.Prelude.{if◌then◌else◌, nat_le, nat_lt, ◌==◌, ◌&&◌, map}
use Rattle.rv_types.specs.Memory.{Ram}
use Rattle.machine_desc.specs.Questions.{has_prefetch}
use Rattle.machine_desc.specs.declared.Desc.{Desc}
use Rattle.window_model.specs.declared.Miss.{Miss}
use Rattle.window_model.specs.Around.{Around}
use Rattle.window_model.specs.SecondLevel.{second_has, second_set_of, second_touched}
use Rattle.window_model.specs.Sets.{is_in, moved_up}
use Rattle.window_model.specs.State.{line_of, set_of, upper_line}
use Rattle.window_model.specs.Retire.{has_line, with_line_touched}
use Rattle.window_model.specs.declared.lookup.Line.{Line}
use Rattle.window_model.specs.declared.lookup.Line.TheVariants.{Hits, Joins, Takes}
use Rattle.window_model.specs.declared.lookup.Lines.{Lines}
use Rattle.window_model.specs.declared.lookup.Request.{Request}
use Rattle.window_model.specs.declared.lookup.Access.{Access}
use Rattle.window_model.specs.declared.lookup.Access.TheVariants.{Looks, Waits}
use Rattle.window_model.specs.Access.{in_order, line_on_miss, look_up, line_at, line_behind, prefetch_request, register, request_by, requests, unless_lacking}
use Rattle.window_model.proofs.Issuing.{OneOrTwo, One, Two, lines_are}
use Rattle.machine_facts.specs.InTurn.{left_above, left_by, InTurn, in_turn, ahead_of, access_in_turn, OthersStay, AccessesGoInTurn, AccessesLeaveInTurn}
use Rattle.machine_facts.proofs.Requests.{line_found}

-- ---- a line that moves to the front of its set leaves in each set what was in it

-- what holds alike of a set and of what takes its place holds of each set as before
alike : (f : List ℕ → Bool) (sets : List (List ℕ)) (s t : ℕ) (new : List ℕ) → f new ≡ f (get_or sets s []) → f (get_or (set sets s new) t []) ≡ f (get_or sets t [])
alike f [] s t new h = refl
alike f (x ∷ sets) zero zero new h = h
alike f (x ∷ sets) zero (suc t) new h = refl
alike f (x ∷ sets) (suc s) zero new h = refl
alike f (x ∷ sets) (suc s) (suc t) new h = alike f sets s t new h

abbrev holds : ℕ → List ℕ → Bool
holds other lines = list_any (λ l. l == other) lines

-- without a line a set has any other as before
without_if : (b m r q : Bool) (x : ℕ) (rest : List ℕ) (other : ℕ) → (b ≡ true → m ≡ false) → (x == other) ≡ m → holds other rest ≡ r → r ≡ q
    → holds other (if not b then x ∷ rest else rest) ≡ (m || q)
without_if true true r q x rest other h e f g = absurd (cc (h refl))
without_if true false r q x rest other h e f g = f ∙ g
without_if false m r q x rest other h e f g = ap₂ (λ (v w : Bool). v || w) e (f ∙ g)

without : (line other : ℕ) (lines : List ℕ) → (line == other) ≡ false → holds other (filter (λ l. not (l == line)) lines) ≡ holds other lines
without line other [] h = refl
without line other (x ∷ lines) h =
    without_if (x == line) (x == other) _ (holds other lines) x (filter (λ l. not (l == line)) lines) other
    (λ q. subst (λ y. (y == other) ≡ false) (sym (eqb-true x line q)) h) refl refl (without line other lines h)

front_if : (b : Bool) (line other : ℕ) (lines : List ℕ) → (line == other) ≡ b → holds line lines ≡ true
    → (b || holds other (filter (λ l. not (l == line)) lines)) ≡ holds other lines
front_if true line other lines q h = sym (subst (λ y. holds y lines ≡ true) (eqb-true line other q) h)
front_if false line other lines q h = without line other lines q

in_front : (line other : ℕ) (lines : List ℕ) → holds line lines ≡ true → holds other (line ∷ filter (λ l. not (l == line)) lines) ≡ holds other lines
in_front line other lines h = front_if (line == other) line other lines refl h

moved_if : (b : Bool) (sets : List (List ℕ)) (s t line other : ℕ) → is_in sets s line ≡ b
    → is_in (if b then set sets s (line ∷ filter (λ l. not (l == line)) (get_or sets s [])) else sets) t other ≡ is_in sets t other
moved_if true sets s t line other h = alike (holds other) sets s t _ (in_front line other (get_or sets s []) h)
moved_if false sets s t line other h = refl

moved_keeps : (sets : List (List ℕ)) (s t line other : ℕ) → is_in (moved_up sets s line) t other ≡ is_in sets t other
moved_keeps sets s t line other = moved_if (is_in sets s line) sets s t line other refl

second_keeps : (d : Desc) (lines : List ℕ) (second : List (List ℕ)) (other : ℕ) → second_has d (fold (second_touched d) second lines) other ≡ second_has d second other
second_keeps d [] second other = refl
second_keeps d (line ∷ lines) second other =
    second_keeps d lines (second_touched d second line) other ∙ moved_keeps second (second_set_of d line) (second_set_of d other) line other

-- ---- registers of another line

found_if : {X : Type 0} (b : Bool) (x : X) (o p : Option X) → o ≡ p → (if b then Some x else o) ≡ (if b then Some x else p)
found_if true x o p h = refl
found_if false x o p h = h

-- where nothing is found behind a list, all is found as in the list alone
found_before : {X : Type 0} (p : X → Bool) (xs ys : List X) → find p ys ≡ None → find p (xs ++ ys) ≡ find p xs
found_before p [] ys h = h
found_before p (x ∷ xs) ys h = found_if (p x) x _ _ (found_before p xs ys h)

-- the register that a line takes is found for no other line
not_found : (d : Desc) (cycle : ℕ) (l : Line) (other : ℕ) → line_at l ≢ other → find (λ (m : Miss). m.line == other) (map (register d cycle) (option_to_list (request_by l))) ≡ None
not_found d cycle (Hits line) other h = refl
not_found d cycle (Joins line due) other h = refl
not_found d cycle (Takes r) other h = by_test (r.line == other) refl
  where
    by_test : (b : Bool) → (r.line == other) ≡ b → (if b then Some (register d cycle r) else None) ≡ None
    by_test true q = absurd (h (eqb-true r.line other q))
    by_test false q = refl

-- ---- another line is looked up as before

look_if : (d : Desc) (now left : Around) (other : ℕ) (b c : Bool) (o p : Option Miss) → c ≡ b → p ≡ o → second_has d left.second other ≡ second_has d now.second other
    → (if c then Hits other else line_on_miss d left other p) ≡ (if b then Hits other else line_on_miss d now other o)
look_if d now left other true c o p q e s = rw q refl
look_if d now left other false c (Some m) p q e s = rw (q, e) refl
look_if d now left other false c None p q e s = rw (q, e, s) refl

-- what an access leaves of one line changes no look-up of another
pub others_stay : OthersStay
others_stay d now line other apart =
    let l = look_up d now line in
    let at : line_at l ≡ line = line_found d now line in
    look_if d now (left_by d l now) other (has_line d now.cache other) _ (find (λ m. m.line == other) now.misses) _
    (moved_keeps now.cache (set_of d (line_at l)) (set_of d other) (line_at l) other)
    (found_before (λ m. m.line == other) now.misses _ (not_found d now.cycle l other (λ q. apart (sym at ∙ q))))
    (second_keeps d (map (λ r. r.line) (option_to_list (request_by l))) now.second other)

-- ---- the lower line and the upper one in turn

-- neither line of an access is this one
abbrev NeitherIs : ℕ → ℕ → Option ℕ → Type 0
NeitherIs other low None = low ≢ other
NeitherIs other low (Some high) = (low ≢ other) × (high ≢ other)

turns_keep : (d : Desc) (now : Around) (low : ℕ) (up : Option ℕ) (other : ℕ) → NeitherIs other low up → look_up d (in_turn d now low up).left other ≡ look_up d now other
turns_keep d now low None other h = others_stay d now low other h
turns_keep d now low (Some high) other h = others_stay d (left_by d (look_up d now low) now) high other h.1 ∙ others_stay d now low other h.0

-- the lines of an access, looked up on one state
abbrev looked : Desc → Around → ℕ → Option ℕ → Lines
looked d now low up = record { lower = look_up d now low; upper = option_map (look_up d now) up }

same_found : (d : Desc) (now : Around) (low : ℕ) (up : Option ℕ) → OneOrTwo low up → (in_turn d now low up).found ≡ looked d now low up
same_found d now _ _ (One line) = refl
same_found d now _ _ (Two low high l) =
    let with_upper : Line → Lines = λ upper. record { lower = look_up d now low; upper = Some upper } in
    ap with_upper (others_stay d now low high (λ q. omega (arith, q, l)))

-- ---- what is left

map_append : {X Y : Type 0} (f : X → Y) (xs ys : List X) → map f (xs ++ ys) ≡ map f xs ++ map f ys
map_append f [] ys = refl
map_append f (x ∷ xs) ys = ap (λ (zs : List _). f x ∷ zs) (map_append f xs ys)

fold_append : {S X : Type 0} (f : S → X → S) (xs ys : List X) (s : S) → fold f s (xs ++ ys) ≡ fold f (fold f s xs) ys
fold_append f [] ys s = refl
fold_append f (x ∷ xs) ys s = fold_append f xs ys (f s x)

module _ (d : Desc) (now : Around) (low : ℕ) where
  abbrev lower : Line
  lower = look_up d now low

  abbrev after : Around
  after = left_by d lower now

  abbrev asked : Option Line → List Request
  asked o = option_to_list (option_and_then request_by o)

  same_cycle : (up : Option ℕ) → (in_turn d now low up).left.cycle ≡ now.cycle
  same_cycle None = refl
  same_cycle (Some high) = refl

  same_ram : (up : Option ℕ) → (in_turn d now low up).left.ram ≡ now.ram
  same_ram None = refl
  same_ram (Some high) = refl

  left_cache : (up : Option ℕ) → fold (with_line_touched d) now.cache (map line_at (in_order (in_turn d now low up).found)) ≡ (in_turn d now low up).left.cache
  left_cache None = refl
  left_cache (Some high) = refl

  upper_second : (o : Option Line) → fold (second_touched d) after.second (map (λ r. r.line) (asked o)) ≡ (left_above d o after).second
  upper_second None = refl
  upper_second (Some l) = refl

  left_second : (up : Option ℕ) → fold (second_touched d) now.second (map (λ r. r.line) (requests (in_turn d now low up).found)) ≡ (in_turn d now low up).left.second
  left_second up =
      let more = option_map (look_up d after) up in
      ap (fold (second_touched d) now.second) (map_append (λ (r : Request). r.line) (option_to_list (request_by lower)) (asked more))
      ∙ (fold_append (second_touched d) (map (λ (r : Request). r.line) (option_to_list (request_by lower))) _ now.second ∙ upper_second more)

  upper_misses : (o : Option Line) → after.misses ++ map (register d now.cycle) (asked o) ≡ (left_above d o after).misses
  upper_misses None = append-nil after.misses
  upper_misses (Some l) = refl

  left_misses : (up : Option ℕ) → now.misses ++ map (register d now.cycle) (requests (in_turn d now low up).found) ≡ (in_turn d now low up).left.misses
  left_misses up =
      let more = option_map (look_up d after) up in
      ap (λ (ms : List Miss). now.misses ++ ms) (map_append (register d now.cycle) (option_to_list (request_by lower)) (asked more))
      ∙ (sym (append_assoc now.misses (map (register d now.cycle) (option_to_list (request_by lower))) _) ∙ upper_misses more)

-- an access leaves what its lines leave one after the other, and then the line that is prefetched
pub leave_in_turn : AccessesLeaveInTurn
leave_in_turn d now low up =
    let t = in_turn d now low up in
    let ahead = option_to_list (ahead_of d t) in (
      left_cache d now low up,
      ap (fold (second_touched d) now.second) (map_append (λ (r : Request). r.line) (requests t.found) ahead)
          ∙ (fold_append (second_touched d) (map (λ (r : Request). r.line) (requests t.found)) _ now.second
          ∙ ap (λ (s : List (List ℕ)). fold (second_touched d) s (map (λ (r : Request). r.line) ahead)) (left_second d now low up)),
      ap (λ (ms : List Miss). now.misses ++ ms) (map_append (register d now.cycle) (requests t.found) ahead)
          ∙ (sym (append_assoc now.misses (map (register d now.cycle) (requests t.found)) _)
          ∙ ap₂ (λ (ms : List Miss) (cycle : ℕ). ms ++ map (register d cycle) ahead) (left_misses d now low up) (sym (same_cycle d now low up))),
    )

-- ---- what is found

-- the line behind the last of an access's lines is none of them
behind_all : (d : Desc) (now : Around) (low : ℕ) (up : Option ℕ) → OneOrTwo low up → NeitherIs (line_behind d (looked d now low up)) low up
behind_all d now _ _ (One line) = let f = line_found d now line in λ q. omega (arith, q, f, d.stands.line.0)
behind_all d now _ _ (Two low high l) =
    let f = line_found d now high in
    (λ q. omega (arith, q, l, f, d.stands.line.0), λ q. omega (arith, q, f, d.stands.line.0))

module _ (d : Desc) (now : Around) (low : ℕ) (up : Option ℕ) (are : OneOrTwo low up) where
  abbrev t : InTurn
  t = in_turn d now low up

  abbrev found : Lines
  found = looked d now low up

  found_alike : t.found ≡ found
  found_alike = same_found d now low up are

  registers_left : length t.left.misses ≡ length now.misses + length (requests found)
  registers_left =
      let left = left_misses d now low up in
      let both = length-append now.misses (map (register d now.cycle) (requests t.found)) in
      let new = length-map (requests t.found) (register d now.cycle) in
      ap (λ (ms : List Miss). length ms) (sym left) ∙ (both ∙ ap (λ (k : ℕ). length now.misses + k) (new ∙ ap (λ (ls : Lines). length (requests ls)) found_alike))

  ahead_alike : prefetch_request d now found ≡ ahead_of d t
  ahead_alike =
      let built : Lines → ℕ → Ram → Line → Option Request = λ ls taken ram l.
      if has_prefetch d && nat_lt 0 (length (requests ls)) && nat_lt (line_behind d ls) (ram.base + length ram.bytes) && nat_lt taken d.cache_mshrs then request_by l else None in
      let kept = turns_keep d now low up (line_behind d found) (behind_all d now low up are) in
      let behind = look_up d t.left (line_behind d t.found) in
      sym (ap (λ ls. built ls (length t.left.misses) t.left.ram behind) found_alike
      ∙ ap (λ taken. built found taken t.left.ram behind) registers_left
      ∙ ap₂ (λ ram l. built found (length now.misses + length (requests found)) ram l) (same_ram d now low up) (ap (λ ls. look_up d t.left (line_behind d ls)) found_alike ∙ kept))

  pub access_alike : unless_lacking d now found ≡ access_in_turn d now low up
  access_alike =
      ap₂ (λ (k : ℕ) (answer : Access). if nat_le k d.cache_mshrs then answer else Waits) (sym registers_left)
      (ap₂ (λ (ls : Lines) (ahead : Option Request). Looks ls ahead) (sym found_alike) ahead_alike)

-- the lines of an access come to the same at once as one after the other
pub accesses_in_turn : AccessesGoInTurn
accesses_in_turn d now a n some = access_alike d now (line_of d a) (upper_line d a n) (lines_are d a n some)
