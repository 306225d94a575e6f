-- What the phase leaves of the machine, once it has decided.
use Rattle.std.proofs.Common.{◌≡◌, ℕ, ◌+◌, ◌≤◌, List, length, map, Option, Some, None, refl, ap, sym, subst, ◌∙◌, arith}
use Rattle.std.specs.Option.{option_map}
use Rattle.machine_desc.specs.declared.Desc.{Desc}
use Rattle.window_model.specs.declared.Divider.{Divider}
use Rattle.window_model.specs.declared.Entry.{Entry}
use Rattle.window_model.specs.declared.Miss.{Miss}
use Rattle.window_model.specs.State.{Machine}
use Rattle.window_model.specs.Around.{around}
use Rattle.window_model.specs.Order.{Place, first}
use Rattle.window_model.specs.declared.lookup.Access.{Access}
use Rattle.window_model.specs.Ports.{DivPort, LoadPort, may_at}
use Rattle.window_model.specs.Issue.{access_of, after_load, divider_after, issue, taken_for}
use Rattle.window_model.proofs.Issuing.{by_load}
use Rattle.machine_facts.proofs.Requests.{room_ahead}
use Rattle.issue.specs.Decisions.{division_of, load_of, turns}
use Rattle.issue.specs.Shared.{cache_left, divider_left, misses_left, requests_of_load, second_left}

-- what the access of the load in this place comes to, and the divider with the division in it
abbrev loaded : Desc → Machine → Option Place → Option Access
loaded d x o = option_map (λ p. access_of d (around x) p.before p.entry) o

abbrev divided : Machine → Option Place → Option Divider
divided x o = option_map (λ p. taken_for (around x) p.before p.entry) o

-- the load that is tried leaves both levels of its cache, and its registers
load_is : (d : Desc) (x : Machine) (o : Option Place) →
    after_load d o x ≡ record x { cache = cache_left d (loaded d x o) x.cache; second = second_left d (loaded d x o) x.second; misses = misses_left d x.cycle (loaded d x o) x.misses }
load_is d x None = refl
load_is d x (Some p) = refl

divider_is : (x : Machine) (o : Option Place) → divider_after x o ≡ divider_left (divided x o) x.divider
divider_is x None = refl
divider_is x (Some p) = refl

pub leaves : (d : Desc) (x : Machine) (window : List Entry) (load : Option Access) (cache second : List (List ℕ)) (misses : List Miss) (divider : Divider) →
    window ≡ map (λ b. b.entry) (turns d (around x) x.window) → load ≡ load_of d (around x) x.window →
    cache ≡ cache_left d load x.cache → second ≡ second_left d load x.second → misses ≡ misses_left d x.cycle load x.misses → divider ≡ divider_left (division_of d (around x) x.window) x.divider →
    record x { window = window; cache = cache; second = second; misses = misses; divider = divider } ≡ (issue d x).machine
leaves d x window load cache second misses divider w l c s m n =
    let o = first (may_at d (around x) LoadPort) x.window in
    let o2 = first (may_at d (around x) DivPort) x.window in
    let entries = map (λ b. b.entry) (turns d (around x) x.window) in
    let shared : Machine → Machine = λ y. record y { window = entries; divider = divider_after x o2 } in
    let cache2 = cache_left d (loaded d x o) x.cache in
    let second2 = second_left d (loaded d x o) x.second in
    let misses2 = misses_left d x.cycle (loaded d x o) x.misses in
    let whole = ap shared (load_is d x o) in
    let a : cache ≡ cache2 = c ∙ ap (λ l. cache_left d l x.cache) l in
    let a2 : second ≡ second2 = s ∙ ap (λ l. second_left d l x.second) l in
    let b : misses ≡ misses2 = m ∙ ap (λ l. misses_left d x.cycle l x.misses) l in
    let e : divider ≡ divider_after x o2 = n ∙ sym (divider_is x o2) in
    let left : record x { window = window; cache = cache; second = second; misses = misses; divider = divider }
    ≡ record x { window = entries; cache = cache2; second = second2; misses = misses2; divider = divider_after x o2 } = cc in
    left ∙ sym whole

-- ---- lines take registers only where there are as many

module _ (d : Desc) (x : Machine) (fits : length x.misses ≤ d.cache_mshrs) where
  access_room : (b : List Entry) (e : Entry) → length x.misses + length (requests_of_load (Some (access_of d (around x) b e))) ≤ d.cache_mshrs
  access_room =
      by_load d (around x) (λ a. length x.misses + length (requests_of_load (Some a)) ≤ d.cache_mshrs) (omega (arith, fits)) (λ a n some room. room_ahead d (around x) a n room)
      (λ a n some full. omega (arith, fits)) (λ c. omega (arith, fits))

  room_by : (o : Option Place) → length x.misses + length (requests_of_load (loaded d x o)) ≤ d.cache_mshrs
  room_by None = omega (arith, fits)
  room_by (Some p) = access_room p.before p.entry

  pub has_room : (load : Option Access) → load ≡ load_of d (around x) x.window → length x.misses + length (requests_of_load load) ≤ d.cache_mshrs
  has_room load h = subst (λ l. length x.misses + length (requests_of_load l) ≤ d.cache_mshrs) (sym h) (room_by (first (may_at d (around x) LoadPort) x.window))
