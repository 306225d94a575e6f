-- Fetching item by item: what is left makes the whole, whatever else the machine holds.
use Rattle.std.proofs.Common.{◌≡◌, ℕ, zero, suc, ◌+◌, ◌-◌, ◌<◌, ◌≤◌, Bool, true, false, List, [], ◌∷◌, ◌++◌, length, Option, Some, None, refl, ap, ap₂, sym, ◌∙◌, arith}
use Rattle.std.specs.Prelude.{if◌then◌else◌, nat_lt}
use Rattle.std.proofs.lemmas.List.{append-nil, append_assoc, length-append}
use Rattle.rv_types.specs.Memory.{Code}
use Rattle.machine_desc.specs.declared.Desc.{Desc}
use Rattle.window_model.specs.declared.Event.{Event}
use Rattle.window_model.specs.declared.Event.TheVariants as event
use Rattle.window_model.specs.declared.Item.{Item}
use Rattle.window_model.specs.State.{Machine, After, then_does, nothing}
use Rattle.window_model.specs.Row.{Row}
use Rattle.window_model.specs.Fetch.{fetch, fetch_up_to, fetch_from, fetch_one, guess, item_at}
use Rattle.window_model.specs.History.{checkpoint_after}
use Rattle.predictor.specs.Tables.{Tables}
use Rattle.history_pred.specs.Past as histories
use Rattle.history_pred.specs.Past.{Past}
use Rattle.fetch_unit.specs.Unit.{FetchUnit, InEach, Predicts, with_unit, fetches, next_fetch, predicting}

-- the events so far, before those of what follows
abbrev pub behind : List Event → After → After
behind es a = record { machine = a.machine; events = es ++ a.events }

-- the front, after this item has come
abbrev pub with_item : FetchUnit → Item → FetchUnit
with_item f item = record f { queue = f.queue ++ item ∷ []; fetch_pc = item.predicted }

-- at most n items more make the whole phase, and sizes stay
pub record FetchesOn (code : Code) (t : Tables) (first : FetchUnit) (past : Past) (row : Row) (n : ℕ) (f : FetchUnit) (p : Past) (now : Row) : Type 0 where
  pub whole : InEach first t past (λ d. (x : Machine) → behind now.events (fetch_up_to d code n (with_unit f t p x)) ≡ behind row.events (fetches d code first t past x))
  pub width : f.width ≡ first.width
  pub room : f.room ≡ first.room
  pub counters : p.counters ≡ past.counters
  pub directions : p.directions ≡ past.directions
  pub returns : p.returns ≡ past.returns
  pub cycle : now.cycle ≡ row.cycle
  pub few : length now.events + n ≤ length row.events + first.width

pub fetches_start : (code : Code) (t : Tables) (f : FetchUnit) (p : Past) (row : Row) → FetchesOn code t f p row (f.width - 0) f p row
unfolding fetch
fetches_start code t f p row =
    let e : f.width - 0 ≡ f.width = omega arith in
    record {
      whole = λ d s x. ap (λ n. behind row.events (fetch_up_to d code n (with_unit f t p x))) (e ∙ s.width);
      width = refl;
      room = refl;
      counters = refl;
      directions = refl;
      returns = refl;
      cycle = refl;
      few = omega arith;
    }

-- ---- one item that is fetched

by_room : (b : Bool) (o : Option ℕ) (pc : ℕ) → (if b then o else None) ≡ Some pc → (b ≡ true) × (o ≡ Some pc)
by_room true o pc h = (refl, h)
by_room false o pc h = absurd (cc)

one_more : (d : Desc) (code : Code) (n : ℕ) (x : Machine) (pc : ℕ) → nat_lt (length x.queue) d.core_queue ≡ true → x.fetch_pc ≡ Some pc →
    fetch_up_to d code (suc n) x ≡ then_does (fetch_one d (item_at d code x pc) x) (fetch_up_to d code n)
one_more d code n x pc r p =
    ap (λ o. fetch_from d code o x (fetch_up_to d code n)) p
    ∙ ap (λ b. if b then then_does (fetch_one d (item_at d code x pc) x) (fetch_up_to d code n) else nothing x) r

one_behind : (d : Desc) (code : Code) (n : ℕ) (x : Machine) (pc : ℕ) (es : List Event) → nat_lt (length x.queue) d.core_queue ≡ true → x.fetch_pc ≡ Some pc →
    behind (es ++ event.Fet pc ∷ []) (fetch_up_to d code n (fetch_one d (item_at d code x pc) x).machine) ≡ behind es (fetch_up_to d code (suc n) x)
one_behind d code n x pc es r p =
    let a = fetch_up_to d code n (fetch_one d (item_at d code x pc) x).machine in
    ap (λ es. record { machine = a.machine; events = es }) (append_assoc es (event.Fet pc ∷ []) a.events) ∙ sym (ap (behind es) (one_more d code n x pc r p))

-- history and stack after an item that goes this way
abbrev pub followed : Desc → Past → Item → Bool → Past
followed d p item way = record p { checkpoint = checkpoint_after item.kind d item.pc item.instr way p.checkpoint }

-- the history has the sizes that it had at first
still : (code : Code) (t : Tables) (first : FetchUnit) (past : Past) (row : Row) (n : ℕ) (f : FetchUnit) (p : Past) (now : Row) (d : Desc) → FetchesOn code t first past row n f p now → Predicts t past d → Predicts t p d
still code t first past row n f p now d o s = record {
  counters = o.counters ∙ s.counters;
  directions = o.directions ∙ s.directions;
  returns = o.returns ∙ s.returns;
  targets = s.targets;
}

pub fetches_more : (code : Code) (t : Tables) (first : FetchUnit) (past : Past) (row : Row) (i : ℕ) (f : FetchUnit) (p : Past) (now : Row) (pc : ℕ) (item : Item) (way : Bool) (f2 : FetchUnit) (p2 : Past) (now2 : Row) →
    FetchesOn code t first past row (first.width - i) f p now → i < first.width → next_fetch f ≡ Some pc →
    ((d : Desc) → Predicts t p d → (x : Machine) → item ≡ item_at d code (predicting t p x) pc) → ((d : Desc) → Predicts t p d → way ≡ guess item.kind d t.counters p.checkpoint pc) →
    f2 ≡ with_item f item → histories.InEach p (λ d. p2 ≡ followed d p item way) → p2 ≡ record p { checkpoint = p2.checkpoint } → now2 ≡ record now { events = now.events ++ event.Fet pc ∷ [] } →
    FetchesOn code t first past row (first.width - (i + 1)) f2 p2 now2
fetches_more code t first past row i f p now pc item way f2 p2 now2 o lt q comes guessed e follows same r =
    let k = first.width - (i + 1) in
    let n : first.width - i ≡ suc k = omega (arith, lt) in
    let a = by_room (nat_lt (length f.queue) f.room) f.fetch_pc pc q in
    let es : now2.events ≡ now.events ++ event.Fet pc ∷ [] = ap (λ (r : Row). r.events) r in
    record {
      whole = λ d s x.
          let y = with_unit f t p x in
          let here = still code t first past row (first.width - i) f p now d o s.predicts in
          let room : nat_lt (length f.queue) d.core_queue ≡ true = ap (nat_lt (length f.queue)) (sym s.room ∙ sym o.room) ∙ a.0 in
          let after : Item → Past = λ i. record p { checkpoint = checkpoint_after i.kind d i.pc i.instr (guess i.kind d t.counters p.checkpoint pc) p.checkpoint } in
          let own : item ≡ item_at d code y pc = comes d here x in
          let gone : p2 ≡ after (item_at d code y pc) = follows d here.counters here.directions here.returns ∙ ap (followed d p item) (guessed d here) ∙ ap after own in
          ap (λ es. behind es (fetch_up_to d code k (with_unit f2 t p2 x))) es
          ∙ ap₂ (λ f p. behind (now.events ++ event.Fet pc ∷ []) (fetch_up_to d code k (with_unit f t p x))) (e ∙ ap (with_item f) own) gone
          ∙ one_behind d code k y pc now.events room a.1
          ∙ ap (λ n. behind now.events (fetch_up_to d code n y)) (sym n)
          ∙ o.whole d s x;
      width = ap (λ (f : FetchUnit). f.width) e ∙ o.width;
      room = ap (λ (f : FetchUnit). f.room) e ∙ o.room;
      counters = ap (λ (p : Past). p.counters) same ∙ o.counters;
      directions = ap (λ (p : Past). p.directions) same ∙ o.directions;
      returns = ap (λ (p : Past). p.returns) same ∙ o.returns;
      cycle = ap (λ (r : Row). r.cycle) r ∙ o.cycle;
      few = (let l = ap length es in let l2 = length-append now.events (event.Fet pc ∷ []) in omega (arith, l, l2, o.few, n));
    }

-- ---- when no item more comes

no_more : (d : Desc) (code : Code) (n : ℕ) (x : Machine) (o : Option ℕ) (b : Bool) → x.fetch_pc ≡ o → nat_lt (length x.queue) d.core_queue ≡ b → (if b then o else None) ≡ None →
    fetch_up_to d code n x ≡ nothing x
no_more d code zero x o b p r h = refl
no_more d code (suc n) x None b p r h = ap (λ o. fetch_from d code o x (fetch_up_to d code n)) p
no_more d code (suc n) x (Some pc) true p r h = absurd (cc)
no_more d code (suc n) x (Some pc) false p r h =
    ap (λ o. fetch_from d code o x (fetch_up_to d code n)) p
    ∙ ap (λ b. if b then then_does (fetch_one d (item_at d code x pc) x) (fetch_up_to d code n) else nothing x) r

-- nothing is left to fetch, and sizes are as they were
pub record Over (code : Code) (t : Tables) (first : FetchUnit) (past : Past) (begun : Row) (f : FetchUnit) (p : Past) (now : Row) : Type 0 where
  pub machine : InEach first t past (λ d. (x : Machine) → with_unit f t p x ≡ (fetches d code first t past x).machine)
  pub row : InEach first t past (λ d. (x : Machine) → now ≡ record begun { events = begun.events ++ (fetches d code first t past x).events })
  pub sizes : f ≡ record first { queue = f.queue; fetch_pc = f.fetch_pc }
  pub history_sizes : p ≡ record past { checkpoint = p.checkpoint }
  pub few : length now.events ≤ length begun.events + first.width

over : (code : Code) (t : Tables) (first : FetchUnit) (past : Past) (row : Row) (n : ℕ) (f : FetchUnit) (p : Past) (now : Row) →
    InEach first t past (λ d. (x : Machine) → fetch_up_to d code n (with_unit f t p x) ≡ nothing (with_unit f t p x)) → FetchesOn code t first past row n f p now → Over code t first past row f p now
over code t first past row n f p now h o =
    let both : InEach first t past (λ d. (x : Machine) → record { machine = with_unit f t p x; events = now.events } ≡ behind row.events (fetches d code first t past x)) =
    λ d s x. ap (λ es. record { machine = with_unit f t p x; events = es }) (sym (append-nil now.events)) ∙ sym (ap (behind now.events) (h d s x)) ∙ o.whole d s x in
    record {
      machine = λ d s x. ap (λ (a : After). a.machine) (both d s x);
      row = λ d s x. ap (λ c. record { cycle = c; events = now.events }) o.cycle ∙ ap (λ (a : After). record { cycle = row.cycle; events = a.events }) (both d s x);
      sizes = ap₂ (λ w r. record f { width = w; room = r }) o.width o.room;
      history_sizes = ap (λ n. record p { counters = n }) o.counters ∙ ap₂ (λ m k. record p { counters = past.counters; directions = m; returns = k }) o.directions o.returns;
      few = omega (arith, o.few);
    }

pub over_early : (code : Code) (t : Tables) (first : FetchUnit) (past : Past) (row : Row) (n : ℕ) (f : FetchUnit) (p : Past) (now : Row) → FetchesOn code t first past row n f p now → next_fetch f ≡ None → Over code t first past row f p now
over_early code t first past row n f p now o q =
    over code t first past row n f p now
    (λ d s x. no_more d code n (with_unit f t p x) f.fetch_pc (nat_lt (length f.queue) f.room) refl (ap (nat_lt (length f.queue)) (sym s.room ∙ sym o.room)) q) o
