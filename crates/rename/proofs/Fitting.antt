-- What fits: by what the parts tell, and what that says of their room.
use Rattle.std.proofs.Common.{◌≡◌, ◌≢◌, ℕ, ◌+◌, ◌<◌, ◌≤◌, Bool, true, false, not, ◌&&◌, ◌||◌, cond, List, [], ◌∷◌, length, Option, Some, None, refl, ap, ap₂, sym, ◌∙◌, subst, arith}
use Rattle.std.specs.Prelude.{if◌then◌else◌, count_by, nat_lt, slice_get}
use Rattle.std.specs.List.{list_any}
use Rattle.std.specs.Option.{option_map}
use Rattle.rv_types.specs.declared.Kind.{Kind}
use Rattle.rv_types.specs.declared.Kind.TheVariants.{Load, Store}
use Rattle.machine_desc.specs.declared.Desc.{Desc}
use Rattle.window_model.specs.declared.Entry.{Entry}
use Rattle.window_model.specs.declared.Item.{Item}
use Rattle.window_model.specs.Order.{is_load, is_store, is_waiting}
use Rattle.window_model.specs.Rename.{at_once, fits, fits_as, CallAlone, calls}
use Rattle.window_model.proofs.Booleans.{both, neither, not_true, below}
use Rattle.window_model.proofs.Counts.{count, count_is}
use Rattle.lsq.specs.Queues.{Queues}
use Rattle.queue_laws.specs.Window.{StandFor}
use Rattle.queue_laws.proofs.Keeping.{room_is}
use Rattle.rename.specs.Fitting.{fitting}

-- ---- a call stands alone

some_if : (a b : Bool) (n : ℕ) → (a || b) ≡ true → (b ≡ true → 1 ≤ n) → 1 ≤ cond a 1 0 + n
some_if true b n h k = omega arith
some_if false b n h k = let e = k h in omega arith

some_counted : (t : Entry → Bool) (es : List Entry) → list_any t es ≡ true → 1 ≤ count t es
some_counted t [] h = absurd (cc)
some_counted t (e ∷ es) h = some_if (t e) (list_any t es) (count t es) h (some_counted t es)

-- among two or more entries there is none
no_call : (w : List Entry) (b : Bool) → list_any calls w ≡ b → CallAlone w → 2 ≤ length w → b ≡ false
no_call w false h a two = refl
no_call w true h a two =
    let s = some_counted calls w h in
    let c = count_is calls w in
    let one : length w ≤ 1 = a (omega (arith, s, c)) in
    absurd (omega (arith, one, two))

or_false : (b : Bool) → b ≡ (b || false)
or_false true = refl
or_false false = refl

pub call_is_oldest : (w : List Entry) (e : Entry) → CallAlone w → slice_get w 0 ≡ Some e → calls e ≡ list_any calls w
call_is_oldest [] e a h = absurd (cc)
call_is_oldest (x ∷ []) e a h = let p : e ≡ x = cc in ap calls p ∙ or_false (calls x)
call_is_oldest (x ∷ y ∷ rest) e a h =
    let p : e ≡ x = cc in
    let n : list_any calls (x ∷ y ∷ rest) ≡ false = no_call (x ∷ y ∷ rest) (list_any calls (x ∷ y ∷ rest)) refl a (omega arith) in
    ap calls p ∙ (neither (calls x) (list_any calls (y ∷ rest)) n).0 ∙ sym n

pub none_unless_one : (w : List Entry) → CallAlone w → length w ≢ 1 → false ≡ list_any calls w
none_unless_one [] a h = refl
none_unless_one (x ∷ []) a h = absurd (h refl)
none_unless_one (x ∷ y ∷ rest) a h = sym (no_call (x ∷ y ∷ rest) (list_any calls (x ∷ y ∷ rest)) refl a (omega arith))

-- ---- what the queues count

pub load_fits : (d : Desc) (w : List Entry) (q : Queues) → StandFor q w → q.max_loads ≡ d.core_loads → nat_lt (length q.loads) q.max_loads ≡ fits_as Load d w
load_fits d w q s r = ap₂ nat_lt (room_is q w s).0 r

pub store_fits : (d : Desc) (w : List Entry) (q : Queues) → StandFor q w → q.max_stores ≡ d.core_stores → nat_lt (length q.stores) q.max_stores ≡ fits_as Store d w
store_fits d w q s r = ap₂ nat_lt (room_is q w s).1 r

-- ---- what an item fits into

pub record Fits (d : Desc) (w : List Entry) (item : Item) : Type 0 where
  pub entries : length w < d.core_rob
  pub no_call : list_any calls w ≡ false
  pub kind : fits_as item.kind d w ≡ true
  pub station : (at_once item.kind || nat_lt (count_by (λ e. is_waiting e.state) w) d.core_stations) ≡ true

pub fits_all : (d : Desc) (w : List Entry) (item : Item) → fits d w item ≡ true → Fits d w item
fits_all d w item h =
    let a = both (nat_lt (length w) d.core_rob && not (list_any calls w) && fits_as item.kind d w) _ h in
    let b = both (nat_lt (length w) d.core_rob && not (list_any calls w)) _ a.0 in
    let c = both (nat_lt (length w) d.core_rob) _ b.0 in
    record { entries = below (length w) d.core_rob c.0; no_call = not_true _ c.1; kind = b.1; station = a.1 }

found_if : (b : Bool) (x item : Item) → (if b then Some x else None) ≡ Some item → (x ≡ item) × (b ≡ true)
found_if true x item h = (cc, refl)
found_if false x item h = absurd (cc)

-- the item that was found is the oldest, and fits
pub fitting_is : (d : Desc) (w : List Entry) (o : Option Item) (item : Item) → fitting d w o ≡ Some item → (o ≡ Some item) × (fits d w item ≡ true)
fitting_is d w None item h = absurd (cc)
fitting_is d w (Some x) item h = let p = found_if (fits d w x) x item h in (ap Some p.0, subst (λ x. fits d w x ≡ true) p.0 p.1)

-- the item whose address is told
pub told : (o : Option Item) (pc : ℕ) → option_map (λ (i : Item). i.pc) o ≡ Some pc → (item : Item) × (o ≡ Some item) × (pc ≡ item.pc)
told None pc h = absurd (cc)
told (Some item) pc h = (item, refl, cc)

-- there is no item where no address is told
pub untold : (o : Option Item) → option_map (λ (i : Item). i.pc) o ≡ None → o ≡ None
untold None h = refl
untold (Some item) h = absurd (cc)

-- ---- room for an item that fits

pub station_room : (b : Bool) (m n : ℕ) → (b || nat_lt m n) ≡ true → b ≡ false → m < n
station_room true m n h w = absurd (cc)
station_room false m n h w = below m n h

pub load_room : (k : Kind) (d : Desc) (w : List Entry) → fits_as k d w ≡ true → is_load k ≡ true → count_by (λ e. is_load e.item.kind) w < d.core_loads
load_room Load d w h l = below _ _ h
load_room _ d w h l = absurd (cc)

pub store_room : (k : Kind) (d : Desc) (w : List Entry) → fits_as k d w ≡ true → is_store k ≡ true → count_by (λ e. is_store e.item.kind) w < d.core_stores
store_room Store d w h s = below _ _ h
store_room _ d w h s = absurd (cc)
