-- The window's room, as entries go on, leave and come.
use Rattle.std.proofs.Common.{◌≡◌, ℕ, ◌+◌, ◌≤◌, ◌<◌, Bool, true, false, not, ◌&&◌, ◌||◌, cond, List, [], ◌∷◌, ◌++◌, length, refl, arith, length-append}
use Rattle.std.specs.Prelude.{count_by, if◌then◌else◌, nat_lt}
use Rattle.std.specs.List.{list_any}
use Rattle.rv_types.specs.declared.Kind.{Kind}
use Rattle.rv_types.specs.declared.Kind.TheVariants.{Load, Store, Call}
use Rattle.machine_desc.specs.declared.Desc.{Desc}
use Rattle.window_model.specs.declared.Entry.{Entry}
use Rattle.window_model.specs.declared.Item.{Item}
use Rattle.window_model.specs.declared.Progress.TheVariants.{Waiting, Done}
use Rattle.window_model.specs.Order.{is_load, is_store, is_waiting}
use Rattle.window_model.specs.Rename.{is_call, at_once, fits, fits_as, entry_of_item}
use Rattle.window_model.proofs.Booleans.{both, not_true, below}
use Rattle.window_model.proofs.Counts.{Thins, thins_length, thins_count, count_is, count_pushed, none_counted, of_item, of_waiting}
use Rattle.machine_facts.specs.Sized.{awaits, loads, stores, calls}
use Rattle.machine_facts.proofs.Parts.{WindowFits}

-- ---- a window that has no more of any sort

alone_still : (c2 c n2 n : ℕ) → c2 ≤ c → n2 ≤ n → (1 ≤ c → n ≤ 1) → 1 ≤ c2 → n2 ≤ 1
alone_still c2 c n2 n h k f g = let e = f (omega arith) in omega arith

-- a window with no more entries of any sort than one that fits fits as well
pub thinner : (d : Desc) (w w2 : List Entry) → Thins w2 w → WindowFits d w → WindowFits d w2
thinner d w w2 t h =
    let n = thins_length w2 w t in
    let a = thins_count loads w2 w (of_item (λ i. is_load i.kind)) t in
    let b = thins_count stores w2 w (of_item (λ i. is_store i.kind)) t in
    let c = thins_count awaits w2 w of_waiting t in
    let e = thins_count calls w2 w (of_item (λ i. is_call i.kind)) t in
    record {
      entries = omega (arith, n, h.entries);
      loads_fit = omega (arith, a, h.loads_fit);
      stores_fit = omega (arith, b, h.stores_fit);
      waiting_fit = omega (arith, c, h.waiting_fit);
      call_alone = alone_still (count_by calls w2) (count_by calls w) (length w2) (length w) e n h.call_alone;
    }

-- ---- a window with one entry more

load_room : (k : Kind) (d : Desc) (w : List Entry) → fits_as k d w ≡ true → count_by loads w ≤ d.core_loads → count_by loads w + cond (is_load k) 1 0 ≤ d.core_loads
load_room Load d w h s = let b = below (count_by loads w) d.core_loads h in omega arith
load_room _ d w h s = omega arith

store_room : (k : Kind) (d : Desc) (w : List Entry) → fits_as k d w ≡ true → count_by stores w ≤ d.core_stores → count_by stores w + cond (is_store k) 1 0 ≤ d.core_stores
store_room Store d w h s = let b = below (count_by stores w) d.core_stores h in omega arith
store_room _ d w h s = omega arith

call_room : (k : Kind) (d : Desc) (w : List Entry) → fits_as k d w ≡ true → 1 ≤ cond (is_call k) 1 0 → length w ≡ 0
call_room Call d [] h c = refl
call_room Call d (e ∷ es) h c = absurd (cc)
call_room _ d w h c = absurd (omega arith)

station_room : (b r : Bool) (n m : ℕ) → (b || r) ≡ true → (r ≡ true → n < m) → n ≤ m → n + cond (is_waiting (if b then Done else Waiting)) 1 0 ≤ m
station_room true r n m h k s = omega arith
station_room false r n m h k s = let l = k h in omega arith

-- where there is room for an item, the window fits the description with its entry
pub renamed_fits : (d : Desc) (w : List Entry) (i : Item) (serial : ℕ) → fits d w i ≡ true → WindowFits d w → WindowFits d (w ++ entry_of_item d serial i ∷ [])
renamed_fits d w i serial f h =
    let new = entry_of_item d serial i in
    let f1 = both (nat_lt (length w) d.core_rob && not (list_any calls w) && fits_as i.kind d w) _ f in
    let f2 = both (nat_lt (length w) d.core_rob && not (list_any calls w)) _ f1.0 in
    let f3 = both (nat_lt (length w) d.core_rob) _ f2.0 in
    let n = length-append w (new ∷ []) in
    record {
      entries = let b = below (length w) d.core_rob f3.0 in omega arith;
      loads_fit = let p = count_pushed loads w new in let k = load_room i.kind d w f2.1 h.loads_fit in omega arith;
      stores_fit = let p = count_pushed stores w new in let k = store_room i.kind d w f2.1 h.stores_fit in omega arith;
      waiting_fit = let p = count_pushed awaits w new in
          let k = station_room (at_once i.kind) (nat_lt (count_by awaits w) d.core_stations) (count_by awaits w) d.core_stations f1.1 (below (count_by awaits w) d.core_stations) h.waiting_fit in omega arith;
      call_alone = λ c.
          let p = count_pushed calls w new in
          let z = none_counted calls w (not_true _ f3.1) in
          let z2 = count_is calls w in
          let one : 1 ≤ cond (is_call i.kind) 1 0 = omega arith in
          let k = call_room i.kind d w f2.1 one in omega arith;
    }
