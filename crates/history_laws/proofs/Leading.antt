-- Entries and items that lead to a checkpoint: as one is fetched, renamed or goes on, and as those behind it go.
use Rattle.std.proofs.Common.{◌≡◌, ◌+◌, Bool, true, false, ◌&&◌, List, [], ◌∷◌, ◌++◌, length, refl, ap, ap₂, sym, ◌∙◌, subst, arith}
use Rattle.std.specs.Prelude.{if◌then◌else◌}
use Rattle.std.specs.List.{AllZip}
use Rattle.machine_desc.specs.declared.Desc.{Desc}
use Rattle.window_model.specs.declared.Entry.{Entry}
use Rattle.window_model.specs.declared.Item.{Item}
use Rattle.window_model.specs.declared.Checkpoint.{Checkpoint}
use Rattle.window_model.specs.Rename.{entry_of_item}
use Rattle.window_model.specs.Resolve.{squashes}
use Rattle.history_laws.specs.Left.{Goes, Leads, LeadsOver, after_item, direction}

-- ---- one more item is fetched

items_push : (d : Desc) (from to : Checkpoint) (q : List Item) (ways : List Bool) (i : Item) (way : Bool) → LeadsOver d from q ways to → i.checkpoint ≡ to → Goes i way →
    LeadsOver d from (q ++ i ∷ []) (ways ++ way ∷ []) (after_item d i way)
items_push d from to [] [] i way h m g = (m ∙ h, g, refl)
items_push d from to [] (b ∷ ways) i way h m g = absurd h
items_push d from to (j ∷ q) [] i way h m g = absurd h
items_push d from to (j ∷ q) (b ∷ ways) i way h m g = (h.0, h.1, items_push d (after_item d j b) to q ways i way h.2 m g)

pub leads_push : (d : Desc) (from to : Checkpoint) (w : List Entry) (q : List Item) (ways : List Bool) (i : Item) (way : Bool) → Leads d from w q ways to → i.checkpoint ≡ to → Goes i way →
    Leads d from w (q ++ i ∷ []) (ways ++ way ∷ []) (after_item d i way)
leads_push d from to [] q ways i way h m g = items_push d from to q ways i way h m g
leads_push d from to (e ∷ w) q [] i way h m g = absurd h
leads_push d from to (e ∷ w) q (b ∷ ways) i way h m g = (h.0, h.1, leads_push d (after_item d e.item (direction e b)) to w q ways i way h.2 m g)

-- ---- the oldest item is renamed

pub leads_rename : (d : Desc) (from to : Checkpoint) (w : List Entry) (i : Item) (rest : List Item) (ways : List Bool) (serial : _) → Leads d from w (i ∷ rest) ways to →
    Leads d from (w ++ entry_of_item d serial i ∷ []) rest ways to
leads_rename d from to [] i rest [] serial h = absurd h
leads_rename d from to [] i rest (b ∷ ways) serial h = h
leads_rename d from to (e ∷ w) i rest [] serial h = absurd h
leads_rename d from to (e ∷ w) i rest (b ∷ ways) serial h = (h.0, h.1, leads_rename d (after_item d e.item (direction e b)) to w i rest ways serial h.2)

-- ---- entries go on where they stand

-- an entry goes on as the same item, and counts as it did
pub record GoesOn (e e2 : Entry) : Type 0 where
  pub item : e2.item ≡ e.item
  pub counts : (way : Bool) → direction e2 way ≡ direction e way

pub goes_same : (e : Entry) → GoesOn e e
goes_same e = record { item = refl; counts = λ way. refl }

-- what isn't resolved counts with its predicted direction
by_fresh : (b s way true_way : Bool) → b ≡ false → (if b && s then true_way else way) ≡ way
by_fresh false s way true_way q = refl
by_fresh true s way true_way q = absurd (cc)

fresh_direction : (e : Entry) (way : Bool) → e.resolved ≡ false → direction e way ≡ way
fresh_direction e way q = by_fresh e.resolved (squashes e) way _ q

pub fresh_goes : (e e2 : Entry) → e2.item ≡ e.item → e.resolved ≡ false → e2.resolved ≡ false → GoesOn e e2
fresh_goes e e2 q f f2 = record { item = q; counts = λ way. fresh_direction e2 way f2 ∙ sym (fresh_direction e way f) }

pub leads_on : (d : Desc) (from to : Checkpoint) (w w2 : List Entry) (q : List Item) (ways : List Bool) → AllZip GoesOn w w2 → Leads d from w q ways to → Leads d from w2 q ways to
leads_on d from to [] [] q ways v h = h
leads_on d from to [] (e2 ∷ w2) q ways v h = absurd v
leads_on d from to (e ∷ w) [] q ways v h = absurd v
leads_on d from to (e ∷ w) (e2 ∷ w2) q [] v h = absurd h
leads_on d from to (e ∷ w) (e2 ∷ w2) q (b ∷ ways) v h =
    let rest = leads_on d (after_item d e.item (direction e b)) to w w2 q ways v.1 h.2 in (
      ap (λ (i : Item). i.checkpoint) v.0.item ∙ h.0,
      subst (λ (i : Item). Goes i b) (sym v.0.item) h.1,
      subst (λ m. Leads d m w2 q ways to) (ap₂ (after_item d) (sym v.0.item) (sym (v.0.counts b))) rest,
    )

-- entries that go on behind others lead to where they led
pub leads_behind : (d : Desc) (from to : Checkpoint) (front w w2 : List Entry) (q : List Item) (ways : List Bool) → AllZip GoesOn w w2 → Leads d from (front ++ w) q ways to → Leads d from (front ++ w2) q ways to
leads_behind d from to [] w w2 q ways v h = leads_on d from to w w2 q ways v h
leads_behind d from to (e ∷ front) w w2 q [] v h = absurd h
leads_behind d from to (e ∷ front) w w2 q (b ∷ ways) v h = (h.0, h.1, leads_behind d (after_item d e.item (direction e b)) to front w w2 q ways v h.2)

-- ---- entries go, and so do the directions of what is behind them

-- entries lead to a checkpoint by the first of these directions
pub record LeadsBy (d : Desc) (from : Checkpoint) (w : List Entry) (ways : List Bool) (to : Checkpoint) : Type 0 where
  pub first : List Bool
  pub others : List Bool
  pub whole : ways ≡ first ++ others
  pub leads : Leads d from w [] first to

one_more : (d : Desc) (from to : Checkpoint) (e : Entry) (w : List Entry) (b : Bool) (ways : List Bool) → e.item.checkpoint ≡ from → Goes e.item b → LeadsBy d (after_item d e.item (direction e b)) w ways to →
    LeadsBy d from (e ∷ w) (b ∷ ways) to
one_more d from to e w b ways m g l = record { first = b ∷ l.first; others = l.others; whole = ap (λ ways. b ∷ ways) l.whole; leads = (m, g, l.leads) }

-- an entry and all behind it go: what is left leads to that entry's checkpoint
pub leads_stop : (d : Desc) (from to : Checkpoint) (front ys : List Entry) (e : Entry) (q : List Item) (ways : List Bool) → Leads d from (front ++ e ∷ ys) q ways to → LeadsBy d from front ways e.item.checkpoint
leads_stop d from to [] ys e q [] h = absurd h
leads_stop d from to [] ys e q (b ∷ ways) h = record { first = []; others = b ∷ ways; whole = refl; leads = h.0 }
leads_stop d from to (f ∷ front) ys e q [] h = absurd h
leads_stop d from to (f ∷ front) ys e q (b ∷ ways) h = one_more d from e.item.checkpoint f front b ways h.0 h.1 (leads_stop d (after_item d f.item (direction f b)) to front ys e q ways h.2)

-- where the entries behind one go, what is left leads to the checkpoint behind it; the entry then counts with this
-- direction, whatever was predicted
pub leads_cut : (d : Desc) (from to : Checkpoint) (front ys : List Entry) (e e2 : Entry) (q : List Item) (ways : List Bool) (way : Bool) → e2.item ≡ e.item → ((b : Bool) → direction e2 b ≡ way) →
    Leads d from (front ++ e ∷ ys) q ways to → LeadsBy d from (front ++ e2 ∷ []) ways (after_item d e2.item way)
leads_cut d from to [] ys e e2 q [] way i c h = absurd h
leads_cut d from to [] ys e e2 q (b ∷ ways) way i c h = record {
  first = b ∷ [];
  others = ways;
  whole = refl;
  leads = (ap (λ (i : Item). i.checkpoint) i ∙ h.0, subst (λ (i : Item). Goes i b) (sym i) h.1, ap (after_item d e2.item) (sym (c b)));
}
leads_cut d from to (f ∷ front) ys e e2 q [] way i c h = absurd h
leads_cut d from to (f ∷ front) ys e e2 q (b ∷ ways) way i c h =
    one_more d from (after_item d e2.item way) f (front ++ e2 ∷ []) b ways h.0 h.1 (leads_cut d (after_item d f.item (direction f b)) to front ys e e2 q ways way i c h.2)

-- ---- there are as many directions as entries and items

items_count : (d : Desc) (from to : Checkpoint) (q : List Item) (ways : List Bool) → LeadsOver d from q ways to → length ways ≡ length q
items_count d from to [] [] h = refl
items_count d from to [] (b ∷ ways) h = absurd h
items_count d from to (j ∷ q) [] h = absurd h
items_count d from to (j ∷ q) (b ∷ ways) h = let n = items_count d (after_item d j b) to q ways h.2 in omega (arith, n)

pub leads_count : (d : Desc) (from to : Checkpoint) (w : List Entry) (q : List Item) (ways : List Bool) → Leads d from w q ways to → length ways ≡ length w + length q
leads_count d from to [] q ways h = let n = items_count d from to q ways h in omega (arith, n)
leads_count d from to (e ∷ w) q [] h = absurd h
leads_count d from to (e ∷ w) q (b ∷ ways) h = let n = leads_count d (after_item d e.item (direction e b)) to w q ways h.2 in omega (arith, n)
