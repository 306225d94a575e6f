-- What each phase makes of an entry stays guarded.
use Rattle.std.proofs.Common.{◌≡◌, ℕ, ◌+◌, Bool, true, false, not, ◌&&◌, List, [], ◌∷◌, ◌++◌, Option, Some, None, refl, ap, sym, ◌∙◌, subst}
use Rattle.std.specs.Prelude.{if◌then◌else◌, is_some}
use Rattle.rv_types.specs.Isa.{Effect}
use Rattle.rv_types.specs.declared.Kind.{Kind}
use Rattle.rv_types.specs.declared.Kind.TheVariants.{Store}
use Rattle.machine_desc.specs.declared.Desc.{Desc}
use Rattle.window_model.specs.declared.Entry.{Entry}
use Rattle.window_model.specs.declared.Item.{Item}
use Rattle.machine_desc.specs.declared.SttModel.{SttModel}
use Rattle.machine_desc.specs.declared.SttModel.TheVariants.{Spectre, Futuristic, Off}
use Rattle.window_model.specs.declared.Progress.{Progress}
use Rattle.window_model.specs.declared.Progress.TheVariants.{Waiting, Done}
use Rattle.window_model.specs.Around.{Around}
use Rattle.window_model.specs.Order.{base_of, has_address, has_data, is_done, is_faulty, is_load, is_store, is_waiting, sources}
use Rattle.window_model.specs.Taint.{permits, safe_as, settled_as, tainted, any_tainted, address_tainted}
use Rattle.window_model.specs.Fill.{after_completion, completes}
use Rattle.window_model.specs.MayIssue.{effect_of}
use Rattle.window_model.specs.Issue.{issue_entry, executing_until, busy_until_both, is_division, with_address, with_data}
use Rattle.window_model.specs.Rename.{at_once, entry_of_item}
use Rattle.window_model.specs.Cycle.{cycle}
use Rattle.window_model.specs.Along.{Along}
use Rattle.window_model.proofs.Booleans.{and_no, both, completes_waits, done_waits, waiting_done}
use Rattle.window_model.specs.Clear.{cleared_one}
use Rattle.window_model.proofs.Permitting.{permits_begun, permits_cleared, permits_done, permits_resolved}
use Rattle.committed_state.specs.Guarded.{IsGuarded, AllGuarded}
use Rattle.committed_state.proofs.Clears.{Clears, AllClear, clears_same, any_not, clean_then, clean_rest}
use Rattle.window_model.proofs.EntryByEntry.{along_push, along_drops, place_on}
use Rattle.window_model.proofs.Issuing.{Begins, Comes, MayIssue, Remains, begin_comes, both_goes, by_issue, division_clean, gone_parts, load_clean}
use Rattle.window_model.proofs.Resolving.{resolved_one}

module _ (model : SttModel) where
  abbrev G : List Entry → Entry → Type 0
  G = IsGuarded model

  pub guarded_on : (b b2 : List Entry) (e : Entry) → AllClear b b2 → G b e → G b2 e
  guarded_on b b2 e v h = record {
    load = λ i l. any_not (tainted model b) (tainted model b2) (clean_then model b b2 v) (base_of (sources e)) (h.load i l);
    division = λ i l. any_not (tainted model b) (tainted model b2) (clean_then model b b2 v) (sources e) (h.division i l);
    fresh = h.fresh;
    whole = h.whole;
  }

  rest_on : (head : Entry) (b : List Entry) (e : Entry) → G (b ++ head ∷ []) e → G b e
  rest_on head b e h =
      let clean = any_not (tainted model (b ++ head ∷ [])) (tainted model b) (clean_rest model b head) in
      record { load = λ i l. clean (base_of (sources e)) (h.load i l); division = λ i l. clean (sources e) (h.division i l); fresh = h.fresh; whole = h.whole }

  -- the window stays guarded as the oldest entry leaves
  pub guarded_drops : (e : Entry) (rest : List Entry) → AllGuarded model (e ∷ rest) → AllGuarded model rest
  guarded_drops e rest h = along_drops G G e (rest_on e) [] rest h.1

  -- the window stays guarded as a new entry comes
  pub guarded_new : (d : Desc) (b w : List Entry) (serial : ℕ) (i : Item) → Along G b w → Along G b (w ++ entry_of_item d serial i ∷ [])
  guarded_new d b w serial i k = along_push G b w (entry_of_item d serial i) k (record { load = λ q l. absurd (cc); division = λ q l. absurd (cc); fresh = λ q. refl; whole = λ q t. absurd (store_waits i.kind t q) })
    where
      store_waits : (k : Kind) → is_store k ≡ true → is_waiting (if at_once k then Done else Waiting) ≡ false → ⊥
      store_waits Store t q = absurd (cc)
      store_waits _ t q = absurd (cc)

  -- ---- what the phase Complete keeps

  pub guarded_completed : (cycle : ℕ) (b : List Entry) (e : Entry) → G b e → G b (after_completion cycle e) × Clears e (after_completion cycle e)
  guarded_completed cycle b e h = by_due (completes cycle e) refl
    where
      by_due : (c : Bool) → completes cycle e ≡ c → let r = (if c then record e { state = Done } else e) in G b r × Clears e r
      by_due true q = (record { load = h.load; division = h.division; fresh = λ q. absurd (cc); whole = λ w t. h.whole (completes_waits e.state cycle q) t }, record { item = refl; still = λ m. permits_done m e })
      by_due false q = (h, clears_same e)

  -- ---- what the phase Issue keeps

  -- an entry that begins had what it asks for, and is no longer waiting
  begins : (d : Desc) (now : Around) (b : List Entry) (e r : Entry) → d.stt_model ≡ model → G b e → is_store e.item.kind ≡ false → MayIssue d now b e → Comes e r → G b r × Clears e r
  begins d now b e r q h n m (Remains s) = subst (λ r. G b r × Clears e r) (sym s) (h, clears_same e)
  begins d now b e r q h n m (Begins cycle due o s) =
      let g : G b (executing_until cycle e due o) = record {
        load = λ i l. subst (λ t. address_tainted t b e ≡ false) q (load_clean e.item.kind d now b e m.kind l);
        division = λ i l. subst (λ t. any_tainted t b e ≡ false) q (division_clean e.item.kind d now b e m.kind l);
        fresh = λ z. absurd (cc);
        whole = λ w t. absurd (cc);
      } in
      let c : Clears e (executing_until cycle e due o) = record { item = refl; still = λ t p. permits_begun t e cycle due o m.waits (h.fresh m.waits) ∙ p } in
      subst (λ r. G b r × Clears e r) (sym s) (g, c)

  -- a store has both its parts once it executes, and waits until then
  whole_or : (a c : Option ℕ) (t : Progress) → (is_waiting t ≡ false → (is_some a && is_some c) ≡ true) → is_waiting (busy_until_both a c t) ≡ false → (is_some a && is_some c) ≡ true
  whole_or (Some a) (Some c) t h q = refl
  whole_or (Some a) None t h q = h q
  whole_or None c t h q = h q

  no_load : (k : Kind) → is_store k ≡ true → is_load k ≡ true → ⊥
  no_load Store t l = absurd (cc)
  no_load _ t l = absurd (cc)

  no_division : (k : Kind) → is_store k ≡ true → is_division k ≡ true → ⊥
  no_division Store t l = absurd (cc)
  no_division _ t l = absurd (cc)

  safe_done : (k : Kind) (e : Entry) → is_store k ≡ true → safe_as k e ≡ true → is_done e.state ≡ true
  safe_done Store e t h = (both (is_done e.state) _ (both (is_done e.state && not (is_faulty e)) _ h).0).0
  safe_done _ e t h = absurd (cc)

  -- a store that lacks a part isn't Done: as one issues, it lets younger entries be visible where it did before
  part_clears : (b : List Entry) (e r : Entry) → is_store e.item.kind ≡ true → G b e → (has_address e && has_data e) ≡ false → r.item ≡ e.item → r.resolved ≡ e.resolved → r.cleared ≡ e.cleared → Clears e r
  part_clears b e r t h n item same marked = record { item = item; still = still }
    where
      still : (m : SttModel) → permits m e ≡ true → permits m r ≡ true
      still Spectre p = ap (λ i. settled_as i.kind r.resolved r.cleared) item ∙ ap (λ u. settled_as e.item.kind u r.cleared) same ∙ ap (settled_as e.item.kind e.resolved) marked ∙ p
      still Futuristic p = absurd (let w = h.whole (done_waits e.state (safe_done e.item.kind e t p)) t in cc)
      still Off p = refl

  -- a store stays guarded as its address part issues
  address_goes : (now : Around) (f : Effect) (b : List Entry) (e : Entry) → is_store e.item.kind ≡ true → G b e → has_address e ≡ false → G b (with_address now f e) × Clears e (with_address now f e)
  address_goes now f b e t h n =
      let due = Some (now.cycle + 1) in (
        record {
          load = λ i l. absurd (no_load e.item.kind t l);
          division = λ i l. absurd (no_division e.item.kind t l);
          fresh = λ w. h.fresh (both_goes due e.data_due e.state w);
          whole = λ w q. whole_or due e.data_due e.state (λ z. (both (has_address e) _ (h.whole z t)).1) w;
        },
        part_clears b e (with_address now f e) t h (ap (λ a. a && has_data e) n) refl refl refl,
      )

  -- a store stays guarded as its data part issues
  data_goes : (now : Around) (f : Effect) (b : List Entry) (e : Entry) → is_store e.item.kind ≡ true → G b e → has_data e ≡ false → G b (with_data now f e) × Clears e (with_data now f e)
  data_goes now f b e t h n =
      let due = Some (now.cycle + 1) in (
        record {
          load = λ i l. absurd (no_load e.item.kind t l);
          division = λ i l. absurd (no_division e.item.kind t l);
          fresh = λ w. h.fresh (both_goes e.addr_due due e.state w);
          whole = λ w q. whole_or e.addr_due due e.state (λ z. ap (λ a. a && true) (both (has_address e) _ (h.whole z t)).0) w;
        },
        part_clears b e (with_data now f e) t h (and_no (has_address e) (has_data e) n) refl refl refl,
      )

  clears_then : (e e1 e2 : Entry) → Clears e e1 → Clears e1 e2 → Clears e e2
  clears_then e e1 e2 p q = record { item = q.item ∙ p.item; still = λ m h. q.still m (p.still m h) }

  -- a store stays guarded as both its parts issue, one or none
  store_goes : (now : Around) (b : List Entry) (e : Entry) → is_store e.item.kind ≡ true → G b e → (a c : Bool) → (a ≡ true → has_address e ≡ false) → (c ≡ true → has_data e ≡ false) → G b (gone_parts now b a c e) × Clears e (gone_parts now b a c e)
  store_goes now b e t h false false ga gc = (h, clears_same e)
  store_goes now b e t h true false ga gc = address_goes now (effect_of now.regs b e) b e t h (ga refl)
  store_goes now b e t h false true ga gc = data_goes now (effect_of now.regs b e) b e t h (gc refl)
  store_goes now b e t h true true ga gc =
      let f = effect_of now.regs b e in
      let r = with_address now f e in
      let p = address_goes now f b e t h (ga refl) in
      let q = data_goes now f b r t p.0 (gc refl) in
      (q.0, clears_then e r (with_data now f r) p.1 q.1)

  pub guarded_issued : (d : Desc) (now : Around) → d.stt_model ≡ model → (b : List Entry) (e : Entry) → G b e → G b (issue_entry d now b e).entry × Clears e (issue_entry d now b e).entry
  guarded_issued d now q b e h =
      by_issue d now b e (λ r. G b r × Clears e r) (h, clears_same e) (λ n m. begins d now b e _ q h n m (begin_comes e.item.kind d now b e))
      (λ t a c ga gc. store_goes now b e t h a c (λ q. (ga q).fresh) (λ q. (gc q).fresh))

  -- ---- what the phase Resolve keeps

  guarded_resolved : (b : List Entry) (e : Entry) → is_done e.state ≡ true → G b e → G b (resolved_one e)
  guarded_resolved b e d h = record { load = h.load; division = h.division; fresh = λ w. absurd (let q = waiting_done e.state w in cc); whole = h.whole }

  pub resolved_on : (older ys : List Entry) (e : Entry) → is_done e.state ≡ true → Along G [] (older ++ e ∷ ys) → Along G [] (older ++ resolved_one e ∷ ys)
  resolved_on older ys e d k =
      let c : Clears e (resolved_one e) = record { item = refl; still = λ m. permits_resolved m e } in
      place_on G Clears clears_same guarded_on e (resolved_one e) c (λ b h. guarded_resolved b e d h) [] older ys k

  -- ---- what the phase Clear keeps

  pub cleared_on : (older ys : List Entry) (e : Entry) → Along G [] (older ++ e ∷ ys) → Along G [] (older ++ cleared_one e ∷ ys)
  cleared_on older ys e k =
      let c : Clears e (cleared_one e) = record { item = refl; still = λ m. permits_cleared m e } in
      place_on G Clears clears_same guarded_on e (cleared_one e) c (λ b h. record { load = h.load; division = h.division; fresh = h.fresh; whole = h.whole }) [] older ys k
