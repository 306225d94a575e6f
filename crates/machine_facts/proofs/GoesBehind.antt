-- What a load asks of the older stores is one test in both versions: in version 1 a store has both its parts or none,
-- and no load passes one.
use Rattle.std.proofs.Common.{◌≡◌, ◌≤◌, ℕ, zero, suc, Bool, true, false, not, ◌&&◌, ◌||◌, List, [], ◌∷◌, refl, ap, ap₂, sym, ◌∙◌, arith, eqb-true}
use Rattle.std.specs.Prelude.{if◌then◌else◌, nat_lt, nat_le, ◌==◌}
use Rattle.std.specs.List.{AllByRecursion as Each, list_any}
use Rattle.machine_desc.specs.declared.Desc.{Desc}
use Rattle.window_model.specs.declared.Entry.{Entry}
use Rattle.window_model.specs.declared.Progress.{Progress}
use Rattle.window_model.specs.declared.Progress.TheVariants.{Waiting, Busy, Done}
use Rattle.window_model.specs.Access.{covers}
use Rattle.window_model.specs.Around.{Around}
use Rattle.machine_desc.specs.Questions.{loads_pass}
use Rattle.window_model.specs.Dependence.{waits_for_stores}
use Rattle.window_model.specs.MayIssue.{bytes_of, goes_behind, lets, passes_stores, stores_done, stores_let}
use Rattle.window_model.specs.Order.{has_address, has_data, is_busy, is_done, is_store, is_waiting}
use Rattle.window_model.specs.Taint.{address_tainted}
use Rattle.machine_facts.specs.Sized.{HasParts, Together}
use Rattle.machine_facts.specs.Timely.{WaitsOrDone}

-- ---- version 1 has no bits of dependence

no_bits : (b : Bool) (n more : ℕ) → b ≡ false → n ≤ (if b then more else 0) → n ≡ 0
no_bits true n more q h = absurd (cc)
no_bits false n more q h = omega (arith, h)

no_bit : (n : ℕ) → n ≡ 0 → nat_lt 0 n ≡ false
no_bit zero h = refl
no_bit (suc n) h = absurd (cc)

-- no load passes a store in version 1
pub not_passing : (d : Desc) → d.version ≡ 1 → loads_pass d ≡ false
not_passing d one = no_bit d.predictor_depend (no_bits (nat_le 2 d.version) d.predictor_depend _ (ap (λ v. nat_le 2 v) one) d.stands.depend.1)

-- in version 1 no load passes a store
pub passes_none : (d : Desc) (now : Around) (e : Entry) → d.version ≡ 1 → passes_stores d now e ≡ false
passes_none d now e one = ap (λ p. p && not (waits_for_stores d now.dependence e.item.pc)) (not_passing d one)

-- ---- what a load asks of the older stores

-- a store is Done where its parts are there, if both are or none
done_by : (a c rest : Bool) (s : Progress) → (a && c) ≡ not (is_waiting s) → a ≡ c → is_busy s ≡ false → is_done s ≡ ((a || false) && (c || rest))
done_by true true rest Waiting p t b = absurd (cc)
done_by false c rest Waiting p t b = refl
done_by a c rest (Busy due) p t b = absurd (cc)
done_by true true rest Done p t b = refl
done_by false c rest Done p t b = absurd (cc)
done_by true false rest s p t b = absurd (cc)

store_by : (d : Desc) (bytes : List ℕ) (before : List Entry) (e : Entry) (store : Bool) → is_store e.item.kind ≡ store → d.version ≡ 1 → HasParts e → Together d e → WaitsOrDone e →
    (not store || is_done e.state) ≡ (not store || lets d.stt_model false bytes before e)
store_by d bytes before e false s one p t w = refl
store_by d bytes before e true s one p t w =
    done_by (has_address e) (has_data e) (not (address_tainted d.stt_model before e) && not (list_any (λ a. covers a e) bytes)) e.state (p s) (t one s) (w s)

done_as_let : (d : Desc) (bytes : List ℕ) (before : List Entry) → d.version ≡ 1 → Each HasParts before → Each (Together d) before → Each WaitsOrDone before →
    stores_done before ≡ stores_let d.stt_model false bytes before
done_as_let d bytes [] one p t w = refl
done_as_let d bytes (e ∷ before) one p t w =
    ap₂ (λ a b. a && b) (store_by d bytes before e (is_store e.item.kind) refl one p.0 t.0 w.0) (done_as_let d bytes before one p.1 t.1 w.1)

-- where no store executes, a load goes behind the older stores where they let it go
pub goes_as_let : (d : Desc) (now : Around) (before : List Entry) (e : Entry) → Each HasParts before → Each (Together d) before → Each WaitsOrDone before →
    goes_behind d now before e ≡ stores_let d.stt_model (passes_stores d now e) (bytes_of now before e) before
goes_as_let d now before e p t w = by_version (d.version == 1) refl
  where
    by_version : (one : Bool) → (d.version == 1) ≡ one →
        (if one then stores_done before else stores_let d.stt_model (passes_stores d now e) (bytes_of now before e) before) ≡ stores_let d.stt_model (passes_stores d now e) (bytes_of now before e) before
    by_version true q =
        let one : d.version ≡ 1 = eqb-true _ _ q in
        done_as_let d (bytes_of now before e) before one p t w ∙ ap (λ a. stores_let d.stt_model a (bytes_of now before e) before) (sym (passes_none d now e one))
    by_version false q = refl
