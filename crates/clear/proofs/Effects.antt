-- What the definition leaves of a machine: nothing happens, or a store is cleared, and a load goes with it.
use Rattle.std.proofs.Common.{◌≡◌, ℕ, ◌+◌, Bool, true, false, [], ◌∷◌, length, Option, Some, None, refl, ap, sym, ◌∙◌}
use Rattle.std.specs.Prelude.{if◌then◌else◌}
use Rattle.std.specs.Option.{option_and_then, option_map}
use Rattle.machine_desc.specs.declared.Desc.{Desc}
use Rattle.window_model.specs.declared.Event.TheVariants as event
use Rattle.window_model.specs.Clear.{clear, clear_at, clear_with, clears, may_clear, violated_by, violates}
use Rattle.machine_desc.specs.Questions.{loads_pass}
use Rattle.window_model.specs.Dependence.{bit_index}
use Rattle.window_model.specs.Order.{Place, first}
use Rattle.window_model.specs.Serials.{Rise}
use Rattle.window_model.specs.State.{After, Machine, nothing}
use Rattle.clear.specs.Cleared.{anew, anew_events, cleared_at, clearing, violated_load, with_cleared}
use Rattle.clear.proofs.Places.{Store, below_load, gone}

-- ---- where nothing happens at all

-- where no store may be cleared
no_place : (d : Desc) (x : Machine) (b : Bool) (o : Option Place) → None ≡ option_map (λ (p : Place). p.entry.serial) o → (if b then clear_at d o x else nothing x) ≡ nothing x
no_place d x true None h = refl
no_place d x false None h = refl
no_place d x b (Some p) h = absurd (cc)

pub none_is : (d : Desc) (x : Machine) → None ≡ clearing d x → clear d x ≡ nothing x
none_is d x h = no_place d x (loads_pass d) (first (may_clear d) x.window) h

-- ---- a store is cleared

pub cleared_is : (d : Desc) (x : Machine) (p : Place) → first (may_clear d) x.window ≡ Some p → with_cleared d x ≡ (clears p x).machine
cleared_is d x p h = ap (λ o. cleared_at o x) h

pub violated_is : (d : Desc) (x : Machine) (p : Place) → first (may_clear d) x.window ≡ Some p → violated_load d x ≡ option_map (λ q. q.entry.serial) (violated_by p)
violated_is d x p h = ap (λ o. option_map (λ (q : Place). q.entry.serial) (option_and_then violated_by o)) h

module _ (d : Desc) (x : Machine) (serial : ℕ) (a : loads_pass d ≡ true) (k : Store d x serial) where
  by_load : (o : Option Place) → violated_by k.place ≡ o → clear d x ≡ clear_with d k.place o x
  by_load o v =
      ap (λ b. if b then clear_at d (first (may_clear d) x.window) x else nothing x) a
      ∙ ap (λ o. clear_at d o x) k.is
      ∙ ap (λ o. clear_with d k.place o x) v

  -- with the load that it violates
  pub anew_is : (rises : Rise x.window) (q : Place) → violated_by k.place ≡ Some q →
      clear d x ≡ record { machine = anew d q.entry (with_cleared d x); events = event.Clr serial ∷ anew_events d q.entry (with_cleared d x) }
  anew_is rises q v =
      let y = (clears k.place x).machine in
      let load = q.entry in
      let told : ℕ → ℕ → After = λ n count. record {
        machine = (violates d k.place q x).machine;
        events = event.Clr n ∷ event.Vio load.serial ∷ event.Dp (bit_index d load.item.pc) 1 ∷ event.Sq (count + length x.queue) ∷ [];
      } in
      by_load (Some q) v
      ∙ ap (λ n. told n (length q.younger + 1)) k.named
      ∙ ap (told serial) (sym (gone d x serial k rises q v))
      ∙ ap (λ w. record { machine = record (anew d load y) { window = w }; events = event.Clr serial ∷ anew_events d load y }) (sym (below_load d x serial k rises q v))
      ∙ ap (λ y. record { machine = anew d load y; events = event.Clr serial ∷ anew_events d load y }) (sym (cleared_is d x k.place k.is))
