-- Complete looks at no outcome, whatever is masked.
use Rattle.std.proofs.Common.{◌≡◌, ℕ, Bool, true, false, List, [], ◌∷◌, map, refl, ap, ap₂, sym, ◌∙◌, subst}
use Rattle.std.specs.Prelude.{if◌then◌else◌}
use Rattle.std.specs.List.{filter}
use Rattle.window_model.specs.declared.Entry.{Entry}
use Rattle.window_model.specs.declared.Event.{Event}
use Rattle.window_model.specs.declared.Event.TheVariants as event
use Rattle.window_model.specs.declared.Progress.TheVariants.{Done}
use Rattle.window_model.specs.State.{Machine}
use Rattle.window_model.specs.Fill.{complete, after_completion, completes}
use Rattle.two_runs.specs.Masks.{LeftAlike, Mask, MaskedAlike, without_contents, under_mask}
use Rattle.two_runs.proofs.Choices.{if_both}

module _ {M : Type 0} (mask : M → Mask) (cycle : ℕ) where
  completed_masked : (k : Mask) (c : Bool) (e : Entry) → under_mask k (if c then record e { state = Done } else e) ≡ (if c then record (under_mask k e) { state = Done } else under_mask k e)
  completed_masked k true e = refl
  completed_masked k false e = refl

  windows : (ms : List M) (es es2 : List Entry) → MaskedAlike mask ms es es2 → MaskedAlike mask ms (map (after_completion cycle) es) (map (after_completion cycle) es2)
  windows [] [] [] s = tt
  windows (m ∷ ms) (e ∷ es) (e2 ∷ es2) s =
      (completed_masked (mask m) (completes cycle e) e ∙ ap (after_completion cycle) s.0 ∙ sym (completed_masked (mask m) (completes cycle e2) e2), windows ms es es2 s.1)
  windows _ _ _ s = absurd s

  abbrev done : List Entry → List Event
  done es = map (λ e. event.Done e.serial) es

  done_alike : (ms : List M) (es es2 : List Entry) → MaskedAlike mask ms es es2 → done (filter (completes cycle) es) ≡ done (filter (completes cycle) es2)
  done_alike [] [] [] s = refl
  done_alike (m ∷ ms) (e ∷ es) (e2 ∷ es2) s =
      let more = done_alike ms es es2 s.1 in
      if_both (λ t t2. done t ≡ done t2) (completes cycle e) (completes cycle e2) _ _ _ _ (ap (completes cycle) s.0)
      (λ h. ap₂ (λ n evs. event.Done n ∷ evs) (ap (λ (t : Entry). t.serial) s.0) more) (λ h. more)
  done_alike _ _ _ s = absurd s

-- Complete leaves alike what is alike under masks, whatever they are
pub complete_alike : {M : Type 0} (mask : M → Mask) (ms : List M) (x x2 : Machine) → without_contents x ≡ without_contents x2 → MaskedAlike mask ms x.window x2.window →
    LeftAlike mask ms (complete x) (complete x2)
complete_alike mask ms x x2 o s =
    let c : x.cycle ≡ x2.cycle = ap (λ (t : Machine). t.cycle) o in
    record {
      events = done_alike mask x.cycle ms x.window x2.window s ∙ ap (λ n. map (λ e. event.Done e.serial) (filter (completes n) x2.window)) c;
      others = o;
      window = subst (λ n. MaskedAlike mask ms (complete x).machine.window (map (after_completion n) x2.window)) c (windows mask x.cycle ms x.window x2.window s);
    }
