-- What every state of a run keeps: serials rise with age.
use Rattle.std.proofs.Common.{◌≡◌, ℕ, suc, ◌≤◌, ◌<◌, List, [], ◌∷◌, arith, sym, subst}
use Rattle.std.proofs.lemmas.List.Elements.{All-cons, All-nil, All-weaker}
use Rattle.std.specs.List.{All}
use Rattle.rv_types.specs.Memory.{Code, Ram}
use Rattle.machine_desc.specs.declared.Desc.{Desc}
use Rattle.machine_desc.proofs.EveryDesc.{every_desc}
use Rattle.window_model.specs.declared.Entry.{Entry}
use Rattle.window_model.specs.Cycle.{Cycled, cycle}
use Rattle.window_model.specs.Serials.{Rise}
use Rattle.window_model.specs.State.{Machine, opening}
use Rattle.window_model.proofs.Serials.{rise_cons, rise_nil}
use Rattle.machine_facts.specs.Timely.{Rises}
use Rattle.machine_facts.proofs.SizedPhases.{sized_opening}
use Rattle.machine_facts.proofs.SizedRun.{sized_cycle}
use Rattle.machine_facts.proofs.TimelyPhases.{timely_opening}
use Rattle.machine_facts.proofs.TimelyRun.{timely_cycle}
use Rattle.stats_top.specs.inner.Counting.{Sound}

-- serials that rise from a number on are no lower than it
none_lower : (low next : ℕ) (w : List Entry) → Rises low w next → All (λ e. low ≤ e.serial) w
none_lower low next [] h = All-nil (λ e. low ≤ e.serial)
none_lower low next (e ∷ w) h =
    All-cons (λ d. low ≤ d.serial) e w h.0 (let le = h.0 in All-weaker (λ d. suc e.serial ≤ d.serial) (λ d. low ≤ d.serial) (λ d lt. omega (arith, le, lt)) w (none_lower (suc e.serial) next w h.1))

-- they rise with age
rise_all : (low next : ℕ) (w : List Entry) → Rises low w next → Rise w
rise_all low next [] h = rise_nil
rise_all low next (e ∷ w) h =
    rise_cons e w (All-weaker (λ d. suc e.serial ≤ d.serial) (λ d. e.serial < d.serial) (λ d lt. omega (arith, lt)) w (none_lower (suc e.serial) next w h.1)) (rise_all (suc e.serial) next w h.1)

pub sound_rises : (d : Desc) (x : Machine) → Sound d x → Rise x.window
sound_rises d x s = rise_all 0 x.next_serial x.window s.timely.serials

-- a run begins so, and each of its cycles keeps it
pub sound_opening : (d : Desc) (entry : ℕ) (ram : Ram) → Sound d (opening d entry ram)
sound_opening d entry ram = record { sized = sized_opening d entry ram (every_desc d); timely = timely_opening d entry ram (every_desc d) }

sound_cycle : (d : Desc) (code : Code) (x : Machine) → Sound d x → Sound d (cycle d code x).machine
sound_cycle d code x s = record { sized = sized_cycle d code x (every_desc d) s.sized; timely = timely_cycle d code x (every_desc d) s.sized s.timely }

-- so it does where the cycle led to y
pub sound_next : (d : Desc) (code : Code) (x : Machine) (c : Cycled) → c ≡ cycle d code x → Sound d x → Sound d c.machine
sound_next d code x c is s = subst (λ (b : Cycled). Sound d b.machine) (sym is) (sound_cycle d code x s)
