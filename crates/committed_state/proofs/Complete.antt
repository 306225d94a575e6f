-- Complete: what becomes done has its outcome. Fill leaves all of this alone.
use Rattle.std.proofs.Common.{◌≡◌, ℕ, Bool, true, false, not, List, [], refl, ap, sym, ◌∙◌, subst}
use Rattle.std.specs.Prelude.{if◌then◌else◌}
use Rattle.rv_types.specs.Memory.{Code}
use Rattle.machine_desc.specs.declared.Desc.{Desc}
use Rattle.window_model.specs.declared.Entry.{Entry}
use Rattle.window_model.specs.declared.Progress.{Progress}
use Rattle.window_model.specs.declared.Progress.TheVariants.{Waiting, Busy, Done}
use Rattle.window_model.specs.State.{Machine}
use Rattle.window_model.specs.Retire.{hart_of}
use Rattle.window_model.specs.Fill.{fill, complete, after_completion, completes_at}
use Rattle.committed_state.specs.Computed.{Bank}
use Rattle.window_model.specs.Along.{Behind}
use Rattle.committed_state.specs.Consistent.{EntryInvariant, Holds, ConsistentIn, FitsClearing, FitsState, bank_in}
use Rattle.machine_desc.specs.Questions.{loads_pass}
use Rattle.committed_state.proofs.Sees.{moves_same}
use Rattle.committed_state.proofs.Kept.{Kept, each_holds}
use Rattle.window_model.proofs.EntryByEntry.{map_is_each}

abbrev done : Entry → Entry
done e = record e { state = Done }

kept_same : (d : Desc) (code : Code) (s : Bank) (now : ℕ) (b : List Entry) (e : Entry) → EntryInvariant d code s now b e → Kept d code s now b e e
kept_same d code s now b e h = record { stands = h; moves = moves_same now e; link = refl }

fits_done : (t : Progress) (e : Entry) (cycle : ℕ) → completes_at cycle t ≡ true → FitsState t e → FitsState Done (done e)
fits_done (Busy due) e cycle c h = (h.0 ∙ sym (ap not h.2), λ r. absurd (let q = h.1 in cc))
fits_done Waiting e cycle c h = absurd (cc)
fits_done Done e cycle c h = absurd (cc)

clearing_done : (p : Bool) (e : Entry) → FitsClearing p e → FitsClearing p (done e)
clearing_done true e c = c
clearing_done false e c = c

complete_one : (d : Desc) (code : Code) (s : Bank) (now cycle : ℕ) (b : List Entry) (e : Entry) → Behind (EntryInvariant d code s now) b → EntryInvariant d code s now b e → Kept d code s now b e (after_completion cycle e)
complete_one d code s now cycle b e h st = by_due (completes_at cycle e.state) refl
  where
    by_due : (c : Bool) → completes_at cycle e.state ≡ c → Kept d code s now b e (if c then done e else e)
    by_due false q = kept_same d code s now b e st
    by_due true q = record {
      stands = record {
        item = st.item;
        parts = st.parts;
        state = fits_done e.state e cycle q st.state;
        computed = st.computed;
        operands = st.operands;
        stores = st.stores;
        clearing = clearing_done (loads_pass d) e st.clearing;
        issued = st.issued;
        due = st.due;
        through = st.through;
        alone = st.alone;
      };
      moves = record { item = refl; cleared = refl; done = λ h. (refl, refl); address = λ h. (refl, refl); fresh = λ h k. absurd (cc); stored = λ h. (h, refl) };
      link = refl;
    }

-- Complete keeps a state consistent
pub consistent_complete : (now : ℕ) (code : Code) (d : Desc) (x : Machine) → ConsistentIn now d code x → ConsistentIn now d code (complete x).machine
consistent_complete now code d x h =
    subst (λ w. Holds d code (hart_of x) now w x.queue x.fetch_pc) (map_is_each (after_completion x.cycle) [] x.window)
    (each_holds d code (hart_of x) now now (λ b e. after_completion x.cycle e) (complete_one d code (bank_in (hart_of x)) now x.cycle) x.window x.queue x.fetch_pc h)

-- Fill keeps a state consistent
pub consistent_fill : (now : ℕ) (code : Code) (d : Desc) (x : Machine) → ConsistentIn now d code x → ConsistentIn now d code (fill d x).machine
consistent_fill now code d x h = h
