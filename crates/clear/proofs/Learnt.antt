-- The parts once a load's bit is set, and history and stack are its checkpoint; and once it is dropped.
use Rattle.std.proofs.Common.{◌≡◌, ℕ, Bool, List, [], ◌∷◌, ◌++◌, Some, ap, ap₂, sym, ◌∙◌, subst, slice_get}
use Rattle.std.proofs.lemmas.List.{append_assoc}
use Rattle.window_model.specs.declared.Entry.{Entry}
use Rattle.window_model.specs.declared.Event.{Event}
use Rattle.window_model.specs.declared.Event.TheVariants as event
use Rattle.window_model.specs.Dependence.{bit_index, bit_set}
use Rattle.window_model.specs.Row.{Row}
use Rattle.window_model.specs.inner.Row.{with_events}
use Rattle.window_model.proofs.Booleans.{some_of}
use Rattle.history_pred.specs.Past.{Past}
use Rattle.core_parts.specs.Described.{Described}
use Rattle.core_parts.specs.Dropped.{StopsBelow, count_from, cut_from}
use Rattle.core_parts.specs.Held.{Held, Whole, described_of}
use Rattle.clear.specs.Cleared.{anew, anew_events}

-- the load at a position is the one that is lent
module _ (h : Held) (v : Described) (w : Whole h) (s : described_of h ≡ v) (i : ℕ) (lent : Entry) (at : slice_get h.rob.entries i ≡ Some lent) where
  there : slice_get v.machine.window i ≡ Some lent
  there = subst (λ (v : Described). slice_get v.machine.window i ≡ Some lent) s at

  is_lent : (load : Entry) → slice_get v.machine.window i ≡ Some load → lent ≡ load
  is_lent load here = some_of _ _ (sym there ∙ here)

  -- from it on all may go
  pub lent_stops : ((load : Entry) → slice_get v.machine.window i ≡ Some load → StopsBelow load.serial v.point v.machine.window) → StopsBelow lent.serial h.point h.rob.entries
  lent_stops stops = subst (λ (v : Described). StopsBelow lent.serial v.point v.machine.window) (sym s) (stops lent there)

  module _ (bits : List Bool) (past : Past) (learns : bits ≡ bit_set h.desc lent.item.pc h.dependence) (restores : past ≡ record (h.past) { checkpoint = lent.item.checkpoint }) where
    learnt : described_of (record h { dependence = bits; past = past })
        ≡ record v { machine = record (v.machine) { dependence = bit_set v.desc lent.item.pc v.machine.dependence; checkpoint = lent.item.checkpoint } }
    learnt =
        ap₂ (λ (bits : List Bool) (past : Past). described_of (record h { dependence = bits; past = past })) learns restores
        ∙ ap (λ (v : Described). record v { machine = record (v.machine) { dependence = bit_set v.desc lent.item.pc v.machine.dependence; checkpoint = lent.item.checkpoint } }) s

    pub anew_is : (load : Entry) → slice_get v.machine.window i ≡ Some load → (last : Described) →
        last ≡ (let d = described_of (record h { dependence = bits; past = past }) in record d { machine = cut_from lent.serial (Some lent.item.pc) d.machine }) →
        last ≡ record v { machine = anew v.desc load v.machine }
    anew_is load here last l =
        l
        ∙ ap (λ (d : Described). record d { machine = cut_from lent.serial (Some lent.item.pc) d.machine }) learnt
        ∙ ap (λ (e : Entry). record v { machine = anew v.desc e v.machine }) (is_lent load here)

    pub anew_told : (load : Entry) → slice_get v.machine.window i ≡ Some load → (old one two three : Row) (dp : Event) (n : ℕ) → one ≡ with_events old (event.Vio lent.serial ∷ []) → dp ≡ event.Dp (bit_index h.desc lent.item.pc) 1 →
        two ≡ with_events one (dp ∷ []) → n ≡ count_from lent.serial (described_of (record h { dependence = bits; past = past })).machine → three ≡ with_events two (event.Sq n ∷ []) →
        three ≡ with_events old (anew_events v.desc load v.machine)
    anew_told load here old one two three dp n e1 k e2 m e3 =
        let bit = ap (λ (v : Described). event.Dp (bit_index v.desc lent.item.pc) 1) s in
        let count = m ∙ ap (λ (d : Described). count_from lent.serial d.machine) learnt in
        let told : Event → ℕ → Row = λ dp n. record old { events = old.events ++ (event.Vio lent.serial ∷ dp ∷ event.Sq n ∷ []) } in
        e3
        ∙ ap (λ (r : Row). with_events r (event.Sq n ∷ [])) (e2 ∙ ap (λ (r : Row). with_events r (dp ∷ [])) e1)
        ∙ ap (λ es. record old { events = es }) (append_assoc (old.events ++ event.Vio lent.serial ∷ []) (dp ∷ []) (event.Sq n ∷ []) ∙ append_assoc old.events (event.Vio lent.serial ∷ []) (dp ∷ event.Sq n ∷ []))
        ∙ ap₂ told (k ∙ bit) count
        ∙ ap (λ (e : Entry). with_events old (anew_events v.desc e v.machine)) (is_lent load here)
