-- What one run knows of the entries that are looked back on.
use Rattle.std.proofs.Common.{◌≡◌, ℕ, true, false, not, ◌&&◌, List, [], ◌∷◌, Option, Some, refl, ap, ap₂, ◌∙◌}
use Rattle.std.specs.Prelude.{reverse}
use mathlib.Core.List.{reverse_aux}
use Rattle.rv_types.specs.Memory.{Code}
use Rattle.rv_types.specs.declared.Kind.{Kind}
use Rattle.rv_types.specs.declared.Kind.TheVariants.{Store}
use Rattle.machine_desc.specs.declared.Desc.{Desc}
use Rattle.window_model.specs.declared.Entry.{Entry}
use Rattle.window_model.specs.declared.Item.{Item}
use Rattle.window_model.specs.declared.Progress.{Progress}
use Rattle.window_model.specs.declared.Progress.TheVariants.{Waiting, Busy, Done}
use Rattle.window_model.specs.State.{Machine}
use Rattle.window_model.specs.Order.{has_address, has_data, is_store, is_waiting}
use Rattle.window_model.specs.Rename.{at_once}
use Rattle.window_model.specs.Retire.{hart_of}
use Rattle.window_model.specs.Along.{Behind}
use Rattle.window_model.proofs.EntryByEntry.{behind_of}
use Rattle.committed_state.specs.Consistent.{FitsState, EntryInvariant, all_issued, bank_in, is_issued}
use Rattle.committed_state.specs.Guarded.{IsGuarded}
use Rattle.committed_state.specs.Links.{entry_link, Chain, links}
use Rattle.committed_state.proofs.Known.{both_parts}
use Rattle.noninterference.specs.Together.{OwnFacts}
use Rattle.noninterference.proofs.Looking.{untainted_base, untainted_sources}

-- ---- the pcs, youngest first

-- where the instruction behind these entries stands, of which the first is the youngest
abbrev pub reaches : ℕ → List Entry → Option ℕ
reaches pc [] = Some pc
reaches pc (e ∷ before) = (entry_link e).next

-- the entries of a list, youngest first, stand each where the one before goes on, and the oldest at the pc
abbrev pub Linked : ℕ → List Entry → Type 0
Linked pc [] = Unit {0}
Linked pc (e ∷ before) = (reaches pc before ≡ Some e.item.pc) × Linked pc before

linked_of : (pc : ℕ) (before es : List Entry) (queue : List Item) (to : Option ℕ) → Chain (reaches pc before) (links es queue) to → Linked pc before → Linked pc (reverse_aux es before)
linked_of pc before [] queue to c l = l
linked_of pc before (e ∷ es) queue to c l = linked_of pc (e ∷ before) es queue to c.1 (c.0, l)

-- ---- all that one run knows of entries

-- what one run knows of entries looked back on: they stand over the retired state, are guarded, and follow one another
pub record OneRun (now : ℕ) (d : Desc) (code : Code) (x : Machine) (before : List Entry) : Type 0 where
  pub stands : Behind (EntryInvariant d code (bank_in (hart_of x)) now) before
  pub guarded : Behind (IsGuarded d.stt_model) before
  pub linked : Linked x.pc before

-- what one run knows of entries it knows without the youngest
pub older : (now : ℕ) (d : Desc) (code : Code) (x : Machine) (e : Entry) (before : List Entry) → OneRun now d code x (e ∷ before) → OneRun now d code x before
older now d code x e before w = record { stands = w.stands.1; guarded = w.guarded.1; linked = w.linked.1 }

-- what one run knows of entries it knows of the whole window
pub whole_window : (now : ℕ) (d : Desc) (code : Code) (x : Machine) → OwnFacts now d code x → OneRun now d code x (reverse x.window)
whole_window now d code x f = record {
  stands = behind_of (EntryInvariant d code (bank_in (hart_of x)) now) [] x.window f.consistent.entries tt;
  guarded = behind_of (IsGuarded d.stt_model) [] x.window f.guarded tt;
  linked = linked_of x.pc [] x.window x.queue x.fetch_pc f.consistent.chain tt;
}

waits_unresolved : (t : Progress) (e : Entry) → FitsState t e → is_waiting t ≡ true → e.resolved ≡ false
waits_unresolved Waiting e f h = f.1
waits_unresolved _ e f h = absurd (cc)

-- a store isn't Done at once
store_goes : (k : Kind) → is_store k ≡ true → not (at_once k) ≡ true
store_goes Store s = refl
store_goes _ s = absurd (cc)

has_all : (t : Progress) (e : Entry) → FitsState t e → is_waiting t ≡ false → is_store e.item.kind ≡ true → all_issued e ≡ true
has_all Waiting e f w s = absurd (cc)
has_all (Busy due) e f w s = f.0
has_all Done e f w s = f.0 ∙ store_goes e.item.kind s

has_parts : (e : Entry) → FitsState e.state e → is_waiting e.state ≡ false → is_store e.item.kind ≡ true → (has_address e && has_data e) ≡ true
has_parts e f w s = let p = both_parts e.item.kind (has_address e) (has_data e) (is_issued e) s (has_all e.state e f w s) in ap₂ (λ a c. a && c) p.0 p.1

-- what one run knows of entries it knows of the head alone: nothing is older, so none of its operands is tainted
pub head_alone : (now : ℕ) (d : Desc) (code : Code) (x : Machine) (e : Entry) → EntryInvariant d code (bank_in (hart_of x)) now [] e → x.pc ≡ e.item.pc → OneRun now d code x (e ∷ [])
head_alone now d code x e st pc =
    let guarded : IsGuarded d.stt_model [] e = record { load = λ i l. untainted_base d.stt_model [] e refl; division = λ i l. untainted_sources d.stt_model [] e refl; fresh = waits_unresolved e.state e st.state; whole = has_parts e st.state } in
    record { stands = (st, tt); guarded = (guarded, tt); linked = (ap Some pc, tt) }
