-- What two machines that show the same hide of outcomes, as masks.
use Rattle.std.proofs.Common.{◌≡◌, ℕ, true, List, [], ◌∷◌, Option, Some, None, map, reverse, refl, ap, ap₂, ◌∙◌, subst}
use Rattle.std.proofs.lemmas.List.{reverse-reverse}
use Rattle.std.specs.Option.{option_map}
use Rattle.rv_types.specs.declared.Kind.{Kind}
use Rattle.rv_types.specs.declared.Kind.TheVariants.{Load}
use Rattle.machine_desc.specs.declared.SttModel.{SttModel}
use Rattle.window_model.specs.declared.Entry.{Entry}
use Rattle.window_model.specs.declared.Event.{Event}
use Rattle.window_model.specs.declared.Outcome.{Outcome}
use Rattle.window_model.specs.State.{After, Machine}
use Rattle.window_model.specs.Order.{fault_of, is_load}
use Rattle.window_model.specs.Retire.{addr_of}
use Rattle.two_runs.specs.Masks.{LeavesAccess, LeftAlike, Mask, MaskedAlike, without_contents, under_mask}
use Rattle.two_runs.proofs.Masks.{but_outcomes, turned_alike}
use Rattle.noninterference.specs.Alike.{TellsNothing, without_outcome}
use Rattle.noninterference.specs.Outcomes.{OutcomesAgree, SameEntry, SameOutcome, SameOutcomes, but_value}

-- ---- all outcomes are hidden

-- the mask that leaves no outcome
abbrev pub hides : Entry → Mask
hides m i r o = None

-- windows that show the same are alike where all outcomes are hidden
pub all_hidden : (es es2 : List Entry) → map without_outcome es ≡ map without_outcome es2 → MaskedAlike hides es es es2
all_hidden [] [] h = tt
all_hidden (e ∷ es) (e2 ∷ es2) h = (cc, all_hidden es es2 (cc))
all_hidden _ _ h = absurd (cc)

-- a phase tells nothing that leaves two machines alike under masks, with the same registers
pub tells : {M : Type 0} (mask : M → Mask) (ms : List M) (a a2 : After) → a.machine.regs ≡ a2.machine.regs → LeftAlike mask ms a a2 → TellsNothing a a2
tells mask ms a a2 q l =
    let G : List Event → Machine → List ℕ → List Entry → After = λ evs o regs w. record { machine = record o { regs = regs; window = w }; events = evs } in
    ap₂ (λ evs o. G evs o a.machine.regs (map without_outcome a.machine.window)) l.events l.others
    ∙ ap₂ (G a2.events (without_contents a2.machine)) q (but_outcomes mask ms a.machine.window a2.machine.window l.window)

-- ---- what is left of loads

-- what is left of the outcome of an entry of a kind: of a load all but its value, of others nothing
abbrev pub left_of : Kind → Option Outcome → Option Outcome
left_of Load o = option_map but_value o
left_of _ o = None

-- the mask that leaves the outcomes of loads but for their values
abbrev pub leaves_loads : Entry → Mask
leaves_loads m i r o = left_of i.kind o

kept : (k : Kind) (o : Option Outcome) → is_load k ≡ true → (addr_of (left_of k o) ≡ addr_of o) × (fault_of (left_of k o) ≡ fault_of o)
kept Load None h = (refl, refl)
kept Load (Some o) h = (refl, refl)
kept _ o h = absurd (cc)

-- the masks of what two machines hide leave address and fault of every load
pub access_left : LeavesAccess leaves_loads
access_left m i r o h = kept i.kind o h

same_left : (k : Kind) (model : SttModel) (b : List Entry) (e e2 : Entry) → SameOutcome k model b e e2 → left_of k e.outcome ≡ left_of k e2.outcome
same_left Load model b e e2 h = h.0
same_left _ model b e e2 h = refl

entry_left : (model : SttModel) (b : List Entry) (e e2 : Entry) → SameEntry model b e e2 → under_mask (leaves_loads e) e ≡ under_mask (leaves_loads e) e2
entry_left model b e e2 s =
    let G : Entry → Option Outcome → Entry = λ t o. record t { outcome = left_of t.item.kind o } in
    let H : Entry → Option Outcome → Entry = λ t o. record t { outcome = o } in
    ap (H e) (same_left e.item.kind model b e e2 s.outcomes) ∙ ap (λ t. G t e2.outcome) s.but_outcome

older_left : (model : SttModel) (b b2 : List Entry) → SameOutcomes model b b2 → MaskedAlike leaves_loads b b b2
older_left model [] [] s = tt
older_left model (e ∷ b) (e2 ∷ b2) s = (entry_left model b e e2 s.0, older_left model b b2 s.1)
older_left model _ _ s = absurd s

-- two windows whose outcomes agree are alike in what is left of loads
pub loads_left : (model : SttModel) (x x2 : Machine) → OutcomesAgree model x x2 → MaskedAlike leaves_loads x.window x.window x2.window
loads_left model x x2 s =
    let r = turned_alike leaves_loads (reverse x.window) [] (reverse x.window) (reverse x2.window) [] [] (older_left model (reverse x.window) (reverse x2.window) s) tt in
    subst (λ w. MaskedAlike leaves_loads w w x2.window) (reverse-reverse x.window)
    (subst (MaskedAlike leaves_loads (reverse (reverse x.window)) (reverse (reverse x.window))) (reverse-reverse x2.window) r)
