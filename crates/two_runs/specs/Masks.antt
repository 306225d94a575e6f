-- What a mask leaves of an entry and of a machine. A phase that looks at no outcome that is masked leaves two machines
-- alike under their masks (docs/architecture.md, "Laws of two runs").
use Rattle.std.specs.Prelude.{◌≡◌, true, Bool, List, [], ◌∷◌, ◌++◌, reverse, Option}
use Rattle.window_model.specs.declared.Entry.{Entry}
use Rattle.window_model.specs.declared.Item.{Item}
use Rattle.window_model.specs.declared.Outcome.{Outcome}
use Rattle.window_model.specs.State.{After, Machine}
use Rattle.window_model.specs.Order.{Place, fault_of, is_load, value_of}
use Rattle.window_model.specs.Resolve.{next_of}
use Rattle.window_model.specs.Retire.{addr_of}
use Rattle.two_runs.specs.Seen.{with_data}

-- what is left of an outcome, by its item and by whether the entry is resolved
abbrev pub Mask : Type 0
Mask = Item → Bool → Option Outcome → Option Outcome

-- an entry with what a mask leaves of its outcome
abbrev pub under_mask : Mask → Entry → Entry
under_mask k e = record e { outcome = k e.item e.resolved e.outcome }

-- two windows stand beside a list of masks, and each mask leaves the same of the two entries beside it
abbrev pub MaskedAlike : {M : Type 0} → (M → Mask) → List M → List Entry → List Entry → Type 0
MaskedAlike mask [] [] [] = Unit {0}
MaskedAlike mask (m ∷ ms) (e ∷ es) (e2 ∷ es2) = (under_mask (mask m) e ≡ under_mask (mask m) e2) × MaskedAlike mask ms es es2
MaskedAlike mask _ _ _ = ⊥

-- what is left of a machine where registers, memory's bytes and the window are masked
abbrev pub without_contents : Machine → Machine
without_contents x = with_data [] (record x.ram { bytes = [] }) [] x

-- a phase has the same events in two machines, and leaves them alike under masks
pub record LeftAlike {M : Type 0} (mask : M → Mask) (ms : List M) (a a2 : After) : Type 0 where
  pub events : a.events ≡ a2.events
  pub others : without_contents a.machine ≡ without_contents a2.machine
  pub window : MaskedAlike mask ms a.machine.window a2.machine.window

-- a mask leaves address and fault of every load
abbrev pub LeavesAccess : {M : Type 0} → (M → Mask) → Type 0
LeavesAccess {M} mask = (m : M) (i : Item) (r : Bool) (o : Option Outcome) → is_load i.kind ≡ true →
    (addr_of (mask m i r o) ≡ addr_of o) × (fault_of (mask m i r o) ≡ fault_of o)

-- two branches or JALRs are resolved alike, by what is equal of their outcomes
pub record ResolvedAlike (e e2 : Entry) : Type 0 where
  pub value : value_of e.outcome ≡ value_of e2.outcome
  pub next : next_of e.outcome ≡ next_of e2.outcome
  pub fault : fault_of e.outcome ≡ fault_of e2.outcome

-- ---- the oldest entry with a property

-- two tests answer alike of each entry of two windows, and the entries and those before them are related
abbrev pub AnswerAlike : (List Entry → Entry → Bool) → (List Entry → Entry → Bool) → (List Entry → List Entry → Type 0) →
    List Entry → List Entry → List Entry → List Entry → Type 0
AnswerAlike f f2 S b b2 (e ∷ es) (e2 ∷ es2) = (f b e ≡ f2 b2 e2) × S (e ∷ b) (e2 ∷ b2) × AnswerAlike f f2 S (e ∷ b) (e2 ∷ b2) es es2
AnswerAlike f f2 S b b2 _ _ = Unit {0}

-- a place in both windows, with the masks before, at and behind it, where the entries and those before are related
pub record SamePlace {M : Type 0} (mask : M → Mask) (S : List Entry → List Entry → Type 0) (ms : List M) (p p2 : Place) : Type 0 where
  pub before_masks : List M
  pub mask_here : M
  pub younger_masks : List M
  pub all : reverse before_masks ++ mask_here ∷ younger_masks ≡ ms
  pub before : MaskedAlike mask before_masks p.before p2.before
  pub here : under_mask (mask mask_here) p.entry ≡ under_mask (mask mask_here) p2.entry
  pub younger : MaskedAlike mask younger_masks p.younger p2.younger
  pub known : S (p.entry ∷ p.before) (p2.entry ∷ p2.before)
