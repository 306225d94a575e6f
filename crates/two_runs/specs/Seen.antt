-- What two runs see alike of their windows, and of what Issue looks at beside them, where outcomes are hidden from them
-- (docs/architecture.md, "Laws of two runs"). Which outcomes are hidden is for each law to say.
use Rattle.std.specs.Prelude.{◌≡◌, ℕ, true, false, not, ◌&&◌, List, [], ◌∷◌, ◌++◌, map, None}
use Rattle.rv_types.specs.Memory.{Ram}
use Rattle.machine_desc.specs.declared.Desc.{Desc}
use Rattle.machine_desc.specs.declared.SttModel.{SttModel}
use Rattle.window_model.specs.declared.Entry.{Entry}
use Rattle.window_model.specs.State.{After, Machine}
use Rattle.window_model.specs.Access.{covers}
use Rattle.window_model.specs.Around.{around, is_free}
use Rattle.window_model.specs.Delay.{may_show}
use Rattle.window_model.specs.MayIssue.{address_of}
use Rattle.window_model.specs.Order.{is_load, is_store, is_waiting}
use Rattle.window_model.specs.Ready.{ready}
use Rattle.window_model.specs.Shape.{SameShape}
use Rattle.window_model.specs.Taint.{address_tainted, permits, visible}

-- an entry without its outcome
abbrev pub without_outcome : Entry → Entry
without_outcome e = record e { outcome = None }

-- what two runs see alike of an entry behind older ones: all but its outcome; whether it permits younger ones to be
-- visible, where the older ones do; and which bytes it covers, of a store whose address isn't tainted
pub record SeenEntry (model : SttModel) (before : List Entry) (e e2 : Entry) : Type 0 where
  pub but_outcome : without_outcome e ≡ without_outcome e2
  pub permits_alike : visible model before ≡ true → permits model e ≡ permits model e2
  pub covers_alike : (a : ℕ) → (is_store e.item.kind ≡ true → address_tainted model before e ≡ false) → covers a e ≡ covers a e2

-- two lists of entries, youngest first, of which two runs see each entry alike
abbrev pub SeenEntries : SttModel → List Entry → List Entry → Type 0
SeenEntries model [] [] = Unit {0}
SeenEntries model (e ∷ before) (e2 ∷ before2) = SeenEntry model before e e2 × SeenEntries model before before2
SeenEntries model _ _ = ⊥

-- what two runs see alike of their machines, as far as Issue looks at them beside the window
pub record SeenMachine (x x2 : Machine) : Type 0 where
  pub dependence : x.dependence ≡ x2.dependence
  pub free : is_free (around x) ≡ is_free (around x2)
  pub place : SameShape x.ram x2.ram

-- an entry has one address in both runs, if it is a load that waits and is ready, with an untainted base that it may
-- show
abbrev pub AsksAlike : Desc → Machine → Machine → List Entry → List Entry → Entry → Entry → Type 0
AsksAlike d x x2 before before2 e e2 =
    (is_load e.item.kind && (is_waiting e.state && ready d before e && (not (address_tainted d.stt_model before e) && may_show d before))) ≡ true →
    address_of x.regs before e ≡ address_of x2.regs before2 e2

-- each of these entries, youngest first, asks alike
abbrev pub EachAsks : Desc → Machine → Machine → List Entry → List Entry → Type 0
EachAsks d x x2 [] [] = Unit {0}
EachAsks d x x2 (e ∷ before) (e2 ∷ before2) = AsksAlike d x x2 before before2 e e2 × EachAsks d x x2 before before2
EachAsks d x x2 _ _ = ⊥

-- ---- machines that differ in registers, memory and window alone

-- a machine with other registers, memory and window
abbrev pub with_data : List ℕ → Ram → List Entry → Machine → Machine
with_data regs ram window x = record x { regs = regs; ram = ram; window = window }

-- what a phase leaves, with other registers, memory and window
abbrev pub after_data : List ℕ → Ram → List Entry → After → After
after_data regs ram window a = record a { machine = with_data regs ram window a.machine }

-- a phase adds the same entries to two windows, none with an outcome, and leaves the second machine as the first but
-- for these registers, this memory and the entries that were there before
pub record Adds (regs : List ℕ) (ram : Ram) (w w2 : List Entry) (a a2 : After) : Type 0 where
  pub new : List Entry
  pub plain : map without_outcome new ≡ new
  pub window : a.machine.window ≡ w ++ new
  pub same : a2 ≡ after_data regs ram (w2 ++ new) a
