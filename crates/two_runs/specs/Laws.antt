-- What follows alike in two runs from what they see alike (docs/architecture.md, "Laws of two runs").
use Rattle.std.specs.Prelude.{◌≡◌, ℕ, Bool, not, ◌&&◌, List, map, reverse, take, length, Some, true}
use Rattle.rv_types.specs.Memory.{Code, Ram}
use Rattle.machine_desc.specs.declared.Desc.{Desc}
use Rattle.machine_desc.specs.declared.SttModel.{SttModel}
use Rattle.window_model.specs.declared.Entry.{Entry}
use Rattle.window_model.specs.declared.Item.{Item}
use Rattle.window_model.specs.State.{Machine}
use Rattle.window_model.specs.Access.{all_covered, any_store_hidden}
use Rattle.window_model.specs.Around.{around}
use Rattle.window_model.specs.Clear.{clear, may_clear}
use Rattle.window_model.specs.Fetch.{fetch}
use Rattle.window_model.specs.Fill.{complete}
use Rattle.window_model.specs.MayIssue.{stores_done, stores_let}
use Rattle.window_model.specs.Order.{Place, first}
use Rattle.window_model.specs.Ports.{Port, is_granted, may_at}
use Rattle.window_model.specs.Ready.{is_known}
use Rattle.window_model.specs.Rename.{fits, rename}
use Rattle.window_model.specs.Resolve.{may_resolve, resolve}
use Rattle.window_model.specs.Taint.{address_tainted, any_tainted, tainted, visible}
use Rattle.two_runs.specs.Masks.{LeavesAccess, LeftAlike, Mask, MaskedAlike, ResolvedAlike, SamePlace, without_contents, under_mask}
use Rattle.two_runs.specs.Seen.{Adds, AsksAlike, EachAsks, SeenEntries, SeenMachine, after_data, with_data, without_outcome}

-- ---- looking back over older entries

-- two runs see alike what is visible
abbrev pub VisibleAlike : Type 0
VisibleAlike = (model : SttModel) (b b2 : List Entry) → SeenEntries model b b2 → visible model b ≡ visible model b2

-- two runs see alike whether a register is tainted
abbrev pub TaintedAlike : Type 0
TaintedAlike = (model : SttModel) (b b2 : List Entry) (r : ℕ) → SeenEntries model b b2 → tainted model b r ≡ tainted model b2 r

-- two runs see alike whether some operand of an entry is tainted
abbrev pub OperandsTaintedAlike : Type 0
OperandsTaintedAlike = (model : SttModel) (b b2 : List Entry) → SeenEntries model b b2 → (e e2 : Entry) → without_outcome e ≡ without_outcome e2 →
    any_tainted model b e ≡ any_tainted model b2 e2

-- two runs see alike whether the base of an entry is tainted
abbrev pub AddressTaintedAlike : Type 0
AddressTaintedAlike = (model : SttModel) (b b2 : List Entry) → SeenEntries model b b2 → (e e2 : Entry) → without_outcome e ≡ without_outcome e2 →
    address_tainted model b e ≡ address_tainted model b2 e2

-- two runs see alike whether the writer of a register gives its value
abbrev pub KnownAlike : Type 0
KnownAlike = (d : Desc) (b b2 : List Entry) (r : ℕ) → SeenEntries d.stt_model b b2 → is_known d b r ≡ is_known d b2 r

-- two runs see alike whether all older stores are Done
abbrev pub StoresDoneAlike : Type 0
StoresDoneAlike = (model : SttModel) (b b2 : List Entry) → SeenEntries model b b2 → stores_done b ≡ stores_done b2

-- two runs see alike whether older stores forward all bytes of an access
abbrev pub ForwardedAlike : Type 0
ForwardedAlike = (model : SttModel) (b b2 : List Entry) (a n : ℕ) → SeenEntries model b b2 →
    (all_covered b a n && not (any_store_hidden model b)) ≡ (all_covered b2 a n && not (any_store_hidden model b2))

-- two runs see alike whether older stores let a load of these bytes go
abbrev pub LetAlike : Type 0
LetAlike = (model : SttModel) (passes : Bool) (bytes : List ℕ) (b b2 : List Entry) → SeenEntries model b b2 →
    stores_let model passes bytes b ≡ stores_let model passes bytes b2

-- ---- who may go

-- two runs see alike whether an entry may be resolved
abbrev pub MayResolveAlike : Type 0
MayResolveAlike = (d : Desc) (b b2 : List Entry) → SeenEntries d.stt_model b b2 → (e e2 : Entry) → without_outcome e ≡ without_outcome e2 →
    may_resolve d b e ≡ may_resolve d b2 e2

-- two runs see alike whether an entry may be cleared
abbrev pub MayClearAlike : Type 0
MayClearAlike = (d : Desc) (b b2 : List Entry) → SeenEntries d.stt_model b b2 → (e e2 : Entry) → without_outcome e ≡ without_outcome e2 →
    may_clear d b e ≡ may_clear d b2 e2

-- two runs see alike whether an entry may issue at a port, where it asks alike
abbrev pub MayIssueAlike : Type 0
MayIssueAlike = (d : Desc) (x x2 : Machine) → SeenMachine x x2 → (b b2 : List Entry) → SeenEntries d.stt_model b b2 → (e e2 : Entry) →
    without_outcome e ≡ without_outcome e2 → (port : Port) → AsksAlike d x x2 b b2 e e2 → may_at d (around x) port b e ≡ may_at d (around x2) port b2 e2

-- two runs see alike whether an entry is granted a port, where it and each older entry ask alike
abbrev pub GrantedAlike : Type 0
GrantedAlike = (d : Desc) (x x2 : Machine) → SeenMachine x x2 → (b b2 : List Entry) → SeenEntries d.stt_model b b2 → EachAsks d x x2 b b2 →
    (e e2 : Entry) → without_outcome e ≡ without_outcome e2 → (port : Port) → AsksAlike d x x2 b b2 e e2 →
    is_granted d (around x) port b e ≡ is_granted d (around x2) port b2 e2

-- whether an item fits into the window is told without outcomes
abbrev pub FitsAlike : Type 0
FitsAlike = (d : Desc) (w : List Entry) (i : Item) → fits d (map without_outcome w) i ≡ fits d w i

-- ---- Rename and Fetch

-- Rename adds the same entries to two machines that differ in registers, memory and outcomes alone, and has the same
-- events
abbrev pub RenameAlike : Type 0
RenameAlike = (d : Desc) (regs : List ℕ) (ram : Ram) (w : List Entry) (x : Machine) → map without_outcome x.window ≡ map without_outcome w →
    Adds regs ram x.window w (rename d x) (rename d (with_data regs ram w x))

-- Fetch does the same to two machines that differ in registers, memory and window alone, and has the same events
abbrev pub FetchAlike : Type 0
FetchAlike = (d : Desc) (code : Code) (regs : List ℕ) (ram : Ram) (w : List Entry) (x : Machine) →
    fetch d code (with_data regs ram w x) ≡ after_data regs ram w (fetch d code x)

-- ---- phases under masks

-- Complete leaves alike two machines that are alike under any masks
abbrev pub CompleteLeavesAlike : Type 0
CompleteLeavesAlike = (mask : ℕ → Mask) (ms : List ℕ) (x x2 : Machine) → without_contents x ≡ without_contents x2 → MaskedAlike mask ms x.window x2.window →
    LeftAlike mask ms (complete x) (complete x2)

-- Clear leaves alike two machines that are alike under masks that leave the addresses and faults of loads, and of which
-- two runs see each entry alike
abbrev pub ClearLeavesAlike : Type 0
ClearLeavesAlike = (mask : ℕ → Mask) → LeavesAccess mask → (d : Desc) (ms : List ℕ) (x x2 : Machine) → without_contents x ≡ without_contents x2 →
    MaskedAlike mask ms x.window x2.window → SeenEntries d.stt_model (reverse x.window) (reverse x2.window) →
    LeftAlike mask (take (length (clear d x).machine.window) ms) (clear d x) (clear d x2)

-- Resolve leaves alike two machines that are alike under masks, and of which two runs see each entry alike, where the
-- entry that is resolved is so alike, and stays alike under its mask
abbrev pub ResolveLeavesAlike : Type 0
ResolveLeavesAlike = (mask : ℕ → Mask) (d : Desc) (ms : List ℕ) (x x2 : Machine) → without_contents x ≡ without_contents x2 →
    MaskedAlike mask ms x.window x2.window → SeenEntries d.stt_model (reverse x.window) (reverse x2.window) →
    ((p p2 : Place) → first (may_resolve d) x.window ≡ Some p → (s : SamePlace mask (SeenEntries d.stt_model) ms p p2) →
    ResolvedAlike p.entry p2.entry
    × (under_mask (mask s.mask_here) (record (p.entry) { resolved = true }) ≡ under_mask (mask s.mask_here) (record (p2.entry) { resolved = true }))) →
    LeftAlike mask (take (length (resolve d x).machine.window) ms) (resolve d x) (resolve d x2)
