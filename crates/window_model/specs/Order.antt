-- Entries by age (docs/machine.md, "Entries", "Writers and roots"). `before` is always a list of the older entries,
-- youngest first: what an entry looks back on.
use Rattle.std.specs.Prelude.{ℕ, Bool, true, false, ◌==◌, List, [], ◌∷◌, take, reverse, Option, Some, None, if◌then◌else◌, is_some}
use Rattle.std.specs.List.{find}
use Rattle.rv_types.specs.Isa.{reg}
use Rattle.rv_types.specs.Regs.{reads_of, writes_of}
use Rattle.rv_types.specs.declared.Cause.{Cause}
use Rattle.rv_types.specs.declared.Kind.{Kind}
use Rattle.rv_types.specs.declared.Kind.TheVariants.{Load, Store, Branch, Jalr}
use Rattle.window_model.specs.declared.Entry.{Entry}
use Rattle.window_model.specs.declared.Outcome.{Outcome}
use Rattle.window_model.specs.declared.Progress.{Progress}
use Rattle.window_model.specs.declared.Progress.TheVariants.{Busy, Done, Waiting}

-- the entries older than position i
abbrev pub before_at : List Entry → ℕ → List Entry
before_at window i = reverse (take i window)

-- the results of f, oldest entry first: f is given each entry of a list and the older ones, where `before` are older
-- than the whole list
abbrev pub each_from : {A : Type 0} → (List Entry → Entry → A) → List Entry → List Entry → List A
each_from f before [] = []
each_from f before (e ∷ es) = f before e ∷ each_from f (e ∷ before) es

-- the results of f for the whole window, oldest entry first: f is given each entry and the older ones
abbrev pub each : {A : Type 0} → (List Entry → Entry → A) → List Entry → List A
each f window = each_from f [] window

-- an entry in its place: the older ones, youngest first, the entry, and the younger ones, oldest first
pub record Place : Type 0 where
  pub before : List Entry
  pub entry : Entry
  pub younger : List Entry

-- the oldest entry with a property
abbrev pub first_from : (List Entry → Entry → Bool) → List Entry → List Entry → Option Place
first_from p before [] = None
first_from p before (e ∷ es) = if p before e then Some (record { before = before; entry = e; younger = es }) else first_from p (e ∷ before) es

-- the oldest entry of the window with a property
abbrev pub first : (List Entry → Entry → Bool) → List Entry → Option Place
first p window = first_from p [] window

-- ---- what an entry is

-- the entry has not yet issued
abbrev pub is_waiting : Progress → Bool
is_waiting Waiting = true
is_waiting _ = false

-- the entry executes: it is busy until some cycle
abbrev pub is_busy : Progress → Bool
is_busy (Busy due) = true
is_busy _ = false

-- the entry has been executed
abbrev pub is_done : Progress → Bool
is_done Done = true
is_done _ = false

-- the kind is a load's
abbrev pub is_load : Kind → Bool
is_load Load = true
is_load _ = false

-- the kind is a store's
abbrev pub is_store : Kind → Bool
is_store Store = true
is_store _ = false

-- a store's address part has issued: it is known in the next cycle, and no phase asks before (`issued_is_known` of
-- machine_facts)
abbrev pub has_address : Entry → Bool
has_address e = is_some e.addr_due

-- a store's data part has issued
abbrev pub has_data : Entry → Bool
has_data e = is_some e.data_due

-- a branch or JALR: what can be wrongly predicted
abbrev pub is_control : Kind → Bool
is_control Branch = true
is_control Jalr = true
is_control _ = false

-- the value that an entry comes to, 0 where it has none yet
abbrev pub value_of : Option Outcome → ℕ
value_of None = 0
value_of (Some o) = o.value

-- the fault of an outcome; none where there is no fault, or no outcome yet
abbrev pub fault_of : Option Outcome → Option Cause
fault_of None = None
fault_of (Some o) = o.fault

-- the entry will trap if it becomes the oldest
abbrev pub is_faulty : Entry → Bool
is_faulty e = is_some (fault_of e.outcome)

-- the registers that an entry reads
abbrev pub sources : Entry → List ℕ
sources e = reads_of e.item.instr

-- the base register: the first source
abbrev pub base_of : List ℕ → List ℕ
base_of [] = []
base_of (r ∷ rs) = r ∷ []

-- the sources but the first: the register that a store writes
abbrev pub others_of : List ℕ → List ℕ
others_of [] = []
others_of (r ∷ rs) = rs

-- the register that an instruction writes, if it writes one, is r
abbrev pub is_register : ℕ → Option ℕ → Bool
is_register r None = false
is_register r (Some s) = s == r

-- the entry writes the register
abbrev pub writes : ℕ → Entry → Bool
writes r e = is_register r (writes_of e.item.instr)

-- ---- writers and what they give

-- the youngest older entry that writes the register
abbrev pub writer : List Entry → ℕ → Option Entry
writer before r = find (writes r) before

-- the writer's value, else this one
abbrev pub from_writer : Option Entry → ℕ → ℕ
from_writer None v = v
from_writer (Some e) v = value_of e.outcome

-- a register's value: the writer's, or the retired one
abbrev pub operand : List ℕ → List Entry → ℕ → ℕ
operand regs before r = from_writer (writer before r) (reg regs r)
