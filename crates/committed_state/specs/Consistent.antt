-- What holds of the retired state and of what is in flight, in every state of a run
-- (docs/theorems.md, "Committed state").
use Rattle.std.specs.Prelude.{◌≡◌, ◌≤◌, ℕ, ◌+◌, Bool, true, false, not, ◌&&◌, ◌||◌, List, [], ◌∷◌, length, Option, Some, None, if◌then◌else◌, is_some}
use Rattle.std.specs.List.{list_all, AllByRecursion as Each}
use Rattle.rv_types.specs.Word.{word_add}
use Rattle.rv_types.specs.Memory.{Code}
use Rattle.rv_types.specs.Isa.{Hart}
use Rattle.rv_types.specs.declared.Kind.{Kind}
use Rattle.rv_types.specs.declared.Kind.TheVariants.{Store, Branch, Jalr, Jal, Stop}
use Rattle.machine_desc.specs.declared.Desc.{Desc}
use Rattle.window_model.specs.declared.Entry.{Entry}
use Rattle.window_model.specs.declared.Item.{Item}
use Rattle.window_model.specs.declared.Progress.{Progress}
use Rattle.window_model.specs.declared.Progress.TheVariants.{Waiting, Busy, Done}
use Rattle.window_model.specs.State.{Machine}
use Rattle.window_model.specs.Order.{is_done, is_load, is_store, is_control, is_faulty, has_address, has_data, sources, writes, base_of, others_of}
use Rattle.window_model.specs.Retire.{hart_of}
use Rattle.machine_desc.specs.Questions.{loads_pass}
use Rattle.window_model.specs.Clear.{is_before, is_passed_by, shares}
use Rattle.window_model.specs.Rename.{at_once, is_call, is_stop}
use Rattle.window_model.specs.Fetch.{instr_at, kind_at, target_of}
use Rattle.committed_state.specs.Computed.{Bank, ComesTo, as_known, outcome_behind, left_out}
use Rattle.window_model.specs.Along.{Along}
use Rattle.committed_state.specs.Links.{Chain, links}

-- the next address that is predicted for a kind (docs/machine.md, "Fetch")
abbrev pub Predicts : Kind → Item → Type 0
Predicts (Stop cause) i = i.predicted ≡ None
Predicts Jal i = i.predicted ≡ Some (target_of i.pc i.instr)
Predicts Branch i = is_some i.predicted ≡ true
Predicts Jalr i = is_some i.predicted ≡ true
Predicts _ i = i.predicted ≡ Some (word_add i.pc 4)

-- the item is an instruction of the program, with its kind and a predicted next address
pub record IsItem (code : Code) (i : Item) : Type 0 where
  pub instr : i.instr ≡ instr_at (code i.pc)
  pub kind : i.kind ≡ kind_at (code i.pc)
  pub next : Predicts i.kind i

-- the entry has its outcome
abbrev pub is_issued : Entry → Bool
is_issued e = is_some e.outcome

-- by its kind, all of an entry has issued: of a store both parts
abbrev pub all_issued_by : Kind → Bool → Bool → Bool → Bool
all_issued_by Store address datum issued = address && datum
all_issued_by _ address datum issued = issued

-- the whole entry has issued: of a store both parts
abbrev pub all_issued : Entry → Bool
all_issued e = all_issued_by e.item.kind (has_address e) (has_data e) (is_issued e)

-- by its kind, the parts of an entry that have issued fit: only a store has parts, and its outcome is there from the
-- first one on
abbrev pub FitsParts : Kind → Bool → Bool → Bool → Type 0
FitsParts Store address datum issued = issued ≡ (address || datum)
FitsParts _ address datum issued = (address ≡ false) × (datum ≡ false)

-- the progress of an entry fits what of it has issued, and whether it is resolved
abbrev pub FitsState : Progress → Entry → Type 0
FitsState Waiting e = (all_issued e ≡ false) × (e.resolved ≡ false) × (at_once e.item.kind ≡ false)
FitsState (Busy due) e = (all_issued e ≡ true) × (e.resolved ≡ false) × (at_once e.item.kind ≡ false)
FitsState Done e = (all_issued e ≡ not (at_once e.item.kind)) × (e.resolved ≡ true → is_control e.item.kind ≡ true)

-- the entry is no stop and no call
abbrev pub goes_through : Entry → Bool
goes_through e = not (at_once e.item.kind)

-- the register's writer has executed, or there is none
abbrev pub executed : List Entry → ℕ → Bool
executed [] r = true
executed (e ∷ before) r = if writes r e then is_done e.state else executed before r

-- the writers of these registers have executed, where there are any
abbrev pub all_executed : List Entry → List ℕ → Bool
all_executed before rs = list_all (executed before) rs

-- the operands of an entry that has issued were there; of a store, for each part that has issued its own
abbrev pub HasOperands : Kind → Bool → Bool → Bool → List Entry → List ℕ → Type 0
HasOperands Store address datum issued before rs =
    (address ≡ true → all_executed before (base_of rs) ≡ true) × (datum ≡ true → all_executed before (others_of rs) ≡ true)
HasOperands _ address datum issued before rs = issued ≡ true → all_executed before rs ≡ true

-- how an older store of known address has to stand before a load that has issued: the load leaves it out, or they share
-- no byte, or the store's data is known and the load hasn't passed it
abbrev pub stands_apart : Entry → Entry → Bool
stands_apart load store = left_out load store || not (shares store load) || (has_data store && not (is_passed_by store load))

-- how any older store has to stand before a load that has issued: while its address isn't known it isn't cleared, and
-- then they stand apart
abbrev pub stands_before : Entry → Entry → Bool
stands_before load store =
    not (is_store store.item.kind) || (if has_address store then stands_apart load store else not store.cleared)

-- whether the entry is cleared fits: where no load passes a store it is; where loads do, a store of unknown address
-- isn't
abbrev pub FitsClearing : Bool → Entry → Type 0
FitsClearing true e = is_store e.item.kind ≡ true → has_address e ≡ false → e.cleared ≡ false
FitsClearing false e = e.cleared ≡ true

-- what is known from a cycle on, where there is such a cycle, is known in this one
abbrev pub IsDueBy : ℕ → Option ℕ → Type 0
IsDueBy now None = Unit {0}
IsDueBy now (Some due) = due ≤ now

-- what holds of an entry behind older ones, over the retired registers and memory, as Issue of cycle `now` finds it
pub record EntryInvariant (d : Desc) (code : Code) (s : Bank) (now : ℕ) (before : List Entry) (e : Entry) : Type 0 where
  pub item : IsItem code e.item
  pub parts : FitsParts e.item.kind (has_address e) (has_data e) (is_issued e)
  pub state : FitsState e.state e
  -- the outcome is what Issue makes of the operands, as far as it is known
  pub computed : ComesTo e.outcome (as_known e (outcome_behind s before e))
  -- the entry issued with its operands there, and a load behind stores that let it go
  pub operands : HasOperands e.item.kind (has_address e) (has_data e) (is_issued e) before (sources e)
  pub stores : is_issued e ≡ true → is_load e.item.kind ≡ true → list_all (stands_before e) before ≡ true
  pub clearing : FitsClearing (loads_pass d) e
  -- a load was issued before this cycle, and a store's address is known by it
  pub issued : is_issued e ≡ true → is_load e.item.kind ≡ true → is_before e.issued (Some now) ≡ true
  pub due : IsDueBy now e.addr_due
  -- nothing follows a stop or a call, and a call follows nothing
  pub through : list_all goes_through before ≡ true
  pub alone : is_call e.item.kind ≡ true → before ≡ []

-- the registers and memory of a state of the instruction set
abbrev pub bank_in : Hart → Bank
bank_in s = record { regs = s.regs; ram = s.ram }

-- what holds of the window, the queue and the fetch pc over the retired state, as Issue of cycle `now` finds them
pub record Holds (d : Desc) (code : Code) (s : Hart) (now : ℕ) (window : List Entry) (queue : List Item) (fetch_pc : Option ℕ) : Type 0 where
  pub entries : Along (EntryInvariant d code (bank_in s) now) [] window
  pub items : Each (IsItem code) queue
  pub chain : Chain (Some s.pc) (links window queue) fetch_pc
  pub registers : length s.regs ≡ 32

-- the machine is consistent as Issue of cycle `now` finds it: what each phase of a cycle up to Issue keeps
abbrev pub ConsistentIn : ℕ → Desc → Code → Machine → Type 0
ConsistentIn now d code x = Holds d code (hart_of x) now x.window x.queue x.fetch_pc

-- the machine is consistent between cycles: as Issue leaves it, Rename and Fetch keep it, and the next cycle begins
-- with it
abbrev pub Consistent : Desc → Code → Machine → Type 0
Consistent d code x = ConsistentIn (x.cycle + 1) d code x

-- why fetch has nowhere to go: the youngest is a stop, or a resolved entry of the window with a fault
abbrev pub HasStopped : List Entry → List Item → Type 0
HasStopped [] [] = ⊥
HasStopped [] (i ∷ []) = is_stop i.kind ≡ true
HasStopped [] (i ∷ j ∷ is) = HasStopped [] (j ∷ is)
HasStopped (e ∷ []) [] = (is_stop e.item.kind || (e.resolved && is_faulty e)) ≡ true
HasStopped (e ∷ []) (i ∷ is) = HasStopped [] (i ∷ is)
HasStopped (e ∷ f ∷ es) queue = HasStopped (f ∷ es) queue
