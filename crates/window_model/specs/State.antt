-- The machine's state: one list of instructions in program order, and what they share (docs/machine.md, "State").
use Rattle.std.specs.Prelude.{ℕ, ◌+◌, ◌-◌, ◌*◌, ◌/◌, ◌==◌, Bool, false, List, [], ◌∷◌, ◌++◌, replicate, Option, Some, None, if◌then◌else◌}
use Rattle.std.specs.Option.{option_to_list}
use Rattle.rv_types.specs.Memory.{Ram}
use Rattle.rv_types.specs.Isa.{start}
use Rattle.rv_types.specs.declared.End.{End}
use Rattle.machine_desc.specs.declared.Desc.{Desc}
use Rattle.window_model.specs.declared.Entry.{Entry}
use Rattle.window_model.specs.declared.Item.{Item}
use Rattle.window_model.specs.declared.Event.{Event}
use Rattle.window_model.specs.Sets.{set_in}
use Rattle.window_model.specs.History.{no_checkpoint}
use Rattle.window_model.specs.declared.Checkpoint.{Checkpoint}
pub use Rattle.window_model.specs.declared.Miss.{Miss}
pub use Rattle.window_model.specs.declared.Target.{Target}
pub use Rattle.window_model.specs.declared.Divider.{Divider}

-- the machine at a cycle
pub record Machine : Type 0 where
  pub cycle : ℕ
  -- registers, pc and memory as retired: what the instruction set's state is
  pub regs : List ℕ
  pub pc : ℕ
  pub ram : Ram
  -- the entries in flight, oldest first
  pub window : List Entry
  -- the items that are fetched and not yet renamed, oldest first
  pub queue : List Item
  pub fetch_pc : Option ℕ
  pub counters : List ℕ
  pub targets : List (Option Target)
  -- the bits of dependence: a set one tells loads to wait for the addresses of older stores
  pub dependence : List Bool
  -- history and return stack, as the next item comes to be fetched
  pub checkpoint : Checkpoint
  -- the two levels of the cache: for each set a list of lines, most recently used first
  pub cache : List (List ℕ)
  pub second : List (List ℕ)
  -- the miss registers that are taken, in the order of taking
  pub misses : List Miss
  pub divider : Divider
  pub retired : ℕ
  pub next_serial : ℕ
  pub end : Option End

-- what a phase leaves: the state, and the events that it adds to the cycle's row
pub record After : Type 0 where
  pub machine : Machine
  pub events : List Event

-- a phase that changes nothing, with no event
abbrev pub nothing : Machine → After
nothing x = record { machine = x; events = [] }

-- one phase and then another on what the first left, with the events of both
abbrev pub then_does : After → (Machine → After) → After
then_does a more = let b = more a.machine in record { machine = b.machine; events = a.events ++ b.events }

-- the first state: the instruction set's start, counters at 1, no bit set, and all else empty
abbrev pub opening : Desc → ℕ → Ram → Machine
opening d entry ram =
    let s = start entry ram in
    record {
      cycle = 0;
      regs = s.regs;
      pc = s.pc;
      ram = s.ram;
      window = [];
      queue = [];
      fetch_pc = Some entry;
      counters = replicate d.predictor_counters 1;
      targets = replicate d.predictor_btb None;
      dependence = replicate d.predictor_depend false;
      checkpoint = no_checkpoint;
      cache = replicate d.cache_sets [];
      second = replicate d.cache_second_sets [];
      misses = [];
      divider = record { free_from = 0; user = None };
      retired = 0;
      next_serial = 0;
      end = None;
    }

-- the first address of an address's line
abbrev pub line_of : Desc → ℕ → ℕ
line_of d a = a / d.cache_line * d.cache_line

-- the line of the last byte of an access of n bytes, where it is another than that of its first
abbrev pub upper_line : Desc → ℕ → ℕ → Option ℕ
upper_line d a n = if line_of d a == line_of d (a + n - 1) then None else Some (line_of d (a + n - 1))

-- the lines of an access of n bytes: that of its first byte, and that of its last where it is another
abbrev pub lines_of : Desc → ℕ → ℕ → List ℕ
lines_of d a n = line_of d a ∷ option_to_list (upper_line d a n)

-- the set that a line belongs to
abbrev pub set_of : Desc → ℕ → ℕ
set_of d line = set_in d.cache_line d.cache_sets line
