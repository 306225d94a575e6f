-- The machine as a core holds it, and its visibility point.
use Rattle.std.specs.Prelude.{ℕ, Bool, List, Option, refl}
use Rattle.std.specs.Coded.{Coded, code_by, coded×, coded_ℕ, coded_bool, coded_list, coded_option}
use Rattle.rv_types.specs.Memory.{Ram}
use Rattle.rv_types.specs.contracts.End as end
use Rattle.rv_types.specs.declared.End.{End}
use Rattle.elf_loader.specs.inner.Code.{CodeText, word_at}
use Rattle.elf_loader.specs.contracts.fetchable.Code as code
use Rattle.machine_desc.specs.contracts.Desc as desc
use Rattle.machine_desc.specs.contracts.SttModel as model
use Rattle.machine_desc.specs.declared.Desc.{Desc}
use Rattle.machine_desc.specs.declared.SttModel.{SttModel}
use Rattle.window_model.specs.contracts.Divider as divider
use Rattle.window_model.specs.contracts.Entry as entry
use Rattle.window_model.specs.contracts.Item as item
use Rattle.window_model.specs.contracts.Checkpoint as checkpoint
use Rattle.window_model.specs.contracts.Miss as miss
use Rattle.window_model.specs.contracts.Target as target
use Rattle.window_model.specs.declared.Divider.{Divider}
use Rattle.window_model.specs.declared.Entry.{Entry}
use Rattle.window_model.specs.declared.Item.{Item}
use Rattle.window_model.specs.declared.Checkpoint.{Checkpoint}
use Rattle.window_model.specs.declared.Miss.{Miss}
use Rattle.window_model.specs.declared.Target.{Target}
use Rattle.window_model.specs.State.{After, Machine, opening}
use Rattle.window_model.specs.Fetch.{fetch}
use Rattle.visibility.specs.Point.{Point, first_point}

-- a machine, the description that it runs under, the words that it may fetch, and how far its entries are visible
pub record Described : Type 0 where
  pub desc : Desc
  pub code : CodeText
  pub machine : Machine
  pub point : Point

-- a described machine before the first cycle
abbrev pub described_opening : Desc → CodeText → ℕ → Ram → Described
described_opening d code entry ram = record { desc = d; code = code; machine = opening d entry ram; point = first_point d.stt_model }

-- a described machine with another window in the place of its own
abbrev pub with_window : List Entry → Described → Described
with_window window s = record s { machine = record (s.machine) { window = window } }

-- what phase Fetch makes of a described machine
abbrev pub fetch_of : Described → After
fetch_of s = fetch s.desc (word_at s.code) s.machine

-- ---- how it is stored

-- memory as its base, its bytes, and whether it takes any address
abbrev pub ram_code : Coded Ram
ram_code =
    code_by (ℕ × (List ℕ × Bool)) (coded× coded_ℕ (coded× (coded_list coded_ℕ) coded_bool)) (λ r. (r.base, (r.bytes, r.misaligned)))
    (λ p. record { base = p.0; bytes = p.1.0; misaligned = p.1.1 }) (λ _. refl)

-- what has retired: the cycle, registers, pc, memory, the count and the end
abbrev pub RetiredState : Type 0
RetiredState = ℕ × (List ℕ × (ℕ × (Ram × (ℕ × Option End))))

abbrev pub committed_code : Coded RetiredState
committed_code = coded× coded_ℕ (coded× (coded_list coded_ℕ) (coded× coded_ℕ (coded× ram_code (coded× coded_ℕ (coded_option end.the_row.coded)))))

-- what is in flight: the window, the next serial, the queue, the fetch pc, and history and stack
abbrev pub InFlightState : Type 0
InFlightState = List Entry × (ℕ × (List Item × (Option ℕ × Checkpoint)))

abbrev pub unretired_code : Coded InFlightState
unretired_code = coded× (coded_list entry.the_row.coded) (coded× coded_ℕ (coded× (coded_list item.the_row.coded) (coded× (coded_option coded_ℕ) checkpoint.the_row.coded)))

-- the sets of lines of both levels of a cache
abbrev pub Levels : Type 0
Levels = List (List ℕ) × List (List ℕ)

abbrev pub levels_code : Coded Levels
levels_code = coded× (coded_list (coded_list coded_ℕ)) (coded_list (coded_list coded_ℕ))

-- what has been learnt: counters, targets and the bits of dependence
abbrev pub Predicts : Type 0
Predicts = List ℕ × (List (Option Target) × List Bool)

abbrev pub predicts_code : Coded Predicts
predicts_code = coded× (coded_list coded_ℕ) (coded× (coded_list (coded_option target.the_row.coded)) (coded_list coded_bool))

-- what has been learnt, what is cached, and the divider
abbrev pub LearntState : Type 0
LearntState = Predicts × (Levels × (List Miss × Divider))

abbrev pub learnt_code : Coded LearntState
learnt_code = coded× predicts_code (coded× levels_code (coded× (coded_list miss.the_row.coded) divider.the_row.coded))

-- a machine is stored as these three parts
abbrev pub machine_code : Coded Machine
machine_code =
    code_by (RetiredState × (InFlightState × LearntState)) (coded× committed_code (coded× unretired_code learnt_code))
    (λ x. (
      (x.cycle, (x.regs, (x.pc, (x.ram, (x.retired, x.end))))),
      ((x.window, (x.next_serial, (x.queue, (x.fetch_pc, x.checkpoint)))), ((x.counters, (x.targets, x.dependence)), ((x.cache, x.second), (x.misses, x.divider)))),
    ))
    (λ p. record {
      cycle = p.0.0;
      regs = p.0.1.0;
      pc = p.0.1.1.0;
      ram = p.0.1.1.1.0;
      window = p.1.0.0;
      queue = p.1.0.1.1.0;
      fetch_pc = p.1.0.1.1.1.0;
      checkpoint = p.1.0.1.1.1.1;
      counters = p.1.1.0.0;
      targets = p.1.1.0.1.0;
      dependence = p.1.1.0.1.1;
      cache = p.1.1.1.0.0;
      second = p.1.1.1.0.1;
      misses = p.1.1.1.1.0;
      divider = p.1.1.1.1.1;
      retired = p.0.1.1.1.1.0;
      next_serial = p.1.0.1.0;
      end = p.0.1.1.1.1.1;
    })
    (λ _. refl)

-- a point is stored as its serial and its model
abbrev pub point_code : Coded Point
point_code = code_by (ℕ × SttModel) (coded× coded_ℕ model.the_row.coded) (λ p. (p.serial, p.model)) (λ p. record { serial = p.0; model = p.1 }) (λ _. refl)

-- a described machine is stored as its description, its code, the machine and its point
abbrev pub described_code : Coded Described
described_code =
    code_by (Desc × (CodeText × (Machine × Point))) (coded× desc.the_row.coded (coded× code.the_row.coded (coded× machine_code point_code)))
    (λ x. (x.desc, (x.code, (x.machine, x.point)))) (λ p. record { desc = p.0; code = p.1.0; machine = p.1.1.0; point = p.1.1.1 }) (λ _. refl)
