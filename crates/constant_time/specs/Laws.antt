-- The constant-time contract: what leaks alike on the path gives one trace (docs/theorems.md, "Constant time on the
-- path").
use Rattle.std.specs.Prelude.{◌≡◌, ℕ, ◌+◌, ◌≤◌, true, length, None, []}
use Rattle.rv_types.specs.Isa.{start}
use Rattle.rv_types.specs.Memory.{Code, Ram}
use Rattle.machine_desc.specs.declared.Desc.{Desc}
use Rattle.machine_desc.specs.declared.SttModel.{SttModel}
use Rattle.window_model.specs.Along.{Along}
use Rattle.window_model.specs.Committed.{Aligned}
use Rattle.window_model.specs.Cycle.{trace}
use Rattle.window_model.specs.Delay.{delays}
use Rattle.window_model.specs.Issue.{issue}
use Rattle.window_model.specs.Path.{path}
use Rattle.window_model.specs.Resolve.{resolve}
use Rattle.window_model.specs.Retire.{Retired, retire}
use Rattle.window_model.specs.State.{Machine, opening}
use Rattle.window_model.specs.Taint.{protects}
use Rattle.committed_state.specs.Consistent.{ConsistentIn}
use Rattle.secret_marks.specs.Alike.{AgreeBut, AlikeBut, StaysAlike}
use Rattle.secret_marks.specs.Marks.{Marks, Secret}
use Rattle.constant_time.specs.Leaks.{LeakAlike, LeakUpTo}
use Rattle.constant_time.specs.Waits.{RunWaits, WaitsToIssue, WaitsToResolve}

-- every byte of memory may differ
abbrev pub any_byte_at : Secret
any_byte_at a = true

-- ---- laws of whole runs

-- two memories of one shape, of which the path leaks alike in the steps that a trace retires and as many more as the
-- window holds, give one trace, where the model protects and what shows is visible
abbrev pub ContractWhereShownIsVisible : Type 0
ContractWhereShownIsVisible = (d : Desc) (code : Code) (entry : ℕ) (m m2 : Ram) (n : ℕ) → protects d.stt_model ≡ true → Aligned code →
    AgreeBut any_byte_at m m2 → RunWaits d code n (opening d entry m) →
    LeakAlike (path d.stt_model) code ((trace d code entry m n).retired + d.core_rob) (start entry m) (start entry m2) →
    trace d code entry m2 n ≡ trace d code entry m n

-- under the defence `delay` what shows is visible in every cycle, whatever state it begins in
abbrev pub DelayWaits : Type 0
DelayWaits = (d : Desc) (code : Code) (n : ℕ) (x : Machine) → delays d.stt_defence ≡ true → RunWaits d code n x

-- under a model that protects and the defence `delay`, two memories of one shape of which the path leaks alike, in the
-- steps that a trace retires and as many more as the window holds, give one trace
abbrev pub ContractUnderDelay : Type 0
ContractUnderDelay = (d : Desc) (code : Code) (entry : ℕ) (m m2 : Ram) (n : ℕ) → protects d.stt_model ≡ true → delays d.stt_defence ≡ true →
    Aligned code → AgreeBut any_byte_at m m2 →
    LeakAlike (path d.stt_model) code ((trace d code entry m n).retired + d.core_rob) (start entry m) (start entry m2) →
    trace d code entry m2 n ≡ trace d code entry m n

-- ---- laws of phases

-- two machines are equal but for values
abbrev pub Alike : Machine → Machine → Type 0
Alike x x2 = (m : Marks) × AlikeBut m x x2

-- Issue has the same events in two machines whose paths leak alike, where what shows is visible
abbrev pub IssueLeaksAlike : Type 0
IssueLeaksAlike = (d : Desc) (code : Code) (total : ℕ) (x x2 : Machine) → protects d.stt_model ≡ true → Aligned code →
    ConsistentIn x.cycle d code x → ConsistentIn x.cycle d code x2 → x.retired + length x.window ≤ total → LeakUpTo d.stt_model code total x x2 →
    Along (WaitsToIssue d) [] x.window → Alike x x2 → (m : Marks) × StaysAlike m (issue d x) (issue d x2)

-- Resolve has the same events in two machines whose paths leak alike, where what is resolved is visible
abbrev pub ResolveLeaksAlike : Type 0
ResolveLeaksAlike = (now : ℕ) (d : Desc) (code : Code) (total : ℕ) (x x2 : Machine) → protects d.stt_model ≡ true → Aligned code →
    ConsistentIn now d code x → ConsistentIn now d code x2 → x.retired + length x.window ≤ total → LeakUpTo d.stt_model code total x x2 →
    Along (WaitsToResolve d) [] x.window → Alike x x2 → (m : Marks) × StaysAlike m (resolve d x) (resolve d x2)

-- what Retire leaves: the same events, and machines that are equal but for values, whose paths go on leaking alike
pub record RetiresLeaking (model : SttModel) (code : Code) (total : ℕ) (r r2 : Retired) : Type 0 where
  pub events : r.events ≡ r2.events
  pub alike : Alike r.machine r2.machine
  pub leaks : r.machine.end ≡ None → LeakUpTo model code total r.machine r2.machine

-- Retire has the same events in two machines whose paths leak alike
abbrev pub RetireLeaksAlike : Type 0
RetireLeaksAlike = (now : ℕ) (d : Desc) (code : Code) (total : ℕ) (x x2 : Machine) → Aligned code → x.end ≡ None →
    ConsistentIn now d code x → ConsistentIn now d code x2 → x.retired + length x.window ≤ total → LeakUpTo d.stt_model code total x x2 →
    Alike x x2 → RetiresLeaking d.stt_model code total (retire d x) (retire d x2)
