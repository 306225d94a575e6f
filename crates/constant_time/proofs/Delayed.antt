-- Under the defence `delay` what shows waits, in every cycle of every run.
use Rattle.std.proofs.Common.{◌≡◌, ℕ, zero, suc, Bool, true, false, not, ◌&&◌, ◌||◌, List, [], ◌∷◌}
use Rattle.std.specs.Prelude.{if◌then◌else◌}
use Rattle.rv_types.specs.Memory.{Code}
use Rattle.rv_types.specs.Isa.{start}
use Rattle.rv_types.specs.declared.Kind.{Kind}
use Rattle.rv_types.specs.declared.Kind.TheVariants.{Load, Store, Div}
use Rattle.machine_desc.specs.declared.Desc.{Desc}
use Rattle.machine_desc.specs.Questions.{stores_in_one}
use Rattle.window_model.specs.declared.Entry.{Entry}
use Rattle.window_model.specs.State.{Machine}
use Rattle.window_model.specs.Along.{Along, Fact}
use Rattle.window_model.specs.Cycle.{cycle}
use Rattle.window_model.specs.Delay.{delays, may_show}
use Rattle.window_model.specs.MayIssue.{asks_by_parts, asks_in_one}
use Rattle.window_model.specs.Order.{base_of, has_address, has_data, is_control, is_done, is_waiting, sources}
use Rattle.window_model.specs.Ready.{all_known, ready}
use Rattle.window_model.specs.Path.{path}
use Rattle.window_model.specs.Resolve.{may_resolve}
use Rattle.window_model.specs.State.{opening}
use Rattle.window_model.specs.Taint.{address_tainted, any_tainted, visible}
use Rattle.window_model.proofs.Booleans.{both}
use Rattle.secret_marks.specs.Shows.{decides_as}
use Rattle.secret_marks.specs.Published.{no_stream}
use Rattle.constant_time.specs.Certified.{EveryCore, EveryCoreOfOneOutput, OnePathForAllOfOneOutput}
use Rattle.constant_time.specs.Laws.{ContractUnderDelay, DelayWaits}
use Rattle.constant_time.specs.Waits.{CycleWaits, RunWaits, WaitsToIssue, WaitsToResolve}
use Rattle.constant_time.proofs.PathMarks.{ended_leaks, nothing_published, path_tells}
use Rattle.constant_time.proofs.Runs.{any_secret, contract}

-- what may show under `delay` is visible
shown_visible : (y v : Bool) → y ≡ true → (not y || v) ≡ true → v ≡ true
shown_visible true v q h = h
shown_visible false v q h = absurd (cc)

module _ (d : Desc) (delayed : delays d.stt_defence ≡ true) where
  seen : (b : List Entry) → may_show d b ≡ true → visible d.stt_model b ≡ true
  seen b h = shown_visible (delays d.stt_defence) (visible d.stt_model b) delayed h

  asks_seen : (v : Bool) (b : List Entry) (e : Entry) → (if v then asks_in_one d b e else asks_by_parts d b e).address ≡ true → visible d.stt_model b ≡ true
  asks_seen true b e h = seen b (both (ready d b e && not (has_address e || has_data e)) (may_show d b) h).1
  asks_seen false b e h = seen b (both (may_show d b) (all_known d b (base_of (sources e))) (both (not (has_address e)) (may_show d b && all_known d b (base_of (sources e))) h).1).0

  decides_seen : (k : Kind) (b : List Entry) (e : Entry) → decides_as k d b e ≡ true → visible d.stt_model b ≡ true
  decides_seen Load b e h = seen b (both (not (address_tainted d.stt_model b e)) (may_show d b) (both (is_waiting e.state && ready d b e) (not (address_tainted d.stt_model b e) && may_show d b) h).1).1
  decides_seen Div b e h = seen b (both (not (any_tainted d.stt_model b e)) (may_show d b) (both (is_waiting e.state && ready d b e) (not (any_tainted d.stt_model b e) && may_show d b) h).1).1
  decides_seen Store b e h = asks_seen (stores_in_one d) b e h
  decides_seen _ b e h = absurd (cc)

  resolves_seen : (b : List Entry) (e : Entry) → may_resolve d b e ≡ true → visible d.stt_model b ≡ true
  resolves_seen b e h = seen b (both (not (any_tainted d.stt_model b e)) (may_show d b) (both (is_control e.item.kind && is_done e.state && not e.resolved) (not (any_tainted d.stt_model b e) && may_show d b) h).1).1

  all_wait : (P : Fact) → ((b : List Entry) (e : Entry) → P b e) → (b es : List Entry) → Along P b es
  all_wait P h b [] = tt
  all_wait P h b (e ∷ es) = (h b e, all_wait P h (e ∷ b) es)

  cycle_waits : (x : Machine) → CycleWaits d x
  cycle_waits x = record {
    resolves = all_wait (WaitsToResolve d) resolves_seen [] _;
    issues = all_wait (WaitsToIssue d) (λ b e. decides_seen e.item.kind b e) [] _;
  }

  run_waits : (code : Code) (n : ℕ) (x : Machine) → RunWaits d code n x
  run_waits code zero x = tt
  run_waits code (suc n) x = λ q. (cycle_waits x, run_waits code n (cycle d code x).machine)

-- under the defence `delay` what shows is visible in every cycle, whatever state it begins in
pub delay_waits : DelayWaits
delay_waits d code n x delayed = run_waits d delayed code n x

-- two memories whose paths leak alike give one trace, where the model protects and the defence is `delay`
pub contract_under_delay : ContractUnderDelay
contract_under_delay d code entry m m2 n protected delayed aligned agree leaks =
    contract d code entry m m2 n protected aligned agree (run_waits d delayed code n (opening d entry m)) leaks

-- ---- one path, and every core

-- one path on which nothing marked shows gives one trace for all secrets with which it publishes the same
pub one_path : OnePathForAllOfOneOutput
one_path public d code entry secret m m2 n protected aligned agree waits q e =
    contract d code entry m m2 n protected aligned (any_secret secret m m2 agree) waits (path_tells public d.stt_model code entry secret m m2 _ agree q e)

-- one path that ends with nothing shown gives one trace on every core for all secrets that publish the same
pub every_core_of_one_output : EveryCoreOfOneOutput
every_core_of_one_output public code entry secret m m2 k aligned agree d n protected delayed ends q e =
    let leaks = path_tells public d.stt_model code entry secret m m2 k agree q e in
    contract_under_delay d code entry m m2 n protected delayed aligned (any_secret secret m m2 agree) (ended_leaks (path d.stt_model) code k _ (start entry m) (start entry m2) ends leaks)

-- one path that ends with nothing shown gives one trace on every core for all secrets, where no stream is public
pub every_core : EveryCore
every_core code entry secret m m2 k aligned agree d n protected delayed ends q =
    every_core_of_one_output no_stream code entry secret m m2 k aligned agree d n protected delayed ends q (nothing_published (path d.stt_model) code k entry m m2)
