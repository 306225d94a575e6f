-- Where the visibility point needn't move: it says of what a phase leaves which entries are visible, as it said of the
-- window before.
use Rattle.std.proofs.Common.{◌≡◌, ◌++◌, List, [], length, ap, sym, subst, ◌∙◌, arith}
use Rattle.std.proofs.lemmas.List.{length-append, nil_from_length}
use Rattle.std.specs.List.{AllByRecursion as Each}
use Rattle.machine_desc.specs.declared.Desc.{Desc}
use Rattle.machine_desc.specs.declared.SttModel.TheVariants.{Futuristic}
use Rattle.window_model.specs.declared.Event.{Event}
use Rattle.window_model.specs.Clear.{clear}
use Rattle.window_model.specs.Fill.{complete, fill}
use Rattle.window_model.specs.Rename.{rename, CallAlone}
use Rattle.window_model.specs.Resolve.{resolve}
use Rattle.window_model.specs.Row.{Row}
use Rattle.window_model.specs.State.{Machine, After}
use Rattle.quiet_cycles.proofs.Early.{clear_nothing, complete_nothing, none_done, none_resolves, resolve_nothing}
use Rattle.quiet_cycles.proofs.RenameFetch.{rename_nothing}
use Rattle.visibility.specs.Point.{HasAdvanced, Point}
use Rattle.rob_ring.specs.Ring.{Ring}
use Rattle.retire.specs.Gone.{leaving_entries, MayRetire}
use Rattle.core_parts.specs.Described.{Described}
use Rattle.core_parts.specs.Held.{Held, Whole, described_of}
use Rattle.core_cycle.proofs.Advanced.{complete_advanced, retire_advanced}

-- ---- a phase without events leaves the window as it was

-- a row that is as long as it was has no event more
pub no_more : (old new : Row) (es : List Event) → new ≡ record old { events = old.events ++ es } → length new.events ≡ length old.events → es ≡ []
no_more old new es e same =
    let n = ap (λ (r : Row). length r.events) e in
    let m = length-append old.events es in
    nil_from_length es (omega (arith, n, m, same))

module _ (p : Point) (x : Machine) (old new : Row) (same : length new.events ≡ length old.events) (a : HasAdvanced p x.window) where
  -- a Complete without events leaves the point where it has moved over the window
  pub complete_silent : new ≡ record old { events = old.events ++ (complete x).events } → HasAdvanced p (complete x).machine.window
  complete_silent e =
      let stays = complete_nothing x (none_done x (no_more old new (complete x).events e same)) in
      subst (HasAdvanced p) (sym (ap (λ (b : After). b.machine.window) stays)) a

  -- a Resolve without events leaves the point where it has moved over the window
  pub resolve_silent : (d : Desc) → new ≡ record old { events = old.events ++ (resolve d x).events } → HasAdvanced p (resolve d x).machine.window
  resolve_silent d e =
      let stays = resolve_nothing d x (none_resolves d x (no_more old new (resolve d x).events e same)) in
      subst (HasAdvanced p) (sym (ap (λ (b : After). b.machine.window) stays)) a

  -- a Clear without events leaves the point where it has moved over the window
  pub clear_silent : (d : Desc) → new ≡ record old { events = old.events ++ (clear d x).events } → HasAdvanced p (clear d x).machine.window
  clear_silent d e =
      let stays = clear_nothing d x.cycle x (no_more old new (clear d x).events e same) in
      subst (HasAdvanced p) (sym (ap (λ (b : After). b.machine.window) stays)) a

  -- a Rename without events leaves the point where it has moved over the window
  pub rename_silent : (d : Desc) → new ≡ record old { events = old.events ++ (rename d x).events } → HasAdvanced p (rename d x).machine.window
  rename_silent d e =
      let stays = rename_nothing d x.cycle x (no_more old new (rename d x).events e same) in
      subst (HasAdvanced p) (sym (ap (λ (b : After). b.machine.window) stays)) a

-- ---- what a phase leaves of the parts

-- the point said which entries are visible
pub advanced_here : (h : Held) (v : Described) → described_of h ≡ v → HasAdvanced v.point v.machine.window → HasAdvanced h.point h.rob.entries
advanced_here h v s a = subst (λ (v : Described). HasAdvanced v.point v.machine.window) (sym s) a

pub retire_goes_on : (h : Held) (rob : Ring) (v : Described) → Whole h → h.rob.entries ≡ leaving_entries h.rob rob ++ rob.entries → Each MayRetire (leaving_entries h.rob rob) → described_of h ≡ v →
    HasAdvanced v.point v.machine.window → HasAdvanced h.point rob.entries
retire_goes_on h rob v w left m s a =
    retire_advanced h.point (leaving_entries h.rob rob) rob.entries m (subst CallAlone left w.sized.call_alone) (subst (HasAdvanced h.point) left (advanced_here h v s a))

-- ---- the core's point, once the machine is another

-- a point that has moved over a machine's window has done so once the parts hold that machine
pub described_advanced : (s s1 : Described) (x : Machine) → s1 ≡ record s { machine = x } → HasAdvanced s.point x.window → HasAdvanced s1.point s1.machine.window
described_advanced s s1 x e a = subst (λ (s : Described). HasAdvanced s.point s.machine.window) (sym e) a

module _ (s s1 s2 : Described) (filled : s1 ≡ record s { machine = (fill s.desc s.machine).machine }) (completed : s2 ≡ record s1 { machine = (complete s1.machine).machine })
    (a : HasAdvanced s.point s.machine.window) where
  -- after Fill and Complete a point that had moved over the window has done so under each model but Futuristic
  pub completed_advanced : (s2.point.model ≡ Futuristic → ⊥) → HasAdvanced s2.point s2.machine.window
  completed_advanced other =
      described_advanced s1 s2 _ completed
      (complete_advanced s1.point s1.machine (λ q. other (ap (λ (t : Described). t.point.model) completed ∙ q)) (described_advanced s s1 _ filled a))

  -- after Fill and a Complete without events a point that had moved over the window has done so
  pub completed_silent : (old new : Row) → new ≡ record old { events = old.events ++ (complete s1.machine).events } → length new.events ≡ length old.events → HasAdvanced s2.point s2.machine.window
  completed_silent old new e same =
      described_advanced s1 s2 _ completed (complete_silent s1.point s1.machine old new same (described_advanced s s1 _ filled a) e)
