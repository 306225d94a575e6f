-- A cycle in which every phase does nothing.
use Rattle.std.proofs.Common.{◌≡◌, ℕ, ◌+◌, ◌<◌, List, [], ◌++◌, Option, Some, None, refl, ap, sym, ◌∙◌, subst}
use Rattle.std.proofs.lemmas.List.Elements.{recursion_from_All}
use Rattle.rv_types.specs.Memory.{Code}
use Rattle.rv_types.specs.declared.End.{End}
use Rattle.machine_desc.specs.declared.Desc.{Desc}
use Rattle.window_model.specs.declared.Event.{Event}
use Rattle.window_model.specs.State.{Machine, After, then_does, nothing}
use Rattle.window_model.specs.Around.{around}
use Rattle.window_model.specs.Order.{first}
use Rattle.window_model.specs.Fill.{fill, complete}
use Rattle.window_model.specs.Resolve.{resolve, may_resolve}
use Rattle.window_model.specs.Clear.{clear}
use Rattle.window_model.specs.Retire.{Retired, retire, stays, unless_ended}
use Rattle.window_model.specs.Issue.{issue}
use Rattle.window_model.specs.Rename.{rename}
use Rattle.window_model.specs.Fetch.{fetch}
use Rattle.window_model.specs.Cycle.{Cycled, after_retire, before_retire, cycle}
use Rattle.window_model.proofs.Quiet.{after_quiet}
use Rattle.quiet_cycles.specs.Still.{NothingDueBefore, Still, at_cycle}
use Rattle.quiet_cycles.proofs.Nothing.{both_empty, nothing_first, nothing_then}
use Rattle.quiet_cycles.proofs.Early.{NoLine, no_line, fill_nothing, no_line_later, NoneDone, none_done, complete_nothing, none_done_later, none_resolves, resolve_nothing, clear_nothing}
use Rattle.quiet_cycles.proofs.Turns.{retire_nothing}
use Rattle.quiet_cycles.proofs.RenameFetch.{rename_nothing, fetch_nothing}
use Rattle.quiet_cycles.proofs.Waiting.{NoneBegins, none_begins, issue_nothing}
use Rattle.quiet_cycles.proofs.Later.{free_as_before, none_begins_later}

-- ---- what holds where nothing happens

-- nothing happens in the phases after Retire: nothing issues, and whatever the cycle nothing is renamed or fetched
pub record SilentAfter (d : Desc) (code : Code) (x : Machine) : Type 0 where
  pub begins : NoneBegins d (around x) [] x.window
  pub renames : (c : ℕ) → rename d (at_cycle c x) ≡ nothing (at_cycle c x)
  pub fetches : (c : ℕ) → fetch d code (at_cycle c x) ≡ nothing (at_cycle c x)

-- nothing happens in a cycle: no line comes, no entry becomes Done or is resolved, and whatever the cycle none is
-- cleared or retires; nor does anything happen after Retire, unless the run has ended
pub record Silent (d : Desc) (code : Code) (x : Machine) : Type 0 where
  pub lines : NoLine x.cycle x.misses
  pub dones : NoneDone x.cycle x.window
  pub resolves : first (may_resolve d) x.window ≡ None
  pub clears : (c : ℕ) → clear d (at_cycle c x) ≡ nothing (at_cycle c x)
  pub retires : (c : ℕ) → retire d (at_cycle c x) ≡ stays (at_cycle c x)
  pub goes_on : x.end ≡ None → SilentAfter d code x

module _ (d : Desc) (code : Code) where
  -- ---- from the facts to the cycle

  -- the phases before Retire, from Resolve on
  abbrev from_resolve : Machine → After
  from_resolve z = then_does (resolve d z) (clear d)

  -- the phases before Retire, from Complete on
  abbrev from_complete : Machine → After
  from_complete y = then_does (complete y) from_resolve

  before_nothing : (x : Machine) → Silent d code x → before_retire d x ≡ nothing x
  before_nothing x s =
      nothing_then x (fill d x) from_complete (fill_nothing d x s.lines)
      (nothing_then x (complete x) from_resolve (complete_nothing x s.dones)
      (nothing_then x (resolve d x) (clear d) (resolve_nothing d x s.resolves) (s.clears x.cycle)))

  by_end : (o : Option End) (x : Machine) → x.end ≡ o → Silent d code x → unless_ended o (nothing x) (then_does (issue d x) (λ y. then_does (rename d y) (fetch d code))) ≡ nothing x
  by_end (Some e) x q s = refl
  by_end None x q s =
      let b = s.goes_on q in
      nothing_then x (issue d x) (λ y. then_does (rename d y) (fetch d code)) (issue_nothing d x b.begins)
      (nothing_then x (rename d x) (fetch d code) (b.renames x.cycle) (b.fetches x.cycle))

  after_nothing : (x : Machine) → Silent d code x → after_retire d code x ≡ nothing x
  after_nothing x s = by_end x.end x refl s

  -- a cycle from what its first phases leave, what Retire does, and the phases after it
  abbrev ends_as : ℕ → List Event → Retired → After → Cycled
  ends_as c events r b = record { machine = b.machine; row = record { cycle = c; events = events ++ r.events ++ b.events }; piece = r.piece }

  abbrev retires_as : ℕ → List Event → Retired → Cycled
  retires_as c events r = ends_as c events r (after_retire d code r.machine)

  abbrev begins_as : ℕ → After → Cycled
  begins_as c f = retires_as c f.events (retire d f.machine)

  pub still_if : (x : Machine) → Silent d code (at_cycle (x.cycle + 1) x) → Still d code x
  unfolding cycle
  still_if x s =
      let c = x.cycle + 1 in
      let y = at_cycle c x in
      ap (begins_as c) (before_nothing y s) ∙ ap (retires_as c []) (s.retires c) ∙ ap (ends_as c [] (stays y)) (after_nothing y s)

  -- ---- from the cycle to the facts

  after_silent : (x : Machine) → (after_retire d code x).events ≡ [] → x.end ≡ None → SilentAfter d code x
  after_silent x h q =
      let h2 : (then_does (issue d x) (λ y. then_does (rename d y) (fetch d code))).events ≡ [] =
      subst (λ o. (unless_ended o (nothing x) (then_does (issue d x) (λ y. then_does (rename d y) (fetch d code)))).events ≡ []) q h in
      let i = nothing_first x (issue d x) (λ y. then_does (rename d y) (fetch d code)) h2 (λ e. issue_nothing d x (none_begins d x e)) in
      let r = nothing_first x (rename d x) (fetch d code) i.1 (λ e. rename_nothing d x.cycle x e) in
      record {
        begins = none_begins d x i.0;
        renames = λ c. rename_nothing d c x r.0;
        fetches = λ c. fetch_nothing d code c x r.1;
      }

  -- nothing happens in a cycle whose phases before Retire, Retire and those after it have no event and leave the end
  silent_by : (x : Machine) → (before_retire d x).events ≡ [] → (retire d (before_retire d x).machine).events ≡ [] → (after_retire d code (retire d (before_retire d x).machine).machine).events ≡ [] →
      (after_retire d code (retire d (before_retire d x).machine).machine).machine.end ≡ x.end → Silent d code x
  silent_by x h k l m =
      let f = nothing_first x (fill d x) from_complete h (λ e. fill_nothing d x (no_line d x e)) in
      let g = nothing_first x (complete x) from_resolve f.1 (λ e. complete_nothing x (none_done x e)) in
      let v = nothing_first x (resolve d x) (clear d) g.1 (λ e. resolve_nothing d x (none_resolves d x e)) in
      let r = none_resolves d x v.0 in
      let n : before_retire d x ≡ nothing x =
      nothing_then x (fill d x) from_complete (fill_nothing d x (no_line d x f.0))
      (nothing_then x (complete x) from_resolve (complete_nothing x (none_done x g.0))
      (nothing_then x (resolve d x) (clear d) (resolve_nothing d x r) (clear_nothing d x.cycle x v.1))) in
      let k2 : (retire d x).events ≡ [] = subst (λ (a : After). (retire d a.machine).events ≡ []) n k in
      let l2 : (after_retire d code (retire d x).machine).events ≡ [] = subst (λ (a : After). (after_retire d code (retire d a.machine).machine).events ≡ []) n l in
      let m2 : (after_retire d code (retire d x).machine).machine.end ≡ x.end = subst (λ (a : After). (after_retire d code (retire d a.machine).machine).machine.end ≡ x.end) n m in
      let e : (retire d x).machine.end ≡ x.end = sym (after_quiet d code (retire d x).machine).ended ∙ m2 in
      let t : retire d x ≡ stays x = retire_nothing d x.cycle x k2 e in
      let l3 : (after_retire d code x).events ≡ [] = subst (λ (r : Retired). (after_retire d code r.machine).events ≡ []) t l2 in
      record {
        lines = no_line d x f.0;
        dones = none_done x g.0;
        resolves = r;
        clears = λ c. clear_nothing d c x v.1;
        retires = λ c. retire_nothing d c x k2 e;
        goes_on = after_silent x l3;
      }

  pub silent_if : (x : Machine) → (cycle d code x).row.events ≡ [] → (cycle d code x).machine.end ≡ x.end → Silent d code (at_cycle (x.cycle + 1) x)
  unfolding cycle
  silent_if x h k =
      let y = at_cycle (x.cycle + 1) x in
      let r = retire d (before_retire d y).machine in
      let b = after_retire d code r.machine in
      let s = both_empty ((before_retire d y).events ++ r.events) b.events h in
      let t = both_empty (before_retire d y).events r.events s.0 in
      silent_by y t.0 t.1 s.1 k

  -- ---- On to later cycles

  pub silent_later : (n c : ℕ) (x : Machine) → NothingDueBefore n x → x.cycle < c → c < n → Silent d code x → Silent d code (at_cycle c x)
  silent_later n c x due l m s = record {
    lines = no_line_later n x.cycle c x.misses (recursion_from_All _ x.misses due.lines) l m;
    dones = none_done_later n x.cycle c x.window (recursion_from_All _ x.window due.entries) l m;
    resolves = s.resolves;
    clears = s.clears;
    retires = s.retires;
    goes_on = λ q. let b = s.goes_on q in record {
      begins = none_begins_later d x c (free_as_before n x.cycle c x.divider.free_from due.divider l m) b.begins;
      renames = b.renames;
      fetches = b.fetches;
    };
  }
