-- A cycle in which nothing shows moves marks alike beside two machines, and shows nothing of the second.
use Rattle.std.proofs.Common.{◌≡◌, ℕ, ◌+◌, ◌-◌, false, ◌||◌, List, [], ◌++◌, length, take, replicate, Option, Some, None, refl, ap, ap₂, sym, ◌∙◌, subst}
use Rattle.rv_types.specs.Memory.{Code}
use Rattle.rv_types.specs.declared.End.{End}
use Rattle.machine_desc.specs.declared.Desc.{Desc}
use Rattle.window_model.specs.declared.Entry.{Entry}
use Rattle.window_model.specs.State.{Machine}
use Rattle.window_model.specs.Fill.{fill, complete}
use Rattle.window_model.specs.Resolve.{resolve}
use Rattle.window_model.specs.Clear.{clear}
use Rattle.window_model.specs.Retire.{hart_of, retire, unless_ended}
use Rattle.window_model.specs.Issue.{issue}
use Rattle.window_model.specs.Rename.{rename}
use Rattle.window_model.specs.Cycle.{begins_cycle, cycle}
use Rattle.window_model.specs.Committed.{Aligned}
use Rattle.window_model.proofs.Booleans.{neither}
use Rattle.window_model.proofs.Quiet.{before_quiet}
use Rattle.committed_state.specs.Consistent.{Consistent, ConsistentIn}
use Rattle.committed_state.proofs.Cycle.{consistent_before}
use Rattle.committed_state.proofs.Numbers.{before_cycle, retire_cycle}
use Rattle.committed_state.proofs.Retire.{consistent_retire}
use Rattle.secret_marks.specs.Marks.{Marks, after_issue_marks, after_retire_marks, cut, with_new_entries, issued_from, new_entry}
use Rattle.secret_marks.specs.Published.{Public, public_piece, published_marks}
use Rattle.secret_marks.specs.Shows.{head_shows, resolved_shows}
use Rattle.secret_marks.specs.Watch.{Watched, then_watches, watch_before, watch_clear, watch_complete, watch_cycle, watch_fetch, watch_issue, watch_resolve, watch_retire}
use Rattle.secret_marks.specs.Alike.{AlikeBut, SameEntry}
use Rattle.secret_marks.proofs.Complete.{complete_keeps, fill_keeps}
use Rattle.secret_marks.proofs.Resolve.{resolve_keeps}
use Rattle.secret_marks.proofs.Clear.{clear_keeps}
use Rattle.secret_marks.proofs.Retire.{retire_keeps}
use Rattle.secret_marks.proofs.Publish.{retire_publishes, retire_puts_alike}
use Rattle.secret_marks.proofs.Issue.{issue_keeps}
use Rattle.secret_marks.proofs.RenameFetch.{rename_keeps}
use Rattle.secret_marks.proofs.Lists.{values_length}
use Rattle.secret_marks.proofs.Moved.{head_alike, marks_issued, marks_published, marks_retired, operands_alike, resolved_alike}
use Rattle.secret_marks.proofs.Cycle.{published_is, shows_after, shows_before}

-- nothing shows in the second of two parts that are watched, and its marks are those of the first
pub record Watches (a a2 : Watched) : Type 0 where
  pub shows : a2.shows ≡ false
  pub marks : a2.marks ≡ a.marks

-- one part and then another
joined : (a a2 : Watched) (more : Machine → Marks → Watched) → Watches a a2 → Watches (more a.machine a.marks) (more a2.machine a.marks) →
    Watches (then_watches a more) (then_watches a2 more)
joined a a2 more w f =
    let same : more a2.machine a2.marks ≡ more a2.machine a.marks = ap (more a2.machine) w.marks in
    record {
      shows = ap₂ (λ p q. p || q) w.shows (ap (λ (u : Watched). u.shows) same ∙ f.shows);
      marks = ap (λ (u : Watched). u.marks) same ∙ f.marks;
    }

-- windows of one length are cut alike, and extended alike
cut_alike : (m : Marks) (w w2 : List Entry) → length w ≡ length w2 → cut w2 m ≡ cut w m
cut_alike m w w2 l = ap (λ n. let u : Marks = record m { window = take n m.window } in u) (sym l)

extended_alike : (m : Marks) (w w2 : List Entry) → length w ≡ length w2 → with_new_entries w2 m ≡ with_new_entries w m
extended_alike m w w2 l = ap (λ n. let u : Marks = record m { window = m.window ++ replicate (n - length m.window) new_entry } in u) (sym l)

module _ (d : Desc) (m : Marks) (x x2 : Machine) (h : AlikeBut m x x2) where
  resolve_watched : (watch_resolve d x m).shows ≡ false → Watches (watch_resolve d x m) (watch_resolve d x2 m)
  resolve_watched n =
      let y = (resolve d x).machine in
      let y2 = (resolve d x2).machine in
      let s = (resolve_keeps d m x x2 h n).alike in
      let same = cut_alike m y.window y2.window (values_length SameEntry (cut y.window m).window y.window y2.window s.window) in
      record {
        shows = ap (λ (k : Marks). resolved_shows y2.window k.window) same ∙ sym (resolved_alike (cut y.window m).window y.window y2.window s.window) ∙ n;
        marks = same;
      }

  clear_watched : Watches (watch_clear d x m) (watch_clear d x2 m)
  clear_watched =
      let y = (clear d x).machine in
      let y2 = (clear d x2).machine in
      let s = (clear_keeps d m x x2 h).alike in
      record { shows = refl; marks = cut_alike m y.window y2.window (values_length SameEntry (cut y.window m).window y.window y2.window s.window) }

  retire_watched : (now : ℕ) (public : Public) (code : Code) → ConsistentIn now d code x → head_shows x.window x m ≡ false →
      public_piece public (hart_of x) (retire d x).piece ≡ public_piece public (hart_of x2) (retire d x2).piece →
      Watches (watch_retire public d x m) (watch_retire public d x2 m)
  retire_watched now public code c n q =
      let r = retire d x in
      let r2 = retire d x2 in
      let k = after_retire_marks x.window r.machine m in
      let k2 = after_retire_marks x2.window r2.machine m in
      let s = (retire_keeps now d code m x x2 c h n).alike in
      record {
        shows = head_alike m x x2 h n;
        marks = sym (ap (published_marks public x r.piece) (marks_retired m x x2 h k r.machine r2.machine s)
            ∙ marks_published public x x2 r r2 k2 (retire_puts_alike m x x2 h now d code c n) q);
      }

  issue_watched : (code : Code) → ConsistentIn x.cycle d code x → (watch_issue d x m).shows ≡ false → Watches (watch_issue d x m) (watch_issue d x2 m)
  issue_watched code c n =
      let y = (issue d x).machine in
      let y2 = (issue d x2).machine in
      let s = (issue_keeps d code m x x2 c h n).alike in
      let others = s.others in
      record {
        shows = sym (operands_alike d m x x2 h [] [] [] tt m.window x.window x2.window h.window) ∙ n;
        marks = sym (ap₂ (λ now base. let u : Marks = record m { window = issued_from now base m [] [] y.window m.window } in u) (ap (λ (t : Machine). t.cycle) others) (ap (λ (t : Machine). t.ram.base) others)
            ∙ ap (λ w. let u : Marks = record m { window = w } in u) (marks_issued y2.cycle y2.ram.base m [] [] [] [] tt m.window (after_issue_marks y m).window y.window y2.window s.window));
      }

  fetch_watched : (code : Code) → Watches (watch_fetch d code x m) (watch_fetch d code x2 m)
  fetch_watched code =
      let y = (rename d x).machine in
      let y2 = (rename d x2).machine in
      let s = (rename_keeps d m x x2 h).alike in
      record { shows = refl; marks = extended_alike m y.window y2.window (values_length SameEntry (with_new_entries y.window m).window y.window y2.window s.window) }

module _ (public : Public) (d : Desc) (code : Code) (aligned : Aligned code) (m : Marks) (x x2 : Machine) (c : Consistent d code x) (ne : x.end ≡ None) (h : AlikeBut m x x2) (n : (watch_cycle public d code x m).shows ≡ false) (q : public_piece public (hart_of x) (cycle d code x).piece ≡ public_piece public (hart_of x2) (cycle d code x2).piece) where
  by_end : (o o2 : Option End) → o ≡ o2 → (R R2 : Watched) → Watches R R2 → AlikeBut R.marks R.machine R2.machine →
      ConsistentIn R.machine.cycle d code R.machine → (o ≡ None → (watch_issue d R.machine R.marks).shows ≡ false) →
      Watches (unless_ended o R (then_watches (then_watches R (watch_issue d)) (watch_fetch d code))) (unless_ended o2 R2 (then_watches (then_watches R2 (watch_issue d)) (watch_fetch d code)))
  by_end None None p R R2 w a k f =
      let i = issue_keeps d code R.marks R.machine R2.machine k a (f refl) in
      joined (then_watches R (watch_issue d)) (then_watches R2 (watch_issue d)) (watch_fetch d code)
      (joined R R2 (watch_issue d) w (issue_watched d R.marks R.machine R2.machine a code k (f refl)))
      (fetch_watched d (watch_issue d R.machine R.marks).marks (issue d R.machine).machine (issue d R2.machine).machine i.alike code)
  by_end (Some e) (Some e2) p R R2 w a k f = w
  by_end _ _ p R R2 w a k f = absurd (cc)

  -- where nothing shows of one machine in a cycle, and both publish the same, nothing shows of the other
  pub cycle_watched : Watches (watch_cycle public d code x m) (watch_cycle public d code x2 m)
  cycle_watched =
      let x1 = begins_cycle x in
      let x12 = begins_cycle x2 in
      let h1 : AlikeBut m x1 x12 = record { others = ap begins_cycle h.others; regs = h.regs; bytes = h.bytes; window = h.window } in
      let s1 = fill_keeps d m x1 x12 h1 in
      let y = (fill d x1).machine in
      let y2 = (fill d x12).machine in
      let s2 = complete_keeps m y y2 s1.alike in
      let z = (complete y).machine in
      let z2 = (complete y2).machine in
      let parts = neither _ _ (shows_before d code public x m (watch_before public d x m).machine.end n) in
      let resolves = (neither _ false parts.0).0 in
      let s3 = resolve_keeps d m z z2 s2.alike resolves in
      let w = (resolve d z).machine in
      let w2 = (resolve d z2).machine in
      let k = cut w.window m in
      let s4 = clear_keeps d k w w2 s3.alike in
      let v = (clear d w).machine in
      let v2 = (clear d w2).machine in
      let l = cut v.window k in
      let now = x.cycle + 1 in
      let c4 : ConsistentIn now d code v = consistent_before code d x c in
      let same = sym (published_is public d code x) ∙ q ∙ published_is public d code x2 in
      let first = watch_complete d x1 m in
      let first2 = watch_complete d x12 m in
      let started : Watches first first2 = record { shows = refl; marks = refl } in
      let resolved : Watches (then_watches first (watch_resolve d)) (then_watches first2 (watch_resolve d)) = joined first first2 (watch_resolve d) started (resolve_watched d m z z2 s2.alike resolves) in
      let cleared : Watches (then_watches (then_watches first (watch_resolve d)) (watch_clear d)) (then_watches (then_watches first2 (watch_resolve d)) (watch_clear d)) =
      joined (then_watches first (watch_resolve d)) (then_watches first2 (watch_resolve d)) (watch_clear d) resolved (clear_watched d k w w2 s3.alike) in
      let before : Watches (watch_before public d x m) (watch_before public d x2 m) =
      joined (then_watches (then_watches first (watch_resolve d)) (watch_clear d)) (then_watches (then_watches first2 (watch_resolve d)) (watch_clear d)) (watch_retire public d) cleared
      (retire_watched d l v v2 s4.alike now public code c4 parts.1 same) in
      let s5 = retire_publishes now public d code l v v2 c4 s4.alike parts.1 same in
      let r = (retire d v).machine in
      let ne4 : v.end ≡ None = (before_quiet d x).ended ∙ ne in
      let c5 = consistent_retire now code aligned d v c4 ne4 in
      let at : r.cycle ≡ now = retire_cycle d v ∙ before_cycle d x in
      by_end r.end (retire d v2).machine.end (ap (λ (t : Machine). t.end) s5.alike.others) (watch_before public d x m) (watch_before public d x2 m) before s5.alike
      (subst (λ k. ConsistentIn k d code r) (sym at) c5) (shows_after d code public x m (watch_before public d x m).machine.end n)
