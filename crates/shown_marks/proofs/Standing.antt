-- The walk from station to station, and what the parts of a core tell as it begins.
use Rattle.std.proofs.Common.{◌≡◌, ℕ, ◌+◌, ◌≤◌, Bool, true, false, [], length, Some, None, refl, sym, ◌∙◌, arith}
use Rattle.window_model.specs.Order.{before_at}
use Rattle.stations.specs.Stations.{NoneAble}
use Rattle.issue.proofs.Asking.{step_at}
use Rattle.issue.proofs.Skipping.{PassesUnable, passes_unable, past_all}
use Rattle.issue.proofs.Waiting.{Keeps, Reaches, all_wait, at_end, at_next, goes_on}
use Rattle.secret_marks.specs.declared.Shown.{Shown}
use Rattle.secret_marks.specs.Shows.{operand_shows}
use Rattle.secret_marks.specs.Shown.{operands_shown, shown_by}
use Rattle.entry_marks.specs.Beside.{marks_before}
use Rattle.issue.specs.declared.candidate.Candidate.{Candidate}
use Rattle.shown_marks.specs.declared.seen.Seen.{Seen}
use Rattle.shown_marks.specs.State.{HasTurn, ShowsInvariant, before_of, each_marks, flight_of, marks_before_of, marks_in, window_of}
use Rattle.shown_marks.proofs.Deciding.{moved, silent, unable_silent, unwaiting_silent}
use Rattle.shown_marks.proofs.Walking.{ShowsFrom, all_from, shows_here, shows_later, shows_nowhere}

-- what shows from position i on is what shows first in the whole window
abbrev pub Shows : Seen → ℕ → Type 0
Shows s i = ShowsFrom s.desc.now (marks_in s) (window_of s) (each_marks s) i

module _ (s : Seen) (stands : ShowsInvariant s) where
  -- an entry that doesn't wait is passed: what shows behind it is what shows from it on
  keeps : Keeps (Shows s) (window_of s)
  keeps i e h w t =
      let in_step = step_at s.desc.now (window_of s) i e stands.store_parts stands.together h in
      let quiet = unwaiting_silent s.desc.now (before_at (window_of s) i) e in_step w in
      shows_later s.desc.now (marks_in s) (window_of s) (each_marks s) stands.step i e h (silent s.desc.now (before_at (window_of s) i) e (marks_in s) (marks_before (each_marks s) i) quiet) t

  -- no entry shows that is older than the one at station k
  abbrev pub Reached : ℕ → Type 0
  Reached k = Reaches (Shows s) (window_of s) k

  pub reached_first : Reached 0
  reached_first = record { position = 0; within = omega arith; station = refl; holds = all_from s.desc.now (marks_in s) (window_of s) (each_marks s) }

  -- ---- past stations that aren't able

  -- no entry shows before the next station, where none shows before this one, which isn't able
  pub reached_past : PassesUnable s.stations.now.held Reached
  reached_past = passes_unable s.desc.now (flight_of stands.rest s) refl stands.refines (moved s stands) (Shows s) keeps (λ i e h w lacks.
      shows_later s.desc.now (marks_in s) (window_of s) (each_marks s) stands.step i e h
      (silent s.desc.now (before_at (window_of s) i) e (marks_in s) (marks_before (each_marks s) i) (unable_silent s.desc.now (before_at (window_of s) i) e w lacks)))

  -- no entry shows before the next station that is able, where none shows before this one
  pub reached_to : (k to : ℕ) → k ≤ to → to ≤ length s.stations.now.held → NoneAble s.stations.now.held k to → Reached k → Reached to
  reached_to = past_all s.stations.now.held Reached reached_past

  -- behind the last station nothing shows in all, where nothing showed before
  pub reached_end : (k : ℕ) → k ≡ length s.stations.now.held → Reached k → None ≡ operands_shown s.desc.now (marks_in s) [] [] (window_of s) (each_marks s)
  reached_end k end t =
      shows_nowhere s.desc.now (marks_in s) (window_of s) (each_marks s)
      (at_end (Shows s) (window_of s) k keeps t (all_wait (flight_of stands.rest s) stands.refines ∙ sym end))

  -- nothing shows in all, where nothing showed before and no station that is left is able
  pub reached_rest : (k : ℕ) → k ≤ length s.stations.now.held → NoneAble s.stations.now.held k (length s.stations.now.held) → Reached k → None ≡ operands_shown s.desc.now (marks_in s) [] [] (window_of s) (each_marks s)
  reached_rest k le none t = reached_end (length s.stations.now.held) refl (reached_to k (length s.stations.now.held) le (omega arith) none t)

  -- ---- at a station that is able

  module _ (k : ℕ) (p : Candidate) (turn : HasTurn s p) (at : p.station ≡ k) where
    abbrev shows : Bool
    shows = operand_shows s.desc.now (marks_in s) (before_of s p) (marks_before_of s p) p.entry.now

    -- the entry at this station shows first in all, where it shows and none did before
    pub reached_shows : (shown : Shown) → shows ≡ true → shown ≡ shown_by p.entry.now → Reached k → Some shown ≡ operands_shown s.desc.now (marks_in s) [] [] (window_of s) (each_marks s)
    reached_shows shown q is t =
        shows_here s.desc.now (marks_in s) (window_of s) (each_marks s) stands.step p.position p.entry.now turn.candidate.at shown q is
        (at_next (Shows s) (window_of s) k p.position p.entry.now keeps t turn.candidate.at turn.candidate.waits (sym turn.candidate.station ∙ at))

    -- the walk goes on to the next station, where the entry at this one doesn't show
    pub reached_next : shows ≡ false → Reached k → Reached (k + 1)
    reached_next q t =
        goes_on _ _ (window_of s) k p.position p.entry.now keeps t turn.candidate.at turn.candidate.waits (sym turn.candidate.station ∙ at)
        (shows_later s.desc.now (marks_in s) (window_of s) (each_marks s) stands.step p.position p.entry.now turn.candidate.at q)
