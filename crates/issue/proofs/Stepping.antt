-- From station to station: what holds as the walk goes on, past one that may not issue, by one that has its turn, and
-- at the end.
use Rattle.std.proofs.Common.{◌≡◌, ℕ, ◌+◌, ◌≤◌, ◌++◌, length, refl, ap, sym, ◌∙◌, arith}
use Rattle.std.specs.List.{flat_map}
use Rattle.window_model.specs.Issue.{issue_entry}
use Rattle.window_model.specs.Order.{before_at}
use Rattle.window_model.specs.Row.{Row}
use Rattle.window_model.specs.inner.Row.{IsLonger, most_issued, with_events}
use Rattle.unit_ports.specs.Ports.{Ports}
use Rattle.stations.specs.Stations.{NoneAble}
use Rattle.core_parts.specs.declared.decided.Decided.{Decided}
use Rattle.issue.specs.declared.candidate.Candidate.{Candidate}
use Rattle.issue.specs.declared.seen.Seen.{Seen}
use Rattle.issue.specs.Decisions.{DecidesFor, HadTurn, most_begun, turns_of}
use Rattle.issue.specs.Ports.{LeftFor, OnlyPorts, events_left, left_in_all}
use Rattle.issue.specs.Puts.{ArePuts}
use Rattle.issue.specs.State.{HasTurn, IssueInvariant, around_of, here, flight_of, window_of}
use Rattle.issue.proofs.Asking.{not_able}
use Rattle.issue.proofs.Noting.{as_many_events, as_many_puts, only_both, row_is}
use Rattle.issue.proofs.Skipping.{PassesUnable, passes_unable, past_all}
use Rattle.issue.proofs.Testing.{moved}
use Rattle.issue.proofs.Waiting.{Reaches, all_wait, at_end, at_next, goes_on}
use Rattle.issue.proofs.Walking.{Walked, decided_all, decided_more, keeps, left_on, walked_past}

-- what the entries before a station have decided, with the ports and the row as they began
pub record Walks (s : Seen) (first ports : Ports) (decided : Decided) (start row : Row) (k : ℕ) : Type 0 where
  pub walked : Reaches (Walked s ports decided.puts.items decided.load first.divider start.events row.events) (window_of s) k
  pub only : OnlyPorts first ports
  pub few : length decided.puts.items + left_in_all ports ≤ most_begun
  pub room : length row.events + events_left ports ≤ length start.events + most_issued
  pub cycle : row.cycle ≡ start.cycle

-- what has been decided once each entry has had its turn
pub record WalksAll (s : Seen) (first ports : Ports) (decided : Decided) (start last : Row) : Type 0 where
  pub decides : DecidesFor s decided first.divider ports.divider
  pub puts : ArePuts (window_of s) decided.puts.items
  pub row : last ≡ with_events start (flat_map (λ b. b.events) (turns_of s))
  pub only : OnlyPorts first ports
  pub few : IsLonger most_issued start last

module _ (s : Seen) (first ports : Ports) (decided : Decided) (start row : Row) (stands : IssueInvariant s) where
  -- the walk goes past a station that isn't able
  pub walks_past : PassesUnable s.stations.now.held (Walks s first ports decided start row)
  walks_past k lt unable t = record {
    walked = passes_unable s.desc.now (flight_of stands.next stands.writes s) refl stands.refines (moved s stands) _ (keeps s ports _ _ _ _ _ stands)
        (λ i e h w lacks. walked_past s ports _ _ _ _ _ stands i e h (not_able s.desc.now (around_of s) (before_at (window_of s) i) e w lacks)) k lt unable t.walked;
    only = t.only;
    few = t.few;
    room = t.room;
    cycle = t.cycle;
  }

  -- the walk goes past stations that aren't able to the next one that is
  pub walks_to : (k to : ℕ) → k ≤ to → to ≤ length s.stations.now.held → NoneAble s.stations.now.held k to → Walks s first ports decided start row k → Walks s first ports decided start row to
  walks_to = past_all s.stations.now.held _ walks_past

  -- the walk goes past all stations that are left, and all is decided
  pub walks_out : (k : ℕ) → k ≡ length s.stations.now.held → Walks s first ports decided start row k → WalksAll s first ports decided start row
  walks_out k end t =
      let room = t.room in
      let many = all_wait (flight_of stands.next stands.writes s) stands.refines in
      let walked = at_end _ (window_of s) k (keeps s ports _ _ _ _ _ stands) t.walked (many ∙ sym end) in
      let all = decided_all s (length (window_of s)) decided _ _ _ _ (omega arith) walked.decided in
      record {
        decides = all.decides;
        puts = all.puts_are;
        row = row_is start row _ t.cycle all.events_are;
        only = t.only;
        few = omega (arith, room);
      }

  -- all is decided where no station that is left is able
  pub walks_rest : (k : ℕ) → k ≤ length s.stations.now.held → NoneAble s.stations.now.held k (length s.stations.now.held) → Walks s first ports decided start row k → WalksAll s first ports decided start row
  walks_rest k le none t = walks_out (length s.stations.now.held) refl (walks_to k (length s.stations.now.held) le (omega arith) none t)

  -- the ports that are left to the one at a station
  pub left_here : (k : ℕ) (p : Candidate) → HasTurn s p → p.station ≡ k → Walks s first ports decided start row k → LeftFor s p ports
  left_here k p turn at t = (at_next _ (window_of s) k p.position p.entry.now (keeps s ports _ _ _ _ _ stands) t.walked turn.candidate.at turn.candidate.waits (sym turn.candidate.station ∙ at)).left

  -- the walk goes on behind an entry that has had its turn
  pub walks_on : (k : ℕ) (p : Candidate) (new_ports : Ports) (new_decided : Decided) (new_row : Row) → HasTurn s p → p.station ≡ k → HadTurn s p ports decided row new_ports new_decided new_row →
      Walks s first ports decided start row k → Walks s first new_ports new_decided start new_row (k + 1)
  walks_on k p new_ports new_decided new_row turn at had t =
      let i = p.position in
      let e = p.entry.now in
      let b = here issue_entry s p in
      let events : new_row.events ≡ row.events ++ b.events = ap (λ (r : Row). r.events) had.row_is in
      let puts = as_many_puts decided.puts.items new_decided.puts.items i p.station b had.puts in
      let more = as_many_events row.events new_row.events b events in
      let fewer = had.fewer in
      let left = had.events in
      let few = t.few in
      let room = t.room in
      record {
        walked = goes_on _ _ (window_of s) k i e (keeps s ports _ _ _ _ _ stands) t.walked turn.candidate.at turn.candidate.waits (sym turn.candidate.station ∙ at) (λ walked. record {
          decided = decided_more s i e stands turn.candidate.at p.station _ _ _ _ _ _ _ _ _ _ turn.candidate.station had.puts events had.load had.divider walked.decided;
          left = left_on s i e stands turn.candidate.at _ had.left;
        });
        only = only_both _ _ _ t.only had.only;
        few = omega (arith, puts, fewer, few);
        room = omega (arith, more, left, room);
        cycle = ap (λ (r : Row). r.cycle) had.row_is ∙ t.cycle;
      }
