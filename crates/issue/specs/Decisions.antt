-- What the phase decides, before anything is changed (docs/machine.md, "Issue").
use Rattle.std.specs.Prelude.{◌≡◌, ◌≤◌, ◌+◌, List, ◌++◌, length, map, Option}
use Rattle.std.specs.Option.{option_map}
use Rattle.machine_desc.specs.declared.Desc.{Desc}
use Rattle.window_model.specs.declared.Divider.{Divider}
use Rattle.window_model.specs.declared.Entry.{Entry}
use Rattle.window_model.specs.declared.lookup.Access.{Access}
use Rattle.window_model.specs.Around.{Around}
use Rattle.window_model.specs.Order.{each, first}
use Rattle.window_model.specs.Ports.{DivPort, LoadPort, may_at}
use Rattle.window_model.specs.Issue.{Begun, access_of, issue_entry, taken_for}
use Rattle.core_parts.specs.declared.decided.Decided.{Decided}
pub use Rattle.core_parts.specs.Decided.{IsNothing}
pub use Rattle.core_parts.specs.Puts.{most_begun}
use Rattle.issue.specs.declared.seen.Seen.{Seen}
use Rattle.issue.specs.Puts.{window_with_puts}
use Rattle.issue.specs.Shared.{divider_left}
use Rattle.issue.specs.declared.candidate.Candidate.{Candidate}
use Rattle.issue.specs.Ports.{LeftBehind, OnlyPorts, events_left, granted_at, left_in_all}
use Rattle.issue.specs.State.{around_of, here, window_of}
use Rattle.issue.specs.Turns.{divider_by, load_by, puts_of}
use Rattle.unit_ports.specs.Ports.{Ports}
use Rattle.window_model.specs.Row.{Row}
use Rattle.window_model.specs.inner.Row.{with_events}

-- what becomes of each entry
abbrev pub turns : Desc → Around → List Entry → List Begun
turns d now window = each (issue_entry d now) window

-- what the access of the load that is tried comes to
abbrev pub load_of : Desc → Around → List Entry → Option Access
load_of d now window = option_map (λ p. access_of d now p.before p.entry) (first (may_at d now LoadPort) window)

-- the divider with the division that begins
abbrev pub division_of : Desc → Around → List Entry → Option Divider
division_of d now window = option_map (λ p. taken_for now p.before p.entry) (first (may_at d now DivPort) window)

-- which entries begin, what the load's access comes to, and the divider then
pub record Decides (d : Desc) (now : Around) (es : List Entry) (decided : Decided) (old new : Divider) : Type 0 where
  pub window : window_with_puts decided.puts.items es ≡ map (λ b. b.entry) (turns d now es)
  pub load : decided.load ≡ load_of d now es
  pub divider : new ≡ divider_left (division_of d now es) old

-- ---- of what is seen

abbrev pub turns_of : Seen → List Begun
turns_of s = turns s.desc.now (around_of s) (window_of s)

abbrev pub DecidesFor : Seen → Decided → Divider → Divider → Type 0
DecidesFor s decided old new = Decides s.desc.now (around_of s) (window_of s) decided old new

-- what an entry's turn leaves
pub record HadTurn (s : Seen) (p : Candidate) (ports : Ports) (decided : Decided) (row : Row) (new_ports : Ports) (new_decided : Decided) (new_row : Row) : Type 0 where
  pub puts : new_decided.puts.items ≡ decided.puts.items ++ puts_of p.position p.station (here issue_entry s p)
  pub row_is : new_row ≡ with_events row (here issue_entry s p).events
  pub load : new_decided.load ≡ load_by (granted_at LoadPort s p) s p decided.load
  pub divider : new_ports.divider ≡ divider_by (granted_at DivPort s p) s p ports.divider
  pub left : LeftBehind s p new_ports
  -- whoever goes on took a port, and so has the events that it allows
  pub fewer : length (puts_of p.position p.station (here issue_entry s p)) + left_in_all new_ports ≤ left_in_all ports
  pub events : length (here issue_entry s p).events + events_left new_ports ≤ events_left ports
  pub only : OnlyPorts ports new_ports
