-- What is kept as an entry's turn is noted.
use Rattle.std.proofs.Common.{◌≡◌, ◌≤◌, ℕ, ◌+◌, List, [], ◌∷◌, ◌++◌, length, Option, None, Some, ap, refl, ◌∙◌, append-nil, arith}
use Rattle.std.proofs.lemmas.List.{length-append}
use Rattle.window_model.specs.declared.Entry.{Entry}
use Rattle.window_model.specs.declared.Event.{Event}
use Rattle.window_model.specs.Issue.{Begun}
use Rattle.window_model.specs.Row.{Row}
use Rattle.window_model.specs.inner.Row.{with_events}
use Rattle.rob_ring.specs.declared.issued.Issued.{Issued}
use Rattle.unit_ports.specs.Ports.{Ports}
use Rattle.core_parts.specs.declared.decided.Put.{Put}
use Rattle.issue.specs.Ports.{OnlyPorts}
use Rattle.issue.specs.Turns.{after_by, after_of, puts_by, puts_of}

-- ---- how many there are

puts_by_events : (i station : ℕ) (e : Entry) (events : List Event) → length (puts_by i station (after_by e events)) ≤ length events
puts_by_events i station e [] = omega arith
puts_by_events i station e (v ∷ events) = omega arith

-- an entry has no more puts than events
pub few_puts : (i station : ℕ) (b : Begun) → length (puts_of i station b) ≤ length b.events
few_puts i station b = puts_by_events i station b.entry b.events

-- at most one put stands for what issues of an entry
one_put : (i station : ℕ) (after : Option Issued) → length (puts_by i station after) ≤ 1
one_put i station None = omega arith
one_put i station (Some o) = omega arith

pub one_put_of : (i station : ℕ) (b : Begun) → length (puts_of i station b) ≤ 1
one_put_of i station b = one_put i station (after_of b)

pub as_many_puts : (puts new_puts : List Put) (i station : ℕ) (b : Begun) → new_puts ≡ puts ++ puts_of i station b → length new_puts ≡ length puts + length (puts_of i station b)
as_many_puts puts new_puts i station b p = ap length p ∙ length-append puts (puts_of i station b)

pub as_many_events : (events more : List Event) (b : Begun) → more ≡ events ++ b.events → length more ≡ length events + length b.events
as_many_events events more b m = ap length m ∙ length-append events b.events

-- ---- the row, and the ports

pub row_is : (row new : Row) (events : List Event) → new.cycle ≡ row.cycle → new.events ≡ events → new ≡ record row { events = events }
row_is row new events c e = let same : new ≡ record new { cycle = new.cycle } = refl in cc

-- a row with no further event is the row itself
pub same_row : (row : Row) → with_events row [] ≡ row
same_row row = ap (λ es. record row { events = es }) (append-nil row.events)

pub only_both : (a b c : Ports) → OnlyPorts a b → OnlyPorts b c → OnlyPorts a c
only_both a b c p q = record { alus = q.alus ∙ p.alus; cycle = q.cycle ∙ p.cycle }
