-- What becomes of an entry that has its turn, in its place (docs/machine.md, "Issue").
use Rattle.std.specs.Prelude.{◌≡◌, ℕ, Bool, List, [], ◌∷◌, ◌++◌, Option, None, Some, if◌then◌else◌}
use Rattle.std.specs.Option.{option_map, option_to_list}
use Rattle.rv_effect.specs.Seen.{isa_effect}
use Rattle.rv_effect.specs.declared.fields.Effect as made
use Rattle.rv_types.specs.Isa.{Effect}
use Rattle.machine_desc.specs.declared.Desc.{Desc}
use Rattle.window_model.specs.declared.Divider.{Divider}
use Rattle.window_model.specs.declared.Entry.{Entry}
use Rattle.window_model.specs.declared.Event.{Event}
use Rattle.window_model.specs.declared.Event.TheVariants as event
use Rattle.window_model.specs.declared.lookup.Access.{Access}
use Rattle.window_model.specs.Access.{access_at}
use Rattle.window_model.specs.Around.{Around}
use Rattle.window_model.specs.MayIssue.{effect_of}
use Rattle.window_model.specs.Issue.{Begun, access_of, begin_as, if_granted, load_as, taken_for, value_loaded, with_address, with_data}
use Rattle.window_model.specs.Retire.{byte_count}
use Rattle.window_model.specs.Row.{Row}
use Rattle.window_model.specs.inner.Issue.{data_events}
use Rattle.window_model.specs.inner.Row.{with_events}
use Rattle.rob_ring.specs.Issued.{issued_of}
use Rattle.rob_ring.specs.declared.issued.Issued.{Issued}
use Rattle.core_parts.specs.declared.decided.Put.{Put}
use Rattle.issue.specs.declared.loads.Loaded.{Loaded}
use Rattle.issue.specs.declared.candidate.Candidate.{Candidate}
use Rattle.issue.specs.declared.seen.Seen.{Seen}
use Rattle.issue.specs.State.{around_of, before_of, here}

-- what the instruction of the entry in its place makes of its operands
abbrev pub effect_here : Seen → Candidate → Effect
effect_here s p = effect_of s.regs.now (before_of s p) p.entry.now

-- what a load without fault finds from an address on: what its access comes to, and its value
abbrev pub access_from : ℕ → Desc → Around → List Entry → Entry → Access
access_from a d now before e = access_at d now before a (byte_count e) None

abbrev pub value_from : ℕ → Desc → Around → List Entry → Entry → ℕ
value_from a d now before e = value_loaded now.ram before e a

-- what a load comes to by what it finds
abbrev pub loads : Seen → Candidate → made.Effect → Loaded → Begun
loads s p f l = load_as l.access s.desc.now (around_of s) p.entry.now (isa_effect f) l.value

-- a store by whether its address part is granted its port, and its data part
abbrev pub address_by : Bool → Seen → Candidate → Effect → Begun
address_by granted s p f = if_granted granted (with_address (around_of s) f) (event.Agu p.entry.now.serial ∷ []) p.entry.now

abbrev pub data_by : Bool → Seen → Entry → Effect → Begun
data_by granted s e f = if_granted granted (with_data (around_of s) f) (data_events s.desc.now e) e

-- what a store comes to by whether each part is granted its port, the address first
abbrev pub parts_by : Bool → Bool → Seen → Candidate → Begun
parts_by address stored s p =
    let a = address_by address s p (effect_here s p) in
    let b = data_by stored s a.entry (effect_here s p) in
    record { entry = b.entry; events = a.events ++ b.events }

-- what has then issued of the store, changed or not, and the row with its events
pub record Goes (b : Begun) (after : Issued) (old new : Row) : Type 0 where
  pub issued : after ≡ issued_of b.entry
  pub row : new ≡ with_events old b.events

-- what an entry in one piece comes to that is granted its port
abbrev pub begin_entry : Desc → Around → List Entry → Entry → Begun
begin_entry d now before e = begin_as e.item.kind d now before e

-- what has then issued of the entry; none where it stays as it is, which has no event
abbrev pub after_by : Entry → List Event → Option Issued
after_by e [] = None
after_by e (event ∷ events) = Some (issued_of e)

abbrev pub after_of : Begun → Option Issued
after_of b = after_by b.entry b.events

-- what has then issued of an entry in one piece, and the row with its events
pub record Comes (b : Begun) (after : Option Issued) (old new : Row) : Type 0 where
  pub issued : after ≡ after_of b
  pub row : new ≡ with_events old b.events

-- the put of an entry at its position and station, if anything of it has issued
abbrev pub puts_by : ℕ → ℕ → Option Issued → List Put
puts_by i station after = option_to_list (option_map (λ o. record { position = i; station = station; issued = o }) after)

abbrev pub puts_of : ℕ → ℕ → Begun → List Put
puts_of i station b = puts_by i station (after_of b)

-- what the access of the load that is tried comes to, where this is it
abbrev pub load_by : Bool → Seen → Candidate → Option Access → Option Access
load_by b s p old = if b then Some (here access_of s p) else old

-- the divider, where this is the division that takes it
abbrev pub divider_by : Bool → Seen → Candidate → Divider → Divider
divider_by b s p old = if b then taken_for (around_of s) (before_of s p) p.entry.now else old
