-- What Issue changes of an entry, and what Resolve does.
use Rattle.std.specs.Prelude.{true}
use Rattle.window_model.specs.declared.Entry.{Entry}
use Rattle.rob_ring.specs.declared.issued.Issued.{Issued}

-- the entry once this has issued of it
abbrev pub with_issued : Issued → Entry → Entry
with_issued o e = record e { state = o.state; outcome = o.outcome; issued = o.issued; addr_due = o.addr_due; data_due = o.data_due }

-- what has issued of an entry
abbrev pub issued_of : Entry → Issued
issued_of e = record { state = e.state; outcome = e.outcome; issued = e.issued; addr_due = e.addr_due; data_due = e.data_due }

-- the entry once it has taken effect as a branch or JALR
abbrev pub as_resolved : Entry → Entry
as_resolved e = record e { resolved = true }
