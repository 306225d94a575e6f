use Rattle.std.proofs.Common.{◌≡◌, ◌∙◌, ◌++◌, ◌&&◌, Bool, Option, length, ap, ap₂, refl, sym, arith, false, true, append-nil}
use Rattle.std.specs.Prelude.{nat_lt}
use Rattle.window_model.specs.Ports.{asking, is_granted, ports}
use Rattle.window_model.specs.Issue.{issue_entry}
use Rattle.window_model.specs.inner.Row.{with_events}
use Rattle.window_model.specs.Order.{is_store}
use Rattle.window_model.specs.Row.{Row}
use Rattle.lsq.specs.declared.keepers.Kept.{Kept}
use Rattle.core_parts.specs.declared.decided.Decided.{Decided}
use Rattle.issue.specs.declared.candidate.Candidate.{Candidate}
use Rattle.issue.specs.declared.seen.Seen.{Seen}
use Rattle.issue.specs.Decisions.{HadTurn}
use Rattle.issue.specs.Ports.{LeftFor, besides, is_served}
use Rattle.issue.specs.State.{around_of, before_of, here}
use Rattle.issue.specs.Turns.{after_of, divider_by, load_by, puts_by, puts_of}
use Rattle.unit_ports.specs.Ports.{Ports, port_for}
use Rattle.issue.proofs.Asking.{asks_own}
use Rattle.issue.proofs.Kept.{may_not}
use Rattle.issue.proofs.Choosing.{division_where, granted_goes, load_where, the_other}
use Rattle.issue.proofs.Noting.{one_put_of, same_row}
use Rattle.issue.proofs.Testing.{events_served, left_refused, served, some_left}
use Rattle.issue.proofs.Turning.{few_events, turn_is}
use Rattle.issue.proofs.seen.Seen.decide_whole.Goals as goal

-- an entry that isn't served leaves all as it is, whichever store is noted as one that keeps it
unserved : (s : Seen) (p : Candidate) (ports : Ports) (decided : Decided) (row : Row) (kept : Option Kept) → is_store p.entry.now.item.kind ≡ false → LeftFor s p ports → is_served s p ≡ false →
    HadTurn s p ports decided row ports (record decided { kept = kept }) row
unserved s p ports decided row kept whole left refused =
    let d = s.desc.now in
    let now = around_of s in
    let before = before_of s p in
    let e = p.entry.now in
    let stays = turn_is false d now before e whole refused in
    let no_put = ap (λ b. length (puts_of p.position p.station b)) stays in
    let none = ap (λ b. length b.events) stays in
    record {
      puts = sym (ap (λ b. decided.puts.items ++ puts_of p.position p.station b) stays ∙ append-nil decided.puts.items);
      row_is = sym (ap (λ b. with_events row b.events) stays ∙ same_row row);
      load = the_other _ _ _ (load_where d now before e false refused);
      divider = the_other _ _ _ (division_where d now before e false refused);
      left = left_refused d now before e ports whole left refused;
      fewer = omega (arith, no_put);
      events = omega (arith, none);
      only = record { alus = refl; cycle = refl };
    }

-- an entry that lacks what it asks for besides isn't served
unserved_without : (s : Seen) (p : Candidate) → is_store p.entry.now.item.kind ≡ false → besides s p ≡ false → is_served s p ≡ false
unserved_without s p whole lacks =
    let d = s.desc.now in
    let now = around_of s in
    let before = before_of s p in
    let e = p.entry.now in
    let port = port_for e.item.kind in
    ap (λ m. m && nat_lt (asking d now port before) (ports d port)) (asks_own d now before e whole ∙ may_not s p lacks)

pub returns-then-is_still_kept : goal.returns-then-is_still_kept
returns-then-is_still_kept c =
    let s = c.args.self.now in
    let p = c.args.candidate.now in
    unserved s p _ _ _ _ c.requires.whole c.requires.left (unserved_without s p c.requires.whole (c.is_still_kept.ensures c.if-is_still_kept.true))

pub returns-then-not-may_ask : goal.returns-then-not-may_ask
returns-then-not-may_ask c =
    let s = c.args.self.now in
    let p = c.args.candidate.now in
    unserved s p _ _ _ _ c.requires.whole c.requires.left (c.may_ask.ensures.served ∙ ap (λ b. b && besides s p) c.if-not-may_ask.true)

pub returns-then-not-has_besides : goal.returns-then-not-has_besides
returns-then-not-has_besides c =
    unserved c.args.self.now c.args.candidate.now _ _ _ _ c.requires.whole c.requires.left
    (c.may_ask.ensures.served ∙ ap₂ (λ a b. a && b) c.if-not-may_ask.false (sym c.has_besides.ensures ∙ c.if-not-has_besides.true))

-- it is served where it may ask for its port and has what it asks for besides
granted_where : (served ask besides has : Bool) → served ≡ (ask && besides) → ask ≡ true → has ≡ besides → has ≡ true → served ≡ true
granted_where served ask besides has s a b h = s ∙ ap₂ (λ a b. a && b) a (sym b ∙ h)

pub begin-after-requires-clause-goes : goal.begin-after-requires-clause-goes
begin-after-requires-clause-goes c =
    let s = c.args.self.now in
    let p = c.args.candidate.now in
    granted_goes s.desc.now (around_of s) (before_of s p) p.entry.now c.requires.whole (granted_where _ _ _ _ c.may_ask.ensures.served c.if-not-may_ask.false c.has_besides.ensures c.if-not-has_besides.false)

pub begin-after-requires-clause-room : goal.begin-after-requires-clause-room
begin-after-requires-clause-room c =
    let many = events_served _ _ _ c.args.candidate.now.entry.now _ c.requires.whole c.requires.left (granted_where _ _ _ _ c.may_ask.ensures.served c.if-not-may_ask.false c.has_besides.ensures c.if-not-has_besides.false) in
    let room = c.requires.room in
    omega (arith, many, room)

pub note-requires : goal.note-requires
note-requires c =
    let some = some_left _ _ _ c.args.candidate.now.entry.now _ c.requires.whole c.requires.left (granted_where _ _ _ _ c.may_ask.ensures.served c.if-not-may_ask.false c.has_besides.ensures c.if-not-has_besides.false) in
    let few = c.requires.few in
    omega (arith, some, few)

pub returns : goal.returns
returns c =
    let s = c.args.self.now in
    let p = c.args.candidate.now in
    let d = s.desc.now in
    let now = around_of s in
    let before = before_of s p in
    let e = p.entry.now in
    let granted : is_granted d now (port_for e.item.kind) before e ≡ true = granted_where _ _ _ _ c.may_ask.ensures.served c.if-not-may_ask.false c.has_besides.ensures c.if-not-has_besides.false in
    let begins = turn_is true d now before e c.requires.whole granted in
    let comes = c.begin-after.ensures.comes in
    let left = served d now before e _ c.requires.whole c.requires.left granted _ _ _ c.begin-after.ensures.divider c.grant.ensures.left in
    let few = ap (λ b. length b.events) begins in
    let many = few_events d now before e in
    let one = one_put_of p.position p.station (here issue_entry s p) in
    let fewer = left.fewer in
    let events = left.events in
    record {
      puts = c.note.ensures.puts ∙ ap (λ o. c.args.decided.now.puts.items ++ puts_by p.position p.station o) (comes.issued ∙ ap after_of (sym begins));
      row_is = comes.row ∙ ap (λ b. with_events c.args.row.now b.events) (sym begins);
      load = c.note.ensures.load ∙ c.begin-after.ensures.load
          ∙ ap (λ b. load_by b s p c.args.decided.now.load) (sym (load_where d now before e true granted));
      divider = left.divider ∙ ap (λ b. divider_by b s p c.args.ports.now.divider) (sym (division_where d now before e true granted));
      left = left.left;
      fewer = omega (arith, one, fewer);
      events = omega (arith, few, many, events);
      only = left.only;
    }
