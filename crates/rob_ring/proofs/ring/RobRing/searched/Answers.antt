use Rattle.std.proofs.Common.{◌≡◌, length, ap, sym, subst, ◌∙◌, Some, arith, slice_get}
use Rattle.std.proofs.lemmas.Option.{slice_get_within}
use Rattle.window_model.specs.declared.Entry.{Entry}
use Rattle.window_model.specs.Serials.{below}
use Rattle.window_model.proofs.Booleans.{some_of}
use Rattle.rob_ring.proofs.ByEnd.{lacks}
use Rattle.rob_ring.proofs.ring.RobRing.searched.Goals as goal

pub returns-then-position-len-clause-lacking : goal.returns-then-position-len-clause-lacking
returns-then-position-len-clause-lacking c = λ _. lacks c.args.serial c.args.self.now.entries c.requires.rise (λ e is same.
    let within = slice_get_within c.args.self.now.entries (length (below c.args.serial c.args.self.now.entries)) e is in
    let count = c.position_of-position.ensures.count in
    let past = c.if-position-len.true in
    let len = c.len.ensures.len in
    absurd (omega (arith, within, count, past, len)))

pub returns-then-entry-serial-clause-lacking : goal.returns-then-entry-serial-clause-lacking
returns-then-entry-serial-clause-lacking c = λ _. lacks c.args.serial c.args.self.now.entries c.requires.rise (λ e is same.
    let here : slice_get c.args.self.now.entries (length (below c.args.serial c.args.self.now.entries)) ≡ Some c.lend-entry.result.now
    = subst (λ n. slice_get c.args.self.now.entries n ≡ Some c.lend-entry.result.now) c.position_of-position.ensures.count c.lend-entry.ensures in
    let one = some_of e c.lend-entry.result.now (sym is ∙ here) in
    c.if-entry-serial.true (ap (λ (e : Entry). e.serial) (sym one) ∙ same))
