-- What is not due before a cycle is not due before an earlier one: for a walk that looks for the least cycle.
use Rattle.std.proofs.Common.{ℕ, ◌+◌, ◌<◌, ◌≤◌, List, length, take, get_or, arith}
use Rattle.std.specs.Prelude.{All}
use Rattle.std.proofs.lemmas.List.Elements.{All-weaker, All-more}
use Rattle.window_model.specs.declared.Entry.{Entry}
use Rattle.window_model.specs.declared.Miss.{Miss}
use Rattle.window_model.specs.declared.Progress.{Progress}
use Rattle.window_model.specs.declared.Progress.TheVariants.{Waiting, Busy, Done}
use Rattle.quiet_cycles.specs.Still.{NotDueBefore, NotDoneBefore}

pub due_sooner : (m n cycle due : ℕ) → m ≤ n → NotDueBefore n cycle due → NotDueBefore m cycle due
due_sooner m n cycle due l h = λ k. let p = h k in omega arith

pub done_sooner : (m n cycle : ℕ) (s : Progress) → m ≤ n → NotDoneBefore n cycle s → NotDoneBefore m cycle s
done_sooner m n cycle (Busy due) l h = due_sooner m n cycle due l h
done_sooner m n cycle Waiting l h = tt
done_sooner m n cycle Done l h = tt

pub entries_sooner : (m n cycle : ℕ) (es : List Entry) → m ≤ n → All (λ e. NotDoneBefore n cycle e.state) es → All (λ e. NotDoneBefore m cycle e.state) es
entries_sooner m n cycle es l h = All-weaker _ _ (λ (e : Entry) k. done_sooner m n cycle e.state l k) es h

pub lines_sooner : (m n cycle : ℕ) (ms : List Miss) → m ≤ n → All (λ r. NotDueBefore n cycle r.due) ms → All (λ r. NotDueBefore m cycle r.due) ms
lines_sooner m n cycle ms l h = All-weaker _ _ (λ (r : Miss) k. due_sooner m n cycle r.due l k) ms h

-- ---- a walk goes on, and the least is now m

-- the entries up to a position aren't Done before cycle m, where those before it aren't before a later one
pub entries_more : (m n cycle i : ℕ) (es : List Entry) (e : Entry) → i < length es → m ≤ n → All (λ e. NotDoneBefore n cycle e.state) (take i es) → NotDoneBefore m cycle (get_or es i e).state →
    All (λ e. NotDoneBefore m cycle e.state) (take (i + 1) es)
entries_more m n cycle i es e l h p q = All-more (λ (e : Entry). NotDoneBefore m cycle e.state) es i e l (entries_sooner m n cycle (take i es) h p) q

-- the lines up to a place don't come before cycle m, where those before it don't come before a later one
pub lines_more : (m n cycle i : ℕ) (ms : List Miss) (r : Miss) → i < length ms → m ≤ n → All (λ r. NotDueBefore n cycle r.due) (take i ms) → NotDueBefore m cycle (get_or ms i r).due →
    All (λ r. NotDueBefore m cycle r.due) (take (i + 1) ms)
lines_more m n cycle i ms r l h p q = All-more (λ (r : Miss). NotDueBefore m cycle r.due) ms i r l (lines_sooner m n cycle (take i ms) h p) q
