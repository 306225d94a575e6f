-- The laws: an empty cycle changes nothing, those after it neither, and they may be passed over.
use Rattle.std.proofs.Common.{◌≡◌, ℕ, zero, suc, ◌+◌, ◌<◌, ◌≤◌, [], ◌∷◌, Option, Some, None, refl, ap, sym, ◌∙◌, subst, arith}
use Rattle.rv_types.specs.Isa.{with_piece}
use Rattle.rv_types.specs.Memory.{Code}
use Rattle.rv_types.specs.declared.End.{End}
use Rattle.machine_desc.specs.declared.Desc.{Desc}
use Rattle.window_model.specs.State.{Machine}
use Rattle.window_model.specs.Retire.{retire, unless_ended}
use Rattle.window_model.specs.Cycle.{Cycled, cycle, after_cycles, rows, pieces}
use Rattle.window_model.proofs.Quiet.{at_retire, after_quiet, cycle_is, before_quiet}
use Rattle.quiet_cycles.specs.Still.{NothingDueBefore, StillUntil, at_cycle, empty_row, empty_rows}
use Rattle.quiet_cycles.specs.Laws.{EmptyRowStands, PassesOver, StandsAfterEmptyRow, StandsUntilDue, StillGoesOn}
use Rattle.quiet_cycles.proofs.Silent.{silent_if, silent_later, still_if}
use Rattle.quiet_cycles.proofs.Turns.{retire_ended}

-- ---- an empty cycle is still

-- a run that hasn't ended after a cycle hadn't before
not_ended : (d : Desc) (code : Code) (x : Machine) → (cycle d code x).machine.end ≡ None → x.end ≡ None
not_ended d code x h = by_end x.end refl
  where
    by_end : (o : Option End) → x.end ≡ o → o ≡ None
    by_end None q = refl
    by_end (Some e) q =
        let y = at_retire d x in
        let r = retire_ended d y e ((before_quiet d x).ended ∙ q) in
        let b = (after_quiet d code (retire d y).machine).ended in
        let c = ap (λ (m : Machine). m.end) (cycle_is d code x) in
        absurd (cc)

pub empty_row_stands : EmptyRowStands
empty_row_stands d code x h k = still_if d code x (silent_if d code x h (k ∙ sym (not_ended d code x k)))

-- ---- the cycles after an empty one

pub stands_until_due : StandsUntilDue
stands_until_due n d code x h due c l m =
    let events = ap (λ (t : Cycled). t.row.events) h in
    let end = ap (λ (t : Cycled). t.machine.end) h in
    still_if d code (at_cycle c x) (silent_later d code n (c + 1) (at_cycle (x.cycle + 1) x) due (omega arith) m (silent_if d code x events end))

pub stands_after_empty_row : StandsAfterEmptyRow
stands_after_empty_row n d code x h k due =
    let s = empty_row_stands d code x h k in
    let e : (cycle d code x).machine ≡ at_cycle (x.cycle + 1) x = ap (λ (t : Cycled). t.machine) s in
    subst (StillUntil n d code) (sym e) (stands_until_due n d code x s (subst (NothingDueBefore n) e due))

-- the cycles after an empty one are still, told of what that one is known to leave
pub stands_after_cycle : (n : ℕ) (d : Desc) (code : Code) (x : Machine) (t : Cycled) → t ≡ cycle d code x → t.row.events ≡ [] → t.machine.end ≡ None → NothingDueBefore n t.machine → StillUntil n d code t.machine
stands_after_cycle n d code x t q h k due =
    let P : Cycled → Type 0 = λ t. t.row.events ≡ [] → t.machine.end ≡ None → NothingDueBefore n t.machine → StillUntil n d code t.machine in
    subst P (sym q) (stands_after_empty_row n d code x) h k due

-- where the next cycle is cycle n already, there is none before it that has to be still
pub none_stand : (n : ℕ) (d : Desc) (code : Code) (x : Machine) → n ≤ x.cycle + 1 → StillUntil n d code x
none_stand n d code x h = λ c l m. absurd (omega arith)

pub still_goes_on : StillGoesOn
still_goes_on n d code x h l = (h x.cycle (omega arith) l, λ c k m. h c (omega arith) m)

-- ---- passed over at once

-- what k cycles leave, and their rows and pieces
pub record Passed (d : Desc) (code : Code) (k : ℕ) (x : Machine) : Type 0 where
  pub machine : after_cycles d code k x ≡ at_cycle (x.cycle + k) x
  pub rows : rows d code k x ≡ empty_rows (x.cycle + 1) k
  pub pieces : pieces d code k x ≡ []

passed : (n k : ℕ) (d : Desc) (code : Code) (x : Machine) → x.end ≡ None → StillUntil n d code x → x.cycle + k < n → Passed d code k x
passed n zero d code x q h l = record { machine = ap (λ c. at_cycle c x) (omega arith); rows = refl; pieces = refl }
passed n (suc k) d code x q h l =
    let y = at_cycle (x.cycle + 1) x in
    let g = still_goes_on n d code x h (omega arith) in
    let p = passed n k d code y q g.1 (omega arith) in
    record {
      machine = ap (λ o. unless_ended o x (after_cycles d code k (cycle d code x).machine)) q ∙ ap (λ (t : Cycled). after_cycles d code k t.machine) g.0 ∙ p.machine ∙ ap (λ c. at_cycle c x) (omega arith);
      rows = ap (λ o. unless_ended o [] ((cycle d code x).row ∷ rows d code k (cycle d code x).machine)) q ∙ ap (λ (t : Cycled). t.row ∷ rows d code k t.machine) g.0 ∙ ap (λ r. empty_row (x.cycle + 1) ∷ r) p.rows;
      pieces = ap (λ o. unless_ended o [] (with_piece (cycle d code x).piece (pieces d code k (cycle d code x).machine))) q ∙ ap (λ (t : Cycled). with_piece t.piece (pieces d code k t.machine)) g.0 ∙ p.pieces;
    }

pub passes_over : PassesOver
passes_over n k d code x q h l = let p = passed n k d code x q h l in (p.machine, p.rows, p.pieces)
