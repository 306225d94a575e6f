use Rattle.std.proofs.Common.{◌≡◌, ◌<◌, ◌≤◌, ◌-◌, ℕ, get_or}
use Rattle.std.specs.Prelude.{vec_len}
use Rattle.stations.specs.Places.{NotesAble, NotesWaiters, held_of, nobody, after_wakeup}
use Rattle.stations.proofs.waking.wake_all.Given as goal

-- the entries in the places so far are woken
abbrev pub invariant-loop-place : goal.invariant-loop-place
invariant-loop-place l = record {
  woken : (p : ℕ) → p < l.from → get_or l.places.items p nobody ≡ after_wakeup l.serial (get_or l.initial.places.items p nobody);
  rest : (p : ℕ) → l.from ≤ p → get_or l.places.items p nobody ≡ get_or l.initial.places.items p nobody;
  len : vec_len l.places ≡ vec_len l.initial.places;
  noted : NotesWaiters l.places.items l.waiters;
  able : NotesAble (held_of l.places.items l.ages.items) l.able;
  within : l.from ≤ vec_len l.places;
}

abbrev pub decreases-loop-place : goal.decreases-loop-place
decreases-loop-place l = vec_len l.places - l.from
