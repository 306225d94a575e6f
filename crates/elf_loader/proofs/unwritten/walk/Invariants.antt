use Rattle.std.proofs.Common.{◌≤◌, ◌<◌, ◌-◌, ℕ, length, get_or}
use Rattle.elf_loader.proofs.unwritten.walk.Given as goal

abbrev pub invariant-loop-place : goal.invariant-loop-place
invariant-loop-place l =
    (l.from ≤ l.place) × (l.place ≤ length l.jumps) × ((k : ℕ) → l.from ≤ k → k < l.place → 0 < get_or l.jumps k 0)

abbrev pub decreases-loop-place : goal.decreases-loop-place
decreases-loop-place l = length l.jumps - l.place
