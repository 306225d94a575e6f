use Rattle.std.proofs.Common.{◌≡◌, ◌≤◌, ◌<◌, ◌-◌, ℕ, length, get_or}
use Rattle.elf_loader.specs.inner.Jumps.{left_by, HasJumps}
use Rattle.elf_loader.proofs.unwritten.compress.Given as goal

-- the places that are left stay the same, and none of them lies where the walk passed
abbrev pub invariant-loop-place : goal.invariant-loop-place
invariant-loop-place l =
    (l.from ≤ l.place)
    × HasJumps l.jumps.items
    × (left_by l.jumps.items ≡ left_by l.initial.jumps.items)
    × (l.end ≤ length l.jumps.items)
    × ((k : ℕ) → l.from ≤ k → k < l.end → 0 < get_or l.jumps.items k 0)

abbrev pub decreases-loop-place : goal.decreases-loop-place
decreases-loop-place l = l.end - l.place
