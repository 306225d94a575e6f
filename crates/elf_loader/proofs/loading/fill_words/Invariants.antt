use Rattle.std.proofs.Common.{◌≡◌, ◌≤◌, ◌<◌, ◌-◌, ◌+◌, ◌/◌, true, false, length, get_or}
use Rattle.elf_loader.specs.inner.Image.{segment_text}
use Rattle.elf_loader.specs.inner.Filling.{WordsUpTo}
use Rattle.elf_loader.proofs.loading.fill_words.Given as goal

-- the segment's words are noted up to this place, which is left if there is one
abbrev pub invariant-loop-place : goal.invariant-loop-place
invariant-loop-place l =
    WordsUpTo (segment_text l.segment) l.place l.ram l.fn.words.items l.words.items l.fn.left l.left
    × (l.place < length l.left → get_or l.left l.place false ≡ true)
    × (l.place ≤ length l.left)
    × ((l.segment.vaddr - l.ram.base + 3) / 4 ≤ l.place)

abbrev pub decreases-loop-place : goal.decreases-loop-place
decreases-loop-place l = length l.left - l.place
