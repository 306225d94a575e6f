-- The bytes of blocks, block by block.
use Rattle.std.proofs.Common.{◌≡◌, ℕ, suc, ◌-◌, ◌+◌, ◌<◌, ◌≤◌, List, ◌++◌, ap, sym, ◌∙◌, arith, append_assoc, append-nil}
use Rattle.std.proofs.lemmas.Grind.{flat_map-append}
use Rattle.rv_types.specs.Word.{to_le}
use Rattle.rv_decode.specs.Forms.{word_of}
use Rattle.gen_image.specs.Generated.{bytes_of, block_of, after_block, blocks_from}

-- the file and the blocks that are left make the whole, once one block is moved from these to that
pub one_more : (file new whole : List ℕ) (n i s : ℕ) → i < n → new ≡ file ++ bytes_of (block_of s) → file ++ bytes_of (blocks_from (n - i) s) ≡ whole → new ++ bytes_of (blocks_from (n - (i + 1)) (after_block s)) ≡ whole
one_more file new whole n i s lt e h =
    let m = n - (i + 1) in
    let k : n - i ≡ suc m = omega arith in
    let rest = bytes_of (blocks_from m (after_block s)) in
    ap (λ f. f ++ rest) e
    ∙ append_assoc file (bytes_of (block_of s)) rest
    ∙ ap (λ bs. file ++ bs) (sym (flat_map-append (λ i. to_le 4 (word_of i)) (block_of s) (blocks_from m (after_block s))))
    ∙ ap (λ j. file ++ bytes_of (blocks_from j s)) (sym k)
    ∙ h

-- the file is whole once no block is left to add
pub all_there : (file whole : List ℕ) (n i s : ℕ) → n ≤ i → file ++ bytes_of (blocks_from (n - i) s) ≡ whole → file ≡ whole
all_there file whole n i s le h =
    let k : n - i ≡ 0 = omega arith in
    sym (append-nil file) ∙ ap (λ j. file ++ bytes_of (blocks_from j s)) (sym k) ∙ h
