-- Bytes with blocks laid over them. What follows the last whole block belongs to no block, and stays.
use Rattle.std.specs.Prelude.{ℕ, zero, suc, List, ◌++◌, drop}
use Rattle.hfs_blocks.specs.Blocks.{block_at, block_count}
use Rattle.hfs_blocks.specs.Layers.{Changes, over}

-- c blocks, the first of number n, and then what the bytes have after as many
unfoldable pub laid_from : (ℕ → List ℕ) → ℕ → ℕ → List ℕ → List ℕ
laid_from blocks zero n bytes = bytes
laid_from blocks (suc c) n bytes = blocks n ++ laid_from blocks c (suc n) (drop 512 bytes)

-- the bytes, with these blocks in place of their own
unfoldable pub laid : (ℕ → List ℕ) → List ℕ → List ℕ
laid blocks bytes = laid_from blocks (block_count bytes) 0 bytes

-- the bytes, with the blocks that there are in place of their own
abbrev pub laid_over : Changes → List ℕ → List ℕ
laid_over changes bytes = laid (over changes (block_at bytes)) bytes
