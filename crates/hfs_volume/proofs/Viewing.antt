-- What the fields of an image say of its bytes.
use Rattle.std.proofs.Common.{◌≡◌, ℕ, ◌/◌, List, length, ap, sym, ◌∙◌}
use Rattle.hfs_blocks.specs.Blocks.{block_at, block_count}
use Rattle.hfs_blocks.specs.Layers.{Changes, AreWithin, over}
use Rattle.hfs_volume.specs.Laid.{laid, laid_over}
use Rattle.hfs_volume.proofs.Laid.{AreBlocks-within, block_at-laid_over, length-laid, laid-laid}

module _ (g : Changes) (base current : List ℕ) (within : AreWithin g (block_count base)) (is : laid_over g base ≡ current) where
  pub same_length : length base ≡ length current
  same_length = sym (length-laid _ base (AreBlocks-within g base within)) ∙ ap (λ (bytes : List ℕ). length bytes) is

  pub same_count : block_count base ≡ block_count current
  same_count = ap (λ n. n / 512) same_length

  pub same_blocks : over g (block_at base) ≡ block_at current
  same_blocks = sym (block_at-laid_over g base within) ∙ ap block_at is

  -- what is laid over the image is laid over its base
  pub same_laid : (h : ℕ → List ℕ) → laid h base ≡ laid h current
  same_laid h = sym (laid-laid h _ base (AreBlocks-within g base within)) ∙ ap (laid h) is

  -- a patch was laid over the changed blocks
  pub committed : (p after : Changes) → ((k : ℕ) → over after (block_at base) k ≡ over p (over g (block_at base)) k) → laid_over after base ≡ laid_over p current
  committed p after put = ap (λ f. laid f base) (λ i k. put k i) ∙ ap (λ f. laid (over p f) base) same_blocks ∙ same_laid (over p (block_at current))

  -- the changed blocks are others, and the same blocks are seen
  pub uncommitted : (after : Changes) → ((k : ℕ) → over after (block_at base) k ≡ over g (block_at base) k) → laid_over after base ≡ current
  uncommitted after put = ap (λ f. laid f base) (λ i k. put k i) ∙ is
