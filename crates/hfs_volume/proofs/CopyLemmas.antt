-- A copy of an image: the blocks that were read of it, with zeros elsewhere.
use Rattle.std.proofs.Common.{◌≡◌, ℕ, ◌*◌, ◌/◌, ◌%◌, ◌<◌, List, length, take, replicate, unwrap_or, sym, ap, subst, ◌∙◌, arith}
use Rattle.std.specs.Prelude.{◌-◌}
use Rattle.std.proofs.lemmas.List.{length-replicate, take-replicate, drop-replicate}
use Rattle.hfs_blocks.specs.Blocks.{block_at, block_count}
use Rattle.hfs_blocks.specs.Layers.{Numbered, changes, AreWithin}
use Rattle.hfs_source.specs.Sparse.{zero_block, sparse}
use Rattle.hfs_volume.specs.BaseBytes.{EndsInZeros}
use Rattle.hfs_volume.specs.Image.{copy_of}
use Rattle.hfs_volume.proofs.Laid.{block_at-laid_over}
use Rattle.hfs_volume.proofs.SavedPieces.{length-laid_over, ends-laid}

module _ (read : Numbered) (len : ℕ) (within : AreWithin (changes read) (len / 512)) where
  abbrev zeros : List ℕ
  zeros = replicate len 0

  inside : AreWithin (changes read) (block_count zeros)
  inside = subst (λ (n : ℕ). AreWithin (changes read) (n / 512)) (sym (length-replicate {A = ℕ} len 0)) within

  pub length-copy : length (copy_of read len) ≡ len
  length-copy = length-laid_over (changes read) zeros inside ∙ length-replicate {A = ℕ} len 0

  zeros-at : (n : ℕ) → n < len / 512 → block_at zeros n ≡ zero_block
  unfolding zero_block
  zeros-at n lt = ap (take 512) (drop-replicate (512 * n) len 0) ∙ take-replicate 512 (len - 512 * n) 0 (omega (arith, lt))

  -- a block that was read, or one of zeros
  pub block-copy : (n : ℕ) → n < len / 512 → block_at (copy_of read len) n ≡ sparse read n
  block-copy n lt =
      ap (λ (f : ℕ → List ℕ). f n) (block_at-laid_over (changes read) zeros inside)
      ∙ ap (λ (b : List ℕ). unwrap_or (changes read n) b) (zeros-at n lt)

  -- behind the last whole block there are zeros
  pub ends-copy : EndsInZeros (copy_of read len)
  ends-copy =
      ends-laid (changes read) zeros inside
      (drop-replicate (512 * block_count zeros) len 0 ∙ ap (λ (k : ℕ). replicate k 0) (rest (length zeros) (length-replicate {A = ℕ} len 0)))
    where
      rest : (k : ℕ) → k ≡ len → len - 512 * (k / 512) ≡ k % 512
      rest k e = omega (arith, e)

-- bytes that are such a copy
module _ (read : Numbered) (len : ℕ) (now : List ℕ) (within : AreWithin (changes read) (len / 512)) (is : copy_of read len ≡ now) where
  pub length-now : length now ≡ len
  length-now = sym (ap (λ (b : List ℕ). length b) is) ∙ length-copy read len within

  pub block-now : (n : ℕ) → n < block_count now → sparse read n ≡ block_at now n
  block-now n lt = sym (block-copy read len within n (omega (arith, lt, length-now))) ∙ ap (λ (b : List ℕ). block_at b n) is

  pub ends-now : EndsInZeros now
  ends-now = subst EndsInZeros is (ends-copy read len within)
