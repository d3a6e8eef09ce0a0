-- Lemmas about the definitions of specs/Layout.antt.
use Rattle.std.proofs.Common.{◌≡◌, ℕ, ◌+◌, ◌<◌, ◌≤◌, List, [], ◌∷◌, map, take, sym, ◌∙◌, arith}
use Rattle.std.proofs.lemmas.List.{get_or-take}
use Rattle.hfs_fields.specs.declared.mdb.Mdb.{Mdb}
use Rattle.hfs_fields.specs.declared.extent.Extent.{Extent}
use Rattle.hfs_fields.specs.Numbers.{number_at}
use Rattle.hfs_fields.proofs.PutLemmas.{number_at-same}
use Rattle.hfs_fields.specs.Counts.{IsBesideCounts, SameBesideCounts}
use Rattle.hfs_blocks.specs.Blocks.{nodes_in}
use Rattle.hfs_space.specs.ForkLengths.{all_bytes}
use Rattle.hfs_space.specs.Forks.{joined}
use Rattle.hfs_check.specs.Parts.{Blocks, mdb_in}
use Rattle.hfs_volume.specs.Layout.{SameLayout}
use Rattle.hfs_check.proofs.Stays.{run_by}

module _ (old new : Blocks) (same : SameBesideCounts (old 2) (new 2)) where
  number : (a n : ℕ) → a + n ≤ 162 → ((k : ℕ) → a ≤ k → k < a + n → IsBesideCounts k) → number_at a n (take 162 (new 2)) ≡ number_at a n (take 162 (old 2))
  number a n fits beside =
      number_at-same a n (take 162 (new 2)) (take 162 (old 2)) (λ k low high.
      get_or-take 162 (new 2) k 0 (omega arith) ∙ same k (beside k low high) ∙ sym (get_or-take 162 (old 2) k 0 (omega arith)))

  -- they are no counts
  pub same_layout : SameLayout (mdb_in old) (mdb_in new)
  unfolding mdb_in
  same_layout = record {
    bitmap_start = number 14 2 (omega arith) (λ k low high. omega arith);
    allocation_blocks = number 18 2 (omega arith) (λ k low high. omega arith);
    allocation_block_size = number 20 4 (omega arith) (λ k low high. omega arith);
    allocation_start = number 28 2 (omega arith) (λ k low high. omega arith);
    extents_file = λ i. record { first = number 134 2 (omega arith) (λ k low high. omega arith) i; count = number 136 2 (omega arith) (λ k low high. omega arith) i } ∷ record { first = number 138 2 (omega arith) (λ k low high. omega arith) i; count = number 140 2 (omega arith) (λ k low high. omega arith) i } ∷ record { first = number 142 2 (omega arith) (λ k low high. omega arith) i; count = number 144 2 (omega arith) (λ k low high. omega arith) i } ∷ [];
  }

-- the same extents have the same blocks
pub same_bytes : (blocks : Blocks) (old new : Mdb) (extents : List Extent) → SameLayout old new → all_bytes blocks new extents ≡ all_bytes blocks old extents
same_bytes blocks old new extents l i = joined (nodes_in blocks (map (run_by (l.allocation_start i) (l.allocation_block_size i)) extents))
