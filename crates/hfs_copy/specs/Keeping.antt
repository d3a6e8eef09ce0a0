-- Which blocks of a volume go out: those that are other than they were, and those of zeros among some.
use Rattle.std.specs.Prelude.{◌≡◌, ◌≢◌, ℕ, ◌+◌, ◌<◌, ◌≤◌, ◌⊎◌, List, ◌++◌, Some, None, IsSome}
use Rattle.std.specs.List.{flat_map}
use Rattle.hfs_fields.specs.declared.extent.Extent.{Extent}
use Rattle.hfs_fields.specs.declared.mdb.Mdb.{Mdb}
use Rattle.hfs_fields.specs.Each.{Each}
use Rattle.hfs_fields.specs.Members.{In}
use Rattle.hfs_blocks.specs.declared.run.Run.{Run}
use Rattle.hfs_blocks.specs.Blocks.{run_of}
use Rattle.hfs_blocks.specs.Layers.{Numbered, changes, over}
use Rattle.hfs_space.specs.ForkLaws.{block_numbers}
use Rattle.hfs_space.specs.Forks.{HasArea}
use Rattle.hfs_source.specs.Sparse.{zero_block}

-- each of these runs lies among so many blocks
abbrev pub LieIn : ℕ → List Run → Type 0
LieIn total runs = Each (λ (run : Run). run.first + run.count ≤ total) runs

-- runs of these blocks were added, which lie among so many
pub record GainsRuns (numbers : List ℕ) (total : ℕ) (old new : List Run) : Type 0 where
  pub more : List Run
  pub are : new ≡ old ++ more
  pub numbers_are : flat_map run_of more ≡ numbers
  pub within : LieIn total more

-- the runs of these extents' blocks were added, which lie among as many as the allocation blocks do
abbrev pub GainsExtents : Mdb → List Extent → List Run → List Run → Type 0
GainsExtents mdb extents old new = (total : ℕ) → HasArea mdb total → GainsRuns (block_numbers mdb extents) total old new

-- these are the blocks that go out of so many, which were the old ones and are the new ones now: each that is other than it was, and each of
-- zeros among some
pub record AreKept (total : ℕ) (among : List ℕ) (old new : ℕ → List ℕ) (kept : Numbered) : Type 0 where
  pub are : (n : ℕ) (block : List ℕ) → changes kept n ≡ Some block → (n < total) × (block ≡ new n)
  pub all : (n : ℕ) → n < total → changes kept n ≡ None → new n ≡ old n
  pub zeros : Each (λ n. changes kept n ≡ None → new n ≢ zero_block) among
  pub only : (n : ℕ) → IsSome (changes kept n) → new n ≡ old n → In n among

-- ---- on the way

-- of these blocks each was added that is removed, as it is now, and no other; the others stay
pub record GainsBlocks (new : ℕ → List ℕ) (Goes Stays : ℕ → Type 0) (numbers : List ℕ) (old kept : Numbered) : Type 0 where
  pub all : Each (λ n. (changes kept n ≡ Some (new n)) ⊎ Stays n) numbers
  pub only : (n : ℕ) → (changes kept n ≡ changes old n) ⊎ (In n numbers × Goes n × (changes kept n ≡ Some (new n)))

-- those were added that are changed and other than the ones below
abbrev pub GainsChanged : Numbered → (ℕ → List ℕ) → List ℕ → Numbered → Numbered → Type 0
GainsChanged changed below numbers old kept =
    GainsBlocks (over (changes changed) below) (λ n. over (changes changed) below n ≢ below n) (λ n. over (changes changed) below n ≡ below n) numbers old kept

-- those of zeros were added
abbrev pub GainsZeros : (ℕ → List ℕ) → List ℕ → Numbered → Numbered → Type 0
GainsZeros new numbers old kept = GainsBlocks new (λ n. new n ≡ zero_block) (λ n. new n ≢ zero_block) numbers old kept
