-- The needed blocks of an image, as they are read.
use Rattle.std.specs.Prelude.{◌≡◌, ℕ, List, Option, IfSome}
use Rattle.std.specs.List.{flat_map}
use Rattle.hfs_blocks.specs.declared.run.Run.{Run}
use Rattle.hfs_blocks.specs.Blocks.{run_of, AreRunsWithin}
use Rattle.hfs_blocks.specs.Layers.{Numbered, changes, AreWithin}
use Rattle.hfs_source.specs.Sparse.{sparse, HasEach, HasGrown, IsOf, StaysOf}
use Rattle.hfs_image.specs.Needed.{needed_blocks}

-- the runs lie among so many blocks, and these are the numbers of theirs
pub record LieAt (total : ℕ) (places : List ℕ) (runs : List Run) : Type 0 where
  pub within : AreRunsWithin runs total
  pub numbers : flat_map run_of runs ≡ places

-- what was read stays, and what was read since is of the same image, if its bytes are known, and among so many blocks
pub record HasRead (known : Option (List ℕ)) (total : ℕ) (old new : Numbered) : Type 0 where
  pub grown : HasGrown old new
  pub stays : StaysOf known old new
  pub within : AreWithin (changes old) total → AreWithin (changes new) total

-- each block was read that an image of so many blocks needs, which begins as these do that were read
abbrev pub HasNeeded : ℕ → Numbered → Type 0
HasNeeded total read = HasEach read (needed_blocks total (sparse read))

-- where the image's bytes are known, what was read is of it
abbrev pub IsOfKnown : Option (List ℕ) → Numbered → Type 0
IsOfKnown known read = IfSome known (λ bytes. IsOf bytes read)
