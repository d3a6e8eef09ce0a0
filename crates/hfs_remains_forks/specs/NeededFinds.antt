-- What is found of an image by the blocks that are needed.
use Rattle.std.specs.Prelude.{◌≡◌, ℕ, true, if◌then◌else◌, List, Option, None}
use Rattle.hfs_blocks.specs.Blocks.{block_at, block_count}
use Rattle.hfs_image.specs.Gathered.{IsOfKnown}
use Rattle.hfs_image.specs.Known.{OfKnown}
use Rattle.hfs_remains.specs.Directory.{usual_directory}
use Rattle.hfs_source.specs.Sparse.{HasEach, sparse}
use Rattle.hfs_remains_forks.specs.declared.gathering.Gathered.{Gathered}
use Rattle.hfs_remains_forks.specs.declared.needed.NeededFinds.{NeededFinds}
use Rattle.hfs_remains_forks.specs.declared.needed.NeededFinds.TheVariants.{Found, Whole}
use Rattle.hfs_remains_forks.specs.Finds.{IsFoundIn}
use Rattle.hfs_remains_forks.specs.Needed.{needed_of_finds, wants_all}

-- the needed blocks of so many of an image whose bytes may be known, and the directory by which what there is of it is found in them; none
-- where others are needed
pub record IsGathered (known : Option (List ℕ)) (total : ℕ) (gathered : Gathered) : Type 0 where
  pub needed : HasEach gathered.read (needed_of_finds total (sparse gathered.read))
  pub of : IsOfKnown known gathered.read
  pub directory : gathered.directory ≡ (if wants_all total (sparse gathered.read) then None else usual_directory total (sparse gathered.read))

-- where the image's bytes are known, and are so many: what is found of it, or that other blocks than the needed ones are needed
abbrev pub IsNeededOf : Option (List ℕ) → ℕ → NeededFinds → Type 0
IsNeededOf known len (Found found) = OfKnown known len (λ image. IsFoundIn image found)
IsNeededOf known len Whole = OfKnown known len (λ image. wants_all (block_count image) (block_at image) ≡ true)
