-- The changed blocks of an image by their numbers: those that are kept, and those of zeros.
use Rattle.std.specs.Prelude.{◌≡◌, ℕ, zero, suc, Bool, ◌&&◌, ◌||◌, not, is_some, if◌then◌else◌, List, [], ◌∷◌, ◌++◌, length}
use Rattle.std.specs.Option.{option_or}
use Rattle.hfs_blocks.specs.declared.run.Run.{Run}
use Rattle.hfs_blocks.specs.Layers.{Numbered, Changes, changes}
use Rattle.hfs_space.specs.Parts.{zeros}
use Rattle.hfs_space.specs.Zeros.{zero_blocks}
use Rattle.hfs_space.specs.Flags.{is_flagged}

-- a block of zeros
abbrev pub blank_block : List ℕ
blank_block = zeros 512

-- the block is one of zeros that isn't kept
abbrev pub is_zeros : Numbered → List Bool → ℕ → Bool
is_zeros kept flags n = is_flagged flags n && not (is_some (changes kept n))

-- the kept blocks, and after them those of zeros among the first so many
unfoldable pub blocks_below : Numbered → List Bool → ℕ → Numbered
blocks_below kept flags zero = kept
blocks_below kept flags (suc n) = if is_zeros kept flags n then blocks_below kept flags n ++ (n, zeros 512) ∷ [] else blocks_below kept flags n

-- the kept blocks, and all of zeros
abbrev pub all_blocks : Numbered → List Bool → Numbered
all_blocks kept flags = blocks_below kept flags (length flags)

-- the blocks of a patch, and below it those of runs of zeros
abbrev pub laid_changes : Numbered → List Run → Changes
laid_changes patch runs n = option_or (changes patch n) (zero_blocks runs n)

-- new has a block of each number of which one of the two has one, and of no other
abbrev pub HasBlocksOf : Changes → Changes → Changes → Type 0
HasBlocksOf old other new = (n : ℕ) → is_some (new n) ≡ (is_some (old n) || is_some (other n))
