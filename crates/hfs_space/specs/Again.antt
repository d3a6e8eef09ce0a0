-- Blocks of a patch that become zeros.
use Rattle.std.specs.Prelude.{◌≡◌, ℕ, Bool, ◌&&◌, ◌||◌, is_some, List}
use Rattle.std.specs.List.{list_any}
use Rattle.hfs_blocks.specs.declared.run.Run.{Run}
use Rattle.hfs_blocks.specs.Layers.{Numbered, changes}
use Rattle.hfs_space.specs.Zeros.{is_of_run}
use Rattle.hfs_space.specs.Flags.{zeros_if}

-- they are those that the kept patch has, of the blocks that pass, each of zeros
abbrev pub AreAgain : (ℕ → Bool) → Numbered → Numbered → Type 0
AreAgain passes kept again = (n : ℕ) → changes again n ≡ zeros_if (passes n && is_some (changes kept n))

-- the block is in one of these runs
abbrev pub is_in : List Run → ℕ → Bool
is_in runs n = list_any (is_of_run n) runs

-- the blocks of the run were added, whichever passed before
abbrev pub GainsRun : Run → Numbered → Numbered → Numbered → Type 0
GainsRun run kept old new = (passes : ℕ → Bool) → AreAgain passes kept old → AreAgain (λ n. passes n || is_of_run n run) kept new
