-- Where a shelf writes, and what else was done there.
use Rattle.std.specs.Prelude.{ℕ, true, false, List, [], ◌∷◌, Option, Some, None}
use Rattle.hfs_bag.specs.MadeFolders.{path_in}
use Rattle.hfs_bag.specs.SystemSteps.{Asked, SystemStep, made_folder, opened, wrote, timed, closed, moved, removed_file, found_folder, removed_folder, looked, listed, named, done, failed}

-- the path of the folder that a shelf writes, and the steps by which anything but what is made in it was made, opened, moved or removed,
-- the last one first
pub record ShelfPlace : Type 0 where
  pub folder : List ℕ
  pub others : List SystemStep

-- a step more, unless it makes what lies in the folder
abbrev pub with_other : Option (List ℕ) → SystemStep → List SystemStep → List SystemStep
with_other (Some path) step others = others
with_other None step others = step ∷ others

-- the steps by which anything but what is made in a folder was made, opened, moved or removed
abbrev pub others_in : List ℕ → List SystemStep → List SystemStep
others_in folder [] = []
others_in folder (failed asked ∷ before) = others_in folder before
others_in folder (done (made_folder path) ∷ before) = with_other (path_in folder path) (done (made_folder path)) (others_in folder before)
others_in folder (done (opened true path) ∷ before) = with_other (path_in folder path) (done (opened true path)) (others_in folder before)
others_in folder (done (opened false path) ∷ before) = done (opened false path) ∷ others_in folder before
others_in folder (done (wrote bytes) ∷ before) = others_in folder before
others_in folder (done (timed time) ∷ before) = others_in folder before
others_in folder (done closed ∷ before) = others_in folder before
others_in folder (done (moved from to) ∷ before) = done (moved from to) ∷ others_in folder before
others_in folder (done (removed_file path) ∷ before) = done (removed_file path) ∷ others_in folder before
others_in folder (done (found_folder path) ∷ before) = others_in folder before
others_in folder (done (removed_folder path) ∷ before) = done (removed_folder path) ∷ others_in folder before
others_in folder (done (looked path there) ∷ before) = others_in folder before
others_in folder (done (listed path) ∷ before) = others_in folder before
others_in folder (done (named bytes) ∷ before) = others_in folder before

-- the place of a shelf that writes this folder, after these steps
abbrev pub shelf_place : List ℕ → List SystemStep → ShelfPlace
shelf_place folder steps = record { folder = folder; others = others_in folder steps }
