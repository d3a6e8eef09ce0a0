-- What was asked of the system since some steps, where a folder is made, placed and taken away.
use Rattle.std.specs.Prelude.{◌≡◌, ◌≢◌, true, ℕ, suc, zero, ◌<◌, ◌*◌, List, [], ◌∷◌, ◌++◌, ◌⊎◌, ⊤, Option, Some, None, string_bytes}
use Rattle.hfs_bag.specs.SystemSteps.{Asked, SystemStep, made_folder, opened, wrote, timed, closed, moved, removed_file, found_folder, removed_folder, looked, listed, named, done, failed}
use Rattle.hfs_bag.specs.Entries.{ShelfEntry}
use Rattle.hfs_bag.specs.Laws.{IsInside}
use Rattle.hfs_bag.specs.Listings.{HasEmptied, HasEmptiedTo}
use Rattle.hfs_bag.specs.MadeFolders.{made_in}
use Rattle.hfs_bag.specs.ShelfPaths.{new_folder_path, path_within}
use Rattle.hfs_bag.specs.ShelfPlaces.{others_in}
use Rattle.hfs_bag.specs.Told.{Tells}
use Rattle.hfs_bag.specs.declared.shelf_fault.ShelfFault.{ShelfFault}
use Rattle.hfs_bag.specs.declared.shelf_fault.ShelfFault.TheVariants as fault

-- each of these steps is such a step
abbrev pub AreSteps : (SystemStep → Type 0) → List SystemStep → Type 0
AreSteps Fact [] = ⊤
AreSteps Fact (step ∷ rest) = Fact step × AreSteps Fact rest

-- the new steps are the old ones and after them only such steps
pub record HasSince (Fact : SystemStep → Type 0) (old new : List SystemStep) : Type 0 where
  pub since : List SystemStep
  pub whole : new ≡ since ++ old
  pub each : AreSteps Fact since

-- the path of a folder, or one that leads down from it
abbrev pub IsFolderOrBelow : List ℕ → List ℕ → Type 0
IsFolderOrBelow folder path = (path ≡ folder) ⊎ ((inner : List ℕ) × IsInside inner × (path ≡ path_within folder inner))

-- it removes a folder or what lies below it, or changes nothing that has a path but a time
abbrev pub RemovesIn : List ℕ → SystemStep → Type 0
RemovesIn folder (failed asked) = ⊤
RemovesIn folder (done (made_folder path)) = ⊥
RemovesIn folder (done (opened new path)) = ⊥
RemovesIn folder (done (wrote bytes)) = ⊥
RemovesIn folder (done (timed time)) = ⊤
RemovesIn folder (done closed) = ⊤
RemovesIn folder (done (moved from to)) = ⊥
RemovesIn folder (done (removed_file path)) = IsFolderOrBelow folder path
RemovesIn folder (done (found_folder path)) = ⊤
RemovesIn folder (done (removed_folder path)) = IsFolderOrBelow folder path
RemovesIn folder (done (looked path there)) = ⊤
RemovesIn folder (done (listed path)) = ⊤
RemovesIn folder (done (named bytes)) = ⊤

-- in these steps, of which the last one is first, a folder was found at this path, and not removed since
abbrev pub IsFoundBy : List SystemStep → List ℕ → Type 0
IsFoundBy [] path = ⊥
IsFoundBy (step ∷ before) path = (step ≡ done (found_folder path)) ⊎ ((step ≢ done (removed_folder path)) × IsFoundBy before path)

-- so it was in the new steps, behind the old ones
pub record HasFound (path : List ℕ) (old new : List SystemStep) : Type 0 where
  pub since : List SystemStep
  pub whole : new ≡ since ++ old
  pub found : IsFoundBy since path

-- the path of a folder, or of one below it that was found since the old steps
abbrev pub IsFolderOrFound : List ℕ → List ℕ → List SystemStep → List SystemStep → Type 0
IsFolderOrFound folder path old new =
    (path ≡ folder) ⊎ ((inner : List ℕ) × IsInside inner × (path ≡ path_within folder inner) × HasFound path old new)

-- what a folder's names name was removed as they came, up to one whose file was not removed; or all was, and then the folder was not
abbrev pub FailsAt : List ℕ → List SystemStep → List SystemStep → Type 0
FailsAt folder old new =
    ((name : List ℕ) × (emptied : List SystemStep) × HasEmptiedTo folder name old emptied × (new ≡ failed (removed_file (path_within folder name)) ∷ emptied))
    ⊎ ((emptied : List SystemStep) × HasEmptied folder old emptied × (new ≡ failed (removed_folder folder) ∷ emptied))

-- a folder was removed, which the system does only where it is empty; or so it failed at that folder, or at one that was found below it
abbrev pub EndsRemoval : List ℕ → List SystemStep → List SystemStep → List SystemStep → Type 0
EndsRemoval folder old before new =
    (new ≡ done (removed_folder folder) ∷ before) ⊎ ((place : List ℕ) × IsFolderOrFound folder place old before × FailsAt place before new)

-- a folder was taken away: since the old steps nothing was changed but what is removed below it, and it was removed at last, as far as the
-- system gave the names of what lay there and removed that
pub record IsTakenAway (folder : List ℕ) (old new : List SystemStep) : Type 0 where
  pub before : List SystemStep
  pub removes : HasSince (RemovesIn folder) old before
  pub ends : EndsRemoval folder old before new

-- the file that was opened last was closed, and got this time before, in seconds since the beginning of 1970, where one is given and
-- the system set it
abbrev pub IsClosed : Option ℕ → List SystemStep → List SystemStep → Type 0
IsClosed None old new = new ≡ done closed ∷ old
IsClosed (Some seconds) old new =
    (new ≡ done closed ∷ done (timed (seconds * 1_000_000_000)) ∷ old) ⊎ (new ≡ done closed ∷ failed (timed (seconds * 1_000_000_000)) ∷ old)

-- the file that was opened last was let go of so, and then this was done
pub record HasNext (asked : Asked) (time : Option ℕ) (old new : List SystemStep) : Type 0 where
  pub between : List SystemStep
  pub closes : IsClosed time old between
  pub next : new ≡ done asked ∷ between

-- after these steps, something had each of the first so many names that the folder may have
abbrev pub with_taken : List ℕ → ℕ → List SystemStep → List SystemStep
with_taken path zero steps = steps
with_taken path (suc number) steps = done (looked (new_folder_path path number) true) ∷ with_taken path number steps

-- a folder was made under the first of its hundred names that was free
pub record HasNewFolder (path folder : List ℕ) (old new : List SystemStep) : Type 0 where
  pub number : ℕ
  pub below : number < 100
  pub name : folder ≡ new_folder_path path number
  pub made : new ≡ done (made_folder folder) ∷ with_taken path number old

-- so it was, and then opened
pub record HasOpenedFolder (path folder : List ℕ) (old new : List SystemStep) : Type 0 where
  pub between : List SystemStep
  pub is_new : HasNewFolder path folder old between
  pub opens : new ≡ done (listed folder) ∷ between

-- the folder was refused under the name of this number, which the fault names; or memory was, before that name was tried
abbrev pub IsRefusedAt : List ℕ → ℕ → ShelfFault → List SystemStep → List SystemStep → Type 0
IsRefusedAt path number (fault.CannotWrite told) old new =
    (string_bytes told ≡ new_folder_path path number) × (new ≡ failed (made_folder (new_folder_path path number)) ∷ old)
IsRefusedAt path number fault.NoMemory old new = new ≡ old

-- no folder was made: all of its hundred names are taken, and the fault is that of the path; or it was refused at the first that isn't
abbrev pub HasRefused : List ℕ → ShelfFault → List SystemStep → List SystemStep → Type 0
HasRefused path why old new =
    (Tells path why × (new ≡ with_taken path 100 old)) ⊎ ((number : ℕ) × (number < 100) × IsRefusedAt path number why (with_taken path number old) new)

-- a folder was removed, or that failed
abbrev pub IsRemovedOrNot : List ℕ → List SystemStep → List SystemStep → Type 0
IsRemovedOrNot folder old new = (new ≡ done (removed_folder folder) ∷ old) ⊎ (new ≡ failed (removed_folder folder) ∷ old)

-- this path can't be written
abbrev pub IsUnwritable : List ℕ → ShelfFault → Type 0
IsUnwritable path (fault.CannotWrite told) = string_bytes told ≡ path
IsUnwritable path fault.NoMemory = ⊥

-- a folder was made and not opened, and it was removed, or its removal failed
pub record HasUnopened (path : List ℕ) (why : ShelfFault) (old new : List SystemStep) : Type 0 where
  pub folder : List ℕ
  pub between : List SystemStep
  pub is_new : HasNewFolder path folder old between
  pub told : IsUnwritable folder why
  pub away : IsRemovedOrNot folder (failed (listed folder) ∷ between) new

-- no folder was made, or the one that was made is taken away
abbrev pub HasNoNewFolder : List ℕ → ShelfFault → List SystemStep → List SystemStep → Type 0
HasNoNewFolder path why old new = HasRefused path why old new ⊎ HasUnopened path why old new

-- a folder with these entries in it got this path, as the last step; before, anything else was made, opened, moved or removed by these others alone
pub record IsPlaced (path folder : List ℕ) (entries : List ShelfEntry) (others steps : List SystemStep) : Type 0 where
  pub made : List SystemStep
  pub entries_are : made_in folder made ≡ entries
  pub others_are : others_in folder made ≡ others
  pub placed : steps ≡ done (moved folder path) ∷ made
