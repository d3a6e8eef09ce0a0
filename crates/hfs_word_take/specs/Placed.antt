-- A bag that has its place, or has none.
use Rattle.std.specs.Prelude.{◌≡◌, ◌⊎◌, ℕ, List, ◌∷◌, true, false}
use Rattle.hfs_bag.specs.declared.fault.BagFault.{BagFault}
use Rattle.hfs_commands.specs.declared.fault.Fault.TheVariants.{NoMemory}
use Rattle.hfs_bag.specs.Entries.{ShelfEntry}
use Rattle.hfs_bag.specs.Removals.{HasNoNewFolder, HasOpenedFolder, HasSince, IsPlaced, IsTakenAway, RemovesIn}
use Rattle.hfs_bag.specs.ShelfPlaces.{others_in}
use Rattle.hfs_bag.specs.declared.shelf_fault.ShelfFault.{ShelfFault}
use Rattle.hfs_bag.specs.SystemSteps.{SystemStep, done, looked}
use Rattle.hfs_bag.specs.Told.{Tells}
use Rattle.hfs_word_take.specs.declared.fault.TakeFault.{TakeFault}
use Rattle.hfs_word_take.specs.declared.fault.TakeFault.TheVariants as take
use Rattle.hfs_word_take.specs.TakeFaults.{fault_of_bag, fault_of_shelf}
use Rattle.hfs_word_take.specs.declared.words.TakeWords.{TakeWords}

-- after the old steps a folder was made under the first of its names that was free, exactly these entries were made in it, and the last
-- step gave it this path; nothing else was made, opened, moved or removed since
pub record HasPlaced (path : List ℕ) (bag : List ShelfEntry) (old steps : List SystemStep) : Type 0 where
  pub folder : List ℕ
  pub opened : List SystemStep
  pub is_new : HasOpenedFolder path folder old opened
  pub placed : IsPlaced path folder bag (others_in folder opened) steps

-- the fault stayed, or memory was refused
abbrev pub StaysOrNoMemory : TakeFault → TakeFault → Type 0
StaysOrNoMemory was is = (is ≡ was) ⊎ (is ≡ take.Image NoMemory)

-- a folder was taken away, or memory was refused for that, and what was removed lay in it
abbrev pub IsAwayFor : TakeFault → List ℕ → List SystemStep → List SystemStep → Type 0
IsAwayFor fault folder old new = IsTakenAway folder old new ⊎ ((fault ≡ take.Image NoMemory) × HasSince (RemovesIn folder) old new)

-- this path can't be written, or memory was refused
abbrev pub IsUnplaced : List ℕ → TakeFault → Type 0
IsUnplaced path fault = (why : ShelfFault) × Tells path why × (fault ≡ fault_of_shelf why)

-- why a folder that was made is taken away: the bag was not given, for a reason that holds; the folder did not get its place; or memory was
-- refused
abbrev pub IsUnfinished : TakeWords → (BagFault → Type 0) → TakeFault → Type 0
IsUnfinished words Ungiven fault =
    ((why : BagFault) × Ungiven why × (fault ≡ fault_of_bag words.image why)) ⊎ (IsUnplaced words.folder.now fault ⊎ (fault ≡ take.Image NoMemory))

-- after the old steps a folder was made under the first of its names that was free; while it was filled nothing else was made, opened, moved
-- or removed; and it is taken away, for this fault
pub record IsFilledAway (words : TakeWords) (Ungiven : List ℕ → BagFault → Type 0) (fault : TakeFault) (old new : List SystemStep) : Type 0 where
  pub folder : List ℕ
  pub opened : List SystemStep
  pub is_new : HasOpenedFolder words.folder.now folder old opened
  pub filled : List SystemStep
  pub others : others_in folder filled ≡ others_in folder opened
  pub away : IsAwayFor fault folder filled new
  pub why : IsUnfinished words (Ungiven folder) fault

-- no folder was made, for the shelf's fault, or the one that was filled is taken away
abbrev pub IsBagAway : TakeWords → (List ℕ → BagFault → Type 0) → TakeFault → List SystemStep → List SystemStep → Type 0
IsBagAway words Ungiven fault old new =
    ((why : ShelfFault) × (fault ≡ fault_of_shelf why) × HasNoNewFolder words.folder.now why old new) ⊎ IsFilledAway words Ungiven fault old new

-- something has the folder's name, and nothing was done but to look; or nothing has it, and what was written is taken away
abbrev pub IsBagUnplaced : TakeWords → (List ℕ → BagFault → Type 0) → TakeFault → List SystemStep → List SystemStep → Type 0
IsBagUnplaced words Ungiven fault old new =
    ((fault ≡ take.IsThere words.folder) × (new ≡ done (looked words.folder.now true) ∷ old))
    ⊎ IsBagAway words Ungiven fault (done (looked words.folder.now false) ∷ old) new
