-- What a database was asked to do.
use Rattle.std.specs.Prelude.{◌≡◌, ℕ, ℤ, List, [], ◌∷◌, Ok}
use Rattle.sqlite.specs.declared.types.Value.TheVariants.{Int}
use Rattle.sqlite.specs.Held.{Held, state}
use Rattle.sqlite.specs.declared.types.Value.{Value}
use Rattle.sqlite.specs.State.{State, Executes, HasCleanDisk, QueriesRow, Shown}
use Rattle.sqlite.specs.Store.{Ghosts}
use Rattle.sqlite_value.specs.Order.{column}
use Rattle.hfs_database.specs.StatementTexts.{drop_volumes_text, put_image_text}

-- this text was run with these parameters, where the disk is clean still
abbrev pub HasRun : State → State → List ℕ → List Value → Type 0
HasRun old new text params = HasCleanDisk new → (count : ℕ) × Executes text params old new (Ok count)

-- this text was run with these parameters, where the disk is clean still, and this is the first row that it showed
abbrev pub HasShown : State → State → List ℕ → List Value → List Value → Type 0
HasShown old new text params row = HasCleanDisk new → QueriesRow text params old new (Ok row)

-- this text was run with these parameters, where the disk is clean still, and the first row that it showed begins with this number
abbrev pub HasFound : State → State → List ℕ → List Value → ℤ → Type 0
HasFound old new text params id = HasCleanDisk new → (row : List Value) × QueriesRow text params old new (Ok row) × (column row 0 ≡ Int id)

-- this text was run with these parameters, where the disk is clean still
abbrev pub HasRunAll : State → State → List ℕ → List Value → Type 0
HasRunAll old new text params = HasCleanDisk new → (rows : List (List Value)) × Shown text params old new rows

-- the image's row was put, or the row of its path got these values, and has this number; and then the volumes of the image with that number went
pub record HasReplaced {S : Type 0} (g : Ghosts S) (old new : Held S) (values : List Value) (id : ℤ) : Type 0 where
  pub put : Held S
  pub puts : HasFound (state g old) (state g put) put_image_text values id
  pub drops : HasRunAll (state g put) (state g new) drop_volumes_text (Int id ∷ [])
