-- Why rows are not put, where memory is not what is wanting.
use Rattle.std.specs.Prelude.{◌≡◌, ◌⊎◌, ⊤, ℕ, ◌^◌, ◌≤◌, ℤ, false, IsTrue, List, [], ◌∷◌, ◌++◌, codes, map, Contains, Ok, Err}
use Rattle.sqlite.specs.Held.{Held, state}
use Rattle.sqlite.specs.State.{State, Executes, FailsToQuery, HasCleanDisk, QueriesRow, Survives}
use Rattle.sqlite.specs.Store.{Ghosts}
use Rattle.sqlite.specs.Values.{IsInt}
use Rattle.sqlite.specs.declared.error.Error.{Error}
use Rattle.sqlite.specs.declared.types.Value.{Value}
use Rattle.sqlite.specs.declared.types.Value.TheVariants.{Int}
use Rattle.hfs_database.specs.declared.fault.DatabaseFault.{DatabaseFault}
use Rattle.hfs_database.specs.declared.fault.DatabaseFault.TheVariants.{CannotOpen, CannotWrite, NoMemory}
use Rattle.hfs_database.specs.declared.fault.PutFault.{PutFault}
use Rattle.hfs_database.specs.declared.fault.PutFault.TheVariants.{Database, Source}
use Rattle.hfs_database.specs.declared.row_fault.TakerFault.{TakerFault}
use Rattle.hfs_database.specs.declared.row_fault.TakerFault.TheVariants as taker
use Rattle.hfs_database.specs.declared.statements.LastRows.{LastRows}
use Rattle.hfs_database.specs.declared.value.RowValue.{RowValue}
use Rattle.hfs_database.specs.declared.value.RowValue.TheVariants.{Number}
use Rattle.hfs_database.specs.declared.value.Table.{Table}
use Rattle.hfs_database.specs.declared.value.Table.TheVariants as table
use Rattle.hfs_database.specs.Doing.{HasFound}
use Rattle.hfs_database.specs.Faults.{IsUnreadable, is_memory}
use Rattle.hfs_database.specs.StatementTexts.{drop_volumes_text, put_image_text, put_item_text, put_volume_text}
use Rattle.hfs_database.specs.Taken.{TakenRow}
use Rattle.hfs_database.specs.Transactions.{HasPutSince, IsBegun, IsUndone, KeepsFile, LeavesFile, PutsAll}
use Rattle.hfs_database.specs.Values.{sql_value}

-- ---- faults that have a cause

-- where a taker's fault is that a row can't be written, this is why
abbrev pub IsUntaken : Type 0 → TakerFault → Type 0
IsUntaken Why taker.CannotWrite = Why
IsUntaken Why taker.NoMemory = ⊤

-- a fault of writing; where it isn't a lack of memory, this is why
abbrev pub IsUnwritten : Type 0 → DatabaseFault → Type 0
IsUnwritten Why (CannotOpen obstacle) = ⊥
IsUnwritten Why CannotWrite = Why
IsUnwritten Why NoMemory = ⊤

-- a fault of a source, or one of writing that has this cause
abbrev pub IsUnput : {F : Type 0} → (F → Type 0) → Type 0 → PutFault F → Type 0
IsUnput Fails Why (Source fault) = Fails fault
IsUnput Fails Why (Database fault) = IsUnwritten Why fault

-- ---- statements that fail

-- what was done ended in an error, but not for want of memory, of which this holds, as long as the disk is clean
abbrev pub EndsInError : State → (Error → Type 0) → Type 0
EndsInError new Ends = (error : Error) × (is_memory error ≡ false) × (HasCleanDisk new → Ends error)

-- this text can't be executed
abbrev pub FailsToExecute : State → State → List ℕ → Type 0
FailsToExecute old new text = EndsInError new (λ error. Executes text [] old new (Err error))

-- no transaction is under way, so nothing was done
abbrev pub IsOutside : {S : Type 0} → Held S → Held S → Type 0
IsOutside old new = (old.in_transaction ≡ false) × (new ≡ old)

-- this text can't be asked with these parameters within a transaction: none is under way, or the question has no answer
abbrev pub FailsToAsk : {S : Type 0} → Ghosts S → Held S → Held S → List ℕ → List Value → Type 0
FailsToAsk g old new text params = IsOutside old new ⊎ EndsInError (state g new) (FailsToQuery text params (state g old) (state g new))

-- the same, or the answer has no row
abbrev pub FailsToShowRow : {S : Type 0} → Ghosts S → Held S → Held S → List ℕ → List Value → Type 0
FailsToShowRow g old new text params = IsOutside old new ⊎ EndsInError (state g new) (λ error. QueriesRow text params (state g old) (state g new) (Err error))

-- the same, or the row doesn't begin with a number
abbrev pub FailsToShowNumber : {S : Type 0} → Ghosts S → Held S → Held S → List ℕ → List Value → Type 0
FailsToShowNumber g old new text params =
    FailsToShowRow g old new text params
    ⊎ ((row : List Value) × (HasCleanDisk (state g new) → QueriesRow text params (state g old) (state g new) (Ok row)) × IsUnreadable IsInt row 0)

-- ---- rows that are refused

-- one of the values is a number of 2^63 or more, which no column of SQLite holds
abbrev pub HasLargeNumber : List RowValue → Type 0
HasLargeNumber values = (n : ℕ) × Contains values (Number n) × (2 ^ 63 ≤ n)

-- an image's row can't be put, or the volumes of the image with its number can't be taken away
abbrev pub RefusesImage : {S : Type 0} → Ghosts S → List Value → Held S → Held S → Type 0
RefusesImage {S} g values old new =
    FailsToShowNumber g old new put_image_text values
    ⊎ ((put : Held S) × (id : ℤ) × KeepsFile g old put × HasFound (state g old) (state g put) put_image_text values id × KeepsFile g put new
    × FailsToAsk g put new drop_volumes_text (Int id ∷ []))

-- these values can't be put into this table after the rows that were put last
abbrev pub RefusesValues : {S : Type 0} → Ghosts S → Table → List Value → Held S → Held S → LastRows → Type 0
RefusesValues g table.Image values old new last = RefusesImage g values old new
RefusesValues g table.Volume values old new last = FailsToShowNumber g old new put_volume_text (Int last.image ∷ values)
RefusesValues g table.Item values old new last = FailsToAsk g old new put_item_text (Int last.volume ∷ values)

-- a row can't be put after the rows that were put last: it has a number that no column holds, or its values can't be put
abbrev pub RefusesRow : {S : Type 0} → Ghosts S → Table → List RowValue → Held S → Held S → LastRows → Type 0
RefusesRow g table values old new last = HasLargeNumber values ⊎ RefusesValues g table (map sql_value values) old new last

-- since the database was like this the rows were put but for the last one, which was refused; nothing was committed
pub record HasRefusedLast {S : Type 0} (g : Ghosts S) (start : Held S) (rows : List TakenRow) (now : Held S) : Type 0 where
  pub put : List TakenRow
  pub row : TakenRow
  pub rows_are : rows ≡ put ++ row ∷ []
  pub before : Held S
  pub last : LastRows
  pub puts : HasPutSince g start put before last
  pub keeps : KeepsFile g start before
  pub kept : KeepsFile g before now
  pub refuses : RefusesRow g row.table row.values before now last

-- a source gave such rows, of which the last one was refused
abbrev pub RefusesOne : {S : Type 0} → Ghosts S → (List TakenRow → Type 0) → Held S → Held S → Type 0
RefusesOne g AreGiven start now = ∥ ((rows : List TakenRow) × AreGiven rows × HasRefusedLast g start rows now) ∥₁

-- ---- transactions that fail

-- none can begin: one is under way, so nothing was done, or it is refused
abbrev pub IsUnbegun : {S : Type 0} → Ghosts S → Held S → Held S → Type 0
IsUnbegun g start new = (IsTrue start.in_transaction × (new ≡ start)) ⊎ FailsToExecute (state g start) (state g new) (codes "BEGIN")

-- it can't be committed: none is under way any more, so nothing was done, or it is refused; a crash leaves what it left, or all that was put
abbrev pub IsUncommitted : {S : Type 0} → Ghosts S → Held S → Held S → Type 0
IsUncommitted g given new =
    (IsOutside given new ⊎ FailsToExecute (state g given) (state g new) (codes "COMMIT"))
    × Survives (state g given) (state g new) (λ db. db ≡ (state g given).now.trees)

-- one is under way, and it can't be rolled back
abbrev pub IsNotRolledBack : {S : Type 0} → Ghosts S → Held S → Held S → Type 0
IsNotRolledBack g given new = IsTrue given.in_transaction × FailsToExecute (state g given) (state g new) (codes "ROLLBACK")

-- in a transaction that began like this a row was refused, and it was undone; or all rows were put, and it can't be committed; or, with nothing
-- committed, it can't be rolled back
abbrev pub FailsWithin : {S : Type 0} → Ghosts S → (List TakenRow → Type 0) → (List TakenRow → Type 0) → Held S → Held S → Held S → Type 0
FailsWithin g AreGiven AreRows first given new =
    (RefusesOne g AreGiven first given × IsUndone g given new × KeepsFile g given new × (new.in_transaction ≡ false))
    ⊎ ((PutsAll g AreRows first given × LeavesFile g first given × IsUncommitted g given new)
    ⊎ (LeavesFile g first given × IsNotRolledBack g given new × KeepsFile g given new))

-- why the rows of a source are not put in one transaction, by what is known of those that it gave, and of all of them
abbrev pub FailsToPut : {S : Type 0} → Ghosts S → (List TakenRow → Type 0) → (List TakenRow → Type 0) → Held S → Held S → Type 0
FailsToPut {S} g AreGiven AreRows start new =
    ∥ (IsUnbegun g start new ⊎ ((first : Held S) × (given : Held S) × IsBegun g start first × KeepsFile g start first × FailsWithin g AreGiven AreRows first given new)) ∥₁
