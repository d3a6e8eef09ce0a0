-- What an error of SQLite means.
use Rattle.std.specs.Prelude.{◌≡◌, ◌⊎◌, ◌≤◌, ℕ, pos, Bool, true, false, if◌then◌else◌, List, length, Ok, IsUtf8}
use Rattle.sqlite.specs.declared.error.Error.{Error}
use Rattle.sqlite.specs.declared.error.Error.TheVariants.{SqliteFailure}
use Rattle.sqlite.specs.declared.error.ErrorCode.{ErrorCode}
use Rattle.sqlite.specs.declared.error.ErrorCode.TheVariants as code
use Rattle.sqlite.specs.declared.types.Value.{Value}
use Rattle.sqlite.specs.declared.types.Value.TheVariants.{Int, Null, Text}
use Rattle.sqlite.specs.State.{State, FailsToQuery, HasCleanDisk, QueriesRow}
use Rattle.sqlite_value.specs.Order.{column}
use Rattle.hfs_database.specs.declared.row_fault.TakerFault.{TakerFault}
use Rattle.hfs_database.specs.declared.row_fault.TakerFault.TheVariants as taker
use Rattle.hfs_database.specs.declared.fault.DatabaseFault.{DatabaseFault}
use Rattle.hfs_database.specs.declared.fault.DatabaseFault.TheVariants.{CannotOpen, CannotWrite, NoMemory}
use Rattle.hfs_database.specs.declared.fault.Obstacle.{Obstacle}
use Rattle.hfs_database.specs.declared.fault.Obstacle.TheVariants as obstacle

-- whether memory was refused
abbrev pub is_memory : Error → Bool
is_memory (SqliteFailure code.OutOfMemory) = true
is_memory _ = false

-- what is in the way where a database isn't opened for this reason
abbrev pub obstacle_of : ErrorCode → Obstacle
obstacle_of code.DatabaseBusy = obstacle.Busy
obstacle_of code.DatabaseCorrupt = obstacle.Damaged
obstacle_of code.CannotOpen = obstacle.System
obstacle_of code.SystemIoFailure = obstacle.System
obstacle_of code.Closed = obstacle.System
obstacle_of _ = obstacle.Unreadable

-- its fault where a database is opened
abbrev pub opening_fault : Error → DatabaseFault
opening_fault (SqliteFailure code.OutOfMemory) = NoMemory
opening_fault (SqliteFailure code.DiskFull) = CannotWrite
opening_fault (SqliteFailure why) = CannotOpen (obstacle_of why)
opening_fault _ = CannotOpen obstacle.Unreadable

-- its fault where a database is written, or what was written is read
abbrev pub writing_fault : Error → DatabaseFault
writing_fault error = if is_memory error then NoMemory else CannotWrite

-- the database's fault where a row isn't taken
abbrev pub untaken_fault : TakerFault → DatabaseFault
untaken_fault taker.CannotWrite = CannotWrite
untaken_fault taker.NoMemory = NoMemory

-- its fault where a row is taken
abbrev pub taking_fault : Error → TakerFault
taking_fault error = if is_memory error then taker.NoMemory else taker.CannotWrite

-- the database was asked this with these parameters, as long as the disk is clean, and could not answer it, for an error that has this fault
abbrev pub FailsToAnswer : State → State → List ℕ → List Value → DatabaseFault → Type 0
FailsToAnswer old new text params fault =
    ∥ ((error : Error) × (fault ≡ writing_fault error) × (HasCleanDisk new → FailsToQuery text params old new error)) ∥₁

-- a value that is read as a number of bytes, one that is read as a text, and one that is read as a text or as none
abbrev pub IsCount : Value → Type 0
IsCount value = (n : ℕ) × (value ≡ Int (pos n))

abbrev pub IsText : Value → Type 0
IsText value = (text : List ℕ) × (value ≡ Text text) × IsUtf8 text

abbrev pub IsTextOrNull : Value → Type 0
IsTextOrNull value = (value ≡ Null) ⊎ IsText value

-- the row has no such column, or what is in it isn't read so
abbrev pub IsUnreadable : (Value → Type 0) → List Value → ℕ → Type 0
IsUnreadable IsRead row at = (length row ≤ at) ⊎ (¬ IsRead (column row at))

-- this column of a row can't be read so, or memory was refused
abbrev pub IsUnreadAt : (Value → Type 0) → List Value → ℕ → DatabaseFault → Type 0
IsUnreadAt IsRead row at fault = (fault ≡ NoMemory) ⊎ ((fault ≡ CannotWrite) × IsUnreadable IsRead row at)

-- the bytes or the digest of an image can't be read in this row
abbrev pub IsUnreadImage : List Value → DatabaseFault → Type 0
IsUnreadImage row fault = IsUnreadAt IsCount row 0 fault ⊎ IsUnreadAt IsTextOrNull row 1 fault

-- the path that this row begins with can't be read
abbrev pub IsUnreadPath : List Value → DatabaseFault → Type 0
IsUnreadPath row fault = IsUnreadAt IsText row 0 fault

-- the database was asked this with these parameters, as long as the disk is clean, and the row that it answered can't be read
abbrev pub FailsToRead : (List Value → DatabaseFault → Type 0) → State → State → List ℕ → List Value → DatabaseFault → Type 0
FailsToRead IsUnread old new text params fault =
    (row : List Value) × (HasCleanDisk new → QueriesRow text params old new (Ok row)) × IsUnread row fault

-- the database was asked this with these parameters: it could not answer, or its row can't be read
abbrev pub FailsToTell : (List Value → DatabaseFault → Type 0) → State → State → List ℕ → List Value → DatabaseFault → Type 0
FailsToTell IsUnread old new text params fault = FailsToAnswer old new text params fault ⊎ FailsToRead IsUnread old new text params fault
