-- The tables and indexes of a collection.
use Rattle.std.specs.Prelude.{◌≡◌, ◌≢◌, ◌⊎◌, ⊤, pos, ℕ, Bool, IsTrue, false, List, [], ◌∷◌, codes, Ok, Err}
use Rattle.sqlite.specs.declared.error.Error.{Error}
use Rattle.sqlite.specs.declared.types.Value.{Value}
use Rattle.sqlite.specs.declared.types.Value.TheVariants.{Int, Text}
use Rattle.sqlite.specs.Held.{Held, state}
use Rattle.sqlite.specs.State.{ExecutesInside, HasCleanDisk, IsRolledBack, QueriesRow, State, Survives}
use Rattle.sqlite.specs.Steps.{FailsToCommit}
use Rattle.sqlite.specs.Store.{Ghosts}
use Rattle.sqlite.specs.Values.{IsInt}
use Rattle.sqlite_value.specs.Order.{column}
use Rattle.hfs_database.specs.declared.fault.DatabaseFault.{DatabaseFault}
use Rattle.hfs_database.specs.declared.fault.DatabaseFault.TheVariants.{CannotOpen, CannotWrite, NoMemory}
use Rattle.hfs_database.specs.declared.fault.Obstacle.TheVariants.{Busy, Damaged, NoTables, OtherTables, System, Unreadable}
use Rattle.hfs_database.specs.declared.tables.Found.{Found}
use Rattle.hfs_database.specs.declared.tables.Found.TheVariants as found
use Rattle.hfs_database.specs.Doing.{HasRun}
use Rattle.hfs_database.specs.Faults.{IsUnreadable, opening_fault, writing_fault}
use Rattle.hfs_database.specs.Transactions.{IsCommitted, begun}

-- ---- their texts

unfoldable pub image_table : List ℕ
image_table = codes "CREATE TABLE image (id INTEGER PRIMARY KEY, path TEXT NOT NULL UNIQUE, bytes INTEGER NOT NULL, sha256 TEXT, program TEXT NOT NULL)"

unfoldable pub volume_table : List ℕ
volume_table = codes "CREATE TABLE volume (id INTEGER PRIMARY KEY, image INTEGER NOT NULL REFERENCES image (id) ON DELETE CASCADE, number INTEGER NOT NULL, how TEXT NOT NULL, first_byte INTEGER NOT NULL, bytes INTEGER NOT NULL, name TEXT, created TEXT, modified TEXT, backup TEXT, blocks INTEGER, block_bytes INTEGER, free_blocks INTEGER, verdict TEXT NOT NULL, UNIQUE (image, number))"

unfoldable pub item_table : List ℕ
item_table = codes "CREATE TABLE item (id INTEGER PRIMARY KEY, volume INTEGER NOT NULL REFERENCES volume (id) ON DELETE CASCADE, number INTEGER NOT NULL, path TEXT, bag_path TEXT NOT NULL, kind TEXT NOT NULL, cnid INTEGER NOT NULL, parent INTEGER NOT NULL, type TEXT, creator TEXT, flags TEXT NOT NULL, locked INTEGER, file_id INTEGER, created TEXT, modified TEXT, backup TEXT, items INTEGER, data_bytes INTEGER, resource_bytes INTEGER, finder TEXT NOT NULL, data_sha256 TEXT, resource_sha256 TEXT, data_verdict TEXT, resource_verdict TEXT, UNIQUE (volume, number))"

unfoldable pub data_index : List ℕ
data_index = codes "CREATE INDEX item_data ON item (data_sha256)"

unfoldable pub resource_index : List ℕ
resource_index = codes "CREATE INDEX item_resource ON item (resource_sha256)"

-- a table or an index: its name, and the text that makes it
pub record Part : Type 0 where
  pub name : List ℕ
  pub text : List ℕ

abbrev pub part_of : List ℕ → List ℕ → Part
part_of name text = record { name = name; text = text }

abbrev pub all_parts : List Part
all_parts =
    part_of (codes "image") image_table ∷ part_of (codes "volume") volume_table ∷ part_of (codes "item") item_table
    ∷ part_of (codes "item_data") data_index ∷ part_of (codes "item_resource") resource_index ∷ []

-- ---- what there is of them

-- how many tables and indexes have a name, in whatever case its ASCII letters are, and how many of them a text
unfoldable pub find_part_text : List ℕ
find_part_text = codes "SELECT count(*), sum(sql = ?2) FROM sqlite_schema WHERE name = ?1 COLLATE NOCASE"

-- by the answer's row there is one of the name, and it has the text; there is none; or there is something of the name, and not one with the text alone
abbrev pub Tells : List Value → Found → Type 0
Tells row found.All = (column row 0 ≡ Int (pos 1)) × (column row 1 ≡ Int (pos 1))
Tells row found.Nothing = column row 0 ≡ Int (pos 0)
Tells row found.Other = (column row 0 ≢ Int (pos 0)) × (column row 0 ≡ Int (pos 1) → column row 1 ≢ Int (pos 1))

-- what there is of two
abbrev pub both : Found → Found → Found
both found.Nothing found.Nothing = found.Nothing
both found.Nothing found.All = found.Other
both found.Nothing found.Other = found.Other
both found.All found.Nothing = found.Other
both found.All found.All = found.All
both found.All found.Other = found.Other
both found.Other _ = found.Other

-- it was asked for this part, where the disk is clean still, and this is what there is of it; the next question may take as many steps
abbrev pub FindsPart : State → State → Part → Found → Type 0
FindsPart old new part found =
    (new.step_limit ≡ old.step_limit)
    × (HasCleanDisk new → (row : List Value) × QueriesRow find_part_text (Text part.name ∷ Text part.text ∷ []) old new (Ok row) × Tells row found)

-- it was asked for each of these, one after the other, and this is what there is of each of them
abbrev pub FindsParts : {S : Type 0} → Ghosts S → List Part → Found → Held S → Held S → Type 0
FindsParts g [] found old new = new ≡ old
FindsParts {S} g (part ∷ parts) found old new = (next : Held S) × FindsPart (state g old) (state g next) part found × FindsParts g parts found next new

-- it was asked for each of these, one after the other, and of each there is what is at its place
abbrev pub FindsEach : {S : Type 0} → Ghosts S → List Part → List Found → Held S → Held S → Type 0
FindsEach g [] founds old new = (founds ≡ []) × (new ≡ old)
FindsEach g (part ∷ parts) [] old new = ⊥
FindsEach {S} g (part ∷ parts) (found ∷ founds) old new = (next : Held S) × FindsPart (state g old) (state g next) part found × FindsEach g parts founds next new

-- of each there is this
abbrev pub AreEach : Found → List Found → Type 0
AreEach found [] = ⊤
AreEach found (it ∷ founds) = (it ≡ found) × AreEach found founds

-- it was asked for all of them, and neither is each there with its text, nor is there none
pub record FindsOthers {S : Type 0} (g : Ghosts S) (old new : Held S) : Type 0 where
  pub founds : List Found
  pub finds : FindsEach g all_parts founds old new
  pub not_all : AreEach found.All founds → ⊥
  pub not_none : AreEach found.Nothing founds → ⊥

-- it was asked for all of them: each is there with its text, or there is none, or something else is there
abbrev pub FindsTables : {S : Type 0} → Ghosts S → Found → Held S → Held S → Type 0
FindsTables g found.All old new = FindsParts g all_parts found.All old new
FindsTables g found.Nothing old new = FindsParts g all_parts found.Nothing old new
FindsTables g found.Other old new = FindsOthers g old new

-- ---- how they are made

-- their texts were run, one after the other
abbrev pub MakesParts : {S : Type 0} → Ghosts S → List Part → Held S → Held S → Type 0
MakesParts g [] old new = new ≡ old
MakesParts {S} g (part ∷ parts) old new = (next : Held S) × HasRun (state g old) (state g next) part.text [] × MakesParts g parts next new

-- all were made in one transaction, and it was committed
pub record HasMadeAll {S : Type 0} (g : Ghosts S) (old new : Held S) : Type 0 where
  pub made : Held S
  pub makes : MakesParts g all_parts (begun old) made
  pub committed : IsCommitted g made new

-- a crash leaves the file as it was, or with all of them
pub record LeavesTablesOrNone {S : Type 0} (g : Ghosts S) (old new : Held S) : Type 0 where
  pub leaves : Survives (state g old) (state g new) (λ db. (made : Held S) × MakesParts g all_parts (begun old) made × (db ≡ (state g made).now.trees))

-- ---- a collection that is opened

-- there was none of them, and they were made; a crash leaves the file as it was then, or with all of them
pub record HasMadeTables {S : Type 0} (g : Ghosts S) (old new : Held S) : Type 0 where
  pub asked : Held S
  pub finds : FindsParts g all_parts found.Nothing old asked
  pub makes : HasMadeAll g asked new
  pub leaves : LeavesTablesOrNone g asked new

-- all of them were there, or none, and they were made since it was asked for
abbrev pub HasTables : {S : Type 0} → Ghosts S → Bool → Held S → Held S → Type 0
HasTables g makes old new = FindsParts g all_parts found.All old new ⊎ (IsTrue makes × HasMadeTables g old new)

-- ---- what can't be looked for, or can't be made

-- this column of a row can't be read as an integer, or memory was refused
abbrev pub IsUntoldAt : List Value → ℕ → DatabaseFault → Type 0
IsUntoldAt row at fault = (fault ≡ NoMemory) ⊎ ((fault ≡ CannotOpen Unreadable) × IsUnreadable IsInt row at)

-- the row doesn't say how many there are; or there is one, and it doesn't say whether that has the text
abbrev pub IsUntold : List Value → DatabaseFault → Type 0
IsUntold row fault = IsUntoldAt row 0 fault ⊎ ((column row 0 ≡ Int (pos 1)) × IsUntoldAt row 1 fault)

-- it was asked for this part, where the disk is clean still, and the answer is an error that has this fault, or a row that doesn't tell
abbrev pub FailsToFind : State → State → Part → DatabaseFault → Type 0
FailsToFind old new part fault =
    ∥ ((error : Error) × (fault ≡ opening_fault error) × (HasCleanDisk new → QueriesRow find_part_text (Text part.name ∷ Text part.text ∷ []) old new (Err error))) ∥₁
    ⊎ ((row : List Value) × (HasCleanDisk new → QueriesRow find_part_text (Text part.name ∷ Text part.text ∷ []) old new (Ok row)) × IsUntold row fault)

-- it was asked for each of these, one after the other, up to one that can't be looked for
abbrev pub FailsToFindParts : {S : Type 0} → Ghosts S → List Part → Held S → Held S → DatabaseFault → Type 0
FailsToFindParts g [] old new fault = ⊥
FailsToFindParts {S} g (part ∷ parts) old new fault =
    FailsToFind (state g old) (state g new) part fault
    ⊎ ((next : Held S) × (found : Found) × FindsPart (state g old) (state g next) part found × FailsToFindParts g parts next new fault)

-- this text was run in the transaction, where the disk is clean still, and gave an error that has this fault
abbrev pub FailsToMake : State → State → List ℕ → DatabaseFault → Type 0
FailsToMake old new text fault =
    ∥ ((error : Error) × (fault ≡ writing_fault error) × (HasCleanDisk new → IsTrue old.in_transaction → ExecutesInside 0 text [] old new (Err error))) ∥₁

-- their texts were run, one after the other, up to one that can't be made
abbrev pub FailsToMakeParts : {S : Type 0} → Ghosts S → List Part → Held S → Held S → DatabaseFault → Type 0
FailsToMakeParts g [] old new fault = ⊥
FailsToMakeParts {S} g (part ∷ parts) old new fault =
    FailsToMake (state g old) (state g new) part.text fault
    ⊎ ((next : Held S) × HasRun (state g old) (state g next) part.text [] × FailsToMakeParts g parts next new fault)

-- one of them was not made in the transaction, and it was undone
pub record HasUndoneMaking {S : Type 0} (g : Ghosts S) (old new : Held S) (fault : DatabaseFault) : Type 0 where
  pub failed : Held S
  pub fails : FailsToMakeParts g all_parts (begun old) failed fault
  pub undone : HasCleanDisk (state g new) → IsRolledBack (state g failed) (state g new)

-- all were made in the transaction, and it could not be committed
pub record FailsToCommitAll {S : Type 0} (g : Ghosts S) (old new : Held S) (fault : DatabaseFault) : Type 0 where
  pub made : Held S
  pub makes : MakesParts g all_parts (begun old) made
  pub uncommitted : ∥ ((error : Error) × (fault ≡ writing_fault error) × (HasCleanDisk (state g new) → FailsToCommit (state g made) (state g new) error)) ∥₁

-- a transaction was under way already
abbrev pub HasOpenTransaction : {S : Type 0} → Held S → Held S → DatabaseFault → Type 0
HasOpenTransaction old new fault = IsTrue old.in_transaction × (new ≡ old) × (fault ≡ CannotWrite)

-- they were not made: a transaction was under way, one of them can't be made, or they can't be committed
abbrev pub FailsToMakeAll : {S : Type 0} → Ghosts S → Held S → Held S → DatabaseFault → Type 0
FailsToMakeAll g old new fault = HasOpenTransaction old new fault ⊎ (HasUndoneMaking g old new fault ⊎ FailsToCommitAll g old new fault)

-- there was none of them, and they were not made; a crash leaves the file as it was then, or with all of them
pub record HasNotMade {S : Type 0} (g : Ghosts S) (old new : Held S) (fault : DatabaseFault) : Type 0 where
  pub asked : Held S
  pub finds : FindsParts g all_parts found.Nothing old asked
  pub fails : FailsToMakeAll g asked new fault
  pub leaves : LeavesTablesOrNone g asked new

-- ---- a collection that is refused

-- the fault says nothing of which tables are there
abbrev pub TellsNoTables : DatabaseFault → Type 0
TellsNoTables (CannotOpen NoTables) = ⊥
TellsNoTables (CannotOpen OtherTables) = ⊥
TellsNoTables _ = ⊤

-- some of them can't be looked for; or there was none, they were to be made, and were not
abbrev pub IsUnknown : {S : Type 0} → Ghosts S → Bool → Held S → Held S → DatabaseFault → Type 0
IsUnknown g makes old new fault = FailsToFindParts g all_parts old new fault ⊎ (IsTrue makes × HasNotMade g old new fault)

-- a collection is refused for other tables where something is there that isn't its own; for lack of tables where there is none, and none are to be made;
-- and else for the fault of what can't be looked for, or can't be made
abbrev pub IsRefusedFor : {S : Type 0} → Ghosts S → Bool → Held S → Held S → DatabaseFault → Type 0
IsRefusedFor g makes old new (CannotOpen NoTables) = (makes ≡ false) × FindsParts g all_parts found.Nothing old new
IsRefusedFor g makes old new (CannotOpen OtherTables) = FindsOthers g old new
IsRefusedFor g makes old new (CannotOpen Busy) = IsUnknown g makes old new (CannotOpen Busy)
IsRefusedFor g makes old new (CannotOpen Unreadable) = IsUnknown g makes old new (CannotOpen Unreadable)
IsRefusedFor g makes old new (CannotOpen Damaged) = IsUnknown g makes old new (CannotOpen Damaged)
IsRefusedFor g makes old new (CannotOpen System) = IsUnknown g makes old new (CannotOpen System)
IsRefusedFor g makes old new CannotWrite = IsUnknown g makes old new CannotWrite
IsRefusedFor g makes old new NoMemory = IsUnknown g makes old new NoMemory
