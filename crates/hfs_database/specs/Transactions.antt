-- What is done in one transaction.
use Rattle.std.specs.Prelude.{◌≡◌, ◌≤◌, ⊤, IsTrue, pos, true, false, List, [], ◌∷◌, map}
use Rattle.sqlite.specs.Held.{Held, state}
use Rattle.sqlite.specs.State.{HasCleanDisk, KeepsCommit, Shows, Survives}
use Rattle.sqlite.specs.Store.{Ghosts}
use Rattle.sqlite.specs.Tree.{Trees}
use Rattle.sqlite.specs.View.{doubt}
use Rattle.hfs_database.specs.Taken.{TakenRow}
use Rattle.hfs_database.specs.declared.fault.PutFault.{PutFault}
use Rattle.hfs_database.specs.declared.fault.PutFault.TheVariants.{Database, Source}
use Rattle.hfs_database.specs.declared.statements.LastRows.{LastRows}
use Rattle.hfs_database.specs.Rows.{PutsRow}
use Rattle.hfs_database.specs.Values.{sql_value}

-- the database as a transaction begins
abbrev pub begun : {S : Type 0} → Held S → Held S
begun held = record held { in_transaction = true }

-- between both nothing was committed: whatever happens, a crash leaves nothing but what it left before, and what was committed last is the same
pub record KeepsFile {S : Type 0} (g : Ghosts S) (old new : Held S) : Type 0 where
  pub survives : Survives (state g old) (state g new) (λ _. ⊥)
  pub committed : HasCleanDisk (state g new) → KeepsCommit (state g old) (state g new)

-- a transaction began with the database as it was
abbrev pub IsBegun : {S : Type 0} → Ghosts S → Held S → Held S → Type 0
IsBegun g start new = HasCleanDisk (state g new) → Shows (state g start) (state g new) (state g start).now (state g start).committed true

-- what the transaction did is there, and the transaction at its end
abbrev pub IsCommitted : {S : Type 0} → Ghosts S → Held S → Held S → Type 0
IsCommitted g given new = HasCleanDisk (state g new) → Shows (state g given) (state g new) (state g given).now (state g given).now false

-- no transaction is under way, and all that the database shows was committed
pub record IsSettled {S : Type 0} (g : Ghosts S) (held : Held S) : Type 0 where
  pub outside : held.in_transaction ≡ false
  pub shows : IsTrue (state g held).is_open → (state g held).now ≡ (state g held).committed

-- as long as the disk is clean, no transaction is under way any more, and the database shows what was committed last
pub record IsUndone {S : Type 0} (g : Ghosts S) (given new : Held S) : Type 0 where
  pub clean : doubt (state g given).is_clean ≤ doubt (state g new).is_clean
  pub outside : HasCleanDisk (state g new) → new.in_transaction ≡ false
  pub was_open : HasCleanDisk (state g new) → IsTrue (state g new).is_open → IsTrue (state g given).is_open
  pub shows : HasCleanDisk (state g new) → IsTrue (state g new).is_open
      → ((state g new).now ≡ (state g given).committed) × ((state g new).committed ≡ (state g given).committed)

-- as long as the disk is clean, a transaction is under way if one was before, and the database shows what it showed: nothing was put
pub record IsAsBefore {S : Type 0} (g : Ghosts S) (start new : Held S) : Type 0 where
  pub mode : HasCleanDisk (state g new) → new.in_transaction ≡ start.in_transaction
  pub was_open : HasCleanDisk (state g new) → IsTrue (state g new).is_open → IsTrue (state g start).is_open
  pub shows : HasCleanDisk (state g new) → IsTrue (state g new).is_open
      → ((state g new).now ≡ (state g start).now) × ((state g new).committed ≡ (state g start).committed)

-- the database is left as it was
abbrev pub LeavesAsBefore : {S : Type 0} → Ghosts S → Held S → Held S → Type 0
LeavesAsBefore g start new = ∥ IsAsBefore g start new ∥₁

-- ---- rows that are put in one

-- before the first row none was put
abbrev pub no_rows : LastRows
no_rows = record { image = pos 0; volume = pos 0 }

-- these rows were put, one after the other, after the rows that were put last
abbrev pub PutsRows : {S : Type 0} → Ghosts S → List TakenRow → Held S → Held S → LastRows → LastRows → Type 0
PutsRows g [] old new before after = (new ≡ old) × (after ≡ before)
PutsRows {S} g (row ∷ rows) old new before after =
    (next : Held S) × (last : LastRows) × PutsRow g row.table (map sql_value row.values) old next before last × PutsRows g rows next new last after

-- since the database was like this these rows were put, of which these were put last
abbrev pub HasPutSince : {S : Type 0} → Ghosts S → Held S → List TakenRow → Held S → LastRows → Type 0
HasPutSince g start rows now last = PutsRows g rows start now no_rows last

-- all rows of a source were put, one after the other, and no others
abbrev pub PutsAll : {S : Type 0} → Ghosts S → (List TakenRow → Type 0) → Held S → Held S → Type 0
PutsAll g AreRows old new = ∥ ((rows : List TakenRow) × AreRows rows × (last : LastRows) × HasPutSince g old rows new last) ∥₁

-- these rows were put in one transaction, from its beginning on, and it was committed
pub record HasPutInOne {S : Type 0} (g : Ghosts S) (start : Held S) (rows : List TakenRow) (new : Held S) : Type 0 where
  pub first : Held S
  pub given : Held S
  pub last : LastRows
  pub begins : IsBegun g start first
  pub put : HasPutSince g first rows given last
  pub committed : IsCommitted g given new

-- all rows of a source were put in one transaction, and it was committed
abbrev pub PutsAllInOne : {S : Type 0} → Ghosts S → (List TakenRow → Type 0) → Held S → Held S → Type 0
PutsAllInOne g AreRows start new = ∥ ((rows : List TakenRow) × AreRows rows × HasPutInOne g start rows new) ∥₁

-- the file of a transaction that began with the database like this, and put all rows of a source
abbrev pub HoldsAll : {S : Type 0} → Ghosts S → (List TakenRow → Type 0) → Held S → Trees → Type 0
HoldsAll {S} g AreRows start db =
    ∥ ((rows : List TakenRow) × AreRows rows × (first : Held S) × (given : Held S) × (last : LastRows) × IsBegun g start first × HasPutSince g first rows given last
    × (db ≡ (state g given).now.trees)) ∥₁

-- whatever happens, a crash leaves the file as it was, or with all rows of a source, put in one transaction
abbrev pub LeavesAllOrNone : {S : Type 0} → Ghosts S → (List TakenRow → Type 0) → Held S → Held S → Type 0
LeavesAllOrNone g AreRows start new = ∥ Survives (state g start) (state g new) (HoldsAll g AreRows start) ∥₁

-- a crash leaves nothing but what it left before
abbrev pub LeavesFile : {S : Type 0} → Ghosts S → Held S → Held S → Type 0
LeavesFile g start new = ∥ KeepsFile g start new ∥₁

-- where a source did not give all its rows, a crash leaves nothing but what it left before
abbrev pub KeepsAtSource : {S F : Type 0} → Ghosts S → Held S → Held S → PutFault F → Type 0
KeepsAtSource g start new (Source fault) = LeavesFile g start new
KeepsAtSource g start new (Database fault) = ⊤

-- if a source did not give all its rows, no transaction is under way
abbrev pub EndsAtSource : {S F : Type 0} → Held S → PutFault F → Type 0
EndsAtSource new (Source fault) = new.in_transaction ≡ false
EndsAtSource new (Database fault) = ⊤
