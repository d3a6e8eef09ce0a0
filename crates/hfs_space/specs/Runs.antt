-- The records of the extents tree that forks go on with, by their places, and the files of a catalog by their numbers.
use Rattle.std.specs.Prelude.{◌≡◌, ℕ, ◌+◌, ◌<◌, Bool, ◌&&◌, ◌||◌, ◌==◌, nat_lt, if◌then◌else◌, List, [], ◌∷◌, length, slice_index_or, Option, Some, None, Result, IfOk, false, ◌≤◌, ◌++◌}
use Rattle.std.specs.List.{flat_map, list_all, list_any}
use Rattle.std.specs.Ordering.{is_eq}
use Rattle.std.proofs.Common.{Vec, Global}
use Rattle.hfs_fields.specs.declared.mdb.Mdb.{Mdb}
use Rattle.hfs_fields.specs.declared.extent.Extent.{Extent}
use Rattle.hfs_fields.specs.declared.key.CatKey.{CatKey}
use Rattle.hfs_fields.specs.declared.key.ExtKey.{ExtKey}
use Rattle.hfs_fields.specs.Records.{is_file, file_record_of}
use Rattle.hfs_fields.specs.Keys.{ext_cmp}
use Rattle.hfs_btree.specs.Pairs.{Pairs}
use Rattle.hfs_space.specs.declared.files.CatalogFile.{CatalogFile}
use Rattle.hfs_space.specs.declared.fork_kind.ForkKind.{ForkKind}
use Rattle.hfs_fields.specs.declared.file_record.ForkRecord.{ForkRecord}
use Rattle.hfs_space.specs.Extents.{Overflow, block_total, run_on, fork_byte, record_extents, fork_extents}
use Rattle.hfs_space.specs.Owners.{Fork, forks_of_file, catalog_fork, goes_on_with, extents_in, extents_of_file, is_bad_blocks, owned_in}
use Rattle.hfs_space.specs.Faults.{is_fork_right, overflow_fault, are_extents_within, IsForkFault}
use Rattle.hfs_fields.specs.declared.file_record.FileRecord.{FileRecord}

-- ---- runs

-- the record is of this fork
abbrev pub is_of_fork : ℕ → ℕ → ExtKey × List ℕ → Bool
is_of_fork file fork r = (r.0.file == file) && (r.0.fork == fork)

-- the record precedes those of this fork
abbrev pub is_before_fork : ℕ → ℕ → ExtKey × List ℕ → Bool
is_before_fork file fork r = nat_lt r.0.file file || ((r.0.file == file) && nat_lt r.0.fork fork)

-- the record's key is among the keys of these
abbrev pub has_key_in : Overflow → ExtKey × List ℕ → Bool
has_key_in records r = list_any (λ q. is_eq (ext_cmp r.0 q.0)) records

-- the records that a fork goes on with whose record has these first extents
abbrev pub run_of_fork : ℕ → ℕ → List Extent → Overflow → Overflow
run_of_fork file fork first overflow = run_on file fork (block_total first) overflow

-- the marks are the old ones, and those of the records whose keys are in a run
abbrev pub AddsMarks : Overflow → Overflow → List Bool → List Bool → Type 0
AddsMarks overflow run old new =
    (k : ℕ) (d : ExtKey × List ℕ) (b : Bool) → k < length overflow → slice_index_or new k b ≡ (slice_index_or old k b || has_key_in run (slice_index_or overflow k d))

-- ---- the files of a catalog

-- with their numbers among its records, from this number on
abbrev pub files_in : ℕ → Pairs CatKey → List CatalogFile
files_in n [] = []
files_in n (r ∷ rs) = if is_file r.1 then record { number = n; file = file_record_of r.1 } ∷ files_in (n + 1) rs else files_in (n + 1) rs

-- the forks of these files
abbrev pub forks_in : List CatalogFile → List Fork
forks_in files = flat_map (λ f. forks_of_file f.file) files

-- the number of the first file with a wrong fork
abbrev pub first_wrong_file : Mdb → Overflow → List CatalogFile → Option ℕ
first_wrong_file mdb overflow [] = None
first_wrong_file mdb overflow (f ∷ fs) = if list_all (is_fork_right mdb overflow) (forks_of_file f.file) then first_wrong_file mdb overflow fs else Some f.number

-- a fork of a file's record
abbrev pub fork_in : ℕ → ForkKind → ForkRecord → Fork
fork_in file kind f = record { file = file; fork = fork_byte kind; len = f.length; first = f.extents }

-- the marks are the old ones, and those of the records that one of these forks goes on with
abbrev pub AddsUses : Overflow → List Fork → List Bool → List Bool → Type 0
AddsUses overflow forks old new =
    (k : ℕ) (d : ExtKey × List ℕ) (b : Bool) → k < length overflow → slice_index_or new k b ≡ (slice_index_or old k b || goes_on_with overflow forks (slice_index_or overflow k d))

-- the marks say about each record of the extents tree whether one of these forks goes on with it
abbrev pub AreMarks : Overflow → List Fork → List Bool → Type 0
AreMarks overflow forks marks =
    (k : ℕ) (d : ExtKey × List ℕ) (b : Bool) → k < length overflow → slice_index_or marks k b ≡ goes_on_with overflow forks (slice_index_or overflow k d)

-- the forks that may go on in the extents tree, where these are the files
abbrev pub forks_with : Mdb → List CatalogFile → List Fork
forks_with mdb files = catalog_fork mdb ∷ forks_in files

-- the extents of these files' forks
abbrev pub extents_of_files : Overflow → List CatalogFile → List Extent
extents_of_files overflow files = flat_map (extents_in overflow) (forks_in files)

-- the record of this number, where it is a file's with this body
abbrev pub file_at : ℕ → List ℕ → CatalogFile
file_at number body = record { number = number; file = file_record_of body }

-- the first n records precede those of this fork
abbrev pub StandBefore : Overflow → ℕ → ℕ → ℕ → Type 0
StandBefore overflow file fork n = (k : ℕ) (d : ExtKey × List ℕ) → k < n → is_of_fork file fork (slice_index_or overflow k d) ≡ false

-- and no other one does
abbrev pub StandBehind : Overflow → ℕ → ℕ → ℕ → Type 0
StandBehind overflow file fork n =
    (k : ℕ) (d : ExtKey × List ℕ) → n ≤ k → k < length overflow → is_before_fork file fork (slice_index_or overflow k d) ≡ false

-- the marks are the old ones, and those of the records that a fork goes on with whose record has these first extents
abbrev pub AddsRun : Overflow → ℕ → ForkKind → List Extent → List Bool → List Bool → Type 0
AddsRun overflow file kind first old new = AddsMarks overflow (run_of_fork file (fork_byte kind) first overflow) old new

-- after the old extents, those of a fork whose record has these first ones
abbrev pub AddsFork : Overflow → ℕ → ForkKind → List Extent → Vec Extent Global → Vec Extent Global → Type 0
AddsFork overflow file kind first old new = new.items ≡ old.items ++ fork_extents overflow file (fork_byte kind) first

-- this holds of each catalog whose files these are
abbrev pub OfCatalog : List CatalogFile → (Pairs CatKey → Type 0) → Type 0
OfCatalog files P = (catalog : Pairs CatKey) → files ≡ files_in 0 catalog → P catalog

-- this holds of each catalog of so many records whose files these are
abbrev pub OfCatalogOf : ℕ → List CatalogFile → (Pairs CatKey → Type 0) → Type 0
OfCatalogOf records files P = (catalog : Pairs CatKey) → files ≡ files_in 0 catalog → records ≡ length catalog → P catalog

-- whether both forks of a file are right
abbrev pub is_file_right : Mdb → Overflow → FileRecord → Bool
is_file_right mdb overflow file = list_all (is_fork_right mdb overflow) (forks_of_file file)

-- whether a fork of a file's record is right
abbrev pub is_record_fork_right : Mdb → Overflow → ℕ → ForkKind → ForkRecord → Bool
is_record_fork_right mdb overflow file kind fork = is_fork_right mdb overflow (fork_in file kind fork)

-- the first wrong record of the extents tree, where these are the files
abbrev pub overflow_fault_with : Mdb → Overflow → List CatalogFile → Option ℕ
overflow_fault_with mdb overflow files = overflow_fault mdb overflow (forks_with mdb files)

-- whether a record of the extents tree has a block, and is one of the bad blocks that lies in the volume, or one that is used
abbrev pub is_overflow_right_if : Mdb → Bool → ExtKey × List ℕ → Bool
is_overflow_right_if mdb used r = nat_lt 0 (block_total (record_extents r.1))
    && (if is_bad_blocks r then are_extents_within mdb.allocation_blocks (record_extents r.1) else used)

-- the marks say which records of the extents tree some fork goes on with, where these are the files
abbrev pub AreMarksOf : Mdb → Overflow → List CatalogFile → Vec Bool Global → Type 0
AreMarksOf mdb overflow files = λ marks. AreMarks overflow (forks_with mdb files) marks.items

-- the extents of a file's forks are added
abbrev pub AddsExtentsOfFile : Overflow → FileRecord → Vec Extent Global → Vec Extent Global → Type 0
AddsExtentsOfFile overflow file old new = new.items ≡ old.items ++ extents_of_file overflow file

-- the extents of these files' forks are added
abbrev pub AddsExtentsOfFiles : Overflow → List CatalogFile → Vec Extent Global → Vec Extent Global → Type 0
AddsExtentsOfFiles overflow files old new = new.items ≡ old.items ++ extents_of_files overflow files

-- the answer is the first fault of forks, of each catalog of so many records whose files these are
abbrev pub GivesForkFault : {E : Type 0} → Mdb → List (List ℕ) → ℕ → List CatalogFile → Result (Option ℕ) E → Type 0
GivesForkFault mdb nodes records files result = OfCatalogOf records files (λ c. IfOk result (IsForkFault mdb nodes c))

-- the answer has all extents that somebody owns, of each catalog whose files these are
abbrev pub GivesOwned : {E : Type 0} → Mdb → List (List ℕ) → List CatalogFile → Result (Vec Extent Global) E → Type 0
GivesOwned mdb nodes files result = OfCatalog files (λ c. IfOk result (λ owned. owned.items ≡ owned_in mdb nodes c))
