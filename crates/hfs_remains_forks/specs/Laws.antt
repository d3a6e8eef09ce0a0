-- What is said about a fork, and its bytes, are a function of the fork's length, its extents, its blocks, and of where blocks lie.
use Rattle.std.specs.Prelude.{◌≡◌, ◌≢◌, ℕ, ◌*◌, ◌<◌, ◌≤◌, Bool, true, false, List, map, take, length, reverse, Option, Some, None, IsTrue, slice_index_or}
use Rattle.hfs_fields.specs.declared.mdb.Mdb.{Mdb}
use Rattle.hfs_fields.specs.Records.{item_id}
use Rattle.hfs_texts.specs.NameLaws.{is_bytes}
use Rattle.hfs_texts.specs.MacPaths.{host_path}
use Rattle.hfs_fields.specs.declared.extent.Extent.{Extent}
use Rattle.hfs_blocks.specs.Blocks.{block_at, block_count}
use Rattle.hfs_space.specs.Extents.{Overflow, extent_blocks, fork_extents as whole_extents}
use Rattle.hfs_space.specs.Forks.{fork_bytes as whole_bytes}
use Rattle.hfs_space.specs.Owners.{Fork as CheckedFork}
use Rattle.hfs_space.specs.Sound.{IsForkSound}
use Rattle.hfs_catalog.specs.Records.{Record, Catalog, items_of as items_in}
use Rattle.hfs_check.specs.Parts.{Blocks, mdb_in, overflow_in, catalog_in}
use Rattle.hfs_check.specs.Sound.{AreBlocksSound, IsSound}
use Rattle.hfs_remains.specs.TreeFiles.{FileBlocks}
use Rattle.hfs_remains.specs.OverflowRecords.{fork_extents}
use Rattle.hfs_remains.specs.declared.catalog.FoundRecord.{FoundRecord}
use Rattle.hfs_remains.specs.CatalogRecords.{found}
use Rattle.hfs_remains.specs.Directory.{directory_of, mdb_at}
use Rattle.hfs_remains.specs.Items.{items_of}
use Rattle.hfs_remains.specs.Remains.{remaining_records}
use Rattle.hfs_remains_places.specs.declared.things.Thing.{Thing}
use Rattle.hfs_remains_places.specs.Folders.{thing_at}
use Rattle.hfs_remains_places.specs.Things.{things_of}
use Rattle.hfs_remains_places.specs.Paths.{payload_path}
use Rattle.hfs_remains_places.specs.Laws.{AreThings, ArePlacedApart, AreWaysShort, HasWay, HaveOwnNames}
use Rattle.hfs_remains_forks.specs.declared.forks.Fork.{Fork}
use Rattle.hfs_remains_forks.specs.declared.shares.FileShares.{FileShares}
use Rattle.hfs_remains_forks.specs.Records.{thing_of, namings_of}
use Rattle.hfs_remains_forks.specs.Forks.{blocks_for, both_forks, fork_length, fork_places}
use Rattle.hfs_remains_forks.specs.Verdicts.{finding_of, shares_of}
use Rattle.hfs_remains_forks.specs.ForkBytes.{fork_bytes, place_bytes}

-- ---- what two images agree on

-- two directories say the same of how many allocation blocks there are, how large these are, and where they begin
pub record AgreeOnBlocks (one other : Mdb) : Type 0 where
  pub count : one.allocation_blocks ≡ other.allocation_blocks
  pub size : one.allocation_block_size ≡ other.allocation_block_size
  pub start : one.allocation_start ≡ other.allocation_start

-- all extents of a fork
abbrev pub extents_of : Overflow → Mdb → Fork → List Extent
extents_of records mdb fork = fork_extents records fork.file fork.kind (blocks_for mdb fork.len) fork.first

-- two forks have the same length, and the same extents by these records
pub record AgreeOnFork (records others : Overflow) (one other : Mdb) (fork second : Fork) : Type 0 where
  pub len : fork.len ≡ second.len
  pub extents : extents_of records one fork ≡ extents_of others other second

-- ---- a fork's bytes

-- those of a fork of an image of `total` logical blocks, as far as its length goes
abbrev pub taken_bytes : ℕ → List ℕ → Overflow → Mdb → Fork → List ℕ
taken_bytes total image records mdb fork = fork_bytes image mdb (fork_length records mdb fork) (fork_places total records mdb fork)

-- two images have the same bytes in these blocks
abbrev pub AgreeOnBytes : List ℕ → List ℕ → Mdb → Mdb → FileBlocks → Type 0
AgreeOnBytes first second one other places = (i b : ℕ) → slice_index_or places i None ≡ Some b → place_bytes first one (Some b) ≡ place_bytes second other (Some b)

-- an image has these blocks, so many
pub record HasBlocks (image : List ℕ) (total : ℕ) (blocks : Blocks) : Type 0 where
  pub enough : total ≤ block_count image
  pub same : (n : ℕ) → n < total → block_at image n ≡ blocks n

-- ---- the law of forks

-- the same blocks, as many bytes, and the same findings except for who else owns the blocks
pub record IsSameFork (total : ℕ) (records others : Overflow) (one other : Mdb) (fork second : Fork) : Type 0 where
  pub places : fork_places total records one fork ≡ fork_places total others other second
  pub len : fork_length records one fork ≡ fork_length others other second
  pub cut : (used later : FileBlocks) → (finding_of total records one used fork).cut ≡ (finding_of total others other later second).cut
  pub missing : (used later : FileBlocks) → (finding_of total records one used fork).missing ≡ (finding_of total others other later second).missing
  pub bytes : (first later : List ℕ) → AgreeOnBytes first later one other (fork_places total records one fork)
      → taken_bytes total first records one fork ≡ taken_bytes total later others other second

abbrev pub ForksAreTheirBlocks : Type 0
ForksAreTheirBlocks =
    (total : ℕ) (records others : Overflow) (one other : Mdb) (fork second : Fork) → AgreeOnBlocks one other → AgreeOnFork records others one other fork second
    → IsSameFork total records others one other fork second

-- ---- a sound volume

-- all bytes of a fork are taken: its blocks are there, as many as it needs, and nothing of it is cut or missing
pub record IsWholeFork (total : ℕ) (blocks : Blocks) (records : Overflow) (mdb : Mdb) (fork : Fork) : Type 0 where
  pub places : fork_places total records mdb fork ≡ map Some (take (blocks_for mdb fork.len) (extent_blocks (whole_extents records fork.file fork.kind fork.first)))
  pub len : fork_length records mdb fork ≡ fork.len
  pub cut : (used : FileBlocks) → (finding_of total records mdb used fork).cut ≡ None
  pub missing : (used : FileBlocks) → (finding_of total records mdb used fork).missing ≡ 0
  pub bytes : (image : List ℕ) → HasBlocks image total blocks
      → taken_bytes total image records mdb fork ≡ whole_bytes blocks mdb (whole_extents records fork.file fork.kind fork.first) fork.len

-- a fork as the checks of a volume have it
abbrev pub checked : Fork → CheckedFork
checked fork = record { file = fork.file; fork = fork.kind; len = fork.len; first = fork.first }

-- each sound fork of a sound volume is taken whole
abbrev pub SoundForksAreWhole : Type 0
SoundForksAreWhole =
    (total : ℕ) (blocks : Blocks) → AreBlocksSound total blocks → (fork : Fork) → IsForkSound (mdb_in blocks) (overflow_in blocks) (checked fork)
    → IsWholeFork total blocks (overflow_in blocks) (mdb_in blocks) fork

-- both forks of a file are taken; a folder has none
abbrev pub whole_shares : Bool → Option (Fork × Fork) → Option FileShares
whole_shares old None = None
whole_shares old (Some forks) = Some (record { old = old; «data» = record { fork = forks.0; taken = true }; resource = record { fork = forks.1; taken = true } })

-- where as many bytes may be taken as the volume has, no fork of it is left
abbrev pub SoundForksAreTaken : Type 0
SoundForksAreTaken =
    (total : ℕ) (blocks : Blocks) → AreBlocksSound total blocks → (limit : ℕ) → 512 * total ≤ limit
    → shares_of (overflow_in blocks) (mdb_in blocks) limit (map (found false) (items_in (catalog_in blocks)))
    ≡ map (λ (item : FoundRecord). whole_shares item.old (both_forks item.entry.1)) (map (found false) (items_in (catalog_in blocks)))

-- ---- places

-- the items among records, and the folders that records name, have places of their own
abbrev pub RecordsHaveOwnPlaces : Type 0
RecordsHaveOwnPlaces =
    (items records : List FoundRecord) → AreThings (things_of (map thing_of items) (namings_of records)) → ArePlacedApart (things_of (map thing_of items) (namings_of records))

-- the records of the catalog that block n as the directory of an image leads to
abbrev pub records_found : List ℕ → ℕ → List FoundRecord
records_found image n = remaining_records (block_count image) (block_at image) (mdb_at (block_at image) n)

-- the things of a catalog's items
abbrev pub things_in : Catalog → List Thing
things_in catalog = map thing_of (map (found false) (items_in catalog))

-- of a sound volume no folder is named by a thread alone
abbrev pub SoundThingsAreItems : Type 0
SoundThingsAreItems =
    (total : ℕ) (blocks : Blocks) → AreBlocksSound total blocks → things_of (things_in (catalog_in blocks)) (namings_of (map (found false) (catalog_in blocks))) ≡ things_in (catalog_in blocks)

-- what is found in an image of bytes by its directory are things: names have at most 31 bytes, numbers 32 bits
abbrev pub FoundAreThings : Type 0
FoundAreThings =
    (image : List ℕ) (n : ℕ) → IsTrue (is_bytes image) → directory_of image ≡ Some n
    → AreThings (things_of (map thing_of (items_of (records_found image n))) (namings_of (records_found image n)))

-- and so are those of a sound image
abbrev pub SoundAreThings : Type 0
SoundAreThings = (image : List ℕ) → IsSound image → IsTrue (is_bytes image) → AreThings (things_in (catalog_in (block_at image)))

-- no two items of a folder of it are called the same
abbrev pub SoundNamesAreOwn : Type 0
SoundNamesAreOwn = (image : List ℕ) → IsSound image → IsTrue (is_bytes image) → HaveOwnNames (things_in (catalog_in (block_at image)))

-- names lead from a thing up to the payload
pub record HasSomeWay (things : List Thing) (i : ℕ) : Type 0 where
  pub names : List (List ℕ)
  pub way : HasWay things names i

-- they do from each item but the root
abbrev pub SoundItemsHaveWays : Type 0
SoundItemsHaveWays =
    (total : ℕ) (blocks : Blocks) → AreBlocksSound total blocks → (i : ℕ) (none : Record) → i < length (items_in (catalog_in blocks))
    → item_id (slice_index_or (items_in (catalog_in blocks)) i none).1 ≢ 2 → HasSomeWay (things_in (catalog_in blocks)) i

-- where the host paths of folders take at most 800 bytes, an item but the root is put at the host path of the names that lead to it
abbrev pub SoundPathsAreHostPaths : Type 0
SoundPathsAreHostPaths =
    (image : List ℕ) → IsSound image → IsTrue (is_bytes image) → AreWaysShort (things_in (catalog_in (block_at image)))
    → (i : ℕ) (names : List (List ℕ)) → i < length (things_in (catalog_in (block_at image))) → (thing_at (things_in (catalog_in (block_at image))) i).folder ≢ Some 2
    → HasWay (things_in (catalog_in (block_at image))) names i
    → payload_path (things_of (things_in (catalog_in (block_at image))) (namings_of (map (found false) (catalog_in (block_at image))))) i ≡ host_path (reverse names)
