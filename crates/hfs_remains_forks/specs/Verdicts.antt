-- What is taken of the forks, who owns which block, and what is said about each fork.
use Rattle.std.specs.Prelude.{◌≡◌, ℕ, ◌-◌, Bool, true, false, ◌&&◌, not, nat_le, nat_lt, if◌then◌else◌, List, [], ◌∷◌, ◌++◌, take, length, slice_index_or, Option, Some, None}
use Rattle.std.specs.List.{flat_map, list_any}
use Rattle.std.specs.Option.{option_map, IsSomeAnd}
use Rattle.hfs_fields.specs.declared.mdb.Mdb.{Mdb}
use Rattle.hfs_space.specs.Extents.{Overflow}
use Rattle.hfs_space.specs.declared.fork_kind.ForkKind.{ForkKind}
use Rattle.hfs_space.specs.declared.fork_kind.ForkKind.TheVariants.{Data, Resource}
use Rattle.hfs_remains.specs.TreeFiles.{FileBlocks}
use Rattle.hfs_remains.specs.declared.catalog.FoundRecord.{FoundRecord}
use Rattle.hfs_remains_places.specs.declared.verdict.Finding.{Finding}
use Rattle.hfs_remains_places.specs.declared.verdict.Verdict.{Verdict}
use Rattle.hfs_remains_places.specs.declared.verdict.Verdict.TheVariants.{Left, Taken}
use Rattle.hfs_remains_forks.specs.declared.forks.Fork.{Fork}
use Rattle.hfs_remains_forks.specs.declared.shares.Share.{Share}
use Rattle.hfs_remains_forks.specs.declared.shares.FileShares.{FileShares}
use Rattle.hfs_remains_forks.specs.declared.trees.Trees.{Trees}
use Rattle.hfs_remains_forks.specs.declared.findings.FoundFork.{FoundFork}
use Rattle.hfs_remains_forks.specs.Forks.{both_forks, blocks_for, fork_length, fork_places, missing_in}
use Rattle.hfs_remains_forks.specs.Owners.{is_shared, CountOwners}

-- ---- what is taken

-- of so many bytes that may still be taken, a fork takes its own where they are enough for all of it
abbrev pub share_of : Overflow → Mdb → ℕ → Fork → Share
share_of records mdb room fork = record { fork = fork; taken = nat_le (fork_length records mdb fork) room }

-- how many are left after it
abbrev pub room_behind : Overflow → Mdb → ℕ → Fork → ℕ
room_behind records mdb room fork = if nat_le (fork_length records mdb fork) room then room - fork_length records mdb fork else room

-- data before resources
abbrev pub file_shares : Overflow → Mdb → ℕ → Bool → Fork × Fork → FileShares
file_shares records mdb room old forks = record {
  old = old;
  «data» = share_of records mdb room forks.0;
  resource = share_of records mdb (room_behind records mdb room forks.0) forks.1;
}

-- a folder has no forks
abbrev pub item_shares : Overflow → Mdb → ℕ → Bool → Option (Fork × Fork) → Option FileShares
item_shares records mdb room old None = None
item_shares records mdb room old (Some forks) = Some (file_shares records mdb room old forks)

abbrev pub room_behind_item : Overflow → Mdb → ℕ → Option (Fork × Fork) → ℕ
room_behind_item records mdb room None = room
room_behind_item records mdb room (Some forks) = room_behind records mdb (room_behind records mdb room forks.0) forks.1

-- the items in order, of which so many bytes may be taken
abbrev pub shares_of : Overflow → Mdb → ℕ → List FoundRecord → List (Option FileShares)
shares_of records mdb room [] = []
shares_of records mdb room (item ∷ items) =
    item_shares records mdb room item.old (both_forks item.entry.1)
    ∷ shares_of records mdb (room_behind_item records mdb room (both_forks item.entry.1)) items

-- ---- who owns a block

-- the blocks of a fork that is taken; one that is left owns none
abbrev pub share_used : ℕ → Overflow → Mdb → Share → FileBlocks
share_used total records mdb share = if share.taken then fork_places total records mdb share.fork else []

abbrev pub file_used : ℕ → Overflow → Mdb → FileShares → FileBlocks
file_used total records mdb file = share_used total records mdb file.«data» ++ share_used total records mdb file.resource

-- of all items, or of those alone that aren't old
abbrev pub item_used : ℕ → Overflow → Mdb → Bool → Option FileShares → FileBlocks
item_used total records mdb young None = []
item_used total records mdb young (Some file) = if young && file.old then [] else file_used total records mdb file

abbrev pub items_used : ℕ → Overflow → Mdb → Bool → List (Option FileShares) → FileBlocks
items_used total records mdb young shares = flat_map (item_used total records mdb young) shares

-- the blocks of a tree's file as far as its size goes
abbrev pub tree_used : Mdb → FileBlocks → ℕ → FileBlocks
tree_used mdb file size = take (blocks_for mdb size) file

-- those of both trees, and of the forks that are taken
unfoldable pub all_used : Trees → Bool → List (Option FileShares) → FileBlocks
all_used t young shares =
    tree_used t.mdb.now t.extents_file.now t.mdb.now.extents_file_size ++ tree_used t.mdb.now t.catalog_file.now t.mdb.now.catalog_file_size
    ++ items_used t.total t.overflow.now t.mdb.now young shares

-- ---- verdicts

-- what is found of a fork, where these are the blocks that are owned, once for each owner
abbrev pub finding_of : ℕ → Overflow → Mdb → FileBlocks → Fork → Finding
finding_of total records mdb used fork = record {
  cut = if nat_lt (fork_length records mdb fork) fork.len then Some (fork_length records mdb fork) else None;
  missing = missing_in mdb.allocation_block_size (fork_length records mdb fork) (fork_places total records mdb fork);
  shared = list_any (is_shared used) (fork_places total records mdb fork);
}

-- of a fork that is left nothing else is said
abbrev pub verdict_of : ℕ → Overflow → Mdb → FileBlocks → Share → Verdict
verdict_of total records mdb used share = if share.taken then Taken (finding_of total records mdb used share.fork) else Left

-- how many bytes are taken of a fork, which blocks hold them, and what is said of it
pub record IsFound (total : ℕ) (records : Overflow) (mdb : Mdb) (used : FileBlocks) (share : Share) (found : FoundFork) : Type 0 where
  pub length_is : found.length ≡ (if share.taken then fork_length records mdb share.fork else 0)
  pub places_are : found.places.items ≡ share_used total records mdb share
  pub verdict_is : found.verdict ≡ verdict_of total records mdb used share

-- ---- all items

-- the trees, and what is taken of the items
pub record Salvaged : Type 0 where
  pub trees : Trees
  pub shares : List (Option FileShares)

abbrev pub shares_at : Salvaged → ℕ → Option FileShares
shares_at s i = slice_index_or s.shares i None

abbrev pub fork_share : ForkKind → FileShares → Share
fork_share Data file = file.«data»
fork_share Resource file = file.resource

-- an item that isn't old shares blocks with those alone that aren't
abbrev pub used_for : Salvaged → FileShares → FileBlocks
used_for s file = all_used s.trees (not file.old) s.shares

-- what is found of a file's fork
abbrev pub IsForkOf : Salvaged → ForkKind → FoundFork → FileShares → Type 0
IsForkOf s kind found file = IsFound s.trees.total s.trees.overflow.now s.trees.mdb.now (used_for s file) (fork_share kind file) found

-- a fork of item i: none of a folder
abbrev pub FindsFork : Salvaged → ℕ → ForkKind → Option FoundFork → Type 0
FindsFork s i kind None = shares_at s i ≡ None
FindsFork s i kind (Some found) = IsSomeAnd (shares_at s i) (IsForkOf s kind found)

-- what is said about both forks
abbrev pub verdicts_of : Salvaged → FileShares → Verdict × Verdict
verdicts_of s file =
    (verdict_of s.trees.total s.trees.overflow.now s.trees.mdb.now (used_for s file) file.«data», verdict_of s.trees.total s.trees.overflow.now s.trees.mdb.now (used_for s file) file.resource)

abbrev pub verdicts_at : Salvaged → ℕ → Option (Verdict × Verdict)
verdicts_at s i = option_map (verdicts_of s) (shares_at s i)

-- ---- what is kept

-- the numbers are those of the owners of each block, by the items that aren't old and by all
pub record IsKept (trees : Trees) (chains : Overflow) (shares : List (Option FileShares)) (young all : List ℕ) : Type 0 where
  pub chains_are : chains ≡ trees.overflow.now
  pub young_are : CountOwners (all_used trees true shares) young
  pub all_are : CountOwners (all_used trees false shares) all
  pub young_all : length young ≡ trees.mdb.now.allocation_blocks
  pub all_all : length all ≡ trees.mdb.now.allocation_blocks
