-- Where the forks of the files of a list lie in the image of a volume.
use Rattle.std.specs.Prelude.{◌≡◌, ℕ, ◌+◌, ◌*◌, ◌≤◌, ◌<◌, ◌==◌, if◌then◌else◌, true, List, [], ◌∷◌, ◌++◌, length, slice_get, slice_index_or, Option, Some, None, IsSome}
use Rattle.std.specs.List.{cons_option}
use Rattle.std.specs.List.Sorted.{IsNonDecreasingBy, IsPermutation}
use Rattle.hfs_catalog.specs.Records.{Record}
use Rattle.hfs_check.specs.Parts.{Blocks, catalog_in, mdb_in}
use Rattle.hfs_fields.specs.declared.extent.Extent.{Extent}
use Rattle.hfs_fields.specs.declared.file_record.FileRecord.{FileRecord}
use Rattle.hfs_fields.specs.declared.mdb.Mdb.{Mdb}
use Rattle.hfs_fields.specs.Records.{is_file, file_record_of}
use Rattle.hfs_model.specs.declared.call.Fork.{Fork}
use Rattle.hfs_model.specs.declared.call.Fork.TheVariants.{DataFork, ResFork}
use Rattle.hfs_model.specs.declared.reply.ItemKind.{ItemKind}
use Rattle.hfs_model.specs.declared.reply.ItemKind.TheVariants as kind
use Rattle.hfs_put_plan.specs.declared.items.PutItem.{PutItem}
use Rattle.hfs_fields.specs.Each.{Each}
use Rattle.hfs_fields.specs.Members.{In}
use Rattle.hfs_put_sources.specs.declared.fork_run.ForkRun.{ForkRun}
use Rattle.hfs_space.specs.Forks.{blocks_each, run_in}
use Rattle.hfs_volume.specs.Sharing.{file_extents}

-- ---- the runs of a fork

-- the blocks of an extent, before which the fork has so many allocation blocks: all their bytes; none of an extent without blocks
abbrev pub run_at : Mdb → ℕ → Fork → ℕ → Extent → Option ForkRun
run_at mdb item fork before e =
    if e.count == 0 then None
    else Some (record {
      place = 512 * (run_in mdb e).first;
      len = 512 * (run_in mdb e).count;
      item = item;
      fork = fork;
      offset = 512 * (before * blocks_each mdb);
    })

-- the runs of extents that follow so many allocation blocks of the fork
unfoldable pub runs_from : Mdb → ℕ → Fork → ℕ → List Extent → List ForkRun
runs_from mdb item fork before [] = []
runs_from mdb item fork before (e ∷ es) = cons_option (run_at mdb item fork before e) (runs_from mdb item fork (before + e.count) es)

-- all runs of a fork of a file, which is at this place of the list
abbrev pub fork_runs_of : Blocks → ℕ → Fork → FileRecord → List ForkRun
fork_runs_of blocks item fork file = runs_from (mdb_in blocks) item fork 0 (file_extents blocks fork file)

-- ---- the files of a list

abbrev pub file_id_by : ItemKind → Option ℕ → Option ℕ
file_id_by kind.File id = id
file_id_by kind.Folder id = None

-- the ID of an item that is a file
abbrev pub file_id : Option PutItem → Option ℕ → Option ℕ
file_id (Some item) id = file_id_by item.kind id
file_id None id = None

-- the item at this place of the list is a file of that ID
abbrev pub IsFileAt : List PutItem → List ℕ → ℕ → ℕ → Type 0
IsFileAt items ids place id = file_id (slice_get items place) (slice_get ids place) ≡ Some id

-- ---- the runs of all files

-- the run is one of a fork of a file of the list
pub record IsForkRun (blocks : Blocks) (items : List PutItem) (ids : List ℕ) (run : ForkRun) : Type 0 where
  pub r : Record
  pub there : In r (catalog_in blocks)
  pub kind : is_file r.1 ≡ true
  pub place : IsFileAt items ids run.item (file_record_of r.1).id
  pub extents : In run (fork_runs_of blocks run.item run.fork (file_record_of r.1))

-- the runs of both forks of the file at that place are there
abbrev pub HaveForksOf : Blocks → ℕ → FileRecord → List ForkRun → Type 0
HaveForksOf blocks place file runs = (fork : Fork) → Each (λ run. In run runs) (fork_runs_of blocks place fork file)

-- of a record of a file of the list, those of both its forks are there, under its place in the list (one of them, if several items had its ID)
abbrev pub HaveFileOf : Blocks → List PutItem → List ℕ → List ForkRun → Record → Type 0
HaveFileOf blocks items ids runs r =
    is_file r.1 ≡ true → (at : ℕ) → IsFileAt items ids at (file_record_of r.1).id
    → (place : ℕ) × IsFileAt items ids place (file_record_of r.1).id × HaveForksOf blocks place (file_record_of r.1) runs

-- each run ends before the next begins, or where it does
abbrev pub AreRunsApart : List ForkRun → Type 0
AreRunsApart runs = (i j : ℕ) (d : ForkRun) → i < j → j < length runs → (slice_index_or runs i d).place + (slice_index_or runs i d).len ≤ (slice_index_or runs j d).place

pub record AreForkRuns (blocks : Blocks) (items : List PutItem) (ids : List ℕ) (runs : List ForkRun) : Type 0 where
  pub only : Each (IsForkRun blocks items ids) runs
  pub all : Each (HaveFileOf blocks items ids runs) (catalog_in blocks)
  pub apart : AreRunsApart runs

-- ---- on the way

-- the places of the files of a list by their IDs
pub record AreFilePlaces (items : List PutItem) (ids : List ℕ) (place_of : ℕ → Option ℕ) : Type 0 where
  pub only : (id place : ℕ) → place_of id ≡ Some place → IsFileAt items ids place id
  pub some : (id place : ℕ) → IsFileAt items ids place id → IsSome (place_of id)

-- a file's place was added, if this is its ID
abbrev pub NotesPlace : Option ℕ → ℕ → (ℕ → Option ℕ) → (ℕ → Option ℕ) → Type 0
NotesPlace (Some id) place old new = (q : ℕ) → new q ≡ (if id == q then Some place else old q)
NotesPlace None place old new = (q : ℕ) → new q ≡ old q

abbrev pub file_runs : Blocks → Option ℕ → FileRecord → List ForkRun
file_runs blocks (Some place) file = fork_runs_of blocks place DataFork file ++ fork_runs_of blocks place ResFork file
file_runs blocks None file = []

-- the runs of a record's file, if it has a place
abbrev pub record_runs : Blocks → (ℕ → Option ℕ) → Record → List ForkRun
record_runs blocks place_of r = if is_file r.1 then file_runs blocks (place_of (file_record_of r.1).id) (file_record_of r.1) else []

-- the same runs in the order of their places
pub record ArePlacesInOrder (old new : List ForkRun) : Type 0 where
  pub same : IsPermutation old new
  pub order : IsNonDecreasingBy (λ (run : ForkRun). run.place) new
