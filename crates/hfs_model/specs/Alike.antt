-- Volumes that are the same except for the bytes of forks. Each law is what a function of src/laws.rt ensures.
use Rattle.std.specs.Prelude.{◌≡◌, ℕ, Bool, true, false, List, length, map, replicate, Option, Some}
use Rattle.std.specs.FinMap as fin
use Rattle.hfs_model.specs.declared.call.Call.{Call}
use Rattle.hfs_model.specs.declared.call.Call.TheVariants as call
use Rattle.hfs_model.specs.declared.call.Fork.{Fork}
use Rattle.hfs_model.specs.declared.item.Item.{Item}
use Rattle.hfs_model.specs.declared.item.Kind.{Kind}
use Rattle.hfs_model.specs.declared.item.Kind.TheVariants as kind
use Rattle.hfs_model.specs.declared.journal.Entry.{Entry as JournalEntry}
use Rattle.hfs_model.specs.declared.journal.Want.{Want}
use Rattle.hfs_model.specs.Changes.{Outcome}
use Rattle.hfs_model.specs.Children.{child_named, entries_of}
use Rattle.hfs_model.specs.Need.{step_within, step_wanting}
use Rattle.hfs_model.specs.Reading.{read_fork}
use Rattle.hfs_model.specs.Runs.{after}
use Rattle.hfs_model.specs.Step.{step}
use Rattle.hfs_model.specs.Volume.{Items, Entry, Volume}

-- as many zeros as there are bytes
abbrev pub zeros_for : List ℕ → List ℕ
zeros_for bytes = replicate (length bytes) 0

-- with zeros in both forks of a file, unless it is kept
abbrev pub bare_kind : Bool → Kind → Kind
bare_kind true k = k
bare_kind false (kind.Folder kept) = kind.Folder kept
bare_kind false (kind.File file) = kind.File (record file { «data» = zeros_for file.«data»; resource = zeros_for file.resource })

abbrev pub bare_item : Bool → Item → Item
bare_item kept item = record item { kind = bare_kind kept item.kind }

-- where the forks of some files are kept, by their IDs
abbrev pub bare : (ℕ → Bool) → Entry → Entry
bare keep e = (e.0, bare_item (keep e.0) e.1)

abbrev pub bare_items : (ℕ → Bool) → Items → Items
bare_items keep items = fin.from_sorted (map (bare keep) (fin.entries items))

-- with zeros in the forks of all other files
abbrev pub bare_volume : (ℕ → Bool) → Volume → Volume
bare_volume keep v = record v { items = bare_items keep v.items }

-- two volumes are the same except for the bytes of forks, which are as long; those of files with these IDs are the same, too
abbrev pub AreAlike : (ℕ → Bool) → Volume → Volume → Type 0
AreAlike keep v w = bare_volume keep v ≡ bare_volume keep w

-- of no file
abbrev pub no_file : ℕ → Bool
no_file id = false

-- whether the call reads bytes of a fork
abbrev pub reads_fork : Call → Bool
reads_fork (call.ReadFork dir name fork offset count) = true
reads_fork (call.GetDirInfo dir) = false
reads_fork (call.GetCatInfo dir name) = false
reads_fork (call.GetIndexed dir index) = false
reads_fork (call.List dir) = false
reads_fork (call.Create dir name now) = false
reads_fork (call.DirCreate dir name now) = false
reads_fork (call.Delete dir name now) = false
reads_fork (call.Rename dir name new_name now) = false
reads_fork (call.CatMove dir name new_dir now) = false
reads_fork (call.SetFInfo dir name info now) = false
reads_fork (call.SetCatInfo dir name created modified backup info now) = false
reads_fork (call.SetFLock dir name now) = false
reads_fork (call.RstFLock dir name now) = false
reads_fork (call.CreateFileId dir name now) = false
reads_fork (call.DeleteFileId id now) = false
reads_fork (call.ResolveFileId id) = false
reads_fork (call.SetEof dir name fork length now) = false
reads_fork (call.WriteFork dir name fork offset bytes now) = false

-- two outcomes of a call are the same except for the bytes of forks
pub record EndAlike (keep : ℕ → Bool) (c : Call) (a b : Outcome) : Type 0 where
  pub code : b.1.code ≡ a.1.code
  pub reply : reads_fork c ≡ false → b.1 ≡ a.1
  pub volumes : AreAlike keep a.0 b.0

-- the item of that name that the folder holds is one of these files, if there is one
abbrev pub IsKeptAt : (ℕ → Bool) → Volume → ℕ → List ℕ → Type 0
IsKeptAt keep v dir name = (e : Entry) → child_named (entries_of v) dir name ≡ Some e → keep e.0 ≡ true

-- ---- the laws

abbrev pub AlikeVolumesAnswerAlike : Type 0
AlikeVolumesAnswerAlike = (keep : ℕ → Bool) (v w : Volume) (c : Call) → AreAlike keep v w → EndAlike keep c (step v c) (step w c)

-- with as many free nodes and levels of the catalog
abbrev pub AlikeWithin : Type 0
AlikeWithin =
    (keep : ℕ → Bool) (free depth : ℕ) (v w : Volume) (c : Call) → AreAlike keep v w → EndAlike keep c (step_within free depth v c) (step_within free depth w c)

-- where the same is wanting, if anything is
abbrev pub AlikeWanting : Type 0
AlikeWanting =
    (keep : ℕ → Bool) (wanting : Option Want) (v w : Volume) (c : Call) → AreAlike keep v w → EndAlike keep c (step_wanting wanting v c) (step_wanting wanting w c)

-- and after the entries of a journal
abbrev pub AlikeAfter : Type 0
AlikeAfter = (keep : ℕ → Bool) (v w : Volume) (journal : List JournalEntry) → AreAlike keep v w → AreAlike keep (after v journal) (after w journal)

-- a fork of one of these files reads the same
abbrev pub KeptForksReadAlike : Type 0
KeptForksReadAlike =
    (keep : ℕ → Bool) (v w : Volume) (dir : ℕ) (name : List ℕ) (fork : Fork) (offset count : ℕ) → AreAlike keep v w → IsKeptAt keep v dir name
    → read_fork (entries_of w) dir name fork offset count ≡ read_fork (entries_of v) dir name fork offset count
