-- A volume with other bytes in the forks of some files.
use Rattle.std.specs.Prelude.{ℕ, ◌==◌, List, map, find, Option, Some, None}
use Rattle.std.specs.FinMap as fin
use Rattle.hfs_model.specs.declared.item.Kind.{Kind}
use Rattle.hfs_model.specs.declared.item.Kind.TheVariants as kind
use Rattle.hfs_model.specs.Volume.{Entry, Volume}

-- the bytes of both forks of the file of that ID
pub record FileForks : Type 0 where
  pub id : ℕ
  pub data_fork : List ℕ
  pub resource_fork : List ℕ

abbrev pub forks_of : List FileForks → ℕ → Option FileForks
forks_of forks id = find (λ (f : FileForks). f.id == id) forks

-- a file with these bytes in its forks, all else as it is
abbrev pub kind_with_forks : Option FileForks → Kind → Kind
kind_with_forks None k = k
kind_with_forks (Some forks) (kind.Folder kept) = kind.Folder kept
kind_with_forks (Some forks) (kind.File file) = kind.File (record file { «data» = forks.data_fork; resource = forks.resource_fork })

abbrev pub entry_with_forks : List FileForks → Entry → Entry
entry_with_forks forks e = (e.0, record e.1 { kind = kind_with_forks (forks_of forks e.0) e.1.kind })

-- the same items, except for the bytes of these files' forks
abbrev pub with_forks : List FileForks → Volume → Volume
with_forks forks v = record v { items = fin.from_sorted (map (entry_with_forks forks) (fin.entries v.items)) }
