-- A file with what is put on its volume, which was looked at again.
use Rattle.std.specs.Prelude.{ℕ, List}
use Rattle.hfs_put.specs.Again.{AreUnchanged}
use Rattle.hfs_put.specs.declared.laid.LaidForks.{LaidForks}
use Rattle.hfs_put_sources.specs.Trees.{OfEachTree, Tree}

-- the file is settled, and the files of all that comes are as they were seen
pub record IsSettled {S H : Type 0} (Settled : S → Type 0) (Hosts : H → Tree → Type 0) (forks : LaidForks S H) : Type 0 where
  pub image : Settled forks.bytes
  pub sources : OfEachTree (Hosts forks.files) (AreUnchanged forks.items.items)
