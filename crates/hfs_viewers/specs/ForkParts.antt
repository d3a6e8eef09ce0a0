-- Parts of a fork's bytes.
use Rattle.std.specs.Prelude.{◌≡◌, ℕ, ◌+◌, ◌≤◌, ◌<◌, ◌^◌, List, ◌++◌, length}
use Rattle.hfs_model.specs.declared.call.Fork.{Fork}
use Rattle.hfs_model.specs.Forks.{fork_bytes}
use Rattle.hfs_space.specs.Forks.{read_from}
use Rattle.hfs_viewers.specs.declared.table.Table.{Table}
use Rattle.hfs_viewers.specs.declared.table.Found.{Found}
use Rattle.hfs_viewers.specs.Tables.{kind_of}

-- n bytes of these, from a place on, are put after the old ones: at least one, and at most so many
pub record IsPushed (all : List ℕ) (place most : ℕ) (old new : List ℕ) (n : ℕ) : Type 0 where
  pub some : 0 < n
  pub few : n ≤ most
  pub within : place + n ≤ length all
  pub bytes : new ≡ old ++ read_from all place n

-- the bytes begin within the fork of the file that was found, and each place among them is a number of 32 bits
pub record MayWrite (t : Table) (fork : Fork) (offset : ℕ) (bytes : List ℕ) (found : Found) : Type 0 where
  pub within : offset ≤ length (fork_bytes fork (kind_of t.base t.mdb found.row.now.kind))
  pub small : offset + length bytes < 2 ^ 32
