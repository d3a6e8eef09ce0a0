-- Forks that lie in a file.
use Rattle.std.specs.Prelude.{ℕ, List}
use Rattle.hfs_fields.specs.Mdb.{bytes_at}
use Rattle.hfs_encodings.specs.declared.forks.ForkPlace.{ForkPlace}

-- the fork's bytes
abbrev pub fork_in : ForkPlace → List ℕ → List ℕ
fork_in fork file = bytes_at fork.start fork.len file
