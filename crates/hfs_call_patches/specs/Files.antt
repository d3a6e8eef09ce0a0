-- A file's record after a change of one of its forks.
use Rattle.std.specs.Prelude.{ℕ, List}
use Rattle.hfs_fields.specs.declared.extent.Extent.{Extent}
use Rattle.hfs_fields.specs.declared.file_record.FileRecord.{FileRecord}
use Rattle.hfs_fields.specs.declared.file_record.ForkRecord.{ForkRecord}
use Rattle.hfs_space.specs.declared.fork_kind.ForkKind.{ForkKind}
use Rattle.hfs_space.specs.declared.fork_kind.ForkKind.TheVariants.{Data, Resource}
use Rattle.hfs_model.specs.declared.call.Fork.{Fork}
use Rattle.hfs_model.specs.declared.call.Fork.TheVariants.{DataFork, ResFork}
use Rattle.hfs_model.specs.Forks.{physical_length}

abbrev pub kind_of : Fork → ForkKind
kind_of DataFork = Data
kind_of ResFork = Resource

-- the fork in a file's record
abbrev pub fork_of : Fork → FileRecord → ForkRecord
fork_of DataFork file = file.«data»
fork_of ResFork file = file.resource

-- the file's record with this fork
abbrev pub with_fork_record : Fork → ForkRecord → FileRecord → FileRecord
with_fork_record DataFork f file = record file { «data» = f }
with_fork_record ResFork f file = record file { resource = f }

-- the fork of so many bytes in allocation blocks of `size` bytes, with these first extents; its first block stays
abbrev pub fork_with : ℕ → ℕ → List Extent → ForkRecord → ForkRecord
fork_with size len first f = record f { length = len; physical_length = physical_length size len; extents = first }

-- the file's record with such a fork, modified now
abbrev pub file_with : ℕ → Fork → ℕ → List Extent → ℕ → FileRecord → FileRecord
file_with size fork len first now file = with_fork_record fork (fork_with size len first (fork_of fork file)) (record file { modified = now })
