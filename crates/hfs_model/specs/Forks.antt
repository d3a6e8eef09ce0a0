-- A file's forks as they are changed: the bytes that a fork gets, and the allocation blocks that these take.
use Rattle.std.specs.Prelude.{ℕ, ◌+◌, ◌-◌, ◌*◌, max, Bool, ◌&&◌, nat_le, List, ◌++◌, length, take, drop, replicate}
use Rattle.std.specs.Int.{div_ceil}
use Rattle.byteorder.specs.Endian.{big_bytes}
use Rattle.hfs_model.specs.declared.item.File.{File}
use Rattle.hfs_model.specs.declared.item.Item.{Item}
use Rattle.hfs_model.specs.declared.item.Kind.{Kind}
use Rattle.hfs_model.specs.declared.item.Kind.TheVariants as kind
use Rattle.hfs_model.specs.declared.call.Fork.{Fork}
use Rattle.hfs_model.specs.declared.call.Fork.TheVariants.{DataFork, ResFork}
use Rattle.hfs_model.specs.Replies.{data_of, resource_of}

-- ---- allocation blocks

-- how many bytes an allocation block may have
abbrev pub is_block_size : ℕ → Bool
is_block_size n = nat_le 1 n && nat_le n 2147483648

-- the number of allocation blocks of `size` bytes that n bytes take
abbrev pub blocks : ℕ → ℕ → ℕ
blocks size n = div_ceil n size

-- the bytes that these blocks have
abbrev pub physical_length : ℕ → ℕ → ℕ
physical_length size n = blocks size n * size

-- ---- bytes

-- the first n bytes, with zeros after them where there are fewer
unfoldable pub resized : ℕ → List ℕ → List ℕ
resized n bytes = take n bytes ++ replicate (n - length bytes) 0

-- new bytes in the place of those from `offset` on
abbrev pub laid_over : ℕ → List ℕ → List ℕ → List ℕ
laid_over offset new bytes = take offset bytes ++ (new ++ drop (offset + length new) bytes)

-- new bytes from `offset` on, also past the end of the old ones
unfoldable pub written : ℕ → List ℕ → List ℕ → List ℕ
written offset new bytes = laid_over offset new (resized (max (length bytes) (offset + length new)) bytes)

-- ---- a file's fork

-- where the physical length of a fork is in a file's record: filPyLen, filRPyLen
abbrev pub physical_place : Fork → ℕ
physical_place DataFork = 30
physical_place ResFork = 40

-- the kept bytes of a file with a fork of this physical length
unfoldable pub with_physical_length : Fork → ℕ → List ℕ → List ℕ
with_physical_length fork n kept = laid_over (physical_place fork) (big_bytes 4 n) kept

abbrev pub with_bytes : Fork → List ℕ → File → File
with_bytes DataFork bytes file = record file { «data» = bytes }
with_bytes ResFork bytes file = record file { resource = bytes }

-- the file with these bytes in a fork, whose physical length is that of the blocks that they take
abbrev pub with_fork : ℕ → Fork → List ℕ → File → File
with_fork size fork bytes file = with_bytes fork bytes (record file { kept = with_physical_length fork (physical_length size (length bytes)) file.kept })

-- ---- an item's fork

-- a folder has no bytes
abbrev pub fork_bytes : Fork → Kind → List ℕ
fork_bytes DataFork kind = data_of kind
fork_bytes ResFork kind = resource_of kind

abbrev pub kind_with_fork : ℕ → Fork → List ℕ → Kind → Kind
kind_with_fork size fork bytes (kind.Folder kept) = kind.Folder kept
kind_with_fork size fork bytes (kind.File file) = kind.File (with_fork size fork bytes file)

-- the item with these bytes in a fork, modified now
abbrev pub item_with_fork : ℕ → Fork → List ℕ → ℕ → Item → Item
item_with_fork size fork bytes now i = record i { modified = now; kind = kind_with_fork size fork bytes i.kind }
