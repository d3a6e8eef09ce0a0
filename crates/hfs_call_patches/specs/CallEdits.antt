-- What all edits of a call that writes a fork make of a volume. Each statement of a law is what a function of src/laws.rt ensures.
use Rattle.std.specs.Prelude.{◌≡◌, true, ℕ, ℤ, ◌+◌, ◌*◌, ◌≤◌, max, List, [], length, Result}
use Rattle.hfs_fields.specs.declared.extent.Extent.{Extent}
use Rattle.hfs_fields.specs.declared.file_record.FileRecord.{FileRecord}
use Rattle.hfs_fields.specs.Counts.{SameBesideCounts}
use Rattle.hfs_fields.specs.Records.{is_file, file_record_of}
use Rattle.hfs_space.specs.ForkLaws.{block_numbers}
use Rattle.hfs_space.specs.ForkLengths.{all_bytes}
use Rattle.hfs_catalog.specs.Records.{Record}
use Rattle.hfs_model.specs.declared.call.Fork.{Fork}
use Rattle.hfs_model.specs.Volume.{Entry}
use Rattle.hfs_check.specs.Parts.{Blocks, mdb_in}
use Rattle.hfs_check.specs.Sound.{AreBlocksSound}
use Rattle.hfs_check.specs.VolumeOf.{volume_in}
use Rattle.hfs_record_edits.specs.SettingLaws.{IsChoice}
use Rattle.hfs_model.specs.Forks.{blocks}
use Rattle.hfs_model.specs.ForkCalls.{to_set_eof, to_write_fork, set_eof, write_fork}
use Rattle.hfs_call_patches.specs.Files.{fork_of, file_with}
use Rattle.hfs_call_patches.specs.Edits.{extents_of, blocks_of, SetsRecord}
use Rattle.hfs_call_patches.specs.Laws.{HasBecome}
use Rattle.hfs_call_patches.specs.Sized.{GetsBlocks}
use Rattle.hfs_call_patches.specs.Laid.{AreFull, Lays, AreZeros, AreWritten, AreLaid}

-- the volume was last changed now, and has so many free blocks, and nothing else in its master directory block has changed
pub record SetsCounts (now free : ℕ) (old new : Blocks) : Type 0 where
  pub mdb : mdb_in new ≡ record (mdb_in old) { modified = now; free_blocks = free }
  pub beside : SameBesideCounts (old 2) (new 2)

-- The edits of a call by which the fork of the file with this record has `len` bytes, the given ones of them from `offset` on: it gets as
-- many blocks as they take, and its record; the counts follow; zeros and the bytes are laid over its blocks, and and no other block has
-- changed but those that every call may change.
pub record SetsFork (fork : Fork) (r : Record) (len now offset : ℕ) (part written : List ℕ) (old new : Blocks) : Type 0 where
  pub was : is_file r.1 ≡ true
  pub first : List Extent
  pub file : FileRecord
  pub file_is : file ≡ file_with (mdb_in old).allocation_block_size fork len first now (file_record_of r.1)
  pub gets : GetsBlocks fork (file_record_of r.1) first (blocks (mdb_in old).allocation_block_size len) old new
  pub set : SetsRecord r file old new
  pub free : ℕ
  pub counts : SetsCounts now free old new
  pub freed : free + blocks (mdb_in old).allocation_block_size len ≡ (mdb_in old).free_blocks + length (blocks_of old fork (file_record_of r.1))
  pub from : ℕ
  pub count : ℕ
  pub are_zeros : AreZeros (mdb_in old).allocation_block_size (fork_of fork (file_record_of r.1)).length (length (blocks_of old fork (file_record_of r.1))) len (blocks (mdb_in old).allocation_block_size len) offset (length part) from count
  pub lays : Lays (extents_of new fork file) from count offset part old new
  pub are_written : AreWritten (block_numbers (mdb_in old) (extents_of new fork file)) from count offset (length part) written

-- byte by byte, the blocks of the fork, whose record is `now` then, have what they must
abbrev pub HasLaid : Fork → FileRecord → FileRecord → ℕ → ℕ → List ℕ → Blocks → Blocks → Type 0
HasLaid fork was now len offset part old new =
    AreLaid (fork_of fork was).length (length (blocks_of old fork was) * (mdb_in old).allocation_block_size) len offset part
    (all_bytes old (mdb_in old) (extents_of new fork now)) (all_bytes new (mdb_in old) (extents_of new fork now))

-- ---- laws

-- these edits of a sound volume, where no byte is given, make the volume that SetEof makes
abbrev pub EditsAreSetEof : Type 0
EditsAreSetEof =
    (total : ℕ) (dir : ℕ) (name : List ℕ) (fork : Fork) (length now : ℕ) (r : Record) (written : List ℕ) (old new : Blocks) → AreBlocksSound total old → AreFull total old
    → IsChoice old (to_set_eof (volume_in old) dir name length) r
    → SetsFork fork r length now 0 [] written old new
    → HasBecome written (set_eof (mdb_in old).allocation_block_size (volume_in old) dir name fork length now).0 total old new

-- and where the fork goes as far as it went or as the given bytes do, the volume that WriteFork makes
abbrev pub EditsAreWriteFork : Type 0
EditsAreWriteFork =
    (total : ℕ) (dir : ℕ) (name : List ℕ) (fork : Fork) (offset : ℕ) (bytes : List ℕ) (now : ℕ) (r : Record) (written : List ℕ) (old new : Blocks) → AreBlocksSound total old → AreFull total old
    → IsChoice old (to_write_fork (volume_in old) dir name fork offset bytes) r
    → SetsFork fork r (max (fork_of fork (file_record_of r.1)).length (offset + length bytes)) now offset bytes written old new
    → HasBecome written (write_fork (mdb_in old).allocation_block_size (volume_in old) dir name fork offset bytes now).0 total old new

-- and no byte of a block that was added is one of before: each is given, or a zero; the others of the fork's blocks stay where they must
abbrev pub EditsLeaveNoOldByte : Type 0
EditsLeaveNoOldByte =
    (total : ℕ) (chosen : Result Entry ℤ) (fork : Fork) (r : Record) (len now offset : ℕ) (part written : List ℕ) (old new : Blocks) → AreBlocksSound total old → AreFull total old
    → IsChoice old chosen r
    → offset ≤ (fork_of fork (file_record_of r.1)).length
    → offset + length part ≤ len
    → (s : SetsFork fork r len now offset part written old new)
    → HasLaid fork (file_record_of r.1) s.file len offset part old new
