-- What holds of the edits of a fork. Each statement is what a function of src/laws.rt ensures.
use Rattle.std.specs.Prelude.{◌≡◌, ℕ, List}
use Rattle.hfs_fields.specs.Records.{file_record_of}
use Rattle.hfs_catalog.specs.Records.{Record}
use Rattle.hfs_model.specs.declared.call.Fork.{Fork}
use Rattle.hfs_model.specs.Volume.{Volume}
use Rattle.hfs_check.specs.Parts.{Blocks, mdb_in}
use Rattle.hfs_check.specs.Sound.{AreBlocksSound}
use Rattle.hfs_check.specs.VolumeOf.{volume_in}
use Rattle.hfs_check.specs.Agree.{KeepsBut}
use Rattle.hfs_record_edits.specs.SettingLaws.{IsChoice}
use Rattle.hfs_model.specs.Forks.{resized, written}
use Rattle.hfs_model.specs.ForkCalls.{to_set_eof, to_write_fork, set_eof, write_fork}
use Rattle.hfs_call_patches.specs.Edits.{bytes_of, ChangesFork}

-- the volume is sound, keeps what calls keep except for these blocks, which the call wrote, and is this one
pub record HasBecome (blocks : List ℕ) (v : Volume) (total : ℕ) (old new : Blocks) : Type 0 where
  pub sound : AreBlocksSound total new
  pub kept : KeepsBut blocks old new
  pub volume : volume_in new ≡ v

-- edits by which a fork is its first bytes, or has zeros after them, make the volume that SetEof makes
abbrev pub ForkEditsAreSetEof : Type 0
ForkEditsAreSetEof =
    (total : ℕ) (dir : ℕ) (name : List ℕ) (fork : Fork) (length now : ℕ) (r : Record) (blocks : List ℕ) (old new : Blocks) → AreBlocksSound total old
    → IsChoice old (to_set_eof (volume_in old) dir name length) r
    → ChangesFork fork r (resized length (bytes_of old fork (file_record_of r.1))) now blocks old new
    → HasBecome blocks (set_eof (mdb_in old).allocation_block_size (volume_in old) dir name fork length now).0 total old new

-- edits by which a fork has these bytes from an offset on make the volume that WriteFork makes
abbrev pub ForkEditsAreWriteFork : Type 0
ForkEditsAreWriteFork =
    (total : ℕ) (dir : ℕ) (name : List ℕ) (fork : Fork) (offset : ℕ) (bytes : List ℕ) (now : ℕ) (r : Record) (blocks : List ℕ) (old new : Blocks) → AreBlocksSound total old
    → IsChoice old (to_write_fork (volume_in old) dir name fork offset bytes) r
    → ChangesFork fork r (written offset bytes (bytes_of old fork (file_record_of r.1))) now blocks old new
    → HasBecome blocks (write_fork (mdb_in old).allocation_block_size (volume_in old) dir name fork offset bytes now).0 total old new
