-- What a call that writes a fork needs of a volume.
use Rattle.std.specs.Prelude.{◌≡◌, ℕ, ◌+◌, ℤ, max, List, length, Option, None, IfSome, Result, Ok, Err}
use Rattle.hfs_fields.specs.declared.key.CatKey.{CatKey}
use Rattle.hfs_fields.specs.declared.file_record.FileRecord.{FileRecord}
use Rattle.hfs_model.specs.declared.call.Call.{Call}
use Rattle.hfs_model.specs.declared.call.Call.TheVariants as call
use Rattle.hfs_model.specs.declared.call.Fork.{Fork}
use Rattle.hfs_model.specs.declared.journal.Want.{Want}
use Rattle.hfs_model.specs.Forks.{blocks}
use Rattle.hfs_model.specs.ForkCalls.{file_to_write}
use Rattle.hfs_model.specs.Volume.{Entry}
use Rattle.hfs_check.specs.Parts.{Blocks, mdb_in}
use Rattle.hfs_check.specs.VolumeOf.{volume_in}
use Rattle.hfs_call_patches.specs.Settings.{IsFileChoice}
use Rattle.hfs_call_patches.specs.Files.{fork_of}
use Rattle.hfs_call_patches.specs.Wanting.{MeetsWant}
use Rattle.hfs_record_edits.specs.Wants.{IsForkWant}
use Rattle.hfs_call_patches.specs.declared.volume.ForkRefusal.{ForkRefusal}
use Rattle.hfs_call_patches.specs.declared.volume.ForkRefusal.TheVariants as fork_refusal
use Rattle.hfs_call_patches.specs.declared.change.Change.{Change}
use Rattle.hfs_call_edits.specs.declared.editing.Refusal.{Refusal}
use Rattle.hfs_call_edits.specs.declared.editing.Refusal.TheVariants as refusal

-- of the file that a call chooses, this is wanting where its fork gets so many bytes, if anything is; it is no more than these take
pub record MeetsWantOf (fork : Fork) (chosen : Result Entry ℤ) (len : FileRecord → ℕ) (old : Blocks) (want : Option Want) : Type 0 where
  pub key : CatKey
  pub file : FileRecord
  pub choice : IsFileChoice old chosen key file
  pub meets : MeetsWant fork file (len file) old want
  pub told : IfSome want (IsForkWant (blocks (mdb_in old).allocation_block_size (len file)))

-- the length of a fork, or where bytes in it end, if that is after it
abbrev pub length_with : Fork → ℕ → List ℕ → FileRecord → ℕ
length_with fork offset bytes file = max (fork_of fork file).length (offset + length bytes)

-- this is wanting of the call's fork, if anything is; of a call that writes none, nothing
abbrev pub MeetsForkWant : Call → Blocks → Option Want → Type 0
MeetsForkWant (call.SetEof dir name fork length now) old want = MeetsWantOf fork (file_to_write (volume_in old) dir name) (λ file. length) old want
MeetsForkWant (call.WriteFork dir name fork offset bytes now) old want = MeetsWantOf fork (file_to_write (volume_in old) dir name) (length_with fork offset bytes) old want
MeetsForkWant (call.GetDirInfo dir) old want = want ≡ None
MeetsForkWant (call.GetCatInfo dir name) old want = want ≡ None
MeetsForkWant (call.GetIndexed dir index) old want = want ≡ None
MeetsForkWant (call.List dir) old want = want ≡ None
MeetsForkWant (call.ReadFork dir name fork offset count) old want = want ≡ None
MeetsForkWant (call.Create dir name now) old want = want ≡ None
MeetsForkWant (call.DirCreate dir name now) old want = want ≡ None
MeetsForkWant (call.Delete dir name now) old want = want ≡ None
MeetsForkWant (call.Rename dir name new_name now) old want = want ≡ None
MeetsForkWant (call.CatMove dir name new_dir now) old want = want ≡ None
MeetsForkWant (call.SetFInfo dir name info now) old want = want ≡ None
MeetsForkWant (call.SetCatInfo dir name created modified backup info now) old want = want ≡ None
MeetsForkWant (call.SetFLock dir name now) old want = want ≡ None
MeetsForkWant (call.RstFLock dir name now) old want = want ≡ None
MeetsForkWant (call.CreateFileId dir name now) old want = want ≡ None
MeetsForkWant (call.DeleteFileId id now) old want = want ≡ None
MeetsForkWant (call.ResolveFileId id) old want = want ≡ None

-- the edit of a fork as one of a call
abbrev pub edit_of : Result Change ForkRefusal → Result Change Refusal
edit_of (Ok change) = Ok change
edit_of (Err (fork_refusal.Code code)) = Err (refusal.Code code)
edit_of (Err (fork_refusal.Want want)) = Err (refusal.Want want)
