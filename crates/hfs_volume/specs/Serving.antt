-- What a call makes of an image's volume, and answers.
use Rattle.std.specs.Prelude.{◌≡◌, ℕ, IsTrue, List, Option}
use Rattle.hfs_blocks.specs.Blocks.{block_at}
use Rattle.hfs_btree.specs.Header.{depth_of, free_nodes}
use Rattle.hfs_model.specs.declared.call.Call.{Call}
use Rattle.hfs_model.specs.declared.call.Call.TheVariants as call
use Rattle.hfs_model.specs.declared.journal.Want.{Want}
use Rattle.hfs_model.specs.Changes.{Outcome}
use Rattle.hfs_model.specs.Need.{step_within, step_wanting}
use Rattle.hfs_model.specs.Replies.{is_accepted}
use Rattle.hfs_model.specs.Step.{step}
use Rattle.hfs_call_edits.specs.ForkWants.{MeetsForkWant}
use Rattle.hfs_check.specs.Parts.{catalog_nodes}
use Rattle.hfs_check.specs.VolumeOf.{volume_of, contents_in}
use Rattle.hfs_fields.specs.declared.file_record.FileRecord.{FileRecord}
use Rattle.hfs_model.specs.declared.call.Fork.{Fork}
use Rattle.hfs_model.specs.declared.reply.Reply.{Reply}
use Rattle.hfs_model.specs.Children.{entries_of}
use Rattle.hfs_model.specs.Reading.{read_fork}
use Rattle.hfs_model.specs.Volume.{Entry}
use Rattle.hfs_catalog.specs.Records.{Catalog}
use Rattle.hfs_items.specs.Queries.{AreEntries}
use Rattle.hfs_items.specs.Told.{pick}

-- the free nodes of the image's catalog tree
abbrev pub free_in : List ℕ → ℕ
free_in image = free_nodes (catalog_nodes (block_at image))

-- its levels
abbrev pub depth_in : List ℕ → ℕ
depth_in image = depth_of (catalog_nodes (block_at image))

-- what a call of which nothing but the catalog's nodes may be wanting makes of the image's volume, and answers
abbrev pub within_nodes : List ℕ → Call → Outcome
within_nodes image c = step_within (free_in image) (depth_in image) (volume_of image) c

-- what a call that writes a fork makes of it, and answers: this is wanting of the fork, if anything is, and then a call that would be
-- done otherwise leaves the volume
pub record IsForkOutcome (image : List ℕ) (c : Call) (o : Outcome) : Type 0 where
  pub want : Option Want
  pub meets : IsTrue (is_accepted (step (volume_of image) c).1) → MeetsForkWant c (block_at image) want
  pub is : o ≡ step_wanting want (volume_of image) c

-- this is what the call makes of the image's volume, and answers
abbrev pub IsOutcomeIn : List ℕ → Call → Outcome → Type 0
IsOutcomeIn image (call.GetDirInfo dir) o = o ≡ within_nodes image (call.GetDirInfo dir)
IsOutcomeIn image (call.GetCatInfo dir name) o = o ≡ within_nodes image (call.GetCatInfo dir name)
IsOutcomeIn image (call.GetIndexed dir index) o = o ≡ within_nodes image (call.GetIndexed dir index)
IsOutcomeIn image (call.List dir) o = o ≡ within_nodes image (call.List dir)
IsOutcomeIn image (call.ReadFork dir name fork offset count) o = o ≡ within_nodes image (call.ReadFork dir name fork offset count)
IsOutcomeIn image (call.Create dir name now) o = o ≡ within_nodes image (call.Create dir name now)
IsOutcomeIn image (call.DirCreate dir name now) o = o ≡ within_nodes image (call.DirCreate dir name now)
IsOutcomeIn image (call.Delete dir name now) o = o ≡ within_nodes image (call.Delete dir name now)
IsOutcomeIn image (call.Rename dir name new_name now) o = o ≡ within_nodes image (call.Rename dir name new_name now)
IsOutcomeIn image (call.CatMove dir name new_dir now) o = o ≡ within_nodes image (call.CatMove dir name new_dir now)
IsOutcomeIn image (call.SetFInfo dir name info now) o = o ≡ within_nodes image (call.SetFInfo dir name info now)
IsOutcomeIn image (call.SetCatInfo dir name created modified backup info now) o = o ≡ within_nodes image (call.SetCatInfo dir name created modified backup info now)
IsOutcomeIn image (call.SetFLock dir name now) o = o ≡ within_nodes image (call.SetFLock dir name now)
IsOutcomeIn image (call.RstFLock dir name now) o = o ≡ within_nodes image (call.RstFLock dir name now)
IsOutcomeIn image (call.CreateFileId dir name now) o = o ≡ within_nodes image (call.CreateFileId dir name now)
IsOutcomeIn image (call.DeleteFileId id now) o = o ≡ within_nodes image (call.DeleteFileId id now)
IsOutcomeIn image (call.ResolveFileId id) o = o ≡ within_nodes image (call.ResolveFileId id)
IsOutcomeIn image (call.SetEof dir name fork length now) o = IsForkOutcome image (call.SetEof dir name fork length now) o
IsOutcomeIn image (call.WriteFork dir name fork offset bytes now) o = IsForkOutcome image (call.WriteFork dir name fork offset bytes now) o

-- ---- what it answers a reader

-- the entries of the image's volume
abbrev pub entries_in : List ℕ → List Entry
entries_in image = entries_of (volume_of image)

-- the reply with a part of a fork of the image
abbrev pub fork_reply : List ℕ → ℕ → List ℕ → Fork → ℕ → ℕ → Reply
fork_reply image dir name fork offset count = read_fork (entries_in image) dir name fork offset count

-- the bytes that one of a file's forks has in the image
abbrev pub fork_in : List ℕ → Fork → FileRecord → List ℕ
fork_in image fork file = pick fork (contents_in (block_at image) file)

-- the records answer the queries of the image's entries
abbrev pub AreEntriesIn : List ℕ → Catalog → Type 0
AreEntriesIn image catalog = AreEntries (contents_in (block_at image)) catalog (entries_in image)
