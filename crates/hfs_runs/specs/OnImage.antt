-- What a run over a copy of an image answers, of the image itself. Each law is what a function of src/laws.rt ensures.
use Rattle.std.specs.Prelude.{◌≡◌, ℕ, ◌+◌, ◌/◌, ◌<◌, true, false, IsTrue, Bool, List, ◌++◌, length, get_or, Option, None}
use Rattle.hfs_model.specs.declared.call.Call.{Call}
use Rattle.hfs_model.specs.declared.reply.Reply.{Reply}
use Rattle.hfs_model.specs.declared.journal.Entry.{Entry}
use Rattle.hfs_model.specs.declared.journal.Want.{Want}
use Rattle.hfs_model.specs.Need.{step_within, step_wanting}
use Rattle.hfs_model.specs.Replies.{is_accepted}
use Rattle.hfs_model.specs.Runs.{after}
use Rattle.hfs_model.specs.Step.{step, is_writing}
use Rattle.hfs_model.specs.Volume.{Volume}
use Rattle.hfs_blocks.specs.Blocks.{block_at}
use Rattle.hfs_blocks.specs.Layers.{Numbered}
use Rattle.hfs_call_edits.specs.ForkWants.{MeetsForkWant}
use Rattle.hfs_check.specs.Sound.{IsImageLength}
use Rattle.hfs_check.specs.VolumeOf.{volume_of}
use Rattle.hfs_source.specs.Sparse.{sparse, IsOf}
use Rattle.hfs_volume.specs.Image.{ImageValue, copy_of, patched}
use Rattle.hfs_volume.specs.Serving.{free_in, depth_in}
use Rattle.hfs_model.specs.Alike.{AreAlike}
use Rattle.hfs_model.specs.Named.{KeepsNamed}
use Rattle.hfs_copy.specs.declared.opening.WorkingVolume.{WorkingVolume}
use Rattle.hfs_copy.specs.Opened.{IsWorkingOf}
use Rattle.hfs_copy.specs.Working.{IsWorkingCopy}
use Rattle.hfs_scripts.specs.declared.lines.Caller.TheVariants.{Worker}
use Rattle.hfs_scripts.specs.declared.lines.ScriptLine.{ScriptLine}
use Rattle.hfs_scripts.specs.Callers.{calls_of, workers}
use Rattle.hfs_shared.specs.Journals.{IsLegal}
use Rattle.hfs_shared.specs.Plans.{ArePlanned}
use Rattle.hfs_shared.specs.Shareds.{IsReplyOf}
use Rattle.hfs_runs.specs.Jobs.{plan_of}
use Rattle.hfs_runs.specs.Runs.{AreLinesRun}
use Rattle.hfs_runs.specs.Tellings.{ToldReplies}
use Rattle.hfs_runs.specs.NamedForks.{HasNamedForks}
use Rattle.hfs_runs.specs.NeededRuns.{AreLinesRunOver, CarriesForks}
use Rattle.hfs_runs.specs.Naming.{line_calls, read_forks}

-- copy and image hold the same, except for the bytes of forks of files that none of these calls names by its place; such files
-- have IDs that are not kept, and no item that will be made is among them
pub record ShareForks (calls : List Call) (copy image : List ℕ) : Type 0 where
  pub keep : ℕ → Bool
  pub alike : AreAlike keep (volume_of copy) (volume_of image)
  pub named : KeepsNamed keep calls (volume_of copy)

-- the image has the copy's working blocks, and, where some of these lines read or write forks, the forks of the files that they name
pub record IsLinesCopy (lines : List ScriptLine) (copy image : List ℕ) : Type 0 where
  pub working : IsWorkingCopy copy image
  pub forks : read_forks lines ≡ true → ShareForks (line_calls lines) copy image

-- this is wanting of a call that writes a fork, in an image, if anything is, and the reply is the one of a volume where the same is wanting
pub record IsForkReplyIn (image : List ℕ) (v : Volume) (call : Call) (reply : Reply) : Type 0 where
  pub want : Option Want
  pub meets : IsTrue (is_accepted (step (volume_of image) call).1) → MeetsForkWant call (block_at image) want
  pub is : reply ≡ (step_wanting want v call).1

-- the reply to a call is the one of a volume whose catalog has as many free nodes and levels as that of an image, and in which the same is wanting
-- of a call that writes a fork
pub record IsReplyIn (image : List ℕ) (v : Volume) (call : Call) (reply : Reply) : Type 0 where
  pub other : is_writing call ≡ false → reply ≡ (step_within (free_in image) (depth_in image) v call).1
  pub fork : is_writing call ≡ true → IsForkReplyIn image v call reply

-- the copy's reply to a call after some entries is the image's after the same ones, where as much is lacking as in the copy there
pub record IsReplyOnImage (copy image : List ℕ) (before : List Entry) (call : Call) (reply : Reply) : Type 0 where
  pub on_copy : IsReplyOf copy (after (volume_of copy) before) call reply
  pub on_image : IsReplyIn on_copy.image (after (volume_of image) before) call reply

-- so is the reply after some entries, which are legal over the copy's volume and have each the call that these lines plan
pub record IsSomeReplyOnImage (lines : List ScriptLine) (copy image : List ℕ) (call : Call) (reply : Reply) : Type 0 where
  pub before : List Entry
  pub legal : IsLegal (volume_of copy) before
  pub planned : ArePlanned (plan_of lines) before
  pub is : IsReplyOnImage copy image before call reply

-- so it is after the first entries of a journal
abbrev pub StandsOnImage : List ℕ → List ℕ → List Entry → Call → Reply → Type 0
StandsOnImage copy image journal call reply =
    (before : List Entry) × (behind : List Entry) × (before ++ behind ≡ journal) × IsReplyOnImage copy image before call reply

-- the fact holds of each of these replies to the first calls
abbrev pub OfReplies : (Call → Reply → Type 0) → List Call → List Reply → Type 0
OfReplies Fact calls replies = (k : ℕ) (call : Call) (reply : Reply) → k < length replies → Fact (get_or calls k call) (get_or replies k reply)

-- what workers were answered in a run over a copy is what the image answers: each reply after some legal entries with planned calls, and
-- where each change was shown at once, after those that the run's journal begins with
pub record AreWorkersOnImage (lines : List ScriptLine) (copy image : List ℕ) (shown : Bool) (journal : List Entry) (worker : ℕ) (replies : List Reply) : Type 0 where
  pub each : OfReplies (IsSomeReplyOnImage lines copy image) (calls_of (Worker worker) lines) replies
  pub stand : shown ≡ true → OfReplies (StandsOnImage copy image journal) (calls_of (Worker worker) lines) replies

-- so it is of all workers of a run
abbrev pub AreAllOnImage : (lines : List ScriptLine) (copy image : List ℕ) (volume : ImageValue) (text : List ℕ) (whole shown : Bool) (told : ToldReplies) → AreLinesRun copy lines volume text whole shown told → Type 0
AreAllOnImage lines copy image volume text whole shown told ran =
    (place : ℕ) → place < workers lines → AreWorkersOnImage lines copy image shown ran.journal (place + 1) (ran.replies (Worker (place + 1)))

-- these bytes hold what entries make of an image's volume, except for the bytes of forks of files that none of these calls names by its place, of which
-- those that there are in the copy have IDs that are not kept
pub record HoldsMade (calls : List Call) (journal : List Entry) (copy image saved : List ℕ) : Type 0 where
  pub keep : ℕ → Bool
  pub named : KeepsNamed keep calls (volume_of copy)
  pub made : AreAlike keep (after (volume_of image) journal) (volume_of saved)

-- ---- the laws

-- what was read of an image of so many bytes, with the forks that lines name, is such a copy of each image that has what was read
abbrev pub NamedForksAreTheImages : Type 0
NamedForksAreTheImages =
    (lines : List ScriptLine) (len : ℕ) (working : WorkingVolume) (image : List ℕ) → IsWorkingOf None (len / 512) working → IsImageLength len
    → (read_forks lines ≡ true → HasNamedForks (sparse working.read) lines working.read) → length image ≡ len → IsOf image working.read
    → IsLinesCopy lines (copy_of working.read len) image

-- over such a copy each reply to a worker is the image's
abbrev pub WorkersReadTheImage : Type 0
WorkersReadTheImage =
    (copy image : List ℕ) (lines : List ScriptLine) (volume : ImageValue) (text : List ℕ) (whole shown : Bool) (told : ToldReplies) → IsLinesCopy lines copy image
    → (ran : AreLinesRun copy lines volume text whole shown told) → AreAllOnImage lines copy image volume text whole shown told ran

-- what goes out of a run over such a copy makes of the image what the run's calls make of its volume
abbrev pub SavedIsMade : Type 0
SavedIsMade =
    (copy image : List ℕ) (lines : List ScriptLine) (patch : Numbered) (text : List ℕ) (whole shown : Bool) (told : ToldReplies)
    (over : AreLinesRunOver copy lines patch text whole shown told) (keep : ℕ → Bool) → CarriesForks keep (line_calls lines) patch copy image
    → HoldsMade (line_calls lines) over.ran.journal copy image (patched patch image)
