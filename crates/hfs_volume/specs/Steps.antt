-- What the edit of a call makes of an image.
use Rattle.std.specs.Prelude.{◌≡◌, ◌⊎◌, ℕ, ◌≤◌, false, List, [], ◌∷◌, ◌++◌, length, take, Result, Ok, Err, Option, Some, None}
use Rattle.std.proofs.Common.{Vec, Global}
use Rattle.hfs_blocks.specs.Blocks.{block_at, block_count}
use Rattle.hfs_model.specs.declared.call.Call.{Call}
use Rattle.hfs_model.specs.declared.reply.Reply.{Reply}
use Rattle.hfs_model.specs.Changes.{Outcome}
use Rattle.hfs_model.specs.Need.{wanting}
use Rattle.hfs_model.specs.Replies.{refusal}
use Rattle.hfs_model.specs.Step.{step, is_writing}
use Rattle.hfs_model.specs.Volume.{Volume}
use Rattle.hfs_check.specs.VolumeOf.{volume_of}
use Rattle.hfs_blocks.specs.declared.run.Run.{Run}
use Rattle.hfs_call_patches.specs.declared.change.Change.{Change}
use Rattle.hfs_call_patches.specs.declared.change.ForkBlocks.{ForkBlocks}
use Rattle.hfs_call_patches.specs.CallChanges.{changed, written_blocks}
use Rattle.hfs_call_edits.specs.declared.editing.Refusal.{Refusal}
use Rattle.hfs_call_edits.specs.declared.editing.Refusal.TheVariants as refused
use Rattle.hfs_call_edits.specs.Edits.{HasForkRoom, HasForkWritten, IsEdit, IsEditOf}
use Rattle.hfs_call_edits.specs.ForkWrites.{WritesFork}
use Rattle.hfs_volume.specs.Image.{ImageValue}
use Rattle.hfs_volume.specs.Serving.{IsOutcomeIn}

-- what some call makes of the image
abbrev pub IsEditIn : List ℕ → Result Change Refusal → Type 0
IsEditIn image edit = IsEdit (block_count image) (block_at image) edit

-- the call's edit of the image
pub record IsEditOn (c : Call) (image : List ℕ) (edit : Result Change Refusal) : Type 0 where
  pub is : IsEditOf c (block_count image) (block_at image) edit
  pub room : HasForkRoom c (block_count image) (block_at image) edit
  pub forks : HasForkWritten c (block_count image) (block_at image) edit

-- the volume is the one of each call that makes the change
abbrev pub IsAfter : List ℕ → Change → Volume → Type 0
IsAfter image change v = (c : Call) → IsEditOn c image (Ok change) → v ≡ (step (volume_of image) c).0

-- the image's volume is the one of each call that makes the change
abbrev pub IsImageAfter : List ℕ → Change → List ℕ → Type 0
IsImageAfter image change next = IsAfter image change (volume_of next)

-- the outcome is the one of each call whose edit this is
abbrev pub IsOutcome : List ℕ → Result Change Refusal → Outcome → Type 0
IsOutcome image edit outcome = (c : Call) → IsEditOn c image edit → IsOutcomeIn image c outcome

-- the edit of the old image has this reply, and leaves the new one
abbrev pub IsEditReply : Result Change Refusal → List ℕ → List ℕ → Reply → Type 0
IsEditReply edit old new reply = IsOutcome old edit (volume_of new, reply)

-- ---- blocks of forks

-- the runs of zeros that a change lays, and those of the blocks that it wrote
abbrev pub zero_runs : Option ForkBlocks → List Run
zero_runs None = []
zero_runs (Some fork) = fork.zeros

abbrev pub written_runs : Option ForkBlocks → List Run
written_runs None = []
written_runs (Some fork) = fork.runs.items

-- the blocks that an edit wrote are after those that were written before
abbrev pub AreWrittenBy : Result Change Refusal → ImageValue → ImageValue → Type 0
AreWrittenBy (Ok change) old new = new.written ≡ old.written ++ written_blocks change.written
AreWrittenBy (Err refusal) old new = new.written ≡ old.written

-- the blocks of the new image are those of the old one with the edit's change laid over them; or nothing has changed
abbrev pub IsLaidBy : Result Change Refusal → ImageValue → ImageValue → Type 0
IsLaidBy (Ok change) old new = block_at new.current ≡ changed (block_at old.current) change
IsLaidBy (Err refusal) old new = new ≡ old

-- so are those that a call wrote, and a call that writes no fork wrote none; they are of the call's fork, unless nothing has changed
pub record HasWrittenBlocks (c : Call) (old new : ImageValue) : Type 0 where
  pub blocks : List ℕ
  pub joined : new.written ≡ old.written ++ blocks
  pub none : is_writing c ≡ false → blocks ≡ []
  pub forks : (new ≡ old) ⊎ WritesFork c blocks (block_at old.current) (block_at new.current)

-- the reply of what refuses a call
abbrev pub refusal_reply : Refusal → Reply
refusal_reply (refused.Code code) = refusal code
refusal_reply (refused.Want want) = wanting want

-- ---- calls one after the other

-- a call's reply, and the image that it leaves
abbrev pub IsMade : List ℕ → Call → Reply → List ℕ → Type 0
IsMade image c reply next = IsOutcomeIn image c (volume_of next, reply)

-- the call has this reply of the old image, and leaves the new one
abbrev pub IsReplyTo : Call → List ℕ → List ℕ → Reply → Type 0
IsReplyTo c old new reply = IsMade old c reply new

-- the replies of calls that were made of an image one after the other, each of what those before it left, and the last image
abbrev pub AreMade : List ℕ → List Call → List Reply → List ℕ → Type 0
AreMade image [] [] last = image ≡ last
AreMade image [] (reply ∷ replies) last = ⊥
AreMade image (c ∷ cs) [] last = ⊥
AreMade image (c ∷ cs) (reply ∷ replies) last = (next : List ℕ) × IsMade image c reply next × AreMade next cs replies last

-- the first of the calls, so many, were made of the old image one after the other, and leave the new one
pub record AreFirstMade (cs : List Call) (old new : List ℕ) : Type 0 where
  pub count : ℕ
  pub within : count ≤ length cs
  pub replies : List Reply
  pub made : AreMade old (take count cs) replies new

-- the calls have these replies of the old image, and leave the new one
abbrev pub AreRepliesTo : List Call → List ℕ → List ℕ → Vec Reply Global → Type 0
AreRepliesTo cs old new replies = AreMade old cs replies.items new

-- the same of what the images are, with the blocks of forks that each call wrote
abbrev pub AreServed : ImageValue → List Call → List Reply → ImageValue → Type 0
AreServed image [] [] last = image ≡ last
AreServed image [] (reply ∷ replies) last = ⊥
AreServed image (c ∷ cs) [] last = ⊥
AreServed image (c ∷ cs) (reply ∷ replies) last =
    (next : ImageValue) × IsMade image.current c reply next.current × HasWrittenBlocks c image next × AreServed next cs replies last

-- so it is of the first of the calls, so many, and the new image is the one that they leave, except for the blocks that it keeps as changed
pub record AreFirstServed (cs : List Call) (old new : ImageValue) : Type 0 where
  pub count : ℕ
  pub within : count ≤ length cs
  pub replies : List Reply
  pub last : ImageValue
  pub served : AreServed old (take count cs) replies last
  pub current : new.current ≡ last.current
  pub written : new.written ≡ last.written

-- the calls have these replies of the old image, wrote blocks of their forks, and leave the new one
abbrev pub AreServedWith : List Call → ImageValue → ImageValue → Vec Reply Global → Type 0
AreServedWith cs old new replies = AreServed old cs replies.items new
