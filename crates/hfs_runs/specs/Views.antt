-- What viewers of a script are answered.
use Rattle.std.specs.Prelude.{◌≡◌, ℕ, ◌<◌, List, [], ◌∷◌, ◌++◌, length, get_or}
use Rattle.hfs_model.specs.declared.call.Call.{Call}
use Rattle.hfs_model.specs.declared.reply.Reply.{Reply}
use Rattle.hfs_shared.specs.Histories.{Known}
use Rattle.hfs_shared.specs.Lists.{Reads}
use Rattle.hfs_runs.specs.declared.viewing.Viewing.{Viewing}

-- the replies to the first calls, each on a list that begins with the one before it
abbrev pub AreReads : List Call → Known → List Reply → Known → Type 0
AreReads calls before [] afterwards = afterwards ≡ before
AreReads [] before (reply ∷ replies) afterwards = ⊥
AreReads (call ∷ calls) before (reply ∷ replies) afterwards = (seen : Known) × Reads call before reply seen × AreReads calls seen replies afterwards

-- one reply more
pub record AreMoreReads (call : Call) (before afterwards : Known) (old new : List Reply) : Type 0 where
  pub reply : Reply
  pub grown : new ≡ old ++ reply ∷ []
  pub read : Reads call before reply afterwards

-- a viewer was answered, from its first call on
pub record IsViewed (before afterwards : Viewing) : Type 0 where
  pub calls : afterwards.calls ≡ before.calls
  pub reads : AreReads before.calls.items before.viewer afterwards.replies.items afterwards.viewer

-- each viewer was answered, from its first call on
abbrev pub AreViewed : List Viewing → List Viewing → Type 0
AreViewed befores afterwards = (i : ℕ) (v : _) (w : _) → i < length befores → IsViewed (get_or befores i v) (get_or afterwards i w)
