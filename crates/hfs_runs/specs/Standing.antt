-- Where a reply is in a journal.
use Rattle.std.specs.Prelude.{◌≡◌, ℕ, ◌<◌, ◌&&◌, not, true, Bool, pos, List, ◌∷◌, ◌++◌, length, get_or}
use Rattle.std.specs.Ordering.{int_eq}
use Rattle.hfs_model.specs.declared.call.Call.{Call}
use Rattle.hfs_model.specs.declared.reply.Reply.{Reply}
use Rattle.hfs_model.specs.declared.journal.Entry.{Entry}
use Rattle.hfs_model.specs.Step.{is_reading}
use Rattle.hfs_model.specs.Runs.{after}
use Rattle.hfs_check.specs.VolumeOf.{volume_of}
use Rattle.hfs_shared.specs.Journals.{is_accepted}
use Rattle.hfs_shared.specs.Shareds.{IsReplyOf}

-- whether the reply says that the call changed the volume
abbrev pub is_change : Call → Reply → Bool
is_change call reply = not (is_reading call) && int_eq reply.code (pos 0)

-- the first of these entries is an accepted one of that call
abbrev pub BeginsWith : Call → List Entry → Type 0
BeginsWith call entries = (entry : Entry) × (rest : List Entry) × (entries ≡ entry ∷ rest) × (entry.call ≡ call) × (is_accepted entry ≡ true)

-- the reply is the call's on an image as it may be after some entries of the journal, and where it changed the volume, the next
-- entry is the call's
pub record Stands (base : List ℕ) (journal : List Entry) (call : Call) (reply : Reply) : Type 0 where
  pub before : List Entry
  pub behind : List Entry
  pub whole : before ++ behind ≡ journal
  pub reply_is : IsReplyOf base (after (volume_of base) before) call reply
  pub next : is_change call reply ≡ true → BeginsWith call behind

-- each of these replies to the first calls is in the journal
abbrev pub AllStand : List ℕ → List Entry → List Call → List Reply → Type 0
AllStand base journal calls replies =
    (k : ℕ) (call : Call) (reply : Reply) → k < length replies → Stands base journal (get_or calls k call) (get_or replies k reply)
