-- The volume with its journal, as plain data, and the headline.
use Rattle.std.specs.Prelude.{◌≡◌, ◌≢◌, ℕ, ◌+◌, ◌<◌, ◌≤◌, ◌&&◌, leb, cond, pos, IsTrue, List, [], ◌∷◌, ◌++◌, length, slice_index, if◌then◌else◌, Option, Some, None}
use Rattle.std.specs.Ordering.{int_eq}
use Rattle.hfs_model.specs.declared.codes.TheConstants.{DISK_FULL}
use Rattle.hfs_model.specs.declared.call.Call.{Call}
use Rattle.hfs_model.specs.declared.reply.Reply.{Reply}
use Rattle.hfs_model.specs.declared.reply.Value.{Value}
use Rattle.hfs_model.specs.declared.reply.Value.TheVariants as value
use Rattle.hfs_model.specs.declared.journal.Entry.{Entry}
use Rattle.hfs_model.specs.declared.journal.Want.{Want}
use Rattle.hfs_model.specs.declared.journal.Want.TheVariants as want
use Rattle.hfs_model.specs.Step.{is_reading}
use Rattle.hfs_model.specs.Runs.{after}
use Rattle.hfs_check.specs.Agree.{AgreesBut}
use Rattle.hfs_check.specs.VolumeOf.{volume_of}
use Rattle.hfs_volume.specs.Serving.{IsOutcomeIn}
use Rattle.hfs_shared.specs.Journals.{IsLegal, made_by}
use Rattle.hfs_shared.specs.Stages.{stage, HasMade, HaveMadeOf}

-- the image as it was mounted, the image as it is, the blocks of forks that were written since, the journal, and how many workers there
-- are
pub record DeskState : Type 0 where
  pub base : List ℕ
  pub current : List ℕ
  pub written : List ℕ
  pub journal : List Entry
  pub workers : ℕ

abbrev pub desk_state : List ℕ → List ℕ → List ℕ → List Entry → ℕ → DeskState
desk_state b c w j n = record { base = b; current = c; written = w; journal = j; workers = n }

-- the headline: the image agrees with the one that was mounted, except for the blocks of forks that calls of the journal wrote, which made it
-- one after the other; the journal is legal over the mounted volume, and the volume now is the one after it
pub record IsHeadline (base current written : List ℕ) (journal : List Entry) : Type 0 where
  pub agrees : AgreesBut written base current
  pub made : HaveMadeOf base journal (stage current written)
  pub legal : IsLegal (volume_of base) journal
  pub follows : volume_of current ≡ after (volume_of base) journal

-- the next numbers of the workers, and no entry is of another
pub record IsCounted (next : List ℕ) (journal : List Entry) : Type 0 where
  pub counts : (w : ℕ) → w < length next → slice_index next w ≡ made_by (w + 1) journal + 1
  pub none : (w : ℕ) → length next < w → made_by w journal ≡ 0
  pub nobody : made_by 0 journal ≡ 0
  pub few : length next ≤ 8

-- ---- passes

-- a worker, and the number of its next call
pub record PassState : Type 0 where
  pub worker : ℕ
  pub number : ℕ

abbrev pub pass_state : ℕ → ℕ → PassState
pass_state w n = record { worker = w; number = n }

-- the next number of a worker, or 0 where there is none such
abbrev pub wanted : ℕ → List Entry → ℕ → ℕ
wanted workers journal w = cond (leb 1 w && leb w workers) (made_by w journal + 1) 0

-- ---- one call

-- the want that a value reports
abbrev pub want_in : Value → Option Want
want_in value.Nothing = None
want_in (value.Id id) = None
want_in (value.One info) = None
want_in (value.Many infos) = None
want_in (value.Bytes bytes) = None
want_in (value.Full free depth) = Some (want.Nodes free depth)
want_in (value.Room free wanted) = Some (want.Room free wanted)
want_in (value.ExtentNodes free depth) = Some (want.ExtentNodes free depth)
want_in (value.Place dir name) = None

-- what a reply reports as wanting
abbrev pub want_of : Reply → Option Want
want_of r = if int_eq r.code DISK_FULL then want_in r.value else None

-- the journal's entry of a call
abbrev pub entry_of : PassState → Call → Reply → Entry
entry_of p c r = record { worker = p.worker; stamp = p.number; call = c; code = r.code; want = want_of r }

-- one call under the lock
pub record IsApplied (s : DeskState) (p : PassState) (c : Call) (r : Reply) (t : DeskState) (q : PassState) : Type 0 where
  pub base : t.base ≡ s.base
  pub workers : t.workers ≡ s.workers
  pub journal : t.journal ≡ s.journal ++ entry_of p c r ∷ []
  pub pass : q ≡ pass_state p.worker (p.number + 1)
  pub wanted_is : p.number ≡ wanted s.workers s.journal p.worker
  pub outcome : IsOutcomeIn s.current c (volume_of t.current, r)
  pub refused : r.code ≢ pos 0 → t.current ≡ s.current
  pub reading : IsTrue (is_reading c) → t.current ≡ s.current
  pub made : HasMade (entry_of p c r) (stage s.current s.written) (stage t.current t.written)
  pub headline : IsHeadline s.base s.current s.written s.journal
  pub headline_after : IsHeadline t.base t.current t.written t.journal
