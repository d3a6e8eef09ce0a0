-- Which journals are legal, and which list is published of them.
use Rattle.std.specs.Prelude.{◌≡◌, ℕ, ◌+◌, ◌<◌, ◌==◌, ◌&&◌, not, Bool, false, pos, List, ◌∷◌, ◌++◌, map, filter, take, count_by, All, Option, Some, None}
use Rattle.std.specs.Ordering.{int_eq}
use Rattle.hfs_model.specs.declared.codes.TheConstants.{DISK_FULL}
use Rattle.hfs_model.specs.declared.call.Call.{Call}
use Rattle.hfs_model.specs.declared.call.Call.TheVariants as call
use Rattle.hfs_model.specs.declared.journal.Entry.{Entry}
use Rattle.hfs_model.specs.declared.journal.Want.{Want}
use Rattle.hfs_model.specs.declared.journal.Want.TheVariants as want
use Rattle.hfs_model.specs.Volume.{Volume}
use Rattle.hfs_model.specs.Step.{step, is_reading}
use Rattle.hfs_model.specs.Runs.{after}
use Rattle.hfs_model.specs.Need.{need}
use Rattle.hfs_record_edits.specs.Wants.{IsSetEofWant, IsWriteForkWant}
use Rattle.hfs_shared.specs.declared.item.Item.{Item}
use Rattle.hfs_shared.specs.declared.item.Item.TheVariants.{Opening, Change}

-- ---- legal journals

-- how many entries a worker has
abbrev pub made_by : ℕ → List Entry → ℕ
made_by worker entries = count_by (λ (e : Entry). e.worker == worker) entries

-- this is wanting of a call that writes a fork
abbrev pub IsForkWantOf : Volume → Call → Want → Type 0
IsForkWantOf v (call.GetDirInfo dir) w = ⊥
IsForkWantOf v (call.GetCatInfo dir name) w = ⊥
IsForkWantOf v (call.GetIndexed dir index) w = ⊥
IsForkWantOf v (call.List dir) w = ⊥
IsForkWantOf v (call.ReadFork dir name fork offset count) w = ⊥
IsForkWantOf v (call.Create dir name now) w = ⊥
IsForkWantOf v (call.DirCreate dir name now) w = ⊥
IsForkWantOf v (call.Delete dir name now) w = ⊥
IsForkWantOf v (call.Rename dir name new_name now) w = ⊥
IsForkWantOf v (call.CatMove dir name new_dir now) w = ⊥
IsForkWantOf v (call.SetFInfo dir name info now) w = ⊥
IsForkWantOf v (call.SetCatInfo dir name created modified backup info now) w = ⊥
IsForkWantOf v (call.SetFLock dir name now) w = ⊥
IsForkWantOf v (call.RstFLock dir name now) w = ⊥
IsForkWantOf v (call.CreateFileId dir name now) w = ⊥
IsForkWantOf v (call.DeleteFileId id now) w = ⊥
IsForkWantOf v (call.ResolveFileId id) w = ⊥
IsForkWantOf v (call.SetEof dir name fork length now) w = IsSetEofWant v.block_size v dir name fork length now w
IsForkWantOf v (call.WriteFork dir name fork offset bytes now) w = IsWriteForkWant v.block_size v dir name fork offset bytes now w

-- so few nodes of the catalog are free that the call needs more; or blocks or nodes of the extents tree are wanting of a call that
-- writes a fork
abbrev pub IsWantOf : Volume → Call → Want → Type 0
IsWantOf v c (want.Nodes free depth) = free < need c depth
IsWantOf v c (want.Room free wanted) = IsForkWantOf v c (want.Room free wanted)
IsWantOf v c (want.ExtentNodes free depth) = IsForkWantOf v c (want.ExtentNodes free depth)

-- the code is that of the step; or it is -34 where the step's is 0 and the call needs more than there is
abbrev pub IsAnswered : Volume → Entry → Option Want → Type 0
IsAnswered v e None = e.code ≡ (step v e.call).1.code
IsAnswered v e (Some wanting) = ((step v e.call).1.code ≡ pos 0) × IsWantOf v e.call wanting × (e.code ≡ DISK_FULL)

-- the entry may follow these
pub record IsLegalAt (v : Volume) (before : List Entry) (e : Entry) : Type 0 where
  pub stamped : e.stamp ≡ made_by e.worker before + 1
  pub answered : IsAnswered (after v before) e e.want

-- each entry may follow those before it
abbrev pub IsLegal : Volume → List Entry → Type 0
IsLegal v journal = (before : List Entry) (e : Entry) (rest : List Entry) → journal ≡ before ++ e ∷ rest → IsLegalAt v before e

-- ---- published lists

-- whether the entry is a change with code 0
abbrev pub is_accepted : Entry → Bool
is_accepted e = not (is_reading e.call) && int_eq e.code (pos 0)

-- the accepted changes of a journal, in order
abbrev pub changes : List Entry → List Item
changes entries = map (λ (e : Entry). Change e.call) (filter is_accepted entries)

-- the published list that covers the first n entries of a journal over a volume
abbrev pub published : Volume → List Entry → ℕ → List Item
published v journal n = Opening v ∷ changes (take n journal)

-- no entry is an accepted change
abbrev pub NoneAccepted : List Entry → Type 0
NoneAccepted entries = All (λ (e : Entry). is_accepted e ≡ false) entries
