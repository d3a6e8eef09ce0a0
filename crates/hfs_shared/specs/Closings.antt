-- Which passes close a shared volume, and what closing it gives.
use Rattle.std.specs.Prelude.{◌≡◌, ℕ, ◌+◌, ◌<◌, ◌≤◌, Bool, MatchBool, List, length, get_or}
use mathlib.Core.List.{IsPrefix}
use Rattle.hfs_model.specs.declared.journal.Entry.{Entry}
use Rattle.hfs_model.specs.Runs.{after}
use Rattle.hfs_check.specs.Agree.{AgreesBut}
use Rattle.hfs_check.specs.VolumeOf.{volume_of}
use Rattle.hfs_volume.specs.Image.{ImageValue}
use Rattle.hfs_shared.specs.Histories.{Known}
use Rattle.hfs_shared.specs.Journals.{IsLegal, made_by, published}
use Rattle.hfs_shared.specs.declared.closed.Closed.{Closed}
use Rattle.hfs_shared.specs.Desks.{PassState, pass_state}
use Rattle.hfs_shared.specs.Lockeds.{LockedState}
use Rattle.hfs_shared.specs.Stages.{stage_of, HaveMadeOf}

-- the answer is whether it holds
abbrev pub IsWhether : Bool → Type 0 → Type 0
IsWhether answer P = MatchBool answer P (P → ⊥)

-- the pass is among these
abbrev pub HasPass : List PassState → PassState → Type 0
HasPass passes p = (i : ℕ) × (i < length passes) × ((none : PassState) → get_or passes i none ≡ p)

-- the passes are those of all workers, each once and with its next number
pub record AreAllPasses (passes : List PassState) (workers : ℕ) (journal : List Entry) : Type 0 where
  pub many : length passes ≡ workers
  pub each : (w : ℕ) → w < workers → HasPass passes (pass_state (w + 1) (made_by (w + 1) journal + 1))

-- no entry is of another than so many workers
abbrev pub HasNoOthers : ℕ → List Entry → Type 0
HasNoOthers workers journal = ((w : ℕ) → workers < w → made_by w journal ≡ 0) × (made_by 0 journal ≡ 0)

-- the passes are those that close it
abbrev pub AreTheirPasses : List PassState → LockedState → Type 0
AreTheirPasses passes l = AreAllPasses passes l.workers l.journal

-- what closing gives for these passes, and the lent viewer's list before and after it. The volume's image agrees with the
-- one that was shared, this base, except for the blocks of forks that calls of the journal wrote, which made it one after the other, and its
-- volume is the one after the journal; each worker has as many entries as its pass says,
-- and nobody else has any; the viewer has then seen what is published, which begins with what it had seen.
pub record IsClosed (base : List ℕ) (volume : ImageValue) (journal : List Entry) (shown : ℕ) (passes : List PassState) (before afterwards : Known) : Type 0 where
  pub base_is : volume.base ≡ base
  pub agrees : AgreesBut volume.written base volume.current
  pub made : HaveMadeOf base journal (stage_of volume)
  pub legal : IsLegal (volume_of base) journal
  pub follows : volume_of volume.current ≡ after (volume_of base) journal
  pub all : AreAllPasses passes (length passes) journal
  pub others : HasNoOthers (length passes) journal
  pub seen : afterwards.list ≡ published (volume_of base) journal shown
  pub within : shown ≤ length journal
  pub begins : IsPrefix before.list afterwards.list

-- and this is what it gave
abbrev pub IsClosedAs : List ℕ → Closed → List PassState → Known → Known → Type 0
IsClosedAs base c passes before afterwards = IsClosed base c.volume c.journal.items c.shown passes before afterwards

-- what closing gives is what lay under the lock
abbrev pub GivesAll : LockedState → Closed → Type 0
GivesAll l c = (c.volume.current ≡ l.current) × (c.volume.written ≡ l.written) × (c.journal.items ≡ l.journal) × (c.shown ≡ l.shown)
