-- What lies under the lock, as plain data.
use Rattle.std.specs.Prelude.{◌≡◌, ℕ, ◌≤◌, ◌⊎◌, List, length, drop}
use Rattle.logbook.specs.Pages.{Book}
use Rattle.hfs_model.specs.declared.journal.Entry.{Entry}
use Rattle.hfs_model.specs.Volume.{Volume}
use Rattle.hfs_check.specs.VolumeOf.{volume_of}
use Rattle.hfs_shared.specs.Journals.{published, NoneAccepted}
use Rattle.hfs_shared.specs.Pairs.{PairState}
use Rattle.hfs_shared.specs.Plans.{Plan, ArePlanned}
use Rattle.hfs_shared.specs.Desks.{DeskState, desk_state, IsHeadline}

-- a desk, and how many entries of its journal the published list covers
pub record LockedState : Type 0 where
  pub base : List ℕ
  pub current : List ℕ
  pub written : List ℕ
  pub journal : List Entry
  pub workers : ℕ
  pub shown : ℕ

abbrev pub locked_state : DeskState → ℕ → LockedState
locked_state d n = record { base = d.base; current = d.current; written = d.written; journal = d.journal; workers = d.workers; shown = n }

abbrev pub desk_of : LockedState → DeskState
desk_of l = desk_state l.base l.current l.written l.journal l.workers

-- what holds whenever the lock is free, of a session with this base and this plan: the headline over the base, each entry's call
-- is the planned one, and the published list covers no more entries than there are
pub record IsUnderLock (base : List ℕ) (plan : Plan) (l : LockedState) : Type 0 where
  pub base_is : l.base ≡ base
  pub headline : IsHeadline l.base l.current l.written l.journal
  pub planned : ArePlanned plan l.journal
  pub within : l.shown ≤ length l.journal

-- so many entries are all of them, or those that the published list covers already
abbrev pub CoversAllOrSame : LockedState → ℕ → Type 0
CoversAllOrSame l n = (n ≡ length l.journal) ⊎ (n ≡ l.shown)

-- where no accepted change waits, so many entries are all of them
abbrev pub KeepsUp : LockedState → ℕ → Type 0
KeepsUp l n = NoneAccepted (drop l.shown l.journal) → n ≡ length l.journal

-- the headline holds over the session's base, each entry's call is the planned one, and the pair has the published lists of the
-- journal: the one that is published covers so many entries, and the one with all that was added covers at least these
pub record IsLocked (book : Book) (base : List ℕ) (plan : Plan) (d : DeskState) (p : PairState) (added shown : ℕ) : Type 0 where
  pub base_is : d.base ≡ base
  pub headline : IsHeadline d.base d.current d.written d.journal
  pub planned : ArePlanned plan d.journal
  pub book_is : p.book ≡ book
  pub all_is : p.all ≡ published (volume_of d.base) d.journal added
  pub shown_is : p.shown ≡ published (volume_of d.base) d.journal shown
  pub order : (shown ≤ added) × (added ≤ length d.journal)

-- a pair with all that the first entries of a journal publish then has this of so many
pub record GathersOf (old : PairState) (journal : List Entry) (added : ℕ) (new : PairState) (result : ℕ) : Type 0 where
  pub all : (v : Volume) → old.all ≡ published v journal added → new.all ≡ published v journal result
  pub shown : new.shown ≡ old.shown
  pub book : new.book ≡ old.book

-- a pair that shows what so many entries of a journal publish then shows this of so many
pub record ShowsOf (old : PairState) (added shown : ℕ) (new : PairState) (result : ℕ) : Type 0 where
  pub shows : (v : Volume) (journal : List Entry) → old.all ≡ published v journal added → old.shown ≡ published v journal shown → new.shown ≡ published v journal result
  pub all : new.all ≡ old.all
  pub book : new.book ≡ old.book
