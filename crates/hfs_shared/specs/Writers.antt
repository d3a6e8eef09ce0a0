-- What is said about the writer of the pair of copies.
use Rattle.std.specs.Prelude.{◌≡◌, Bool, MatchBool, List, ◌++◌, drop, Option}
use Rattle.logbook.specs.Pages.{Book}
use Rattle.left_right.specs.declared.Absorb.{Ghosts}
use Rattle.left_right.specs.declared.writer.Writer.{Writer}
use Rattle.left_right.specs.Sides.{view as seat_view}
use Rattle.hfs_shared.specs.declared.published.Published.{Published}
use Rattle.hfs_shared.specs.declared.published.Change as op
use Rattle.hfs_shared.specs.Histories.{Known}
use Rattle.hfs_shared.specs.Pairs.{owed_list, IsPair, Opens}

-- the changes that the published copy lacks
abbrev pub pending_in : {V P A S : Type 0} {g : Ghosts Published op.Change S} → Writer Published op.Change V P A S g → List op.Change
pending_in w = drop w.behind w.log.items

-- all changes that wait: those, and the one that is owed, if there is one
abbrev pub waiting_in : {V P A S : Type 0} {g : Ghosts Published op.Change S} → Writer Published op.Change V P A S g → Option op.Change → List op.Change
waiting_in w owed = pending_in w ++ owed_list owed

-- the published copy and the log are as they were
abbrev pub KeepsLog : {V P A S : Type 0} {g : Ghosts Published op.Change S} → Writer Published op.Change V P A S g → Writer Published op.Change V P A S g → Type 0
KeepsLog old new = (new.desk.shown ≡ old.desk.shown) × (new.log ≡ old.log) × (new.behind ≡ old.behind)

-- the published copy and what it lacks are as they were
abbrev pub KeepsPending : {V P A S : Type 0} {g : Ghosts Published op.Change S} → Writer Published op.Change V P A S g → Writer Published op.Change V P A S g → Type 0
KeepsPending old new = (new.desk.shown ≡ old.desk.shown) × (pending_in new ≡ pending_in old)

-- the writer has published the opening
abbrev pub HasOpened : {P A S : Type 0} {g : Ghosts Published op.Change S} → Known → Writer Published op.Change (Option Known) P A S g → Type 0
HasOpened f w = Opens f w.desk.shown.value (pending_in w) (seat_view w.desk.place)

-- the writer's published copy and what waits make the whole
abbrev pub IsPairIn : {V P A S : Type 0} {g : Ghosts Published op.Change S} → Known → Book → Writer Published op.Change V P A S g → Option op.Change → Type 0
IsPairIn f head w owed = IsPair f head w.desk.shown.value (pending_in w) owed

-- where the answer is yes, the whole list is published, and else what was
abbrev pub ShowsAllOrSame : {V P A S : Type 0} {g : Ghosts Published op.Change S} → Bool → Known → Writer Published op.Change V P A S g → Writer Published op.Change V P A S g → Type 0
ShowsAllOrSame answer f old new = MatchBool answer (new.desk.shown.value.front ≡ f) (new.desk.shown.value ≡ old.desk.shown.value)
