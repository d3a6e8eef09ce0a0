-- What holds of a shared volume.
use Rattle.std.specs.Prelude.{ℕ, List}
use Rattle.hfs_model.specs.declared.journal.Entry.{Entry}
use Rattle.hfs_check.specs.Agree.{Agrees}
use Rattle.hfs_shared.specs.Desks.{IsHeadline}
use Rattle.hfs_shared.specs.Stages.{NoneWrites}

-- where no call of the journal writes a fork, the image agrees with the one that was mounted, and in all blocks of forks, too
abbrev pub AgreesWhereNoneWrites : Type 0
AgreesWhereNoneWrites = (base current written : List ℕ) (journal : List Entry) → IsHeadline base current written journal → NoneWrites journal → Agrees base current
