-- What the calls of a journal made of an image, one after the other, and which blocks of forks they wrote.
use Rattle.std.specs.Prelude.{◌≡◌, ◌≢◌, ℕ, Bool, false, ◌&&◌, pos, List, [], ◌∷◌, All}
use Rattle.std.specs.Ordering.{int_eq}
use Rattle.hfs_model.specs.declared.journal.Entry.{Entry}
use Rattle.hfs_model.specs.Runs.{after_entry}
use Rattle.hfs_model.specs.Step.{is_writing}
use Rattle.hfs_check.specs.VolumeOf.{volume_of}
use Rattle.hfs_volume.specs.Image.{ImageValue}
use Rattle.hfs_volume.specs.Steps.{HasWrittenBlocks}

-- an image's bytes, and the blocks of forks that were written since it was shared
pub record Stage : Type 0 where
  pub bytes : List ℕ
  pub written : List ℕ

abbrev pub stage : List ℕ → List ℕ → Stage
stage bytes written = record { bytes = bytes; written = written }

abbrev pub stage_of : ImageValue → Stage
stage_of image = stage image.current image.written

-- the entry's call made the one of the other: its volume is the one after the entry, and the blocks that were written are followed by those
-- that this call wrote; one with another code than 0 made nothing
pub record HasMade (e : Entry) (old new : Stage) : Type 0 where
  pub before : ImageValue
  pub afterwards : ImageValue
  pub begins : stage_of before ≡ old
  pub ends : stage_of afterwards ≡ new
  pub follows : volume_of afterwards.current ≡ after_entry (volume_of before.current) e
  pub wrote : HasWrittenBlocks e.call before afterwards
  pub refused : e.code ≢ pos 0 → new ≡ old

-- the entries made it one after the other
abbrev pub HaveMade : Stage → List Entry → Stage → Type 0
HaveMade old [] new = new ≡ old
HaveMade old (e ∷ es) new = (next : Stage) × HasMade e old next × HaveMade next es new

-- so they did since an image was shared
abbrev pub HaveMadeOf : List ℕ → List Entry → Stage → Type 0
HaveMadeOf base journal new = HaveMade (stage base []) journal new

-- ---- calls that write forks

-- whether the entry is an accepted call that writes a fork
abbrev pub writes_fork : Entry → Bool
writes_fork e = is_writing e.call && int_eq e.code (pos 0)

-- no entry is one
abbrev pub NoneWrites : List Entry → Type 0
NoneWrites journal = All (λ (e : Entry). writes_fork e ≡ false) journal
