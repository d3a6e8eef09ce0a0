-- What was asked of the system, and what it did.
use Rattle.std.specs.Prelude.{◌≡◌, ℕ, Bool, List, ◌∷◌, ◌&&◌, Result, MatchResult}
use Rattle.std.specs.Fs.{asks_create_new, asks_write}
use Rattle.std.specs.declared.fs.options.OpenOptions.{OpenOptions}

-- that a folder is made where nothing is; a file is opened, or, if so, made where nothing is, to be written; bytes are laid after those of
-- the file that was opened last, that one gets a time, in nanoseconds since the beginning of 1970, and is let go of; what has the first path
-- gets the second; what is no folder is removed, or, for there is one, it stays; an empty folder is removed; whether anything has a path, and
-- that it has, for a folder is to be made there; a folder is opened for its names; these are read of the names of the folder that was opened
-- last, each ended by a zero byte, none at their end
pub data Asked : Type 0 where
  made_folder : List ℕ → Asked
  opened : Bool → List ℕ → Asked
  wrote : List ℕ → Asked
  timed : ℕ → Asked
  closed : Asked
  moved : List ℕ → List ℕ → Asked
  removed_file : List ℕ → Asked
  found_folder : List ℕ → Asked
  removed_folder : List ℕ → Asked
  looked : List ℕ → Bool → Asked
  listed : List ℕ → Asked
  named : List ℕ → Asked

-- this was asked, and done; or it failed: of bytes some may be laid then
pub data SystemStep : Type 0 where
  done : Asked → SystemStep
  failed : Asked → SystemStep

-- a file is made by such options, which is not there yet, and is written
abbrev pub makes_file : OpenOptions → Bool
makes_file how = asks_create_new how && asks_write how

-- this was asked, and done where the answer is Ok; the last step is first
abbrev pub Does : {T E : Type 0} → Result T E → Asked → List SystemStep → List SystemStep → Type 0
Does result asked old new = MatchResult result (λ _. new ≡ done asked ∷ old) (λ _. new ≡ failed asked ∷ old)
