-- A fork that is written as it is read.
use Rattle.std.specs.Prelude.{◌≡◌, ℕ, Bool, false, List, [], ◌++◌, Option}
use Rattle.std.specs.Io.KnownBytes.{Appends}
use Rattle.hfs_source.specs.Images.{OfEach}
use Rattle.hfs_texts.specs.Writing.{AppendsFront}

-- of each of these images the writer is given these of its bytes
abbrev pub WritesOf : (List ℕ → Type 0) → Option (List ℕ) → Option (List ℕ) → (List ℕ → List ℕ) → Type 0
WritesOf Holds old new bytes = OfEach Holds (λ image. Appends old new (bytes image))

-- or a part of them, from the first on
abbrev pub WritesFrontOf : (List ℕ → Type 0) → Option (List ℕ) → Option (List ℕ) → (List ℕ → List ℕ) → Type 0
WritesFrontOf Holds old new bytes = OfEach Holds (λ image. AppendsFront old new (bytes image))

-- of what was left to read the first bytes were written, and none are left where there is no more
pub record MovesPiece (more : Bool) (old new : Option (List ℕ)) (before after : List ℕ) : Type 0 where
  pub out : List ℕ
  pub written : Appends old new out
  pub bytes : before ≡ out ++ after
  pub last : more ≡ false → after ≡ []
