-- Rows on their way to a writer.
use Rattle.std.specs.Prelude.{◌≡◌, ℕ, Bool, false, List, ◌++◌, Option}
use Rattle.std.specs.Io.KnownBytes.{Appends}
use Rattle.hfs_database.specs.Taken.{TakenRow}
use Rattle.hfs_texts.specs.Writing.{AppendsFront}
use Rattle.hfs_database.specs.declared.form.Form.{Form}
use Rattle.hfs_database.specs.declared.keys.Keys.{Keys}
use Rattle.hfs_database.specs.Keys.{keys_behind, no_keys}
use Rattle.hfs_database.specs.RowTexts.{rows_text}

-- since a writer had the first of these bytes it was given a beginning of the rows' text, and has the second; unless there was a fault, this
-- text is the rest, and the keys are those of the rows
pub record IsUnderWay (start now : Option (List ℕ)) (text : List ℕ) (form : Form) (keys : Keys) (rows : List TakenRow) (failed : Bool) : Type 0 where
  pub front : List ℕ
  pub rest : List ℕ
  pub all_is : front ++ rest ≡ rows_text form no_keys rows
  pub written : Appends start now front
  pub waits : failed ≡ false → rest ≡ text
  pub known : failed ≡ false → keys ≡ keys_behind no_keys rows

-- known bytes grow by a part of these, from the first on
abbrev pub WritesFront : Option (List ℕ) → Option (List ℕ) → List ℕ → Type 0
WritesFront old new bytes = ∥ AppendsFront old new bytes ∥₁

-- a first part of a text went out, and the rest of it is left
pub record Moves (old new : Option (List ℕ)) (text left : List ℕ) : Type 0 where
  pub piece : List ℕ
  pub text_is : text ≡ piece ++ left
  pub written : Appends old new piece

-- a first part of a text was written, and the rest of it was followed by a line
pub record PutsLine (old new : Option (List ℕ)) (text left line : List ℕ) : Type 0 where
  pub piece : List ℕ
  pub kept : List ℕ
  pub text_is : text ≡ piece ++ kept
  pub written : Appends old new piece
  pub left_is : left ≡ kept ++ line
