-- A text that is gathered and written in pieces.
use Rattle.std.specs.Prelude.{◌≡◌, ℕ, List, ◌++◌, Option}
use Rattle.std.specs.Io.KnownBytes.{Appends}

-- of a text that is gathered and a row that follows it some bytes were written, and the others are gathered
pub record Gathers (row old_text new_text : List ℕ) (old new : Option (List ℕ)) : Type 0 where
  pub out : List ℕ
  pub written : Appends old new out
  pub rest : out ++ new_text ≡ old_text ++ row
