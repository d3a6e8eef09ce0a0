-- The list of what remains of an image.
use Rattle.std.specs.Prelude.{◌≡◌, ℕ, List, ◌++◌, Option}
use Rattle.std.specs.Io.KnownBytes.{Appends}
use Rattle.hfs_image.specs.Known.{OfKnown}
use Rattle.hfs_rescue_items.specs.Lines.{remains_text}
use Rattle.hfs_texts.specs.Writing.{AppendsFront}
use Rattle.hfs_word_rescue.specs.declared.words.RescueWords.{RescueWords}
use Rattle.hfs_word_rescue.specs.Found.{OfFound}
use Rattle.hfs_word_rescue.specs.Words.{limit_of}

-- where the image's bytes are known, and are so many, the writer is given the table of what remains of it, as these words ask for it
abbrev pub TellsRemains : Option (List ℕ) → ℕ → RescueWords → Option (List ℕ) → Option (List ℕ) → Type 0
TellsRemains known len words old new = OfKnown known len (λ image. OfFound image (limit_of words image) (λ found. Appends old new (remains_text found)))

-- or a part of it, from the beginning on
abbrev pub TellsRemainsFront : Option (List ℕ) → ℕ → RescueWords → Option (List ℕ) → Option (List ℕ) → Type 0
TellsRemainsFront known len words old new = OfKnown known len (λ image. OfFound image (limit_of words image) (λ found. AppendsFront old new (remains_text found)))

-- of a text that is gathered and a line that follows it some bytes were written, and the others are gathered
pub record Gathers (line old_text new_text : List ℕ) (old new : Option (List ℕ)) : Type 0 where
  pub out : List ℕ
  pub written : Appends old new out
  pub rest : out ++ new_text ≡ old_text ++ line
