-- What is in a field of the table, and how it is written.
use Rattle.std.specs.Prelude.{ℕ, Bool, true, false, List, [], codes}
use Rattle.std.specs.Fmt.{decimal}
use Rattle.json.specs.Token as json
use Rattle.hfs_texts.specs.MacRoman.{characters_text}
use Rattle.hfs_texts.specs.PlainTexts.{plain_text}
use Rattle.hfs_texts.specs.MacPaths.{mac_path, mac_path_characters}

pub data Cell : Type 0 where
  empty : Cell
  -- the names that lead to an item, from the root's down
  path : List (List ℕ) → Cell
  -- bytes that mean characters
  characters : List ℕ → Cell
  -- a text that is written as it is
  word : List ℕ → Cell
  number : ℕ → Cell
  flag : Bool → Cell

-- the text of a field
abbrev pub cell_text : Cell → List ℕ
cell_text empty = []
cell_text (path names) = mac_path names
cell_text (characters bytes) = plain_text bytes
cell_text (word text) = text
cell_text (number n) = decimal n
cell_text (flag true) = codes "yes"
cell_text (flag false) = codes "no"

-- its value in JSON, in which paths and characters hold the characters themselves
abbrev pub cell_value : Cell → json.Token
cell_value empty = json.null
cell_value (path names) = json.string (mac_path_characters names)
cell_value (characters bytes) = json.string (characters_text bytes)
cell_value (word text) = json.string text
cell_value (number n) = json.number (decimal n)
cell_value (flag b) = json.boolean b
