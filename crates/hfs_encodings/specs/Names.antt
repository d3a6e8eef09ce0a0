-- The name that an item gets by its name outside.
use Rattle.std.specs.Prelude.{ℕ, if◌then◌else◌, List, [], ◌∷◌, map, take, codes}
use Rattle.hfs_fields.specs.Names.{is_item_name, is_name_character}
use Rattle.hfs_encodings.specs.declared.names.GivenName.{GivenName}
use Rattle.hfs_encodings.specs.declared.names.GivenName.TheVariants.{Item, Other}

-- a letter of an item name, or `_` in its place
unfoldable pub named_letter : ℕ → ℕ
named_letter letter = if is_name_character letter then letter else 95

-- an item name in the place of letters that are none: the first 31; `_` where there is no letter
unfoldable pub renamed : List ℕ → List ℕ
renamed [] = codes "_"
renamed (letter ∷ letters) = map named_letter (take 31 (letter ∷ letters))

-- the letters, where they are an item name; else the one in their place
unfoldable pub given_name : List ℕ → GivenName
given_name letters = if is_item_name letters then Item letters else Other (renamed letters)
